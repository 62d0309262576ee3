use Rattle.std.proofs.Common.{◌≡◌, ℕ, length, replicate, ap, arith}
use Rattle.nor_array.specs.Array.{ArrayState}
use Rattle.nor_array.specs.Consts.{state_of}
use Rattle.std.proofs.lemmas.List.{length-replicate}
use Rattle.nor_array.proofs.Puts.{AreBytes-ones}
use Rattle.nor_array.proofs.Arrays.{stored_put}
use Rattle.nor_array.proofs.change.put_ones.Goals as goal

pub invariant_of-array : goal.invariant_of-array
invariant_of-array c =
    let a = c.array.inside in
    let seen : length c.array.inside.bytes.items ≡ length c.args.array.now.bytes = ap (λ (s : ArrayState). length s.bytes) c.array.view_is in
    let same : length c.deref_mut.result.now ≡ length c.array.inside.bytes.items = ap length c.deref_mut.ensures.value in
    stored_put (state_of a.consts a.bytes.items a.locks.items a.under a.power a.armed) a.bytes.len c.deref_mut.result.now c.put_ones.new.bytes c.args.at (replicate c.args.len 0xFF)
    c.array.invariant c.deref_mut.ensures.value c.deref_mut.ensures.len c.put_ones.ensures (omega (arith, length-replicate {A = ℕ} c.args.len 0xFF)) (AreBytes-ones c.args.len)
