use Rattle.std.proofs.Common.{◌≡◌, ◌+◌, ◌==◌, ◌∙◌, ℕ, List, [], drop, ap, sym, arith}
use Rattle.std.specs.Prelude.{count_by}
use Rattle.std.proofs.Math.ListN.{drop_of_length-le}
use Rattle.std.proofs.lemmas.List.Splits.{length-slice_split}
use Rattle.nor_script.proofs.field.count_fields.Goals as goal

pub returns : goal.returns
returns c =
    let done = c.loop-byte-test.false in
    let none : drop c.loop-byte.byte-index c.args.line.now ≡ [] = drop_of_length-le c.args.line.now (omega (arith, done)) in
    let zero_more : c.loop-byte.spaces ≡ c.loop-byte.spaces + 0 = omega arith in
    let left = zero_more ∙ ap (λ (xs : List ℕ). c.loop-byte.spaces + count_by (λ b. b == 0x20) xs) (sym none) in
    ap (λ (n : ℕ). n + 1) (left ∙ c.loop-byte.invariant.all) ∙ sym (length-slice_split (λ b. b == 0x20) c.args.line.now)
