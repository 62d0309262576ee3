use Rattle.std.proofs.Common.{◌≡◌, ◌+◌, ◌-◌, ℕ, arith, subst, sym, length, slice_index, bit_and, bit_or}
use Rattle.nor_cell.specs.Bits.{IsBetween, ChangesWithin}
use Rattle.nor_cell.proofs.Changing.{changes_weaken, partly_between}
use Rattle.nor_cell.proofs.ends.store_partly.Goals as goal

pub returns-clause-between : goal.returns-clause-between
returns-clause-between c =
    let at = c.args.at in
    let old = c.args.cells.now in
    let bytes = c.args.bytes.now in
    let done : c.loop-i.i ≡ length bytes = omega arith in
    changes_weaken at (at + length bytes) _ _ old c.loop-i.cells
    (λ p x e. subst (IsBetween (slice_index old p) (slice_index bytes (p - at))) (sym e) (partly_between (slice_index old p) (slice_index bytes (p - at)) c.args.mask))
    (subst (λ (n : ℕ). ChangesWithin at (at + n) (λ p x. x ≡ bit_and (slice_index old p) (bit_or (slice_index bytes (p - at)) c.args.mask)) old c.loop-i.cells) done c.loop-i.invariant)
