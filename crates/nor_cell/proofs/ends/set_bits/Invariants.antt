use Rattle.std.proofs.Common.{◌≡◌, slice_index, bit_or}
use Rattle.nor_cell.specs.Bits.{ChangesWithin}
use Rattle.nor_cell.proofs.ends.set_bits.Given as goal

abbrev pub invariant-loop-p : goal.invariant-loop-p
invariant-loop-p l = ChangesWithin l.fn.span.from l.p (λ p x. x ≡ bit_or (slice_index l.initial.cells p) l.mask) l.initial.cells l.cells
