use Rattle.std.proofs.Common.{◌≡◌, ◌+◌, ◌-◌, slice_index, bit_and, bit_or}
use Rattle.nor_cell.specs.Bits.{ChangesWithin}
use Rattle.nor_cell.proofs.ends.store_partly.Given as goal

abbrev pub invariant-loop-i : goal.invariant-loop-i
invariant-loop-i l = ChangesWithin l.at (l.at + l.i) (λ p x. x ≡ bit_and (slice_index l.initial.cells p) (bit_or (slice_index l.bytes (p - l.at)) l.mask)) l.initial.cells l.cells
