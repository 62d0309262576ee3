use Rattle.std.proofs.Common.{◌<◌, ℕ, slice_index}
use Rattle.nor_cell.specs.Bits.{IsBetween}
use Rattle.nor_array.proofs.program.all_between.Given as goal

abbrev pub invariant-loop-k : goal.invariant-loop-k
invariant-loop-k l = (k : ℕ) → k < l.k → IsBetween (slice_index l.old k) (slice_index l.new k) (slice_index l.bytes k)
