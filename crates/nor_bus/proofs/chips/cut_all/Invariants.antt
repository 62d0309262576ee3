use Rattle.std.proofs.Common.{map}
use Rattle.nor_bus.specs.Chips.{ChangedTo, CutsKept}
use Rattle.nor_bus.proofs.chips.cut_all.Given as goal

abbrev pub invariant-loop-k : goal.invariant-loop-k
invariant-loop-k g l = ChangedTo l.k (CutsKept (g.C.Chip.leaves l.mask)) (map g.C.Chip.state l.fn.chips.items) (map g.C.Chip.state l.chips.items)
