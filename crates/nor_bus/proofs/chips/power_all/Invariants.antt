use Rattle.std.proofs.Common.{map}
use Rattle.nor_bus.specs.Chips.{ChangedTo, PowersKept}
use Rattle.nor_bus.proofs.chips.power_all.Given as goal

abbrev pub invariant-loop-k : goal.invariant-loop-k
invariant-loop-k g l = ChangedTo l.k (PowersKept) (map g.C.Chip.state l.fn.chips.items) (map g.C.Chip.state l.chips.items)
