use Rattle.nor_bank.specs.Erases.{AreTorn}
use Rattle.nor_bank.proofs.erasing.broken_bits.Given as goal

abbrev pub invariant-loop-lane : goal.invariant-loop-lane
invariant-loop-lane l = AreTorn l.lane l.lanes l.bits
