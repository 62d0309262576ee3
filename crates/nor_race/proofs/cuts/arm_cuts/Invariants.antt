use Rattle.nor_race.proofs.Arming.{ArmedTo}
use Rattle.nor_race.proofs.cuts.arm_cuts.Given as goal

abbrev pub invariant-loop-i : goal.invariant-loop-i
invariant-loop-i g l = ArmedTo l.lines l.fn.cuts l.cuts l.fn.bank l.bank l.i
