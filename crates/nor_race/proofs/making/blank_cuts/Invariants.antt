use Rattle.nor_race.proofs.Blank.{CutsTo}
use Rattle.nor_race.proofs.making.blank_cuts.Given as goal

abbrev pub invariant-loop-i : goal.invariant-loop-i
invariant-loop-i l = CutsTo l.lines l.cuts.items l.i
