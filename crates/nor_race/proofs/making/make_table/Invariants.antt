use Rattle.nor_race.proofs.Blank.{TableTo}
use Rattle.nor_race.proofs.making.make_table.Given as goal

abbrev pub invariant-loop-i : goal.invariant-loop-i
invariant-loop-i g l = TableTo l.racers l.table.items l.i
