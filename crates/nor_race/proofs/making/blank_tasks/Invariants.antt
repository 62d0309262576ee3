use Rattle.nor_race.proofs.Blank.{TasksTo}
use Rattle.nor_race.proofs.making.blank_tasks.Given as goal

abbrev pub invariant-loop-i : goal.invariant-loop-i
invariant-loop-i l = TasksTo l.lines l.number l.tasks.items l.i
