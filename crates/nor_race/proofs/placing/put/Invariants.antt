use Rattle.std.proofs.Common.{vec_len}
use Rattle.nor_race.proofs.Putting.{PutTo}
use Rattle.nor_race.proofs.placing.put.Given as goal

abbrev pub invariant-loop-task : goal.invariant-loop-task
invariant-loop-task l = PutTo l.fn.tasks.items l.tasks.items l.fn.table.items l.table.items

abbrev pub decreases-loop-task : goal.decreases-loop-task
decreases-loop-task l = vec_len l.tasks
