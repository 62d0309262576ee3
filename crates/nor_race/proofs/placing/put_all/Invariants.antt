use Rattle.std.proofs.Common.{vec_len}
use Rattle.nor_race.proofs.Putting.{PutAllTo}
use Rattle.nor_race.proofs.placing.put_all.Given as goal

abbrev pub invariant-loop-racer : goal.invariant-loop-racer
invariant-loop-racer g l = PutAllTo l.fn.racers.items l.racers.items l.fn.table.items l.table.items

abbrev pub decreases-loop-racer : goal.decreases-loop-racer
decreases-loop-racer g l = vec_len l.racers
