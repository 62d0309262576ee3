use Rattle.nor_image.specs.Reading.{kept_of_each}
use Rattle.nor_image.proofs.Agreeing.{AreLocks}
use Rattle.nor_image.proofs.locks.read_each.Given as goal

abbrev pub invariant-loop-k : goal.invariant-loop-k
invariant-loop-k l = AreLocks l.file (kept_of_each l.set l.before) l.at l.count l.k l.locks.items
