use Rattle.std.proofs.Common.{rules, ◌≡◌, ◌+◌, true, take}
use Rattle.nor_image.specs.Image.{is_agreed}
use Rattle.nor_image.specs.Reading.{kept_of_each}
use Rattle.nor_image.proofs.CellLocks.{disagrees, agrees_more, differs_more}
use Rattle.nor_image.proofs.locks.is_agreed.Goals as goal
use Rattle.nor_image.proofs.locks.is_agreed.Goals.{else-locks-count-via-then-locks-count+else-locks-k, else-locks-count-via-else-locks-count}

pub returns-then-locks-k : goal.returns-then-locks-k
returns-then-locks-k c =
    let differs = disagrees c.args.set c.args.before.now c.loop-cells.cells-index c.args.count c.args.k c.args.locked c.cells-item.result c.kept_locks-locks.result.now
    c.loop-cells-test.true c.cells-item.is c.kept_locks-locks.ensures in
    search (rules, differs)

pub loop-cells-preserved : goal.loop-cells-preserved
loop-cells-preserved c =
    let done : is_agreed (kept_of_each c.args.set (take (c.loop-cells.cells-index + 1) c.args.before.now)) c.args.count c.args.k c.args.locked ≡ true =
    elim c.else-locks-count.branch [
      | else-locks-count-via-then-locks-count+else-locks-k w ↦
          let more = agrees_more c.args.set c.args.before.now c.loop-cells.cells-index c.args.count c.args.k c.args.locked c.cells-item.result c.kept_locks-locks.result.now
          c.loop-cells-test.true c.cells-item.is c.kept_locks-locks.ensures c.loop-cells.invariant in
          search (rules, more)
      | else-locks-count-via-else-locks-count w ↦
          let more = differs_more c.args.set c.args.before.now c.loop-cells.cells-index c.args.count c.args.k c.args.locked c.cells-item.result c.kept_locks-locks.result.now
          c.loop-cells-test.true c.cells-item.is c.kept_locks-locks.ensures c.loop-cells.invariant in
          search (rules, more)
    ] in
    done
