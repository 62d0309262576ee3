use Rattle.std.proofs.Common.{length, arith}
use Rattle.nor_race.proofs.Putting.{put_more, task_within, close_within, call_within}
use Rattle.nor_race.proofs.placing.put.Goals as goal

pub put_close-requires : goal.put_close-requires
put_close-requires c =
    let so = c.loop-task.invariant in
    record {
      within = close_within c.in-Some.task (length c.loop-task.table.items)
          (task_within c.args.tasks.items c.loop-task.tasks.items c.pop.new.self.items c.args.table.now.items c.loop-task.table.items c.in-Some.task so c.in-Some.ensures.items c.requires.within);
    }

pub index_mut-requires : goal.index_mut-requires
index_mut-requires c =
    let h = call_within c.in-Some.task (length c.loop-task.table.items) (length c.put_close.new.table.items)
    (task_within c.args.tasks.items c.loop-task.tasks.items c.pop.new.self.items c.args.table.now.items c.loop-task.table.items c.in-Some.task c.loop-task.invariant c.in-Some.ensures.items c.requires.within)
    c.put_close.ensures.placed.size in
    let k = c.put_close.new.table.ok in
    omega (arith, h, k)

pub loop-task-preserved : goal.loop-task-preserved
loop-task-preserved c =
    put_more c.args.tasks.items c.loop-task.tasks.items c.pop.new.self.items c.args.table.now.items c.loop-task.table.items c.put_close.new.table.items c.in-Some.task c.loop-task.invariant
    c.in-Some.ensures.items c.put_close.ensures.placed
    (call_within c.in-Some.task (length c.loop-task.table.items) (length c.put_close.new.table.items)
    (task_within c.args.tasks.items c.loop-task.tasks.items c.pop.new.self.items c.args.table.now.items c.loop-task.table.items c.in-Some.task c.loop-task.invariant c.in-Some.ensures.items c.requires.within)
    c.put_close.ensures.placed.size)
