use Rattle.std.proofs.Common.{◌≡◌, ◌==◌, true, arith}
use Rattle.nor_race.proofs.Blank.{tasks_more}
use Rattle.nor_race.proofs.making.blank_tasks.Goals as goal

pub loop-i-preserved : goal.loop-i-preserved
loop-i-preserved c =
    let test : (c.index-lines-i.result.caller == c.args.number) ≡ true = let h = c.if-line-number.false in grind (arith, h) in
    tasks_more c.args.lines.now c.args.number c.loop-i.i c.index-lines-i.result c.loop-i.tasks.items c.push.new.self.items c.in_ok-task.task c.requires.script c.requires.number c.loop-i.invariant c.loop-i-test.true
    c.index-lines-i.is test c.in_ok-task.ensures.line.0 c.in_ok-task.ensures.line.1 c.in_ok-task.ensures.room c.in_ok-push.ensures.items
