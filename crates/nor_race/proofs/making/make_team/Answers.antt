use Rattle.std.proofs.Common.{rules, ◌≡◌, ◌+◌, length, None, refl, arith}
use Rattle.nor_race.proofs.Blank.{team_skip, team_more, all_start, is_team}
use Rattle.nor_race.proofs.making.make_team.Goals as goal

pub loop-i-preserved : goal.loop-i-preserved
loop-i-preserved g c =
    let made = c.in_ok-tasks.ensures in
    team_more c.args.lines.now c.loop-i.racers.items c.push.new.self.items c.loop-i.i (record { number = c.loop-i.i + 1; caller = None; tasks = c.in_ok-tasks.tasks }) c.loop-i.invariant c.loop-i-test.true
    c.in_ok-push.ensures.items refl refl made.for_caller made.few

pub returns-clause-each : goal.returns-clause-each
returns-clause-each g c = all_start c.args.lines.now c.loop-i.racers.items c.loop-i.i c.loop-i.invariant

pub returns-clause-team : goal.returns-clause-team
returns-clause-team g c =
    is_team c.args.lines.now c.loop-i.racers.items c.loop-i.i c.requires.script c.loop-i.invariant (let a = c.loop-i.auto.i-end in let b = c.loop-i-test.false in omega (arith, a, b))

pub loop-i-preserved-then-is_empty : goal.loop-i-preserved-then-is_empty
loop-i-preserved-then-is_empty g c =
    let none : length c.in_ok-tasks.tasks.items ≡ 0 = search rules in
    team_skip c.args.lines.now c.loop-i.racers.items c.loop-i.i c.in_ok-tasks.tasks.items c.loop-i.invariant c.in_ok-tasks.ensures.for_caller none
