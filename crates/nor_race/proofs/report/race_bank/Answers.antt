use Rattle.std.proofs.Common.{true, sym}
use Rattle.nor_run.proofs.Reporting.{reports, ends_run, keeps_lanes}
use Rattle.nor_race.proofs.report.race_bank.Goals as goal

pub race_and_put-bank-requires-clause-fresh : goal.race_and_put-bank-requires-clause-fresh
race_and_put-bank-requires-clause-fresh g c = λ κs lives. (c.in-Ok.ensures.started.running, c.in-Ok.ensures.started.closed)

pub returns-in-Ok-clause-ends : goal.returns-in-Ok-clause-ends
returns-in-Ok-clause-ends g c =
    let before = g.K.Sink.state c.args.out.now in
    let last = g.K.Sink.state c.put_end-ran.new.out in
    ends_run true g.W.BusWord.WIDTH c.args.bank c.in-Ok.bank before last c.put_end-ran.result c.in-Ok.ensures.started
    (c.put_end-ran.ensures.ends true before c.race_and_put-bank.ensures.later c.race_and_put-bank.ensures.ends)

pub returns-in-Ok-clause-reports : goal.returns-in-Ok-clause-reports
returns-in-Ok-clause-reports g c =
    let before = g.K.Sink.state c.args.out.now in
    let lines = c.args.script.now in
    let last = g.K.Sink.state c.put_end-ran.new.out in
    reports true g.W.BusWord.WIDTH c.args.bank lines c.in-Ok.bank c.race_and_put-bank.result.0 c.stop.result before last c.put_end-ran.result c.in-Ok.ensures.started c.stop.ensures c.race_and_put-bank.ensures.keeps
    (c.put_end-ran.ensures.reports true lines c.in-Ok.bank c.race_and_put-bank.result.0 before (sym c.bus.ensures) c.race_and_put-bank.ensures.runs)

pub returns-in-Ok-clause-lanes : goal.returns-in-Ok-clause-lanes
returns-in-Ok-clause-lanes g c =
    keeps_lanes c.args.bank c.stop.result g.W.BusWord.WIDTH c.in-Ok.bank c.race_and_put-bank.result.0 c.in-Ok.ensures.started c.race_and_put-bank.ensures.keeps c.stop.ensures
