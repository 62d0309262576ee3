use Rattle.std.proofs.Common.{false, sym, arith}
use Rattle.nor_run.proofs.Growing.{put_runs, put_ends, put_later}
use Rattle.nor_run.proofs.Reporting.{reports, ends_run, keeps_lanes}
use Rattle.nor_run.proofs.bank.run_bank.Goals as goal

pub returns-in-Ok-clause-ends : goal.returns-in-Ok-clause-ends
returns-in-Ok-clause-ends g c =
    let before = g.K.Sink.state c.args.out.now in
    let lines = c.args.lines.now in
    let mid = g.K.Sink.state c.run_lines.new.taker in
    let last = g.K.Sink.state c.put_end-ran.new.out in
    let runs = put_runs g.K.Sink.state false lines c.in-Ok.bank c.run_lines.new.bank c.args.out.now c.run_lines.new.taker c.run_lines.result c.of_put-ran.result c.of_put-ran.ensures c.run_lines.ensures.ran c.run_lines.ensures.stopped in
    ends_run false g.W.BusWord.WIDTH c.args.bank c.in-Ok.bank before last c.put_end-ran.result c.in-Ok.ensures.started
    (c.put_end-ran.ensures.ends false before (put_later false lines c.in-Ok.bank c.run_lines.new.bank before mid c.run_lines.result c.of_put-ran.result c.of_put-ran.ensures runs)
    (put_ends false lines c.in-Ok.bank c.run_lines.new.bank before mid c.run_lines.result c.of_put-ran.result c.of_put-ran.ensures runs))

pub returns-in-Ok-clause-reports : goal.returns-in-Ok-clause-reports
returns-in-Ok-clause-reports g c =
    let before = g.K.Sink.state c.args.out.now in
    let lines = c.args.lines.now in
    let last = g.K.Sink.state c.put_end-ran.new.out in
    reports false g.W.BusWord.WIDTH c.args.bank lines c.in-Ok.bank c.run_lines.new.bank c.stop.result before last c.put_end-ran.result c.in-Ok.ensures.started c.stop.ensures c.run_lines.ensures.keeps
    (c.put_end-ran.ensures.reports false lines c.in-Ok.bank c.run_lines.new.bank before (sym c.bus.ensures)
    (put_runs g.K.Sink.state false lines c.in-Ok.bank c.run_lines.new.bank c.args.out.now c.run_lines.new.taker c.run_lines.result c.of_put-ran.result c.of_put-ran.ensures c.run_lines.ensures.ran c.run_lines.ensures.stopped))

pub returns-in-Ok-clause-lanes : goal.returns-in-Ok-clause-lanes
returns-in-Ok-clause-lanes g c =
    keeps_lanes c.args.bank c.stop.result g.W.BusWord.WIDTH c.in-Ok.bank c.run_lines.new.bank c.in-Ok.ensures.started c.run_lines.ensures.keeps c.stop.ensures

pub returns-in-Ok-clause-later : goal.returns-in-Ok-clause-later
returns-in-Ok-clause-later g c =
    let before = g.K.Sink.state c.args.out.now in
    let lines = c.args.lines.now in
    let mid = g.K.Sink.state c.run_lines.new.taker in
    let runs = put_runs g.K.Sink.state false lines c.in-Ok.bank c.run_lines.new.bank c.args.out.now c.run_lines.new.taker c.run_lines.result c.of_put-ran.result c.of_put-ran.ensures c.run_lines.ensures.ran c.run_lines.ensures.stopped in
    let first = put_later false lines c.in-Ok.bank c.run_lines.new.bank before mid c.run_lines.result c.of_put-ran.result c.of_put-ran.ensures runs in
    omega (arith, first, c.put_end-ran.ensures.later)
