use Rattle.std.proofs.Common.{true}
use Rattle.nor_run.proofs.Growing.{put_ends, put_later}
use Rattle.nor_race.proofs.Printing.{raced_runs}
use Rattle.nor_race.proofs.report.race_and_put.Goals as goal

pub returns-in-Ok-clause-runs : goal.returns-in-Ok-clause-runs
returns-in-Ok-clause-runs g c =
    raced_runs g.K.Sink.state c.args.script.now c.lines.result.now c.args.bank c.in-Ok.raced.bank c.in-Ok.raced.notes
    c.args.out.now c.hand_notes-ran.new.taker
    c.hand_notes-ran.result c.of_put.result c.lines.ensures c.requires.script c.in-Ok.ensures.raced c.of_put.ensures c.hand_notes-ran.ensures.whole c.hand_notes-ran.ensures.part

pub returns-in-Ok-clause-ends : goal.returns-in-Ok-clause-ends
returns-in-Ok-clause-ends g c =
    let runs = raced_runs g.K.Sink.state c.args.script.now c.lines.result.now c.args.bank c.in-Ok.raced.bank c.in-Ok.raced.notes
    c.args.out.now c.hand_notes-ran.new.taker
    c.hand_notes-ran.result c.of_put.result c.lines.ensures c.requires.script c.in-Ok.ensures.raced c.of_put.ensures c.hand_notes-ran.ensures.whole c.hand_notes-ran.ensures.part in
    put_ends true c.args.script.now c.args.bank c.in-Ok.raced.bank (g.K.Sink.state c.args.out.now) (g.K.Sink.state c.hand_notes-ran.new.taker)
    c.hand_notes-ran.result c.of_put.result c.of_put.ensures runs

pub returns-in-Ok-clause-later : goal.returns-in-Ok-clause-later
returns-in-Ok-clause-later g c =
    let runs = raced_runs g.K.Sink.state c.args.script.now c.lines.result.now c.args.bank c.in-Ok.raced.bank c.in-Ok.raced.notes
    c.args.out.now c.hand_notes-ran.new.taker
    c.hand_notes-ran.result c.of_put.result c.lines.ensures c.requires.script c.in-Ok.ensures.raced c.of_put.ensures c.hand_notes-ran.ensures.whole c.hand_notes-ran.ensures.part in
    put_later true c.args.script.now c.args.bank c.in-Ok.raced.bank (g.K.Sink.state c.args.out.now) (g.K.Sink.state c.hand_notes-ran.new.taker)
    c.hand_notes-ran.result c.of_put.result c.of_put.ensures runs
