use Rattle.std.proofs.Common.{◌∙◌, Ok, Err}
use Rattle.nor_image.specs.Loaded.{bus_of}
use Rattle.nor_drill.proofs.Runs.{summarizes, drills_part}
use Rattle.nor_drill.proofs.drilling.drill.Goals as goal

pub returns-in_err-put_summary-clause-drills : goal.returns-in_err-put_summary-clause-drills
returns-in_err-put_summary-clause-drills g c =
    let before = g.K.Sink.state c.args.out.now in
    let after = g.K.Sink.state c.put_summary.new.out in
    let error = c.in_err-put_summary.field-0.0 in
    let bank = c.in_ok-loaded.ensures in
    drills_part c.args.n before after c.from_residual-in_err-put_summary.result error c.from_residual-in_err-put_summary.ensures.1
    (summarizes c.args.n _ c.deref.result.now (bus_of c.in_ok-loaded.loaded) c.drill_loaded-drilled.result before after (Err error)
    bank.width (c.deref.ensures.value ∙ c.in_ok-lines.ensures.lines) bank.chips bank.letters c.drill_loaded-drilled.ensures c.in_err-put_summary.ensures.puts)

pub returns-clause-drills : goal.returns-clause-drills
returns-clause-drills g c =
    let bank = c.in_ok-loaded.ensures in
    summarizes c.args.n _ c.deref.result.now (bus_of c.in_ok-loaded.loaded) c.drill_loaded-drilled.result
    (g.K.Sink.state c.args.out.now) (g.K.Sink.state c.put_summary.new.out) (Ok tt)
    bank.width (c.deref.ensures.value ∙ c.in_ok-lines.ensures.lines) bank.chips bank.letters c.drill_loaded-drilled.ensures c.in_ok-put_summary.ensures.puts
