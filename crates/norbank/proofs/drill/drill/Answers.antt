use Rattle.std.proofs.Common.{Ok, refl}
use Rattle.norbank.specs.Endings.{drill_failure}
use Rattle.norbank.proofs.Doing.{drill_put, drill_fails}
use Rattle.norbank.proofs.Stopping.{stopped_by}
use Rattle.norbank.proofs.drill.drill.Goals as goal

pub returns-in_err-drill-clause-does : goal.returns-in_err-drill-clause-does
returns-in_err-drill-clause-does g c = λ shelf.
    let error = c.in_err-drill.field-0.0 in
    drill_fails c.args.n shelf (g.K.Sink.state c.args.out.now) (g.K.Sink.state c.drill.new.out) c.from_residual.result error
    (stopped_by c.from_residual.result (drill_failure error) c.from_residual.ensures.1) c.in_err-drill.ensures.drills

pub returns-clause-does : goal.returns-clause-does
returns-clause-does g c = λ shelf.
    drill_put c.args.n shelf (g.K.Sink.state c.args.out.now) (g.K.Sink.state c.drill.new.out) _ (Ok tt) refl c.in_ok-drill.ensures.drills
