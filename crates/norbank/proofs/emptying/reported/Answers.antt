use Rattle.std.proofs.Common.{Result, subst}
use Rattle.nor_run.specs.Scripts.{ReportsImage}
use Rattle.nor_run.specs.declared.error.RunError.{RunError}
use Rattle.nor_run.specs.declared.lines.Ran.{Ran}
use Rattle.norbank.proofs.Flushing.{report_kept, report_out}
use Rattle.norbank.proofs.emptying.reported.Goals as goal

pub returns-in-Ok-flush-clause-reports : goal.returns-in-Ok-flush-clause-reports
returns-in-Ok-flush-clause-reports g c = λ race width lines bus before file reports.
    let mid = g.K.Sink.state c.args.out.now in
    report_out race width lines bus before mid (g.K.Sink.state c.flush.new.self) c.in-Ok.ran file c.in-Ok-flush.ensures.puts
    (subst (λ (r : Result Ran RunError). ReportsImage race width lines bus before mid file r) c.in-Ok.is reports)

pub returns-in-Err-flush-clause-reports : goal.returns-in-Err-flush-clause-reports
returns-in-Err-flush-clause-reports g c = λ race width lines bus before file reports.
    let mid = g.K.Sink.state c.args.out.now in
    report_kept race width lines bus before mid (g.K.Sink.state c.flush.new.self) c.in-Ok.ran file c.in-Err-flush.error c.in-Err-flush.ensures.puts
    (subst (λ (r : Result Ran RunError). ReportsImage race width lines bus before mid file r) c.in-Ok.is reports)
