use Rattle.std.proofs.Common.{Result, subst}
use Rattle.nor_script.specs.Report.{totals_text}
use Rattle.nor_run.specs.Running.{RunsLines, EndsLines, counters_of}
use Rattle.nor_run.specs.declared.error.RunError.{RunError}
use Rattle.nor_run.specs.declared.lines.Ran.{Ran}
use Rattle.nor_run.proofs.Reporting.{end_whole, end_part, end_fails, reports_failed}
use Rattle.nor_run.proofs.bank.put_end.Goals as goal

pub returns-in-Ok-put_counters-clause-reports : goal.returns-in-Ok-put_counters-clause-reports
returns-in-Ok-put_counters-clause-reports g c = λ race lines old new before same runs.
    end_whole race lines old new c.args.bank.now before (g.K.Sink.state c.args.out.now) (g.K.Sink.state c.put_counters.new.out)
    c.args.ran c.in-Ok.ran c.in-Ok.is same runs c.in-Ok-put_counters.ensures.puts

pub returns-in-Err-put_counters-clause-reports : goal.returns-in-Err-put_counters-clause-reports
returns-in-Err-put_counters-clause-reports g c = λ race lines old new before same runs.
    end_part race lines old new c.args.bank.now before (g.K.Sink.state c.args.out.now) (g.K.Sink.state c.put_counters.new.out)
    c.args.ran c.in-Ok.ran c.in-Err-put_counters.error c.in-Ok.is same runs c.in-Err-put_counters.ensures.puts

pub returns-in-Err-put_counters-clause-ends : goal.returns-in-Err-put_counters-clause-ends
returns-in-Err-put_counters-clause-ends g c = λ race before le ends.
    end_fails race (totals_text (counters_of c.args.bank.now.lanes) c.in-Ok.ran.entries) before (g.K.Sink.state c.args.out.now) (g.K.Sink.state c.put_counters.new.out)
    c.in-Err-put_counters.error le c.in-Err-put_counters.ensures.puts

pub returns-in-Err-clause-reports : goal.returns-in-Err-clause-reports
returns-in-Err-clause-reports g c = λ race lines old new before same runs.
    reports_failed race lines old new before (g.K.Sink.state c.args.out.now) c.in-Err.error
    (subst (λ (r : Result Ran RunError). RunsLines race lines old new before (g.K.Sink.state c.args.out.now) r) c.in-Err.is runs)

pub returns-in-Err-clause-ends : goal.returns-in-Err-clause-ends
returns-in-Err-clause-ends g c = λ race before le ends.
    subst (λ (r : Result Ran RunError). EndsLines race before (g.K.Sink.state c.args.out.now) r) c.in-Err.is ends
