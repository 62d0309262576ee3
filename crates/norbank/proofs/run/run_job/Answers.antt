use Rattle.std.proofs.Common.{inl, inr, refl, false, true, ◌≡◌, subst, List, Result, Ok, Err, IfOk}
use Rattle.nor_image.specs.Loaded.{bus_of, loaded_width}
use Rattle.nor_run.specs.Causes.{MayHalt}
use Rattle.nor_run.specs.Scripts.{ReportsImage}
use Rattle.nor_run.specs.declared.error.RunError.{RunError}
use Rattle.nor_run.specs.declared.lines.Ran.{Ran}
use Rattle.nor_script.specs.declared.line.Line.{Line}
use Rattle.norbank.specs.Endings.{run_failure}
use Rattle.norbank.proofs.Stopping.{stopped_by}
use Rattle.norbank.proofs.run.run_job.Goals as goal

pub returns-in_err-ran-clause-runs : goal.returns-in_err-ran-clause-runs
returns-in_err-ran-clause-runs g c =
    let before = g.K.Sink.state c.args.out.now in
    let after = g.K.Sink.state c.reported.new.out in
    let width = loaded_width c.args.loaded in
    let bus = bus_of c.args.loaded in
    let error = c.in_err-ran.field-0.0 in
    inr (record {
      error = error;
      saved = c.run_image-ran.new.file;
      is = stopped_by c.from_residual.result (run_failure error) c.from_residual.ensures.1;
      ends = c.in_err-ran.ensures.ends false width bus.lanes before c.run_image-ran.ensures.later c.run_image-ran.ensures.ends;
      reports = subst (λ (ls : List Line). ReportsImage false width ls bus before after c.run_image-ran.new.file (Err error)) c.lines.ensures
          (c.in_err-ran.ensures.reports false width c.lines.result.now bus before c.run_image-ran.new.file c.run_image-ran.ensures.reports);
      kept = refl;
    })

pub returns-clause-runs : goal.returns-clause-runs
returns-clause-runs g c =
    let before = g.K.Sink.state c.args.out.now in
    let after = g.K.Sink.state c.reported.new.out in
    let width = loaded_width c.args.loaded in
    let bus = bus_of c.args.loaded in
    inl (record {
      ran = c.in_ok-ran.ran;
      saved = c.run_image-ran.new.file;
      ends = c.in_ok-ran.ensures.ends false width bus.lanes before c.run_image-ran.ensures.later c.run_image-ran.ensures.ends;
      reports = subst (λ (ls : List Line). ReportsImage false width ls bus before after c.run_image-ran.new.file (Ok c.in_ok-ran.ran)) c.lines.ensures
          (c.in_ok-ran.ensures.reports false width c.lines.result.now bus before c.run_image-ran.new.file c.run_image-ran.ensures.reports);
      caused = λ letters. subst (λ (r : Result Ran RunError). IfOk r (λ ran. ran.halted ≡ true → MayHalt c.args.script.now bus.lanes)) c.in_ok-ran.ensures.same
          (subst (λ (ls : List Line). IfOk c.run_image-ran.result (λ ran. ran.halted ≡ true → MayHalt ls bus.lanes)) c.lines.ensures (c.run_image-ran.ensures.caused letters));
      saves = c.save.ensures.saved;
    })
