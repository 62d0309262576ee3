use Rattle.std.proofs.Common.{inl, inr, refl, true, ◌≡◌, subst, Result, IfOk}
use Rattle.nor_image.specs.Loaded.{bus_of, loaded_width}
use Rattle.nor_run.specs.Causes.{MayHalt}
use Rattle.nor_run.specs.declared.error.RunError.{RunError}
use Rattle.nor_run.specs.declared.lines.Ran.{Ran}
use Rattle.norbank.specs.Endings.{run_failure}
use Rattle.norbank.proofs.Stopping.{stopped_by}
use Rattle.norbank.proofs.run.race_job.Goals as goal

pub returns-in_err-ran-clause-runs : goal.returns-in_err-ran-clause-runs
returns-in_err-ran-clause-runs g c =
    let before = g.K.Sink.state c.args.out.now in
    let width = loaded_width c.args.loaded in
    let bus = bus_of c.args.loaded in
    inr (record {
      error = c.in_err-ran.field-0.0;
      saved = c.race_image-ran.new.file;
      is = stopped_by c.from_residual.result (run_failure c.in_err-ran.field-0.0) c.from_residual.ensures.1;
      ends = c.in_err-ran.ensures.ends true width bus.lanes before c.race_image-ran.ensures.later c.race_image-ran.ensures.ends;
      reports = c.in_err-ran.ensures.reports true width c.args.script.now bus before c.race_image-ran.new.file c.race_image-ran.ensures.reports;
      kept = refl;
    })

pub returns-clause-runs : goal.returns-clause-runs
returns-clause-runs g c =
    let before = g.K.Sink.state c.args.out.now in
    let width = loaded_width c.args.loaded in
    let bus = bus_of c.args.loaded in
    inl (record {
      ran = c.in_ok-ran.ran;
      saved = c.race_image-ran.new.file;
      ends = c.in_ok-ran.ensures.ends true width bus.lanes before c.race_image-ran.ensures.later c.race_image-ran.ensures.ends;
      reports = c.in_ok-ran.ensures.reports true width c.args.script.now bus before c.race_image-ran.new.file c.race_image-ran.ensures.reports;
      caused = λ letters. subst (λ (r : Result Ran RunError). IfOk r (λ ran. ran.halted ≡ true → MayHalt c.args.script.now bus.lanes)) c.in_ok-ran.ensures.same (c.race_image-ran.ensures.caused letters);
      saves = c.save.ensures.saved;
    })
