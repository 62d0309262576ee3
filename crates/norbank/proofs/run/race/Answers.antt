use Rattle.std.proofs.Common.{true, refl}
use Rattle.norbank.specs.Words.{Script}
use Rattle.norbank.proofs.Doing.{does_given, no_job, job_does}
use Rattle.norbank.proofs.run.race.Goals as goal

pub race_job-requires-clause-script : goal.race_job-requires-clause-script
race_job-requires-clause-script g c = λ κs lives. c.in_ok-job.ensures.ready.raced refl

pub returns-in_err-job-clause-does : goal.returns-in_err-job-clause-does
returns-in_err-job-clause-does g c =
    let was = g.H.Shelf.state c.args.shelf.now in
    let now = g.H.Shelf.state c.job_of.new.shelf in
    let out = g.K.Sink.state c.args.out.now in
    let stop = c.in_err-job.field-0.0 in
    does_given (Script true c.args.image.now c.args.script.now) was now out out c.from_residual.result stop c.from_residual.ensures.1
    (no_job true c.args.image.now c.args.script.now was now out stop c.job_of.ensures.same c.in_err-job.ensures.stops)

pub returns-clause-does : goal.returns-clause-does
returns-clause-does g c =
    job_does true c.args.image.now c.args.script.now (g.H.Shelf.state c.args.shelf.now) c.in_ok-job.job c.in_ok-job.ensures.ready
    (g.H.Shelf.state c.job_of.new.shelf) (g.H.Shelf.state c.race_job.new.shelf) (g.K.Sink.state c.args.out.now) (g.K.Sink.state c.race_job.new.out) c.race_job.result
    c.job_of.ensures.same c.job_of.ensures.later c.race_job.ensures.runs
