use Rattle.std.proofs.Common.{ap, refl}
use Rattle.norbank.specs.Words.{asked_by}
use Rattle.norbank.proofs.Doing.{does_quietly}
use Rattle.norbank.proofs.program.obey_all.Goals as goal

pub returns-in-Read-clause-does : goal.returns-in-Read-clause-does
returns-in-Read-clause-does g c =
    does_quietly (asked_by c.args.command) _ (g.H.Shelf.state c.args.shelf.now) (g.H.Shelf.state c.obey.new.shelf)
    (g.K.Sink.state c.args.out.now) (g.K.Sink.state c.obey.new.out) c.obey.result (ap asked_by c.in-Read.is) refl c.obey.ensures.does

pub returns-in-Show-clause-does : goal.returns-in-Show-clause-does
returns-in-Show-clause-does g c =
    does_quietly (asked_by c.args.command) _ (g.H.Shelf.state c.args.shelf.now) (g.H.Shelf.state c.obey-in-Show.new.shelf)
    (g.K.Sink.state c.args.out.now) (g.K.Sink.state c.obey-in-Show.new.out) c.obey-in-Show.result (ap asked_by c.in-Show.is) refl c.obey-in-Show.ensures.does

pub returns-in-Run-clause-does : goal.returns-in-Run-clause-does
returns-in-Run-clause-does g c =
    does_quietly (asked_by c.args.command) _ (g.H.Shelf.state c.args.shelf.now) (g.H.Shelf.state c.obey-in-Run.new.shelf)
    (g.K.Sink.state c.args.out.now) (g.K.Sink.state c.obey-in-Run.new.out) c.obey-in-Run.result (ap asked_by c.in-Run.is) refl c.obey-in-Run.ensures.does

pub returns-in-Drill-clause-does : goal.returns-in-Drill-clause-does
returns-in-Drill-clause-does g c =
    does_quietly (asked_by c.args.command) _ (g.H.Shelf.state c.args.shelf.now) (g.H.Shelf.state c.obey-in-Drill.new.shelf)
    (g.K.Sink.state c.args.out.now) (g.K.Sink.state c.obey-in-Drill.new.out) c.obey-in-Drill.result (ap asked_by c.in-Drill.is) refl c.obey-in-Drill.ensures.does

pub returns-in-Unknown-clause-does : goal.returns-in-Unknown-clause-does
returns-in-Unknown-clause-does g c =
    does_quietly (asked_by c.args.command) _ (g.H.Shelf.state c.args.shelf.now) (g.H.Shelf.state c.obey-in-Unknown.new.shelf)
    (g.K.Sink.state c.args.out.now) (g.K.Sink.state c.obey-in-Unknown.new.out) c.obey-in-Unknown.result (ap asked_by c.in-Unknown.is) refl c.obey-in-Unknown.ensures.does
