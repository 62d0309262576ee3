use Rattle.norbank.specs.Words.{Show}
use Rattle.norbank.proofs.Doing.{does_given, shows, unshown}
use Rattle.norbank.proofs.show.show.Goals as goal

pub show_loaded-requires-clause-powered : goal.show_loaded-requires-clause-powered
show_loaded-requires-clause-powered g c =
    let fresh = c.in_ok-loaded.ensures.opened.is_bank.fresh in
    record { power = fresh.power; armed = fresh.armed }

pub returns-in_err-loaded-clause-does : goal.returns-in_err-loaded-clause-does
returns-in_err-loaded-clause-does g c =
    let was = g.H.Shelf.state c.args.shelf.now in
    let now = g.H.Shelf.state c.open.new.shelf in
    let out = g.K.Sink.state c.args.out.now in
    let stop = c.in_err-loaded.field-0.0 in
    does_given (Show c.args.image.now) was now out out c.from_residual.result stop c.from_residual.ensures.1
    (unshown c.args.image.now was now out stop c.open.ensures.same c.in_err-loaded.ensures.stops)

pub returns-clause-does : goal.returns-clause-does
returns-clause-does g c =
    let opened = c.in_ok-loaded.ensures.opened in
    shows c.args.image.now (g.H.Shelf.state c.args.shelf.now) (g.H.Shelf.state c.open.new.shelf)
    (g.K.Sink.state c.args.out.now) (g.K.Sink.state c.show_loaded.new.out) c.show_loaded.result c.in_ok-loaded.loaded
    c.open.ensures.same opened c.show_loaded.ensures.shows
