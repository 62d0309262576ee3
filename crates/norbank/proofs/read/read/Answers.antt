use Rattle.nor_image.specs.Image.{device_of}
use Rattle.norbank.specs.Words.{Read}
use Rattle.norbank.proofs.Doing.{does_given, reads, unread}
use Rattle.norbank.proofs.read.read.Goals as goal

pub read_loaded-requires-clause-powered : goal.read_loaded-requires-clause-powered
read_loaded-requires-clause-powered g c =
    let fresh = c.in_ok-loaded.ensures.opened.is_bank.fresh in
    record { power = fresh.power; armed = fresh.armed }

pub returns-in_err-loaded-clause-does : goal.returns-in_err-loaded-clause-does
returns-in_err-loaded-clause-does g c =
    let was = g.H.Shelf.state c.args.shelf.now in
    let now = g.H.Shelf.state c.open.new.shelf in
    let out = g.K.Sink.state c.args.out.now in
    let stop = c.in_err-loaded.field-0.0 in
    does_given (Read c.args.image.now c.args.at c.args.len) was now out out c.from_residual.result stop c.from_residual.ensures.1
    (unread c.args.image.now c.args.at c.args.len was now out stop c.open.ensures.same c.in_err-loaded.ensures.stops)

pub returns-clause-does : goal.returns-clause-does
returns-clause-does g c =
    let opened = c.in_ok-loaded.ensures.opened in
    reads c.args.image.now c.args.at c.args.len (g.H.Shelf.state c.args.shelf.now) (g.H.Shelf.state c.open.new.shelf)
    (g.K.Sink.state c.args.out.now) (g.K.Sink.state c.read_loaded.new.out) c.read_loaded.result c.in_ok-loaded.loaded
    c.open.ensures.same opened (c.read_loaded.ensures.reads (device_of opened.file) opened.is_bank.wired)
