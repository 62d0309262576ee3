use Rattle.nor_cell.proofs.Logic.{if_gave}
use Rattle.norbank.specs.Opened.{FailsOpen}
use Rattle.norbank.proofs.Opening.{unloaded_open, opened_by, unopened_by}
use Rattle.norbank.proofs.open.open.Goals as goal

pub returns-in_err-file-clause-stops : goal.returns-in_err-file-clause-stops
returns-in_err-file-clause-stops g c =
    let was = g.H.Shelf.state c.args.shelf.now in
    let now = g.H.Shelf.state c.load.new.shelf in
    let stop = c.in_err-file.field-0.0 in
    if_gave c.from_residual.result stop (FailsOpen c.args.name.now was now) c.from_residual.ensures.1
    (unloaded_open c.args.name.now was now stop c.in_err-file.ensures.stops)

pub returns-clause-opened : goal.returns-clause-opened
returns-clause-opened g c =
    opened_by (g.H.Shelf.state c.args.shelf.now).files c.args.name.now c.in_ok-file.file.items c.bank_of.result c.in_ok-file.ensures.loaded c.bank_of.ensures.bank c.bank_of.ensures.idle

pub returns-clause-stops : goal.returns-clause-stops
returns-clause-stops g c =
    unopened_by c.args.name.now c.in_ok-file.file.items (g.H.Shelf.state c.args.shelf.now) (g.H.Shelf.state c.load.new.shelf) c.bank_of.result c.in_ok-file.ensures.loaded c.bank_of.ensures.stops
