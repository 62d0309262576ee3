use Rattle.std.proofs.Common.{◌*◌, ℕ, Option, subst}
use Rattle.std.specs.Option.{IfSome}
use Rattle.nor_cell.proofs.Logic.{if_gave}
use Rattle.nor_io.specs.Files.{FileMap}
use Rattle.norimage.specs.Ends.{StopsBy, IsRawIn}
use Rattle.norimage.specs.Stops.{first_some, bank_stops, raw_stops}
use Rattle.norimage.proofs.Making.{stopped_by_table, stopped_by_changes, stopped_by_raw, made_in}
use Rattle.norimage.proofs.work.make_with.Goals as goal

pub returns-in_err-table-clause-stops : goal.returns-in_err-table-clause-stops
returns-in_err-table-clause-stops g c =
    let was = g.H.Shelf.state c.args.shelf.now in
    let now = g.H.Shelf.state c.table_named.new.shelf in
    let stop = c.in_err-table.field-0.0 in
    if_gave c.from_residual.result stop (StopsBy (λ files. first_some (bank_stops c.args.g c.args.changes.now c.args.raw.now (files c.args.table.now) (files c.args.raw.now))) was now)
    c.from_residual.ensures.1 (stopped_by_table c.args.g c.args.changes.now c.args.table.now c.args.raw.now was now stop c.in_err-table.ensures.stops)

pub returns-in_err-check_changes-clause-stops : goal.returns-in_err-check_changes-clause-stops
returns-in_err-check_changes-clause-stops g c =
    let was = g.H.Shelf.state c.args.shelf.now in
    let now = g.H.Shelf.state c.table_named.new.shelf in
    let stop = c.in_err-check_changes.field-0.0 in
    if_gave c.from_residual-in_err-check_changes.result stop
    (StopsBy (λ files. first_some (bank_stops c.args.g c.args.changes.now c.args.raw.now (files c.args.table.now) (files c.args.raw.now))) was now)
    c.from_residual-in_err-check_changes.ensures.1
    (stopped_by_changes c.args.g c.args.changes.now c.args.table.now c.args.raw.now was now c.in_ok-table.table c.chip_len-size.result stop c.in_ok-table.ensures.table
    c.chip_len-size.ensures.value c.in_err-check_changes.ensures.stops)

pub returns-in_err-raw-clause-stops : goal.returns-in_err-raw-clause-stops
returns-in_err-raw-clause-stops g c =
    let was = g.H.Shelf.state c.args.shelf.now in
    let then = g.H.Shelf.state c.table_named.new.shelf in
    let now = g.H.Shelf.state c.raw_of.new.shelf in
    let stop = c.in_err-raw.field-0.0 in
    if_gave c.from_residual-in_err-raw.result stop
    (StopsBy (λ files. first_some (bank_stops c.args.g c.args.changes.now c.args.raw.now (files c.args.table.now) (files c.args.raw.now))) was now)
    c.from_residual-in_err-raw.ensures.1
    (stopped_by_raw c.args.g c.args.changes.now c.args.table.now c.args.raw.now was then now c.in_ok-table.table c.chip_len-size.result stop c.in_ok-table.ensures.table
    c.chip_len-size.ensures.value c.in_ok-check_changes.ensures.fit c.table_named.ensures.same c.table_named.ensures.later
    (subst (λ (n : ℕ). StopsBy (λ files. first_some (raw_stops c.args.raw.now (files c.args.raw.now) (n * c.chip_len-size.result))) then now stop) c.from.ensures c.in_err-raw.ensures.stops))

pub returns-in-Ok-clause-gives : goal.returns-in-Ok-clause-gives
returns-in-Ok-clause-gives g c =
    let was = g.H.Shelf.state c.args.shelf.now in
    let then = g.H.Shelf.state c.table_named.new.shelf in
    made_in c.args.g c.args.changes.now c.args.table.now c.args.raw.now c.args.width was.files c.in_ok-table.table c.chip_len-size.result c.in_ok-raw.raw.items c.in-Ok.file.items
    c.in_ok-table.ensures.table c.chip_len-size.ensures.value c.in_ok-check_changes.ensures.fit
    (subst (λ (told : Option FileMap). IfSome told (IsRawIn c.args.raw.now (c.args.g.lanes * c.chip_len-size.result) c.in_ok-raw.raw.items)) c.table_named.ensures.same
    (subst (λ (n : ℕ). IfSome then.files (IsRawIn c.args.raw.now (n * c.chip_len-size.result) c.in_ok-raw.raw.items)) c.from.ensures c.in_ok-raw.ensures.raw))
    c.in-Ok.ensures
