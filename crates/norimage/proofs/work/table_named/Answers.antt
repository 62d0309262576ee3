use Rattle.std.proofs.Common.{◌∙◌, ap}
use Rattle.nor_dump.specs.Table.{table_of, table_error}
use Rattle.norimage.proofs.Making.{table_found, table_wrong}
use Rattle.norimage.proofs.work.table_named.Goals as goal

pub returns-in-Ok-clause-table : goal.returns-in-Ok-clause-table
returns-in-Ok-clause-table g c =
    table_found (g.H.Shelf.state c.args.shelf.now).files c.args.name.now c.in_ok-file.file.items c.in-Ok.table c.in_ok-file.ensures.loaded.has c.in_ok-file.ensures.loaded.few
    (c.in-Ok.ensures.refused ∙ ap table_error c.deref.ensures.value) (c.in-Ok.ensures.table ∙ ap table_of c.deref.ensures.value)

pub returns-clause-stops : goal.returns-clause-stops
returns-clause-stops g c =
    table_wrong (g.H.Shelf.state c.args.shelf.now) (g.H.Shelf.state c.load.new.shelf) c.args.name.now c.in_ok-file.file.items c.in-Err.error c.in_ok-file.ensures.loaded.has c.in_ok-file.ensures.loaded.few
    (c.in-Err.ensures.refused ∙ ap table_error c.deref.ensures.value)
