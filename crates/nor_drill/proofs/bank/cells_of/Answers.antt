use Rattle.nor_drill.proofs.Banks.{made_chip, parts_sized, parts_weak, parts_units, parts_follow, parts_locks, parts_offered, parts_few}
use Rattle.nor_drill.proofs.bank.cells_of.Goals as goal

pub returns : goal.returns
returns c =
    made_chip c.args.set c.in_ok-parts.parts c.in_ok-cells.cells c.args.paces.program c.args.paces.erase c.args.paces.suspend c.in_ok-parts.ensures c.in_ok-cells.ensures.made

pub make_cells-requires-clause-sized : goal.make_cells-requires-clause-sized
make_cells-requires-clause-sized c = parts_sized _ _ _ _ _ c.in_ok-parts.ensures

pub make_cells-requires-clause-ascending : goal.make_cells-requires-clause-ascending
make_cells-requires-clause-ascending c = parts_weak _ _ _ _ _ c.in_ok-parts.ensures

pub make_cells-requires-clause-whole : goal.make_cells-requires-clause-whole
make_cells-requires-clause-whole c = parts_units _ _ _ _ _ c.in_ok-parts.ensures

pub make_cells-requires-clause-few_weak : goal.make_cells-requires-clause-few_weak
make_cells-requires-clause-few_weak c = parts_few _ _ _ _ _ c.in_ok-parts.ensures

pub make_cells-requires-clause-follow : goal.make_cells-requires-clause-follow
make_cells-requires-clause-follow c = parts_follow _ _ _ _ _ c.in_ok-parts.ensures

pub make_cells-requires-clause-locks : goal.make_cells-requires-clause-locks
make_cells-requires-clause-locks c = parts_locks _ _ _ _ _ c.in_ok-parts.ensures

pub make_cells-requires-clause-offered : goal.make_cells-requires-clause-offered
make_cells-requires-clause-offered c = parts_offered _ _ _ _ _ c.in_ok-parts.ensures
