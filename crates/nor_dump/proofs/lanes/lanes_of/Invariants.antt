use Rattle.std.proofs.Common.{◌≡◌}
use Rattle.nor_cell.specs.Table.{set_of}
use Rattle.nor_image.specs.Reading.{chips_of}
use Rattle.nor_dump.specs.Made.{made_chips}
use Rattle.nor_dump.proofs.lanes.lanes_of.Given as goal

-- the chips so far
abbrev pub invariant-loop-lane : goal.invariant-loop-lane
invariant-loop-lane l = chips_of (set_of l.table) l.lanes.items ≡ made_chips l.g l.table l.changes l.raw l.lane
