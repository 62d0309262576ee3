use Rattle.std.proofs.Common.{◌≡◌}
use Rattle.nor_dump.specs.Made.{lane_cells}
use Rattle.nor_dump.proofs.lanes.lane_cells.Given as goal

-- the cells so far
abbrev pub invariant-loop-place : goal.invariant-loop-place
invariant-loop-place l = l.cells.items ≡ lane_cells l.g l.raw l.lane l.place
