use Rattle.std.proofs.Common.{◌≡◌, ◌≤◌, ◌+◌, take, drop}
use Rattle.nor_cell.specs.Chip.{block_at}
use Rattle.nor_region.specs.Map.{laid, spans_of}
use Rattle.nor_region.specs.Regions.{total_len}
use Rattle.nor_region.proofs.look.block_at.Given as goal

-- the place lies behind the regions so far, and the rest tells its block
abbrev pub invariant-loop-region : goal.invariant-loop-region
invariant-loop-region l = record {
  begun : l.from ≡ total_len (take l.region-index l.regions);
  few : l.first ≤ l.from;
  past : l.from ≤ l.at;
  rest : l.first + block_at (laid l.from (drop l.region-index l.regions)) l.at ≡ block_at (spans_of l.regions) l.at;
}
