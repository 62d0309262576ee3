use Rattle.std.proofs.Common.{◌≡◌, ◌<◌, length, take, drop}
use Rattle.nor_cell.specs.Chip.{block}
use Rattle.nor_region.specs.Map.{laid, spans_of}
use Rattle.nor_region.specs.Regions.{total_len}
use Rattle.nor_region.proofs.look.span_at.Given as goal

-- the block is one of the regions that are left
abbrev pub invariant-loop-region : goal.invariant-loop-region
invariant-loop-region l = record {
  begun : l.from ≡ total_len (take l.region-index l.regions);
  inside : l.left < length (laid l.from (drop l.region-index l.regions));
  rest : block (laid l.from (drop l.region-index l.regions)) l.left ≡ block (spans_of l.regions) l.block;
}
