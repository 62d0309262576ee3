use Rattle.std.proofs.Common.{◌≡◌, ◌≤◌, take}
use Rattle.std.specs.Prelude.{sum_by}
use Rattle.nor_region.specs.Regions.{total_len}
use Rattle.nor_region.proofs.look.count_blocks.Given as goal

-- the blocks so far, of which each has a byte
abbrev pub invariant-loop-region : goal.invariant-loop-region
invariant-loop-region l = record {
  counted : l.blocks ≡ sum_by (λ region. region.count) (take l.region-index l.regions);
  few : l.blocks ≤ total_len (take l.region-index l.regions);
}
