use Rattle.std.proofs.Common.{◌≡◌, take}
use Rattle.nor_region.specs.Regions.{total_len}
use Rattle.nor_region.proofs.region.sum_lens.Given as goal

-- the bytes so far
abbrev pub invariant-loop-region : goal.invariant-loop-region
invariant-loop-region l = l.total ≡ total_len (take l.region-index l.regions)
