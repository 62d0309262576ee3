use Rattle.std.proofs.Common.{◌≡◌, map, take}
use Rattle.nor_region.specs.Map.{scaled_region}
use Rattle.nor_region.proofs.map.scaled.Given as goal

-- the regions so far
abbrev pub invariant-loop-region : goal.invariant-loop-region
invariant-loop-region l = l.wide.items ≡ map (scaled_region l.lanes) (take l.region-index l.regions)
