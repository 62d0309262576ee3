-- How many bytes and blocks regions have.
use Rattle.std.proofs.Common.{◌≡◌, ◌≤◌, ◌*◌, List, [], ◌∷◌, length, arith, true}
use Rattle.nor_region.specs.Regions.{region_len, total_len, is_region, are_regions}
use Rattle.nor_region.specs.declared.region.Region.{Region}
use Rattle.std.proofs.lemmas.Bool.{and_parts, leb-true}
use Rattle.std.proofs.lemmas.List.Sums.{sum_by-cons}
use Rattle.std.proofs.Math.Nat.{mul-le-mul}

-- a region has less than 2 ^ 41 bytes
region_fits : (region : Region) → is_region region ≡ true → region_len region ≤ 65536 * 16776960
region_fits region is =
    let size = and_parts _ _ is in
    let low = and_parts _ _ size.0 in
    let count = and_parts _ _ low.0 in
    mul-le-mul (leb-true region.count 65536 count.1) (leb-true region.size 16776960 size.1)

-- regions have at most as many bytes as the largest ones
pub total_fits : (regions : List Region) → are_regions regions ≡ true → total_len regions ≤ length regions * 1099494850560
total_fits [] are = omega arith
total_fits (region ∷ regions) are =
    let both = and_parts _ _ are in
    let here = region_fits region both.0 in
    let rest = total_fits regions both.1 in
    rw sum_by-cons (omega arith)
