-- What is a map, and what its blocks are.
use Rattle.std.proofs.Common.{◌≡◌, ◌<◌, ◌≤◌, ℕ, ◌+◌, ◌*◌, ◌^◌, List, map, reverse, length, get_or, refl, arith, Bool, true, false}
use Rattle.std.specs.Prelude.{All}
use Rattle.std.proofs.lemmas.Bool.{and_parts, leb-true}
use Rattle.std.proofs.lemmas.List.{length-reverse, length-map}
use Rattle.std.proofs.lemmas.List.Elements.{All-map}
use Rattle.std.proofs.lemmas.List.Sorted.{All-permutation, IsPermutation-reverse, sum_by-IsPermutation}
use Rattle.std.proofs.lemmas.List.Sums.{AllPass-from_list_all}
use Rattle.std.proofs.Math.Nat.{mul-le-mul_right}
use Rattle.nor_cell.specs.Chip.{block, block_at, is_within}
use Rattle.nor_region.specs.Map.{IsMap, in_order, spans_of, scaled_region}
use Rattle.nor_region.specs.Regions.{region_len, total_len, is_region, are_regions}
use Rattle.nor_region.specs.declared.region.Region.{Region}
use Rattle.nor_region.proofs.Following.{found, within, only}
use Rattle.nor_region.proofs.Laying.{follow-laid, total_len-scaled}

-- the order changes neither the bytes nor what holds of each region
pub total_len-in_order : (reversed : Bool) (regions : List Region) → total_len (in_order reversed regions) ≡ total_len regions
total_len-in_order true regions = sum_by-IsPermutation region_len regions (reverse regions) (IsPermutation-reverse regions)
total_len-in_order false regions = refl

-- the order keeps the number of regions
length-in_order : (reversed : Bool) (regions : List Region) → length (in_order reversed regions) ≡ length regions
length-in_order true regions = length-reverse regions
length-in_order false regions = refl

-- what holds of each region holds in any order
All-in_order : (P : Region → Type 0) (reversed : Bool) (regions : List Region) → All P regions → All P (in_order reversed regions)
All-in_order P true regions all = All-permutation P regions (reverse regions) (IsPermutation-reverse regions) all
All-in_order P false regions all = all

-- a region has a block
some_blocks : (region : Region) → is_region region ≡ true → 0 < region.count
some_blocks region is =
    let low = leb-true 1 region.count (and_parts _ _ (and_parts _ _ (and_parts _ _ is).0).0).0 in
    omega arith

-- a region's blocks have a byte
some_bytes : (region : Region) → is_region region ≡ true → 0 < region.size
some_bytes region is =
    let low = leb-true 128 region.size (and_parts _ _ (and_parts _ _ is).0).1 in
    omega arith

-- regions that a table may have are a map
pub are_map : (reversed : Bool) (regions : List Region) → are_regions regions ≡ true → 0 < length regions → length regions ≤ 8 → total_len regions < 2 ^ 32 → IsMap (in_order reversed regions)
are_map reversed regions are some few total =
    let same = length-in_order reversed regions in
    let bytes = total_len-in_order reversed regions in
    let each = AllPass-from_list_all is_region regions are in
    record {
      some = omega arith;
      few = omega arith;
      counts = All-in_order (λ region. 0 < region.count) reversed regions (λ k d less. some_blocks (get_or regions k d) (each k d less));
      sizes = All-in_order (λ region. 0 < region.size) reversed regions (λ k d less. some_bytes (get_or regions k d) (each k d less));
      total = omega arith;
    }

-- nor are they empty when scaled
scaled_some : (lanes size : ℕ) → 0 < lanes → 0 < size → 0 < lanes * size
scaled_some lanes size some bytes =
    let each : 1 * size ≤ lanes * size = mul-le-mul_right size (let one : 1 ≤ lanes = omega arith in one) in
    omega arith

-- a map of one chip makes a map of up to four
pub scaled_map : (lanes : ℕ) (regions : List Region) → 0 < lanes → lanes ≤ 4 → total_len regions ≤ 2 ^ 27 → IsMap regions → IsMap (map (scaled_region lanes) regions)
scaled_map lanes regions some few chip is =
    let wide : lanes * total_len regions ≤ 4 * total_len regions = mul-le-mul_right (total_len regions) few in
    let bytes = total_len-scaled regions lanes in
    let same = length-map regions (scaled_region lanes) in
    record {
      some = omega (arith, same, is.some);
      few = omega (arith, same, is.few);
      counts = All-map (λ region. 0 < region.count) (scaled_region lanes) regions is.counts;
      sizes = All-map (λ region. 0 < region.size) (scaled_region lanes) regions (λ k d less. scaled_some lanes (get_or regions k d).size some (is.sizes k d less));
      total = omega arith;
    }

module _ (regions : List Region) where
  -- the block of a place is a block of the map, has the place, and no other has it
  pub block_found : (at : ℕ) → at < total_len regions → block_at (spans_of regions) at < length (spans_of regions)
  block_found at inside = found (spans_of regions) (0 + total_len regions) 0 at (follow-laid regions 0) (omega arith) (omega arith)

  -- it has the place
  pub block_within : (at : ℕ) → at < total_len regions → is_within (block (spans_of regions) (block_at (spans_of regions) at)) at ≡ true
  block_within at inside = within (spans_of regions) (0 + total_len regions) 0 at (follow-laid regions 0) (omega arith) (omega arith)

  -- and no other block has it
  pub block_only : (at b : ℕ) → b < length (spans_of regions) → is_within (block (spans_of regions) b) at ≡ true → b ≡ block_at (spans_of regions) at
  block_only at b inside here = only (spans_of regions) (0 + total_len regions) 0 at b (follow-laid regions 0) inside here
