-- One step of a look-up: the region at an index either has what is sought, or the rest has it.
use Rattle.std.proofs.Common.{◌≡◌, ◌<◌, ◌≤◌, ℕ, ◌+◌, ◌-◌, ◌*◌, ◌/◌, List, ◌++◌, length, take, drop, get_or, sym, ◌∙◌, ap, arith, length-append}
use Rattle.std.proofs.lemmas.List.{drop_more}
use Rattle.std.proofs.lemmas.List.Sums.{sum_by_more, sum_by_more_le}
use Rattle.std.proofs.Math.Nat.{mul-le-mul_left, mul-le-mul_right}
use Rattle.nor_cell.specs.Chip.{block, block_at}
use Rattle.nor_cell.specs.declared.device.Span.{Span}
use Rattle.nor_region.specs.Map.{blocks_from, laid}
use Rattle.nor_region.specs.Regions.{region_len, total_len}
use Rattle.nor_region.specs.declared.region.Region.{Region}
use Rattle.nor_region.proofs.Laying.{length-blocks_from, block_at-here, block_at-later, block-here, block-later}

-- what stands behind the last region
abbrev pub no_region : Region
no_region = record { count = 0; size = 0 }

-- the region at an index
abbrev pub region_at : List Region → ℕ → Region
region_at regions i = get_or regions i no_region

module _ (regions : List Region) (i : ℕ) (less : i < length regions) where
  -- the blocks of the regions from an index on
  laid_more : (from : ℕ) → laid from (drop i regions) ≡ blocks_from from (region_at regions i).count (region_at regions i).size ++ laid (from + region_len (region_at regions i)) (drop (i + 1) regions)
  laid_more from = ap (λ rest. laid from rest) (drop_more regions i no_region less)

  -- the bytes up to a region and those of the region
  pub total_more : total_len (take (i + 1) regions) ≡ total_len (take i regions) + region_len (region_at regions i)
  total_more = sum_by_more region_len regions i no_region less

  -- which are no more than all
  pub total_more_le : total_len (take i regions) + region_len (region_at regions i) ≤ total_len regions
  total_more_le = sum_by_more_le region_len regions i no_region less

  -- the place lies in this region
  pub place_here : (first from at answer : ℕ) → 0 < (region_at regions i).size → from ≤ at → at - from < region_len (region_at regions i)
      → first + block_at (laid from (drop i regions)) at ≡ answer → first + (at - from) / (region_at regions i).size ≡ answer
  place_here first from at answer some low inside rest =
      let here = block_at-here (region_at regions i).count from (region_at regions i).size at (laid (from + region_len (region_at regions i)) (drop (i + 1) regions)) some low (omega arith) in
      ap (λ n. first + n) (sym here) ∙ (ap (λ spans. first + block_at spans at) (sym (laid_more from)) ∙ rest)

  -- the place lies in a later region
  pub place_later : (first from at answer : ℕ) → from + region_len (region_at regions i) ≤ at
      → first + block_at (laid from (drop i regions)) at ≡ answer
      → (first + (region_at regions i).count) + block_at (laid (from + region_len (region_at regions i)) (drop (i + 1) regions)) at ≡ answer
  place_later first from at answer past rest =
      let later = block_at-later (region_at regions i).count from (region_at regions i).size at (laid (from + region_len (region_at regions i)) (drop (i + 1) regions)) past in
      let before = ap (λ spans. first + block_at spans at) (laid_more from) in
      omega (arith, later, before, rest)

  -- the block is one of this region
  pub block_here : (from b : ℕ) (answer : Span) → b < (region_at regions i).count → block (laid from (drop i regions)) b ≡ answer
      → record { from = from + b * (region_at regions i).size; len = (region_at regions i).size } ≡ answer
  block_here from b answer inside rest =
      sym (block-here (region_at regions i).count from (region_at regions i).size b (laid (from + region_len (region_at regions i)) (drop (i + 1) regions)) inside)
      ∙ (ap (λ spans. block spans b) (sym (laid_more from)) ∙ rest)

  -- the block is one of a later region
  pub block_later : (from b : ℕ) (answer : Span) → (region_at regions i).count ≤ b → block (laid from (drop i regions)) b ≡ answer
      → block (laid (from + region_len (region_at regions i)) (drop (i + 1) regions)) (b - (region_at regions i).count) ≡ answer
  block_later from b answer past rest =
      sym (block-later (region_at regions i).count from (region_at regions i).size b (laid (from + region_len (region_at regions i)) (drop (i + 1) regions)) past)
      ∙ (ap (λ spans. block spans b) (sym (laid_more from)) ∙ rest)

  -- and there are as many left
  pub inside_later : (from b : ℕ) → (region_at regions i).count ≤ b → b < length (laid from (drop i regions))
      → b - (region_at regions i).count < length (laid (from + region_len (region_at regions i)) (drop (i + 1) regions))
  inside_later from b past inside =
      let all = ap length (laid_more from) in
      let parts = length-append (blocks_from from (region_at regions i).count (region_at regions i).size) (laid (from + region_len (region_at regions i)) (drop (i + 1) regions)) in
      let first = length-blocks_from from (region_at regions i).count (region_at regions i).size in
      omega (arith, all, parts, first)

-- a block begins before its region's end
pub begins_inside : (b count size : ℕ) → b < count → b * size ≤ count * size
begins_inside b count size less = mul-le-mul_right size (let most : b ≤ count = omega arith in most)

-- where no block is empty, each has a byte
pub blocks_have_bytes : (count size : ℕ) → 0 < size → count ≤ count * size
blocks_have_bytes count size some =
    let each : count * 1 ≤ count * size = mul-le-mul_left count (let one : 1 ≤ size = omega arith in one) in
    omega arith
