-- How many blocks a table gives.
use Rattle.std.proofs.Common.{◌≡◌, ◌<◌, ◌≤◌, ℕ, ◌+◌, ◌*◌, ◌^◌, zero, suc, List, [], ◌∷◌, length, Bool, true, false, All, refl, ◌∙◌, arith, if◌then◌else◌, is_none}
use Rattle.std.specs.Prelude.{sum_by}
use Rattle.std.proofs.lemmas.List.Sorted.{IsPermutation-reverse, sum_by-IsPermutation}
use Rattle.std.proofs.lemmas.List.Sums.{sum_by-cons}
use Rattle.nor_cell.specs.Bits.{AreBytes}
use Rattle.nor_cell.specs.Table.{set_of}
use Rattle.nor_cell.specs.declared.device.Span.{Span}
use Rattle.nor_region.specs.Map.{in_order, spans_of}
use Rattle.nor_region.specs.Regions.{region_len, total_len}
use Rattle.nor_region.specs.declared.region.Region.{Region}
use Rattle.nor_region.proofs.Laying.{length-laid}
use Rattle.nor_query.specs.Checks.{first_error}
use Rattle.nor_query.specs.Derived.{is_reversed_in, table_blocks}
use Rattle.nor_query.specs.Fields.{region_at, regions_at, regions_of, region_count}
use Rattle.std.proofs.Math.Nat.{mul-le-mul}

-- how many blocks regions count
abbrev counts : List Region → ℕ
counts regions = sum_by (λ (region : Region). region.count) regions

-- no region of a table has more than 65,536
counts_few : (table : List ℕ) (at n : ℕ) → AreBytes table → counts (regions_at table at n) ≤ 65536 * n
counts_few table at zero bytes = omega arith
counts_few table at (suc n) bytes =
    let rest = counts_few table (at + 4) n bytes in
    let low = bytes at in
    let high = bytes (at + 1) in
    rw (sum_by-cons (λ (region : Region). region.count) (region_at table at) (regions_at table (at + 4) n)) (omega arith)

counts_in_order : (reversed : Bool) (regions : List Region) → counts (in_order reversed regions) ≡ counts regions
counts_in_order true regions = sum_by-IsPermutation (λ (region : Region). region.count) regions _ (IsPermutation-reverse regions)
counts_in_order false regions = refl

few_by : (none : Bool) (spans : List Span) → length spans < 2 ^ 32 → length (if none then spans else []) < 2 ^ 32
few_by true spans few = few
few_by false spans few = omega arith

pub few_blocks : (table : List ℕ) → AreBytes table → length (table_blocks table) < 2 ^ 32
few_blocks table bytes =
    let regions = regions_of table in
    let map = in_order (is_reversed_in (set_of table) table) regions in
    let few = counts_few table 0x2D (region_count table) bytes in
    let byte = bytes 0x2C in
    let same = length-laid map 0 ∙ counts_in_order (is_reversed_in (set_of table) table) regions in
    few_by (is_none (first_error table)) (spans_of map) (omega arith)

-- regions of some bytes have no more blocks than bytes
pub counts_within : (regions : List Region) → All (λ region. 0 < region.size) regions → counts regions ≤ total_len regions
counts_within [] sizes = omega arith
counts_within (region ∷ regions) sizes =
    let rest = counts_within regions (λ k d below. sizes (suc k) d (omega arith)) in
    let here : region.count * 1 ≤ region.count * region.size = mul-le-mul (omega arith) (sizes 0 region (omega arith)) in
    rw (sum_by-cons (λ (r : Region). r.count) region regions) (rw (sum_by-cons region_len region regions) (omega arith))

pub blocks_within : (regions : List Region) → All (λ region. 0 < region.size) regions → length (spans_of regions) ≤ total_len regions
blocks_within regions sizes = (let same = length-laid regions 0 in let few = counts_within regions sizes in omega arith)
