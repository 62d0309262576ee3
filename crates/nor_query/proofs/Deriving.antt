-- What a query says beyond its fields is what a chip reads from the table that stands for it.
use Rattle.std.proofs.Common.{◌≡◌, ℕ, ◌+◌, ◌*◌, ◌/◌, ◌%◌, List, [], length, refl, sym, ◌∙◌, ap, arith}
use Rattle.std.specs.Prelude.{◌==◌, ◌&&◌, nat_le, nat_lt, if◌then◌else◌, is_none, slice_index}
use Rattle.std.proofs.lemmas.Bool.Decides.{nat_tests}
use Rattle.nor_cell.specs.Bits.{has_bit}
use Rattle.nor_cell.specs.Table.{extended_at, extended, set_of, suspend_kind, suspend_of as chip_suspend_of, has_locks, locks_of as chip_locks_of, limit}
use Rattle.nor_cell.specs.declared.device.Set.{Set}
use Rattle.nor_cell.specs.declared.device.Set.TheVariants.{Intel as IntelSet, Amd as AmdSet}
use Rattle.nor_cell.specs.declared.device.SuspendKind.TheVariants.{None as NoSuspend, Read as ReadOnly, Program as ReadProgram}
use Rattle.nor_cell.specs.declared.device.Work.{Work}
use Rattle.nor_cell.specs.declared.device.Work.TheVariants.{Word, Buffer, Block, Chip}
use Rattle.nor_region.specs.Map.{in_order, spans_of}
use Rattle.nor_region.specs.declared.region.Region.{Region}
use Rattle.nor_query.specs.Derived.{suspend_of, locks_of, is_reversed, is_reversed_in, table_blocks, limit_of}
use Rattle.nor_query.specs.Fields.{field_32, bytes_at, extended_of, regions_of, region_count}
use Rattle.nor_query.specs.Stands.{StandsFor}
use Rattle.nor_query.specs.declared.query.Query.{Query}
use Rattle.nor_query.proofs.Standing.{length-regions_at}

-- bytes above the lowest don't change its bits
low_bit_1 : (a b : ℕ) → (a + 256 * b) / 2 % 2 ≡ a / 2 % 2
low_bit_1 a b = omega arith

-- the same of bit 5
low_bit_5 : (a b : ℕ) → (a + 256 * b) / 32 % 2 ≡ a / 32 % 2
low_bit_5 a b = omega arith

-- the features, by their lowest byte and what stands above it
features_low : (table : List ℕ) (at : ℕ) → (high : ℕ) × (field_32 table at ≡ slice_index table at + 256 * high)
features_low table at = (slice_index table (at + 1) + 256 * (slice_index table (at + 2) + 256 * slice_index table (at + 2 + 1)), omega arith)

-- feature bit 1 is bit 1 of the lowest byte
feature_1 : (table : List ℕ) (at : ℕ) → has_bit (field_32 table at) 1 ≡ has_bit (slice_index table at) 1
feature_1 table at =
    let low = features_low table at in
    ap (λ n. n / 2 % 2 == 1) low.1 ∙ ap (λ n. n == 1) (low_bit_1 (slice_index table at) low.0)

-- feature bit 5 is bit 5 of the lowest byte
feature_5 : (table : List ℕ) (at : ℕ) → has_bit (field_32 table at) 5 ≡ has_bit (slice_index table at) 5
feature_5 table at =
    let low = features_low table at in
    ap (λ n. n / 32 % 2 == 1) low.1 ∙ ap (λ n. n == 1) (low_bit_5 (slice_index table at) low.0)

-- erase suspend, by what the extended table says
suspend-extended_of : (set : Set) (table : List ℕ) → suspend_of (extended_of set table) ≡ chip_suspend_of set table
suspend-extended_of IntelSet table = ap (λ b. if b then (if has_bit (extended table 9) 0 then ReadProgram else ReadOnly) else NoSuspend) (feature_1 table (extended_at table + 5))
suspend-extended_of AmdSet table = refl

-- erase suspend is what the chip reads
pub suspend_agrees : (table : List ℕ) (q : Query) → StandsFor table q → suspend_of q.extended ≡ suspend_kind table
suspend_agrees table q stands = ap (λ e. suspend_of e) stands.extended ∙ suspend-extended_of (set_of table) table

-- locks, by what the extended table says
locks-extended_of : (set : Set) (table : List ℕ) → locks_of (extended_of set table) ≡ chip_locks_of set table
locks-extended_of IntelSet table = feature_5 table (extended_at table + 5)
locks-extended_of AmdSet table = refl

-- locks are what the chip reads
pub locks_agree : (table : List ℕ) (q : Query) → StandsFor table q → locks_of q.extended ≡ has_locks table
locks_agree table q stands = ap (λ e. locks_of e) stands.extended ∙ locks-extended_of (set_of table) table

-- version 1.1 or later, by the number and by the digit
same_minor : (m n : ℕ) → m + 0x30 ≡ n → nat_le 1 m ≡ nat_le 0x31 n
same_minor m n same = grind (arith, nat_tests)

-- the order of the regions, by what the extended table says
reversed-extended_of : (set : Set) (table : List ℕ) (minor : ℕ) → minor + 0x30 ≡ extended table 4 → is_reversed (extended_of set table) minor (region_count table) ≡ is_reversed_in set table
reversed-extended_of IntelSet table minor same = refl
reversed-extended_of AmdSet table minor same = ap (λ b. b && extended table 15 == 3 && nat_lt 1 (region_count table)) (same_minor minor (extended table 4) same)

-- the order of the regions is what the table says
pub reversed_agrees : (table : List ℕ) (q : Query) → StandsFor table q → is_reversed q.extended q.minor (length q.regions.items) ≡ is_reversed_in (set_of table) table
reversed_agrees table q stands =
    let count : length q.regions.items ≡ region_count table = ap (λ regions. length regions) stands.regions ∙ length-regions_at table 0x2D (region_count table) in
    ap (λ n. is_reversed q.extended q.minor n) count ∙ (ap (λ e. is_reversed e q.minor (region_count table)) stands.extended
    ∙ reversed-extended_of (set_of table) table q.minor stands.minor)

-- a limit, by the bytes of its two exponents
limit-times : (table : List ℕ) (times : List ℕ) (work : Work) → times ≡ bytes_at table 0x1F 8 → limit_of times work ≡ limit work table
limit-times table times Word same = ap (λ ts. limit_of ts Word) same
limit-times table times Buffer same = ap (λ ts. limit_of ts Buffer) same
limit-times table times Block same = ap (λ ts. limit_of ts Block) same
limit-times table times Chip same = ap (λ ts. limit_of ts Chip) same

-- limits are what the chip reads
pub limit_agrees : (table : List ℕ) (q : Query) (work : Work) → StandsFor table q → limit_of q.times work ≡ limit work table
limit_agrees table q work stands = limit-times table q.times work stands.times

-- the map of the regions has the blocks of the table
pub blocks_agree : (table : List ℕ) (q : Query) (regions : List Region) → StandsFor table q
    → regions ≡ in_order (is_reversed q.extended q.minor (length q.regions.items)) q.regions.items → spans_of regions ≡ table_blocks table
blocks_agree table q regions stands made =
    let whole = spans_of (in_order (is_reversed_in (set_of table) table) (regions_of table)) in
    ap (λ rs. spans_of rs) made
    ∙ (ap (λ reversed. spans_of (in_order reversed q.regions.items)) (reversed_agrees table q stands)
    ∙ (ap (λ rs. spans_of (in_order (is_reversed_in (set_of table) table) rs)) stands.regions
    ∙ sym (ap (λ error. if is_none error then whole else []) stands.checks)))
