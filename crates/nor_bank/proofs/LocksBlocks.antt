-- A block of a bank begins at a bus word, and so does its part of each chip.
use Rattle.std.proofs.Common.{◌≡◌, ◌<◌, ◌≤◌, ℕ, zero, suc, ◌+◌, ◌*◌, ◌/◌, List, [], ◌∷◌, length, map, sym, ◌∙◌, ap, subst, arith, Bool, true, false}
use Rattle.std.specs.Prelude.{All, if◌then◌else◌, is_none}
use Rattle.std.proofs.lemmas.Bool.{le-leb, lt-ltb, and_from}
use Rattle.std.proofs.lemmas.List.{length-map, get_or-map}
use Rattle.std.proofs.lemmas.List.Elements.{All-append, All-cons, All-head, All-tail, All-nil}
use Rattle.std.proofs.lemmas.List.Sorted.{All-permutation, IsPermutation-reverse}
use Rattle.std.proofs.Math.Nat.{mul-div_cancel, mul-pos, lt_of_mul-lt-mul_right}
use Rattle.nor_cell.specs.Bits.{unit_len}
use Rattle.nor_cell.specs.Chip.{ChipState, block, block_at, block_of, has_blocks, is_within, no_span, place, span_end}
use Rattle.nor_cell.specs.Ranges.{are_blocks, follow_to}
use Rattle.nor_cell.specs.declared.device.Device.{Device}
use Rattle.nor_cell.specs.declared.device.Span.{Span}
use Rattle.nor_cell.proofs.Spans.{block_inside}
use Rattle.nor_region.specs.Map.{in_order, blocks_from, laid, spans_of, scaled_span}
use Rattle.nor_region.specs.declared.region.Region.{Region}
use Rattle.nor_region.proofs.Following.{only, following}
use Rattle.nor_query.specs.Checks.{first_error}
use Rattle.nor_query.specs.Derived.{is_reversed_in, table_blocks}
use Rattle.nor_query.specs.Fields.{block_size, region_at, regions_at, regions_of}
use Rattle.nor_cell.specs.Table.{set_of}
use Rattle.nor_bus.specs.Bus.{BusState, lane, lanes_of, units_of}
use Rattle.nor_bus.specs.Driven.{Reaches}
use Rattle.nor_probe.specs.declared.probing.Found.{Found}
use Rattle.nor_bank.specs.Stands.{IsKnown}
use Rattle.nor_bank.specs.State.{word_bytes, size_of, blocks_of}
use Rattle.nor_bank.proofs.Known.{IsWhole, AllWhole, IsPartOf, known_own, known_parts, known_size, known_some, known_word, blocks_follow}

-- ---- each block of a table has 128 bytes at least

IsLong : Span → Type 0
IsLong span = 128 ≤ span.len

HasLong : Region → Type 0
HasLong region = 128 ≤ region.size

least_size : (n : ℕ) → 128 ≤ block_size n
least_size zero = omega arith
least_size (suc n) = omega arith

long_regions : (table : List ℕ) (at n : ℕ) → All HasLong (regions_at table at n)
unfolding HasLong
long_regions table at zero = All-nil HasLong
long_regions table at (suc n) = All-cons HasLong (region_at table at) (regions_at table (at + 4) n) (least_size _) (long_regions table (at + 4) n)

long_in_order : (reversed : Bool) (regions : List Region) → All HasLong regions → All HasLong (in_order reversed regions)
long_in_order true regions all = All-permutation HasLong regions _ (IsPermutation-reverse regions) all
long_in_order false regions all = all

long_from : (from count size : ℕ) → 128 ≤ size → All IsLong (blocks_from from count size)
unfolding IsLong
long_from from zero size long = All-nil IsLong
long_from from (suc count) size long = All-cons IsLong (record { from = from; len = size }) (blocks_from (from + size) count size) long (long_from (from + size) count size long)

long_laid : (from : ℕ) (regions : List Region) → All HasLong regions → All IsLong (laid from regions)
unfolding HasLong
long_laid from [] all = All-nil IsLong
long_laid from (region ∷ regions) all =
    All-append IsLong (blocks_from from region.count region.size) (laid (from + region.count * region.size) regions)
    (long_from from region.count region.size (All-head HasLong region regions all))
    (long_laid (from + region.count * region.size) regions (All-tail HasLong region regions all))

long_where : (b : Bool) (spans : List Span) → All IsLong spans → All IsLong (if b then spans else [])
long_where true spans all = all
long_where false spans all = All-nil IsLong

pub table_least : (table : List ℕ) (k : ℕ) → k < length (table_blocks table) → 128 ≤ (block (table_blocks table) k).len
unfolding IsLong
table_least table k there =
    let regions = in_order (is_reversed_in (set_of table) table) (regions_of table) in
    let all : All IsLong (table_blocks table) =
    long_where (is_none (first_error table)) (spans_of regions)
    (long_laid 0 regions (long_in_order (is_reversed_in (set_of table) table) (regions_of table) (long_regions table 0x2D _))) in
    all k no_span there

-- ---- the first place of a block lies in it

pub first_within : (span : Span) → 0 < span.len → is_within span span.from ≡ true
first_within span some = and_from _ _ (le-leb span.from span.from (omega arith)) (lt-ltb span.from (span_end span) (omega arith))

follow_some : (size : ℕ) (blocks : List Span) → has_blocks blocks ≡ true → are_blocks size blocks ≡ true → follow_to size 0 blocks ≡ true
follow_some size [] some are = cc
follow_some size (span ∷ blocks) some are = are

-- so that it is the block of that place
pub first_block : (size k : ℕ) (blocks : List Span) → follow_to size 0 blocks ≡ true → k < length blocks → 0 < (block blocks k).len
    → block_at blocks (block blocks k).from ≡ k
first_block size k blocks follow there some = sym (only blocks size 0 (block blocks k).from k follow there (first_within (block blocks k) some))

whole_at : (d k : ℕ) (blocks : List Span) → AllWhole d blocks → k < length blocks → IsWhole d (block blocks k)
whole_at d k [] all there = absurd (omega arith)
whole_at d zero (span ∷ blocks) all there = all.0
whole_at d (suc k) (span ∷ blocks) all there = whole_at d k blocks all.1 (omega arith)

-- a block of the bank is as wide as its parts of all chips
pub block_scaled : (n k : ℕ) (blocks : List Span) → k < length blocks → block (map (scaled_span n) blocks) k ≡ scaled_span n (block blocks k)
block_scaled n k blocks there = get_or-map (scaled_span n) blocks k no_span no_span there

-- ---- of a known bank

-- Block k of the bank begins at bus word u, and its part of a chip at unit u.
pub record BeginsAt (f : Found) (k u : ℕ) (s : ChipState) : Type 0 where
  pub is : block_of s u ≡ k
  pub there : k < length s.part.blocks
  pub first : (block s.part.blocks k).from ≡ place s.part u
  pub least : 128 ≤ (block s.part.blocks k).len
  pub inside : span_end (block s.part.blocks k) ≤ length s.cells
  pub within : is_within (block s.part.blocks k) (place s.part u) ≡ true
  pub from : (block (blocks_of f) k).from ≡ u * word_bytes f
  pub len : (block (blocks_of f) k).len ≡ f.geometry.lanes * (block s.part.blocks k).len

-- where the bank's block k begins
abbrev pub unit_at : Found → ℕ → ℕ
unit_at f k = (block (blocks_of f) k).from / word_bytes f

begins_by : (f : Found) (s : ChipState) (k : ℕ) → IsPartOf f s → 0 < word_bytes f → are_blocks (length s.cells) s.part.blocks ≡ true
    → s.part.blocks ≡ table_blocks s.part.table → k < length (blocks_of f) → BeginsAt f k (unit_at f k) s
begins_by f s k part word are own there =
    let n = f.geometry.lanes in
    let d = unit_len f.geometry.device in
    let blocks = s.part.blocks in
    let count : length blocks ≡ length (blocks_of f) = sym (length-map blocks (scaled_span n)) ∙ ap (λ (bs : List Span). length bs) part.blocks in
    let mine : k < length blocks = omega (arith, count) in
    let span = block blocks k in
    let least : 128 ≤ span.len =
    subst (λ (bs : List Span). 128 ≤ (block bs k).len) (sym own) (table_least s.part.table k (subst (λ (bs : List Span). k < length bs) own mine)) in
    let whole = whole_at d k blocks part.whole mine in
    let begins = whole.begins in
    let wide : block (blocks_of f) k ≡ scaled_span n span = ap (λ (bs : List Span). block bs k) (sym part.blocks) ∙ block_scaled n k blocks mine in
    let from : (block (blocks_of f) k).from ≡ n * span.from = ap (λ (x : Span). x.from) wide in
    let turned : n * span.from ≡ whole.first * word_bytes f = ap (λ (m : ℕ). n * m) begins ∙ (let e : n * (d * whole.first) ≡ whole.first * (n * d) = omega arith in e) in
    let unit : unit_at f k ≡ whole.first = ap (λ (m : ℕ). m / word_bytes f) (from ∙ turned) ∙ mul-div_cancel whole.first word in
    let first : span.from ≡ place s.part (unit_at f k) =
    begins ∙ (ap (λ (m : ℕ). d * m) (sym unit) ∙ ap (λ (x : Device). unit_len x * unit_at f k) (sym part.device)) in
    let some : 0 < span.len = omega arith in
    record {
      is = ap (λ (p : ℕ). block_at blocks p) (sym first) ∙ first_block (length s.cells) k blocks (follow_some (length s.cells) blocks part.some are) mine some;
      there = mine;
      first = first;
      least = least;
      inside = block_inside (length s.cells) blocks k no_span are mine;
      within = subst (λ (p : ℕ). is_within span p ≡ true) first (first_within span some);
      from = from ∙ (turned ∙ ap (λ (m : ℕ). m * word_bytes f) (sym unit));
      len = ap (λ (x : Span). x.len) wide;
    }

module _ (f : Found) (bus : BusState) (known : IsKnown f bus) where
  -- Each block of the bank begins at a bus word, in every chip.
  pub block_begins : (k c : ℕ) → k < length (blocks_of f) → c < lanes_of bus → BeginsAt f k (unit_at f k) (lane bus c)
  block_begins k c there below =
      begins_by f (lane bus c) k (known_parts f bus known c below) (known_word f bus known) (known.wired.chips c below).chip.blocks
      (known.blocks c below) there

  -- which the bus has
  pub block_reached : (k : ℕ) → k < length (blocks_of f) → Reaches (word_bytes f) f.geometry (unit_at f k) bus
  block_reached k there =
      let some = known_some f bus known in
      let at = block_begins k 0 there some in
      let from = at.from in
      let len = at.len in
      let least = at.least in
      let follow = blocks_follow f in
      let end : span_end (block (blocks_of f) k) ≤ size_of f = block_inside (size_of f) (blocks_of f) k no_span (following (size_of f) (blocks_of f) follow) there in
      let lanes : 0 < f.geometry.lanes = subst (λ (n : ℕ). 0 < n) (known_own f bus known).count some in
      let wide : 0 < (block (blocks_of f) k).len = subst (λ (n : ℕ). 0 < n) (sym len) (mul-pos lanes (omega arith)) in
      let size = known_size f bus known in
      let less : unit_at f k * word_bytes f < units_of bus * word_bytes f = omega arith in
      record { own = known_own f bus known; there = lt_of_mul-lt-mul_right (word_bytes f) less }
