-- A table in which a valid query is written stands for it.
use Rattle.std.proofs.Common.{◌≡◌, ◌<◌, ◌≤◌, ℕ, ◌+◌, ◌*◌, ◌-◌, ◌^◌, List, [], ◌∷◌, ◌++◌, length, sym, ◌∙◌, ap, arith, true, false, inl, inr}
use Rattle.std.specs.Prelude.{slice_index, ◌==◌, ◌||◌, ◌&&◌, nat_le, nat_lt, if◌then◌else◌}
use Rattle.std.proofs.lemmas.Bool.{eq-eqb, ne_eqb, le-leb, lt-ltb, and_from, and_cases, or_parts, not_from_false, both_ways, cases_lt, cases_Bool, cond-true, cond-false}
use Rattle.nor_cell.specs.Bits.{AreBytes}
use Rattle.nor_cell.specs.Table.{field_8, field_16, extended_at, extended, set_of}
use Rattle.nor_cell.specs.declared.device.Set.{Set}
use Rattle.nor_cell.specs.declared.device.Set.TheVariants.{Intel as IntelSet, Amd as AmdSet}
use Rattle.nor_region.specs.Regions.{total_len}
use Rattle.nor_query.specs.Checks.{head_checks, extended_checks, sum_check}
use Rattle.nor_query.specs.Fields.{field_32, regions_at, regions_of, region_count, extended_of, named_len, is_named, is_named_in, is_named_extended}
use Rattle.nor_query.specs.Stands.{StandsFor}
use Rattle.nor_query.specs.Valid.{IsValid, set_of_extended}
use Rattle.nor_query.specs.Writing.{SameWithin, HeadReads, ExtendedReads, Says, set_code}
use Rattle.nor_query.specs.declared.query.Query.{Query}
use Rattle.nor_query.specs.declared.query.Extended.{Extended}
use Rattle.nor_query.specs.declared.query.Extended.TheVariants.{Intel, Amd}
use Rattle.nor_query.proofs.Framing.{regions_frame, head_moves}
use Rattle.nor_query.proofs.Passing.{AllHold, none_fails, both_hold}
use Rattle.nor_query.proofs.Standing.{same_named}

-- what is in a table once each part is written
pub record IsWritten (table : List ℕ) (query : Query) : Type 0 where
  pub len : length table ≡ 512
  pub bytes : AreBytes table
  pub head : HeadReads table 0x10 query
  pub regions : regions_at table 0x2D (length query.regions.items) ≡ query.regions.items
  pub ext : ExtendedReads table query.ext query.minor query.extended
  pub free : (at : ℕ) → at < 512 → is_named query.set (length query.regions.items) query.ext at ≡ false → slice_index table at ≡ slice_index query.rest at

-- the set by its identifier
set_read : (set : Set) (n : ℕ) → n ≡ set_code set → (if n == 2 then AmdSet else IntelSet) ≡ set
set_read IntelSet n same = ap (λ m. if m == 2 then AmdSet else IntelSet) same
set_read AmdSet n same = ap (λ m. if m == 2 then AmdSet else IntelSet) same

-- and it is one of the two that are known
set_known : (set : Set) (n : ℕ) → n ≡ set_code set → (n == 1 || n == 2) ≡ true
set_known IntelSet n same = ap (λ m. m == 1 || m == 2) same
set_known AmdSet n same = ap (λ m. m == 1 || m == 2) same

-- what the extended table says is read again
said : (table : List ℕ) (ext : ℕ) (e : Extended) → extended_at table ≡ ext → Says table ext e → e ≡ extended_of (set_of_extended e) table
said table ext (Intel features in_suspend) place says =
    ap (λ f. Intel f in_suspend) (sym says.0 ∙ ap (λ p. field_32 table (p + 5)) (sym place))
    ∙ ap (λ s. Intel (field_32 table (extended_at table + 5)) s) (sym says.1 ∙ ap (λ p. field_8 table (p + 9)) (sym place))
said table ext (Amd suspend protect boot) place says =
    ap (λ s. Amd s protect boot) (sym says.0 ∙ ap (λ p. field_8 table (p + 6)) (sym place))
    ∙ (ap (λ p. Amd (extended table 6) p boot) (sym says.1 ∙ ap (λ p. field_8 table (p + 9)) (sym place))
    ∙ ap (λ b. Amd (extended table 6) (extended table 9) b) (sym says.2 ∙ ap (λ p. field_8 table (p + 15)) (sym place)))

module _ (table : List ℕ) (q : Query) (valid : IsValid q) (written : IsWritten table q) where
  -- the table's numbers are the query's: where the extended table begins
  ext_is : extended_at table ≡ q.ext
  ext_is = written.head.ext

  -- how many regions it has
  count_is : region_count table ≡ length q.regions.items
  count_is = written.head.count

  -- its set
  set_is : set_of table ≡ q.set
  set_is = set_read q.set (field_16 table 0x13) written.head.set

  -- its regions
  regions_is : regions_of table ≡ q.regions.items
  regions_is = ap (λ n. regions_at table 0x2D n) count_is ∙ written.regions

  -- each check of the head holds
  head_holds : AllHold (head_checks table)
  head_holds =
      let size = written.head.size_log in
      let low : 12 ≤ field_8 table 0x27 = omega (arith, valid.size_log.0, size) in
      let high : field_8 table 0x27 ≤ 27 = omega (arith, valid.size_log.1, size) in
      let interface : field_16 table 0x28 ≤ 2 = omega (arith, valid.interface, written.head.interface) in
      let some : region_count table ≡ 0 → ⊥ = (λ none. absurd (omega (arith, valid.some_regions, count_is, none))) in
      let few : region_count table ≤ 8 = omega (arith, valid.few_regions, count_is) in (
        eq-eqb (field_8 table 0x10) 0x51 written.head.q,
        (
          eq-eqb (field_8 table 0x11) 0x52 written.head.r,
          (
            eq-eqb (field_8 table 0x12) 0x59 written.head.y,
            (
              set_known q.set (field_16 table 0x13) written.head.set,
              (
                and_from _ _ (le-leb 12 (field_8 table 0x27) low) (le-leb (field_8 table 0x27) 27 high),
                (le-leb (field_16 table 0x28) 2 interface, (not_from_false _ (ne_eqb (region_count table) 0 some), (le-leb (region_count table) 8 few, tt))),
              ),
            ),
          ),
        ),
      )

  -- each check of the extended table holds
  extended_holds : AllHold (extended_checks table)
  extended_holds =
      let e = extended_at table in
      let behind : 0x2D + 4 * region_count table ≤ e = omega (arith, valid.behind, count_is, ext_is) in
      let inside : e + named_len (set_of table) ≤ 0x200 = omega (arith, valid.inside, ext_is, ap (λ s. named_len s) set_is) in
      let minor = ap (λ p. field_8 table (p + 4)) ext_is ∙ written.ext.minor_is in
      let low : 0x30 ≤ extended table 4 = omega (arith, minor) in
      let high : extended table 4 ≤ 0x35 = omega (arith, minor, valid.minor) in (
        and_from _ _ (le-leb (0x2D + 4 * region_count table) e behind) (le-leb (e + named_len (set_of table)) 0x200 inside),
        (
          eq-eqb (field_8 table e) 0x50 (ap (λ p. field_8 table p) ext_is ∙ written.ext.p),
          (
            eq-eqb (field_8 table (e + 1)) 0x52 (ap (λ p. field_8 table (p + 1)) ext_is ∙ written.ext.r),
            (
              eq-eqb (field_8 table (e + 2)) 0x49 (ap (λ p. field_8 table (p + 2)) ext_is ∙ written.ext.i),
              (
                eq-eqb (field_8 table (e + 3)) 0x31 (ap (λ p. field_8 table (p + 3)) ext_is ∙ written.ext.major),
                (and_from _ _ (le-leb 0x30 (extended table 4) low) (le-leb (extended table 4) 0x35 high), tt),
              ),
            ),
          ),
        ),
      )

  -- the regions have as many bytes as the chip
  sum_holds : (total_len (regions_of table) == 2 ^ field_8 table 0x27) ≡ true
  sum_holds = eq-eqb (total_len (regions_of table)) (2 ^ field_8 table 0x27)
      (ap (λ regions. total_len regions) regions_is ∙ (valid.sum ∙ ap (λ n. 2 ^ n) (sym written.head.size_log)))

  -- the rest has the free bytes, and 0 in the named places
  rest_is : (at : ℕ) → at < 512 → slice_index q.rest at ≡ (if is_named_in table at then 0 else slice_index table at)
  rest_is at less =
      let named = same_named (set_of table) q.set (region_count table) (length q.regions.items) (extended_at table) q.ext at set_is count_is ext_is in
      elim (cases_Bool (is_named_in table at)) [
        | inl is ↦ valid.rest at less (sym named ∙ is) ∙ sym (cond-true (is_named_in table at) 0 (slice_index table at) is)
        | inr isn't ↦ sym (written.free at less (sym named ∙ isn't)) ∙ sym (cond-false (is_named_in table at) 0 (slice_index table at) isn't)
      ]

  -- the table stands for the query
  pub stands_written : length q.rest ≡ 512 → StandsFor table q
  stands_written rest_len = record {
    len = written.len;
    bytes = written.bytes;
    checks = none_fails (head_checks table ++ (extended_checks table ++ sum_check table ∷ []))
        (both_hold (head_checks table) (extended_checks table ++ sum_check table ∷ []) head_holds (both_hold (extended_checks table) (sum_check table ∷ []) extended_holds (sum_holds, tt)));
    set = sym set_is;
    ext = sym ext_is;
    alt_set = sym written.head.alt_set;
    alt_ext = sym written.head.alt_ext;
    volts = sym written.head.volts;
    times = sym written.head.times;
    size_log = sym written.head.size_log;
    interface = sym written.head.interface;
    buffer_log = sym written.head.buffer_log;
    regions = sym regions_is;
    minor = sym (ap (λ p. field_8 table (p + 4)) ext_is ∙ written.ext.minor_is);
    extended = said table q.ext q.extended ext_is written.ext.says ∙ ap (λ s. extended_of s table) (sym valid.set ∙ sym set_is);
    rest_len = rest_len;
    rest = rest_is;
  }

module _ (q : Query) (head first second table : List ℕ) (valid : IsValid q) (above_head : SameWithin 0x2D 512 q.rest first) (above_regions : SameWithin (0x2D + 4 * length q.regions.items) 512 first second) where
  -- a free byte is that of the rest, whichever parts it lies between
  free_kept : SameWithin 0 0x10 q.rest first → SameWithin 0 0x2D first second → SameWithin 0 q.ext second table
      → ((k : ℕ) → q.ext + k < 512 → is_named_extended (set_of_extended q.extended) k ≡ false → slice_index table (q.ext + k) ≡ slice_index second (q.ext + k))
      → (at : ℕ) → at < 512 → is_named q.set (length q.regions.items) q.ext at ≡ false → slice_index table at ≡ slice_index q.rest at
  free_kept below_head below_regions below_ext free at less unnamed =
      let behind = valid.behind in
      let parts = or_parts (nat_le 0x10 at && nat_lt at (0x2D + 4 * length q.regions.items)) (nat_le q.ext at && is_named_extended q.set (at - q.ext)) unnamed in
      elim (cases_lt at 0x10) [
        | inl low ↦ below_ext at (omega arith) (omega arith) ∙ (below_regions at (omega arith) (omega arith) ∙ below_head at (omega arith) low)
        | inr past ↦ elim (cases_lt at (0x2D + 4 * length q.regions.items)) [
          | inl inside ↦ absurd (both_ways _ parts.0 (and_from _ _ (le-leb 0x10 at past) (lt-ltb at (0x2D + 4 * length q.regions.items) inside)))
          | inr later ↦ elim (cases_lt at q.ext) [
            | inl before ↦ below_ext at (omega arith) before ∙ (above_regions at later less ∙ above_head at (omega arith) less)
            | inr in_ext ↦
                let same : q.ext + (at - q.ext) ≡ at = omega arith in
                let kept = above_regions at later less ∙ above_head at (omega arith) less in
                elim (and_cases (nat_le q.ext at) (is_named_extended q.set (at - q.ext)) parts.1) [
                  | inl outside ↦ absurd (both_ways _ outside (le-leb q.ext at in_ext))
                  | inr hidden ↦
                      ap (λ p. slice_index table p) (sym same)
                      ∙ (free (at - q.ext) (omega arith) (ap (λ s. is_named_extended s (at - q.ext)) (sym valid.set) ∙ hidden)
                      ∙ (ap (λ p. slice_index second p) same ∙ kept))
                ]
          ]
        ]
      ]

  -- the three parts together
  pub written : length table ≡ 512 → AreBytes table → HeadReads head 0 q
      → ((k : ℕ) → k < 29 → slice_index first (0x10 + k) ≡ slice_index head k) → SameWithin 0 0x10 q.rest first
      → regions_at second 0x2D (length q.regions.items) ≡ q.regions.items → SameWithin 0 0x2D first second
      → ExtendedReads table q.ext q.minor q.extended → SameWithin 0 q.ext second table
      → ((k : ℕ) → q.ext + k < 512 → is_named_extended (set_of_extended q.extended) k ≡ false → slice_index table (q.ext + k) ≡ slice_index second (q.ext + k))
      → IsWritten table q
  written len bytes reads inside below_head regions below_regions ext below_ext free =
      let behind = valid.behind in
      record {
        len = len;
        bytes = bytes;
        head = head_moves head table q (λ k less. below_ext (0x10 + k) (omega arith) (omega arith) ∙ (below_regions (0x10 + k) (omega arith) (omega arith) ∙ inside k less)) reads;
        regions = regions_frame second table 0x2D (length q.regions.items) (λ p low high. below_ext p (omega arith) (omega arith)) ∙ regions;
        ext = ext;
        free = free_kept below_head below_regions below_ext free;
      }
