-- What it says of a table that its checks hold.
use Rattle.std.proofs.Common.{◌≡◌, ◌≤◌, ℕ, ◌+◌, ◌*◌, ◌^◌, List, [], ◌∷◌, ◌++◌, refl, ◌∙◌, ap, arith, Bool, true, false}
use Rattle.std.specs.Prelude.{◌==◌, ◌||◌, nat_le, if◌then◌else◌, Option, Some, None}
use Rattle.std.proofs.lemmas.Bool.{and_parts, leb-true, eqb-true, eqb-false, not-true, cond-true}
use Rattle.nor_cell.specs.Table.{field_8, field_16, extended_at, extended, set_of}
use Rattle.nor_region.specs.Regions.{total_len}
use Rattle.nor_query.specs.Checks.{Check, head_checks, extended_checks, sum_check, first_of, first_error}
use Rattle.nor_query.specs.Fields.{region_count, regions_of, named_len}
use Rattle.nor_query.specs.declared.error.QueryError.{QueryError}

-- each of some checks holds
abbrev pub AllHold : List Check → Type 0
AllHold [] = Unit {0}
AllHold (c ∷ checks) = (c.holds ≡ true) × AllHold checks

-- a check that says nothing holds, and leaves the word to the later ones
one_holds : (b : Bool) (error : QueryError) (later : Option QueryError) → (if b then later else Some error) ≡ None → (b ≡ true) × (later ≡ None)
one_holds true error later silent = (refl, silent)
one_holds false error later silent = absurd (cc)

-- where none is the first that fails, all hold
pub all_hold : (checks : List Check) → first_of checks ≡ None → AllHold checks
all_hold [] silent = tt
all_hold (c ∷ checks) silent =
    let both = one_holds c.holds c.error (first_of checks) silent in
    (both.0, all_hold checks both.1)

-- and where all hold, none fails
pub none_fails : (checks : List Check) → AllHold checks → first_of checks ≡ None
none_fails [] all = refl
none_fails (c ∷ checks) all = cond-true c.holds (first_of checks) (Some c.error) all.0 ∙ none_fails checks all.1

-- two groups of checks
pub parts_hold : (xs ys : List Check) → AllHold (xs ++ ys) → AllHold xs × AllHold ys
parts_hold [] ys all = (tt, all)
parts_hold (x ∷ xs) ys all =
    let rest = parts_hold xs ys all.1 in
    ((all.0, rest.0), rest.1)

-- and two groups together
pub both_hold : (xs ys : List Check) → AllHold xs → AllHold ys → AllHold (xs ++ ys)
both_hold [] ys all later = later
both_hold (x ∷ xs) ys all later = (all.0, both_hold xs ys all.1 later)

-- the head is in range
pub record HeadPasses (table : List ℕ) : Type 0 where
  pub q : field_8 table 0x10 ≡ 0x51
  pub r : field_8 table 0x11 ≡ 0x52
  pub y : field_8 table 0x12 ≡ 0x59
  pub set : (field_16 table 0x13 == 1 || field_16 table 0x13 == 2) ≡ true
  pub size_low : 12 ≤ field_8 table 0x27
  pub size_high : field_8 table 0x27 ≤ 27
  pub interface : field_16 table 0x28 ≤ 2
  pub some : region_count table ≡ 0 → ⊥
  pub few : region_count table ≤ 8

-- the checks of the head say so
pub head_passes : (table : List ℕ) → AllHold (head_checks table) → HeadPasses table
head_passes table all =
    let size = and_parts (nat_le 12 (field_8 table 0x27)) (nat_le (field_8 table 0x27) 27) all.1.1.1.1.0 in
    record {
      q = eqb-true _ _ all.0;
      r = eqb-true _ _ all.1.0;
      y = eqb-true _ _ all.1.1.0;
      set = all.1.1.1.0;
      size_low = leb-true _ _ size.0;
      size_high = leb-true _ _ size.1;
      interface = leb-true _ _ all.1.1.1.1.1.0;
      some = eqb-false _ _ (not-true _ all.1.1.1.1.1.1.0);
      few = leb-true _ _ all.1.1.1.1.1.1.1.0;
    }

-- and so is the extended table
pub record ExtendedPasses (table : List ℕ) : Type 0 where
  pub behind : 0x2D + 4 * region_count table ≤ extended_at table
  pub inside : extended_at table + named_len (set_of table) ≤ 512
  pub p : extended table 0 ≡ 0x50
  pub r : extended table 1 ≡ 0x52
  pub i : extended table 2 ≡ 0x49
  pub major : extended table 3 ≡ 0x31
  pub minor_low : 0x30 ≤ extended table 4
  pub minor_high : extended table 4 ≤ 0x35

-- the checks of the extended table say so
pub extended_passes : (table : List ℕ) → AllHold (extended_checks table) → ExtendedPasses table
extended_passes table all =
    let place = and_parts (nat_le (0x2D + 4 * region_count table) (extended_at table)) (nat_le (extended_at table + named_len (set_of table)) 0x200) all.0 in
    let minor = and_parts (nat_le 0x30 (extended table 4)) (nat_le (extended table 4) 0x35) all.1.1.1.1.1.0 in
    let begin : extended_at table + 0 ≡ extended_at table = omega arith in
    record {
      behind = leb-true _ _ place.0;
      inside = leb-true _ _ place.1;
      p = ap (λ at. field_8 table at) begin ∙ eqb-true _ _ all.1.0;
      r = eqb-true _ _ all.1.1.0;
      i = eqb-true _ _ all.1.1.1.0;
      major = eqb-true _ _ all.1.1.1.1.0;
      minor_low = leb-true _ _ minor.0;
      minor_high = leb-true _ _ minor.1;
    }

pub record Passes (table : List ℕ) : Type 0 where
  pub head : HeadPasses table
  pub ext : ExtendedPasses table
  pub sum : total_len (regions_of table) ≡ 2 ^ field_8 table 0x27

-- a table without an error passes each check
pub passes : (table : List ℕ) → first_error table ≡ None → Passes table
passes table silent =
    let head = parts_hold (head_checks table) (extended_checks table ++ sum_check table ∷ []) (all_hold (head_checks table ++ (extended_checks table ++ sum_check table ∷ [])) silent) in
    let ext = parts_hold (extended_checks table) (sum_check table ∷ []) head.1 in
    record {
      head = head_passes table head.0;
      ext = extended_passes table ext.0;
      sum = eqb-true _ _ ext.1.0;
    }
