-- Which lanes break off in a bus word that is programmed.
use Rattle.std.proofs.Common.{◌≡◌, ◌<◌, ◌≤◌, ◌+◌, ◌-◌, ◌*◌, ◌/◌, ◌%◌, ◌⊎◌, inl, inr, ℕ, List, length, slice_index, sym, ap, ◌∙◌, arith, bit_and, Bool, true, false, not, ◌&&◌, ◌==◌, nat_le, nat_lt}
use Rattle.std.specs.List.{list_any}
use Rattle.std.proofs.lemmas.Bool.{cases_lt}
use Rattle.std.proofs.lemmas.Bool.Decides.{nat_tests}
use Rattle.std.proofs.Math.Nat.{mul-le-mul_right, lt_of_mul-lt-mul_right}
use Rattle.nor_cell.specs.Bits.{unit_len}
use Rattle.nor_cell.specs.Ranges.{begin_units}
use Rattle.nor_cell.specs.Wiring.{bank_place}
use Rattle.nor_cell.specs.declared.device.Device.{Device}
use Rattle.nor_cell.specs.declared.device.Device.TheVariants.{X8, X16, X16Byte}
use Rattle.nor_cell.specs.declared.geometry.Geometry.{Geometry}
use Rattle.nor_cell.proofs.Logic.{both_pass, same_self, is_below, is_at_most, passes_below, all_three}
use Rattle.nor_bank.specs.Programs.{changes_at, datum_at, unit_passes}
use Rattle.nor_bank.proofs.Anding.{and_ones}
use Rattle.nor_bank.proofs.Changing.{lowest_some}
use Rattle.nor_bank.proofs.Padding.{datum_in, datum_out}
use Rattle.nor_bank.proofs.Searching.{same_answer, any_so, any_none, any_neither, Passes, lowest_passes}

-- ---- one byte

pub at_most : (x y : ℕ) → x ≤ y → nat_le x y ≡ true
at_most x y le = grind (arith, nat_tests)

inside : (byte : ℕ → ℕ) (at : ℕ) (new : List ℕ) (a : ℕ) → at ≤ a → a < at + length new
    → changes_at byte at new a ≡ not (bit_and (byte a) (slice_index new (a - at)) == byte a)
inside byte at new a begins ends =
    let changes = not (bit_and (byte a) (slice_index new (a - at)) == byte a) in
    ap (λ (b : Bool). b && nat_lt a (at + length new) && changes) (at_most at a begins)
    ∙ ap (λ (b : Bool). b && changes) (passes_below a (at + length new) ends)

pub outside : (byte : ℕ → ℕ) (at : ℕ) (new : List ℕ) (a : ℕ) → (a < at) ⊎ (at + length new ≤ a) → changes_at byte at new a ≡ false
outside byte at new a (inl low) = grind (arith, nat_tests, low)
outside byte at new a (inr past) = grind (arith, nat_tests, past)

ones_change_none : (byte : ℕ → ℕ) (at : ℕ) (new : List ℕ) (a : ℕ) → byte a < 256 → (a < at) ⊎ (at + length new ≤ a)
    → not (bit_and (byte a) (datum_at at new a) == byte a) ≡ changes_at byte at new a
ones_change_none byte at new a small out =
    ap (λ (n : ℕ). not (bit_and (byte a) n == byte a)) (datum_out at new a out)
    ∙ (ap (λ (n : ℕ). not (n == byte a)) (and_ones (byte a) small) ∙ (ap not (same_self (byte a)) ∙ sym (outside byte at new a out)))

-- A byte would change where the datum of its place clears a bit of it.
pub changes_datum : (byte : ℕ → ℕ) (at : ℕ) (new : List ℕ) (a : ℕ) → byte a < 256
    → not (bit_and (byte a) (datum_at at new a) == byte a) ≡ changes_at byte at new a
changes_datum byte at new a small = elim (cases_lt a at) [
  | inl low ↦ ones_change_none byte at new a small (inl low)
  | inr begins ↦ elim (cases_lt a (at + length new)) [
    | inl ends ↦
        ap (λ (n : ℕ). not (bit_and (byte a) n == byte a)) (datum_in at new a begins ends) ∙ sym (inside byte at new a begins ends)
    | inr past ↦ ones_change_none byte at new a small (inr past)
  ]
]

-- one that would is in the range
pub changes_in : (byte : ℕ → ℕ) (at : ℕ) (new : List ℕ) (a : ℕ) → changes_at byte at new a ≡ true → (at ≤ a) × (a < at + length new)
changes_in byte at new a changes =
    let outer = both_pass (nat_le at a && nat_lt a (at + length new)) (not (bit_and (byte a) (slice_index new (a - at)) == byte a)) changes in
    let inner = both_pass (nat_le at a) (nat_lt a (at + length new)) outer.0 in
    (is_at_most at a inner.0, is_below a (at + length new) inner.1)

-- A byte with the datum of which nothing is cleared stays.
pub still_byte : (byte : ℕ → ℕ) (at : ℕ) (new : List ℕ) (a : ℕ) → byte a < 256 → bit_and (byte a) (datum_at at new a) ≡ byte a
    → changes_at byte at new a ≡ false
still_byte byte at new a small still =
    sym (changes_datum byte at new a small) ∙ (ap (λ (n : ℕ). not (n == byte a)) still ∙ ap not (same_self (byte a)))

-- ---- one unit

-- A byte of the unit at place p of lane c passes, and the unit begins from one place on and before another.
pub record UnitPasses (n d : ℕ) (test : ℕ → Bool) (from to c p : ℕ) : Type 0 where
  pub begins : from ≤ bank_place n d c p
  pub ends : bank_place n d c p < to
  pub byte : Passes test (bank_place n d c p) d

pub unit_passing : (g : Geometry) (test : ℕ → Bool) (from to c p : ℕ) → unit_passes g test from to c p ≡ true
    → UnitPasses g.lanes (unit_len g.device) test from to c p
unit_passing g test from to c p is =
    let place = bank_place g.lanes (unit_len g.device) c p in
    let outer = both_pass (nat_le from place && nat_lt place to) _ is in
    let inner = both_pass (nat_le from place) (nat_lt place to) outer.0 in
    record { begins = is_at_most from place inner.0; ends = is_below place to inner.1; byte = lowest_passes test place (unit_len g.device) outer.1 }

pub unit_passed : (g : Geometry) (test : ℕ → Bool) (from to c p q : ℕ) → from ≤ bank_place g.lanes (unit_len g.device) c p
    → bank_place g.lanes (unit_len g.device) c p < to → bank_place g.lanes (unit_len g.device) c p ≤ q
    → q < bank_place g.lanes (unit_len g.device) c p + unit_len g.device → test q ≡ true → unit_passes g test from to c p ≡ true
unit_passed g test from to c p q begins ends low high is =
    let place = bank_place g.lanes (unit_len g.device) c p in
    all_three (nat_le from place) (nat_lt place to) _ (at_most from place begins) (passes_below place to ends)
    (lowest_some test place (unit_len g.device) q low high is)

-- The unit lies in one bus word.
pub record UnitLies (n d c p : ℕ) : Type 0 where
  pub place : bank_place n d c p ≡ p / d * (n * d) + c * d
  pub begins : p / d * (n * d) ≤ bank_place n d c p
  pub ends : bank_place n d c p + d ≤ p / d * (n * d) + n * d

pub unit_lies : (n d c p : ℕ) → c < n → p % d ≡ 0 → UnitLies n d c p
unit_lies n d c p below whole =
    let place : bank_place n d c p ≡ p / d * (n * d) + c * d = omega (arith, whole) in
    let fits = mul-le-mul_right d (let h : c + 1 ≤ n = omega (arith, below) in h) in
    record { place = place; begins = omega (arith, place); ends = omega (arith, place, fits) }

-- One that begins before the end of a bus word ends before it, and one that ends behind its begin begins there.
pub unit_before : (n d v c p : ℕ) → c < n → p % d ≡ 0 → bank_place n d c p < v * (n * d) → bank_place n d c p + d ≤ v * (n * d)
unit_before n d v c p below whole to =
    let lies = unit_lies n d c p below whole in
    let first = lies.begins in
    let last = lies.ends in
    let less : p / d < v = lt_of_mul-lt-mul_right (n * d) (let h : p / d * (n * d) < v * (n * d) = omega (arith, first, to) in h) in
    let next = mul-le-mul_right (n * d) (let h : p / d + 1 ≤ v = omega (arith, less) in h) in
    omega (arith, last, next)

pub unit_behind : (n d u c p : ℕ) → c < n → p % d ≡ 0 → u * (n * d) < bank_place n d c p + d → u * (n * d) ≤ bank_place n d c p
unit_behind n d u c p below whole from =
    let lies = unit_lies n d c p below whole in
    let first = lies.begins in
    let last = lies.ends in
    let order : u < p / d + 1 = lt_of_mul-lt-mul_right (n * d) (let h : u * (n * d) < (p / d + 1) * (n * d) = omega (arith, from, last) in h) in
    let row = mul-le-mul_right (n * d) (let h : u ≤ p / d = omega (arith, order) in h) in
    omega (arith, first, row)

-- a byte of a unit is its first or its last
pub unit_ends : (device : Device) (k : ℕ) → k < unit_len device → (k ≡ 0) ⊎ (k ≡ unit_len device - 1)
unit_ends X8 k less = inl (omega arith)
unit_ends X16Byte k less = inl (omega arith)
unit_ends X16 k less = elim (cases_lt k 1) [
  | inl low ↦ inl (omega arith)
  | inr high ↦ inr (omega arith)
]

-- ---- up to the end of a bus word

-- A unit that begins before the end of a bus word ends before it.
module _ (g : Geometry) (w v from c p : ℕ) (test other : ℕ → Bool) (wide : g.lanes * unit_len g.device ≡ w) (below : c < g.lanes) (whole : p % unit_len g.device ≡ 0) where
  abbrev unit : ℕ
  unit = unit_len g.device

  -- a byte of it that passes
  record InThis : Type 0 where
    place : ℕ
    from_on : from ≤ place
    before : place < v * w
    passes : test place ≡ true
    begins : bank_place g.lanes unit c p ≤ place
    ends : place < bank_place g.lanes unit c p + unit

  in_this : UnitPasses g.lanes unit test from (v * w) c p → InThis
  in_this passing =
      let begins = passing.begins in
      let ends = passing.ends in
      let low = passing.byte.from in
      let high = passing.byte.before in
      let row : v * (g.lanes * unit) ≡ v * w = ap (λ (n : ℕ). v * n) wide in
      let last = unit_before g.lanes unit v c p below whole (omega (arith, ends, row)) in
      record {
        place = passing.byte.place;
        from_on = omega (arith, begins, low);
        before = omega (arith, high, last, row);
        passes = passing.byte.passes;
        begins = low;
        ends = high;
      }

  same_there : ((q : ℕ) → from ≤ q → q < v * w → test q ≡ true → other q ≡ true)
      → unit_passes g test from (v * w) c p ≡ true → unit_passes g other from (v * w) c p ≡ true
  same_there so is =
      let passing = unit_passing g test from (v * w) c p is in
      let byte = in_this passing in
      unit_passed g other from (v * w) c p byte.place passing.begins passing.ends byte.begins byte.ends (so byte.place byte.from_on byte.before byte.passes)

  never_there : ((q : ℕ) → from ≤ q → q < v * w → test q ≡ false) → unit_passes g test from (v * w) c p ≡ true → ⊥
  never_there fails is =
      let byte = in_this (unit_passing g test from (v * w) c p is) in
      let both : true ≡ false = sym byte.passes ∙ fails byte.place byte.from_on byte.before in
      cc

module _ (g : Geometry) (w v from c : ℕ) (wide : g.lanes * unit_len g.device ≡ w) (below : c < g.lanes) (weak : List ℕ) (begin : begin_units g.device weak ≡ true) where
  -- Tests that agree from a place on up to the end of a bus word find the same there.
  pub passes_alike : (f h : ℕ → Bool) → ((q : ℕ) → from ≤ q → q < v * w → f q ≡ h q)
      → list_any (unit_passes g f from (v * w) c) weak ≡ list_any (unit_passes g h from (v * w) c) weak
  passes_alike f h same =
      same_answer _ _
      (any_so (unit_len g.device) (unit_passes g f from (v * w) c) (unit_passes g h from (v * w) c) weak begin
      (λ p whole. same_there g w v from c p f h wide below whole (λ q low high is. sym (same q low high) ∙ is)))
      (any_so (unit_len g.device) (unit_passes g h from (v * w) c) (unit_passes g f from (v * w) c) weak begin
      (λ p whole. same_there g w v from c p h f wide below whole (λ q low high is. same q low high ∙ is)))

  -- none where no byte there passes
  pub passes_none : (test : ℕ → Bool) → ((q : ℕ) → from ≤ q → q < v * w → test q ≡ false) → list_any (unit_passes g test from (v * w) c) weak ≡ false
  passes_none test fails =
      any_none (unit_len g.device) (unit_passes g test from (v * w) c) weak begin (λ p whole. never_there g w v from c p test test wide below whole fails)

-- none up to a place, and none from there up to another
pub passes_none_on : (g : Geometry) (test : ℕ → Bool) (mid to end c : ℕ) (weak : List ℕ) → end ≤ to
    → list_any (unit_passes g test 0 mid c) weak ≡ false → list_any (unit_passes g test mid to c) weak ≡ false
    → list_any (unit_passes g test 0 end c) weak ≡ false
passes_none_on g test mid to end c weak within before behind =
    any_neither (unit_passes g test 0 mid c) (unit_passes g test mid to c) (unit_passes g test 0 end c) weak before behind (λ p is.
    let passing = unit_passing g test 0 end c p is in
    let ends = passing.ends in
    let from = passing.byte.from in
    let last = passing.byte.before in
    elim (cases_lt (bank_place g.lanes (unit_len g.device) c p) mid) [
      | inl low ↦ inl (unit_passed g test 0 mid c p passing.byte.place passing.begins low from last passing.byte.passes)
      | inr high ↦ inr (unit_passed g test mid to c p passing.byte.place high (omega (arith, ends, within)) from last passing.byte.passes)
    ])

-- and so before any place below
pub passes_none_less : (g : Geometry) (test : ℕ → Bool) (to end c : ℕ) (weak : List ℕ) → end ≤ to → list_any (unit_passes g test 0 to c) weak ≡ false
    → list_any (unit_passes g test 0 end c) weak ≡ false
passes_none_less g test to end c weak within none =
    any_neither (unit_passes g test 0 to c) (unit_passes g test 0 to c) (unit_passes g test 0 end c) weak none none (λ p is.
    let passing = unit_passing g test 0 end c p is in
    let ends = passing.ends in
    inl (unit_passed g test 0 to c p passing.byte.place passing.begins (omega (arith, ends, within)) passing.byte.from passing.byte.before passing.byte.passes))
