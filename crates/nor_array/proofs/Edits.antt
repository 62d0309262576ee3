-- Bytes that change in named places, and set no bit but in some of them.
use Rattle.std.proofs.Common.{◌≡◌, ◌<◌, ◌≤◌, ◌+◌, ◌-◌, ℕ, List, length, slice_index, refl, sym, ap, arith, ◌∙◌, Bool, true, false, inl, inr}
use Rattle.std.specs.Prelude.{bit_and}
use Rattle.std.specs.Int.Bits.{and_self}
use Rattle.std.proofs.lemmas.Bool.{cases_lt}
use Rattle.std.proofs.lemmas.List.{get_or_past}
use Rattle.std.proofs.lemmas.Nat.{and_comm, and_assoc, and_le_r}
use Rattle.nor_cell.specs.Bits.{AreBytes}
use Rattle.nor_array.specs.Array.{put, range}
use Rattle.nor_array.specs.After.{all_and, programmed}
use Rattle.nor_array.specs.Admits.{AllBetween}
use Rattle.nor_array.proofs.Puts.{length-put, put_below, put_inside, put_above, AreBytes-put, length-range, slice_index-range, AreBytes-range, AreBytes-all_and, length-programming, slice_index-all_and}

pub record Edits (named erased : ℕ → Bool) (old new : List ℕ) : Type 0 where
  pub bytes : AreBytes new
  pub size : length new ≡ length old
  pub kept : (p : ℕ) → named p ≡ false → slice_index new p ≡ slice_index old p
  pub clears : (p : ℕ) → erased p ≡ false → bit_and (slice_index new p) (slice_index old p) ≡ slice_index new p

-- no change
pub no_edit : (named erased : ℕ → Bool) (bytes : List ℕ) → AreBytes bytes → Edits named erased bytes bytes
no_edit named erased bytes are = record { bytes = are; size = refl; kept = λ p not. refl; clears = λ p not. and_self (slice_index bytes p) }

-- old AND datum has no bit that old lacks
pub and_within : (x y : ℕ) → bit_and (bit_and x y) x ≡ bit_and x y
and_within x y = and_assoc x x y ∙ ap (bit_and x) (and_comm y x) ∙ sym (and_assoc y x x) ∙ ap (λ z. bit_and z y) (and_self x)

-- what only clears bits twice
within_both : (x y z : ℕ) → bit_and z y ≡ z → bit_and y x ≡ y → bit_and z x ≡ z
within_both x y z second first = ap (λ k. bit_and k x) (sym second) ∙ and_assoc x z y ∙ ap (bit_and z) first ∙ second

-- one change after another
pub edit_again : (named erased : ℕ → Bool) (x y z : List ℕ) → Edits named erased x y → Edits named erased y z → Edits named erased x z
edit_again named erased x y z first second = record {
  bytes = second.bytes;
  size = second.size ∙ first.size;
  kept = λ p not. second.kept p not ∙ first.kept p not;
  clears = λ p not. within_both (slice_index x p) (slice_index y p) (slice_index z p) (second.clears p not) (first.clears p not);
}

-- bytes put in the place of others
pub put_edit : (named erased : ℕ → Bool) (old : List ℕ) (at : ℕ) (new : List ℕ) → at + length new ≤ length old → AreBytes old → AreBytes new
    → ((p : ℕ) → at ≤ p → p < at + length new → named p ≡ true)
    → ((p : ℕ) → at ≤ p → p < at + length new → erased p ≡ false → bit_and (slice_index new (p - at)) (slice_index old p) ≡ slice_index new (p - at))
    → Edits named erased old (put old at new)
put_edit named erased old at new fits old_are new_are inside clear = record {
  bytes = AreBytes-put old at new fits old_are new_are;
  size = length-put old at new fits;
  kept = λ p not. elim (cases_lt p at) as (λ s. slice_index (put old at new) p ≡ slice_index old p) [
    | inl low ↦ put_below old at new fits p low
    | inr from ↦ elim (cases_lt p (at + length new)) as (λ s. slice_index (put old at new) p ≡ slice_index old p) [
      | inl high ↦ absurd (let is = inside p from high in let no : true ≡ false = sym is ∙ not in cc)
      | inr past ↦ put_above old at new fits p past
    ]
  ];
  clears = λ p not. elim (cases_lt p at) as (λ s. bit_and (slice_index (put old at new) p) (slice_index old p) ≡ slice_index (put old at new) p) [
    | inl low ↦ rw (put_below old at new fits p low) (and_self (slice_index old p))
    | inr from ↦ elim (cases_lt p (at + length new)) as (λ s. bit_and (slice_index (put old at new) p) (slice_index old p) ≡ slice_index (put old at new) p) [
      | inl high ↦ rw (put_inside old at new fits p from high) (clear p from high not)
      | inr past ↦ rw (put_above old at new fits p past) (and_self (slice_index old p))
    ]
  ];
}

-- what is programmed has no bit that the old byte lacks
programmed_within : (old : List ℕ) (at : ℕ) (new : List ℕ) (p : ℕ) → at + length new ≤ length old → at ≤ p → p < at + length new
    → bit_and (slice_index (all_and (range old at (length new)) new) (p - at)) (slice_index old p) ≡ slice_index (all_and (range old at (length new)) new) (p - at)
programmed_within old at new p fits from high =
    let low : p - at < length new = omega arith in
    let many = length-range old at (length new) fits in
    let place : at + (p - at) ≡ p = omega arith in
    let there : slice_index (range old at (length new)) (p - at) ≡ slice_index old p = slice_index-range old at (length new) (p - at) low ∙ ap (slice_index old) place in
    let is : slice_index (all_and (range old at (length new)) new) (p - at) ≡ bit_and (slice_index old p) (slice_index new (p - at)) =
    slice_index-all_and (p - at) (range old at (length new)) new (omega arith) low ∙ ap (λ x. bit_and x (slice_index new (p - at))) there in
    rw is (and_within (slice_index old p) (slice_index new (p - at)))

-- a range that is programmed
pub program_edit : (named erased : ℕ → Bool) (old : List ℕ) (at : ℕ) (new : List ℕ) → at + length new ≤ length old → AreBytes old
    → ((p : ℕ) → at ≤ p → p < at + length new → named p ≡ true) → Edits named erased old (programmed old at new)
program_edit named erased old at new fits are inside =
    let stored = all_and (range old at (length new)) new in
    let many : length stored ≡ length new = length-programming old at new fits in
    put_edit named erased old at stored (omega arith) are (AreBytes-all_and (range old at (length new)) new (AreBytes-range old at (length new) are))
    (λ p from high. inside p from (omega arith))
    (λ p from high not. programmed_within old at new p fits from (omega arith))

-- each byte may stay as it is
pub all_old : (old new : List ℕ) → AllBetween old new old
all_old old new = record {
  size = refl;
  each = λ k less. record { clears_only = and_self (slice_index old k); keeps = ap (λ x. bit_and x (slice_index new k)) (and_self (slice_index old k)) };
}

-- bytes between bytes are bytes
AreBytes-between : (old new bytes : List ℕ) → AreBytes old → AllBetween old new bytes → AreBytes bytes
AreBytes-between old new bytes are between k = elim (cases_lt k (length old)) [
  | inl low ↦
      let clears = (between.each k low).clears_only in
      let less = are k in
      let below = and_le_r (slice_index bytes k) (slice_index old k) in
      omega arith
  | inr past ↦
      let many = between.size in
      let out : length bytes ≤ k = omega arith in
      let none : slice_index bytes k ≡ 0 = get_or_past bytes k 0 out in
      omega arith
]

-- Bytes between those of a range, put there after other changes that left the range alone but where bits may be set.
pub between_edit : (named erased : ℕ → Bool) (old so_far : List ℕ) (at len : ℕ) (new bytes : List ℕ) → AreBytes old → Edits named erased old so_far → at + len ≤ length old
    → AllBetween (range old at len) new bytes → ((p : ℕ) → at ≤ p → p < at + len → named p ≡ true)
    → ((p : ℕ) → at ≤ p → p < at + len → erased p ≡ false → slice_index so_far p ≡ slice_index old p) → Edits named erased old (put so_far at bytes)
between_edit named erased old so_far at len new bytes are first fits between names left =
    let size = between.size in
    let many : length bytes ≡ len = size ∙ length-range old at len fits in
    let wide = first.size in
    edit_again named erased old so_far (put so_far at bytes) first
    (put_edit named erased so_far at bytes (omega arith) first.bytes (AreBytes-between (range old at len) new bytes (AreBytes-range old at len are) between)
    (λ p from high. names p from (omega arith))
    (λ p from high not.
    let low : p - at < len = omega arith in
    let place : at + (p - at) ≡ p = omega arith in
    let there : slice_index (range old at len) (p - at) ≡ slice_index so_far p =
    slice_index-range old at len (p - at) low ∙ ap (slice_index old) place ∙ sym (left p from (omega arith) not) in
    let within : p - at < length (range old at len) = omega (arith, length-range old at len fits) in
    ap (bit_and (slice_index bytes (p - at))) (sym there) ∙ (between.each (p - at) within).clears_only))

-- more places named
pub edit_named : (narrow wide erased : ℕ → Bool) (old new : List ℕ) → ((p : ℕ) → wide p ≡ false → narrow p ≡ false) → Edits narrow erased old new → Edits wide erased old new
edit_named narrow wide erased old new more edits = record { bytes = edits.bytes; size = edits.size; kept = λ p not. edits.kept p (more p not); clears = edits.clears }
