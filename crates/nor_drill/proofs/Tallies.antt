-- What a tally has counted of the entries that it took.
use Rattle.std.proofs.Common.{◌≡◌, ◌⊎◌, ◌<◌, ◌+◌, ◌-◌, ◌^◌, ◌∙◌, ◌∷◌, ◌==◌, [], inl, inr, min, ℕ, suc, List, length, slice_index, Bool, true, false, cond, sym, ap, arith}
use Rattle.std.specs.declared.convert.Infallible.{Infallible}
use Rattle.std.specs.List.{filter, slice_set}
use Rattle.std.proofs.lemmas.Bool.{cases_eq}
use Rattle.std.proofs.lemmas.List.{length-set, length-replicate, get_or-replicate, get_or-set_same, get_or-set_other}
use Rattle.std.proofs.lemmas.List.FromFn.{fill_by_all}
use Rattle.nor_array.specs.declared.entry.Entry.{Entry}
use Rattle.nor_run.specs.Taking.{TakesAll}
use Rattle.nor_cell.proofs.Logic.{same_self}
use Rattle.nor_drill.specs.Summary.{place_of_entry, count_of, no_counts, Counts, TalliesCount}

-- one more where the entry counts there
one_more : Bool → ℕ
one_more true = 1
one_more false = 0

with_one : (here : Bool) (e : Entry) (es : List Entry) → length (cond here (e ∷ es) es) ≡ one_more here + length es
unfolding one_more
with_one true e es = let one : suc (length es) ≡ 1 + length es = omega arith in one
with_one false e es = let none : length es ≡ 0 + length es = omega arith in none

other_place : (place k : ℕ) → (place ≡ k → ⊥) → (place == k) ≡ false
other_place place k differ = grind arith

counted_at : (place k : ℕ) (counts : List ℕ) → k < length counts → slice_index counts k + 1 < 2 ^ 64
    → slice_index (slice_set counts place (min (slice_index counts place + 1) (2 ^ 64 - 1))) k ≡ one_more (place == k) + slice_index counts k
unfolding one_more
counted_at place k counts inside small = by_place (cases_eq place k)
  where
    by_place : (place ≡ k) ⊎ (place ≡ k → ⊥)
        → slice_index (slice_set counts place (min (slice_index counts place + 1) (2 ^ 64 - 1))) k ≡ one_more (place == k) + slice_index counts k
    by_place (inl is) =
        let low : min (slice_index counts k + 1) (2 ^ 64 - 1) ≡ 1 + slice_index counts k = omega (arith, small) in
        ap (λ (p : ℕ). slice_index (slice_set counts p (min (slice_index counts p + 1) (2 ^ 64 - 1))) k) is
        ∙ get_or-set_same counts k (min (slice_index counts k + 1) (2 ^ 64 - 1)) 0 inside ∙ low
        ∙ sym (ap (λ (b : Bool). one_more b + slice_index counts k) (ap (λ (p : ℕ). p == k) is ∙ same_self k))
    by_place (inr differ) =
        let none : slice_index counts k ≡ 0 + slice_index counts k = omega arith in
        get_or-set_other counts place k (min (slice_index counts place + 1) (2 ^ 64 - 1)) 0 (λ h. differ (sym h)) ∙ none
        ∙ sym (ap (λ (b : Bool). one_more b + slice_index counts k) (other_place place k differ))

-- under the word in a place the tally has counted so many of the entries more
pub took_counts : (E : Type 0) (k position : ℕ) (es : List Entry) (before after : List ℕ) → TakesAll (Counts {E = E}) position es before after
    → k < length before → slice_index before k + length es < 2 ^ 64
    → (length after ≡ length before) × (slice_index after k ≡ count_of es k + slice_index before k)
unfolding one_more
took_counts E k position [] before after took inside small =
    let none : slice_index before k ≡ 0 + slice_index before k = omega arith in
    (ap (λ (xs : List ℕ). length xs) took, ap (λ (xs : List ℕ). slice_index xs k) took ∙ none)
took_counts E k position (e ∷ es) before after took inside small =
    let place = place_of_entry e in
    let value = min (slice_index before place + 1) (2 ^ 64 - 1) in
    let mid : List ℕ = took.0 in
    let is : mid ≡ slice_set before place value = took.1.1 in
    let size : length mid ≡ length before = ap (λ (xs : List ℕ). length xs) is ∙ length-set before place value in
    let now : slice_index mid k ≡ one_more (place == k) + slice_index before k =
    ap (λ (xs : List ℕ). slice_index xs k) is ∙ counted_at place k before inside (omega (arith, small)) in
    let few : slice_index mid k + length es < 2 ^ 64 = omega (arith, now, small, at_most (place == k)) in
    let rest = took_counts E k (position + 1) es mid after took.2 (omega (arith, inside, size)) few in
    let more : count_of (e ∷ es) k ≡ one_more (place == k) + count_of es k = with_one (place == k) e (filter (λ f. place_of_entry f == k) es) in
    (rest.0 ∙ size, omega (arith, rest.1, now, more))
  where
    at_most : (b : Bool) → one_more b < 2
    at_most true = omega arith
    at_most false = omega arith

sized : (E : Type 0) (position : ℕ) (es : List Entry) (before after : List ℕ) → TakesAll (Counts {E = E}) position es before after → length after ≡ length before
sized E position [] before after took = ap (λ (xs : List ℕ). length xs) took
sized E position (e ∷ es) before after took =
    let place = place_of_entry e in
    sized E (position + 1) es took.0 after took.2
    ∙ (ap (λ (xs : List ℕ). length xs) took.1.1 ∙ length-set before place (min (slice_index before place + 1) (2 ^ 64 - 1)))

pub tallies : TalliesCount
tallies es counts took few =
    let none : (k : ℕ) → k < 17 → slice_index no_counts k ≡ 0 = λ k below. get_or-replicate {A = ℕ} 17 k 0 0 below in
    let start : length no_counts ≡ 17 = length-replicate {A = ℕ} 17 0 in
    fill_by_all (count_of es) counts 17 0 (sized Infallible 0 es no_counts counts took ∙ start)
    (λ k below.
    let zero_there = none k below in
    let so = took_counts Infallible k 0 es no_counts counts took (omega (arith, below, start)) (omega (arith, zero_there, few)) in
    let there = so.1 in
    omega (arith, there, zero_there))
