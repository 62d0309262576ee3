-- Blocks that follow each other.
use Rattle.std.proofs.Common.{◌≡◌, ◌+◌, ◌<◌, ◌≤◌, ◌⊎◌, inl, inr, ℕ, zero, suc, refl, ap, subst, arith, true, false, ◌==◌, nat_lt, List, [], ◌∷◌, length, get_or}
use Rattle.std.specs.Prelude.{IsTrue}
use Rattle.std.specs.List.Sorted.{IsNonDecreasingBy}
use Rattle.std.proofs.lemmas.Bool.{cases_lt}
use Rattle.nor_cell.proofs.Logic.{both_pass, same_number, passes_below, fails_behind}
use Rattle.nor_cell.specs.Chip.{span_end, has_blocks, blocks_end, block, block_at}
use Rattle.nor_cell.specs.Ranges.{follow_to, are_blocks}
use Rattle.nor_cell.specs.declared.device.Span.{Span}

-- the first span begins where it should, and the others follow
pub first_follows : (end from : ℕ) (span : Span) (spans : List Span) → follow_to end from (span ∷ spans) ≡ true →
    (span.from ≡ from) × (follow_to end (from + span.len) spans ≡ true)
first_follows end from span spans h =
    let b = both_pass (span.from == from) (follow_to end (from + span.len) spans) h in (same_number span.from from b.0, b.1)

-- they don't end before they begin
pub ends_behind : (end from : ℕ) (spans : List Span) → follow_to end from spans ≡ true → from ≤ end
ends_behind end from [] h = let e = same_number from end h in omega arith
ends_behind end from (span ∷ spans) h =
    let f = first_follows end from span spans h in
    let rest = ends_behind end (from + span.len) spans f.1 in omega arith

-- each ends between the beginning and the end
pub ends_between : (end from : ℕ) (spans : List Span) (k : ℕ) (d : Span) → follow_to end from spans ≡ true → k < length spans →
    (from ≤ span_end (get_or spans k d)) × (span_end (get_or spans k d) ≤ end)
ends_between end from [] k d h lt = absurd (omega arith)
ends_between end from (span ∷ spans) zero d h lt =
    let f = first_follows end from span spans h in
    let rest = ends_behind end (from + span.len) spans f.1 in (omega arith, omega arith)
ends_between end from (span ∷ spans) (suc k) d h lt =
    let f = first_follows end from span spans h in
    let rest = ends_between end (from + span.len) spans k d f.1 (omega arith) in (omega arith, rest.1)

ends_rise_from : (end from : ℕ) (spans : List Span) → follow_to end from spans ≡ true → IsNonDecreasingBy span_end spans
ends_rise_from end from [] h i j d le lt = absurd (omega arith)
ends_rise_from end from (span ∷ spans) h zero zero d le lt = omega arith
ends_rise_from end from (span ∷ spans) h zero (suc j) d le lt =
    let f = first_follows end from span spans h in
    let rest = ends_between end (from + span.len) spans j d f.1 (omega arith) in omega (arith, rest.0)
ends_rise_from end from (span ∷ spans) h (suc i) zero d le lt = absurd (omega arith)
ends_rise_from end from (span ∷ spans) h (suc i) (suc j) d le lt =
    let f = first_follows end from span spans h in
    ends_rise_from end (from + span.len) spans f.1 i j d (omega arith) (omega arith)

-- the ends of blocks rise
pub ends_rise : (size : ℕ) (blocks : List Span) → IsTrue (are_blocks size blocks) → IsNonDecreasingBy span_end blocks
ends_rise size [] h i j d le lt = absurd (omega arith)
ends_rise size (span ∷ blocks) h i j d le lt = ends_rise_from size 0 (span ∷ blocks) h i j d le lt

-- each block lies in the chip
pub block_inside : (size : ℕ) (blocks : List Span) (b : ℕ) (d : Span) → IsTrue (are_blocks size blocks) → b < length blocks → span_end (get_or blocks b d) ≤ size
block_inside size [] b d h lt = absurd (omega arith)
block_inside size (span ∷ blocks) b d h lt = let e = ends_between size 0 (span ∷ blocks) b d h lt in e.1

-- the last block ends where the chip does
end_from : (end from : ℕ) (span : Span) (spans : List Span) → follow_to end from (span ∷ spans) ≡ true → blocks_end (span ∷ spans) ≡ end
end_from end from span [] h =
    let f = first_follows end from span [] h in
    let e = same_number (from + span.len) end f.1 in omega arith
end_from end from span (next ∷ spans) h =
    let f = first_follows end from span (next ∷ spans) h in end_from end (from + span.len) next spans f.1

pub blocks_end_is : (size : ℕ) (blocks : List Span) → IsTrue (are_blocks size blocks) → has_blocks blocks ≡ true → blocks_end blocks ≡ size
blocks_end_is size [] h some = cc
blocks_end_is size (span ∷ blocks) h some = end_from size 0 span blocks h

-- ---- the block of a place

later_block : (span : Span) (blocks : List Span) (n : ℕ) → block (span ∷ blocks) (1 + n) ≡ block blocks n
later_block span blocks n = let e : 1 + n ≡ suc n = omega arith in ap (block (span ∷ blocks)) e

same_by : (span : Span) (blocks : List Span) (p q : ℕ) → p ≤ q → q < span_end (block (span ∷ blocks) (block_at (span ∷ blocks) p))
    → (q < span_end (block blocks (block_at blocks p)) → block_at blocks q ≡ block_at blocks p)
    → (p < span_end span) ⊎ (span_end span ≤ p) → block_at (span ∷ blocks) q ≡ block_at (span ∷ blocks) p
same_by span blocks p q le lt rest (inl low) =
    let here = passes_below p (span_end span) low in
    let there : nat_lt q (span_end span) ≡ true = passes_below q (span_end span) (rw here at lt) in rw (here, there) refl
same_by span blocks p q le lt rest (inr high) =
    let here = fails_behind p (span_end span) high in
    let there : nat_lt q (span_end span) ≡ false = fails_behind q (span_end span) (omega arith) in
    rw (here, there) (ap (λ (n : ℕ). 1 + n) (rest (subst (λ (b : Span). q < span_end b) (later_block span blocks (block_at blocks p)) (rw here at lt))))

-- a place that lies behind another, before the end of its block, is in the same block
pub same_block : (blocks : List Span) (p q : ℕ) → p ≤ q → q < span_end (block blocks (block_at blocks p)) → block_at blocks q ≡ block_at blocks p
same_block [] p q le lt = refl
same_block (span ∷ blocks) p q le lt = same_by span blocks p q le lt (same_block blocks p q le) (cases_lt p (span_end span))

rises_by : (span : Span) (blocks : List Span) (p q : ℕ) → p ≤ q → block_at blocks p ≤ block_at blocks q
    → (p < span_end span) ⊎ (span_end span ≤ p) → block_at (span ∷ blocks) p ≤ block_at (span ∷ blocks) q
rises_by span blocks p q le rest (inl low) = let here = passes_below p (span_end span) low in rw here (omega arith)
rises_by span blocks p q le rest (inr high) =
    let here = fails_behind p (span_end span) high in
    let there : nat_lt q (span_end span) ≡ false = fails_behind q (span_end span) (omega arith) in rw (here, there) (omega arith)

-- the blocks of places rise with them
pub block_rises : (blocks : List Span) (p q : ℕ) → p ≤ q → block_at blocks p ≤ block_at blocks q
block_rises [] p q le = omega arith
block_rises (span ∷ blocks) p q le = rises_by span blocks p q le (block_rises blocks p q le) (cases_lt p (span_end span))
