-- Spans that follow each other leave nothing out and share nothing.
use Rattle.std.proofs.Common.{◌≡◌, ◌<◌, ◌≤◌, ℕ, zero, suc, ◌+◌, List, [], ◌∷◌, length, refl, arith, true, inl, inr}
use Rattle.std.proofs.lemmas.Bool.{cases_lt, and_parts, and_from, lt-ltb, le-ltb, le-leb, ltb-true, leb-true, eqb-true}
use Rattle.nor_cell.specs.Chip.{block, block_at, is_within}
use Rattle.nor_cell.specs.Ranges.{are_blocks, follow_to}
use Rattle.nor_cell.specs.declared.device.Span.{Span}

-- what follows from a place doesn't begin before it
pub begins : (spans : List Span) (end from b : ℕ) → follow_to end from spans ≡ true → b < length spans → from ≤ (block spans b).from
begins [] end from b follow inside = absurd (omega arith)
begins (span ∷ spans) end from zero follow inside =
    let first : span.from ≡ from = eqb-true span.from from (and_parts _ _ follow).0 in
    omega arith
begins (span ∷ spans) end from (suc b) follow inside =
    let rest : from + span.len ≤ (block spans b).from = begins spans end (from + span.len) b (and_parts _ _ follow).1 (omega arith) in
    omega arith

-- the first span that ends behind a place is one of them
pub found : (spans : List Span) (end from at : ℕ) → follow_to end from spans ≡ true → at < end → from ≤ at → block_at spans at < length spans
found [] end from at follow inside low =
    let ends : from ≡ end = eqb-true from end follow in
    absurd (omega arith)
found (span ∷ spans) end from at follow inside low =
    let first : span.from ≡ from = eqb-true span.from from (and_parts _ _ follow).0 in
    elim (cases_lt at (span.from + span.len)) [
      | inl here ↦ rw (lt-ltb at (span.from + span.len) here) (omega arith)
      | inr past ↦
          let rest : block_at spans at < length spans = found spans end (from + span.len) at (and_parts _ _ follow).1 inside (omega arith) in
          rw (le-ltb at (span.from + span.len) past) (omega arith)
    ]

-- and the place lies in it
pub within : (spans : List Span) (end from at : ℕ) → follow_to end from spans ≡ true → at < end → from ≤ at → is_within (block spans (block_at spans at)) at ≡ true
within [] end from at follow inside low =
    let ends : from ≡ end = eqb-true from end follow in
    absurd (omega arith)
within (span ∷ spans) end from at follow inside low =
    let first : span.from ≡ from = eqb-true span.from from (and_parts _ _ follow).0 in
    elim (cases_lt at (span.from + span.len)) [
      | inl here ↦
          let begun : span.from ≤ at = omega arith in
          rw (lt-ltb at (span.from + span.len) here) (and_from _ _ (le-leb span.from at begun) (lt-ltb at (span.from + span.len) here))
      | inr past ↦
          let rest : is_within (block spans (block_at spans at)) at ≡ true = within spans end (from + span.len) at (and_parts _ _ follow).1 inside (omega arith) in
          let next : 1 + block_at spans at ≡ suc (block_at spans at) = omega arith in
          rw (le-ltb at (span.from + span.len) past, next) rest
    ]

-- no other span has the place
pub only : (spans : List Span) (end from at b : ℕ) → follow_to end from spans ≡ true → b < length spans → is_within (block spans b) at ≡ true → b ≡ block_at spans at
only [] end from at b follow inside here = absurd (omega arith)
only (span ∷ spans) end from at zero follow inside here =
    let less : at < span.from + span.len = ltb-true at (span.from + span.len) (and_parts _ _ here).1 in
    rw (lt-ltb at (span.from + span.len) less) refl
only (span ∷ spans) end from at (suc b) follow inside here =
    let first : span.from ≡ from = eqb-true span.from from (and_parts _ _ follow).0 in
    let begun : from + span.len ≤ (block spans b).from = begins spans end (from + span.len) b (and_parts _ _ follow).1 (omega arith) in
    let low : (block spans b).from ≤ at = leb-true (block spans b).from at (and_parts _ _ here).0 in
    let past : span.from + span.len ≤ at = omega arith in
    let rest : b ≡ block_at spans at = only spans end (from + span.len) at b (and_parts _ _ follow).1 (omega arith) here in
    rw (le-ltb at (span.from + span.len) past) (omega arith)

-- such spans are the blocks of a chip
pub following : (end : ℕ) (spans : List Span) → follow_to end 0 spans ≡ true → are_blocks end spans ≡ true
following end [] follow = refl
following end (span ∷ spans) follow = follow
