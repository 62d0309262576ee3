-- What a loss of power leaves.
use Rattle.std.proofs.Common.{◌≡◌, ◌<◌, ◌≤◌, ℕ, refl, sym, subst, ap, arith, ◌∙◌, Bool, true, false, ◌||◌, nat_lt, List, length, slice_index, bit_or}
use Rattle.std.proofs.lemmas.Bool.Decides.{nat_tests}
use Rattle.std.proofs.lemmas.Nat.{and_le_r}
use Rattle.nor_cell.specs.Bits.{IsBetween, ChangesWithin, AreBytes}
use Rattle.nor_cell.specs.Chip.{ChipState, span_end, is_within, holds_at}
use Rattle.nor_cell.specs.Power.{Cuts, programs_at, datum_at, is_erasing_at}
use Rattle.nor_cell.specs.Simulated.{CutsJob, CutsHeld, CutsBy}
use Rattle.nor_cell.specs.Steps.{Keeps}
use Rattle.nor_cell.specs.declared.device.Span.{Span}
use Rattle.nor_cell.proofs.Changing.{partly_between}
use Rattle.nor_cell.proofs.Logic.{none_pass}

-- ---- a range of changes, by the test of a span

pub changed_inside : (span : Span) (P : ℕ → ℕ → Type 0) (old new : List ℕ) (p : ℕ) → ChangesWithin span.from (span_end span) P old new → is_within span p ≡ true → P p (slice_index new p)
changed_inside span P old new p h e =
    let low : span.from ≤ p = grind (arith, nat_tests) in
    let high : p < span_end span = grind (arith, nat_tests) in
    h.inside p low high

pub kept_outside : (span : Span) (P : ℕ → ℕ → Type 0) (old new : List ℕ) (p : ℕ) → ChangesWithin span.from (span_end span) P old new → is_within span p ≡ false → slice_index new p ≡ slice_index old p
kept_outside span P old new p h e = go (nat_lt p span.from) refl
  where
    go : (b : Bool) → nat_lt p span.from ≡ b → slice_index new p ≡ slice_index old p
    go true e2 = let low : p < span.from = grind (arith, nat_tests) in h.below p low
    go false e2 = let high : span_end span ≤ p = grind (arith, nat_tests) in h.above p high

-- ---- both tests of an alternative

some_passes : (a b : Bool) → (a || b) ≡ true → b ≡ false → a ≡ true
some_passes true b h k = refl
some_passes false true h k = cc
some_passes false false h k = cc

-- ---- the job's cells are cut, and then those of the held block

cut_twice : (mask : ℕ) (old mid new : ChipState) → CutsJob mask old mid → CutsHeld mask mid new → CutsHeld mask (record old { cells = mid.cells }) new
cut_twice mask old mid new h k = subst (λ (s : ChipState). CutsHeld mask s new) h.rest k

both_byte : (mask : ℕ) (old mid new : ChipState) (p : ℕ) → CutsHeld mask (record old { cells = mid.cells }) new → CutsJob mask old mid →
    (b : Bool) → holds_at old.held old.part.blocks p ≡ b → is_erasing_at old p ≡ true → slice_index new.cells p < 256
both_byte mask old mid new p g h true f e = g.byte p f
both_byte mask old mid new p g h false f e = rw (g.kept p f) (h.byte p (some_passes _ _ e f))

pub cuts_both : (mask : ℕ) (old mid new : ChipState) → CutsJob mask old mid → CutsHeld mask mid new → Cuts old new
cuts_both mask old mid new h k =
    let g = cut_twice mask old mid new h k in
    record {
      size = g.size ∙ h.size;
      erasing = λ p e. both_byte mask old mid new p g h (holds_at old.held old.part.blocks p) refl e;
      programming = λ p e q. let n = none_pass _ _ e in
          subst (IsBetween (slice_index old.cells p) (datum_at old.job p)) (sym (g.kept p n.1 ∙ h.programming p q)) (partly_between (slice_index old.cells p) (datum_at old.job p) mask);
      kept = λ p e q. let n = none_pass _ _ e in g.kept p n.1 ∙ h.kept p n.0 q;
      rest = g.rest;
    }

pub cuts_by : (mask : ℕ) (old mid new : ChipState) → CutsJob mask old mid → CutsHeld mask mid new → CutsBy mask old new
cuts_by mask old mid new h k =
    let g = cut_twice mask old mid new h k in
    record {
      erasing = λ p e f. g.kept p f ∙ h.erasing p e;
      held = λ p e f q. g.erasing p e ∙ ap (λ x. bit_or x mask) (h.kept p f q);
      programming = λ p f q. g.kept p f ∙ h.programming p q;
    }

-- ---- bytes stay bytes

cut_byte : (old new : ChipState) (p : ℕ) → Cuts old new → AreBytes old.cells → (e q : Bool) → is_erasing_at old p ≡ e → programs_at old.job p ≡ q → slice_index new.cells p < 256
cut_byte old new p h bytes true q i j = h.erasing p i
cut_byte old new p h bytes false true i j =
    let b = h.programming p i j in
    let less = and_le_r (slice_index new.cells p) (slice_index old.cells p) in
    let small = bytes p in omega (arith, b.clears_only)
cut_byte old new p h bytes false false i j = rw (h.kept p i j) (bytes p)

-- a loss of power changes nothing that it shouldn't
pub cuts_keep : (old new : ChipState) → Cuts old new → Keeps old new
cuts_keep old new h = record {
  part = ap (λ (s : ChipState). s.part) h.rest;
  size = h.size;
  locks = ap (λ (s : ChipState). length s.locks) h.rest;
  bytes = λ bytes p. cut_byte old new p h bytes (is_erasing_at old p) (programs_at old.job p) refl refl;
}
