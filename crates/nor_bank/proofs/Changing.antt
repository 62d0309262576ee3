-- Bytes and bus words that a program would change.
use Rattle.std.proofs.Common.{◌≡◌, ◌<◌, ◌≤◌, ◌+◌, ◌-◌, ◌*◌, ◌⊎◌, inl, inr, ℕ, zero, suc, List, length, slice_index, bit_and, refl, sym, ◌∙◌, ap, arith, Bool, true, false, Option, Some}
use Rattle.std.specs.Prelude.{◌==◌, ◌&&◌, not, nat_le, nat_lt, is_some, if◌then◌else◌}
use Rattle.std.proofs.lemmas.Bool.{cases_lt, cases_eq}
use Rattle.std.proofs.lemmas.Bool.Decides.{nat_tests}
use Rattle.nor_array.specs.Array.{lowest}
use Rattle.nor_bank.specs.Programs.{changes_at, word_passes, words_passing}

later_some : (x : Bool) (k : ℕ) (rest : Option ℕ) → is_some rest ≡ true → is_some (if x then Some k else rest) ≡ true
later_some true k rest some = refl
later_some false k rest some = some

pub lowest_some : (test : ℕ → Bool) (k n p : ℕ) → k ≤ p → p < k + n → test p ≡ true → is_some (lowest test k n) ≡ true
lowest_some test k zero p from to is = absurd (omega arith)
lowest_some test k (suc n) p from to is = elim (cases_eq k p) [
  | inl here ↦ ap (λ (x : Bool). is_some (if x then Some k else lowest test (k + 1) n)) (ap test here ∙ is)
  | inr apart ↦ later_some (test k) k (lowest test (k + 1) n) (lowest_some test (k + 1) n p (omega (arith, apart)) (omega arith) is)
]

-- a byte that would change
pub changing : (byte : ℕ → ℕ) (at : ℕ) (new : List ℕ) (p : ℕ) → at ≤ p → p < at + length new
    → (bit_and (byte p) (slice_index new (p - at)) ≡ byte p → ⊥) → changes_at byte at new p ≡ true
changing byte at new p begins ends apart = grind (arith, nat_tests, apart)

-- where the bytes of the range are the same, the same would change
pub changes_same : (f g : ℕ → ℕ) (at : ℕ) (new : List ℕ) (p : ℕ) → (at ≤ p → p < at + length new → f p ≡ g p) → changes_at f at new p ≡ changes_at g at new p
changes_same f g at new p same = elim (cases_lt p at) [
  | inl low ↦ outside f at new p (inl low) ∙ sym (outside g at new p (inl low))
  | inr begins ↦ elim (cases_lt p (at + length new)) [
    | inl ends ↦ ap (λ (n : ℕ). nat_le at p && nat_lt p (at + length new) && not (bit_and n (slice_index new (p - at)) == n)) (same begins ends)
    | inr past ↦ outside f at new p (inr past) ∙ sym (outside g at new p (inr past))
  ]
]
  where
    outside : (byte : ℕ → ℕ) (at : ℕ) (new : List ℕ) (p : ℕ) → (p < at) ⊎ (at + length new ≤ p) → changes_at byte at new p ≡ false
    outside byte at new p (inl low) = grind (arith, nat_tests, low)
    outside byte at new p (inr past) = grind (arith, nat_tests, past)

pub lowest_same : (f g : ℕ → Bool) (k n : ℕ) → ((p : ℕ) → k ≤ p → p < k + n → f p ≡ g p) → lowest f k n ≡ lowest g k n
lowest_same f g k zero same = refl
lowest_same f g k (suc n) same =
    ap (λ (x : Bool). if x then Some k else lowest f (k + 1) n) (same k (omega arith) (omega arith))
    ∙ ap (λ (rest : Option ℕ). if g k then Some k else rest) (lowest_same f g (k + 1) n (λ p from to. same p (omega (arith, from)) (omega (arith, to))))

pub passes_same : (w : ℕ) (f g : ℕ → Bool) (u : ℕ) → ((p : ℕ) → u * w ≤ p → p < u * w + w → f p ≡ g p) → word_passes w f u ≡ word_passes w g u
passes_same w f g u same = ap (λ (o : Option ℕ). is_some o) (lowest_same f g (u * w) w same)

pub passing_same : (w : ℕ) (f g : ℕ → Bool) (u n : ℕ) → ((p : ℕ) → f p ≡ g p) → words_passing w f u n ≡ words_passing w g u n
passing_same w f g u zero same = refl
passing_same w f g u (suc n) same =
    ap (λ (k : ℕ). k + (if word_passes w f (u + n) then 1 else 0)) (passing_same w f g u n same)
    ∙ ap (λ (b : Bool). words_passing w g u n + (if b then 1 else 0)) (passes_same w f g (u + n) (λ p from to. same p))
