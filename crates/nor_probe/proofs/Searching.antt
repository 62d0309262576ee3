-- The first of several that passes a test.
use Rattle.std.proofs.Common.{◌≡◌, ◌≢◌, ◌<◌, ◌≤◌, ◌+◌, ◌⊎◌, inl, inr, ◌∙◌, ℕ, zero, suc, Bool, true, false, cond, Option, Some, None, refl, sym, ap, arith}
use Rattle.std.specs.List.{find, range_with_len}
use Rattle.std.proofs.lemmas.Bool.{cases_eq}

-- no number of a range passes
pub find_none : (p : ℕ → Bool) (from n : ℕ) → ((k : ℕ) → from ≤ k → k < from + n → p k ≡ false) → find p (range_with_len from n) ≡ None
find_none p from zero fails = refl
find_none p from (suc n) fails =
    ap (λ (b : Bool). cond b (Some from) (find p (range_with_len (from + 1) n))) (fails from (omega arith) (omega arith))
    ∙ find_none p (from + 1) n (λ k above below. fails k (omega arith) (omega arith))

-- j is the first that does
pub find_first : (p : ℕ → Bool) (from n j : ℕ) → from ≤ j → j < from + n → ((k : ℕ) → from ≤ k → k < j → p k ≡ false) → p j ≡ true
    → find p (range_with_len from n) ≡ Some j
find_first p from zero j least most fails passes = absurd (omega arith)
find_first p from (suc n) j least most fails passes =
    here_or_later (cases_eq from j)
    (λ later. find_first p (from + 1) n j (omega arith) (omega arith) (λ k above below. fails k (omega arith) below) passes)
  where
    here_or_later : (from ≡ j) ⊎ (from ≢ j) → (from ≢ j → find p (range_with_len (from + 1) n) ≡ Some j)
        → cond (p from) (Some from) (find p (range_with_len (from + 1) n)) ≡ Some j
    here_or_later (inl here) rest = ap (λ (b : Bool). cond b (Some from) (find p (range_with_len (from + 1) n))) (ap p here ∙ passes) ∙ ap (λ (k : ℕ). Some k) here
    here_or_later (inr later) rest =
        ap (λ (b : Bool). cond b (Some from) (find p (range_with_len (from + 1) n))) (fails from (omega arith) (omega arith)) ∙ rest later

fails_then : (b : Bool) (x : ℕ) (o : Option ℕ) → cond b (Some x) o ≡ None → (b ≡ false) × (o ≡ None)
fails_then true x o none = absurd cc
fails_then false x o none = (refl, none)

-- what isn't found doesn't pass
pub none_found : (p : ℕ → Bool) (from n : ℕ) → find p (range_with_len from n) ≡ None → (k : ℕ) → from ≤ k → k < from + n → p k ≡ false
none_found p from zero none k least most = absurd (omega arith)
none_found p from (suc n) none k least most =
    let so = fails_then (p from) from (find p (range_with_len (from + 1) n)) none in
    here_or_later so.0 (cases_eq from k) (λ later. none_found p (from + 1) n so.1 k (omega arith) (omega arith))
  where
    here_or_later : p from ≡ false → (from ≡ k) ⊎ (from ≢ k) → (from ≢ k → p k ≡ false) → p k ≡ false
    here_or_later fails (inl here) rest = ap p (sym here) ∙ fails
    here_or_later fails (inr later) rest = rest later
