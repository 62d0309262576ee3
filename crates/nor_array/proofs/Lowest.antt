-- The lowest number that passes a test, step by step.
use Rattle.std.proofs.Common.{◌≡◌, ◌+◌, ◌<◌, ℕ, zero, suc, ap, arith, ◌∙◌, Bool, true, false, cond, Some}
use Rattle.nor_array.specs.Array.{lowest}

-- one that fails is passed over
pub lowest_over : (test : ℕ → Bool) (k n m : ℕ) → n ≡ suc m → test k ≡ false → lowest test k n ≡ lowest test (k + 1) m
lowest_over test k n m e h = ap (lowest test k) e ∙ ap (λ b. cond b (Some k) (lowest test (k + 1) m)) h

-- one that passes is the one
pub lowest_here : (test : ℕ → Bool) (k n : ℕ) → 0 < n → test k ≡ true → lowest test k n ≡ Some k
lowest_here test k zero some h = absurd (omega arith)
lowest_here test k (suc m) some h = ap (λ b. cond b (Some k) (lowest test (k + 1) m)) h
