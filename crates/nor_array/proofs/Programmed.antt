-- Programming byte by byte.
use Rattle.std.proofs.Common.{◌≡◌, ◌<◌, ◌+◌, ℕ, zero, suc, List, [], ◌∷◌, length, slice_index, slice_set, refl, ap, sym, subst, add-one, arith}
use Rattle.std.specs.Prelude.{bit_and}
use Rattle.nor_array.specs.After.{all_and}

-- the first n bytes are programmed
abbrev pub and_first : ℕ → List ℕ → List ℕ → List ℕ
and_first zero old new = old
and_first (suc n) [] new = []
and_first (suc n) (x ∷ old) [] = x ∷ old
and_first (suc n) (x ∷ old) (y ∷ new) = bit_and x y ∷ and_first n old new

-- and then one more
pub and_more : (i : ℕ) (old new : List ℕ) → i < length old → i < length new
    → slice_set (and_first i old new) i (bit_and (slice_index (and_first i old new) i) (slice_index new i)) ≡ and_first (suc i) old new
and_more i [] new low fits = absurd (omega arith)
and_more i (x ∷ old) [] low fits = absurd (omega arith)
and_more zero (x ∷ old) (y ∷ new) low fits = refl
and_more (suc i) (x ∷ old) (y ∷ new) low fits = ap (λ xs. bit_and x y ∷ xs) (and_more i old new (omega arith) (omega arith))

-- at last all are
pub and_all : (n : ℕ) (old new : List ℕ) → n ≡ length old → n ≡ length new → and_first n old new ≡ all_and old new
and_all zero [] new low fits = refl
and_all zero (x ∷ old) new low fits = absurd (omega arith)
and_all (suc n) [] new low fits = absurd (omega arith)
and_all (suc n) (x ∷ old) [] low fits = absurd (omega arith)
and_all (suc n) (x ∷ old) (y ∷ new) low fits = ap (λ xs. bit_and x y ∷ xs) (and_all n old new (omega arith) (omega arith))

-- the step as code makes it
pub and_step : (i : ℕ) (bytes old new : List ℕ) → bytes ≡ and_first i old new → i < length old → i < length new
    → slice_set bytes i (bit_and (slice_index bytes i) (slice_index new i)) ≡ and_first (i + 1) old new
and_step i bytes old new so_far low fits =
    let P : List ℕ → Type 0 = λ xs. slice_set xs i (bit_and (slice_index xs i) (slice_index new i)) ≡ and_first (i + 1) old new in
    subst P (sym so_far) (rw add-one (and_more i old new low fits))
