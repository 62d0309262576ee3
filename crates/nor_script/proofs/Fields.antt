-- The parts of a text, one after the other.
use Rattle.std.proofs.Common.{◌≡◌, ◌+◌, ◌-◌, ◌∙◌, ◌⊎◌, inl, inr, ℕ, zero, suc, List, [], ◌∷◌, length, take, drop, Bool, true, false, not, refl, sym, ap, arith, slice_index_or}
use Rattle.std.specs.Prelude.{cond}
use Rattle.std.specs.List.{slice_split, onto_first, before_first, after_first, position_or_len}
use Rattle.std.proofs.lemmas.List.{length-drop}
use Rattle.std.proofs.Math.Seq.{take-length}

-- the first part, and the part at a place behind it
onto_first-zero : (x : ℕ) (parts : List (List ℕ)) → slice_index_or (onto_first x parts) 0 [] ≡ x ∷ slice_index_or parts 0 []
onto_first-zero x [] = refl
onto_first-zero x (part ∷ parts) = refl

onto_first-suc : (x : ℕ) (parts : List (List ℕ)) (k : ℕ) → slice_index_or (onto_first x parts) (suc k) [] ≡ slice_index_or parts (suc k) []
onto_first-suc x [] k = refl
onto_first-suc x (part ∷ parts) k = refl

first_by : (b : Bool) (x n : ℕ) (parts : List (List ℕ)) (xs : List ℕ) → slice_index_or parts 0 [] ≡ take n xs
    → slice_index_or (cond b ([] ∷ parts) (onto_first x parts)) 0 [] ≡ take (cond (not b) (1 + n) 0) (x ∷ xs)
first_by true x n parts xs here = refl
first_by false x n parts xs here =
    let more : suc n ≡ 1 + n = omega arith in
    onto_first-zero x parts ∙ ap (λ (ys : List ℕ). x ∷ ys) here ∙ ap (λ (m : ℕ). take m (x ∷ xs)) more

pub first_part : (p : ℕ → Bool) (xs : List ℕ) → slice_index_or (slice_split p xs) 0 [] ≡ before_first p xs
first_part p [] = refl
first_part p (x ∷ xs) = first_by (p x) x (position_or_len p xs) (slice_split p xs) xs (first_part p xs)

next_by : (p : ℕ → Bool) (b : Bool) (x n k : ℕ) (xs : List ℕ) → slice_index_or (slice_split p xs) (suc k) [] ≡ slice_index_or (slice_split p (drop (n + 1) xs)) k []
    → slice_index_or (cond b ([] ∷ slice_split p xs) (onto_first x (slice_split p xs))) (suc k) [] ≡ slice_index_or (slice_split p (drop (cond (not b) (1 + n) 0 + 1) (x ∷ xs))) k []
next_by p true x n k xs here = refl
next_by p false x n k xs here =
    let more : suc (n + 1) ≡ 1 + n + 1 = omega arith in
    onto_first-suc x (slice_split p xs) k ∙ here ∙ ap (λ (m : ℕ). slice_index_or (slice_split p (drop m (x ∷ xs))) k []) more

pub next_part : (p : ℕ → Bool) (xs : List ℕ) (k : ℕ) → slice_index_or (slice_split p xs) (suc k) [] ≡ slice_index_or (slice_split p (after_first p xs)) k []
next_part p [] zero = refl
next_part p [] (suc k) = refl
next_part p (x ∷ xs) k = next_by p (p x) x (position_or_len p xs) k xs (next_part p xs k)

-- The list is one part alone, or the first part stands before the others.
abbrev pub IsCut : (ℕ → Bool) → List ℕ → Type 0
IsCut p xs = (slice_split p xs ≡ before_first p xs ∷ slice_split p (after_first p xs)) ⊎ ((slice_split p xs ≡ xs ∷ []) × (before_first p xs ≡ xs) × (after_first p xs ≡ []))

cut_by : (p : ℕ → Bool) (b : Bool) (x n : ℕ) (xs : List ℕ)
    → ((slice_split p xs ≡ take n xs ∷ slice_split p (drop (n + 1) xs)) ⊎ ((slice_split p xs ≡ xs ∷ []) × (take n xs ≡ xs) × (drop (n + 1) xs ≡ [])))
    → (cond b ([] ∷ slice_split p xs) (onto_first x (slice_split p xs)) ≡ take (cond (not b) (1 + n) 0) (x ∷ xs) ∷ slice_split p (drop (cond (not b) (1 + n) 0 + 1) (x ∷ xs)))
    ⊎ ((cond b ([] ∷ slice_split p xs) (onto_first x (slice_split p xs)) ≡ (x ∷ xs) ∷ []) × (take (cond (not b) (1 + n) 0) (x ∷ xs) ≡ x ∷ xs) × (drop (cond (not b) (1 + n) 0 + 1) (x ∷ xs) ≡ []))
cut_by p true x n xs is = inl refl
cut_by p false x n xs (inl is) =
    let here : suc n ≡ 1 + n = omega arith in
    let behind : suc (n + 1) ≡ 1 + n + 1 = omega arith in
    inl (ap (onto_first x) is ∙ ap (λ (m : ℕ). take m (x ∷ xs) ∷ slice_split p (drop (n + 1) xs)) here ∙ ap (λ (m : ℕ). take (1 + n) (x ∷ xs) ∷ slice_split p (drop m (x ∷ xs))) behind)
cut_by p false x n xs (inr is) =
    let here : 1 + n ≡ suc n = omega arith in
    let behind : 1 + n + 1 ≡ suc (n + 1) = omega arith in
    inr (ap (onto_first x) is.0, ap (λ (m : ℕ). take m (x ∷ xs)) here ∙ ap (λ (ys : List ℕ). x ∷ ys) is.1, ap (λ (m : ℕ). drop m (x ∷ xs)) behind ∙ is.2)

pub is_cut : (p : ℕ → Bool) (xs : List ℕ) → IsCut p xs
is_cut p [] = inr (refl, refl, refl)
is_cut p (x ∷ xs) = cut_by p (p x) x (position_or_len p xs) xs (is_cut p xs)

-- a slice from a place on is all that stands there
pub rest_from : (k : ℕ) (xs : List ℕ) → take (length xs - k) (drop k xs) ≡ drop k xs
rest_from k xs = ap (λ n. take n (drop k xs)) (sym (length-drop k xs)) ∙ take-length (drop k xs)
