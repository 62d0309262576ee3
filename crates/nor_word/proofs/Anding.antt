-- AND of two lists of bytes, one byte after another.
use Rattle.std.proofs.Common.{◌≡◌, ◌≢◌, ◌<◌, ◌≤◌, ◌+◌, ◌⊎◌, inl, inr, ℕ, List, length, slice_index, slice_set, bit_and, refl, sym, subst, ◌∙◌, arith}
use Rattle.std.proofs.lemmas.Bool.{cases_eq}
use Rattle.std.proofs.lemmas.List.{get_or-set_same, get_or-set_other, get_or_past, length-set}

-- the first k bytes of w are those of a AND b, the others are those of a
pub record IsAndTo (k : ℕ) (a b w : List ℕ) : Type 0 where
  pub size : length w ≡ length a
  pub done : (j : ℕ) → j < k → slice_index w j ≡ bit_and (slice_index a j) (slice_index b j)
  pub later : (j : ℕ) → k ≤ j → slice_index w j ≡ slice_index a j

one_more : (k : ℕ) (a b w : List ℕ) (j : ℕ) → k < length a → IsAndTo k a b w → j < k + 1 → (j ≡ k) ⊎ (j ≢ k)
    → slice_index (slice_set w k (bit_and (slice_index a k) (slice_index b k))) j ≡ bit_and (slice_index a j) (slice_index b j)
one_more k a b w j below so before (inl e) = subst (λ (i : ℕ). slice_index (slice_set w k (bit_and (slice_index a k) (slice_index b k))) i ≡ bit_and (slice_index a i) (slice_index b i)) (sym e) (get_or-set_same w k _ 0 (subst (λ (n : ℕ). k < n) (sym so.size) below))
one_more k a b w j below so before (inr ne) = get_or-set_other w k j _ 0 ne ∙ so.done j (omega arith)

-- one more byte
pub and_more : (k : ℕ) (a b w new : List ℕ) → k < length a → IsAndTo k a b w → new ≡ slice_set w k (bit_and (slice_index a k) (slice_index b k)) → IsAndTo (k + 1) a b new
and_more k a b w new below so e = subst (λ (v : List ℕ). IsAndTo (k + 1) a b v) (sym e) (record {
  size = length-set w k _ ∙ so.size;
  done = λ j before. one_more k a b w j below so before (cases_eq j k);
  later = λ j after. get_or-set_other w k j _ 0 (λ same. omega arith) ∙ so.later j (omega arith);
})

side : (k : ℕ) (a b w : List ℕ) (j : ℕ) → IsAndTo k a b w → length a ≡ k → length b ≡ k → (j < k) ⊎ (k ≤ j) → slice_index w j ≡ bit_and (slice_index a j) (slice_index b j)
side k a b w j so m n (inl below) = so.done j below
side k a b w j so m n (inr above) =
    let x = get_or_past w j 0 (omega (arith, so.size)) in
    let y = get_or_past a j 0 (omega arith) in
    rw (x, y) refl

-- all bytes
pub and_all : (k : ℕ) (a b w : List ℕ) → IsAndTo k a b w → length a ≡ k → length b ≡ k → (j : ℕ) → slice_index w j ≡ bit_and (slice_index a j) (slice_index b j)
and_all k a b w so m n j = let d : (j < k) ⊎ (k ≤ j) = search arith in side k a b w j so m n d
