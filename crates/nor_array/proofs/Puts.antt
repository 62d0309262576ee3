-- What stands where after bytes are put in the place of others.
use Rattle.std.proofs.Common.{◌≡◌, ◌<◌, ◌≤◌, ◌+◌, ◌-◌, ℕ, zero, suc, List, [], ◌∷◌, ◌++◌, length, take, drop, replicate, slice_index, refl, ap, arith, ◌∙◌, inl, inr, lit<, length-append, length-drop}
use Rattle.std.specs.Prelude.{bit_and}
use Rattle.std.proofs.lemmas.Bool.{cases_lt}
use Rattle.std.proofs.lemmas.List.{length-take, length-take-le, length-replicate, get_or-replicate, get_or_past, get_or-take, get_or-drop, get_or_append_left, get_or-append_right}
use Rattle.std.proofs.lemmas.Nat.{and_le_l}
use Rattle.nor_cell.specs.Bits.{AreBytes}
use Rattle.nor_array.specs.Array.{put, range}
use Rattle.nor_array.specs.After.{all_and}

module _ (bytes : List ℕ) (at : ℕ) (new : List ℕ) (fits : at + length new ≤ length bytes) where
  -- there are as many as before
  pub length-put : length (put bytes at new) ≡ length bytes
  length-put =
      let front : length (take at bytes) ≡ at = length-take-le at bytes (omega arith) in
      simp (length-append, length-drop) (omega arith)

  length_front : length (take at bytes ++ new) ≡ at + length new
  length_front =
      let front : length (take at bytes) ≡ at = length-take-le at bytes (omega arith) in
      length-append (take at bytes) new ∙ ap (λ n. n + length new) front

  -- below, within and above the place
  pub put_below : (p : ℕ) → p < at → slice_index (put bytes at new) p ≡ slice_index bytes p
  put_below p low =
      let front : length (take at bytes) ≡ at = length-take-le at bytes (omega arith) in
      get_or_append_left (take at bytes ++ new) (drop (at + length new) bytes) 0 p (omega (arith, length_front))
      ∙ get_or_append_left (take at bytes) new 0 p (omega arith)
      ∙ get_or-take at bytes p 0 low

  pub put_inside : (p : ℕ) → at ≤ p → p < at + length new → slice_index (put bytes at new) p ≡ slice_index new (p - at)
  put_inside p low high =
      let front : length (take at bytes) ≡ at = length-take-le at bytes (omega arith) in
      get_or_append_left (take at bytes ++ new) (drop (at + length new) bytes) 0 p (omega (arith, length_front))
      ∙ get_or-append_right (take at bytes) new at p 0 front low

  pub put_above : (p : ℕ) → at + length new ≤ p → slice_index (put bytes at new) p ≡ slice_index bytes p
  put_above p high =
      get_or-append_right (take at bytes ++ new) (drop (at + length new) bytes) (at + length new) p 0 length_front high
      ∙ get_or-drop (at + length new) bytes (p - (at + length new)) 0
      ∙ ap (slice_index bytes) (let same : at + length new + (p - (at + length new)) ≡ p = omega arith in same)

  -- bytes stay bytes
  pub AreBytes-put : AreBytes bytes → AreBytes new → AreBytes (put bytes at new)
  AreBytes-put old is p = elim (cases_lt p at) [
    | inl low ↦ let same = put_below p low in let less = old p in omega arith
    | inr from ↦ elim (cases_lt p (at + length new)) [
      | inl high ↦ let same = put_inside p from high in let less = is (p - at) in omega arith
      | inr past ↦ let same = put_above p past in let less = old p in omega arith
    ]
  ]

-- old AND new at a place
pub slice_index-all_and : (k : ℕ) (old new : List ℕ) → k < length old → k < length new
    → slice_index (all_and old new) k ≡ bit_and (slice_index old k) (slice_index new k)
slice_index-all_and k [] new low fits = absurd (omega arith)
slice_index-all_and k (x ∷ old) [] low fits = absurd (omega arith)
slice_index-all_and zero (x ∷ old) (y ∷ new) low fits = refl
slice_index-all_and (suc k) (x ∷ old) (y ∷ new) low fits = slice_index-all_and k old new (omega arith) (omega arith)

-- as many as there are old ones, where there are as many new ones
pub length-all_and : (old new : List ℕ) → length old ≡ length new → length (all_and old new) ≡ length new
length-all_and [] new same = same
length-all_and (x ∷ old) [] same = absurd (omega arith)
length-all_and (x ∷ old) (y ∷ new) same = let rest = length-all_and old new (omega arith) in omega arith

-- bytes stay bytes
pub AreBytes-all_and : (old new : List ℕ) → AreBytes old → AreBytes (all_and old new)
AreBytes-all_and [] new old_are p = old_are p
AreBytes-all_and (x ∷ old) [] old_are zero = lit< tt
AreBytes-all_and (x ∷ old) [] old_are (suc p) = lit< tt
AreBytes-all_and (x ∷ old) (y ∷ new) old_are zero = let first : x < 256 = old_are 0 in omega (arith, and_le_l x y)
AreBytes-all_and (x ∷ old) (y ∷ new) old_are (suc p) =
    AreBytes-all_and old new (λ q. let next : slice_index (x ∷ old) (suc q) < 256 = old_are (suc q) in next) p

-- a range that lies in the bytes
pub length-range : (bytes : List ℕ) (at len : ℕ) → at + len ≤ length bytes → length (range bytes at len) ≡ len
length-range bytes at len fits =
    let n : at + len - at ≡ len = omega arith in
    rw n (length-take-le len (drop at bytes) (omega (arith, length-drop at bytes)))

pub slice_index-range : (bytes : List ℕ) (at len k : ℕ) → k < len → slice_index (range bytes at len) k ≡ slice_index bytes (at + k)
slice_index-range bytes at len k low =
    let n : k < at + len - at = omega arith in
    get_or-take (at + len - at) (drop at bytes) k 0 n ∙ get_or-drop at bytes k 0

pub AreBytes-range : (bytes : List ℕ) (at len : ℕ) → AreBytes bytes → AreBytes (range bytes at len)
AreBytes-range bytes at len are k = elim (cases_lt k len) [
  | inl low ↦ let same = slice_index-range bytes at len k low in let less = are (at + k) in omega arith
  | inr past ↦
      let out : length (range bytes at len) ≤ k = omega (arith, length-take (at + len - at) (drop at bytes)) in
      let none = get_or_past (range bytes at len) k 0 out in omega arith
]

-- so many bytes of 0xFF
pub AreBytes-ones : (n : ℕ) → AreBytes (replicate n 0xFF)
AreBytes-ones n k = elim (cases_lt k n) [
  | inl low ↦ let same : slice_index (replicate n 0xFF) k ≡ 0xFF = get_or-replicate n k 0xFF 0 low in omega arith
  | inr past ↦
      let out : length (replicate {A = ℕ} n 0xFF) ≤ k = omega (arith, length-replicate {A = ℕ} n 0xFF) in
      let none : slice_index (replicate n 0xFF) k ≡ 0 = get_or_past (replicate n 0xFF) k 0 out in omega arith
]

-- what is programmed is as long as the data
pub length-programming : (bytes : List ℕ) (at : ℕ) (new : List ℕ) → at + length new ≤ length bytes
    → length (all_and (range bytes at (length new)) new) ≡ length new
length-programming bytes at new fits = length-all_and (range bytes at (length new)) new (length-range bytes at (length new) fits)
