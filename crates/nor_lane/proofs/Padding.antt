-- A word that takes bytes one after another.
use Rattle.std.proofs.Common.{◌≡◌, ◌<◌, ◌≤◌, ◌+◌, ℕ, List, length, slice_index}

-- k of the bytes lie in the word from place `first` on, and elsewhere it is erased
pub record IsPaddedTo (k width first : ℕ) (bytes word : List ℕ) : Type 0 where
  pub size : length word ≡ width
  pub there : (j : ℕ) → j < k → slice_index word (first + j) ≡ slice_index bytes j
  pub before : (j : ℕ) → j < first → slice_index word j ≡ 255
  pub after : (j : ℕ) → first + k ≤ j → j < width → slice_index word j ≡ 255
