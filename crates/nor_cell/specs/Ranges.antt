-- The ranges of what a chip is made of.
use Rattle.std.specs.Prelude.{◌≡◌, ◌≤◌, ℕ, Bool, true, false, List, [], ◌∷◌, ◌==◌, ◌+◌, ◌%◌, ◌^◌, ◌&&◌, ◌||◌, nat_lt, length, IsTrue}
use Rattle.std.specs.List.{list_any, list_all}
use Rattle.nor_cell.specs.Bits.{unit_len, AreBytes}
use Rattle.nor_cell.specs.Chip.{ChipState, is_any_set}
use Rattle.nor_cell.specs.Table.{has_locks}
use Rattle.nor_cell.specs.declared.device.Device.{Device}
use Rattle.nor_cell.specs.declared.device.Span.{Span}

-- a power of two from 2 ^ 12 to 2 ^ 27 bytes
abbrev pub is_chip_size : ℕ → Bool
is_chip_size n = list_any (λ k. n == 2 ^ k) (12 ∷ 13 ∷ 14 ∷ 15 ∷ 16 ∷ 17 ∷ 18 ∷ 19 ∷ 20 ∷ 21 ∷ 22
    ∷ 23 ∷ 24 ∷ 25 ∷ 26 ∷ 27 ∷ [])

-- strictly ascending, and below a bound
abbrev pub is_ascending_below : ℕ → List ℕ → Bool
is_ascending_below n [] = true
is_ascending_below n (x ∷ []) = nat_lt x n
is_ascending_below n (x ∷ y ∷ ys) = nat_lt x y && is_ascending_below n (y ∷ ys)

-- each place begins a unit of the device
abbrev pub begin_units : Device → List ℕ → Bool
begin_units device places = list_all (λ p. p % unit_len device == 0) places

-- the spans follow each other from a place to the end
abbrev pub follow_to : ℕ → ℕ → List Span → Bool
follow_to end from [] = from == end
follow_to end from (span ∷ spans) = (span.from == from) && follow_to end (from + span.len) spans

-- no blocks, or blocks that follow each other from 0 to the size
abbrev pub are_blocks : ℕ → List Span → Bool
are_blocks size [] = true
are_blocks size (span ∷ spans) = follow_to size 0 (span ∷ spans)

-- Locks are set only where the table offers them.
abbrev pub AreOffered : List ℕ → List Bool → Type 0
AreOffered table locks = has_locks table ≡ false → is_any_set locks ≡ false

-- so many locks: none, or one for each block
abbrev pub is_none_or_each : (blocks locks : ℕ) → Bool
is_none_or_each blocks locks = locks == 0 || locks == blocks

-- what holds of every chip
pub record IsChip (s : ChipState) : Type 0 where
  pub size : IsTrue (is_chip_size (length s.cells))
  pub bytes : AreBytes s.cells
  pub table_size : length s.part.table ≡ 512
  pub table_bytes : AreBytes s.part.table
  pub weak : IsTrue (is_ascending_below (length s.cells) s.part.weak)
  pub weak_units : IsTrue (begin_units s.part.device s.part.weak)
  pub few_weak : length s.part.weak ≤ 256
  pub pace : s.part.pace_suspend ≤ 16
  pub blocks : IsTrue (are_blocks (length s.cells) s.part.blocks)
  pub locks : length s.locks ≡ length s.part.blocks
