-- Chips that change one after another.
use Rattle.std.specs.Prelude.{◌≡◌, ◌<◌, ◌≤◌, ℕ, List, length}
use Rattle.nor_cell.specs.Chip.{ChipState}
use Rattle.nor_cell.specs.Steps.{Reads, Keeps, written}
use Rattle.nor_cell.specs.Power.{Cuts, powered}
use Rattle.nor_word.specs.Word.{lane_of}
use Rattle.nor_bus.specs.Bus.{chip_at}

-- The first n chips went from old to new as P says, the others are as they were.
pub record ChangedTo (n : ℕ) (P : ℕ → ChipState → ChipState → Type 0) (old new : List ChipState) : Type 0 where
  pub size : length new ≡ length old
  pub done : (c : ℕ) → c < n → P c (chip_at old c) (chip_at new c)
  pub later : (c : ℕ) → n ≤ c → chip_at new c ≡ chip_at old c

-- chip c answers its part of the word
abbrev pub AnswersKept : ℕ → ℕ → List ℕ → ℕ → ChipState → ChipState → Type 0
AnswersKept u bytes word c s t = Reads s u (lane_of bytes word c) t × Keeps s t

-- chip c takes its part of the word
abbrev pub TakesKept : ℕ → ℕ → List ℕ → ℕ → ChipState → ChipState → Type 0
TakesKept u bytes word c s t = (t ≡ written s u (lane_of bytes word c)) × Keeps s t

-- chip c is cut, and its work under way is left so
abbrev pub CutsKept : (ChipState → ChipState → Type 0) → ℕ → ChipState → ChipState → Type 0
CutsKept Leaves c s t = Cuts s t × Keeps s t × Leaves s t

-- chip c is powered on
abbrev pub PowersKept : ℕ → ChipState → ChipState → Type 0
PowersKept c s t = (t ≡ powered s) × Keeps s t
