-- What a call that was given up leaves of a chip.
use Rattle.std.specs.Prelude.{◌≡◌, ◌<◌, ◌≤◌, ◌+◌, ◌-◌, ◌⊎◌, ℕ, List, [], Bool, length, slice_index, true, false}
use Rattle.nor_cell.specs.Bits.{IsBetween}
use Rattle.nor_cell.specs.Chip.{ChipState, Idle}
use Rattle.nor_cell.specs.Power.{is_erasing_at}
use Rattle.nor_cell.specs.Steps.{Remains}
use Rattle.nor_cell.specs.declared.device.Set.{Set}
use Rattle.nor_bus.specs.Bus.{BusState}
use Rattle.nor_bus.specs.Driven.{Lost, EachLane}
use Rattle.nor_poll.specs.Codes.{after_cycles, cycles_of, DarkensIn}
use Rattle.nor_poll.specs.Reads.{AfterReads, EachNumbered, DarkensAfter}
use Rattle.nor_poll.specs.declared.codes.Cycle.{Cycle}
use Rattle.nor_poll.specs.declared.codes.Command.TheVariants.{ShowArray, ClearErrors}

-- The chip is what it was, with its locks, its held erase and both counts, and no erase error came up.
pub record IsUnmoved (s t : ChipState) : Type 0 where
  pub remains : Remains s t
  pub held : t.held ≡ s.held
  pub suspends : t.suspends ≡ s.suspends
  pub no_error : t.flags.erase ≡ true → s.flags.erase ≡ true

-- So it is, and its bytes are as before, but for what is spoilt, and for bits between what they were and these bytes
-- from place `at` on.
pub record IsLeft (spoilt : ℕ → Bool) (at : ℕ) (bytes : List ℕ) (s t : ChipState) : Type 0 where
  pub keeps : IsUnmoved s t
  pub below : (p : ℕ) → spoilt p ≡ false → p < at → slice_index t.cells p ≡ slice_index s.cells p
  pub above : (p : ℕ) → spoilt p ≡ false → at + length bytes ≤ p → slice_index t.cells p ≡ slice_index s.cells p
  pub inside : (p : ℕ) → spoilt p ≡ false → at ≤ p → p < at + length bytes →
      IsBetween (slice_index s.cells p) (slice_index bytes (p - at)) (slice_index t.cells p)

-- A call that programs these bytes was given up while power was on.
abbrev pub Tears : ℕ → List ℕ → ChipState → ChipState → Type 0
Tears at bytes s t = IsLeft (λ p. false) at bytes s t

-- Such a call was given up as power went: a block under erase is spoilt.
abbrev pub Loses : ℕ → List ℕ → ChipState → ChipState → Type 0
Loses at bytes s t = IsLeft (is_erasing_at s) at bytes s t

-- a chip that was so has lost nothing but such a block
abbrev pub LosesNone : (ChipState → Type 0) → ChipState → ChipState → Type 0
LosesNone Was s t = Was s → Loses 0 [] s t

-- and none of the call's work has begun in it
abbrev pub BeginsNone : (ChipState → Type 0) → ChipState → ChipState → Type 0
BeginsNone Was s t = Was s → Loses 0 [] s t × (t.job ≡ Idle)

-- ---- which cycles had reached the chip

-- Power went while these codes were written, or in the reads after them, at most so many.
abbrev pub DarkensLooking : ℕ → List Cycle → ℕ → BusState → BusState → Type 0
DarkensLooking u first most old new =
    EachLane (DarkensIn u first) old new
    ⊎ DarkensAfter (λ c s. after_cycles u first s) (length first) most old new

-- Power went while these codes were written, after so many reads.
pub record DarkAtEnd (reads u : ℕ) (last : List Cycle) (s t : ChipState) : Type 0 where
  pub mid : ChipState
  pub read : AfterReads s reads mid
  pub dark : DarkensIn u last mid t

-- So it is with each lane, after what was sent to it in `before` cycles, and as many reads of each.
pub record DarkensEnding (sent : ℕ → ChipState → ChipState) (before most u : ℕ) (last : List Cycle) (old new : BusState)
    : Type 0 where
  pub lost : Lost (before + most + length last) old new
  pub reads : ℕ
  pub few : reads ≤ most
  pub counted : before + reads ≤ lost.cycles
  pub each : EachNumbered (λ c s t. DarkAtEnd reads u last (sent c s) t) old new

-- Power went in a call that writes the first codes, makes at most so many reads, and writes the last codes.
abbrev pub DarkensCall : ℕ → (first last : List Cycle) → ℕ → BusState → BusState → Type 0
DarkensCall u first last most old new =
    DarkensLooking u first most old new
    ⊎ DarkensEnding (λ c s. after_cycles u first s) (length first) most u last old new

-- ---- of a program

-- power went while these codes were written
pub record DarkensCodes (u : ℕ) (codes : List Cycle) (old new : BusState) : Type 0 where
  pub lost : Lost (length codes) old new
  pub each : EachLane (DarkensIn u codes) old new

-- Power went as the array was to be shown, or errors were to be cleared.
abbrev pub DarkensResting : Set → ℕ → BusState → BusState → Type 0
DarkensResting set u old new =
    DarkensCodes u (cycles_of set ShowArray) old new ⊎ DarkensCodes u (cycles_of set ClearErrors) old new

-- So it is after what was sent in `before` cycles and at most so many reads, or power went in these.
abbrev pub DarkensPolling : (sent : ℕ → ChipState → ChipState) → (before most : ℕ) → Set → ℕ
    → BusState → BusState → Type 0
DarkensPolling sent before most set u old new =
    DarkensAfter sent before most old new
    ⊎ (DarkensEnding sent before most u (cycles_of set ShowArray) old new
    ⊎ DarkensEnding sent before most u (cycles_of set ClearErrors) old new)
