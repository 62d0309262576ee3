-- What the simulated chips leave where a chip may leave several things.
use Rattle.std.specs.Prelude.{◌≡◌, ◌<◌, ◌≤◌, ◌+◌, ◌-◌, ℕ, List, length, slice_index, bit_and, bit_or, true, false, IfSome}
use Rattle.nor_cell.specs.Bits.{unit_len}
use Rattle.nor_cell.specs.Look.{Look, Rests, Works, Pauses, EndsProgram, EndsErase, break_of, is_weak}
use Rattle.nor_cell.specs.Chip.{ChipState, covered, span_end, holds_at}
use Rattle.nor_cell.specs.Power.{erases_at, programs_at, datum_at}
use Rattle.nor_cell.specs.declared.device.Span.{Span}

-- The weak unit at which a program breaks off keeps its low four bits: old AND (datum OR 0x0F).
abbrev pub TornProgram : ℕ → List ℕ → ℕ → List ℕ → List ℕ → List ℕ → Type 0
TornProgram d weak at bytes old new =
    IfSome (break_of d weak at bytes old) (λ w. (p : ℕ) → w ≤ p → p < w + d → p < at + length bytes →
    slice_index new p ≡ bit_and (slice_index old p) (bit_or (slice_index bytes (p - at)) 0x0F))

-- A block whose erase breaks off gets its high four bits set: old OR 0xF0.
abbrev pub TornErase : List ℕ → Span → List ℕ → List ℕ → Type 0
TornErase weak span old new =
    is_weak weak span ≡ true → (p : ℕ) → span.from ≤ p → p < span_end span
    → slice_index new p ≡ bit_or (slice_index old p) 0xF0

-- the cells after a look
abbrev pub LeavesBroken : ChipState → Look → List ℕ → Type 0
LeavesBroken s Rests new = Unit {0}
LeavesBroken s (Works job) new = Unit {0}
LeavesBroken s (Pauses b left) new = Unit {0}
LeavesBroken s (EndsProgram at bytes) new = TornProgram (unit_len s.part.device) s.part.weak at bytes s.cells new
LeavesBroken s (EndsErase target) new = TornErase s.part.weak (covered target s.part.blocks) s.cells new

-- A loss of power leaves old OR mask where is erased, and old AND (datum OR mask) where is programmed: for the job alone ..
pub record CutsJob (mask : ℕ) (old new : ChipState) : Type 0 where
  pub size : length new.cells ≡ length old.cells
  pub byte : (p : ℕ) → erases_at old.job old.part.blocks p ≡ true → slice_index new.cells p < 256
  pub erasing : (p : ℕ) → erases_at old.job old.part.blocks p ≡ true
      → slice_index new.cells p ≡ bit_or (slice_index old.cells p) mask
  pub programming : (p : ℕ) → programs_at old.job p ≡ true →
      slice_index new.cells p ≡ bit_and (slice_index old.cells p) (bit_or (datum_at old.job p) mask)
  pub kept : (p : ℕ) → erases_at old.job old.part.blocks p ≡ false → programs_at old.job p ≡ false
      → slice_index new.cells p ≡ slice_index old.cells p
  pub rest : new ≡ record old { cells = new.cells }

-- .. for the block whose erase is held alone ..
pub record CutsHeld (mask : ℕ) (old new : ChipState) : Type 0 where
  pub size : length new.cells ≡ length old.cells
  pub byte : (p : ℕ) → holds_at old.held old.part.blocks p ≡ true → slice_index new.cells p < 256
  pub erasing : (p : ℕ) → holds_at old.held old.part.blocks p ≡ true
      → slice_index new.cells p ≡ bit_or (slice_index old.cells p) mask
  pub kept : (p : ℕ) → holds_at old.held old.part.blocks p ≡ false → slice_index new.cells p ≡ slice_index old.cells p
  pub rest : new ≡ record old { cells = new.cells }

-- .. and for both.
pub record CutsBy (mask : ℕ) (old new : ChipState) : Type 0 where
  pub erasing : (p : ℕ) → erases_at old.job old.part.blocks p ≡ true → holds_at old.held old.part.blocks p ≡ false →
      slice_index new.cells p ≡ bit_or (slice_index old.cells p) mask
  pub held : (p : ℕ) → holds_at old.held old.part.blocks p ≡ true
      → erases_at old.job old.part.blocks p ≡ false → programs_at old.job p ≡ false →
      slice_index new.cells p ≡ bit_or (slice_index old.cells p) mask
  pub programming : (p : ℕ) → holds_at old.held old.part.blocks p ≡ false → programs_at old.job p ≡ true →
      slice_index new.cells p ≡ bit_and (slice_index old.cells p) (bit_or (datum_at old.job p) mask)
