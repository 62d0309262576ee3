-- The state of a chip: what it is, what it holds, and where it stands in its commands.
use Rattle.std.specs.Prelude.{◌+◌, ◌-◌, ◌*◌, ◌/◌, ◌^◌, min, ℕ, List, [], ◌∷◌, length, slice_index_or, slice_set, Bool, true, false, ◌==◌, ◌&&◌, nat_lt, nat_le}
use Rattle.std.specs.List.{position_or_len, list_any}
use Rattle.nor_cell.specs.Bits.{unit_len}
use Rattle.nor_cell.specs.declared.device.Device.{Device}
use Rattle.nor_cell.specs.declared.device.Set.{Set}
use Rattle.nor_cell.specs.declared.device.Span.{Span}

-- what a read shows when no job runs
pub data Mode : Type 0 where
  Array : Mode
  Query : Mode
  Ident : Mode  -- of the Intel set
  Status : Mode  -- of the Intel set
  Locks : Mode  -- of the Amd set

-- the command cycle that is expected next
pub data Step : Type 0 where
  Rest : Step
  ProgramNext : Step
  LockNext : Step
  BufferCount : (block : ℕ) → Step
  -- so many units are still to come, for this block; those that came begin at unit `first`
  BufferData : (block missing first : ℕ) (bytes : List ℕ) → Step
  BufferConfirm : (first : ℕ) (bytes : List ℕ) → Step
  EraseNext : Step  -- of the Intel set
  Unlock1 : Step  -- of the Amd set, as the rest: the first unlock cycle has come, and the second
  Unlock2 : Step
  Erase1 : Step  -- an erase was announced; and its unlock cycles
  Erase2 : Step
  Erase3 : Step
  LeaveNext : Step  -- to leave the mode Locks

-- what is being erased: one block, or every block at once
pub data Target : Type 0 where
  OneBlock : (block : ℕ) → Target
  AllBlocks : Target

-- what runs inside the chip
pub data Job : Type 0 where
  Idle : Job
  -- these bytes are being programmed from place `at` on, and so many reads will show it working
  Program : (at : ℕ) (bytes : List ℕ) (left : ℕ) → Job
  Erase : (target : Target) (left : ℕ) → Job
  -- an erase is being suspended: so many reads from now, with `left` for later
  Pausing : (block wait left : ℕ) → Job

pub data Held : Type 0 where
  NotHeld : Held
  -- a suspended erase
  Holds : (block left : ℕ) → Held

pub data Fault : Type 0 where
  NoFault : Fault
  TimeFault : (broken : Job) → Fault
  AbortFault : Fault

-- status bits 5, 4 and 1 of the Intel set
pub record Flags : Type 0 where
  pub erase : Bool
  pub program : Bool
  pub locked : Bool

-- what no cycle changes
pub record Part : Type 0 where
  pub set : Set
  pub device : Device
  pub table : List ℕ
  pub blocks : List Span
  -- the weak places, ascending
  pub weak : List ℕ
  pub stuck : Bool
  pub pace_program : ℕ
  pub pace_erase : ℕ
  pub pace_suspend : ℕ

pub record ChipState : Type 0 where
  pub part : Part
  pub cells : List ℕ
  pub locks : List Bool
  pub suspends : ℕ
  pub erases : ℕ
  pub mode : Mode
  pub step : Step
  pub job : Job
  pub held : Held
  pub flags : Flags
  pub fault : Fault
  pub toggle_6 : Bool
  pub toggle_2 : Bool

abbrev pub no_span : Span
no_span = record { from = 0; len = 0 }

-- block b
abbrev pub block : List Span → ℕ → Span
block blocks b = slice_index_or blocks b no_span

abbrev pub span_end : Span → ℕ
span_end span = span.from + span.len

abbrev pub is_within : Span → ℕ → Bool
is_within span p = nat_le span.from p && nat_lt p (span_end span)

-- where the last block ends
abbrev pub blocks_end : List Span → ℕ
blocks_end [] = 0
blocks_end (span ∷ []) = span_end span
blocks_end (span ∷ next ∷ blocks) = blocks_end (next ∷ blocks)

-- the places that an erase covers
abbrev pub covered : Target → List Span → Span
covered (OneBlock b) blocks = block blocks b
covered AllBlocks blocks = record { from = 0; len = blocks_end blocks }

-- the number of the block in which a place lies: the first that ends behind it, since they follow each other from 0
abbrev pub block_at : List Span → ℕ → ℕ
block_at blocks p = position_or_len (λ span. nat_lt p (span_end span)) blocks

abbrev pub has_blocks : List Span → Bool
has_blocks [] = false
has_blocks (span ∷ blocks) = true

-- where unit u begins
abbrev pub place : Part → ℕ → ℕ
place part u = unit_len part.device * u

-- the block of unit u
abbrev pub block_of : ChipState → ℕ → ℕ
block_of s u = block_at s.part.blocks (place s.part u)

abbrev pub is_locked : ChipState → ℕ → Bool
is_locked s b = slice_index_or s.locks b false

abbrev pub set_lock : ℕ → Bool → ChipState → ChipState
set_lock b locked s = record s { step = Rest; locks = slice_set s.locks b locked }

-- a lock is set
abbrev pub is_any_set : List Bool → Bool
is_any_set locks = list_any (λ locked. locked) locks

abbrev pub runs : Job → Bool
runs Idle = false
runs (Program at bytes left) = true
runs (Erase target left) = true
runs (Pausing b wait left) = true

abbrev pub is_held : Held → Bool
is_held NotHeld = false
is_held (Holds b left) = true

-- block b is the one whose erase is suspended
abbrev pub holds_block : Held → ℕ → Bool
holds_block NotHeld b = false
holds_block (Holds c left) b = b == c

-- the place lies in that block
abbrev pub holds_at : Held → List Span → ℕ → Bool
holds_at NotHeld blocks p = false
holds_at (Holds b left) blocks p = is_within (block blocks b) p

-- one more, in a counter that stays at its last value
abbrev pub counted : ℕ → ℕ
counted n = min (n + 1) (2 ^ 32 - 1)

-- how many units it has
abbrev pub units : ChipState → ℕ
units s = length s.cells / unit_len s.part.device

-- how many more reads a job shows working, at most
abbrev pub reads_left : Job → ℕ
reads_left Idle = 0
reads_left (Program at bytes left) = left
reads_left (Erase target left) = left
reads_left (Pausing b wait left) = left + wait
