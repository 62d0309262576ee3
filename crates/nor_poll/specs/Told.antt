-- What a poll tells of a chip.
use Rattle.std.specs.Prelude.{◌≡◌, ◌≢◌, ◌<◌, ◌⊎◌, ℕ, Bool, true, false, List, slice_index_or, if◌then◌else◌}
use Rattle.nor_cell.specs.Chip.{ChipState, Status, Flags, Fault, NoFault, TimeFault, AbortFault, Idle, runs, is_held, reads_left, place, holds_at}
use Rattle.nor_cell.specs.Look.{look, looked, LooksTo}
use Rattle.nor_cell.specs.declared.device.Set.{Set}
use Rattle.nor_cell.specs.declared.device.Set.TheVariants.{Intel, Amd}
use Rattle.nor_poll.specs.declared.watch.Seen.{Seen}
use Rattle.nor_poll.specs.declared.watch.Seen.TheVariants.{Working, Ready, Suspended, Broken}
use Rattle.nor_poll.specs.declared.watch.Broke.TheVariants.{Erase, Program, Time, Abort}

-- what is told of lane c
abbrev pub seen_at : List Seen → ℕ → Seen
seen_at lanes c = slice_index_or lanes c Ready

-- the chip is of set 0001, and shows its status
pub record ShowsStatus (s : ChipState) : Type 0 where
  pub set : s.part.set ≡ Intel
  pub mode : s.mode ≡ Status

-- what is to be told of a chip of set 0001: whether a job runs and an erase is held, and its error flags
abbrev pub seen : Bool → Bool → Flags → Seen
seen working held flags =
    if working then Working
    else if flags.erase then Broken Erase
    else if flags.program then Broken Program
    else if held then Suspended
    else Ready

-- what is to be told of a chip of set 0002 that runs no job: its fault, and whether the unit that was read lies in its
-- held block
abbrev pub seen_fault : Fault → Bool → Seen
seen_fault NoFault here = if here then Suspended else Ready
seen_fault (TimeFault job) here = Broken Time
seen_fault AbortFault here = Broken Abort

-- what is to be told of a chip that runs no job, by unit u
abbrev pub seen_idle : Set → ℕ → ChipState → Seen
seen_idle Intel u s = seen false (is_held s.held) s.flags
seen_idle Amd u s = seen_fault s.fault (holds_at s.held s.part.blocks (place s.part u))

-- the chip with no error of a program, as a poll in an erase sees it
abbrev pub past_program : ChipState → ChipState
past_program s = record s { flags = record { erase = s.flags.erase; program = false; locked = s.flags.locked } }

-- A read has looked at the chip, and changed no more than a look does, and the toggle bits of a chip of set 0002.
pub record IsLooked (s t : ChipState) : Type 0 where
  pub cells : LooksTo s (look s) t.cells
  pub rest : t ≡ record (looked (look s) s) { cells = t.cells; toggle_6 = t.toggle_6; toggle_2 = t.toggle_2 }
  pub still : s.part.set ≡ Intel → (t.toggle_6 ≡ s.toggle_6) × (t.toggle_2 ≡ s.toggle_2)

-- a job runs in it, which has reads left, or the chip is stuck
abbrev pub HasLeft : ChipState → Type 0
HasLeft s = (0 < reads_left s.job) ⊎ ((runs s.job ≡ true) × (s.part.stuck ≡ true))

-- The chip went from s to t in a poll of unit u, which told this of it: that it works, which it did at the first read, or else
-- what it is at after the last.
pub record ToldAt (u : ℕ) (s : ChipState) (it : Seen) (t : ChipState) : Type 0 where
  pub had : it ≡ Working → HasLeft s
  pub idle : it ≢ Working → t.job ≡ Idle
  pub is : it ≢ Working → it ≡ seen_idle t.part.set u t

-- The chip went from s to t in a poll of one read, which told this of it.
pub record Told (s : ChipState) (it : Seen) (t : ChipState) : Type 0 where
  pub looked : IsLooked s t
  pub told : it ≡ seen (runs t.job) (is_held t.held) t.flags
  -- a chip that is told to work had reads left, or is stuck
  pub had : it ≡ Working → HasLeft s

-- so it is with a chip that shows its status; a poll in an erase looks past the error of a program
abbrev pub TellsStatus : ChipState → Seen → ChipState → Type 0
TellsStatus s it t = ShowsStatus s → Told s it t

abbrev pub TellsErase : ℕ → ChipState → Seen → ChipState → Type 0
TellsErase u s it t = ShowsStatus s → ToldAt u s it (past_program t)
