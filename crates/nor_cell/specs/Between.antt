-- A chip between two commands, of either set.
use Rattle.std.specs.Prelude.{◌≡◌, Bool, true, false}
use Rattle.nor_cell.specs.Chip.{ChipState, Mode, Array, Query, Ident, Status, Locks, Rest, Idle, NotHeld, Flags, Fault, NoFault, TimeFault, AbortFault}
use Rattle.nor_cell.specs.declared.device.Set.{Set}
use Rattle.nor_cell.specs.declared.device.Set.TheVariants.{Intel, Amd}

-- The reset codes lead a chip to its array: one of set 0001 always, which has no fault; one of set 0002
-- from its array, its query table and a broken job.
abbrev pub can_reset : Set → Mode → Fault → Bool
can_reset Intel mode NoFault = true
can_reset Intel mode (TimeFault job) = false
can_reset Intel mode AbortFault = false
can_reset Amd Array NoFault = true
can_reset Amd Query NoFault = true
can_reset Amd Ident NoFault = false
can_reset Amd Status NoFault = false
can_reset Amd Locks NoFault = false
can_reset Amd mode (TimeFault job) = true
can_reset Amd mode AbortFault = false

-- A chip of the set waits for a command, while a job may run in it: one of set 0002 shows its array.
pub record Waits (kind : Set) (s : ChipState) : Type 0 where
  pub set : s.part.set ≡ kind
  pub step : s.step ≡ Rest
  pub mode : kind ≡ Amd → s.mode ≡ Array
  pub resets : can_reset kind s.mode s.fault ≡ true

-- a chip of the set that waits for a command and runs no job, in any mode
pub record AtRest (kind : Set) (s : ChipState) : Type 0 where
  pub set : s.part.set ≡ kind
  pub step : s.step ≡ Rest
  pub job : s.job ≡ Idle
  pub resets : can_reset kind s.mode s.fault ≡ true

-- it takes every command of the set
pub record TakesCommands (kind : Set) (s : ChipState) : Type 0 where
  pub rest : AtRest kind s
  pub mode : kind ≡ Amd → s.mode ≡ Array
  pub fault : s.fault ≡ NoFault

abbrev pub no_flags : Flags
no_flags = record { erase = false; program = false; locked = false }

-- and no error stands
pub record IsClear (kind : Set) (s : ChipState) : Type 0 where
  pub takes : TakesCommands kind s
  pub flags : kind ≡ Intel → s.flags ≡ no_flags

-- every read answers from the array, but in a block whose erase is held
pub record IsShown (s : ChipState) : Type 0 where
  pub mode : s.mode ≡ Array
  pub step : s.step ≡ Rest
  pub job : s.job ≡ Idle
  pub fault : s.fault ≡ NoFault

-- every read answers from the array
pub record IsQuiet (s : ChipState) : Type 0 where
  pub shown : IsShown s
  pub held : s.held ≡ NotHeld

-- at rest, with no erase held
pub record IsIdle (s : ChipState) : Type 0 where
  pub rest : AtRest s.part.set s
  pub held : s.held ≡ NotHeld

-- the chip after the reset codes
abbrev pub reset : ChipState → ChipState
reset s = record s { mode = Array; fault = NoFault }
