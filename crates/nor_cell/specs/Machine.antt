-- The chip that a simulated machine stands for.
use Rattle.std.specs.Prelude.{◌≡◌, ◌<◌, ◌≤◌, ◌+◌, ◌-◌, ◌*◌, ◌^◌, ℕ, List, [], ◌++◌, length, Bool, true, false, ◌==◌}
use Rattle.nor_cell.specs.Bits.{unit_len, unit_bytes}
use Rattle.nor_cell.specs.Table.{has_locks, buffer_units, left_at_start}
use Rattle.nor_cell.specs.Loads.{is_next, taken, first_of}
use Rattle.nor_cell.specs.Cells.{part_of}
use Rattle.nor_cell.specs.Chip.{ChipState, Mode, Array, Query, Ident, Status, Locks, Step, Rest, ProgramNext, LockNext, BufferCount, BufferData, BufferConfirm, EraseNext, Unlock1, Unlock2, Erase1, Erase2, Erase3, LeaveNext, Target, OneBlock, AllBlocks, Job, Idle, Program, Erase, Pausing, Held, NotHeld, Holds, Fault, NoFault, TimeFault, AbortFault, counted, place}
use Rattle.nor_cell.specs.declared.device.Set.{Set}
use Rattle.nor_cell.specs.declared.device.Work.{Work}
use Rattle.nor_cell.specs.declared.device.Work.TheVariants.{Block, Chip}
use Rattle.nor_cell.specs.declared.cells.Cells.{Cells}
use Rattle.nor_cell.specs.declared.state.ShownMode.{ShownMode}
use Rattle.nor_cell.specs.declared.state.ShownMode.TheVariants.{Array as ArrayShown, Query as QueryShown, Ident as IdentShown, Status as StatusShown, Locks as LocksShown}
use Rattle.nor_cell.specs.declared.state.NextStep.{NextStep}
use Rattle.nor_cell.specs.declared.state.NextStep.TheVariants.{Rest as RestNow, ProgramNext as ProgramNow, LockNext as LockNow, BufferCount as CountNow, BufferData as DataNow, BufferConfirm as ConfirmNow, EraseNext as EraseNow, Unlock1 as UnlockNow1, Unlock2 as UnlockNow2, Erase1 as EraseNow1, Erase2 as EraseNow2, Erase3 as EraseNow3, LeaveNext as LeaveNow}
use Rattle.nor_cell.specs.declared.state.EraseTarget.{EraseTarget}
use Rattle.nor_cell.specs.declared.state.EraseTarget.TheVariants.{OneBlock as OneTarget, AllBlocks as AllTargets}
use Rattle.nor_cell.specs.declared.state.RunningJob.{RunningJob}
use Rattle.nor_cell.specs.declared.state.RunningJob.TheVariants.{Idle as NoneRuns, Program as ProgramRuns, Erase as EraseRuns, Pausing as PausingRuns}
use Rattle.nor_cell.specs.declared.state.HeldErase.{HeldErase}
use Rattle.nor_cell.specs.declared.state.HeldErase.TheVariants.{None as NoneHeld, Block as BlockHeld}
use Rattle.nor_cell.specs.declared.state.StatusFlags.{StatusFlags}
use Rattle.nor_cell.specs.declared.state.Failure.{Failure}
use Rattle.nor_cell.specs.declared.state.Failure.TheVariants.{None as NoFailure, ProgramTime, EraseTime, Abort}

abbrev pub mode_of : ShownMode → Mode
mode_of ArrayShown = Array
mode_of QueryShown = Query
mode_of IdentShown = Ident
mode_of StatusShown = Status
mode_of LocksShown = Locks

abbrev pub step_of : NextStep → List ℕ → Step
step_of RestNow load = Rest
step_of ProgramNow load = ProgramNext
step_of LockNow load = LockNext
step_of (CountNow b) load = BufferCount b
step_of (DataNow b missing first) load = BufferData b missing first load
step_of (ConfirmNow first) load = BufferConfirm first load
step_of EraseNow load = EraseNext
step_of UnlockNow1 load = Unlock1
step_of UnlockNow2 load = Unlock2
step_of EraseNow1 load = Erase1
step_of EraseNow2 load = Erase2
step_of EraseNow3 load = Erase3
step_of LeaveNow load = LeaveNext

abbrev pub target_of : EraseTarget → Target
target_of (OneTarget b) = OneBlock b
target_of AllTargets = AllBlocks

abbrev pub job_of : RunningJob → List ℕ → Job
job_of NoneRuns load = Idle
job_of (ProgramRuns at left) load = Program at load left
job_of (EraseRuns target left) load = Erase (target_of target) left
job_of (PausingRuns b wait left) load = Pausing b wait left

abbrev pub held_of : HeldErase → Held
held_of NoneHeld = NotHeld
held_of (BlockHeld b left) = Holds b left

abbrev pub fault_of : Failure → List ℕ → Fault
fault_of NoFailure load = NoFault
fault_of (ProgramTime at) load = TimeFault (Program at load 0)
fault_of (EraseTime target) load = TimeFault (Erase (target_of target) 0)
fault_of Abort load = AbortFault

-- One list of bytes serves the buffer load, the program that then runs, and the one that broke.
abbrev pub machine_of : Set → Cells → ShownMode → NextStep → RunningJob → HeldErase → StatusFlags
    → Failure → Bool → Bool → List ℕ → ChipState
machine_of set cells mode step job held flags fault toggle_6 toggle_2 load = record {
  part = part_of set cells;
  cells = cells.bytes.items;
  locks = cells.locks.items;
  suspends = cells.suspends;
  erases = cells.erases;
  mode = mode_of mode;
  step = step_of step load;
  job = job_of job load;
  held = held_of held;
  flags = record { erase = flags.erase; program = flags.program; locked = flags.locked };
  fault = fault_of fault load;
  toggle_6 = toggle_6;
  toggle_2 = toggle_2;
}

-- ---- what holds of every machine

-- a program lies in the cells
abbrev pub JobFits : RunningJob → List ℕ → Cells → Type 0
JobFits NoneRuns load cells = Unit {0}
JobFits (ProgramRuns at left) load cells = at + length load ≤ length cells.bytes.items
JobFits (EraseRuns target left) load cells = Unit {0}
JobFits (PausingRuns b wait left) load cells = Unit {0}

-- A buffer load lies in the cells, and there is room for the units that are missing.
pub record LoadFits (missing first : ℕ) (load : List ℕ) (cells : Cells) : Type 0 where
  pub inside : unit_len cells.device * first + length load ≤ length cells.bytes.items
  pub short : length load + unit_len cells.device * missing ≤ 512
  pub some : 0 < missing
  pub room : 0 < buffer_units cells.device cells.table

-- A load that waits for its confirm lies in the cells, and has a unit at least.
pub record LoadIsWhole (first : ℕ) (load : List ℕ) (cells : Cells) : Type 0 where
  pub inside : unit_len cells.device * first + length load ≤ length cells.bytes.items
  pub some : unit_len cells.device ≤ length load

abbrev pub StepFits : NextStep → List ℕ → Cells → Type 0
StepFits RestNow load cells = Unit {0}
StepFits ProgramNow load cells = Unit {0}
StepFits LockNow load cells = Unit {0}
StepFits (CountNow b) load cells = Unit {0}
StepFits (DataNow b missing first) load cells = LoadFits missing first load cells
StepFits (ConfirmNow first) load cells = LoadIsWhole first load cells
StepFits EraseNow load cells = Unit {0}
StepFits UnlockNow1 load cells = Unit {0}
StepFits UnlockNow2 load cells = Unit {0}
StepFits EraseNow1 load cells = Unit {0}
StepFits EraseNow2 load cells = Unit {0}
StepFits EraseNow3 load cells = Unit {0}
StepFits LeaveNow load cells = Unit {0}

-- The locks are shown only where the table offers them.
abbrev pub ModeFits : ShownMode → Cells → Type 0
ModeFits ArrayShown cells = Unit {0}
ModeFits QueryShown cells = Unit {0}
ModeFits IdentShown cells = Unit {0}
ModeFits StatusShown cells = Unit {0}
ModeFits LocksShown cells = has_locks cells.table ≡ true

pub record Fits (cells : Cells) (mode : ShownMode) (step : NextStep) (job : RunningJob) (load : List ℕ) : Type 0 where
  pub size : length cells.bytes.items ≤ 2 ^ 27
  pub mode_offered : ModeFits mode cells
  pub step_inside : StepFits step load cells
  pub job_inside : JobFits job load cells

-- ---- buffer loads, by the step

-- the bytes that were loaded
abbrev pub load_of : Step → List ℕ
load_of (BufferData b missing first bytes) = bytes
load_of (BufferConfirm first bytes) = bytes
load_of _ = []

-- unit u is the one that the load may take next
abbrev pub takes : Step → ChipState → ℕ → Bool
takes (BufferData b missing first bytes) s u = is_next s b first bytes u
takes _ s u = false

-- the state with a unit more
abbrev pub loaded : Step → ChipState → ℕ → ℕ → ChipState
loaded (BufferData b missing first bytes) s u v =
    taken b (missing - 1) (first_of first bytes u) (bytes ++ unit_bytes s.part.device v) s
loaded _ s u v = s

-- ---- jobs begin

abbrev pub work_of : Target → Work
work_of (OneBlock b) = Block
work_of AllBlocks = Chip

abbrev pub erase_started : Target → ChipState → ChipState
erase_started target s =
    record s {
      step = Rest;
      job = Erase target (left_at_start (work_of target) s.part.pace_erase s.part.table);
      erases = counted s.erases;
    }

-- what is loaded is programmed, from unit u on
abbrev pub program_started : Work → ℕ → List ℕ → ChipState → ChipState
program_started work u bytes s =
    record s { step = Rest; job = Program (place s.part u) bytes (left_at_start work s.part.pace_program s.part.table) }

-- ---- jobs end

-- a job runs that shows working no more
abbrev pub is_over : Job → Bool
is_over Idle = false
is_over (Program at bytes left) = left == 0
is_over (Erase target left) = left == 0
is_over (Pausing b wait left) = wait == 0
