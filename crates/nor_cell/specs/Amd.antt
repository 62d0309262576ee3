-- The machine of set 0002, AMD standard: the toggle bits, what a read answers, and what a write does.
use Rattle.std.specs.Prelude.{◌≡◌, ◌+◌, ◌-◌, ◌%◌, ℕ, List, [], ◌++◌, length, slice_index, Bool, true, false, not, ◌==◌, ◌&&◌, ◌||◌, nat_lt, if◌then◌else◌}
use Rattle.nor_cell.specs.Bits.{unit_len, unit_bytes, unit_at}
use Rattle.nor_cell.specs.Table.{has_locks, chip_erase_of, left_at_start}
use Rattle.nor_cell.specs.declared.device.Work.{Work}
use Rattle.nor_cell.specs.declared.device.Work.TheVariants.{Word, Buffer, Block, Chip}
use Rattle.nor_cell.specs.Chip.{ChipState, Part, Mode, Array, Query, Ident, Status, Locks, Step, Rest, ProgramNext, EraseNext, LockNext, BufferCount, BufferData, BufferConfirm, Unlock1, Unlock2, Erase1, Erase2, Erase3, LeaveNext, Job, Idle, Program, Erase, OneBlock, AllBlocks, Pausing, Fault, NoFault, TimeFault, AbortFault, block_of, has_blocks, place, is_locked, is_any_set, is_held, runs, counted, holds_at, set_lock}
use Rattle.nor_cell.specs.Look.{look, looked, LooksTo, suspended, resumed, held_off}
use Rattle.nor_cell.specs.Shown.{query_at, bit_if}
use Rattle.nor_cell.specs.Loads.{room, is_next, first_of, taken}
use Rattle.nor_cell.specs.declared.device.Device.{Device}
use Rattle.nor_cell.specs.declared.device.Device.TheVariants.{X8, X16, X16Byte}
use Rattle.nor_cell.specs.declared.device.Set.TheVariants.{Amd}

-- ---- the toggle bits

-- the unit lies in the held block, and the array is shown
abbrev pub shows_held : Mode → ChipState → ℕ → Bool
shows_held Array s u = holds_at s.held s.part.blocks (place s.part u)
shows_held Query s u = false
shows_held Ident s u = false
shows_held Status s u = false
shows_held Locks s u = false

abbrev pub is_fault : Fault → Bool
is_fault NoFault = false
is_fault (TimeFault job) = true
is_fault AbortFault = true

abbrev pub is_time : Fault → Bool
is_time NoFault = false
is_time (TimeFault job) = true
is_time AbortFault = false

abbrev pub is_erasing : Job → Bool
is_erasing Idle = false
is_erasing (Program at bytes left) = false
is_erasing (Erase target left) = true
is_erasing (Pausing b wait left) = true

-- bit 6 toggles while a job runs and in a fault
abbrev pub toggles_6 : ChipState → Bool
toggles_6 s = runs s.job || is_fault s.fault

-- bit 2 toggles while an erase runs, after a job that broke, and in the held block
abbrev pub toggles_2 : ChipState → ℕ → Bool
toggles_2 s u = is_erasing s.job || not (runs s.job)
    && (is_time s.fault || not (is_fault s.fault) && shows_held s.mode s u)

abbrev pub flipped : Bool → Bool → Bool
flipped toggles bit = if toggles then not bit else bit

abbrev pub toggled : ℕ → ChipState → ChipState
toggled u s = record s { toggle_6 = flipped (toggles_6 s) s.toggle_6; toggle_2 = flipped (toggles_2 s u) s.toggle_2 }

-- ---- what a read answers

-- the byte that tells the last unit's bit 7
abbrev pub last_low : Part → List ℕ → ℕ
last_low part bytes = slice_index bytes (length bytes - unit_len part.device)

-- a job that shows working
abbrev pub working : Job → ChipState → ℕ
working Idle s = 0
working (Program at bytes left) s = bit_if 0x80 (nat_lt (last_low s.part bytes) 0x80) + bit_if 0x40 s.toggle_6
working (Erase target left) s = 0x08 + bit_if 0x40 s.toggle_6 + bit_if 0x04 s.toggle_2
working (Pausing b wait left) s = 0x08 + bit_if 0x40 s.toggle_6 + bit_if 0x04 s.toggle_2

-- inside a held block a status stands in place of the array
abbrev pub array_at : ChipState → ℕ → ℕ
array_at s u =
    if holds_at s.held s.part.blocks (place s.part u)
    then 0x80 + bit_if 0x40 s.toggle_6 + bit_if 0x04 s.toggle_2
    else unit_at s.part.device s.cells u

abbrev pub mode_at : Mode → ChipState → ℕ → ℕ
mode_at Array s u = array_at s u
mode_at Query s u = query_at s.part u
mode_at Locks s u = if is_locked s (block_of s u) then 0 else 1
-- modes of the other set
mode_at Ident s u = 0
mode_at Status s u = 0

abbrev pub fault_at : Fault → ChipState → ℕ → ℕ
fault_at NoFault s u = mode_at s.mode s u
fault_at (TimeFault job) s u = working job s + 0x20
fault_at AbortFault s u = 0x02 + bit_if 0x40 s.toggle_6

abbrev pub shown : ChipState → ℕ → ℕ
shown s u = if runs s.job then working s.job s else fault_at s.fault s u

-- A read looks at the job, flips what toggles, and answers by what is then.
pub record AmdReads (old : ChipState) (u answer : ℕ) (new : ChipState) : Type 0 where
  pub cells : LooksTo old (look old) new.cells
  pub rest : new ≡ toggled u (record (looked (look old) old) { cells = new.cells })
  pub answers : answer ≡ shown new u

-- ---- what a write does

-- the addresses of the command cycles
abbrev pub first_address : Device → ℕ
first_address X8 = 0x555
first_address X16 = 0x555
first_address X16Byte = 0xAAA

abbrev pub second_address : Device → ℕ
second_address X8 = 0x2AA
second_address X16 = 0x2AA
second_address X16Byte = 0x555

abbrev pub query_address : Device → ℕ
query_address X8 = 0x55
query_address X16 = 0x55
query_address X16Byte = 0xAA

abbrev pub at_rest : ChipState → ChipState
at_rest s = record s { step = Rest }

abbrev pub goes_to : Step → ChipState → ChipState
goes_to step s = record s { step = step }

abbrev pub aborted : ChipState → ChipState
aborted s = record s { step = Rest; fault = AbortFault }

-- A locked block, and one that a held erase keeps off, isn't programmed, and nothing tells it.
abbrev pub begin_program : Work → ℕ → List ℕ → ChipState → ChipState
begin_program work u bytes s =
    if is_locked s (block_of s u) || held_off s (block_of s u) then at_rest s
    else record s {
      step = Rest;
      job = Program (place s.part u) bytes (left_at_start work s.part.pace_program s.part.table);
    }

abbrev pub begin_erase : ℕ → ChipState → ChipState
begin_erase b s =
    if is_locked s b then at_rest s
    else record s {
      step = Rest;
      job = Erase (OneBlock b) (left_at_start Block s.part.pace_erase s.part.table);
      erases = counted s.erases;
    }

-- One locked block keeps all from being erased at once.
abbrev pub begin_erase_all : ChipState → ChipState
begin_erase_all s =
    if is_any_set s.locks then at_rest s
    else record s {
      step = Rest;
      job = Erase AllBlocks (left_at_start Chip s.part.pace_erase s.part.table);
      erases = counted s.erases;
    }

-- in mode Array, by the step; `code` is the low byte of v
abbrev pub array_steps : Step → ChipState → ℕ → ℕ → ℕ → ChipState
array_steps Rest s u v code =
    let takes_jobs = has_blocks s.part.blocks in
    if code == 0xAA && takes_jobs && u == first_address s.part.device then goes_to Unlock1 s
    else if code == 0x98 && u == query_address s.part.device then record s { mode = Query }
    else if code == 0x30 && takes_jobs then resumed s
    else s
array_steps Unlock1 s u v code =
    if code == 0x55 && u == second_address s.part.device then goes_to Unlock2 s else at_rest s
array_steps Unlock2 s u v code =
    if code == 0xA0 && u == first_address s.part.device then goes_to ProgramNext s
    else if code == 0x80 && u == first_address s.part.device && not (is_held s.held) then goes_to Erase1 s
    else if code == 0x25 && not (room s == 0) then goes_to (BufferCount (block_of s u)) s
    else if code == 0xE0 && u == first_address s.part.device && has_locks s.part.table then
    record s { mode = Locks; step = Rest }
    else at_rest s
array_steps Erase1 s u v code = if code == 0xAA && u == first_address s.part.device then goes_to Erase2 s else at_rest s
array_steps Erase2 s u v code =
    if code == 0x55 && u == second_address s.part.device then goes_to Erase3 s else at_rest s
array_steps Erase3 s u v code =
    if code == 0x30 then begin_erase (block_of s u) s
    else if code == 0x10 && u == first_address s.part.device && chip_erase_of Amd s.part.table then begin_erase_all s
    else at_rest s
array_steps ProgramNext s u v code = begin_program Word u (unit_bytes s.part.device v) s
array_steps (BufferCount b) s u v code =
    if nat_lt code (room s) then goes_to (BufferData b (code + 1) 0 []) s else aborted s
array_steps (BufferData b missing first bytes) s u v code =
    if is_next s b first bytes u
    then taken b (missing - 1) (first_of first bytes u) (bytes ++ unit_bytes s.part.device v) s
    else aborted s
array_steps (BufferConfirm first bytes) s u v code =
    if code == 0x29 then begin_program Buffer first bytes s else aborted s
-- steps of another mode or set
array_steps EraseNext s u v code = at_rest s
array_steps LockNext s u v code = at_rest s
array_steps LeaveNext s u v code = at_rest s

-- in mode Locks: an announcing cycle, and then the lock at a unit of the block, or the way out
abbrev pub locks_steps : Step → ChipState → ℕ → ℕ → ChipState
locks_steps Rest s u code =
    if code == 0xA0 then goes_to LockNext s else if code == 0x90 then goes_to LeaveNext s else s
locks_steps LockNext s u code =
    if code == 0x00 then set_lock (block_of s u) true s
    else if code == 0x01 then set_lock (block_of s u) false s
    else at_rest s
locks_steps LeaveNext s u code = if code == 0x00 then record s { mode = Array; step = Rest } else at_rest s
locks_steps _ s u code = at_rest s

-- in mode Query, back to the array
abbrev pub query_steps : Step → ChipState → ℕ → ChipState
query_steps Rest s code = if code == 0xF0 then record s { mode = Array } else s
query_steps _ s code = s

abbrev pub mode_steps : Mode → ChipState → ℕ → ℕ → ChipState
mode_steps Array s u v = array_steps s.step s u v (v % 256)
mode_steps Query s u v = query_steps s.step s (v % 256)
mode_steps Locks s u v = locks_steps s.step s u (v % 256)
-- modes of the other set
mode_steps Ident s u v = s
mode_steps Status s u v = s

-- In fault Abort the two unlock cycles and 0xF0 clear it, and nothing else does.
abbrev pub abort_steps : Step → ChipState → ℕ → ℕ → ChipState
abort_steps Rest s u code = if code == 0xAA && u == first_address s.part.device then goes_to Unlock1 s else at_rest s
abort_steps Unlock1 s u code =
    if code == 0x55 && u == second_address s.part.device then goes_to Unlock2 s else at_rest s
abort_steps Unlock2 s u code =
    if code == 0xF0 && u == first_address s.part.device then
    record s { step = Rest; mode = Array; fault = NoFault }
    else at_rest s
abort_steps _ s u code = at_rest s

abbrev pub fault_steps : Fault → ChipState → ℕ → ℕ → ChipState
fault_steps NoFault s u v = mode_steps s.mode s u v
fault_steps (TimeFault job) s u v =
    if v % 256 == 0xF0 then record s { step = Rest; mode = Array; fault = NoFault } else s
fault_steps AbortFault s u v = abort_steps s.step s u (v % 256)

-- A write of v at unit u. While a job runs, the suspend code alone is taken.
abbrev pub amd_writes : ChipState → ℕ → ℕ → ChipState
amd_writes s u v =
    if runs s.job then (if v % 256 == 0xB0 then suspended s else s) else fault_steps s.fault s u v
