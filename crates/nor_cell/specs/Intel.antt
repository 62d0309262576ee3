-- The machine of set 0001, Intel extended: what a read answers, and what a write does.
use Rattle.std.specs.Prelude.{◌≡◌, ◌<◌, ◌+◌, ◌-◌, ◌/◌, ◌%◌, ◌^◌, ℕ, List, [], ◌++◌, Bool, true, false, not, ◌==◌, ◌&&◌, ◌||◌, nat_lt, if◌then◌else◌, MatchBool}
use Rattle.nor_cell.specs.Bits.{unit_len, unit_bytes, unit_at}
use Rattle.nor_cell.specs.Table.{has_locks, left_at_start}
use Rattle.nor_cell.specs.declared.device.Work.{Work}
use Rattle.nor_cell.specs.declared.device.Work.TheVariants.{Word, Buffer, Block}
use Rattle.nor_cell.specs.Chip.{ChipState, Flags, Mode, Array, Query, Ident, Status, Locks, Step, Rest, ProgramNext, EraseNext, LockNext, BufferCount, BufferData, BufferConfirm, Unlock1, Unlock2, Erase1, Erase2, Erase3, LeaveNext, Program, Erase, OneBlock, block, block_of, has_blocks, place, is_locked, is_held, holds_at, set_lock, runs, counted}
use Rattle.nor_cell.specs.Loads.{room, is_next, first_of, taken}
use Rattle.nor_cell.specs.Shown.{register, query_at, bit_if}
use Rattle.nor_cell.specs.Look.{held_off, look, looked, LooksTo, suspended, resumed}

-- ---- what a read answers

-- Register 2 of each block is 1 where it is locked.
abbrev pub ident_at : ChipState → ℕ → ℕ
ident_at s u =
    let b = block_of s u in
    let first = (block s.part.blocks b).from / unit_len s.part.device in
    if has_blocks s.part.blocks && register s.part.device (u - first) == 2 && is_locked s b then 1 else 0

-- ready, with the bits for: suspended, erase error, program error, locked
abbrev pub status_of : Bool → Flags → ℕ
status_of held flags = 0x80 + bit_if 0x40 held + bit_if 0x20 flags.erase + bit_if 0x10 flags.program + bit_if 0x02 flags.locked

-- A unit of the array; inside a held block it may be anything.
pub record ShowsArray (s : ChipState) (u answer : ℕ) : Type 0 where
  pub fits : answer < 256 ^ unit_len s.part.device
  pub same : holds_at s.held s.part.blocks (place s.part u) ≡ false → answer ≡ unit_at s.part.device s.cells u

abbrev pub ShowsMode : Mode → ChipState → ℕ → ℕ → Type 0
ShowsMode Array s u answer = ShowsArray s u answer
ShowsMode Query s u answer = answer ≡ query_at s.part u
ShowsMode Ident s u answer = answer ≡ ident_at s u
ShowsMode Status s u answer = answer ≡ status_of (is_held s.held) s.flags
-- a mode of the other set
ShowsMode Locks s u answer = answer ≡ 0

-- While a job runs, bit 7 is clear.
abbrev pub Shows : ChipState → ℕ → ℕ → Type 0
Shows s u answer = MatchBool (runs s.job) (answer ≡ bit_if 0x40 (is_held s.held)) (ShowsMode s.mode s u answer)

-- A read looks at the job and answers by what is then.
pub record IntelReads (old : ChipState) (u answer : ℕ) (new : ChipState) : Type 0 where
  pub cells : LooksTo old (look old) new.cells
  pub rest : new ≡ record (looked (look old) old) { cells = new.cells }
  pub answers : Shows new u answer

-- ---- what a write does

abbrev pub flagged : Bool → Bool → Bool → ChipState → ChipState
flagged erase program locked s =
    record s {
      step = Rest;
      flags = record {
        erase = erase || s.flags.erase;
        program = program || s.flags.program;
        locked = locked || s.flags.locked;
      };
    }

-- both error bits: a command sequence error
abbrev pub misled : ChipState → ChipState
misled s = flagged true true false s

abbrev pub begin_program : Work → ℕ → List ℕ → ChipState → ChipState
begin_program work u bytes s =
    let b = block_of s u in
    if is_locked s b then record (flagged false true true s) { mode = Status }
    else if held_off s b then record (misled s) { mode = Status }
    else record s {
      step = Rest;
      mode = Status;
      job = Program (place s.part u) bytes (left_at_start work s.part.pace_program s.part.table);
    }

abbrev pub begin_erase : ℕ → ChipState → ChipState
begin_erase b s =
    if is_locked s b then record (flagged true false true s) { mode = Status }
    else if is_held s.held then record (misled s) { mode = Status }
    else record s {
      step = Rest;
      mode = Status;
      job = Erase (OneBlock b) (left_at_start Block s.part.pace_erase s.part.table);
      erases = counted s.erases;
    }

-- at rest, by the code
abbrev pub commanded : ChipState → ℕ → ℕ → ChipState
commanded s u code =
    let takes_jobs = has_blocks s.part.blocks in
    if code == 0x90 then record s { mode = Ident }
    else if code == 0x98 then record s { mode = Query }
    else if code == 0x70 then record s { mode = Status }
    else if code == 0x50 then record s { flags = record { erase = false; program = false; locked = false } }
    else if (code == 0x40 || code == 0x10) && takes_jobs then record s { step = ProgramNext; mode = Status }
    else if code == 0xE8 && takes_jobs && not (room s == 0) then
    record s { step = BufferCount (block_of s u); mode = Status }
    else if code == 0x20 && takes_jobs then record s { step = EraseNext; mode = Status }
    else if code == 0x60 && takes_jobs then record s { step = LockNext; mode = Status }
    else if code == 0xD0 && takes_jobs && is_held s.held then record (resumed s) { mode = Status }
    -- 0xFF, and any other
    else record s { mode = Array }

abbrev pub lock_steps : ChipState → ℕ → ℕ → ChipState
lock_steps s u code =
    if code == 0x01 && has_locks s.part.table then set_lock (block_of s u) true s
    else if code == 0xD0 && has_locks s.part.table then set_lock (block_of s u) false s
    else misled s

-- when no job runs, by the step
abbrev pub steps : Step → ChipState → ℕ → ℕ → ChipState
steps Rest s u v = commanded s u (v % 256)
steps ProgramNext s u v = begin_program Word u (unit_bytes s.part.device v) s
steps EraseNext s u v = if v % 256 == 0xD0 then begin_erase (block_of s u) s else misled s
steps LockNext s u v = lock_steps s u (v % 256)
steps (BufferCount b) s u v =
    if nat_lt (v % 256) (room s) then record s { step = BufferData b (v % 256 + 1) 0 [] } else misled s
steps (BufferData b missing first bytes) s u v =
    if is_next s b first bytes u
    then taken b (missing - 1) (first_of first bytes u) (bytes ++ unit_bytes s.part.device v) s
    else misled s
steps (BufferConfirm first bytes) s u v =
    if v % 256 == 0xD0 then begin_program Buffer first bytes s else misled s
-- steps of the other set
steps Unlock1 s u v = s
steps Unlock2 s u v = s
steps Erase1 s u v = s
steps Erase2 s u v = s
steps Erase3 s u v = s
steps LeaveNext s u v = s

-- A write of v at unit u. While a job runs, the suspend code alone is taken.
abbrev pub intel_writes : ChipState → ℕ → ℕ → ChipState
intel_writes s u v =
    if runs s.job then (if v % 256 == 0xB0 then suspended s else s) else steps s.step s u v
