-- What a read does to a running job, and how jobs end: the rules that both sets share.
use Rattle.std.specs.Prelude.{◌≡◌, ◌<◌, ◌≤◌, ◌+◌, ◌-◌, ℕ, zero, suc, List, length, slice_index, bit_and, Bool, true, false, not, ◌==◌, ◌&&◌, ◌||◌, nat_lt, nat_le, if◌then◌else◌, Option, is_some, unwrap_or}
use Rattle.std.specs.List.{find, list_any}
use Rattle.nor_cell.specs.Bits.{IsBetween, ChangesWithin, unit_len}
use Rattle.nor_cell.specs.Table.{suspend_kind, can_suspend, can_program_suspended}
use Rattle.nor_cell.specs.Chip.{ChipState, Job, Idle, Program, Erase, Target, OneBlock, AllBlocks, Pausing, Held, NotHeld, Holds, Flags, Fault, TimeFault, is_held, holds_block, covered, is_within, span_end, counted}
use Rattle.nor_cell.specs.declared.device.Span.{Span}
use Rattle.nor_cell.specs.declared.device.Set.{Set}
use Rattle.nor_cell.specs.declared.device.Set.TheVariants.{Intel, Amd}

-- what a read finds of the job
pub data Look : Type 0 where
  Rests : Look  -- none runs
  Works : (job : Job) → Look  -- it shows working, and goes on as this
  Pauses : (block left : ℕ) → Look  -- the erase is suspended now
  EndsProgram : (at : ℕ) (bytes : List ℕ) → Look  -- it is over
  EndsErase : (target : Target) → Look

-- A job shows working while it has reads left. A stuck chip does for ever.
abbrev pub look_at : Bool → Job → Look
look_at stuck Idle = Rests
look_at true (Program at bytes left) = Works (Program at bytes left)
look_at true (Erase target left) = Works (Erase target left)
look_at true (Pausing b wait left) = Works (Pausing b wait left)
look_at false (Program at bytes (suc left)) = Works (Program at bytes left)
look_at false (Program at bytes zero) = EndsProgram at bytes
look_at false (Erase target (suc left)) = Works (Erase target left)
look_at false (Erase target zero) = EndsErase target
look_at false (Pausing b (suc wait) left) = Works (Pausing b wait left)
look_at false (Pausing b zero left) = Pauses b left

abbrev pub look : ChipState → Look
look s = look_at s.part.stuck s.job

-- A byte would lose a bit to its datum.
abbrev pub would_change : ℕ → ℕ → Bool
would_change old datum = not (bit_and old datum == old)

-- The weak unit at place w lies in the range that is programmed, and would change.
abbrev pub breaks : ℕ → ℕ → List ℕ → List ℕ → ℕ → Bool
breaks d at bytes cells w =
    nat_le at w && nat_lt w (at + length bytes)
    && (would_change (slice_index cells w) (slice_index bytes (w - at))
    || would_change (slice_index cells (w + (d - 1))) (slice_index bytes (w + (d - 1) - at)))

-- the first weak place at which programming breaks off
abbrev pub break_of : ℕ → List ℕ → ℕ → List ℕ → List ℕ → Option ℕ
break_of d weak at bytes cells = find (breaks d at bytes cells) weak

-- Up to where it breaks off, a byte becomes old AND new. The unit there has bits between. What follows stays.
pub record ProgramsByte (d stop p old datum new : ℕ) : Type 0 where
  pub stored : p < stop → new ≡ bit_and old datum
  pub torn : stop ≤ p → p < stop + d → IsBetween old datum new
  pub kept : stop + d ≤ p → new ≡ old

-- what the end of a program leaves of the cells
abbrev pub Programmed : ℕ → List ℕ → ℕ → List ℕ → List ℕ → List ℕ → Type 0
Programmed d weak at bytes old new =
    let stop = unwrap_or (break_of d weak at bytes old) (at + length bytes) in
    ChangesWithin at (at + length bytes)
    (λ p x. ProgramsByte d stop p (slice_index old p) (slice_index bytes (p - at)) x) old new

-- a weak place lies in the span
abbrev pub is_weak : List ℕ → Span → Bool
is_weak weak span = list_any (is_within span) weak

-- what the end of an erase leaves: ones, or any bytes where a weak place lies in the block
abbrev pub Erased : List ℕ → Span → List ℕ → List ℕ → Type 0
Erased weak span old new =
    ChangesWithin span.from (span_end span) (λ p x. (x < 256) × (is_weak weak span ≡ false → x ≡ 255)) old new

-- the cells that a look may leave
abbrev pub LooksTo : ChipState → Look → List ℕ → Type 0
LooksTo s Rests new = new ≡ s.cells
LooksTo s (Works job) new = new ≡ s.cells
LooksTo s (Pauses b left) new = new ≡ s.cells
LooksTo s (EndsProgram at bytes) new = Programmed (unit_len s.part.device) s.part.weak at bytes s.cells new
LooksTo s (EndsErase target) new = Erased s.part.weak (covered target s.part.blocks) s.cells new

abbrev pub job_after : Look → Job
job_after Rests = Idle
job_after (Works job) = job
job_after (Pauses b left) = Idle
job_after (EndsProgram at bytes) = Idle
job_after (EndsErase target) = Idle

abbrev pub held_after : Look → Held → Held
held_after Rests held = held
held_after (Works job) held = held
held_after (Pauses b left) held = Holds b left
held_after (EndsProgram at bytes) held = held
held_after (EndsErase target) held = held

abbrev pub suspends_after : Look → ℕ → ℕ
suspends_after Rests n = n
suspends_after (Works job) n = n
suspends_after (Pauses b left) n = counted n
suspends_after (EndsProgram at bytes) n = n
suspends_after (EndsErase target) n = n

-- the job that ended, if it broke off
abbrev pub broken_of : ChipState → Look → Job
broken_of s Rests = Idle
broken_of s (Works job) = Idle
broken_of s (Pauses b left) = Idle
broken_of s (EndsProgram at bytes) =
    if is_some (break_of (unit_len s.part.device) s.part.weak at bytes s.cells) then Program at bytes 0
    else Idle
broken_of s (EndsErase target) = if is_weak s.part.weak (covered target s.part.blocks) then Erase target 0 else Idle

-- A broken job is told by a flag (Intel), or by a fault with that job (Amd).
abbrev pub flags_with : Set → Job → Flags → Flags
flags_with Intel Idle flags = flags
flags_with Intel (Program at bytes left) flags = record { erase = flags.erase; program = true; locked = flags.locked }
flags_with Intel (Erase target left) flags = record { erase = true; program = flags.program; locked = flags.locked }
flags_with Intel (Pausing b wait left) flags = flags
flags_with Amd broken flags = flags

abbrev pub fault_with : Set → Job → Fault → Fault
fault_with Intel broken fault = fault
fault_with Amd Idle fault = fault
fault_with Amd (Program at bytes left) fault = TimeFault (Program at bytes left)
fault_with Amd (Erase target left) fault = TimeFault (Erase target left)
fault_with Amd (Pausing b wait left) fault = fault

-- all but the cells after a look
abbrev pub looked : Look → ChipState → ChipState
looked l s = record s {
  job = job_after l;
  held = held_after l s.held;
  suspends = suspends_after l s.suspends;
  flags = flags_with s.part.set (broken_of s l) s.flags;
  fault = fault_with s.part.set (broken_of s l) s.fault;
}

-- The suspend code while a job runs: an erase with more reads left than the pace will be suspended after as many
-- reads as the pace; one with fewer finishes. Nothing else is suspended, an erase of all blocks neither, and a stuck chip isn't.
abbrev pub suspended_job : ℕ → Job → Job
suspended_job pace Idle = Idle
suspended_job pace (Program at bytes left) = Program at bytes left
suspended_job pace (Pausing b wait left) = Pausing b wait left
suspended_job pace (Erase (OneBlock b) left) =
    if nat_lt pace left then Pausing b pace (left - pace) else Erase (OneBlock b) left
suspended_job pace (Erase AllBlocks left) = Erase AllBlocks left

abbrev pub suspended : ChipState → ChipState
suspended s =
    if not s.part.stuck && can_suspend (suspend_kind s.part.table)
    then record s { job = suspended_job s.part.pace_suspend s.job }
    else s

-- a held erase goes on
abbrev pub resumed_from : Held → ChipState → ChipState
resumed_from NotHeld s = s
resumed_from (Holds b left) s = record s { job = Erase (OneBlock b) left; held = NotHeld }

abbrev pub resumed : ChipState → ChipState
resumed s = resumed_from s.held s

-- a held erase keeps block b from being programmed
abbrev pub held_off : ChipState → ℕ → Bool
held_off s b = is_held s.held && (not (can_program_suspended (suspend_kind s.part.table)) || holds_block s.held b)
