-- What reads of a chip of set 0002 tell, by the bits that toggle.
use Rattle.std.specs.Prelude.{◌≡◌, ◌<◌, ◌≤◌, ◌+◌, ◌-◌, ◌%◌, ◌==◌, ◌&&◌, ◌||◌, ℕ, Bool, true, false, List, length, slice_index, bit_and, bit_or, bit_xor, nat_lt, if◌then◌else◌}
use Rattle.nor_cell.specs.Bits.{unit_len, unit_bytes}
use Rattle.nor_cell.specs.Chip.{ChipState, Part, Array, Job, Idle, Program, Erase, Pausing, Held, Fault, NoFault, TimeFault, AbortFault, runs, place, holds_at}
use Rattle.nor_cell.specs.Shown.{bit_if}
use Rattle.nor_cell.specs.Amd.{is_fault}
use Rattle.nor_cell.specs.declared.device.Set.TheVariants.{Amd}
use Rattle.nor_poll.specs.Told.{ToldAt}
use Rattle.nor_poll.specs.declared.watch.Seen.{Seen}
use Rattle.nor_poll.specs.declared.watch.Seen.TheVariants.{Working, Ready, Suspended, Broken}
use Rattle.nor_poll.specs.declared.watch.Broke.TheVariants.{Time, Abort}

-- ---- two answers, one after the other

-- bit 6 toggles, and of the others bit 2 at most
abbrev pub toggles : ℕ → ℕ → Bool
toggles first second = (second == bit_xor first 0x40) || (second == bit_xor first 0x44)

-- bit 1: a buffer load was aborted; else a job broke off
abbrev pub fault_says : ℕ → Seen
fault_says status = if bit_and status 0x02 == 0 then Broken Time else Broken Abort

-- bits 5 and 1 clear: no fault
abbrev pub works_or_says : ℕ → Seen
works_or_says status = if bit_and status 0x22 == 0 then Working else fault_says status

-- both show a job at work
abbrev pub works_on : ℕ → ℕ → Bool
works_on first second = toggles first second && (bit_and first 0x22 == 0)

-- bit 7 is set and bit 2 alone toggles: a held block
abbrev pub shows_held : ℕ → ℕ → Bool
shows_held first second = (bit_or first 0x44 == 0xC4) && (second == bit_xor first 0x04)

-- What they tell. Where they differ otherwise, the chip worked at the first alone.
abbrev pub pair_says : ℕ → ℕ → Seen
pair_says first second =
    if first == second then Ready
    else if toggles first second then works_or_says first
    else if shows_held first second then Suspended
    else Working

-- the same where neither shows a job at work
abbrev pub over_says : ℕ → ℕ → Seen
over_says first second =
    if first == second then Ready
    else if toggles first second then fault_says first
    else Suspended

-- ---- answers beside the datum of a program

-- bit 7 is the complement of the datum's, as a program shows it while it works
abbrev pub is_complement : ℕ → ℕ → Bool
is_complement v status = bit_and status 0x80 == bit_if 0x80 (nat_lt (v % 256) 0x80)

abbrev pub data_says : ℕ → ℕ → ℕ → Seen
data_says v first second = if is_complement v second then pair_says first second else Ready

-- ---- chips that polls tell of

-- a program under way ends with unit u, which isn't in a held block
abbrev pub EndsAt : Job → Held → Part → ℕ → Type 0
EndsAt Idle held part u = Unit {0}
EndsAt (Program p bytes left) held part u =
    (p ≤ place part u) × (place part u + unit_len part.device ≡ p + length bytes)
    × (holds_at held part.blocks (place part u) ≡ false)
EndsAt (Erase target left) held part u = Unit {0}
EndsAt (Pausing b wait left) held part u = Unit {0}

-- a fault Time has the job that broke off
abbrev pub names_job : Fault → Bool
names_job NoFault = true
names_job (TimeFault job) = runs job
names_job AbortFault = true

-- The chip is of set 0002, and is in a job or in a fault, or shows its array, and in a held block its status.
pub record ShowsToggle (u : ℕ) (s : ChipState) : Type 0 where
  pub set : s.part.set ≡ Amd
  pub fault : names_job s.fault ≡ true
  pub mode : is_fault s.fault ≡ false → s.mode ≡ Array
  pub ends : EndsAt s.job s.held s.part u

-- a program of more bytes from place q on ends with these, at place p
pub record EndsWith (p : ℕ) (bytes : List ℕ) (q : ℕ) (more : List ℕ) : Type 0 where
  pub from : q ≤ p
  pub end : p + length bytes ≡ q + length more
  pub same : (i : ℕ) → i < length bytes → slice_index more (p - q + i) ≡ slice_index bytes i

-- the job is none, or ends with these bytes at place p
abbrev pub IsProgram : ℕ → List ℕ → Job → Type 0
IsProgram p bytes Idle = Unit {0}
IsProgram p bytes (Program q more left) = EndsWith p bytes q more
IsProgram p bytes (Erase target left) = ⊥
IsProgram p bytes (Pausing b wait left) = ⊥

-- the fault is none, or tells that such a job broke off
abbrev pub IsProgramFault : ℕ → List ℕ → Fault → Type 0
IsProgramFault p bytes NoFault = Unit {0}
IsProgramFault p bytes (TimeFault job) = (runs job ≡ true) × IsProgram p bytes job
IsProgramFault p bytes AbortFault = ⊥

-- The chip programs v at unit u, after other units or none, or has ended so.
pub record ShowsDatum (u v : ℕ) (s : ChipState) : Type 0 where
  pub set : s.part.set ≡ Amd
  pub mode : s.mode ≡ Array
  pub free : holds_at s.held s.part.blocks (place s.part u) ≡ false
  pub job : IsProgram (place s.part u) (unit_bytes s.part.device v) s.job
  pub fault : IsProgramFault (place s.part u) (unit_bytes s.part.device v) s.fault

-- so it is told of such chips
abbrev pub TellsToggle : ℕ → ChipState → Seen → ChipState → Type 0
TellsToggle u s it t = ShowsToggle u s → ToldAt u s it t

abbrev pub TellsDatum : ℕ → ℕ → ChipState → Seen → ChipState → Type 0
TellsDatum u v s it t = ShowsDatum u v s → ToldAt u s it t
