-- Buffer loads.
use Rattle.std.proofs.Common.{◌≡◌, ◌+◌, ◌-◌, ◌*◌, ◌/◌, ◌<◌, ◌≤◌, ℕ, zero, suc, refl, sym, ap, arith, ◌∙◌, Bool, true, false, ◌==◌, List, [], ◌∷◌, ◌++◌, length, length-append}
use Rattle.std.proofs.lemmas.Bool.Decides.{nat_tests}
use Rattle.nor_cell.specs.Bits.{unit_len, unit_bytes}
use Rattle.nor_cell.specs.Chip.{ChipState, BufferData, BufferConfirm, Idle, NoFault, block_of, place}
use Rattle.nor_cell.specs.Loads.{room, first_of, taken}
use Rattle.nor_cell.specs.Machine.{takes, loaded, step_of, job_of, fault_of, machine_of, JobFits}
use Rattle.nor_cell.specs.declared.cells.Cells.{Cells}
use Rattle.nor_cell.specs.declared.device.Device.{Device}
use Rattle.nor_cell.specs.declared.device.Device.TheVariants.{X8, X16, X16Byte}
use Rattle.nor_cell.specs.declared.device.Set.{Set}
use Rattle.nor_cell.specs.declared.state.ShownMode.{ShownMode}
use Rattle.nor_cell.specs.declared.state.NextStep.{NextStep}
use Rattle.nor_cell.specs.declared.state.HeldErase.{HeldErase}
use Rattle.nor_cell.specs.declared.state.StatusFlags.{StatusFlags}
use Rattle.nor_cell.specs.declared.state.Failure.{Failure}
use Rattle.nor_cell.specs.declared.state.Failure.TheVariants.{None as NoFailure, ProgramTime, EraseTime, Abort}
use Rattle.nor_cell.specs.declared.state.RunningJob.{RunningJob}
use Rattle.nor_cell.specs.declared.state.RunningJob.TheVariants.{Idle as NoneRuns, Program as ProgramRuns, Erase as EraseRuns, Pausing as PausingRuns}
use Rattle.nor_cell.proofs.Logic.{both_pass, same_number}

-- a later unit of a load is next where it lies behind the one before, in the load's page and block
pub takes_later : (s : ChipState) (b missing first : ℕ) (load : List ℕ) (u : ℕ) → (length load == 0) ≡ false → block_of s u ≡ b → place s.part u ≡ place s.part first + length load →
    takes (BufferData b missing first load) s u ≡ (u / room s == first / room s)
takes_later s b missing first [] u some same at = cc
takes_later s b missing first (x ∷ load) u some same at =
    let e : (block_of s u == b) ≡ true = grind (arith, nat_tests) in
    let f : (place s.part u == place s.part first + length (x ∷ load)) ≡ true = grind (arith, nat_tests) in
    rw (e, f) refl

-- a job that doesn't run fits with any load
pub idle_fits : (job : RunningJob) (load next : List ℕ) (cells : Cells) → job_of job load ≡ Idle → JobFits job next cells
idle_fits NoneRuns load next cells h = tt
idle_fits (ProgramRuns at left) load next cells h = cc
idle_fits (EraseRuns target left) load next cells h = cc
idle_fits (PausingRuns b wait left) load next cells h = cc

-- the first unit of a load
pub first_is : (first u : ℕ) (load : List ℕ) → (length load == 0) ≡ true → first_of first load u ≡ u
first_is first u [] h = refl
first_is first u (x ∷ load) h = absurd (omega (arith, same_number (length (x ∷ load)) 0 h))

pub first_stays : (first u : ℕ) (load : List ℕ) → (length load == 0) ≡ false → first_of first load u ≡ first
first_stays first u [] h = cc
first_stays first u (x ∷ load) h = refl

pub length-unit_bytes : (d : Device) (v : ℕ) → length (unit_bytes d v) ≡ unit_len d
length-unit_bytes X8 v = refl
length-unit_bytes X16 v = refl
length-unit_bytes X16Byte v = refl

-- one more unit and those that are missing have room
room_left : (d : Device) (n missing : ℕ) → n + unit_len d * missing ≤ 512 → 0 < missing → n + unit_len d + unit_len d * (missing - 1) ≤ 512
room_left X8 n missing h some = omega arith
room_left X16 n missing h some = omega arith
room_left X16Byte n missing h some = omega arith

-- a unit ends in the chip
unit_inside : (d : Device) (u size : ℕ) → u < size / unit_len d → unit_len d * u + unit_len d ≤ size
unit_inside X8 u size h = omega arith
unit_inside X16 u size h = omega arith
unit_inside X16Byte u size h = omega arith

-- where the load ends with one more unit
load_end : (s : ChipState) (b missing first : ℕ) (load : List ℕ) (u : ℕ) → takes (BufferData b missing first load) s u ≡ true →
    place s.part (first_of first load u) + length load ≡ place s.part u
load_end s b missing first [] u h = omega arith
load_end s b missing first (x ∷ load) u h =
    let g = both_pass _ _ h in
    let k = both_pass _ _ g.0 in sym (same_number _ _ k.1)

-- so it fits with one more unit
pub load_inside : (s : ChipState) (b missing first : ℕ) (load : List ℕ) (u v size : ℕ) → takes (BufferData b missing first load) s u ≡ true → u < size / unit_len s.part.device →
    place s.part (first_of first load u) + length (load ++ unit_bytes s.part.device v) ≤ size
load_inside s b missing first load u v size h lt =
    omega (arith, length-append load (unit_bytes s.part.device v), length-unit_bytes s.part.device v, load_end s b missing first load u h, unit_inside s.part.device u size lt)

pub load_short : (d : Device) (v : ℕ) (load : List ℕ) (missing : ℕ) → length load + unit_len d * missing ≤ 512 → 0 < missing → length (load ++ unit_bytes d v) + unit_len d * (missing - 1) ≤ 512
load_short d v load missing h some = omega (arith, length-append load (unit_bytes d v), length-unit_bytes d v, room_left d (length load) missing h some)

pub load_some : (d : Device) (v : ℕ) (load : List ℕ) → unit_len d ≤ length (load ++ unit_bytes d v)
load_some d v load = omega (arith, length-append load (unit_bytes d v), length-unit_bytes d v)

-- ---- the state with one more unit

-- a machine at rest whose load and step change
pub step_changes : (set : Set) (cells : Cells) (mode : ShownMode) (step next : NextStep) (job : RunningJob) (held : HeldErase) (flags : StatusFlags) (fault : Failure) (toggle_6 toggle_2 : Bool) (load longer : List ℕ) →
    job_of job load ≡ Idle → fault_of fault load ≡ NoFault →
    machine_of set cells mode next job held flags fault toggle_6 toggle_2 longer ≡ record (machine_of set cells mode step job held flags fault toggle_6 toggle_2 load) { step = step_of next longer }
step_changes set cells mode step next NoneRuns held flags NoFailure toggle_6 toggle_2 load longer h k = refl
step_changes set cells mode step next NoneRuns held flags (ProgramTime at) toggle_6 toggle_2 load longer h k = cc
step_changes set cells mode step next NoneRuns held flags (EraseTime target) toggle_6 toggle_2 load longer h k = cc
step_changes set cells mode step next NoneRuns held flags Abort toggle_6 toggle_2 load longer h k = cc
step_changes set cells mode step next (ProgramRuns at left) held flags fault toggle_6 toggle_2 load longer h k = cc
step_changes set cells mode step next (EraseRuns target left) held flags fault toggle_6 toggle_2 load longer h k = cc
step_changes set cells mode step next (PausingRuns b wait left) held flags fault toggle_6 toggle_2 load longer h k = cc

taken_some : (b missing first : ℕ) (bytes : List ℕ) (s : ChipState) → 0 < missing → taken b missing first bytes s ≡ record s { step = BufferData b missing first bytes }
taken_some b zero first bytes s some = absurd (omega arith)
taken_some b (suc missing) first bytes s some = refl

-- more units are missing
pub loaded_more : (s : ChipState) (b missing first : ℕ) (load : List ℕ) (u v : ℕ) → s.step ≡ BufferData b missing first load → 1 < missing →
    record s { step = BufferData b (missing - 1) (first_of first load u) (load ++ unit_bytes s.part.device v) } ≡ loaded s.step s u v
loaded_more s b missing first load u v e some =
    let left : 0 < missing - 1 = omega arith in
    sym (ap (λ k. loaded k s u v) e ∙ taken_some b (missing - 1) (first_of first load u) (load ++ unit_bytes s.part.device v) s left)

-- this was the last one
pub loaded_last : (s : ChipState) (b missing first : ℕ) (load : List ℕ) (u v : ℕ) → s.step ≡ BufferData b missing first load → missing ≤ 1 →
    record s { step = BufferConfirm (first_of first load u) (load ++ unit_bytes s.part.device v) } ≡ loaded s.step s u v
loaded_last s b missing first load u v e few =
    let none : missing - 1 ≡ 0 = omega arith in
    sym (ap (λ k. loaded k s u v) e ∙ ap (λ n. taken b n (first_of first load u) (load ++ unit_bytes s.part.device v) s) none)
