-- What reads of a chip of set 0002 tell of it.
use Rattle.std.proofs.Common.{◌≡◌, ◌≢◌, ◌+◌, ◌*◌, ◌-◌, ◌<◌, ◌≤◌, ◌==◌, ◌⊎◌, inl, inr, ℕ, zero, suc, refl, sym, ap, subst, ◌∙◌, arith, nat_lt, bit_and, Bool, true, false, List, length, slice_index, is_some, unwrap_or, if◌then◌else◌}
use Rattle.std.proofs.lemmas.Bool.{cases_Bool, cases_lt}
use Rattle.std.proofs.lemmas.Nat.{and_le_r}
use Rattle.nor_cell.specs.Bits.{unit_len, unit_at}
use Rattle.nor_cell.specs.Chip.{ChipState, Part, Job, Idle, Program, Erase, Pausing, Held, Flags, Fault, NoFault, TimeFault, AbortFault, runs, place, holds_at}
use Rattle.nor_cell.specs.Amd.{AmdReads, is_fault, shown, toggled, last_low}
use Rattle.nor_cell.specs.Look.{Look, Rests, Works, Pauses, EndsProgram, EndsErase, look, look_at, looked, job_after, held_after, broken_of, break_of, LooksTo, Programmed, fault_with, flags_with}
use Rattle.nor_cell.specs.Steps.{Reads, reads_of}
use Rattle.nor_cell.specs.declared.device.Device.{Device}
use Rattle.nor_cell.specs.declared.device.Device.TheVariants.{X8, X16, X16Byte}
use Rattle.nor_cell.specs.declared.device.Set.{Set}
use Rattle.nor_cell.specs.declared.device.Set.TheVariants.{Amd}
use Rattle.nor_cell.proofs.Logic.{is_below, some_bytes}
use Rattle.nor_poll.specs.Told.{IsLooked, ToldAt, HasLeft, seen_fault, seen_idle}
use Rattle.nor_poll.specs.Toggles.{pair_says, over_says, works_on, toggles, names_job, EndsAt, ShowsToggle, TellsToggle}
use Rattle.nor_poll.specs.declared.watch.Seen.{Seen}
use Rattle.nor_poll.specs.declared.watch.Seen.TheVariants.{Working, Ready, Suspended, Broken}
use Rattle.nor_poll.specs.declared.watch.Broke.TheVariants.{Time, Abort}
use Rattle.nor_cell.proofs.Between.{same_flags, same_fault}
use Rattle.nor_poll.proofs.Looking.{looked_by}
use Rattle.nor_poll.proofs.Losing.{stop_of}
use Rattle.nor_poll.proofs.Telling.{ran}
use Rattle.nor_poll.proofs.Toggling.{program_status, erase_status, idle_pair, program_work, erase_work, IdleBits, idle_bits, erase_over, program_over}

pub amd_reads : (s : ChipState) (u a : ℕ) (t : ChipState) → s.part.set ≡ Amd → Reads s u a t → AmdReads s u a t
amd_reads s u a t set h = subst (λ (k : Set). reads_of k s u a t) set h

abbrev here_in : ℕ → ChipState → Bool
here_in u s = holds_at s.held s.part.blocks (place s.part u)

-- ---- a chip that polls tell of stays one

still_ends : (stuck : Bool) (job : Job) (held : Held) (part : Part) (u : ℕ) → EndsAt job held part u → EndsAt (job_after (look_at stuck job)) (held_after (look_at stuck job) held) part u
still_ends stuck Idle held part u h = tt
still_ends true (Program p bytes left) held part u h = h
still_ends false (Program p bytes zero) held part u h = tt
still_ends false (Program p bytes (suc left)) held part u h = h
still_ends true (Erase target left) held part u h = tt
still_ends false (Erase target zero) held part u h = tt
still_ends false (Erase target (suc left)) held part u h = tt
still_ends true (Pausing b wait left) held part u h = tt
still_ends false (Pausing b zero left) held part u h = tt
still_ends false (Pausing b (suc wait) left) held part u h = tt

-- the fault that a job which broke off leaves
abbrev IsBreak : Job → Type 0
IsBreak job = (job ≡ Idle) ⊎ (runs job ≡ true)

break_if : (b : Bool) (job : Job) → runs job ≡ true → IsBreak (if b then job else Idle)
break_if true job h = inr h
break_if false job h = inl refl

breaks_off : (s : ChipState) (l : Look) → IsBreak (broken_of s l)
breaks_off s Rests = inl refl
breaks_off s (Works job) = inl refl
breaks_off s (Pauses b left) = inl refl
breaks_off s (EndsProgram at bytes) = break_if _ (Program at bytes 0) refl
breaks_off s (EndsErase target) = break_if _ (Erase target 0) refl

names_by : (broken : Job) (fault : Fault) → names_job fault ≡ true → IsBreak broken → names_job (fault_with Amd broken fault) ≡ true
names_by Idle fault h k = h
names_by (Program p bytes left) fault h k = refl
names_by (Erase target left) fault h k = refl
names_by (Pausing b wait left) fault h k = h

was_none : (broken : Job) (fault : Fault) → is_fault (fault_with Amd broken fault) ≡ false → is_fault fault ≡ false
was_none Idle fault h = h
was_none (Program p bytes left) fault h = cc
was_none (Erase target left) fault h = cc
was_none (Pausing b wait left) fault h = h

pub shows_next : (u : ℕ) (s m : ChipState) → ShowsToggle u s → IsLooked s m → ShowsToggle u m
shows_next u s m h k =
    let broken = broken_of s (look s) in
    let fault : m.fault ≡ fault_with Amd broken s.fault = ap (λ (x : ChipState). x.fault) k.rest ∙ ap (λ (x : Set). fault_with x broken s.fault) h.set in
    record {
      set = ap (λ (x : ChipState). x.part.set) k.rest ∙ h.set;
      fault = ap names_job fault ∙ names_by broken s.fault h.fault (breaks_off s (look s));
      mode = λ none. ap (λ (x : ChipState). x.mode) k.rest ∙ h.mode (was_none broken s.fault (sym (ap is_fault fault) ∙ none));
      ends = subst (λ (x : ChipState). EndsAt x.job x.held x.part u) (sym k.rest) (still_ends s.part.stuck s.job s.held s.part u h.ends);
    }

-- ---- the chip after a read, by what the read found

next_by : (u : ℕ) (m : ChipState) (b : ℕ) (t : ChipState) (l : Look) → look m ≡ l → AmdReads m u b t → t ≡ toggled u (record (looked l m) { cells = t.cells })
next_by u m b t l e h = h.rest ∙ ap (λ (k : Look). toggled u (record (looked k m) { cells = t.cells })) e

goes_next : (u : ℕ) (m t : ChipState) (job : Job) → m.part.set ≡ Amd → t.cells ≡ m.cells
    → t ≡ toggled u (record m { job = job; flags = flags_with m.part.set Idle m.flags; fault = fault_with m.part.set Idle m.fault; cells = t.cells })
    → t ≡ toggled u (record m { job = job })
goes_next u m t job set cells e =
    e ∙ (ap (λ (x : List ℕ). toggled u (record m { job = job; flags = flags_with m.part.set Idle m.flags; fault = fault_with m.part.set Idle m.fault; cells = x })) cells
    ∙ (ap (λ (f : Flags). toggled u (record m { job = job; flags = f; fault = fault_with m.part.set Idle m.fault })) (same_flags m.part.set m.flags)
    ∙ ap (λ (f : Fault). toggled u (record m { job = job; fault = f })) (same_fault m.part.set m.fault)))

cells_next : (u : ℕ) (m : ChipState) (b : ℕ) (t : ChipState) (l : Look) → look m ≡ l → AmdReads m u b t → LooksTo m l t.cells
cells_next u m b t l e h = subst (λ (k : Look). LooksTo m k t.cells) e h.cells

idle_next : (u : ℕ) (m : ChipState) (b : ℕ) (t : ChipState) → m.part.set ≡ Amd → m.job ≡ Idle → AmdReads m u b t → t ≡ toggled u m
idle_next u m b t set idle h =
    let e : look m ≡ Rests = ap (look_at m.part.stuck) idle in
    goes_next u m t Idle set (cells_next u m b t Rests e h) (next_by u m b t Rests e h) ∙ ap (λ (j : Job). toggled u (record m { job = j })) (sym idle)

works_next : (u : ℕ) (m : ChipState) (b : ℕ) (t : ChipState) (job : Job) → m.part.set ≡ Amd → look m ≡ Works job → AmdReads m u b t → t ≡ toggled u (record m { job = job })
works_next u m b t job set e h = goes_next u m t job set (cells_next u m b t (Works job) e h) (next_by u m b t (Works job) e h)

-- ---- a chip that ran no job at the first read

never_works : (fault : Fault) (here : Bool) → seen_fault fault here ≢ Working
never_works NoFault true h = cc
never_works NoFault false h = cc
never_works (TimeFault job) here h = cc
never_works AbortFault here h = cc

-- what is told of a chip after the last read
pub told_now : (u : ℕ) (s t : ChipState) (it : Seen) → t.part.set ≡ Amd → t.job ≡ Idle → it ≡ seen_fault t.fault (here_in u t) → ToldAt u s it t
told_now u s t it set idle is = record {
  had = λ works. absurd (never_works t.fault (here_in u t) (sym is ∙ works));
  idle = λ rests. idle;
  is = λ rests. is ∙ sym (ap (λ (k : Set). seen_idle k u t) set);
}

told_had : (u : ℕ) (s t : ChipState) (it : Seen) → HasLeft s → it ≡ Working → ToldAt u s it t
told_had u s t it left works = record { had = λ e. left; idle = λ rests. absurd (rests works); is = λ rests. absurd (rests works) }

-- what two reads tell of a chip that runs no job
idle_says : (u : ℕ) (m : ChipState) (a b : ℕ) (t : ChipState) → ShowsToggle u m → m.job ≡ Idle → a ≡ shown m u → AmdReads m u b t
    → (pair_says a b ≡ seen_fault t.fault (here_in u t)) × (over_says a b ≡ seen_fault t.fault (here_in u t)) × (t.job ≡ Idle)
idle_says u m a b t shows idle first h =
    let e = idle_next u m b t shows.set idle h in
    let second : b ≡ shown (toggled u m) u = h.answers ∙ ap (λ (x : ChipState). shown x u) e in
    let says = idle_pair u m idle shows.fault shows.mode in
    let last : seen_fault m.fault (here_in u m) ≡ seen_fault t.fault (here_in u t) = sym (ap (λ (x : ChipState). seen_fault x.fault (holds_at x.held x.part.blocks (place x.part u))) e) in (
      ap (λ (k : ℕ). pair_says k b) first ∙ (ap (pair_says (shown m u)) second ∙ (says.0 ∙ last)),
      ap (λ (k : ℕ). over_says k b) first ∙ (ap (over_says (shown m u)) second ∙ (says.1 ∙ last)),
      ap (λ (x : ChipState). x.job) e ∙ idle,
    )

-- ---- a chip that worked at the first read

-- The chip works at the second read too, or has ended, and is told to work or what it is at.
record WorksOrEnds (u a b : ℕ) (t : ChipState) : Type 0 where
  on : runs t.job ≡ true → (pair_says a b ≡ Working) × (works_on a b ≡ true)
  ends : t.job ≡ Idle → (pair_says a b ≡ Working) ⊎ (pair_says a b ≡ seen_fault t.fault (here_in u t))

runs_idle : (job : Job) → job ≡ Idle → runs job ≡ true → ⊥
runs_idle job e h = let no : runs job ≡ false = ap runs e in cc

on_of : (u a b : ℕ) (t : ChipState) → (pair_says a b ≡ Working) × (works_on a b ≡ true) → WorksOrEnds u a b t
on_of u a b t h = record { on = λ runs. h; ends = λ idle. inl h.0 }

-- the answers of a chip that goes on with a job like the one it had
work_on : (u : ℕ) (m t : ChipState) (a b : ℕ) (j k : Job) → m.job ≡ j → a ≡ shown m u → b ≡ shown t u → t ≡ toggled u (record m { job = k })
    → (pair_says (shown (record m { job = j }) u) (shown (toggled u (record m { job = k })) u) ≡ Working) × (works_on (shown (record m { job = j }) u) (shown (toggled u (record m { job = k })) u) ≡ true)
    → WorksOrEnds u a b t
work_on u m t a b j k is first second e work =
    let one : a ≡ shown (record m { job = j }) u = first ∙ ap (λ (x : Job). shown (record m { job = x }) u) is in
    let two : b ≡ shown (toggled u (record m { job = k })) u = second ∙ ap (λ (x : ChipState). shown x u) e in
    on_of u a b t (
      ap (λ (x : ℕ). pair_says x b) one ∙ (ap (pair_says (shown (record m { job = j }) u)) two ∙ work.0),
      ap (λ (x : ℕ). works_on x b) one ∙ (ap (works_on (shown (record m { job = j }) u)) two ∙ work.1),
    )

-- what the array shows where a program of a datum without bit 7 has ended
low_apart : (device : Device) (cells : List ℕ) (u : ℕ) → slice_index cells (unit_len device * u) < 0x80 → (unit_at device cells u ≢ 0x84) × (unit_at device cells u ≢ 0xC4)
low_apart X8 cells u low = (λ e. let l : slice_index cells u < 0x80 = subst (λ (k : ℕ). slice_index cells k < 0x80) (omega arith) low in omega arith, λ e. let l : slice_index cells u < 0x80 = subst (λ (k : ℕ). slice_index cells k < 0x80) (omega arith) low in omega arith)
low_apart X16 cells u low = (λ e. omega (arith, low, e), λ e. omega (arith, low, e))
low_apart X16Byte cells u low = (λ e. let l : slice_index cells u < 0x80 = subst (λ (k : ℕ). slice_index cells k < 0x80) (omega arith) low in omega arith, λ e. let l : slice_index cells u < 0x80 = subst (λ (k : ℕ). slice_index cells k < 0x80) (omega arith) low in omega arith)

whole_of : (b : Bool) (p : ℕ) (bytes : List ℕ) (fault : Fault) → fault_with Amd (if b then Program p bytes 0 else Idle) fault ≡ NoFault → b ≡ false
whole_of true p bytes fault h = cc
whole_of false p bytes fault h = refl

stored_low : (p : ℕ) (bytes : List ℕ) (u : ℕ) (m : ChipState) (cells : List ℕ) → Programmed (unit_len m.part.device) m.part.weak p bytes m.cells cells
    → is_some (break_of (unit_len m.part.device) m.part.weak p bytes m.cells) ≡ false → p ≤ place m.part u → place m.part u + unit_len m.part.device ≡ p + length bytes
    → nat_lt (last_low m.part bytes) 0x80 ≡ true → 0 < unit_len m.part.device → slice_index cells (place m.part u) < 0x80
stored_low p bytes u m cells h whole from last low some =
    let d = unit_len m.part.device in
    let q = place m.part u in
    let o = break_of d m.part.weak p bytes m.cells in
    let stop : unwrap_or o (p + length bytes) ≡ p + length bytes = stop_of o (p + length bytes) whole in
    let within : q < p + length bytes = omega (arith, last, some) in
    let back : q - p ≡ length bytes - d = omega (arith, last, from) in
    let datum : slice_index bytes (q - p) < 0x80 = subst (λ (i : ℕ). slice_index bytes i < 0x80) (sym back) (is_below (last_low m.part bytes) 0x80 low) in
    let is = (h.inside q from within).stored (omega (arith, stop, within)) in
    let le = and_le_r (slice_index m.cells q) (slice_index bytes (q - p)) in
    omega (arith, is, le, datum)

now_idle : (u a b : ℕ) (t : ChipState) → t.job ≡ Idle → (pair_says a b ≡ Working) ⊎ (pair_says a b ≡ seen_fault t.fault (here_in u t)) → WorksOrEnds u a b t
now_idle u a b t idle says = record { on = λ running. absurd (runs_idle t.job idle running); ends = λ e. says }

-- an erase that ended, or was suspended
erase_ended : (u a b : ℕ) (m : ChipState) (t : ChipState) (l : Look) (j : Job) → m.job ≡ j → shown (record m { job = j }) u ≡ erase_status m.toggle_6 m.toggle_2 → job_after l ≡ Idle → look m ≡ l
    → ShowsToggle u t → a ≡ shown m u → AmdReads m u b t → WorksOrEnds u a b t
erase_ended u a b m t l j is status ends e shows first h =
    let idle : t.job ≡ Idle = ap (λ (x : ChipState). x.job) (next_by u m b t l e h) ∙ ends in
    let one : a ≡ erase_status m.toggle_6 m.toggle_2 = first ∙ (ap (λ (x : Job). shown (record m { job = x }) u) is ∙ status) in
    let it = seen_fault t.fault (here_in u t) in
    let bits = subst (λ (k : ℕ). IdleBits t.fault (here_in u t) (unit_at t.part.device t.cells u) k) (sym h.answers) (idle_bits u t idle shows.fault shows.mode) in
    now_idle u a b t idle (subst (λ (k : ℕ). (pair_says k b ≡ Working) ⊎ (pair_says k b ≡ it)) (sym one) (erase_over m.toggle_6 m.toggle_2 t.fault (here_in u t) (unit_at t.part.device t.cells u) b bits))

-- a program that ended
program_ended : (u a b p : ℕ) (bytes : List ℕ) (m t : ChipState) → m.part.set ≡ Amd → m.job ≡ Program p bytes 0 → look m ≡ EndsProgram p bytes → EndsAt (Program p bytes 0) m.held m.part u
    → ShowsToggle u t → a ≡ shown m u → AmdReads m u b t → WorksOrEnds u a b t
program_ended u a b p bytes m t set is e at shows first h =
    let rest = next_by u m b t (EndsProgram p bytes) e h in
    let idle : t.job ≡ Idle = ap (λ (x : ChipState). x.job) rest in
    let x = nat_lt (last_low m.part bytes) 0x80 in
    let one : a ≡ program_status x m.toggle_6 = first ∙ ap (λ (j : Job). shown (record m { job = j }) u) is in
    let device : t.part.device ≡ m.part.device = ap (λ (y : ChipState). y.part.device) rest in
    let free : here_in u t ≡ false = ap (λ (y : ChipState). holds_at y.held y.part.blocks (place y.part u)) rest ∙ at.2 in
    let it = seen_fault t.fault (here_in u t) in
    let unit = unit_at t.part.device t.cells u in
    let bits : IdleBits t.fault (here_in u t) unit b = subst (λ (k : ℕ). IdleBits t.fault (here_in u t) unit k) (sym h.answers) (idle_bits u t idle shows.fault shows.mode) in
    let broken = is_some (break_of (unit_len m.part.device) m.part.weak p bytes m.cells) in
    let fault : t.fault ≡ fault_with Amd (if broken then Program p bytes 0 else Idle) m.fault =
    ap (λ (y : ChipState). y.fault) rest ∙ ap (λ (k : Set). fault_with k (if broken then Program p bytes 0 else Idle) m.fault) set in
    let stored = cells_next u m b t (EndsProgram p bytes) e h in
    let far = λ (clear : x ≡ true) (none : t.fault ≡ NoFault).
    subst (λ (d : Device). (unit_at d t.cells u ≢ 0x84) × (unit_at d t.cells u ≢ 0xC4)) (sym device)
    (low_apart m.part.device t.cells u (stored_low p bytes u m t.cells stored (whole_of broken p bytes m.fault (sym fault ∙ none)) at.0 at.1 clear (some_bytes m.part.device))) in
    now_idle u a b t idle
    (subst (λ (k : ℕ). (pair_says k b ≡ Working) ⊎ (pair_says k b ≡ it)) (sym one)
    (subst (λ (here : Bool). (pair_says (program_status x m.toggle_6) b ≡ Working) ⊎ (pair_says (program_status x m.toggle_6) b ≡ seen_fault t.fault here)) (sym free)
    (program_over x m.toggle_6 t.fault unit b (subst (λ (here : Bool). IdleBits t.fault here unit b) free bits) far)))

run_by : (stuck : Bool) (j : Job) (u a b : ℕ) (m t : ChipState) → ShowsToggle u m → ShowsToggle u t → m.part.stuck ≡ stuck → m.job ≡ j → a ≡ shown m u → AmdReads m u b t → runs j ≡ true
    → WorksOrEnds u a b t
run_by stuck Idle u a b m t sm st is ej first h running = cc
run_by true (Program p bytes left) u a b m t sm st is ej first h running =
    let e : look m ≡ Works (Program p bytes left) = ap (look_at m.part.stuck) ej ∙ ap (λ (s : Bool). look_at s (Program p bytes left)) is in
    work_on u m t a b (Program p bytes left) (Program p bytes left) ej first h.answers (works_next u m b t (Program p bytes left) sm.set e h) (program_work _ m.toggle_6)
run_by false (Program p bytes (suc left)) u a b m t sm st is ej first h running =
    let e : look m ≡ Works (Program p bytes left) = ap (look_at m.part.stuck) ej ∙ ap (λ (s : Bool). look_at s (Program p bytes (suc left))) is in
    work_on u m t a b (Program p bytes (suc left)) (Program p bytes left) ej first h.answers (works_next u m b t (Program p bytes left) sm.set e h) (program_work _ m.toggle_6)
run_by false (Program p bytes zero) u a b m t sm st is ej first h running =
    let e : look m ≡ EndsProgram p bytes = ap (look_at m.part.stuck) ej ∙ ap (λ (s : Bool). look_at s (Program p bytes zero)) is in
    program_ended u a b p bytes m t sm.set ej e (subst (λ (j : Job). EndsAt j m.held m.part u) ej sm.ends) st first h
run_by true (Erase target left) u a b m t sm st is ej first h running =
    let e : look m ≡ Works (Erase target left) = ap (look_at m.part.stuck) ej ∙ ap (λ (s : Bool). look_at s (Erase target left)) is in
    work_on u m t a b (Erase target left) (Erase target left) ej first h.answers (works_next u m b t (Erase target left) sm.set e h) (erase_work m.toggle_6 m.toggle_2)
run_by false (Erase target (suc left)) u a b m t sm st is ej first h running =
    let e : look m ≡ Works (Erase target left) = ap (look_at m.part.stuck) ej ∙ ap (λ (s : Bool). look_at s (Erase target (suc left))) is in
    work_on u m t a b (Erase target (suc left)) (Erase target left) ej first h.answers (works_next u m b t (Erase target left) sm.set e h) (erase_work m.toggle_6 m.toggle_2)
run_by false (Erase target zero) u a b m t sm st is ej first h running =
    let e : look m ≡ EndsErase target = ap (look_at m.part.stuck) ej ∙ ap (λ (s : Bool). look_at s (Erase target zero)) is in
    erase_ended u a b m t (EndsErase target) (Erase target zero) ej refl refl e st first h
run_by true (Pausing k wait left) u a b m t sm st is ej first h running =
    let e : look m ≡ Works (Pausing k wait left) = ap (look_at m.part.stuck) ej ∙ ap (λ (s : Bool). look_at s (Pausing k wait left)) is in
    work_on u m t a b (Pausing k wait left) (Pausing k wait left) ej first h.answers (works_next u m b t (Pausing k wait left) sm.set e h) (erase_work m.toggle_6 m.toggle_2)
run_by false (Pausing k (suc wait) left) u a b m t sm st is ej first h running =
    let e : look m ≡ Works (Pausing k wait left) = ap (look_at m.part.stuck) ej ∙ ap (λ (s : Bool). look_at s (Pausing k (suc wait) left)) is in
    work_on u m t a b (Pausing k (suc wait) left) (Pausing k wait left) ej first h.answers (works_next u m b t (Pausing k wait left) sm.set e h) (erase_work m.toggle_6 m.toggle_2)
run_by false (Pausing k zero left) u a b m t sm st is ej first h running =
    let e : look m ≡ Pauses k left = ap (look_at m.part.stuck) ej ∙ ap (λ (s : Bool). look_at s (Pausing k zero left)) is in
    erase_ended u a b m t (Pauses k left) (Pausing k zero left) ej refl refl e st first h

-- ---- what polls tell

idle_of : (job : Job) → runs job ≡ false → job ≡ Idle
idle_of Idle h = refl
idle_of (Program p bytes left) h = cc
idle_of (Erase target left) h = cc
idle_of (Pausing b wait left) h = cc

-- what still runs after a read had reads left
left_before : (s m : ChipState) → IsLooked s m → runs m.job ≡ true → HasLeft s
left_before s m h running = ran s.part.stuck s.job (subst (λ (j : Job). runs j ≡ true) (ap (λ (x : ChipState). x.job) h.rest) running)

either_told : (u : ℕ) (s t : ChipState) (a b : ℕ) (it : Seen) → t.part.set ≡ Amd → t.job ≡ Idle → HasLeft s → it ≡ pair_says a b
    → (pair_says a b ≡ Working) ⊎ (pair_says a b ≡ seen_fault t.fault (here_in u t)) → ToldAt u s it t
either_told u s t a b it set idle left is (inl works) = told_had u s t it left (is ∙ works)
either_told u s t a b it set idle left is (inr says) = told_now u s t it set idle (is ∙ says)

ran_told : (u : ℕ) (s t : ChipState) (a b : ℕ) (it : Seen) → t.part.set ≡ Amd → HasLeft s → it ≡ pair_says a b → WorksOrEnds u a b t → (runs t.job ≡ true) ⊎ (runs t.job ≡ false) → ToldAt u s it t
ran_told u s t a b it set left is w (inl running) = told_had u s t it left (is ∙ (w.on running).0)
ran_told u s t a b it set left is w (inr rests) = let idle = idle_of t.job rests in either_told u s t a b it set idle left is (w.ends idle)

pair_by : (u : ℕ) (s : ChipState) (a : ℕ) (m : ChipState) (b : ℕ) (t : ChipState) (it : Seen) → IsLooked s m → ShowsToggle u m → ShowsToggle u t → a ≡ shown m u → AmdReads m u b t
    → it ≡ pair_says a b → (runs m.job ≡ true) ⊎ (runs m.job ≡ false) → ToldAt u s it t
pair_by u s a m b t it looked sm st first h is (inl running) =
    ran_told u s t a b it st.set (left_before s m looked running) is (run_by m.part.stuck m.job u a b m t sm st refl refl first h running) (cases_Bool (runs t.job))
pair_by u s a m b t it looked sm st first h is (inr rests) =
    let says = idle_says u m a b t sm (idle_of m.job rests) first h in
    told_now u s t it st.set says.2 (is ∙ says.0)

-- two reads
pub told_pair : (u : ℕ) (s : ChipState) (a : ℕ) (m : ChipState) (b : ℕ) (t : ChipState) (it : Seen) → Reads s u a m → Reads m u b t → it ≡ pair_says a b → TellsToggle u s it t
told_pair u s a m b t it one two is shows =
    let sm = shows_next u s m shows (looked_by s u a m one) in
    pair_by u s a m b t it (looked_by s u a m one) sm (shows_next u m t sm (looked_by m u b t two)) (amd_reads s u a m shows.set one).answers (amd_reads m u b t sm.set two) is (cases_Bool (runs m.job))

rests_by : (u a b : ℕ) (t : ChipState) → WorksOrEnds u a b t → works_on a b ≡ false → (runs t.job ≡ true) ⊎ (runs t.job ≡ false) → t.job ≡ Idle
rests_by u a b t w off (inl running) = let on = (w.on running).1 in let no : true ≡ false = sym on ∙ off in absurd cc
rests_by u a b t w off (inr rests) = idle_of t.job rests

over_idle : (u a b : ℕ) (m t : ChipState) → ShowsToggle u m → ShowsToggle u t → a ≡ shown m u → AmdReads m u b t → works_on a b ≡ false → (runs m.job ≡ true) ⊎ (runs m.job ≡ false) → t.job ≡ Idle
over_idle u a b m t sm st first h off (inl running) = rests_by u a b t (run_by m.part.stuck m.job u a b m t sm st refl refl first h running) off (cases_Bool (runs t.job))
over_idle u a b m t sm st first h off (inr rests) = (idle_says u m a b t sm (idle_of m.job rests) first h).2

-- three reads, of which the first two show no job at work
pub told_over : (u : ℕ) (s : ChipState) (a : ℕ) (m : ChipState) (b : ℕ) (n : ChipState) (c : ℕ) (t : ChipState) (it : Seen) → Reads s u a m → Reads m u b n → Reads n u c t
    → works_on a b ≡ false → it ≡ over_says b c → TellsToggle u s it t
told_over u s a m b n c t it one two three off is shows =
    let sm = shows_next u s m shows (looked_by s u a m one) in
    let sn = shows_next u m n sm (looked_by m u b n two) in
    let st = shows_next u n t sn (looked_by n u c t three) in
    let second = amd_reads m u b n sm.set two in
    let idle = over_idle u a b m n sm sn (amd_reads s u a m shows.set one).answers second off (cases_Bool (runs m.job)) in
    let says = idle_says u n b c t sn idle second.answers (amd_reads n u c t sn.set three) in
    told_now u s t it st.set says.2 (is ∙ says.1)

-- ---- lanes that are told after three reads

over_never_by : (c t f : Bool) → (if c then Ready else if t then (if f then Broken Time else Broken Abort) else Suspended) ≢ Working
over_never_by true t f e = cc
over_never_by false true true e = cc
over_never_by false true false e = cc
over_never_by false false f e = cc

over_never : (a b : ℕ) → over_says a b ≢ Working
over_never a b = over_never_by (a == b) (toggles a b) (bit_and a 0x02 == 0)

over_lane : (k lanes : ℕ) (f : ℕ → Seen) (a b : ℕ → ℕ) → ((c : ℕ) → c < lanes → f c ≡ over_says (a c) (b c)) → ((c : ℕ) → lanes ≤ c → f c ≡ Ready) → f k ≡ Working → (k < lanes) ⊎ (lanes ≤ k) → ⊥
over_lane k lanes f a b told past works (inl below) = over_never (a k) (b k) (sym (told k below) ∙ works)
over_lane k lanes f a b told past works (inr high) = let no : Ready ≡ Working = sym (past k high) ∙ works in cc

-- none is told to work
pub over_works : (k lanes : ℕ) (f : ℕ → Seen) (a b : ℕ → ℕ) → ((c : ℕ) → c < lanes → f c ≡ over_says (a c) (b c)) → ((c : ℕ) → lanes ≤ c → f c ≡ Ready) → f k ≡ Working → ⊥
over_works k lanes f a b told past works = over_lane k lanes f a b told past works (cases_lt k lanes)
