-- What the commands about locks make of a chip.
use Rattle.std.proofs.Common.{◌≡◌, ◌<◌, ℕ, refl, sym, ap, subst, ◌∙◌, arith, Bool, true, false, [], if◌then◌else◌}
use Rattle.nor_cell.specs.Chip.{ChipState, Mode, Array, Ident, Status, Locks, Step, Rest, LockNext, LeaveNext, Unlock1, Unlock2, Fault, block_of, set_lock}
use Rattle.nor_cell.specs.Intel.{lock_steps, misled}
use Rattle.nor_cell.specs.Amd.{first_address, goes_to, locks_steps, fault_steps}
use Rattle.nor_cell.specs.Between.{AtRest, TakesCommands, reset, can_reset}
use Rattle.nor_cell.specs.declared.device.Set.{Set}
use Rattle.nor_cell.specs.declared.device.Set.TheVariants.{Intel, Amd}
use Rattle.nor_bus.specs.Bus.{wide}
use Rattle.nor_bus.specs.Driven.{spread, Darkens}
use Rattle.nor_poll.specs.Codes.{after_cycle, after_cycles, code, cycles_of, DarkensIn}
use Rattle.nor_poll.specs.Losing.{LosesNone}
use Rattle.nor_poll.specs.Lock.{OffersLocks, SetsLock, LosesLocked, lock_command, lock_mode}
use Rattle.nor_poll.specs.declared.codes.To.TheVariants.{Here, First}
use Rattle.nor_poll.specs.declared.codes.Command.TheVariants.{ShowLocks, LeaveLocks}
use Rattle.nor_cell.proofs.Logic.{same_self}
use Rattle.nor_cell.proofs.Between.{written_amd}
use Rattle.nor_bus.proofs.Driving.{spread_low}
use Rattle.nor_poll.proofs.Leading.{IsTurned, unturned, at_step, Leads, Arrives, Then, leads_to, leads_dark}
use Rattle.nor_poll.proofs.Losing.{dark_idle}
use Rattle.nor_poll.proofs.Codes1.{by_step as by_step_1, by_code as by_code_1}
use Rattle.nor_poll.proofs.Codes2.{TakesUnlock, by_code as by_code_2, first, second}

-- a chip in another mode
abbrev pub in_mode : Mode → ChipState → ChipState
in_mode mode s = record s { mode = mode }

turned_mode : (s : ChipState) (mode : Mode) (step : Step) → IsTurned s (record s { mode = mode; step = step })
turned_mode s mode step = record { mode = mode; step = step; flags = s.flags; is = refl; no_error = λ h. h }

-- ---- set 0001

rests_in : (mode : Mode) (s : ChipState) → TakesCommands Intel s → AtRest Intel (in_mode mode s)
rests_in mode s takes = record {
  set = takes.rest.set;
  step = takes.rest.step;
  job = takes.rest.job;
  resets = ap (can_reset Intel mode) takes.fault;
}

abbrev opened : ChipState → ChipState
opened s = record s { step = LockNext; mode = Status }

opens : (u : ℕ) (s : ChipState) → OffersLocks Intel s → after_cycle u (code 0x60 Here) s ≡ opened s
opens u s locks = by_code_1 s u 0x60 (omega arith) locks.takes.rest ∙ ap (λ (k : Bool). if k then opened s else in_mode Array s) locks.blocks

-- the code that sets or clears a lock
abbrev lock_code : Bool → ℕ
lock_code true = 0x01
lock_code false = 0xD0

sets_by : (locked : Bool) (u : ℕ) (s : ChipState) → OffersLocks Intel s → lock_steps (opened s) u (lock_code locked) ≡ in_mode Status (set_lock (block_of s u) locked s)
sets_by true u s locks = ap (λ (k : Bool). if k then set_lock (block_of s u) true (opened s) else misled (opened s)) locks.offers
sets_by false u s locks = ap (λ (k : Bool). if k then set_lock (block_of s u) false (opened s) else misled (opened s)) locks.offers

small_code : (locked : Bool) → lock_code locked < 256
small_code true = omega arith
small_code false = omega arith

sets_1 : (locked : Bool) (u : ℕ) (s : ChipState) → OffersLocks Intel s → after_cycle u (code (lock_code locked) Here) (opened s) ≡ in_mode Status (set_lock (block_of s u) locked s)
sets_1 locked u s locks =
    by_step_1 (opened s) u (spread (wide s) (lock_code locked)) LockNext locks.takes.rest.set locks.takes.rest.job refl
    ∙ (ap (lock_steps (opened s) u) (spread_low s.part.device (lock_code locked) (small_code locked)) ∙ sets_by locked u s locks)

locks_1 : (locked : Bool) (u : ℕ) (s : ChipState) → OffersLocks Intel s → Leads u s (cycles_of Intel (lock_command locked)) s (in_mode Status (set_lock (block_of s u) locked s))
locks_1 true u s locks = Then (unturned s) (opens u s locks) (Then (turned_mode s Status LockNext) (sets_1 true u s locks) Arrives)
locks_1 false u s locks = Then (unturned s) (opens u s locks) (Then (turned_mode s Status LockNext) (sets_1 false u s locks) Arrives)

shows_1 : (u : ℕ) (s : ChipState) → OffersLocks Intel s → Leads u s (cycles_of Intel ShowLocks) s (in_mode Ident s)
shows_1 u s locks = Then (unturned s) (by_code_1 s u 0x90 (omega arith) locks.takes.rest) Arrives

leaves_1 : (mode : Mode) (u : ℕ) (s : ChipState) → TakesCommands Intel s → Leads u s (cycles_of Intel LeaveLocks) (in_mode mode s) (reset s)
leaves_1 mode u s takes =
    Then (turned_mode s mode s.step)
    (by_code_1 (in_mode mode s) u 0xFF (omega arith) (rests_in mode s takes) ∙ ap (λ (f : Fault). record s { mode = Array; fault = f }) takes.fault) Arrives

-- ---- set 0002

opens_2 : (s : ChipState) → OffersLocks Amd s → TakesUnlock s
opens_2 s locks = record { takes = locks.takes; blocks = locks.blocks }

-- in mode Locks, at some step
abbrev locking : Step → ChipState → ChipState
locking step s = record s { mode = Locks; step = step }

-- a code there
lock_step : (s : ChipState) (u n : ℕ) (step : Step) → n < 256 → TakesCommands Amd s → after_cycle u (code n Here) (locking step s) ≡ locks_steps step (locking step s) u n
lock_step s u n step small takes =
    let x = locking step s in
    let v = spread (wide s) n in
    written_amd x u v takes.rest.set takes.rest.job
    ∙ (ap (λ (f : Fault). fault_steps f x u v) takes.fault ∙ ap (locks_steps step x u) (spread_low s.part.device n small))

enters : (u : ℕ) (s : ChipState) → OffersLocks Amd s → after_cycle u (code 0xE0 First) (goes_to Unlock2 s) ≡ locking Rest s
enters u s locks = by_code_2 s u 0xE0 First Unlock2 (omega arith) (opens_2 s locks) ∙ rw (same_self (first_address s.part.device), locks.offers) refl

shows_2 : (u : ℕ) (s : ChipState) → OffersLocks Amd s → Leads u s (cycles_of Amd ShowLocks) s (locking Rest s)
shows_2 u s locks =
    let open_to = opens_2 s locks in
    Then (unturned s) (first s u open_to) (Then (at_step s Unlock1) (second s u open_to) (Then (at_step s Unlock2) (enters u s locks) Arrives))

locks_2 : (locked : Bool) (u : ℕ) (s : ChipState) → OffersLocks Amd s → Leads u s (cycles_of Amd (lock_command locked)) s (in_mode Locks (set_lock (block_of s u) locked s))
locks_2 true u s locks =
    let open_to = opens_2 s locks in
    Then (unturned s) (first s u open_to)
    (Then (at_step s Unlock1) (second s u open_to)
    (Then (at_step s Unlock2) (enters u s locks)
    (Then (turned_mode s Locks Rest) (lock_step s u 0xA0 Rest (omega arith) locks.takes) (Then (turned_mode s Locks LockNext) (lock_step s u 0x00 LockNext (omega arith) locks.takes) Arrives))))
locks_2 false u s locks =
    let open_to = opens_2 s locks in
    Then (unturned s) (first s u open_to)
    (Then (at_step s Unlock1) (second s u open_to)
    (Then (at_step s Unlock2) (enters u s locks)
    (Then (turned_mode s Locks Rest) (lock_step s u 0xA0 Rest (omega arith) locks.takes) (Then (turned_mode s Locks LockNext) (lock_step s u 0x01 LockNext (omega arith) locks.takes) Arrives))))

-- at rest it is as it was
rest_step : (s : ChipState) → TakesCommands Amd s → in_mode Locks s ≡ locking Rest s
rest_step s takes = ap (λ (k : Step). locking k s) takes.rest.step

is_reset : (s : ChipState) → TakesCommands Amd s → record s { mode = Array; step = Rest } ≡ reset s
is_reset s takes =
    ap (λ (k : Step). record s { mode = Array; step = k }) (sym takes.rest.step) ∙ ap (λ (f : Fault). record s { mode = Array; fault = f }) takes.fault

leaves_2 : (u : ℕ) (s : ChipState) → TakesCommands Amd s → Leads u s (cycles_of Amd LeaveLocks) (in_mode Locks s) (reset s)
leaves_2 u s takes =
    Then (turned_mode s Locks s.step) (ap (after_cycle u (code 0x90 Here)) (rest_step s takes) ∙ lock_step s u 0x90 Rest (omega arith) takes)
    (Then (turned_mode s Locks LeaveNext) (lock_step s u 0x00 LeaveNext (omega arith) takes ∙ is_reset s takes) Arrives)

-- ---- both sets

-- what the set shows as a lock was set
abbrev set_mode : Set → Mode
set_mode Intel = Status
set_mode Amd = Locks

locks : (set : Set) (locked : Bool) (u : ℕ) (s : ChipState) → OffersLocks set s → Leads u s (cycles_of set (lock_command locked)) s (in_mode (set_mode set) (set_lock (block_of s u) locked s))
locks Intel locked u s offers = locks_1 locked u s offers
locks Amd locked u s offers = locks_2 locked u s offers

leaves_set : (set : Set) (u : ℕ) (s : ChipState) → TakesCommands set s → Leads u s (cycles_of set LeaveLocks) (in_mode (set_mode set) s) (reset s)
leaves_set Intel u s takes = leaves_1 Status u s takes
leaves_set Amd u s takes = leaves_2 u s takes

-- a chip whose lock is set takes commands as before
still_takes : (set : Set) (b : ℕ) (locked : Bool) (s : ChipState) → TakesCommands set s → TakesCommands set (set_lock b locked s)
still_takes set b locked s takes = record {
  rest = record { set = takes.rest.set; step = refl; job = takes.rest.job; resets = takes.rest.resets };
  mode = takes.mode;
  fault = takes.fault;
}

-- after both parts of the call
locked_then : (set : Set) (locked : Bool) (u : ℕ) (s m : ChipState) → m ≡ after_cycles u (cycles_of set (lock_command locked)) s → OffersLocks set s
    → m ≡ in_mode (set_mode set) (set_lock (block_of s u) locked s)
locked_then set locked u s m first offers =
    first ∙ leads_to u s (cycles_of set (lock_command locked)) s (in_mode (set_mode set) (set_lock (block_of s u) locked s)) (locks set locked u s offers)

pub sets : (set : Set) (locked : Bool) (u : ℕ) (s m t : ChipState) → m ≡ after_cycles u (cycles_of set (lock_command locked)) s → t ≡ after_cycles u (cycles_of set LeaveLocks) m → SetsLock set u locked s t
sets set locked u s m t first second offers =
    let end = set_lock (block_of s u) locked s in
    second ∙ (ap (after_cycles u (cycles_of set LeaveLocks)) (locked_then set locked u s m first offers)
    ∙ leads_to u end (cycles_of set LeaveLocks) (in_mode (set_mode set) end) (reset end) (leaves_set set u end (still_takes set (block_of s u) locked s offers.takes)))

-- power went in the first part, or in the second
pub loses_old : (set : Set) (locked : Bool) (u : ℕ) (s t : ChipState) → DarkensIn u (cycles_of set (lock_command locked)) s t → LosesNone (OffersLocks set) s t
loses_old set locked u s t dark offers =
    leads_dark 0 [] u s (cycles_of set (lock_command locked)) s (in_mode (set_mode set) (set_lock (block_of s u) locked s)) t offers.takes.rest.job (locks set locked u s offers) dark

pub loses_new : (set : Set) (locked : Bool) (u : ℕ) (s m t : ChipState) → m ≡ after_cycles u (cycles_of set (lock_command locked)) s → DarkensIn u (cycles_of set LeaveLocks) m t → LosesLocked set u locked s t
loses_new set locked u s m t first dark offers =
    let end = set_lock (block_of s u) locked s in
    leads_dark 0 [] u end (cycles_of set LeaveLocks) (in_mode (set_mode set) end) (reset end) t offers.takes.rest.job (leaves_set set u end (still_takes set (block_of s u) locked s offers.takes))
    (subst (λ (x : ChipState). DarkensIn u (cycles_of set LeaveLocks) x t) (locked_then set locked u s m first offers) dark)

-- ---- a lock is read

pub shows : (set : Set) (u : ℕ) (s : ChipState) → OffersLocks set s → Leads u s (cycles_of set ShowLocks) s (in_mode (lock_mode set) s)
shows Intel u s offers = shows_1 u s offers
shows Amd u s offers = subst (λ (x : ChipState). Leads u s (cycles_of Amd ShowLocks) s x) (sym (rest_step s offers.takes)) (shows_2 u s offers)

pub leaves : (set : Set) (u : ℕ) (s : ChipState) → TakesCommands set s → Leads u s (cycles_of set LeaveLocks) (in_mode (lock_mode set) s) (reset s)
leaves Intel u s takes = leaves_1 Ident u s takes
leaves Amd u s takes = leaves_2 u s takes

-- power went before the read, at it, and behind it
pub loses_showing : (set : Set) (u : ℕ) (s t : ChipState) → DarkensIn u (cycles_of set ShowLocks) s t → LosesNone (OffersLocks set) s t
loses_showing set u s t dark offers =
    leads_dark 0 [] u s (cycles_of set ShowLocks) s (in_mode (lock_mode set) s) t offers.takes.rest.job (shows set u s offers) dark

pub loses_shown : (set : Set) (s m t : ChipState) → (OffersLocks set s → m ≡ in_mode (lock_mode set) s) → Darkens m t → LosesNone (OffersLocks set) s t
loses_shown set s m t is dark offers = dark_idle 0 [] s m t (lock_mode set) s.step s.flags offers.takes.rest.job (λ h. h) (is offers) dark

pub loses_leaving : (set : Set) (u : ℕ) (s m t : ChipState) → (OffersLocks set s → m ≡ in_mode (lock_mode set) s) → DarkensIn u (cycles_of set LeaveLocks) m t → LosesNone (OffersLocks set) s t
loses_leaving set u s m t is dark offers =
    leads_dark 0 [] u s (cycles_of set LeaveLocks) (in_mode (lock_mode set) s) (reset s) t offers.takes.rest.job (leaves set u s offers.takes)
    (subst (λ (x : ChipState). DarkensIn u (cycles_of set LeaveLocks) x t) (is offers) dark)
