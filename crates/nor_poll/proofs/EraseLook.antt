-- A look at an erase, of one lane, by either set.
use Rattle.std.proofs.Common.{◌≡◌, ◌≢◌, ◌+◌, ◌<◌, ◌≤◌, ◌⊎◌, inl, inr, ℕ, refl, sym, subst, ap, arith, ◌∙◌, Bool, true, false, List, slice_index, if◌then◌else◌}
use Rattle.nor_cell.specs.Chip.{ChipState, Part, Fault, Mode, Status, Job, Idle, Erase, Target, Held, NotHeld, runs, is_within, covered}
use Rattle.nor_cell.specs.Amd.{is_time}
use Rattle.nor_cell.specs.Between.{can_reset, Waits}
use Rattle.nor_cell.proofs.Between.{same_fault, resets_still, resets_broken, waits_rests}
use Rattle.nor_cell.specs.Look.{fault_with, is_weak}
use Rattle.nor_cell.specs.Power.{programs_at}
use Rattle.nor_cell.specs.declared.device.Set.{Set}
use Rattle.nor_cell.specs.declared.device.Set.TheVariants.{Intel, Amd}
use Rattle.nor_poll.specs.Codes.{cycles_of, after_cycles, DarkensIn}
use Rattle.nor_poll.specs.Erase.{TakesLook, LooksOn, ChangesWithinErase, next_state, erase_polling, look_reads}
use Rattle.nor_bus.specs.Driven.{Darkens}
use Rattle.nor_poll.specs.Polled.{Answers, most_reads, viewed}
use Rattle.nor_poll.specs.declared.polling.Polling.{Polling}
use Rattle.nor_poll.specs.Reads.{AfterReads, DarkAfter}
use Rattle.nor_poll.specs.Told.{ToldAt, HasLeft}
use Rattle.nor_poll.specs.Toggles.{names_job, EndsAt}
use Rattle.nor_poll.specs.UnderErase.{LaneIs, ErasesOn, HasEnded, IsErased, IsTorn, IsUntold, ShowsErase, tells_broken, erase_left, held_left}
use Rattle.nor_cell.specs.Chip.{reads_left}
use Rattle.nor_poll.specs.declared.codes.Command.TheVariants.{ShowStatus}
use Rattle.nor_poll.specs.declared.lanes.LaneState.{LaneState}
use Rattle.nor_poll.specs.declared.lanes.LaneState.TheVariants.{Running, Suspended, Finished, Broken}
use Rattle.nor_poll.specs.declared.watch.Seen.{Seen}
use Rattle.nor_poll.specs.declared.watch.Seen.TheVariants.{Working, Ready, Suspended as SeenSuspended, Broken as SeenBroken}
use Rattle.nor_poll.proofs.Codes1.{shows_idle, shows_busy}
use Rattle.nor_poll.proofs.Waiting.{part_after}
use Rattle.nor_poll.proofs.Programming.{toggling}
use Rattle.nor_poll.proofs.Erasing.{left_dark, StillErases, HasErased, Erases, erases_after, breaks_off, broke, idle_after, outcome, next_idle, SeesErase, sees_erase, within_still, within_ended, within_idle, within_none, dark_within}

-- ---- the status is shown

-- a lane that isn't suspended erases, or runs nothing
stands : (state : LaneState) (target : Target) (s : ChipState) → LaneIs state target s → state ≢ Suspended → (ErasesOn target s ⊎ (s.job ≡ Idle)) × (s.held ≡ NotHeld)
stands Running target s (inl on, held) awake = (inl on, held)
stands Running target s (inr ended, held) awake = (inr ended.job, held)
stands Suspended target s is awake = absurd (awake refl)
stands Finished target s is awake = (inr is.1.job, is.1.held)
stands Broken target s is awake = (inr is.1.job, is.1.held)

-- the chip in another mode: of set 0001 its status, of set 0002 its own
pub record ShownAs (set : Set) (s m : ChipState) : Type 0 where
  pub mode : Mode
  pub is : m ≡ record s { mode = mode }
  pub status : set ≡ Intel → mode ≡ Status
  pub same : set ≡ Amd → mode ≡ s.mode

shown_by : (set : Set) (u : ℕ) (target : Target) (s m : ChipState) → Waits set s → ErasesOn target s ⊎ (s.job ≡ Idle) → m ≡ after_cycles u (cycles_of set ShowStatus) s → ShownAs set s m
shown_by Intel u target s m waits (inl on) is = record {
  mode = s.mode;
  is = is ∙ shows_busy u s target on.left waits.set on.job;
  status = λ e. subst (λ (k : Set). ShowsErase k s) waits.set on.shows;
  same = λ e. refl;
}
shown_by Intel u target s m waits (inr idle) is = record {
  mode = Status;
  is = is ∙ shows_idle u s (waits_rests Intel s waits idle);
  status = λ e. refl;
  same = λ e. cc;
}
shown_by Amd u target s m waits now is = record { mode = s.mode; is = is; status = λ e. cc; same = λ e. refl }

pub shown : (set : Set) (u : ℕ) (target : Target) (state : LaneState) (s m : ChipState) → TakesLook set target state s → m ≡ after_cycles u (cycles_of set ShowStatus) s → ShownAs set s m
shown set u target state s m takes is = shown_by set u target s m takes.waits (stands state target s takes.is takes.awake).0 is

-- so it answers the poll
ends_at : (job : Job) (held : Held) (part : Part) (u : ℕ) (target : Target) (left : ℕ) → (job ≡ Erase target left) ⊎ (job ≡ Idle) → EndsAt job held part u
ends_at job held part u target left (inl e) = subst (λ (j : Job). EndsAt j held part u) (sym e) tt
ends_at job held part u target left (inr e) = subst (λ (j : Job). EndsAt j held part u) (sym e) tt

job_of : (target : Target) (s : ChipState) → ErasesOn target s ⊎ (s.job ≡ Idle) → (left : ℕ) × ((s.job ≡ Erase target left) ⊎ (s.job ≡ Idle))
job_of target s (inl on) = (on.left, inl on.job)
job_of target s (inr idle) = (0, inr idle)

answers_as : {W : Type 0} (bytes : W → List ℕ) (set : Set) (u c : ℕ) (target : Target) (state : LaneState) (mode : Mode) (s : ChipState) → TakesLook set target state s → (set ≡ Intel → mode ≡ Status) → (set ≡ Amd → mode ≡ s.mode)
    → Answers bytes (erase_polling set) u c (record s { mode = mode })
answers_as bytes Intel u c target state mode s takes status same = record { set = takes.waits.set; mode = status refl }
answers_as bytes Amd u c target state mode s takes status same =
    let j = job_of target s (stands state target s takes.is takes.awake).0 in
    record {
      set = takes.waits.set;
      fault = takes.names;
      mode = λ none. same refl ∙ takes.waits.mode refl;
      ends = ends_at s.job s.held s.part u target j.0 j.1;
    }

pub answers : {W : Type 0} (bytes : W → List ℕ) (set : Set) (u c : ℕ) (target : Target) (state : LaneState) (s m : ChipState) → TakesLook set target state s → ShownAs set s m
    → Answers bytes (erase_polling set) u c m
answers bytes set u c target state s m takes now = subst (λ (x : ChipState). Answers bytes (erase_polling set) u c x) (sym now.is) (answers_as bytes set u c target state now.mode s takes now.status now.same)

-- ---- reads

pub within_mode : (target : Target) (mode : Mode) (s t : ChipState) → ChangesWithinErase target (record s { mode = mode }) t → ChangesWithinErase target s t
within_mode target mode s t h = record {
  remains = record { part = h.remains.part; size = h.remains.size; locks = h.remains.locks; erases = h.remains.erases };
  held = h.held;
  suspends = h.suspends;
  outside = h.outside;
  area = h.area;
  flags = h.flags;
  fault = h.fault;
  most = h.most;
}

-- What reads leave of a lane, wherever it was: it can be looked at again but for where it is.
pub record IsRead (set : Set) (target : Target) (n : ℕ) (s t : ChipState) : Type 0 where
  pub waits : Waits set t
  pub names : names_job t.fault ≡ true
  pub keeps : ChangesWithinErase target s t
  pub held : t.held ≡ NotHeld
  pub fewer : s.part.stuck ≡ false → 0 < erase_left s → erase_left t < erase_left s
  pub most : erase_left t ≤ erase_left s
  pub few : erase_left s ≤ erase_left t + n
  pub still : runs t.job ≡ true → t.cells ≡ s.cells

-- Where a lane that ran is then: it erases on, or has ended, and had fewer reads left than were made.
abbrev pub RanTo : Target → ℕ → ChipState → ChipState → Type 0
RanTo target n s t = ErasesOn target t ⊎ (HasEnded target t × (erase_left s < n))

left_of : (job : Job) (held : Held) (target : Target) (left : ℕ) → job ≡ Erase target left → held ≡ NotHeld → reads_left job + held_left held ≡ left
left_of job held target left is none = rw (is, none) (omega arith)

none_of : (job : Job) (held : Held) → job ≡ Idle → held ≡ NotHeld → reads_left job + held_left held ≡ 0
none_of job held is none = rw (is, none) refl

-- it waits still, in another mode and perhaps with a broken job
pub waits_after : (set : Set) (mode : Mode) (broken : Job) (s t : ChipState) → Waits set s → (set ≡ Amd → mode ≡ s.mode) → t.part ≡ s.part → t.step ≡ s.step → t.mode ≡ mode → t.fault ≡ fault_with set broken s.fault → Waits set t
waits_after set mode broken s t waits same part step shown fault = record {
  set = ap (λ (x : Part). x.set) part ∙ waits.set;
  step = step ∙ waits.step;
  mode = λ amd. shown ∙ (same amd ∙ waits.mode amd);
  resets = ap (can_reset set t.mode) fault ∙ resets_broken set t.mode broken s.fault (resets_still set s.mode t.mode s.fault waits.resets (λ amd. shown ∙ same amd));
}

waits_same : (set : Set) (mode : Mode) (job : Job) (s t : ChipState) → Waits set s → (set ≡ Amd → mode ≡ s.mode) → t ≡ toggling t.toggle_6 t.toggle_2 (record s { mode = mode; job = job }) → Waits set t
waits_same set mode job s t waits same is =
    waits_after set mode Idle s t waits same (ap (λ (x : ChipState). x.part) is) (ap (λ (x : ChipState). x.step) is) (ap (λ (x : ChipState). x.mode) is)
    (ap (λ (x : ChipState). x.fault) is ∙ sym (same_fault set s.fault))

-- of a chip that runs nothing
read_idle : (set : Set) (target : Target) (n : ℕ) (mode : Mode) (s t : ChipState) → Waits set s → names_job s.fault ≡ true → (set ≡ Amd → mode ≡ s.mode) → s.job ≡ Idle → s.held ≡ NotHeld
    → t ≡ toggling t.toggle_6 t.toggle_2 (record s { mode = mode; job = Idle }) → IsRead set target n s t
read_idle set target n mode s t waits names same job held is =
    let held_t = ap (λ (x : ChipState). x.held) is ∙ held in
    let before = none_of s.job s.held job held in
    let after = none_of t.job t.held (ap (λ (x : ChipState). x.job) is) held_t in
    record {
      waits = waits_same set mode Idle s t waits same is;
      names = ap (λ (x : ChipState). names_job x.fault) is ∙ names;
      keeps = within_mode target mode s t (within_idle target (record s { mode = mode }) t is);
      held = held_t;
      fewer = λ free some. absurd (omega (arith, some, before));
      most = omega (arith, after);
      few = omega (arith, before);
      still = λ on. ap (λ (x : ChipState). x.cells) is;
    }

-- of a chip that erases on
read_still : (set : Set) (target : Target) (left n : ℕ) (mode : Mode) (s t : ChipState) → 0 < n → Waits set s → names_job s.fault ≡ true → (set ≡ Amd → mode ≡ s.mode) → s.job ≡ Erase target left → s.held ≡ NotHeld
    → StillErases target left n (record s { mode = mode }) t → IsRead set target n s t
read_still set target left n mode s t some waits names same job held still =
    let is = still.is in
    let held_t = ap (λ (x : ChipState). x.held) is ∙ held in
    let before = left_of s.job s.held target left job held in
    let after = left_of t.job t.held target still.left (ap (λ (x : ChipState). x.job) is) held_t in
    let most = still.most in
    let down = still.down in
    record {
      waits = waits_same set mode (Erase target still.left) s t waits same is;
      names = ap (λ (x : ChipState). names_job x.fault) is ∙ names;
      keeps = within_mode target mode s t (within_still target left n (record s { mode = mode }) t job still);
      held = held_t;
      fewer = λ free had. let k = still.count free in omega (arith, some, k, before, after);
      most = omega (arith, down, before, after);
      few = omega (arith, most, before, after);
      still = λ on. ap (λ (x : ChipState). x.cells) is;
    }

-- of a chip whose erase has ended
names_broke : (set : Set) (b : Bool) (target : Target) (fault : Fault) → names_job fault ≡ true → names_job (fault_with set (broke target b) fault) ≡ true
names_broke Intel b target fault h = h
names_broke Amd true target fault h = refl
names_broke Amd false target fault h = h

read_ended : (set : Set) (target : Target) (left n : ℕ) (mode : Mode) (s t : ChipState) → Waits set s → names_job s.fault ≡ true → (set ≡ Amd → mode ≡ s.mode) → s.job ≡ Erase target left → s.held ≡ NotHeld
    → HasErased target left n (record s { mode = mode }) t → IsRead set target n s t
read_ended set target left n mode s t waits names same job held ended =
    let is = ended.is in
    let held_t = ap (λ (x : ChipState). x.held) is ∙ held in
    let before = left_of s.job s.held target left job held in
    let after = none_of t.job t.held (ap (λ (x : ChipState). x.job) is) held_t in
    let over = ended.over in
    let broken = broke target (breaks_off target s) in
    let fault : t.fault ≡ fault_with set broken s.fault = ap (λ (x : ChipState). x.fault) is ∙ ap (λ (k : Set). fault_with k broken s.fault) waits.set in
    record {
      waits = waits_after set mode broken s t waits same (ap (λ (x : ChipState). x.part) is) (ap (λ (x : ChipState). x.step) is) (ap (λ (x : ChipState). x.mode) is) fault;
      names = ap names_job fault ∙ names_broke set (breaks_off target s) target s.fault names;
      keeps = within_mode target mode s t (within_ended target left n (record s { mode = mode }) t job ended);
      held = held_t;
      fewer = λ free had. omega (arith, had, after);
      most = omega (arith, after);
      few = omega (arith, over, before, after);
      still = λ on. absurd (let no : true ≡ false = sym on ∙ ap (λ (x : ChipState). runs x.job) is in cc);
    }

read_erasing : (set : Set) (target : Target) (n : ℕ) (mode : Mode) (s t : ChipState) → 0 < n → TakesLook set target Running s → (set ≡ Amd → mode ≡ s.mode) → (on : ErasesOn target s) → s.held ≡ NotHeld
    → Erases target on.left n (record s { mode = mode }) t → IsRead set target n s t
read_erasing set target n mode s t some takes same on held (inl still) = read_still set target on.left n mode s t some takes.waits takes.names same on.job held still
read_erasing set target n mode s t some takes same on held (inr ended) = read_ended set target on.left n mode s t takes.waits takes.names same on.job held ended

-- ---- where a lane is then

shows_erase : (set : Set) (mode : Mode) (t : ChipState) → (set ≡ Intel → mode ≡ Status) → t.mode ≡ mode → ShowsErase set t
shows_erase Intel mode t status is = is ∙ status refl
shows_erase Amd mode t status is = tt

untold_still : (set : Set) (s t : ChipState) → IsUntold set s → t.flags ≡ s.flags → t.fault ≡ s.fault → IsUntold set t
untold_still Intel s t untold flags fault = ap (λ f. f.erase) flags ∙ untold
untold_still Amd s t untold flags fault = fault ∙ untold

untold_in : (set : Set) (mode : Mode) (s : ChipState) → IsUntold set s → IsUntold set (record s { mode = mode })
untold_in Intel mode s untold = untold
untold_in Amd mode s untold = untold

-- a lane that erased
ran_erasing : (set : Set) (target : Target) (n : ℕ) (mode : Mode) (s t : ChipState) → s.part.set ≡ set → (set ≡ Intel → mode ≡ Status) → s.held ≡ NotHeld → (on : ErasesOn target s)
    → Erases target on.left n (record s { mode = mode }) t → RanTo target n s t
ran_erasing set target n mode s t set_is status held on (inl still) =
    let is = still.is in
    let mine : t.part.set ≡ set = ap (λ (x : ChipState). x.part.set) is ∙ set_is in
    inl (record {
      left = still.left;
      job = ap (λ (x : ChipState). x.job) is;
      shows = subst (λ (k : Set). ShowsErase k t) (sym mine) (shows_erase set mode t status (ap (λ (x : ChipState). x.mode) is));
      untold = subst (λ (k : Set). IsUntold k t) (sym mine)
          (untold_still set s t (subst (λ (k : Set). IsUntold k s) set_is on.untold) (ap (λ (x : ChipState). x.flags) is) (ap (λ (x : ChipState). x.fault) is));
    })
ran_erasing set target n mode s t set_is status held on (inr ended) =
    let is = ended.is in
    let mine : t.part.set ≡ set = ap (λ (x : ChipState). x.part.set) is ∙ set_is in
    let over = ended.over in
    let before = left_of s.job s.held target on.left on.job held in
    inr (
      record {
        job = ap (λ (x : ChipState). x.job) is;
        shows = subst (λ (k : Set). ShowsErase k t) (sym mine) (shows_erase set mode t status (ap (λ (x : ChipState). x.mode) is));
        outcome = subst (λ (k : Set). (IsErased target t × (tells_broken k t ≡ false)) ⊎ (IsTorn target t × (tells_broken k t ≡ true))) (sym mine)
            (outcome set target on.left n (record s { mode = mode }) t set_is (untold_in set mode s (subst (λ (k : Set). IsUntold k s) set_is on.untold)) ended);
      },
      omega (arith, over, before),
    )

pub same_tells : (set : Set) (s t : ChipState) → t.flags ≡ s.flags → t.fault ≡ s.fault → tells_broken set t ≡ tells_broken set s
same_tells Intel s t flags fault = ap (λ f. f.erase) flags
same_tells Amd s t flags fault = ap is_time fault

pub erased_still : (target : Target) (s t : ChipState) → t.part ≡ s.part → t.cells ≡ s.cells → IsErased target s → IsErased target t
erased_still target s t part cells h = record {
  ones = λ p within. ap (λ (l : List ℕ). slice_index l p) cells ∙ h.ones p (sym (ap (λ (x : Part). is_within (covered target x.blocks) p) part) ∙ within);
  sound = ap (λ (x : Part). is_weak x.weak (covered target x.blocks)) part ∙ h.sound;
}

pub torn_still : (target : Target) (s t : ChipState) → t.part ≡ s.part → IsTorn target s → IsTorn target t
torn_still target s t part h = ap (λ (x : Part). is_weak x.weak (covered target x.blocks)) part ∙ h

outcome_still : (set : Set) (target : Target) (s t : ChipState) → t.part ≡ s.part → t.cells ≡ s.cells → tells_broken set t ≡ tells_broken set s
    → (IsErased target s × (tells_broken set s ≡ false)) ⊎ (IsTorn target s × (tells_broken set s ≡ true)) → (IsErased target t × (tells_broken set t ≡ false)) ⊎ (IsTorn target t × (tells_broken set t ≡ true))
outcome_still set target s t part cells tells (inl h) = inl (erased_still target s t part cells h.0, tells ∙ h.1)
outcome_still set target s t part cells tells (inr h) = inr (torn_still target s t part h.0, tells ∙ h.1)

-- a lane that had ended
ran_ended : (set : Set) (target : Target) (n : ℕ) (mode : Mode) (s t : ChipState) → 0 < n → s.part.set ≡ set → (set ≡ Intel → mode ≡ Status) → s.held ≡ NotHeld → HasEnded target s
    → t ≡ toggling t.toggle_6 t.toggle_2 (record s { mode = mode; job = Idle }) → RanTo target n s t
ran_ended set target n mode s t some set_is status held ended is =
    let mine : t.part.set ≡ set = ap (λ (x : ChipState). x.part.set) is ∙ set_is in
    let before = none_of s.job s.held ended.job held in
    inr (
      record {
        job = ap (λ (x : ChipState). x.job) is;
        shows = subst (λ (k : Set). ShowsErase k t) (sym mine) (shows_erase set mode t status (ap (λ (x : ChipState). x.mode) is));
        outcome = subst (λ (k : Set). (IsErased target t × (tells_broken k t ≡ false)) ⊎ (IsTorn target t × (tells_broken k t ≡ true))) (sym mine)
            (outcome_still set target s t (ap (λ (x : ChipState). x.part) is) (ap (λ (x : ChipState). x.cells) is)
            (same_tells set s t (ap (λ (x : ChipState). x.flags) is) (ap (λ (x : ChipState). x.fault) is))
            (subst (λ (k : Set). (IsErased target s × (tells_broken k s ≡ false)) ⊎ (IsTorn target s × (tells_broken k s ≡ true))) set_is ended.outcome));
      },
      omega (arith, some, before),
    )

-- ---- a look

-- a lane that ran goes on to show its erase
shows_ran : (set : Set) (target : Target) (n : ℕ) (s t : ChipState) → t.part.set ≡ set → RanTo target n s t → ShowsErase set t
shows_ran set target n s t is (inl on) = subst (λ (k : Set). ShowsErase k t) is on.shows
shows_ran set target n s t is (inr ended) = subst (λ (k : Set). ShowsErase k t) is ended.0.shows

-- it works on
looks_on_working : (set : Set) (target : Target) (n : ℕ) (s t : ChipState) → IsRead set target n s t → RanTo target n s t → HasLeft s → LooksOn set target Running Running n s t
looks_on_working set target n s t read ran left = record {
  next = record { waits = read.waits; names = read.names; is = (runs_to target n s t ran, read.held); awake = λ e. cc };
  keeps = read.keeps;
  others = λ apart. absurd (apart refl);
  works = λ e f. left;
  still = read.still;
  shows = shows_ran set target n s t read.waits.set ran;
  fewer = read.fewer;
  few = read.few;
  ends = λ e apart. absurd (apart refl);
}
  where
    runs_to : (target : Target) (n : ℕ) (s t : ChipState) → RanTo target n s t → ErasesOn target t ⊎ HasEnded target t
    runs_to target n s t (inl on) = inl on
    runs_to target n s t (inr ended) = inr ended.0

-- it has ended: broken where its chip tells so, else finished
abbrev pub outcome_of : Bool → LaneState
outcome_of b = if b then Broken else Finished

pub lane_ended : (b : Bool) (target : Target) (t : ChipState) → t.job ≡ Idle → t.held ≡ NotHeld → (IsErased target t × (b ≡ false)) ⊎ (IsTorn target t × (b ≡ true)) → LaneIs (outcome_of b) target t
lane_ended true target t job held (inl h) = let no : true ≡ false = h.1 in absurd cc
lane_ended true target t job held (inr h) = (h.0, record { job = job; held = held })
lane_ended false target t job held (inl h) = (h.0, record { job = job; held = held })
lane_ended false target t job held (inr h) = let no : false ≡ true = h.1 in absurd cc

pub ended_awake : (b : Bool) → outcome_of b ≢ Suspended
ended_awake true e = cc
ended_awake false e = cc

pub ended_over : (b : Bool) → outcome_of b ≢ Running
ended_over true e = cc
ended_over false e = cc

no_job : (target : Target) (t : ChipState) → ErasesOn target t → t.job ≡ Idle → ⊥
no_job target t on idle = let no : runs (Erase target on.left) ≡ false = ap runs (sym on.job ∙ idle) in cc

looks_on_ended : (set : Set) (target : Target) (n : ℕ) (s t : ChipState) → IsRead set target n s t → RanTo target n s t → t.job ≡ Idle → LooksOn set target Running (outcome_of (tells_broken t.part.set t)) n s t
looks_on_ended set target n s t read (inl on) idle = absurd (no_job target t on idle)
looks_on_ended set target n s t read (inr ended) idle =
    let b = tells_broken t.part.set t in
    record {
      next = record { waits = read.waits; names = read.names; is = lane_ended b target t ended.0.job read.held ended.0.outcome; awake = ended_awake b };
      keeps = read.keeps;
      others = λ apart. absurd (apart refl);
      works = λ e f. absurd (ended_over b f);
      still = read.still;
      shows = subst (λ (k : Set). ShowsErase k t) read.waits.set ended.0.shows;
      fewer = read.fewer;
      few = read.few;
      ends = λ e apart. ended.1;
    }

-- it isn't told to work
looks_over : (set : Set) (target : Target) (u n : ℕ) (it : Seen) (x y s t : ChipState) → IsRead set target n s t → RanTo target n s t → ToldAt u x it y → SeesErase u y t → it ≢ Working → LooksOn set target Running (next_state Running it) n s t
looks_over set target u n it x y s t read ran told sees rests =
    let same : next_state Running it ≡ outcome_of (tells_broken t.part.set t) = ap (next_state Running) (told.is rests ∙ sees.1) ∙ next_idle t.part.set u t read.held in
    subst (λ (k : LaneState). LooksOn set target Running k n s t) (sym same) (looks_on_ended set target n s t read ran (sym sees.0 ∙ told.idle rests))

-- a lane that ran
looks_running : (set : Set) (target : Target) (u n : ℕ) (it : Seen) (mode : Mode) (y s t : ChipState) → IsRead set target n s t → RanTo target n s t → ToldAt u (record s { mode = mode }) it y → SeesErase u y t
    → LooksOn set target Running (next_state Running it) n s t
looks_running set target u n Working mode y s t read ran told sees = looks_on_working set target n s t read ran (told.had refl)
looks_running set target u n Ready mode y s t read ran told sees = looks_over set target u n Ready (record s { mode = mode }) y s t read ran told sees (λ e. cc)
looks_running set target u n SeenSuspended mode y s t read ran told sees = looks_over set target u n SeenSuspended (record s { mode = mode }) y s t read ran told sees (λ e. cc)
looks_running set target u n (SeenBroken how) mode y s t read ran told sees = looks_over set target u n (SeenBroken how) (record s { mode = mode }) y s t read ran told sees (λ e. cc)

-- a lane that had ended before stays where it is
lane_stays : (state : LaneState) (target : Target) (s t : ChipState) → state ≢ Running → state ≢ Suspended → LaneIs state target s → t.part ≡ s.part → t.cells ≡ s.cells → t.job ≡ Idle → t.held ≡ NotHeld → LaneIs state target t
lane_stays Running target s t ran awake is part cells job held = absurd (ran refl)
lane_stays Suspended target s t ran awake is part cells job held = absurd (awake refl)
lane_stays Finished target s t ran awake is part cells job held = (erased_still target s t part cells is.0, record { job = job; held = held })
lane_stays Broken target s t ran awake is part cells job held = (torn_still target s t part is.0, record { job = job; held = held })

looks_other : (set : Set) (target : Target) (n : ℕ) (state : LaneState) (mode : Mode) (s t : ChipState) → state ≢ Running → (set ≡ Intel → mode ≡ Status) → TakesLook set target state s → IsRead set target n s t → t ≡ toggling t.toggle_6 t.toggle_2 (record s { mode = mode; job = Idle })
    → LooksOn set target state state n s t
looks_other set target n state mode s t ran status takes read is =
    let cells = ap (λ (x : ChipState). x.cells) is in
    record {
      next = record {
        waits = read.waits;
        names = read.names;
        awake = takes.awake;
        is = lane_stays state target s t ran takes.awake takes.is (ap (λ (x : ChipState). x.part) is) cells (ap (λ (x : ChipState). x.job) is) read.held;
      };
      keeps = read.keeps;
      others = λ apart. (refl, cells);
      works = λ e f. absurd (ran e);
      still = read.still;
      shows = shows_erase set mode t status (ap (λ (x : ChipState). x.mode) is);
      fewer = read.fewer;
      few = read.few;
      ends = λ e f. absurd (ran e);
    }

looks_at : (set : Set) (target : Target) (u n : ℕ) (it : Seen) (mode : Mode) (state : LaneState) (y s t : ChipState) → SeesErase u y t → 0 < n → TakesLook set target state s → (set ≡ Intel → mode ≡ Status) → (set ≡ Amd → mode ≡ s.mode)
    → AfterReads (record s { mode = mode }) n t → ToldAt u (record s { mode = mode }) it y → LaneIs state target s → LooksOn set target state (next_state state it) n s t
looks_at set target u n it mode Running y s t sees some takes status same reads told (inl on, held) =
    let h = erases_after target on.left (record s { mode = mode }) n t on.job reads in
    looks_running set target u n it mode y s t (read_erasing set target n mode s t some takes same on held h) (ran_erasing set target n mode s t takes.waits.set status held on h) told sees
looks_at set target u n it mode Running y s t sees some takes status same reads told (inr ended, held) =
    let is = idle_after (record s { mode = mode }) n t ended.job reads in
    looks_running set target u n it mode y s t (read_idle set target n mode s t takes.waits takes.names same ended.job held is)
    (ran_ended set target n mode s t some takes.waits.set status held ended is) told sees
looks_at set target u n it mode Suspended y s t sees some takes status same reads told is = absurd (takes.awake refl)
looks_at set target u n it mode Finished y s t sees some takes status same reads told is =
    let e = idle_after (record s { mode = mode }) n t is.1.job reads in
    looks_other set target n Finished mode s t (λ e. cc) status takes (read_idle set target n mode s t takes.waits takes.names same is.1.job is.1.held e) e
looks_at set target u n it mode Broken y s t sees some takes status same reads told is =
    let e = idle_after (record s { mode = mode }) n t is.1.job reads in
    looks_other set target n Broken mode s t (λ e. cc) status takes (read_idle set target n mode s t takes.waits takes.names same is.1.job is.1.held e) e

pub looks_on : {W : Type 0} (how : Polling W) (set : Set) (target : Target) (u n : ℕ) (it : Seen) (state : LaneState) (s m t : ChipState) → how ≡ erase_polling set → 0 < n → TakesLook set target state s → ShownAs set s m → AfterReads m n t → ToldAt u m it (viewed how t)
    → LooksOn set target state (next_state state it) n s t
looks_on how set target u n it state s m t is some takes now reads told =
    looks_at set target u n it now.mode state (viewed how t) s t (sees_erase how set u t is (ap (λ (p : Part). p.set) (part_after m n t reads ∙ ap (λ (x : ChipState). x.part) now.is) ∙ takes.waits.set)) some takes now.status now.same (subst (λ (x : ChipState). AfterReads x n t) now.is reads) (subst (λ (x : ChipState). ToldAt u x it (viewed how t)) now.is told) takes.is

-- ---- a look that was given up

no_program : (job : Job) (target : Target) (left : ℕ) → (job ≡ Erase target left) ⊎ (job ≡ Idle) → (p : ℕ) → programs_at job p ≡ false
no_program job target left (inl e) p = ap (λ (j : Job). programs_at j p) e
no_program job target left (inr e) p = ap (λ (j : Job). programs_at j p) e

dark_read : (target : Target) (n : ℕ) (s m t : ChipState) → ErasesOn target s ⊎ (s.job ≡ Idle) → (mode : Mode) → AfterReads (record s { mode = mode }) n m → Darkens m t → ChangesWithinErase target s t
dark_read target n s m t (inr idle) mode reads dark =
    let x = record s { mode = mode } in
    let is = idle_after x n m idle reads in
    within_mode target mode s t (dark_within target x m t (within_idle target x m is) (no_program m.job target 0 (inr (ap (λ (y : ChipState). y.job) is))) dark)
dark_read target n s m t (inl on) mode reads dark = within_mode target mode s t (dark_erase target on.left n (record s { mode = mode }) m t on.job (erases_after target on.left (record s { mode = mode }) n m on.job reads) dark)
  where
    dark_erase : (target : Target) (left n : ℕ) (x m t : ChipState) → x.job ≡ Erase target left → Erases target left n x m → Darkens m t → ChangesWithinErase target x t
    dark_erase target left n x m t job (inl still) dark =
        dark_within target x m t (within_still target left n x m job still) (no_program m.job target still.left (inl (ap (λ (y : ChipState). y.job) still.is))) dark
    dark_erase target left n x m t job (inr ended) dark =
        dark_within target x m t (within_ended target left n x m job ended) (no_program m.job target 0 (inr (ap (λ (y : ChipState). y.job) ended.is))) dark

pub loses_reads : (set : Set) (target : Target) (state : LaneState) (n : ℕ) (s m t : ChipState) → TakesLook set target state s → ShownAs set s m → DarkAfter n m t → ChangesWithinErase target s t
loses_reads set target state n s m t takes now dark =
    let h = stands state target s takes.is takes.awake in
    dark_read target n s dark.mid t h.0 now.mode (subst (λ (x : ChipState). AfterReads x n dark.mid) now.is dark.reads) dark.dark

-- n reads took at most n of the reads that it had left
few_at : (target : Target) (n : ℕ) (s m : ChipState) (mode : Mode) → ErasesOn target s ⊎ (s.job ≡ Idle) → s.held ≡ NotHeld → AfterReads (record s { mode = mode }) n m → erase_left s ≤ erase_left m + n
few_at target n s m mode (inr idle) held reads = let before = none_of s.job s.held idle held in omega (arith, before)
few_at target n s m mode (inl on) held reads = few_erased target on.left n s m mode (left_of s.job s.held target on.left on.job held) held (erases_after target on.left (record s { mode = mode }) n m on.job reads)
  where
    few_erased : (target : Target) (left n : ℕ) (s m : ChipState) (mode : Mode) → erase_left s ≡ left → s.held ≡ NotHeld → Erases target left n (record s { mode = mode }) m → erase_left s ≤ erase_left m + n
    few_erased target left n s m mode before held (inl still) =
        let after = left_of m.job m.held target still.left (ap (λ (y : ChipState). y.job) still.is) (ap (λ (y : ChipState). y.held) still.is ∙ held) in
        let most = still.most in
        omega (arith, most, before, after)
    few_erased target left n s m mode before held (inr ended) = let over = ended.over in omega (arith, over, before)

-- so it is where power went then
pub few_reads : (set : Set) (target : Target) (state : LaneState) (n most : ℕ) (s m t : ChipState) → n ≤ most → TakesLook set target state s → ShownAs set s m → DarkAfter n m t → erase_left s ≤ erase_left t + most
few_reads set target state n most s m t le takes now dark =
    let h = stands state target s takes.is takes.awake in
    let few = few_at target n s dark.mid now.mode h.0 h.1 (subst (λ (x : ChipState). AfterReads x n dark.mid) now.is dark.reads) in
    let same = left_dark dark.mid t dark.dark in
    omega (arith, le, few, same)

dark_first : (target : Target) (s t : ChipState) → (ErasesOn target s ⊎ (s.job ≡ Idle)) → Darkens s t → ChangesWithinErase target s t
dark_first target s t (inl on) dark = dark_within target s s t (within_none target s) (no_program s.job target on.left (inl on.job)) dark
dark_first target s t (inr idle) dark = dark_within target s s t (within_none target s) (no_program s.job target 0 (inr idle)) dark

first_dark : (set : Set) (u : ℕ) (s t : ChipState) → DarkensIn u (cycles_of set ShowStatus) s t → Darkens s t
first_dark Intel u s t (inl dark) = dark
first_dark Intel u s t (inr later) = absurd later
first_dark Amd u s t dark = absurd dark

pub loses_showing_status : (set : Set) (u : ℕ) (target : Target) (state : LaneState) (s t : ChipState) → TakesLook set target state s → DarkensIn u (cycles_of set ShowStatus) s t → ChangesWithinErase target s t
loses_showing_status set u target state s t takes dark =
    let h = stands state target s takes.is takes.awake in dark_first target s t h.0 (first_dark set u s t dark)

pub few_showing_status : (set : Set) (u most : ℕ) (s t : ChipState) → DarkensIn u (cycles_of set ShowStatus) s t → erase_left s ≤ erase_left t + most
few_showing_status set u most s t dark = let same = left_dark s t (first_dark set u s t dark) in omega (arith, same)

-- the polls of an erase, by the one that was chosen
pub answers_by : {W : Type 0} (bytes : W → List ℕ) (how : Polling W) (set : Set) (u c : ℕ) (target : Target) (state : LaneState) (s m : ChipState) → how ≡ erase_polling set → TakesLook set target state s → ShownAs set s m
    → Answers bytes how u c m
answers_by bytes how set u c target state s m is takes now = subst (λ (p : Polling _). Answers bytes p u c m) (sym is) (answers bytes set u c target state s m takes now)

most_own : (W : Type 0) (set : Set) → most_reads {W = W} (erase_polling {W = W} set) ≡ look_reads set
most_own W Intel = refl
most_own W Amd = refl

pub most_by : {W : Type 0} (how : Polling W) (set : Set) → how ≡ erase_polling set → most_reads how ≡ look_reads set
most_by {W = W} how set is = ap most_reads is ∙ most_own W set
