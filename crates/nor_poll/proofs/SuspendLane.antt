-- A suspend of one lane, by either set.
use Rattle.std.proofs.Common.{◌≡◌, ◌+◌, ◌-◌, ◌*◌, ◌<◌, ◌≤◌, ◌⊎◌, inl, inr, ℕ, refl, sym, subst, ap, arith, ◌∙◌, Bool, true, false, List, length, slice_index}
use Rattle.nor_cell.specs.Chip.{ChipState, Part, Mode, Array, Status, Job, Idle, Erase, Pausing, OneBlock, Held, NotHeld, Holds, runs, is_within, block, counted, reads_left, holds_at, NoFault}
use Rattle.nor_cell.specs.Power.{Cuts, is_erasing_at, erases_at, programs_at}
use Rattle.nor_cell.specs.declared.device.Set.{Set}
use Rattle.nor_cell.specs.declared.device.Set.TheVariants.{Intel, Amd}
use Rattle.nor_poll.specs.Codes.{after_cycle, code, cycles_of, DarkensIn}
use Rattle.nor_poll.specs.Erase.{ChangesWithinErase, erase_polling}
use Rattle.nor_bus.specs.Driven.{Darkens}
use Rattle.nor_poll.specs.Polled.{Answers, working_reads}
use Rattle.nor_poll.specs.Reads.{AfterReads, NoReads, DarkAfter, WorksAfter}
use Rattle.nor_poll.specs.Suspend.{TakesSuspend, ChangesInSuspend, HoldsAfter, pauses, suspend_polls, suspend_reads, stuck_reads}
use Rattle.nor_poll.specs.Told.{HasLeft}
use Rattle.nor_poll.specs.Toggles.{EndsAt}
use Rattle.nor_poll.specs.UnderErase.{LaneIs, ErasesOn, FaultAfter, ErasesNoMore, holds_target, erase_left, held_left}
use Rattle.nor_poll.specs.Wait.{wait_most}
use Rattle.nor_poll.specs.declared.codes.Command.TheVariants.{SuspendErase}
use Rattle.nor_poll.specs.declared.codes.To.TheVariants.{Here}
use Rattle.nor_poll.specs.declared.lanes.LaneState.{LaneState}
use Rattle.nor_poll.specs.declared.lanes.LaneState.TheVariants.{Running, Suspended, Finished, Broken}
use Rattle.nor_poll.proofs.Telling.{left_runs}
use Rattle.nor_poll.specs.declared.polling.Polling.{Polling}
use Rattle.nor_cell.proofs.Between.{waits_rests}
use Rattle.nor_cell.proofs.Logic.{same_self}
use Rattle.nor_poll.proofs.Between.{neither}
use Rattle.nor_poll.proofs.Losing.{remains_then}
use Rattle.nor_poll.proofs.Codes1.{suspends_idle as idle_1, suspends_busy as busy_1}
use Rattle.nor_poll.proofs.Waiting.{part_after}
use Rattle.nor_poll.proofs.Erasing.{Erases, erases_after, idle_after, area_same, area_then, out_erasing, flags_still, fault_still, left_cut, within_none, within_idle, within_still, within_ended}
use Rattle.nor_poll.proofs.EraseLook.{within_mode}
use Rattle.nor_poll.proofs.Programming.{toggling}
use Rattle.nor_poll.proofs.Pausing.{Asked, Nothing, Ends, Stops, own_job, IsAsked, stands, Stopping, stops_after}

-- ---- what a loss of power leaves

-- only what was under erase has changed, and nothing is programmed
pub record StandsIn (b : ℕ) (s m : ChipState) : Type 0 where
  pub keeps : ChangesInSuspend b s m
  pub idle : (p : ℕ) → programs_at m.job p ≡ false

pub holds_still : (b : ℕ) (s m t : ChipState) → t.held ≡ m.held → t.suspends ≡ m.suspends → HoldsAfter b s m → HoldsAfter b s t
holds_still b s m t held suspends (inl h) = inl (held ∙ h.0, suspends ∙ h.1)
holds_still b s m t held suspends (inr h) = inr (h.0, ap (λ (x : Held). holds_target x (OneBlock b)) held ∙ h.1, suspends ∙ h.2)

faults_still : (b : ℕ) (s m t : ChipState) → t.fault ≡ m.fault → FaultAfter (OneBlock b) s m ⊎ (m.fault ≡ NoFault) → FaultAfter (OneBlock b) s t ⊎ (t.fault ≡ NoFault)
faults_still b s m t e (inl h) = inl (fault_still (OneBlock b) s m t e h)
faults_still b s m t e (inr none) = inr (e ∙ none)

cut_stands : (b : ℕ) (s m t : ChipState) → StandsIn b s m → Cuts m t → ChangesInSuspend b s t
cut_stands b s m t h cut =
    let e = cut.rest in
    let part = ap (λ (x : ChipState). x.part) e in
    let held = ap (λ (x : ChipState). x.held) e in
    let k = h.keeps in
    record {
      remains = remains_then s m t k.remains (record { part = part; size = cut.size; locks = ap (λ (x : ChipState). x.locks) e; erases = ap (λ (x : ChipState). x.erases) e });
      holds = holds_still b s m t held (ap (λ (x : ChipState). x.suspends) e) k.holds;
      outside = λ p out. cut.kept p (k.area p out) (h.idle p) ∙ k.outside p out;
      area = area_then s m t k.area (area_same m t part (ap (λ (x : ChipState). x.job) e) held);
      flags = flags_still (OneBlock b) s m t (ap (λ (x : ChipState). x.flags) e) k.flags;
      fault = faults_still b s m t (ap (λ (x : ChipState). x.fault) e) k.fault;
      most = subst (λ (n : ℕ). n ≤ erase_left s) (sym (left_cut m t e)) k.most;
    }

pub dark_stands : (b : ℕ) (s m t : ChipState) → StandsIn b s m → Darkens m t → ChangesInSuspend b s t
dark_stands b s m t h (inl same) = subst (λ (x : ChipState). ChangesInSuspend b s x) (sym same) h.keeps
dark_stands b s m t h (inr cut) = cut_stands b s m t h cut

-- ---- chips that stand so

abbrev pub Free : ℕ → Held → Type 0
Free b held = (held ≡ NotHeld) ⊎ (holds_target held (OneBlock b) ≡ true)

pub same_in : (b : ℕ) (s m : ChipState) → m.part ≡ s.part → m.locks ≡ s.locks → m.erases ≡ s.erases → m.cells ≡ s.cells → m.flags ≡ s.flags → m.fault ≡ s.fault
    → HoldsAfter b s m → ErasesNoMore s m → erase_left m ≤ erase_left s → ChangesInSuspend b s m
same_in b s m part locks erases cells flags fault holds area most = record {
  remains = record { part = part; size = ap length cells; locks = locks; erases = erases };
  holds = holds;
  outside = λ p out. ap (λ (l : List ℕ). slice_index l p) cells;
  area = area;
  flags = inl flags;
  fault = inl (inl fault);
  most = most;
}

-- as a look would leave it
pub changed_by : (b : ℕ) (s t : ChipState) → ChangesWithinErase (OneBlock b) s t → ChangesInSuspend b s t
changed_by b s t w = record {
  remains = w.remains;
  holds = inl (w.held, w.suspends);
  outside = w.outside;
  area = w.area;
  flags = w.flags;
  fault = inl w.fault;
  most = w.most;
}

-- the same of a chip that was asked, and erases on
pub changed_mode : (b left : ℕ) (mode : Mode) (s t : ChipState) → s.job ≡ Erase (OneBlock b) left → ChangesWithinErase (OneBlock b) (record s { mode = mode; job = Erase (OneBlock b) left }) t
    → ChangesWithinErase (OneBlock b) s t
changed_mode b left mode s t job w = within_mode (OneBlock b) mode s t (subst (λ (j : Job). ChangesWithinErase (OneBlock b) (record s { mode = mode; job = j }) t) (sym job) w)

-- nothing of a chip that holds the erase, or is about to, is erased but block b
pub area_pausing : (b left p : ℕ) (s m : ChipState) → s.job ≡ Erase (OneBlock b) left → s.held ≡ NotHeld → m.part ≡ s.part → (is_within (block m.part.blocks b) p ≡ false → is_erasing_at m p ≡ false)
    → is_erasing_at s p ≡ false → is_erasing_at m p ≡ false
area_pausing b left p s m job none part quiet out =
    quiet (ap (λ (x : Part). is_within (block x.blocks b) p) part ∙ out_erasing (OneBlock b) left p s job out)

holds_quiet : (b left p : ℕ) (m : ChipState) → m.job ≡ Idle → m.held ≡ Holds b left → is_within (block m.part.blocks b) p ≡ false → is_erasing_at m p ≡ false
holds_quiet b left p m job held out =
    neither (erases_at m.job m.part.blocks p) (holds_at m.held m.part.blocks p) (ap (λ (j : Job). erases_at j m.part.blocks p) job)
    (ap (λ (h : Held). holds_at h m.part.blocks p) held ∙ out)

pauses_quiet : (b wait left p : ℕ) (m : ChipState) → m.job ≡ Pausing b wait left → m.held ≡ NotHeld → is_within (block m.part.blocks b) p ≡ false → is_erasing_at m p ≡ false
pauses_quiet b wait left p m job none out =
    neither (erases_at m.job m.part.blocks p) (holds_at m.held m.part.blocks p) (ap (λ (j : Job). erases_at j m.part.blocks p) job ∙ out)
    (ap (λ (h : Held). holds_at h m.part.blocks p) none)

-- a chip whose erase of block b will be suspended, or was
pub pausing_in : (b wait left all : ℕ) (s m : ChipState) → s.job ≡ Erase (OneBlock b) all → s.held ≡ NotHeld → wait + left ≤ all
    → m ≡ toggling m.toggle_6 m.toggle_2 (record s { mode = m.mode; job = Pausing b wait left }) → ChangesInSuspend b s m
pausing_in b wait left all s m job none few e =
    let part = ap (λ (x : ChipState). x.part) e in
    let now = ap (λ (x : ChipState). x.job) e in
    let held = ap (λ (x : ChipState). x.held) e in
    same_in b s m part (ap (λ (x : ChipState). x.locks) e) (ap (λ (x : ChipState). x.erases) e) (ap (λ (x : ChipState). x.cells) e) (ap (λ (x : ChipState). x.flags) e) (ap (λ (x : ChipState). x.fault) e)
    (inl (held, ap (λ (x : ChipState). x.suspends) e))
    (λ p out. area_pausing b all p s m job none part (pauses_quiet b wait left p m now (held ∙ none)) out)
    (left_pausing s.job m.job s.held m.held job now held)
  where
    left_pausing : (j k : Job) (h now : Held) → j ≡ Erase (OneBlock b) all → k ≡ Pausing b wait left → now ≡ h → reads_left k + held_left now ≤ reads_left j + held_left h
    left_pausing j k h now was is same = rw (was, is, same) (omega (arith, few))

pub paused_in : (b left all : ℕ) (s m : ChipState) → pauses s ≡ true → s.job ≡ Erase (OneBlock b) all → s.held ≡ NotHeld → left ≤ all
    → m ≡ toggling m.toggle_6 m.toggle_2 (record s { mode = m.mode; job = Idle; held = Holds b left; suspends = counted s.suspends }) → ChangesInSuspend b s m
paused_in b left all s m long job none few e =
    let part = ap (λ (x : ChipState). x.part) e in
    let now = ap (λ (x : ChipState). x.job) e in
    let held = ap (λ (x : ChipState). x.held) e in
    same_in b s m part (ap (λ (x : ChipState). x.locks) e) (ap (λ (x : ChipState). x.erases) e) (ap (λ (x : ChipState). x.cells) e) (ap (λ (x : ChipState). x.flags) e) (ap (λ (x : ChipState). x.fault) e)
    (inr (long, ap (λ (h : Held). holds_target h (OneBlock b)) held ∙ same_self b, ap (λ (x : ChipState). x.suspends) e))
    (λ p out. area_pausing b all p s m job none part (holds_quiet b left p m now held) out)
    (left_paused s.job m.job s.held m.held job now none held)
  where
    left_paused : (j k : Job) (h now : Held) → j ≡ Erase (OneBlock b) all → k ≡ Idle → h ≡ NotHeld → now ≡ Holds b left → reads_left k + held_left now ≤ reads_left j + held_left h
    left_paused j k h now was is free holds = rw (was, is, free, holds) (omega (arith, few))

-- a chip that runs nothing
pub resting_in : (b : ℕ) (mode : Mode) (s m : ChipState) → m ≡ toggling m.toggle_6 m.toggle_2 (record s { mode = mode; job = Idle }) → ChangesInSuspend b s m
resting_in b mode s m e = changed_by b s m (within_mode (OneBlock b) mode s m (within_idle (OneBlock b) (record s { mode = mode }) m e))

-- as it was
pub stands_first : (set : Set) (u b : ℕ) (state : LaneState) (s : ChipState) → TakesSuspend set u b state s → StandsIn b s s
stands_first set u b state s takes = record { keeps = changed_by b s s (within_none (OneBlock b) s); idle = first_by b s (stands b state s takes.is) }
  where
    first_by : (b : ℕ) (s : ChipState) → (ErasesOn (OneBlock b) s × (s.held ≡ NotHeld)) ⊎ ((s.job ≡ Idle) × Free b s.held) → (p : ℕ) → programs_at s.job p ≡ false
    first_by b s (inl (on, held)) p = ap (λ (j : Job). programs_at j p) on.job
    first_by b s (inr (idle, free)) p = ap (λ (j : Job). programs_at j p) idle

-- after the suspend code and any number of reads
stands_as : (b n : ℕ) (s : ChipState) (mode : Mode) (job : Job) (t : ChipState) → Asked b s job → AfterReads (record s { mode = mode; job = job }) n t → StandsIn b s t
stands_as b n s mode Idle t (Nothing idle free) reads =
    let e = idle_after (record s { mode = mode; job = Idle }) n t refl reads in
    record { keeps = resting_in b mode s t e; idle = λ p. ap (λ (x : ChipState). programs_at x.job p) e }
stands_as b n s mode job t (Ends {left = left} was none short few) reads = ends_as b left n s mode t was (erases_after (OneBlock b) left (record s { mode = mode; job = Erase (OneBlock b) left }) n t refl reads)
  where
    ends_as : (b left n : ℕ) (s : ChipState) (mode : Mode) (t : ChipState) → s.job ≡ Erase (OneBlock b) left → Erases (OneBlock b) left n (record s { mode = mode; job = Erase (OneBlock b) left }) t → StandsIn b s t
    ends_as b left n s mode t was (inl still) =
        let x = record s { mode = mode; job = Erase (OneBlock b) left } in
        record { keeps = changed_by b s t (changed_mode b left mode s t was (within_still (OneBlock b) left n x t refl still)); idle = λ p. ap (λ (y : ChipState). programs_at y.job p) still.is }
    ends_as b left n s mode t was (inr ended) =
        let x = record s { mode = mode; job = Erase (OneBlock b) left } in
        record { keeps = changed_by b s t (changed_mode b left mode s t was (within_ended (OneBlock b) left n x t refl ended)); idle = λ p. ap (λ (y : ChipState). programs_at y.job p) ended.is }
stands_as b n s mode job t (Stops {left = left} was none long free more) reads =
    let pace = s.part.pace_suspend in
    stops_as b pace left n s mode t long was none more (stops_after b pace (left - pace) (record s { mode = mode; job = Pausing b pace (left - pace) }) n t free refl reads)
  where
    stops_as : (b pace all n : ℕ) (s : ChipState) (mode : Mode) (t : ChipState) → pauses s ≡ true → s.job ≡ Erase (OneBlock b) all → s.held ≡ NotHeld → pace < all
        → Stopping b pace (all - pace) n (record s { mode = mode; job = Pausing b pace (all - pace) }) t → StandsIn b s t
    stops_as b pace all n s mode t long was none more (inl still) =
        let e = still.is in
        let k : still.now + n ≡ pace = still.count in
        let m = sym (ap (λ (x : ChipState). x.mode) e) in
        record {
          keeps = pausing_in b still.now (all - pace) all s t was none (omega (arith, k, more)) (e ∙ ap (λ (y : Mode). toggling t.toggle_6 t.toggle_2 (record s { mode = y; job = Pausing b still.now (all - pace) })) m);
          idle = λ p. ap (λ (x : ChipState). programs_at x.job p) e;
        }
    stops_as b pace all n s mode t long was none more (inr paused) =
        let e = paused.is in
        let m = sym (ap (λ (x : ChipState). x.mode) e) in
        record {
          keeps = paused_in b (all - pace) all s t long was none (omega arith)
              (e ∙ ap (λ (y : Mode). toggling t.toggle_6 t.toggle_2 (record s { mode = y; job = Idle; held = Holds b (all - pace); suspends = counted s.suspends })) m);
          idle = λ p. ap (λ (x : ChipState). programs_at x.job p) e;
        }

pub stands_read : (set : Set) (b n : ℕ) (s m t : ChipState) → IsAsked set b s m → AfterReads m n t → StandsIn b s t
stands_read set b n s m t now reads = stands_as b n s now.mode now.job t now.asked (subst (λ (x : ChipState). AfterReads x n t) now.is reads)

pub loses_waiting : (set : Set) (b n : ℕ) (s m t : ChipState) → IsAsked set b s m → DarkAfter n m t → ChangesInSuspend b s t
loses_waiting set b n s m t now dark = dark_stands b s dark.mid t (stands_read set b n s m dark.mid now dark.reads) dark.dark

-- a cycle of the suspend command failed
pub loses_asking : (set : Set) (u b : ℕ) (state : LaneState) (s t : ChipState) → TakesSuspend set u b state s → DarkensIn u (cycles_of set SuspendErase) s t → ChangesInSuspend b s t
loses_asking Intel u b state s t takes (inl dark) = dark_stands b s s t (stands_first Intel u b state s takes) dark
loses_asking Intel u b state s t takes (inr (inl dark)) = loses_second u b state s t takes (stands b state s takes.is) dark
  where
    loses_second : (u b : ℕ) (state : LaneState) (s t : ChipState) → TakesSuspend Intel u b state s → (ErasesOn (OneBlock b) s × (s.held ≡ NotHeld)) ⊎ ((s.job ≡ Idle) × Free b s.held)
        → Darkens (after_cycle u (code 0xB0 Here) s) t → ChangesInSuspend b s t
    loses_second u b state s t takes (inl (on, held)) dark =
        let j = own_job u b Intel state s takes on held in
        let e = busy_1 u 0xB0 s (omega arith) takes.waits.set (ap runs on.job) ∙ j.is in
        dark_stands b s (record s { job = j.job }) t (stands_as b 0 s s.mode j.job (record s { job = j.job }) j.asked NoReads) (subst (λ (x : ChipState). Darkens x t) e dark)
    loses_second u b state s t takes (inr (idle, free)) dark =
        let e = idle_1 u s (waits_rests Intel s takes.waits idle) in
        let x = record s { mode = Array } in
        dark_stands b s x t (record { keeps = resting_in b Array s x (ap (λ (j : Job). record s { mode = Array; job = j }) idle); idle = λ p. ap (λ (j : Job). programs_at j p) idle }) (subst (λ (y : ChipState). Darkens y t) e dark)
loses_asking Intel u b state s t takes (inr (inr later)) = absurd later
loses_asking Amd u b state s t takes (inl dark) = dark_stands b s s t (stands_first Amd u b state s takes) dark
loses_asking Amd u b state s t takes (inr later) = absurd later

-- ---- the chip answers the polls

ends_at : (b : ℕ) (s : ChipState) (job : Job) (held : Held) (part : Part) (u : ℕ) → Asked b s job → EndsAt job held part u
ends_at b s Idle held part u (Nothing idle free) = tt
ends_at b s job held part u (Ends was none short few) = tt
ends_at b s job held part u (Stops was none long free more) = tt

answers_as : {W : Type 0} (bytes : W → List ℕ) (set : Set) (u c b : ℕ) (state : LaneState) (mode : Mode) (job : Job) (s : ChipState) → TakesSuspend set u b state s → Asked b s job → (set ≡ Intel → mode ≡ Status) → (set ≡ Amd → mode ≡ s.mode)
    → Answers bytes (erase_polling set) u c (record s { mode = mode; job = job })
answers_as bytes Intel u c b state mode job s takes now status same = record { set = takes.waits.set; mode = status refl }
answers_as bytes Amd u c b state mode job s takes now status same = record {
  set = takes.waits.set;
  fault = takes.names;
  mode = λ none. same refl ∙ takes.waits.mode refl;
  ends = ends_at b s job s.held s.part u now;
}

pub answers_by : {W : Type 0} (bytes : W → List ℕ) (how : Polling W) (set : Set) (u c b : ℕ) (state : LaneState) (s m : ChipState) → how ≡ erase_polling set → TakesSuspend set u b state s → IsAsked set b s m → Answers bytes how u c m
answers_by bytes how set u c b state s m is takes now =
    subst (λ (p : Polling _). Answers bytes p u c m) (sym is)
    (subst (λ (x : ChipState). Answers bytes (erase_polling set) u c x) (sym now.is) (answers_as bytes set u c b state now.mode now.job s takes now.asked now.status now.same))

-- ---- a lane that was read working so often is stuck

stuck_if : (stuck : Bool) (b k n : ℕ) (s : ChipState) (mode : Mode) (job : Job) (m : ChipState) → s.part.stuck ≡ stuck → s.part.pace_suspend ≤ 16 → 16 < n → Asked b s job → AfterReads (record s { mode = mode; job = job }) n m
    → 0 < reads_left m.job → s.part.stuck ≡ true
stuck_if true b k n s mode job m is pace many now reads some = is
stuck_if false b k n s mode Idle m is pace many (Nothing idle free) reads some =
    let none : reads_left m.job ≡ 0 = ap (λ (x : ChipState). reads_left x.job) (idle_after (record s { mode = mode; job = Idle }) n m refl reads) in absurd (omega (arith, none, some))
stuck_if false b k n s mode job m is pace many (Ends {left = left} was none short few) reads some =
    over left (few is) (erases_after (OneBlock b) left (record s { mode = mode; job = Erase (OneBlock b) left }) n m refl reads)
  where
    over : (left : ℕ) → left ≤ s.part.pace_suspend → Erases (OneBlock b) left n (record s { mode = mode; job = Erase (OneBlock b) left }) m → s.part.stuck ≡ true
    over left few (inl still) = let k : still.left + n ≡ left = still.count is in absurd (omega (arith, k, few, pace, many))
    over left few (inr ended) = let gone : reads_left m.job ≡ 0 = ap (λ (x : ChipState). reads_left x.job) ended.is in absurd (omega (arith, gone, some))
stuck_if false b k n s mode job m is pace many (Stops {left = left} was none long free more) reads some =
    over (left - s.part.pace_suspend) (stops_after b s.part.pace_suspend (left - s.part.pace_suspend) (record s { mode = mode; job = Pausing b s.part.pace_suspend (left - s.part.pace_suspend) }) n m free refl reads)
  where
    over : (rest : ℕ) → Stopping b s.part.pace_suspend rest n (record s { mode = mode; job = Pausing b s.part.pace_suspend rest }) m → s.part.stuck ≡ true
    over rest (inl still) = let k : still.now + n ≡ s.part.pace_suspend = still.count in absurd (omega (arith, k, pace, many))
    over rest (inr paused) = let gone : reads_left m.job ≡ 0 = ap (λ (x : ChipState). reads_left x.job) paused.is in absurd (omega (arith, gone, some))

stuck_as : (set : Set) (b n : ℕ) (s m r : ChipState) → s.part.pace_suspend ≤ 16 → 16 < n → IsAsked set b s m → AfterReads m n r → HasLeft r → s.part.stuck ≡ true
stuck_as set b n s m r pace many now reads (inl some) =
    stuck_if s.part.stuck b 0 n s now.mode now.job r refl pace many now.asked (subst (λ (x : ChipState). AfterReads x n r) now.is reads) some
stuck_as set b n s m r pace many now reads (inr on) =
    sym (ap (λ (x : Part). x.stuck) (part_after m n r reads ∙ ap (λ (x : ChipState). x.part) now.is)) ∙ on.1

pub stuck_by : (set : Set) (b n : ℕ) (s m : ChipState) → s.part.pace_suspend ≤ 16 → 16 < n → IsAsked set b s m → WorksAfter n m → s.part.stuck ≡ true
stuck_by set b n s m pace many now works = stuck_as set b n s m works.mid pace many now works.reads works.left

-- a lane that was read working ran
runs_idle : (b n : ℕ) (s : ChipState) (mode : Mode) (job : Job) (r : ChipState) → Asked b s job → s.job ≡ Idle → AfterReads (record s { mode = mode; job = job }) n r → HasLeft r → ⊥
runs_idle b n s mode Idle r (Nothing was free) idle reads left =
    let no : true ≡ false = sym (left_runs r left) ∙ ap (λ (x : ChipState). runs x.job) (idle_after (record s { mode = mode; job = Idle }) n r refl reads) in cc
runs_idle b n s mode job r (Ends was none short few) idle reads left = let no : true ≡ false = sym (ap runs was) ∙ ap runs idle in cc
runs_idle b n s mode job r (Stops was none long free more) idle reads left = let no : true ≡ false = sym (ap runs was) ∙ ap runs idle in cc

ran_at : (b n : ℕ) (state : LaneState) (s : ChipState) (mode : Mode) (job : Job) (r : ChipState) → LaneIs state (OneBlock b) s → Asked b s job → AfterReads (record s { mode = mode; job = job }) n r → HasLeft r → state ≡ Running
ran_at b n Running s mode job r is now reads left = refl
ran_at b n Suspended s mode job r is now reads left = absurd (runs_idle b n s mode job r now is.1 reads left)
ran_at b n Finished s mode job r is now reads left = absurd (runs_idle b n s mode job r now is.1.job reads left)
ran_at b n Broken s mode job r is now reads left = absurd (runs_idle b n s mode job r now is.1.job reads left)

pub ran_by : (set : Set) (u b n : ℕ) (state : LaneState) (s m : ChipState) → TakesSuspend set u b state s → IsAsked set b s m → WorksAfter n m → state ≡ Running
ran_by set u b n state s m takes now works =
    ran_at b n state s now.mode now.job works.mid takes.is now.asked (subst (λ (x : ChipState). AfterReads x n works.mid) now.is works.reads) works.left

-- how many reads the polls make
wait_own : (W : Type 0) (set : Set) → wait_most {W = W} (erase_polling {W = W} set) suspend_polls ≡ suspend_reads set
wait_own W Intel = refl
wait_own W Amd = refl

pub wait_by : {W : Type 0} (how : Polling W) (set : Set) → how ≡ erase_polling set → wait_most how suspend_polls ≡ suspend_reads set
wait_by {W = W} how set is = ap (λ (p : Polling W). wait_most p suspend_polls) is ∙ wait_own W set

pub record StuckFits (n r : ℕ) (set : Set) : Type 0 where
  pub all : r * n ≡ stuck_reads set
  pub many : 16 < r * n - r

fits_own : (W : Type 0) (set : Set) → StuckFits suspend_polls (working_reads {W = W} (erase_polling {W = W} set)) set
fits_own W Intel = record { all = refl; many = omega arith }
fits_own W Amd = record { all = refl; many = omega arith }

pub stuck_fits : {W : Type 0} (how : Polling W) (set : Set) → how ≡ erase_polling set → StuckFits suspend_polls (working_reads how) set
stuck_fits {W = W} how set is = subst (λ (p : Polling W). StuckFits suspend_polls (working_reads p) set) (sym is) (fits_own W set)
