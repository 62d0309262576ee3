-- A chip of either set that erases, read by read.
use Rattle.std.proofs.Common.{◌≡◌, ◌+◌, ◌<◌, ◌≤◌, ◌⊎◌, inl, inr, ℕ, zero, suc, refl, sym, subst, ap, arith, ◌∙◌, Bool, true, false, ◌||◌, List, length, slice_index, if◌then◌else◌}
use Rattle.std.proofs.lemmas.Bool.{cases_lt}
use Rattle.std.proofs.lemmas.Bool.Decides.{nat_tests}
use Rattle.nor_cell.specs.Chip.{ChipState, Part, Fault, NoFault, TimeFault, AbortFault, Job, Idle, Erase, Target, Held, NotHeld, is_held, runs, reads_left, is_within, span_end, covered, place, holds_at}
use Rattle.nor_cell.specs.Amd.{is_time}
use Rattle.nor_cell.specs.Look.{look, look_at, Works, Rests, flags_with, fault_with, Erased, is_weak}
use Rattle.nor_cell.specs.Power.{Cuts, is_erasing_at, erases_at, programs_at}
use Rattle.nor_cell.specs.declared.device.Span.{Span}
use Rattle.nor_cell.specs.declared.device.Set.{Set}
use Rattle.nor_cell.specs.declared.device.Set.TheVariants.{Intel, Amd}
use Rattle.nor_poll.specs.Erase.{ChangesWithinErase, next_state, erase_polling}
use Rattle.nor_poll.specs.Polled.{viewed}
use Rattle.nor_poll.specs.declared.polling.Polling.{Polling}
use Rattle.nor_poll.specs.declared.watch.Seen.{Seen}
use Rattle.nor_bus.specs.Driven.{Darkens}
use Rattle.nor_poll.specs.Reads.{AfterReads, NoReads, OneMore}
use Rattle.nor_poll.specs.Told.{IsLooked, seen, seen_fault, seen_idle, past_program}
use Rattle.nor_poll.specs.UnderErase.{IsErased, IsTorn, FlagsAfter, FaultAfter, ErasesNoMore, IsUntold, tells_broken, part_of, erase_left, held_left}
use Rattle.nor_poll.specs.declared.lanes.LaneState.TheVariants.{Running, Finished, Broken}
use Rattle.nor_cell.proofs.Between.{same_flags, same_fault}
use Rattle.nor_poll.proofs.Between.{neither, right_false}
use Rattle.nor_poll.proofs.Losing.{remains_then}
use Rattle.nor_poll.proofs.Looking.{works, stays, ends_erase, ends_erase_cells}
use Rattle.nor_poll.proofs.Programming.{toggling, looks}

-- ---- reads of a chip that runs nothing

pub idle_after : (s : ChipState) (n : ℕ) (t : ChipState) → s.job ≡ Idle → AfterReads s n t → t ≡ toggling t.toggle_6 t.toggle_2 (record s { job = Idle })
idle_after s n t idle NoReads = ap (λ (j : Job). record s { job = j }) idle
idle_after s n t idle (OneMore {m = m} before look_on) =
    let e = idle_after s _ m idle before in
    let rests : look m ≡ Rests = ap (look_at m.part.stuck) (ap (λ (x : ChipState). x.job) e) in
    stays m t rests look_on ∙ ap (λ (x : ChipState). record x { job = Idle; toggle_6 = t.toggle_6; toggle_2 = t.toggle_2 }) e

-- ---- reads of a chip that erases

-- the job of an erase that broke off
abbrev pub broke : Target → Bool → Job
broke target b = if b then Erase target 0 else Idle

-- the chip after its erase
abbrev pub erased : Bool → Target → List ℕ → ChipState → ChipState
erased b target cells s = record s {
  job = Idle;
  flags = flags_with s.part.set (broke target b) s.flags;
  fault = fault_with s.part.set (broke target b) s.fault;
  cells = cells;
}

abbrev pub breaks_off : Target → ChipState → Bool
breaks_off target s = is_weak s.part.weak (part_of target s)

-- After n reads the chip still erases.
pub record StillErases (target : Target) (reads n : ℕ) (s t : ChipState) : Type 0 where
  pub left : ℕ
  pub is : t ≡ toggling t.toggle_6 t.toggle_2 (record s { job = Erase target left })
  pub count : s.part.stuck ≡ false → left + n ≡ reads
  pub most : reads ≤ left + n
  pub down : left ≤ reads

-- Its erase has ended.
pub record HasErased (target : Target) (reads n : ℕ) (s t : ChipState) : Type 0 where
  pub cells : Erased s.part.weak (part_of target s) s.cells t.cells
  pub is : t ≡ toggling t.toggle_6 t.toggle_2 (erased (breaks_off target s) target t.cells s)
  pub over : reads < n

abbrev pub Erases : Target → ℕ → ℕ → ChipState → ChipState → Type 0
Erases target reads n s t = StillErases target reads n s t ⊎ HasErased target reads n s t

goes_on : (target : Target) (k left : ℕ) (s m t : ChipState) → m ≡ toggling m.toggle_6 m.toggle_2 (record s { job = Erase target k }) → look m ≡ Works (Erase target left) → IsLooked m t
    → t ≡ toggling t.toggle_6 t.toggle_2 (record s { job = Erase target left })
goes_on target k left s m t is e h = works m t (Erase target left) e h ∙ ap (λ (x : ChipState). record x { job = Erase target left; toggle_6 = t.toggle_6; toggle_2 = t.toggle_2 }) is

going : (stuck : Bool) (target : Target) (reads n left : ℕ) (s m t : ChipState) → m.part.stuck ≡ stuck → s.part.stuck ≡ stuck → (stuck ≡ false → left + n ≡ reads) → reads ≤ left + n → left ≤ reads
    → m ≡ toggling m.toggle_6 m.toggle_2 (record s { job = Erase target left }) → IsLooked m t → Erases target reads (suc n) s t
going true target reads n left s m t is same count most down e h =
    let l = looks m true (Erase target left) is (ap (λ (x : ChipState). x.job) e) in
    inl (record { left = left; is = goes_on target left left s m t e l h; count = λ free. let no : true ≡ false = sym same ∙ free in absurd cc; most = omega arith; down = down })
going false target reads n zero s m t is same count most down e h =
    let l = looks m false (Erase target zero) is (ap (λ (x : ChipState). x.job) e) in
    inr (record {
      cells = subst (λ (x : ChipState). Erased x.part.weak (part_of target x) x.cells t.cells) e (ends_erase_cells m t target l h);
      is = ends_erase m t target l h ∙ ap (λ (x : ChipState). toggling t.toggle_6 t.toggle_2 (erased (breaks_off target x) target t.cells x)) e;
      over = let k : zero + n ≡ reads = count refl in omega (arith, k);
    })
going false target reads n (suc left) s m t is same count most down e h =
    let l = looks m false (Erase target (suc left)) is (ap (λ (x : ChipState). x.job) e) in
    inl (record {
      left = left;
      is = goes_on target (suc left) left s m t e l h;
      count = λ free. let k : suc left + n ≡ reads = count refl in omega arith;
      most = omega arith;
      down = omega (arith, down);
    })

-- one read more
erases_more : (target : Target) (reads n : ℕ) (s m t : ChipState) → Erases target reads n s m → IsLooked m t → Erases target reads (suc n) s t
erases_more target reads n s m t (inl still) h =
    let stuck : m.part.stuck ≡ s.part.stuck = ap (λ (x : ChipState). x.part.stuck) still.is in
    going s.part.stuck target reads n still.left s m t stuck refl still.count still.most still.down still.is h
erases_more target reads n s m t (inr ended) h =
    let rests : look m ≡ Rests = ap (look_at m.part.stuck) (ap (λ (x : ChipState). x.job) ended.is) in
    let e = stays m t rests h in
    let cells : m.cells ≡ t.cells = sym (ap (λ (x : ChipState). x.cells) e) in
    let over = ended.over in
    inr (record {
      cells = subst (λ (x : List ℕ). Erased s.part.weak (part_of target s) s.cells x) cells ended.cells;
      is = e ∙ (ap (λ (x : ChipState). record x { job = Idle; toggle_6 = t.toggle_6; toggle_2 = t.toggle_2 }) ended.is
          ∙ ap (λ (x : List ℕ). toggling t.toggle_6 t.toggle_2 (erased (breaks_off target s) target x s)) cells);
      over = omega (arith, over);
    })

-- any number of reads
pub erases_after : (target : Target) (reads : ℕ) (s : ChipState) (n : ℕ) (t : ChipState) → s.job ≡ Erase target reads → AfterReads s n t → Erases target reads n s t
erases_after target reads s n t job NoReads = inl (record { left = reads; is = ap (λ (j : Job). record s { job = j }) job; count = λ free. omega arith; most = omega arith; down = omega arith })
erases_after target reads s n t job (OneMore {n = k} {m = m} before look_on) = erases_more target reads k s m t (erases_after target reads s k m job before) look_on

-- ---- how an erase ends

inside_of : (span : Span) (p : ℕ) → is_within span p ≡ true → (span.from ≤ p) × (p < span_end span)
inside_of span p h = grind (arith, nat_tests)

-- it ended well, or broke off at a weak place, and tells which
outcome_by : (set : Set) (b : Bool) (target : Target) (s t : ChipState) → s.part.set ≡ set → breaks_off target s ≡ b → IsUntold set s → Erased s.part.weak (part_of target s) s.cells t.cells
    → t ≡ toggling t.toggle_6 t.toggle_2 (erased b target t.cells s)
    → (IsErased target t × (tells_broken set t ≡ false)) ⊎ (IsTorn target t × (tells_broken set t ≡ true))
outcome_by Intel true target s t set weak untold cells is =
    inr (ap (λ (x : ChipState). breaks_off target x) is ∙ weak, ap (λ (x : ChipState). x.flags.erase) is ∙ ap (λ (k : Set). (flags_with k (broke target true) s.flags).erase) set)
outcome_by Amd true target s t set weak untold cells is =
    inr (ap (λ (x : ChipState). breaks_off target x) is ∙ weak, ap (λ (x : ChipState). is_time x.fault) is ∙ ap (λ (k : Set). is_time (fault_with k (broke target true) s.fault)) set)
outcome_by Intel false target s t set weak untold cells is =
    inl (
      record { ones = λ p within. let w = inside_of (part_of target s) p (sym (ap (λ (x : ChipState). is_within (part_of target x) p) is) ∙ within) in (cells.inside p w.0 w.1).1 weak; sound = ap (λ (x : ChipState). breaks_off target x) is ∙ weak },
      ap (λ (x : ChipState). x.flags.erase) is ∙ (ap (λ (k : Set). (flags_with k (broke target false) s.flags).erase) set ∙ untold),
    )
outcome_by Amd false target s t set weak untold cells is =
    inl (
      record { ones = λ p within. let w = inside_of (part_of target s) p (sym (ap (λ (x : ChipState). is_within (part_of target x) p) is) ∙ within) in (cells.inside p w.0 w.1).1 weak; sound = ap (λ (x : ChipState). breaks_off target x) is ∙ weak },
      ap (λ (x : ChipState). is_time x.fault) is ∙ (ap (λ (k : Set). is_time (fault_with k (broke target false) s.fault)) set ∙ ap is_time untold),
    )

pub outcome : (set : Set) (target : Target) (reads n : ℕ) (s t : ChipState) → s.part.set ≡ set → IsUntold set s → HasErased target reads n s t
    → (IsErased target t × (tells_broken set t ≡ false)) ⊎ (IsTorn target t × (tells_broken set t ≡ true))
outcome set target reads n s t is untold ended = outcome_by set (breaks_off target s) target s t is refl untold ended.cells ended.is

-- what a poll in an erase is to tell of a chip that runs no job
abbrev pub seen_erase : Set → ℕ → ChipState → Seen
seen_erase Intel u s = seen_idle Intel u (past_program s)
seen_erase Amd u s = seen_idle Amd u s

-- a lane that ran, and holds no erase, is broken where its chip tells so, and else finished
next_flags : (e p l : Bool) → next_state Running (seen false false (record { erase = e; program = p; locked = l })) ≡ (if e then Broken else Finished)
next_flags true p l = refl
next_flags false true l = refl
next_flags false false l = refl

next_fault : (fault : Fault) → next_state Running (seen_fault fault false) ≡ (if is_time fault then Broken else Finished)
next_fault NoFault = refl
next_fault (TimeFault job) = refl
next_fault AbortFault = refl

pub next_idle : (set : Set) (u : ℕ) (t : ChipState) → t.held ≡ NotHeld → next_state Running (seen_erase set u t) ≡ (if tells_broken set t then Broken else Finished)
next_idle Intel u t free = ap (λ (h : Held). next_state Running (seen false (is_held h) (record { erase = t.flags.erase; program = false; locked = t.flags.locked }))) free ∙ next_flags t.flags.erase false t.flags.locked
next_idle Amd u t free = ap (λ (h : Held). next_state Running (seen_fault t.fault (holds_at h t.part.blocks (place t.part u)))) free ∙ next_fault t.fault

-- what a poll in an erase sees
abbrev pub SeesErase : ℕ → ChipState → ChipState → Type 0
SeesErase u x t = (x.job ≡ t.job) × (seen_idle x.part.set u x ≡ seen_erase t.part.set u t)

sees_own : (W : Type 0) (set : Set) (u : ℕ) (t : ChipState) → t.part.set ≡ set → SeesErase u (viewed {W = W} (erase_polling {W = W} set) t) t
sees_own W Intel u t set = (refl, ap (λ (k : Set). seen_idle k u (past_program t)) set ∙ sym (ap (λ (k : Set). seen_erase k u t) set))
sees_own W Amd u t set = (refl, ap (λ (k : Set). seen_idle k u t) set ∙ sym (ap (λ (k : Set). seen_erase k u t) set))

pub sees_erase : {W : Type 0} (how : Polling W) (set : Set) (u : ℕ) (t : ChipState) → how ≡ erase_polling set → t.part.set ≡ set → SeesErase u (viewed how t) t
sees_erase {W = W} how set u t is set_is = subst (λ (p : Polling W). SeesErase u (viewed p t) t) (sym is) (sees_own W set u t set_is)

-- ---- what a read, or a loss of power, leaves

left_false : (a b : Bool) → (a || b) ≡ false → a ≡ false
left_false true b h = cc
left_false false b h = refl

-- a place outside what a chip erases
pub out_erasing : (target : Target) (left p : ℕ) (s : ChipState) → s.job ≡ Erase target left → is_erasing_at s p ≡ false → is_within (part_of target s) p ≡ false
out_erasing target left p s job out =
    sym (ap (λ (j : Job). erases_at j s.part.blocks p) job) ∙ left_false (erases_at s.job s.part.blocks p) (holds_at s.held s.part.blocks p) out

pub area_same : (s t : ChipState) → t.part ≡ s.part → t.job ≡ s.job → t.held ≡ s.held → ErasesNoMore s t
area_same s t part job held = λ p out.
    ap (λ (x : Part). erases_at t.job x.blocks p || holds_at t.held x.blocks p) part
    ∙ (ap (λ (j : Job). erases_at j s.part.blocks p || holds_at t.held s.part.blocks p) job
    ∙ (ap (λ (h : Held). erases_at s.job s.part.blocks p || holds_at h s.part.blocks p) held ∙ out))

pub area_idle : (s t : ChipState) → t.part ≡ s.part → t.job ≡ Idle → t.held ≡ s.held → ErasesNoMore s t
area_idle s t part job held = λ p out.
    neither (erases_at t.job t.part.blocks p) (holds_at t.held t.part.blocks p) (ap (λ (j : Job). erases_at j t.part.blocks p) job)
    (ap (λ (h : Held). holds_at h t.part.blocks p) held
    ∙ (ap (λ (x : Part). holds_at s.held x.blocks p) part ∙ right_false (erases_at s.job s.part.blocks p) (holds_at s.held s.part.blocks p) out))

area_erasing : (target : Target) (before after : ℕ) (s t : ChipState) → s.job ≡ Erase target before → t.part ≡ s.part → t.job ≡ Erase target after → t.held ≡ s.held → ErasesNoMore s t
area_erasing target before after s t was part job held = λ p out.
    neither (erases_at t.job t.part.blocks p) (holds_at t.held t.part.blocks p)
    (ap (λ (j : Job). erases_at j t.part.blocks p) job ∙ (ap (λ (x : Part). is_within (covered target x.blocks) p) part ∙ out_erasing target before p s was out))
    (ap (λ (h : Held). holds_at h t.part.blocks p) held
    ∙ (ap (λ (x : Part). holds_at s.held x.blocks p) part ∙ right_false (erases_at s.job s.part.blocks p) (holds_at s.held s.part.blocks p) out))

pub area_then : (s m t : ChipState) → ErasesNoMore s m → ErasesNoMore m t → ErasesNoMore s t
area_then s m t h k = λ p out. k p (h p out)

left_by : (j k : Job) (held now : Held) → reads_left k ≤ reads_left j → now ≡ held → reads_left k + held_left now ≤ reads_left j + held_left held
left_by j k held now le same = rw same (omega (arith, le))

pub within_same : (target : Target) (s t : ChipState) → t.part ≡ s.part → t.locks ≡ s.locks → t.held ≡ s.held → t.suspends ≡ s.suspends → t.erases ≡ s.erases → t.cells ≡ s.cells → t.flags ≡ s.flags
    → t.fault ≡ s.fault → ErasesNoMore s t → reads_left t.job ≤ reads_left s.job → ChangesWithinErase target s t
within_same target s t part locks held suspends erases cells flags fault area most = record {
  remains = record { part = part; size = ap length cells; locks = locks; erases = erases };
  held = held;
  suspends = suspends;
  outside = λ p out. ap (λ (l : List ℕ). slice_index l p) cells;
  area = area;
  flags = inl flags;
  fault = inl fault;
  most = left_by s.job t.job s.held t.held most held;
}

outside_of : (span : Span) (p : ℕ) → is_within span p ≡ false → (p < span.from) ⊎ (span_end span ≤ p)
outside_of span p h = outside_by span p h (cases_lt p span.from)
  where
    outside_by : (span : Span) (p : ℕ) → is_within span p ≡ false → (p < span.from) ⊎ (span.from ≤ p) → (p < span.from) ⊎ (span_end span ≤ p)
    outside_by span p h (inl low) = inl low
    outside_by span p h (inr high) = inr (grind (arith, nat_tests))

kept_by : (span : Span) (old new : List ℕ) (weak : List ℕ) (p : ℕ) → Erased weak span old new → (p < span.from) ⊎ (span_end span ≤ p) → slice_index new p ≡ slice_index old p
kept_by span old new weak p h (inl low) = h.below p low
kept_by span old new weak p h (inr high) = h.above p high

left_still : (j k : Job) (target : Target) (reads left : ℕ) → j ≡ Erase target reads → k ≡ Erase target left → left ≤ reads → reads_left k ≤ reads_left j
left_still j k target reads left was is down = rw (was, is) down

left_idle : (j k : Job) → k ≡ Idle → reads_left k ≤ reads_left j
left_idle j k is = rw is (omega arith)

pub within_still : (target : Target) (reads n : ℕ) (s t : ChipState) → s.job ≡ Erase target reads → StillErases target reads n s t → ChangesWithinErase target s t
within_still target reads n s t was h =
    let e = h.is in
    let part = ap (λ (x : ChipState). x.part) e in
    let job = ap (λ (x : ChipState). x.job) e in
    let held = ap (λ (x : ChipState). x.held) e in
    within_same target s t part (ap (λ (x : ChipState). x.locks) e) held (ap (λ (x : ChipState). x.suspends) e)
    (ap (λ (x : ChipState). x.erases) e) (ap (λ (x : ChipState). x.cells) e) (ap (λ (x : ChipState). x.flags) e) (ap (λ (x : ChipState). x.fault) e)
    (area_erasing target reads h.left s t was part job held) (left_still s.job t.job target reads h.left was job h.down)

-- an erase that ends well sets no error
flags_ended : (b : Bool) (target : Target) (s t : ChipState) → breaks_off target s ≡ b → runs s.job ≡ true → t.flags ≡ flags_with s.part.set (broke target b) s.flags → FlagsAfter target s t
flags_ended true target s t weak ran e = inr ((ran, weak), e)
flags_ended false target s t weak ran e = inl (e ∙ same_flags s.part.set s.flags)

fault_ended : (b : Bool) (target : Target) (s t : ChipState) → breaks_off target s ≡ b → runs s.job ≡ true → t.fault ≡ fault_with s.part.set (broke target b) s.fault → FaultAfter target s t
fault_ended true target s t weak ran e = inr ((ran, weak), e)
fault_ended false target s t weak ran e = inl (e ∙ same_fault s.part.set s.fault)

pub within_ended : (target : Target) (reads n : ℕ) (s t : ChipState) → s.job ≡ Erase target reads → HasErased target reads n s t → ChangesWithinErase target s t
within_ended target reads n s t was h =
    let e = h.is in
    let part = ap (λ (x : ChipState). x.part) e in
    let job = ap (λ (x : ChipState). x.job) e in
    let held = ap (λ (x : ChipState). x.held) e in
    record {
      remains = record { part = part; size = h.cells.size; locks = ap (λ (x : ChipState). x.locks) e; erases = ap (λ (x : ChipState). x.erases) e };
      held = held;
      suspends = ap (λ (x : ChipState). x.suspends) e;
      outside = λ p out. kept_by (part_of target s) s.cells t.cells s.part.weak p h.cells (outside_of (part_of target s) p (out_erasing target reads p s was out));
      area = area_idle s t part job held;
      flags = flags_ended (breaks_off target s) target s t refl (ap runs was) (ap (λ (x : ChipState). x.flags) e);
      fault = fault_ended (breaks_off target s) target s t refl (ap runs was) (ap (λ (x : ChipState). x.fault) e);
      most = left_by s.job t.job s.held t.held (left_idle s.job t.job job) held;
    }

pub within_idle : (target : Target) (s t : ChipState) → t ≡ toggling t.toggle_6 t.toggle_2 (record s { job = Idle }) → ChangesWithinErase target s t
within_idle target s t e =
    let part = ap (λ (x : ChipState). x.part) e in
    let job = ap (λ (x : ChipState). x.job) e in
    let held = ap (λ (x : ChipState). x.held) e in
    within_same target s t part (ap (λ (x : ChipState). x.locks) e) held (ap (λ (x : ChipState). x.suspends) e)
    (ap (λ (x : ChipState). x.erases) e) (ap (λ (x : ChipState). x.cells) e) (ap (λ (x : ChipState). x.flags) e) (ap (λ (x : ChipState). x.fault) e)
    (area_idle s t part job held) (left_idle s.job t.job job)

pub within_none : (target : Target) (s : ChipState) → ChangesWithinErase target s s
within_none target s = within_same target s s refl refl refl refl refl refl refl refl (λ p out. out) (omega arith)

pub flags_still : (target : Target) (s m t : ChipState) → t.flags ≡ m.flags → FlagsAfter target s m → FlagsAfter target s t
flags_still target s m t e (inl h) = inl (e ∙ h)
flags_still target s m t e (inr h) = inr (h.0, e ∙ h.1)

pub fault_still : (target : Target) (s m t : ChipState) → t.fault ≡ m.fault → FaultAfter target s m → FaultAfter target s t
fault_still target s m t e (inl h) = inl (e ∙ h)
fault_still target s m t e (inr h) = inr (h.0, e ∙ h.1)

pub left_cut : (m t : ChipState) → t ≡ record m { cells = t.cells } → erase_left t ≡ erase_left m
left_cut m t e = ap erase_left e

pub left_dark : (m t : ChipState) → Darkens m t → erase_left t ≡ erase_left m
left_dark m t (inl same) = ap erase_left same
left_dark m t (inr cut) = left_cut m t cut.rest

-- then power went, while nothing was programmed
cut_within : (target : Target) (s m t : ChipState) → ChangesWithinErase target s m → ((p : ℕ) → programs_at m.job p ≡ false) → Cuts m t → ChangesWithinErase target s t
cut_within target s m t h idle cut =
    let e = cut.rest in
    let part = ap (λ (x : ChipState). x.part) e in
    record {
      remains = remains_then s m t h.remains (record { part = part; size = cut.size; locks = ap (λ (x : ChipState). x.locks) e; erases = ap (λ (x : ChipState). x.erases) e });
      held = ap (λ (x : ChipState). x.held) e ∙ h.held;
      suspends = ap (λ (x : ChipState). x.suspends) e ∙ h.suspends;
      outside = λ p out. cut.kept p (h.area p out) (idle p) ∙ h.outside p out;
      area = area_then s m t h.area (area_same m t part (ap (λ (x : ChipState). x.job) e) (ap (λ (x : ChipState). x.held) e));
      flags = flags_still target s m t (ap (λ (x : ChipState). x.flags) e) h.flags;
      fault = fault_still target s m t (ap (λ (x : ChipState). x.fault) e) h.fault;
      most = subst (λ (n : ℕ). n ≤ erase_left s) (sym (left_cut m t e)) h.most;
    }

pub dark_within : (target : Target) (s m t : ChipState) → ChangesWithinErase target s m → ((p : ℕ) → programs_at m.job p ≡ false) → Darkens m t → ChangesWithinErase target s t
dark_within target s m t h idle (inl same) = subst (ChangesWithinErase target s) (sym same) h
dark_within target s m t h idle (inr cut) = cut_within target s m t h idle cut
