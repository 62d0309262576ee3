-- A chip of either set that programs, read by read.
use Rattle.std.proofs.Common.{◌≡◌, ◌+◌, ◌<◌, ◌⊎◌, inl, inr, ℕ, zero, suc, refl, sym, subst, ap, arith, ◌∙◌, Bool, true, false, List, [], length, slice_index, if◌then◌else◌}
use Rattle.nor_cell.specs.Bits.{unit_len}
use Rattle.nor_cell.specs.Chip.{ChipState, Flags, Fault, NoFault, Array, Status, Rest, Job, Idle, Program, runs, is_held, reads_left, place, holds_at}
use Rattle.nor_cell.specs.Look.{look, look_at, Works, EndsProgram, Rests, broken_of, flags_with, fault_with, Programmed}
use Rattle.nor_cell.specs.Power.{Cuts, is_erasing_at, erases_at}
use Rattle.nor_cell.specs.declared.device.Set.{Set}
use Rattle.nor_cell.specs.declared.device.Set.TheVariants.{Intel, Amd}
use Rattle.nor_bus.specs.Driven.{Darkens}
use Rattle.nor_poll.specs.Losing.{IsUnmoved, Tears, Loses}
use Rattle.nor_poll.specs.Reads.{AfterReads, NoReads, OneMore}
use Rattle.nor_poll.specs.Rest.{cleared_flags}
use Rattle.nor_cell.specs.Between.{can_reset, no_flags, TakesCommands}
use Rattle.nor_poll.specs.Told.{IsLooked, HasLeft, seen, seen_fault, seen_idle}
use Rattle.nor_poll.specs.Word.{programming, work_mode, is_broken}
use Rattle.nor_poll.specs.Words.{breaks, Stores}
use Rattle.nor_poll.specs.declared.watch.Seen.{Seen}
use Rattle.nor_poll.proofs.Between.{right_false, not_below, not_above, is_inside}
use Rattle.nor_poll.proofs.Looking.{works, stays, ends_program, ends_program_cells}
use Rattle.nor_poll.proofs.Losing.{remains_then, torn_none, torn_stored, left_torn}

-- ---- the mode of a set at work

pub work_array : (set : Set) → set ≡ Amd → work_mode set ≡ Array
work_array Intel e = cc
work_array Amd e = refl

pub work_resets : (set : Set) (fault : Fault) → fault ≡ NoFault → can_reset set (work_mode set) fault ≡ true
work_resets Intel fault none = ap (can_reset Intel Status) none
work_resets Amd fault none = ap (can_reset Amd Array) none

-- ---- reads

-- the job of a program that broke off
abbrev pub break_job : Bool → ℕ → List ℕ → Job
break_job broken p bytes = if broken then Program p bytes 0 else Idle

-- the chip after its program
abbrev pub stored : Set → Bool → ℕ → List ℕ → List ℕ → ChipState → ChipState
stored kind broken p bytes cells s = record s {
  mode = work_mode kind;
  step = Rest;
  job = Idle;
  flags = flags_with kind (break_job broken p bytes) (cleared_flags kind s.flags);
  fault = fault_with kind (break_job broken p bytes) s.fault;
  cells = cells;
}

-- a chip with these toggle bits
abbrev pub toggling : Bool → Bool → ChipState → ChipState
toggling toggle_6 toggle_2 s = record s { toggle_6 = toggle_6; toggle_2 = toggle_2 }

-- a chip of set 0001 has none
abbrev pub KeepsToggles : Set → ChipState → ChipState → Type 0
KeepsToggles kind s t = kind ≡ Intel → (t.toggle_6 ≡ s.toggle_6) × (t.toggle_2 ≡ s.toggle_2)

-- After n reads the chip still programs: it had more reads left, or is stuck.
pub record StillPrograms (kind : Set) (p : ℕ) (bytes : List ℕ) (reads n : ℕ) (s t : ChipState) : Type 0 where
  pub left : ℕ
  pub is : t ≡ toggling t.toggle_6 t.toggle_2 (programming kind p bytes left s)
  pub count : s.part.stuck ≡ false → left + n ≡ reads
  pub still : KeepsToggles kind s t

-- Its program has ended.
pub record HasStored (kind : Set) (p : ℕ) (bytes : List ℕ) (s t : ChipState) : Type 0 where
  pub cells : Stores p bytes s t.cells
  pub is : t ≡ toggling t.toggle_6 t.toggle_2 (stored kind (breaks p bytes s) p bytes t.cells s)
  pub still : KeepsToggles kind s t

abbrev pub Programs : Set → ℕ → List ℕ → ℕ → ℕ → ChipState → ChipState → Type 0
Programs kind p bytes reads n s t = StillPrograms kind p bytes reads n s t ⊎ HasStored kind p bytes s t

keeps_then : (kind : Set) (s m t : ChipState) → m.part.set ≡ kind → KeepsToggles kind s m → IsLooked m t → KeepsToggles kind s t
keeps_then kind s m t set keeps h intel =
    let one = keeps intel in let two = h.still (set ∙ intel) in (two.0 ∙ one.0, two.1 ∙ one.1)

-- what a read of a chip that programs leaves
goes_on : (kind : Set) (p : ℕ) (bytes : List ℕ) (k left : ℕ) (s m t : ChipState) → m ≡ toggling m.toggle_6 m.toggle_2 (programming kind p bytes k s) → look m ≡ Works (Program p bytes left) → IsLooked m t
    → t ≡ toggling t.toggle_6 t.toggle_2 (programming kind p bytes left s)
goes_on kind p bytes k left s m t is e h =
    works m t (Program p bytes left) e h ∙ ap (λ (x : ChipState). record x { job = Program p bytes left; toggle_6 = t.toggle_6; toggle_2 = t.toggle_2 }) is

abbrev ended : ℕ → List ℕ → ChipState → ChipState → ChipState
ended p bytes t x = record x {
  job = Idle;
  flags = flags_with x.part.set (broken_of x (EndsProgram p bytes)) x.flags;
  fault = fault_with x.part.set (broken_of x (EndsProgram p bytes)) x.fault;
  cells = t.cells;
  toggle_6 = t.toggle_6;
  toggle_2 = t.toggle_2;
}

abbrev stored_by : Set → Set → Bool → ℕ → List ℕ → List ℕ → ChipState → ChipState
stored_by set kind broken p bytes cells s = record (stored kind broken p bytes cells s) {
  flags = flags_with set (break_job broken p bytes) (cleared_flags kind s.flags);
  fault = fault_with set (break_job broken p bytes) s.fault;
}

ends_now : (kind : Set) (p : ℕ) (bytes : List ℕ) (s m t : ChipState) → s.part.set ≡ kind → m ≡ toggling m.toggle_6 m.toggle_2 (programming kind p bytes 0 s) → look m ≡ EndsProgram p bytes → IsLooked m t
    → t ≡ toggling t.toggle_6 t.toggle_2 (stored kind (breaks p bytes s) p bytes t.cells s)
ends_now kind p bytes s m t set is e h =
    ends_program m t p bytes e h ∙ (ap (ended p bytes t) is ∙ ap (λ (k : Set). toggling t.toggle_6 t.toggle_2 (stored_by k kind (breaks p bytes s) p bytes t.cells s)) set)

pub looks : (m : ChipState) (stuck : Bool) (job : Job) → m.part.stuck ≡ stuck → m.job ≡ job → look m ≡ look_at stuck job
looks m stuck job is e = ap (look_at m.part.stuck) e ∙ ap (λ (b : Bool). look_at b job) is

going : (stuck : Bool) (kind : Set) (p : ℕ) (bytes : List ℕ) (reads n left : ℕ) (s m t : ChipState) → s.part.set ≡ kind → m.part.stuck ≡ stuck → (stuck ≡ false → left + n ≡ reads)
    → s.part.stuck ≡ stuck → m ≡ toggling m.toggle_6 m.toggle_2 (programming kind p bytes left s) → KeepsToggles kind s t → IsLooked m t → Programs kind p bytes reads (suc n) s t
going true kind p bytes reads n left s m t set is count same e keeps h =
    let l = looks m true (Program p bytes left) is (ap (λ (x : ChipState). x.job) e) in
    inl (record { left = left; is = goes_on kind p bytes left left s m t e l h; count = λ free. let no : true ≡ false = sym same ∙ free in absurd cc; still = keeps })
going false kind p bytes reads n zero s m t set is count same e keeps h =
    let l = looks m false (Program p bytes zero) is (ap (λ (x : ChipState). x.job) e) in
    inr (record {
      cells = subst (λ (x : ChipState). Programmed (unit_len x.part.device) x.part.weak p bytes x.cells t.cells) e (ends_program_cells m t p bytes l h);
      is = ends_now kind p bytes s m t set e l h;
      still = keeps;
    })
going false kind p bytes reads n (suc left) s m t set is count same e keeps h =
    let l = looks m false (Program p bytes (suc left)) is (ap (λ (x : ChipState). x.job) e) in
    inl (record {
      left = left;
      is = goes_on kind p bytes (suc left) left s m t e l h;
      count = λ free. let k : suc left + n ≡ reads = count refl in omega arith;
      still = keeps;
    })

-- one read more
programs_more : (kind : Set) (p : ℕ) (bytes : List ℕ) (reads n : ℕ) (s m t : ChipState) → s.part.set ≡ kind → Programs kind p bytes reads n s m → IsLooked m t → Programs kind p bytes reads (suc n) s t
programs_more kind p bytes reads n s m t set (inl still) h =
    let stuck : m.part.stuck ≡ s.part.stuck = ap (λ (x : ChipState). x.part.stuck) still.is in
    let mine : m.part.set ≡ kind = ap (λ (x : ChipState). x.part.set) still.is ∙ set in
    going s.part.stuck kind p bytes reads n still.left s m t set stuck still.count refl still.is (keeps_then kind s m t mine still.still h) h
programs_more kind p bytes reads n s m t set (inr ended) h =
    let rests : look m ≡ Rests = ap (look_at m.part.stuck) (ap (λ (x : ChipState). x.job) ended.is) in
    let e = stays m t rests h in
    let cells : m.cells ≡ t.cells = sym (ap (λ (x : ChipState). x.cells) e) in
    let mine : m.part.set ≡ kind = ap (λ (x : ChipState). x.part.set) ended.is ∙ set in
    inr (record {
      cells = subst (λ (x : List ℕ). Stores p bytes s x) cells ended.cells;
      is = e ∙ (ap (λ (x : ChipState). record x { job = Idle; toggle_6 = t.toggle_6; toggle_2 = t.toggle_2 }) ended.is ∙ ap (λ (x : List ℕ). toggling t.toggle_6 t.toggle_2 (stored kind (breaks p bytes s) p bytes x s)) cells);
      still = keeps_then kind s m t mine ended.still h;
    })

-- any number of reads
pub programs_after : (kind : Set) (p : ℕ) (bytes : List ℕ) (reads : ℕ) (s : ChipState) (n : ℕ) (t : ChipState) → s.part.set ≡ kind → AfterReads (programming kind p bytes reads s) n t
    → Programs kind p bytes reads n s t
programs_after kind p bytes reads s n t set NoReads = inl (record { left = reads; is = refl; count = λ free. omega arith; still = λ intel. (refl, refl) })
programs_after kind p bytes reads s n t set (OneMore {n = k} {m = m} before look) = programs_more kind p bytes reads k s m t set (programs_after kind p bytes reads s k m set before) look

still_runs : (job : Job) (p : ℕ) (bytes : List ℕ) (left : ℕ) → job ≡ Program p bytes left → job ≡ Idle → ⊥
still_runs job p bytes left is idle = let no : runs (Program p bytes left) ≡ false = ap runs (sym is ∙ idle) in cc

-- a chip that runs no job has ended its program
pub stored_idle : (kind : Set) (p : ℕ) (bytes : List ℕ) (reads n : ℕ) (s t : ChipState) → Programs kind p bytes reads n s t → t.job ≡ Idle → HasStored kind p bytes s t
stored_idle kind p bytes reads n s t (inr ended) idle = ended
stored_idle kind p bytes reads n s t (inl still) idle = absurd (still_runs t.job p bytes still.left (ap (λ (x : ChipState). x.job) still.is) idle)

-- ---- a chip that has reads left

left_now : (left n reads : ℕ) (job : Job) (p : ℕ) (bytes : List ℕ) (stuck own : Bool) → job ≡ Program p bytes left → own ≡ stuck → (stuck ≡ false → left + n ≡ reads) → stuck ≡ false
    → (0 < reads_left job) ⊎ ((runs job ≡ true) × (own ≡ true)) → n < reads
left_now left n reads job p bytes stuck own is same count free (inl some) =
    let l : reads_left job ≡ left = ap reads_left is in let e : left + n ≡ reads = count free in omega (arith, some, l, e)
left_now left n reads job p bytes stuck own is same count free (inr on) = let no : true ≡ false = sym on.1 ∙ (same ∙ free) in absurd cc

none_left : (job : Job) (stuck own : Bool) → job ≡ Idle → own ≡ stuck → stuck ≡ false → (0 < reads_left job) ⊎ ((runs job ≡ true) × (own ≡ true)) → ⊥
none_left job stuck own idle same free (inl some) = let l : reads_left job ≡ 0 = ap reads_left idle in omega (arith, some, l)
none_left job stuck own idle same free (inr on) = let no : true ≡ false = sym on.1 ∙ (same ∙ free) in cc

-- it was read fewer times than a program shows working
pub works_still : (kind : Set) (p : ℕ) (bytes : List ℕ) (reads n : ℕ) (s t : ChipState) → Programs kind p bytes reads n s t → s.part.stuck ≡ false → HasLeft t → n < reads
works_still kind p bytes reads n s t (inl still) free left =
    left_now still.left n reads t.job p bytes s.part.stuck t.part.stuck (ap (λ (x : ChipState). x.job) still.is) (ap (λ (x : ChipState). x.part.stuck) still.is) still.count free left
works_still kind p bytes reads n s t (inr ended) free left =
    absurd (none_left t.job s.part.stuck t.part.stuck (ap (λ (x : ChipState). x.job) ended.is) (ap (λ (x : ChipState). x.part.stuck) ended.is) free left)

-- ---- what is told of a program that ended

told_flags : (broken held : Bool) (p : ℕ) (bytes : List ℕ) → is_broken (seen false held (flags_with Intel (break_job broken p bytes) no_flags)) ≡ broken
told_flags true true p bytes = refl
told_flags true false p bytes = refl
told_flags false true p bytes = refl
told_flags false false p bytes = refl

told_fault : (broken here : Bool) (p : ℕ) (bytes : List ℕ) → is_broken (seen_fault (fault_with Amd (break_job broken p bytes) NoFault) here) ≡ broken
told_fault true here p bytes = refl
told_fault false true p bytes = refl
told_fault false false p bytes = refl

told_stored : (kind : Set) (u p : ℕ) (bytes : List ℕ) (broken : Bool) (cells : List ℕ) (toggle_6 toggle_2 : Bool) (s : ChipState) → TakesCommands kind s
    → is_broken (seen_idle kind u (toggling toggle_6 toggle_2 (stored kind broken p bytes cells s))) ≡ broken
told_stored Intel u p bytes broken cells toggle_6 toggle_2 s takes = told_flags broken (is_held s.held) p bytes
told_stored Amd u p bytes broken cells toggle_6 toggle_2 s takes =
    ap (λ (f : Fault). is_broken (seen_fault (fault_with Amd (break_job broken p bytes) f) (holds_at s.held s.part.blocks (place s.part u)))) takes.fault
    ∙ told_fault broken (holds_at s.held s.part.blocks (place s.part u)) p bytes

-- it is told to be broken where it broke off
pub tells_broken : (kind : Set) (u p : ℕ) (bytes : List ℕ) (s t : ChipState) (it : Seen) → s.part.set ≡ kind → TakesCommands kind s → HasStored kind p bytes s t → it ≡ seen_idle t.part.set u t
    → is_broken it ≡ breaks p bytes s
tells_broken kind u p bytes s t it set takes h told =
    let mine : t.part.set ≡ kind = ap (λ (x : ChipState). x.part.set) h.is ∙ set in
    ap is_broken (told ∙ (ap (λ (k : Set). seen_idle k u t) mine ∙ ap (seen_idle kind u) h.is)) ∙ told_stored kind u p bytes (breaks p bytes s) t.cells t.toggle_6 t.toggle_2 s takes

-- ---- a call that is given up meanwhile

cleared_error : (kind : Set) (flags : Flags) (b : Bool) → b ≡ (cleared_flags kind flags).erase → b ≡ true → flags.erase ≡ true
cleared_error Intel flags b e h = let no : false ≡ true = sym e ∙ h in absurd cc
cleared_error Amd flags b e h = sym e ∙ h

stored_error : (kind : Set) (broken : Bool) (p : ℕ) (bytes : List ℕ) (flags : Flags) → (flags_with kind (break_job broken p bytes) flags).erase ≡ flags.erase
stored_error Intel true p bytes flags = refl
stored_error Intel false p bytes flags = refl
stored_error Amd broken p bytes flags = refl

still_unmoved : (kind : Set) (p : ℕ) (bytes : List ℕ) (left : ℕ) (cells : List ℕ) (toggle_6 toggle_2 : Bool) (s t : ChipState) → length cells ≡ length s.cells
    → t ≡ record (toggling toggle_6 toggle_2 (programming kind p bytes left s)) { cells = cells } → IsUnmoved s t
still_unmoved kind p bytes left cells toggle_6 toggle_2 s t size e = record {
  remains = record {
    part = ap (λ (x : ChipState). x.part) e;
    size = ap (λ (x : ChipState). length x.cells) e ∙ size;
    locks = ap (λ (x : ChipState). x.locks) e;
    erases = ap (λ (x : ChipState). x.erases) e;
  };
  held = ap (λ (x : ChipState). x.held) e;
  suspends = ap (λ (x : ChipState). x.suspends) e;
  no_error = cleared_error kind s.flags t.flags.erase (ap (λ (x : ChipState). x.flags.erase) e);
}

pub stored_unmoved : (kind : Set) (broken : Bool) (p : ℕ) (bytes cells : List ℕ) (toggle_6 toggle_2 : Bool) (s t : ChipState) → length cells ≡ length s.cells
    → t ≡ toggling toggle_6 toggle_2 (stored kind broken p bytes cells s) → IsUnmoved s t
stored_unmoved kind broken p bytes cells toggle_6 toggle_2 s t size e = record {
  remains = record {
    part = ap (λ (x : ChipState). x.part) e;
    size = ap (λ (x : ChipState). length x.cells) e ∙ size;
    locks = ap (λ (x : ChipState). x.locks) e;
    erases = ap (λ (x : ChipState). x.erases) e;
  };
  held = ap (λ (x : ChipState). x.held) e;
  suspends = ap (λ (x : ChipState). x.suspends) e;
  no_error = cleared_error kind s.flags t.flags.erase (ap (λ (x : ChipState). x.flags.erase) e ∙ stored_error kind broken p bytes (cleared_flags kind s.flags));
}

-- while power is on
pub tears : (kind : Set) (p : ℕ) (bytes : List ℕ) (reads n : ℕ) (s t : ChipState) → Programs kind p bytes reads n s t → Tears p bytes s t
tears kind p bytes reads n s t (inl still) =
    left_torn (λ q. false) p bytes s.cells s t (torn_none p bytes s.cells) (still_unmoved kind p bytes still.left s.cells t.toggle_6 t.toggle_2 s t refl still.is)
    (λ q free. ap (λ (x : ChipState). slice_index x.cells q) still.is)
tears kind p bytes reads n s t (inr ended) =
    left_torn (λ q. false) p bytes t.cells s t (torn_stored (unit_len s.part.device) s.part.weak p bytes s.cells t.cells ended.cells)
    (stored_unmoved kind (breaks p bytes s) p bytes t.cells t.toggle_6 t.toggle_2 s t ended.cells.size ended.is) (λ q free. refl)

-- a place at which a chip doesn't erase isn't under a held erase
pub free_of : (s : ChipState) (q : ℕ) → is_erasing_at s q ≡ false → holds_at s.held s.part.blocks q ≡ false
free_of s q free = right_false (erases_at s.job s.part.blocks q) (holds_at s.held s.part.blocks q) free

cut_programming : (kind : Set) (p : ℕ) (bytes : List ℕ) (left : ℕ) (toggle_6 toggle_2 : Bool) (s t : ChipState) → Cuts (toggling toggle_6 toggle_2 (programming kind p bytes left s)) t → Loses p bytes s t
cut_programming kind p bytes left toggle_6 toggle_2 s t h = record {
  keeps = still_unmoved kind p bytes left t.cells toggle_6 toggle_2 s t h.size h.rest;
  below = λ q free low. h.kept q (free_of s q free) (not_below p (length bytes) q low);
  above = λ q free high. h.kept q (free_of s q free) (not_above p (length bytes) q high);
  inside = λ q free low high. h.programming q (free_of s q free) (is_inside p (length bytes) q low high);
}

-- as power goes
pub dark_programs : (kind : Set) (p : ℕ) (bytes : List ℕ) (reads n : ℕ) (s m t : ChipState) → Programs kind p bytes reads n s m → Darkens m t → Loses p bytes s t
dark_programs kind p bytes reads n s m t (inl still) (inl same) =
    let e : t ≡ toggling m.toggle_6 m.toggle_2 (programming kind p bytes still.left s) = same ∙ still.is in
    left_torn (is_erasing_at s) p bytes s.cells s t (torn_none p bytes s.cells) (still_unmoved kind p bytes still.left s.cells m.toggle_6 m.toggle_2 s t refl e)
    (λ q free. ap (λ (x : ChipState). slice_index x.cells q) e)
dark_programs kind p bytes reads n s m t (inl still) (inr cut) = cut_programming kind p bytes still.left m.toggle_6 m.toggle_2 s t (subst (λ (x : ChipState). Cuts x t) still.is cut)
dark_programs kind p bytes reads n s m t (inr ended) (inl same) =
    let e : t ≡ toggling m.toggle_6 m.toggle_2 (stored kind (breaks p bytes s) p bytes m.cells s) = same ∙ ended.is in
    left_torn (is_erasing_at s) p bytes m.cells s t (torn_stored (unit_len s.part.device) s.part.weak p bytes s.cells m.cells ended.cells)
    (stored_unmoved kind (breaks p bytes s) p bytes m.cells m.toggle_6 m.toggle_2 s t ended.cells.size e)
    (λ q free. ap (λ (x : ChipState). slice_index x.cells q) e)
dark_programs kind p bytes reads n s m t (inr ended) (inr cut) =
    let ready = toggling m.toggle_6 m.toggle_2 (stored kind (breaks p bytes s) p bytes m.cells s) in
    let h : Cuts ready t = subst (λ (x : ChipState). Cuts x t) ended.is cut in
    left_torn (is_erasing_at s) p bytes m.cells s t (torn_stored (unit_len s.part.device) s.part.weak p bytes s.cells m.cells ended.cells)
    (stored_unmoved kind (breaks p bytes s) p bytes t.cells m.toggle_6 m.toggle_2 s t (h.size ∙ ended.cells.size) h.rest)
    (λ q free. h.kept q (free_of s q free) refl)

-- after the program has ended, in a call that programs nothing
pub loses_later : (kind : Set) (p : ℕ) (bytes : List ℕ) (s m t : ChipState) → HasStored kind p bytes s m → Loses 0 [] m t → Loses p bytes s t
loses_later kind p bytes s m t ended h =
    let mine = stored_unmoved kind (breaks p bytes s) p bytes m.cells m.toggle_6 m.toggle_2 s m ended.cells.size ended.is in
    let free = λ (q : ℕ) (out : is_erasing_at s q ≡ false). ap (λ (x : ChipState). is_erasing_at x q) ended.is ∙ free_of s q out in
    left_torn (is_erasing_at s) p bytes m.cells s t (torn_stored (unit_len s.part.device) s.part.weak p bytes s.cells m.cells ended.cells)
    (record {
      remains = remains_then s m t mine.remains h.keeps.remains;
      held = h.keeps.held ∙ mine.held;
      suspends = h.keeps.suspends ∙ mine.suspends;
      no_error = λ e. mine.no_error (h.keeps.no_error e);
    })
    (λ q out. h.above q (free q out) (omega arith))
