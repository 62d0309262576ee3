-- A program of some bytes, from its begin to its end, by the calls of either set.
use Rattle.std.proofs.Common.{◌≡◌, ◌+◌, ◌<◌, ◌≤◌, ◌%◌, ◌^◌, ◌==◌, ℕ, refl, sym, subst, ap, ◌∙◌, arith, Bool, true, false, List}
use Rattle.std.proofs.Math.Nat.{zero-div}
use Rattle.nor_cell.specs.Bits.{has_bit, unit_len}
use Rattle.nor_cell.specs.Chip.{ChipState, Flags, Job, Step, Rest, Idle}
use Rattle.nor_cell.specs.Look.{flags_with}
use Rattle.nor_cell.specs.Between.{can_reset, no_flags, AtRest, IsClear, TakesCommands}
use Rattle.nor_cell.proofs.Between.{same_fault, resets_broken}
use Rattle.nor_cell.specs.declared.device.Set.{Set}
use Rattle.nor_cell.specs.declared.device.Set.TheVariants.{Intel, Amd}
use Rattle.nor_poll.specs.Losing.{Loses, LosesNone, Tears}
use Rattle.nor_poll.specs.Reads.{AfterReads, WorksAfter, DarkAfter}
use Rattle.nor_poll.specs.Rest.{SettlesUnbroken, settled, cleared_flags}
use Rattle.nor_poll.specs.Wait.{WorksFor}
use Rattle.nor_poll.proofs.Waiting.{IsEnded}
use Rattle.nor_poll.specs.Word.{ProgramDone, is_broken, programming, work_mode}
use Rattle.nor_poll.specs.Words.{breaks, Stores}
use Rattle.nor_poll.specs.declared.watch.Seen.{Seen}
use Rattle.nor_poll.proofs.Losing.{holds_stored}
use Rattle.nor_poll.proofs.Programming.{work_array, work_resets, Programs, HasStored, programs_after, stored, toggling, break_job, stored_idle, works_still, tells_broken, tears, dark_programs, loses_later}

-- The chip took commands, and programs these bytes from place p on; it shows working for so many reads.
pub record Begun (kind : Set) (p : ℕ) (bytes : List ℕ) (left : ℕ) (s b : ChipState) : Type 0 where
  pub takes : TakesCommands kind s
  pub is : b ≡ programming kind p bytes left s

programs_read : (kind : Set) (p : ℕ) (bytes : List ℕ) (left n : ℕ) (s b m : ChipState) → Begun kind p bytes left s b → AfterReads b n m → Programs kind p bytes left n s m
programs_read kind p bytes left n s b m begun reads =
    let h : AfterReads (programming kind p bytes left s) n m = subst (λ (x : ChipState). AfterReads x n m) begun.is reads in
    programs_after kind p bytes left s n m begun.takes.rest.set h

-- ---- it ends

pub ends_stored : (kind : Set) (u p : ℕ) (bytes : List ℕ) (left : ℕ) (s b m : ChipState) (it : Seen) → Begun kind p bytes left s b → IsEnded u b it m → HasStored kind p bytes s m
ends_stored kind u p bytes left s b m it begun ready =
    stored_idle kind p bytes left ready.polls s m (programs_read kind p bytes left ready.polls s b m begun ready.reads) ready.job

pub rest_stored : (kind : Set) (p : ℕ) (bytes : List ℕ) (s m : ChipState) → TakesCommands kind s → HasStored kind p bytes s m → AtRest kind m
rest_stored kind p bytes s m takes h = record {
  set = ap (λ (x : ChipState). x.part.set) h.is ∙ takes.rest.set;
  step = ap (λ (x : ChipState). x.step) h.is;
  job = ap (λ (x : ChipState). x.job) h.is;
  resets = ap (λ (x : ChipState). can_reset kind x.mode x.fault) h.is
      ∙ resets_broken kind (work_mode kind) (break_job (breaks p bytes s) p bytes) s.fault (work_resets kind s.fault takes.fault);
}

-- the bit of a lane tells whether it broke off
pub tells : (kind : Set) (u p : ℕ) (bytes : List ℕ) (left : ℕ) (s b m : ChipState) (it : Seen) (bit : Bool) → Begun kind p bytes left s b → IsEnded u b it m → bit ≡ is_broken it
    → bit ≡ breaks p bytes s
tells kind u p bytes left s b m it bit begun ready is =
    is ∙ tells_broken kind u p bytes s m it begun.takes.rest.set begun.takes (ends_stored kind u p bytes left s b m it begun ready) ready.told

no_bit : (bits k : ℕ) → bits ≡ 0 → has_bit bits k ≡ false
no_bit bits k none = ap (λ (n : ℕ). has_bit n k) none ∙ ap (λ (q : ℕ). q % 2 == 1) (zero-div (2 ^ k))

no_flag : (kind : Set) (p : ℕ) (bytes : List ℕ) (flags : Flags) → kind ≡ Intel → flags_with kind (break_job false p bytes) (cleared_flags kind flags) ≡ no_flags
no_flag Intel p bytes flags e = refl
no_flag Amd p bytes flags e = cc

clear_if : (kind : Set) (p : ℕ) (bytes : List ℕ) (s m : ChipState) → TakesCommands kind s → HasStored kind p bytes s m → breaks p bytes s ≡ false → IsClear kind m
clear_if kind p bytes s m takes h whole =
    let is : m ≡ toggling m.toggle_6 m.toggle_2 (stored kind false p bytes m.cells s) = h.is ∙ ap (λ (b : Bool). toggling m.toggle_6 m.toggle_2 (stored kind b p bytes m.cells s)) whole in
    record {
      takes = record {
        rest = rest_stored kind p bytes s m takes h;
        mode = λ e. ap (λ (x : ChipState). x.mode) is ∙ work_array kind e;
        fault = ap (λ (x : ChipState). x.fault) is ∙ (same_fault kind s.fault ∙ takes.fault);
      };
      flags = λ e. ap (λ (x : ChipState). x.flags) is ∙ no_flag kind p bytes s.flags e;
    }

same_cleared_flags : (kind : Set) (broken : Job) (flags : Flags) → cleared_flags kind (flags_with kind broken (cleared_flags kind flags)) ≡ cleared_flags kind flags
same_cleared_flags Intel broken flags = refl
same_cleared_flags Amd broken flags = refl

as_before : (kind : Set) (broken : Bool) (p : ℕ) (bytes cells : List ℕ) (toggle_6 toggle_2 : Bool) (s : ChipState) → AtRest kind s
    → settled kind (toggling toggle_6 toggle_2 (stored kind broken p bytes cells s)) ≡ record (settled kind s) { cells = cells; toggle_6 = toggle_6; toggle_2 = toggle_2 }
as_before kind broken p bytes cells toggle_6 toggle_2 s rest =
    let job = break_job broken p bytes in
    let before = record (settled kind s) { cells = cells; toggle_6 = toggle_6; toggle_2 = toggle_2 } in
    ap (λ (f : Flags). record before { step = Rest; job = Idle; flags = f }) (same_cleared_flags kind job s.flags)
    ∙ (ap (λ (k : Step). record before { step = k; job = Idle }) (sym rest.step) ∙ ap (λ (j : Job). record before { job = j }) (sym rest.job))

-- and the call is done
pub program_done : (kind : Set) (u p : ℕ) (bytes : List ℕ) (left bits k : ℕ) (s b m t : ChipState) (it : Seen) → Begun kind p bytes left s b → IsEnded u b it m → has_bit bits k ≡ is_broken it
    → SettlesUnbroken kind bits m t → ProgramDone kind p bytes s t
program_done kind u p bytes left bits k s b m t it begun ready is settles =
    let takes = begun.takes in
    let h = ends_stored kind u p bytes left s b m it begun ready in
    let whole = λ (none : bits ≡ 0). sym (tells kind u p bytes left s b m it (has_bit bits k) begun ready is) ∙ no_bit bits k none in
    let e : t ≡ settled kind m = settles (rest_stored kind p bytes s m takes h) (λ none. clear_if kind p bytes s m takes h (whole none)) in
    let cells : t.cells ≡ m.cells = ap (λ (x : ChipState). x.cells) e in
    let six : t.toggle_6 ≡ m.toggle_6 = ap (λ (x : ChipState). x.toggle_6) e in
    let two : t.toggle_2 ≡ m.toggle_2 = ap (λ (x : ChipState). x.toggle_2) e in
    let stores = subst (λ (x : List ℕ). Stores p bytes s x) (sym cells) h.cells in
    record {
      cells = stores;
      holds = λ unbroken clears. holds_stored (unit_len s.part.device) s.part.weak p bytes s.cells t.cells unbroken stores clears;
      rest = e ∙ (ap (settled kind) h.is ∙ (as_before kind (breaks p bytes s) p bytes m.cells m.toggle_6 m.toggle_2 s takes.rest
          ∙ (ap (λ (x : List ℕ). record (settled kind s) { cells = x; toggle_6 = m.toggle_6; toggle_2 = m.toggle_2 }) (sym cells)
          ∙ (ap (λ (x : Bool). record (settled kind s) { cells = t.cells; toggle_6 = x; toggle_2 = m.toggle_2 }) (sym six)
          ∙ ap (λ (x : Bool). record (settled kind s) { cells = t.cells; toggle_6 = t.toggle_6; toggle_2 = x }) (sym two)))));
      still = λ intel. let same = h.still intel in (six ∙ same.0, two ∙ same.1);
    }

-- power went after the program had ended
pub loses_ended : (kind : Set) (u p : ℕ) (bytes : List ℕ) (left : ℕ) (s b m t : ChipState) (it : Seen) → Begun kind p bytes left s b → IsEnded u b it m → LosesNone (AtRest kind) m t → Loses p bytes s t
loses_ended kind u p bytes left s b m t it begun ready loses =
    let h = ends_stored kind u p bytes left s b m it begun ready in
    loses_later kind p bytes s m t h (loses (rest_stored kind p bytes s m begun.takes h))

-- ---- it is waited for

-- a lane works no longer than the program takes
pub works_for : (kind : Set) (p : ℕ) (bytes : List ℕ) (left most : ℕ) (s b : ChipState) → Begun kind p bytes left s b → s.part.stuck ≡ false → left ≤ most → WorksFor most b
works_for kind p bytes left most s b begun free few n works =
    let lt = works_still kind p bytes left n s works.mid (programs_read kind p bytes left n s b works.mid begun works.reads) free works.left in
    omega (arith, lt, few)

-- a wait that was given up
pub dark_begun : (kind : Set) (p : ℕ) (bytes : List ℕ) (left n : ℕ) (s b t : ChipState) → Begun kind p bytes left s b → DarkAfter n b t → Loses p bytes s t
dark_begun kind p bytes left n s b t begun dark =
    dark_programs kind p bytes left n s dark.mid t (programs_read kind p bytes left n s b dark.mid begun dark.reads) dark.dark

pub tears_begun : (kind : Set) (p : ℕ) (bytes : List ℕ) (left n : ℕ) (s b t : ChipState) → Begun kind p bytes left s b → AfterReads b n t → Tears p bytes s t
tears_begun kind p bytes left n s b t begun reads = tears kind p bytes left n s t (programs_read kind p bytes left n s b t begun reads)

stuck_if : (stuck : Bool) (n limit reads : ℕ) → (stuck ≡ false → n < reads) → limit ≤ n + 1 → reads < limit → stuck ≡ true
stuck_if true n limit reads h enough lt = refl
stuck_if false n limit reads h enough lt = let k : n < reads = h refl in absurd (omega arith)

pub stuck_begun : (kind : Set) (p : ℕ) (bytes : List ℕ) (left n limit : ℕ) (s b : ChipState) → Begun kind p bytes left s b → limit ≤ n + 1 → WorksAfter n b → left < limit → s.part.stuck ≡ true
stuck_begun kind p bytes left n limit s b begun enough works few =
    stuck_if s.part.stuck n limit left
    (λ free. works_still kind p bytes left n s works.mid (programs_read kind p bytes left n s b works.mid begun works.reads) free works.left) enough few
