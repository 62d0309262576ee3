-- A lane under erase, where its chip shows its array and does a call's work.
use Rattle.std.proofs.Common.{◌≡◌, ◌+◌, inl, inr, ℕ, slice_index, refl, sym, ◌∙◌, ap, subst, Bool, true, false}
use Rattle.nor_cell.specs.Amd.{is_time}
use Rattle.nor_cell.specs.Between.{IsShown}
use Rattle.nor_cell.specs.Chip.{ChipState, Part, Array, Status, Job, Idle, Erase, Held, NotHeld, Holds, Fault, NoFault, Target, OneBlock, AllBlocks, covered, is_within, reads_left, holds_at}
use Rattle.nor_cell.specs.Look.{is_weak}
use Rattle.nor_cell.specs.Power.{is_erasing_at, erases_at}
use Rattle.nor_cell.specs.declared.device.Set.{Set}
use Rattle.nor_cell.specs.declared.device.Set.TheVariants.{Intel, Amd}
use Rattle.nor_cell.proofs.Logic.{same_number}
use Rattle.nor_poll.proofs.Between.{neither}
use Rattle.nor_poll.specs.UnderErase.{LaneIs, IsErased, IsTorn, HasEnded, IsUntold, ShowsErase, part_of, tells_broken, holds_target, erase_left, held_left}
use Rattle.nor_poll.specs.declared.lanes.LaneState.{LaneState}
use Rattle.nor_poll.specs.declared.lanes.LaneState.TheVariants.{Running, Suspended, Finished, Broken}

-- ---- what is under erase of a chip

held_within : (held : Held) (target : Target) (s : ChipState) (p : ℕ) → holds_target held target ≡ true → is_within (part_of target s) p ≡ false
    → holds_at held s.part.blocks p ≡ false
held_within NotHeld target s p holds out = refl
held_within (Holds b left) (OneBlock c) s p holds out =
    ap (λ (k : ℕ). is_within (covered (OneBlock k) s.part.blocks) p) (sym (same_number c b holds)) ∙ out
held_within (Holds b left) AllBlocks s p holds out = absurd (cc)

no_erase : (s : ChipState) (p : ℕ) → s.job ≡ Idle → erases_at s.job s.part.blocks p ≡ false
no_erase s p idle = ap (λ (j : Job). erases_at j s.part.blocks p) idle

no_hold : (s : ChipState) (p : ℕ) → s.held ≡ NotHeld → holds_at s.held s.part.blocks p ≡ false
no_hold s p free = ap (λ (h : Held). holds_at h s.part.blocks p) free

-- A chip that runs no job and holds no erase has nothing under erase.
pub none_erasing : (s : ChipState) (p : ℕ) → s.job ≡ Idle → s.held ≡ NotHeld → is_erasing_at s p ≡ false
none_erasing s p idle free = neither _ _ (no_erase s p idle) (no_hold s p free)

-- Outside of what is erased of the chip nothing is.
pub erasing_within : (state : LaneState) (target : Target) (s : ChipState) (p : ℕ) → LaneIs state target s → is_within (part_of target s) p ≡ false
    → is_erasing_at s p ≡ false
erasing_within Running target s p is out = elim is.0 [
  | inl erases ↦ neither _ _ (ap (λ (j : Job). erases_at j s.part.blocks p) erases.job ∙ out) (no_hold s p is.1)
  | inr ended ↦ none_erasing s p ended.job is.1
]
erasing_within Suspended target s p is out = neither _ _ (no_erase s p is.1) (held_within s.held target s p is.0 out)
erasing_within Finished target s p is out = none_erasing s p is.1.job is.1.held
erasing_within Broken target s p is out = none_erasing s p is.1.job is.1.held

-- ---- a chip that did a call's work

-- All of the chip stays but its bytes and its locks, and no erase error comes up. It shows its array.
pub record Serves (s t : ChipState) : Type 0 where
  pub held : t.held ≡ s.held
  pub suspends : t.suspends ≡ s.suspends
  pub erases : t.erases ≡ s.erases
  pub no_error : t.flags.erase ≡ true → s.flags.erase ≡ true
  pub shown : IsShown t

-- It has as many reads left as it had.
pub left_served : (s t : ChipState) → IsShown s → Serves s t → erase_left t ≡ erase_left s
left_served s t shown serves =
    ap (λ (j : Job). reads_left j + held_left t.held) (serves.shown.job ∙ sym shown.job)
    ∙ ap (λ (h : Held). reads_left s.job + held_left h) serves.held

not_told : (x y : Bool) → (x ≡ true → y ≡ true) → y ≡ false → x ≡ false
not_told true y up down = absurd (let both : true ≡ false = sym (up refl) ∙ down in cc)
not_told false y up down = refl

untold_served : (set : Set) (s t : ChipState) → Serves s t → IsUntold set s → IsUntold set t
untold_served Intel s t serves untold = not_told t.flags.erase s.flags.erase serves.no_error untold
untold_served Amd s t serves untold = serves.shown.fault

-- its part of what is erased has the bytes that it had
abbrev pub KeepsPart : Target → ChipState → ChipState → Type 0
KeepsPart target s t = (p : ℕ) → is_within (part_of target s) p ≡ true → slice_index t.cells p ≡ slice_index s.cells p

module _ (target : Target) (s t : ChipState) (shown : IsShown s) (serves : Serves s t) (part : t.part ≡ s.part) (keeps : KeepsPart target s t) where
  erased_served : IsErased target s → IsErased target t
  erased_served is = record {
    ones = λ p inside.
        let before : is_within (part_of target s) p ≡ true = ap (λ (x : Part). is_within (covered target x.blocks) p) (sym part) ∙ inside in
        keeps p before ∙ is.ones p before;
    sound = subst (λ (x : Part). is_weak x.weak (covered target x.blocks) ≡ false) (sym part) is.sound;
  }

  torn_served : IsTorn target s → IsTorn target t
  torn_served is = subst (λ (x : Part). is_weak x.weak (covered target x.blocks) ≡ true) (sym part) is

  not_status : s.mode ≡ Status → ⊥
  not_status is = let both : Array ≡ Status = sym shown.mode ∙ is in cc

  not_torn : (fault : Fault) → fault ≡ NoFault → is_time fault ≡ true → ⊥
  not_torn fault none is = let both : false ≡ true = sym (ap is_time none) ∙ is in cc

  -- a chip of set 0002 that has ended, as isn't known yet
  ended_by : (set : Set) → s.part.set ≡ set → HasEnded target s → HasEnded target t
  ended_by Intel is ended = absurd (not_status (subst (λ (k : Set). ShowsErase k s) is ended.shows))
  ended_by Amd is ended =
      let now : t.part.set ≡ Amd = ap (λ (x : Part). x.set) part ∙ is in
      let tells : tells_broken t.part.set t ≡ false = ap (λ (k : Set). tells_broken k t) now ∙ ap is_time serves.shown.fault in
      let shows : ShowsErase t.part.set t = subst (λ (k : Set). ShowsErase k t) (sym now) tt in
      elim ended.outcome [
        | inl whole ↦ record { job = serves.shown.job; shows = shows; outcome = inl (erased_served whole.0, tells) }
        | inr torn ↦ absurd (not_torn s.fault shown.fault (ap (λ (k : Set). tells_broken k s) (sym is) ∙ torn.1))
      ]

  -- The lane is where it was.
  pub lane_served : (state : LaneState) → LaneIs state target s → LaneIs state target t
  lane_served Running is = elim is.0 [
    | inl erases ↦ absurd (let both : Idle ≡ Erase target erases.left = sym shown.job ∙ erases.job in cc)
    | inr ended ↦ (inr (ended_by s.part.set refl ended), serves.held ∙ is.1)
  ]
  lane_served Suspended is = (
    ap (λ (h : Held). holds_target h target) serves.held ∙ is.0,
    serves.shown.job,
    subst (λ (k : Set). IsUntold k t) (ap (λ (x : Part). x.set) (sym part)) (untold_served s.part.set s t serves is.2),
  )
  lane_served Finished is = (erased_served is.0, record { job = serves.shown.job; held = serves.held ∙ is.1.held })
  lane_served Broken is = (torn_served is.0, record { job = serves.shown.job; held = serves.held ∙ is.1.held })
