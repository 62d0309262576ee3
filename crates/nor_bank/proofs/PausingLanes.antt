-- What a suspend of the erase of a block makes of its lanes.
use Rattle.std.proofs.Common.{◌≡◌, ◌<◌, ◌≤◌, ◌+◌, inl, inr, ℕ, List, slice_index, refl, sym, ◌∙◌, ap, subst, arith, Bool, true, false, None}
use Rattle.std.specs.Prelude.{◌&&◌, if◌then◌else◌}
use Rattle.nor_cell.specs.Between.{IsShown}
use Rattle.nor_cell.specs.Chip.{ChipState, Idle, OneBlock, Fault, counted}
use Rattle.nor_cell.specs.Table.{extended, extended_at, set_of, suspend_kind, suspend_of as chip_suspend_of, intel_suspend, amd_suspend}
use Rattle.nor_cell.specs.declared.device.Set.{Set}
use Rattle.nor_cell.specs.declared.device.Set.TheVariants.{Intel, Amd}
use Rattle.nor_query.specs.Checks.{first_error}
use Rattle.nor_query.specs.Derived.{suspend_of}
use Rattle.nor_query.proofs.Deriving.{suspend_agrees}
use Rattle.nor_query.proofs.Passing.{passes}
use Rattle.nor_query.proofs.Tables.{named_same}
use Rattle.nor_bus.specs.Bus.{BusState, lane, lanes_of}
use Rattle.nor_probe.specs.Probed.{IsFoundBy}
use Rattle.nor_probe.specs.WellWired.{shown_table}
use Rattle.nor_probe.specs.declared.probing.Found.{Found}
use Rattle.nor_probe.proofs.OneTable.{shown_later}
use Rattle.nor_poll.specs.Suspend.{Suspends, ChangesInSuspend, pauses}
use Rattle.nor_poll.specs.Toggles.{names_job}
use Rattle.nor_poll.specs.UnderErase.{LaneIs}
use Rattle.nor_poll.specs.declared.lanes.LaneState.{LaneState}
use Rattle.nor_bank.specs.Counts.{can_beside, suspends_after}
use Rattle.nor_bank.specs.Looks.{StaysOutside}
use Rattle.nor_bank.specs.Stands.{IsKnown}
use Rattle.nor_bank.specs.Way.{CountsOnce, LetsProgram, MayCountSuspend, PassesBy}
use Rattle.nor_bank.proofs.LookingLanes.{outside_by, remains_self}
use Rattle.nor_poll.proofs.SuspendEnd.{pauses_idle}

-- ---- what the table offers

module _ (t u : List ℕ) (same : (n : ℕ) → 16 ≤ n → slice_index u n ≡ slice_index t n) (passed : first_error t ≡ None) where
  place_same : extended_at u ≡ extended_at t
  place_same =
      let low = same 0x15 (omega arith) in
      let high = same 0x16 (omega arith) in
      omega (arith, low, high)

  moved : (k : ℕ) → extended u k ≡ extended t k
  moved k =
      let behind = (passes t passed).ext.behind in
      ap (λ (p : ℕ). slice_index u (p + k)) place_same ∙ same (extended_at t + k) (omega (arith, behind))

  by_set : (set : Set) → chip_suspend_of set u ≡ chip_suspend_of set t
  by_set Intel = ap (λ (n : ℕ). intel_suspend n (extended u 9)) (moved 5) ∙ ap (λ (n : ℕ). intel_suspend (extended t 5) n) (moved 9)
  by_set Amd = ap (λ (n : ℕ). amd_suspend n) (moved 6)

  suspend_same : suspend_kind u ≡ suspend_kind t
  suspend_same = ap (λ (s : Set). chip_suspend_of s u) (named_same t u same) ∙ by_set (set_of t)

-- Each chip offers what was found.
pub known_suspend : (f : Found) (bus : BusState) → IsKnown f bus → (c : ℕ) → c < lanes_of bus → suspend_kind (lane bus c).part.table ≡ suspend_of f.query.extended
known_suspend f bus known c below =
    let s = lane bus c in
    let says : IsFoundBy f.geometry (shown_table s) f = subst (λ (t : List ℕ). IsFoundBy f.geometry t f) (sym (known.found.same c below)) known.found.says in
    suspend_same (shown_table s) s.part.table (λ n from. sym (shown_later s n from)) says.stands.checks ∙ sym (suspend_agrees (shown_table s) f.query says.stands)

pub lets_program : (programs : Bool) (s : ChipState) → can_beside (suspend_kind s.part.table) programs ≡ true → LetsProgram programs s
lets_program true s may = inr may
lets_program false s may = tt

-- ---- a lane that doesn't run

pub none_counted : (may : Bool) (s : ChipState) → pauses s ≡ false → s.suspends ≡ suspends_after may s
none_counted true s none = sym (ap (λ (b : Bool). if b then counted s.suspends else s.suspends) none)
none_counted false s none = refl

pub passes_idle : (may : Bool) (s : ChipState) → s.job ≡ Idle → PassesBy may 0 s s
passes_idle may s idle = record { remains = remains_self s; suspends = none_counted may s (pauses_idle s idle); left = (omega arith, omega arith) }

-- ---- a lane in a suspend

pub stays_suspended : (b : ℕ) (state : LaneState) (s t : ChipState) → LaneIs state (OneBlock b) s → ChangesInSuspend b s t → StaysOutside (OneBlock b) s t
stays_suspended b state s t is keeps = outside_by state (OneBlock b) s t is keeps.remains keeps.outside

pub counts_once : (b : ℕ) (s t : ChipState) → ChangesInSuspend b s t → CountsOnce s t
counts_once b s t keeps = elim keeps.holds [
  | inl same ↦ inl same.1
  | inr holds ↦ inr holds.2
]

pub may_count : (b : ℕ) (s t : ChipState) → ChangesInSuspend b s t → MayCountSuspend true s t
may_count b s t keeps = elim keeps.holds [
  | inl same ↦ inl same.1
  | inr holds ↦ inr (holds.2 ∙ sym (ap (λ (x : Bool). if x then counted s.suspends else s.suspends) holds.0))
]

module _ (set : Set) (b : ℕ) (before after : LaneState) (reads : ℕ) (s t : ChipState) (it : Suspends set b before after reads s t) where
  pub shown_after : IsShown t
  shown_after = record { mode = it.shown; step = it.takes.rest.step; job = it.takes.rest.job; fault = it.takes.fault }

  pub names_after : names_job t.fault ≡ true
  names_after = ap (λ (f : Fault). names_job f) it.takes.fault

  pub passes_suspended : (may : Bool) (cycles : ℕ) → may ≡ true → reads ≤ cycles → PassesBy may cycles s t
  passes_suspended may cycles is few = record {
    remains = it.keeps.remains;
    suspends = it.suspends ∙ sym (ap (λ (x : Bool). if x && pauses s then counted s.suspends else s.suspends) is);
    left = (it.keeps.most, let fewer = it.few in omega (arith, few, fewer));
  }
