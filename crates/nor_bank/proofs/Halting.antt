-- Calls that are answered before their work: nothing is asked of the chips, they have to wait, or they halt on the way.
use Rattle.std.proofs.Common.{◌≡◌, ◌<◌, ◌≤◌, ◌+◌, ◌⊎◌, inl, ℕ, zero, suc, List, [], ◌∷◌, length, slice_index, slice_set, refl, sym, ◌∙◌, ap, subst, arith, Bool, true, false, Option, Some, None}
use Rattle.std.specs.Prelude.{◌&&◌, not, slice_index_or}
use Rattle.std.proofs.lemmas.List.{ext_get_or, set_past}
use Rattle.nor_cell.specs.Chip.{ChipState}
use Rattle.nor_cell.specs.declared.device.SuspendKind.{SuspendKind}
use Rattle.nor_query.specs.Derived.{suspend_of}
use Rattle.nor_bus.specs.Bus.{lane, more}
use Rattle.nor_bus.specs.Driven.{EachLane}
use Rattle.nor_array.specs.Array.{ArrayState, is_locked, is_on, is_open as is_open_in, range}
use Rattle.nor_array.specs.Admits.{AllBetween, ProgramLeaves, LockLeaves, WorkLeaves, first_locked, lock_byte, may_come}
use Rattle.nor_array.specs.Legal.{LacksSuspend, SticksAtWork}
use Rattle.nor_array.specs.Needs.{needs_of}
use Rattle.nor_array.proofs.Puts.{length-range, slice_index-range}
use Rattle.nor_array.specs.declared.needs.CallNeeds.{CallNeeds}
use Rattle.nor_array.specs.declared.needs.Reach.{Reach}
use Rattle.nor_array.specs.declared.entry.Halted.{Halted as HaltCause}
use Rattle.nor_array.specs.declared.entry.Halted.TheVariants.{Off, Stuck}
use Rattle.nor_array.specs.declared.entry.Op.{Op}
use Rattle.nor_array.specs.declared.entry.Op.TheVariants.{Read, Program, EraseOpen, EraseAll, Poll, Lock, Unlock, IsLocked, Arm, PowerOn}
use Rattle.nor_array.specs.declared.entry.Reply.{Reply}
use Rattle.nor_array.specs.declared.entry.Reply.TheVariants.{NotYet, Halted}
use Rattle.nor_array.specs.declared.state.OpenErase.{OpenErase}
use Rattle.nor_poll.specs.declared.lanes.Halt.{Halt}
use Rattle.nor_poll.specs.declared.lanes.Halt.TheVariants.{Off as LostPower, Stuck as StuckLane}
use Rattle.nor_poll.proofs.Between.{kept_between}
use Rattle.nor_bank.specs.Calls.{left_of, stands_locked}
use Rattle.nor_bank.specs.Counts.{is_open, can_beside, may_suspend, suspends_after, call_most, GoesOn, IsBelowLimit, KeepsErase, ReadsStuck}
use Rattle.nor_bank.specs.Refused.{Works, bank_refusal, is_own}
use Rattle.nor_bank.specs.Stands.{Stands, under_of}
use Rattle.nor_bank.specs.State.{BankState, size_of, bytes_of}
use Rattle.nor_bank.specs.Way.{Holds, HoldsAll, HasNeeds, BeginsWork, ClearsWay, HaltsWay, BreaksWay, LosesWay, IsOfBlock, MayCountSuspend, halting, cause_of, way_most}
use Rattle.nor_bank.specs.Whole.{IsCallOf}
use Rattle.nor_bank.specs.Work.{with_bus, refusal_of, reach_refusal}
use Rattle.nor_bank.specs.declared.kept.Erasing.{Erasing}
use Rattle.nor_bank.proofs.BankBytes.{length-bank_bytes, bank_bytes-at}
use Rattle.nor_bank.proofs.Beginning.{LiesIn, lies_in, may_work, range_beside, closed_before, of_block}
use Rattle.nor_bank.proofs.Ending.{HaltsFirst, polls, worked_call, first_lost, first_stuck, suspends_alike, ends_none, answers_wait}
use Rattle.nor_bank.proofs.Holding.{spared_by, locks_by}
use Rattle.nor_bank.proofs.Known.{known_some}
pub use Rattle.nor_bank.proofs.HaltingIdle.{needs_own, needs_unpolled, never_done, never_failed, lanes_self, programs_nothing, idle_call, idle_answer}

-- ---- up to the work

works_so : (old : BankState) (needs : CallNeeds) (refusal : Option Reply) (caller : ℕ) (op : Op) → HasNeeds needs op
    → refusal ≡ bank_refusal old caller op → refusal ≡ None → needs.idle ≡ false → Works caller op old
works_so old needs refusal caller op has is none busy =
    record { unrefused = sym is ∙ none; busy = ap (λ (n : CallNeeds). n.idle) has.are ∙ busy }

pub begins_answer : (programs : Bool) (old now new : BankState) (needs : CallNeeds) (refusal : Option Reply) (caller : ℕ) (op : Op) → HasNeeds needs op
    → refusal ≡ bank_refusal old caller op → refusal ≡ None → now ≡ old → needs.idle ≡ false → ClearsWay programs now new true
    → BeginsWork programs way_most caller op old new
begins_answer programs old now new needs refusal caller op has is none same busy clears_now =
    let works = works_so old needs refusal caller op has is none busy in
    let clears = subst (λ (b : BankState). ClearsWay programs b new true) same clears_now in
    record {
      works = works;
      running = (may_work caller op old works).running;
      kept = clears.kept;
      goes_on = clears.goes_on;
      cycles = clears.cycles;
      few = clears.few;
      went = clears.went;
      stands = clears.stands (of_block caller op old works has.unpolled);
    }

-- what it touches is there
pub there_answer : (old now new : BankState) (reach : Reach) → reach_refusal old.found reach ≡ None → now ≡ old → new ≡ record now { bus = new.bus; erase = new.erase }
    → reach_refusal new.found reach ≡ None
there_answer old now new reach there same kept =
    ap (λ (b : BankState). reach_refusal b.found reach) kept ∙ (ap (λ (b : BankState). reach_refusal b.found reach) same ∙ there)

-- ---- a call that has to wait

open_under : (e : Option Erasing) → is_open e ≡ true → is_open_in (under_of e) ≡ true
open_under None opened = opened
open_under (Some e) opened = refl

-- it is no erase
not_opening : (caller : ℕ) (op : Op) (b : BankState) → Works caller op b → is_open b.erase ≡ true → (needs_of op).opens ≡ true → ⊥
not_opening caller op b works opened opens =
    let both : false ≡ true = sym (ap is_open (closed_before caller op b works opens)) ∙ opened in cc

may_wait : (op : Op) (under : Option OpenErase) → is_own op ≡ false → is_open_in under ≡ true → ((needs_of op).opens ≡ true → ⊥) → may_come (needs_of op).waits under ≡ true
may_wait (Read at len) under other opened never = opened
may_wait (Program at new) under other opened never = opened
may_wait (EraseOpen k) under other opened never = absurd (never refl)
may_wait EraseAll under other opened never = absurd (never refl)
may_wait Poll under other opened never = refl
may_wait (Lock k) under other opened never = opened
may_wait (Unlock k) under other opened never = opened
may_wait (IsLocked k) under other opened never = opened
may_wait (Arm cut mask) under other opened never = absurd (cc)
may_wait PowerOn under other opened never = absurd (cc)

may_stick : (op : Op) (under : Option OpenErase) → is_own op ≡ false → is_open_in under ≡ true → ((needs_of op).opens ≡ true → ⊥) → may_come (needs_of op).sticks under ≡ true
may_stick (Read at len) under other opened never = opened
may_stick (Program at new) under other opened never = refl
may_stick (EraseOpen k) under other opened never = absurd (never refl)
may_stick EraseAll under other opened never = absurd (never refl)
may_stick Poll under other opened never = refl
may_stick (Lock k) under other opened never = opened
may_stick (Unlock k) under other opened never = opened
may_stick (IsLocked k) under other opened never = opened
may_stick (Arm cut mask) under other opened never = absurd (cc)
may_stick PowerOn under other opened never = absurd (cc)

lacks_so : (op : Op) (kind : SuspendKind) → can_beside kind (needs_of op).unlocked ≡ false → LacksSuspend op kind
lacks_so (Read at len) kind lacks = lacks
lacks_so (Program at new) kind lacks = lacks
lacks_so (Lock k) kind lacks = lacks
lacks_so (Unlock k) kind lacks = lacks
lacks_so (IsLocked k) kind lacks = lacks
lacks_so (EraseOpen k) kind lacks = tt
lacks_so EraseAll kind lacks = tt
lacks_so Poll kind lacks = tt
lacks_so (Arm cut mask) kind lacks = tt
lacks_so PowerOn kind lacks = tt

-- the way is shorter than a call may be
way_fits : (op : Op) (b : BankState) → is_own op ≡ false → polls op ≡ false → 43 ≤ call_most op b
way_fits (Read at len) b other unpolled = omega arith
way_fits (Program at new) b other unpolled = omega arith
way_fits (EraseOpen k) b other unpolled = omega arith
way_fits EraseAll b other unpolled = omega arith
way_fits Poll b other unpolled = absurd (cc)
way_fits (Lock k) b other unpolled = omega arith
way_fits (Unlock k) b other unpolled = omega arith
way_fits (IsLocked k) b other unpolled = omega arith
way_fits (Arm cut mask) b other unpolled = absurd (cc)
way_fits PowerOn b other unpolled = absurd (cc)

keeps_waiting : (caller : ℕ) (op : Op) (old new : Option Erasing) → polls op ≡ false → GoesOn 0 old new → KeepsErase caller op NotYet old new
keeps_waiting caller Poll old new unpolled goes = absurd (cc)
keeps_waiting caller (Read at len) old new unpolled goes = goes
keeps_waiting caller (Program at data_in) old new unpolled goes = goes
keeps_waiting caller (EraseOpen k) old new unpolled goes = goes
keeps_waiting caller EraseAll old new unpolled goes = goes
keeps_waiting caller (Lock k) old new unpolled goes = goes
keeps_waiting caller (Unlock k) old new unpolled goes = goes
keeps_waiting caller (IsLocked k) old new unpolled goes = goes
keeps_waiting caller (Arm cut mask) old new unpolled goes = goes
keeps_waiting caller PowerOn old new unpolled goes = goes

below_limit : (op : Op) (b : BankState) → polls op ≡ false → IsBelowLimit op b
below_limit Poll b unpolled = absurd (cc)
below_limit (Read at len) b unpolled = tt
below_limit (Program at new) b unpolled = tt
below_limit (EraseOpen k) b unpolled = tt
below_limit EraseAll b unpolled = tt
below_limit (Lock k) b unpolled = tt
below_limit (Unlock k) b unpolled = tt
below_limit (IsLocked k) b unpolled = tt
below_limit (Arm cut mask) b unpolled = tt
below_limit PowerOn b unpolled = tt

-- the suspends of the way are those that the call may make
alike : (programs : Bool) (caller : ℕ) (op : Op) (b : BankState) (s : ChipState) → Works caller op b → polls op ≡ false → (needs_of op).unlocked ≡ programs
    → is_open b.erase ≡ true
    → suspends_after (can_beside (suspend_of b.found.query.extended) programs) s ≡ suspends_after (may_suspend (suspend_of b.found.query.extended) op) s
alike programs caller op b s works unpolled unlocked opened =
    suspends_alike op (suspend_of b.found.query.extended) programs s unpolled (may_work caller op b works).own unlocked
    (λ opens. absurd (not_opening caller op b works opened opens))

waiting_call : (programs : Bool) (caller : ℕ) (op : Op) (old new : BankState) (given : List ℕ) → Works caller op old → polls op ≡ false
    → (needs_of op).unlocked ≡ programs → is_open old.erase ≡ true → IsOfBlock old.erase → ClearsWay programs old new false → IsCallOf caller op old new NotYet given
waiting_call programs caller op old new given works unpolled unlocked opened of clears =
    let may = may_work caller op old works in
    let fit = way_fits op old may.own unpolled in
    let few = clears.few in
    worked_call caller op old new NotYet given (record {
      works = works;
      running = may.running;
      answers = answers_wait op old (may_wait op (under_of old.erase) may.own (open_under old.erase opened) (not_opening caller op old works opened));
      makes = λ a stands.
          let on = clears.stands of a stands in
          let open_now : is_open_in a.under ≡ true = ap is_open_in stands.under ∙ open_under old.erase opened in
          record {
            asks = (may_wait op a.under may.own open_now (not_opening caller op old works opened), refl);
            agrees = lacks_so op (suspend_of old.found.query.extended)
                (ap (λ (p : Bool). can_beside (suspend_of old.found.query.extended) p) unlocked ∙ clears.lacks refl);
            stands = on.stands;
            counts = λ c below. record {
              erases = (on.each c below).remains.erases;
              suspends = (on.each c below).suspends ∙ alike programs caller op old (lane old.bus c) works unpolled unlocked opened;
            };
            waits = λ is. on.waits refl;
            rests = λ quiet. absurd (let both : false ≡ true = quiet in cc);
          };
      leaves = record {
        found = ap (λ (b : BankState). b.found) clears.kept;
        after = ap (λ (b : BankState). b.after) clears.kept;
        halted = ap (λ (b : BankState). b.halted) clears.kept;
        lanes = clears.went.kept;
        erase = keeps_waiting caller op old.erase new.erase unpolled clears.goes_on;
        limit = λ is. below_limit op new unpolled;
      };
      spends = record {
        cycles = clears.cycles;
        few = omega (arith, few, fit);
        asked = inl clears.went;
        left = λ a stands c below. ((clears.stands of a stands).each c below).left;
        ends = λ a stands. ends_none op NotYet clears.cycles old unpolled;
      };
      off = λ n is. absurd (let both : NotYet ≡ Halted (Off n) = is in cc);
      after = λ n is. absurd (let both : NotYet ≡ Halted (Off n) = is in cc);
      stuck = λ k is. absurd (let both : NotYet ≡ Halted (Stuck k) = is in cc);
    })

pub waits_answer : (programs : Bool) (old now new : BankState) (needs : CallNeeds) (refusal : Option Reply) (caller : ℕ) (op : Op) (given : List ℕ)
    → HasNeeds needs op → refusal ≡ bank_refusal old caller op → refusal ≡ None → now ≡ old → needs.idle ≡ false → programs ≡ needs.unlocked
    → is_open now.erase ≡ true → ClearsWay programs now new false → IsCallOf caller op old new NotYet given
waits_answer programs old now new needs refusal caller op given has is none same busy unlocked opened clears =
    let works = works_so old needs refusal caller op has is none busy in
    waiting_call programs caller op old new given works (needs_unpolled op needs has) (ap (λ (n : CallNeeds). n.unlocked) has.are ∙ sym unlocked)
    (subst (λ (b : BankState). is_open b.erase ≡ true) same opened) (of_block caller op old works has.unpolled) (subst (λ (b : BankState). ClearsWay programs b new false) same clears)

-- ---- halts that leave the call's own work undone

set_own : (xs : List Bool) (k : ℕ) (d : Bool) → slice_set xs k (slice_index_or xs k d) ≡ xs
set_own [] k d = set_past [] k (slice_index_or [] k d) (omega arith)
set_own (x ∷ xs) zero d = refl
set_own (x ∷ xs) (suc k) d = ap (λ (ys : List Bool). x ∷ ys) (set_own xs k d)

module _ (caller : ℕ) (op : Op) (old new : BankState) (a : ArrayState) (works : Works caller op old) (stands : Stands old a) (found : new.found ≡ old.found)
    (holds : HoldsAll new a) where
  locks_first : (lane new.bus 0).locks ≡ a.locks
  locks_first = holds.locks 0 (known_some new.found new.bus holds.known)

  lock_same : (k : ℕ) → stands_locked new k ≡ is_locked a k
  lock_same k = ap (λ (ls : List Bool). slice_index_or ls k false) locks_first

  locks_same : (o : Op) → locks_by o new a.locks ≡ a.locks
  locks_same (Lock k) = ap (λ (l : Bool). slice_set a.locks k l) (lock_same k) ∙ set_own a.locks k false
  locks_same (Unlock k) = ap (λ (l : Bool). slice_set a.locks k l) (lock_same k) ∙ set_own a.locks k false
  locks_same (Read at len) = refl
  locks_same (Program at data_in) = refl
  locks_same (EraseOpen k) = refl
  locks_same EraseAll = refl
  locks_same Poll = refl
  locks_same (IsLocked k) = refl
  locks_same (Arm cut mask) = refl
  locks_same PowerOn = refl

  -- the chips hold it as well with the work of the call spared
  pub holds_undone : Holds (spared_by op) (locks_by op new a.locks) new a
  holds_undone = subst (λ (ls : List Bool). Holds (spared_by op) ls new a) (sym (locks_same op))
      (record { known = holds.known; consts = holds.consts; bytes = λ p below outside spare. holds.bytes p below outside refl; locks = holds.locks })

  range_left : (at : ℕ) (data_in : List ℕ) → op ≡ Program at data_in → bytes_of new at (length data_in) ≡ range a.bytes at (length data_in)
  range_left at data_in is =
      let len = length data_in in
      let inside : LiesIn (size_of old.found) at len = lies_in (size_of old.found) at len (sym (ap (λ (o : Op). refusal_of old o) is) ∙ (may_work caller op old works).there) in
      let fits = inside.within in
      let size = stands.size in
      let room : at + len ≤ length a.bytes = omega (arith, fits, size) in
      let all : size_of new.found ≡ size_of old.found = ap size_of found in
      let count = length-bank_bytes new.found.geometry.device new.bus.lanes at len in
      ext_get_or 0 (bytes_of new at len) (range a.bytes at len) (count ∙ sym (length-range a.bytes at len room))
      (λ i less.
      let near : i < len = omega (arith, less, count) in
      bank_bytes-at new.found.geometry.device new.bus.lanes at len i near
      ∙ (sym (holds.bytes (at + i) (omega (arith, near, fits, all))
      (range_beside caller op old a at len (at + i) works stands (ap (λ (o : Op). (needs_of o).reach) is) (ap (λ (o : Op). (needs_of o).chip_erase) is) (omega arith) (omega (arith, near))) refl)
      ∙ sym (slice_index-range a.bytes at len i near)))

  program_undone : (at : ℕ) (data_in : List ℕ) (locked : Option ℕ) → op ≡ Program at data_in
      → ProgramLeaves locked (range a.bytes at (length data_in)) data_in (bytes_of new at (length data_in))
  program_undone at data_in (Some k) is = range_left at data_in is
  program_undone at data_in None is =
      let same = range_left at data_in is in
      subst (λ (xs : List ℕ). AllBetween (range a.bytes at (length data_in)) data_in xs) (sym same)
      (record { size = refl; each = λ k below. kept_between (slice_index (range a.bytes at (length data_in)) k) (slice_index data_in k) })

  lock_undone : (k : ℕ) (cause : HaltCause) (asked : Bool) → LockLeaves cause (is_locked a k) asked (lock_byte (stands_locked new k) ∷ [])
  lock_undone k (Off n) asked = inl (ap (λ (l : Bool). lock_byte l ∷ []) (lock_same k))
  lock_undone k (Stuck j) asked = ap (λ (l : Bool). lock_byte l ∷ []) (lock_same k)

  leaves_by : (cause : HaltCause) (o : Op) → op ≡ o → WorkLeaves o cause a (left_of o new)
  leaves_by cause (Program at data_in) is = program_undone at data_in (first_locked a (Program at data_in)) is
  leaves_by cause (Lock k) is = lock_undone k cause true
  leaves_by cause (Unlock k) is = lock_undone k cause false
  leaves_by cause (Read at len) is = refl
  leaves_by cause (EraseOpen k) is = refl
  leaves_by cause EraseAll is = refl
  leaves_by cause Poll is = refl
  leaves_by cause (IsLocked k) is = refl
  leaves_by cause (Arm cut mask) is = refl
  leaves_by cause PowerOn is = refl

  -- and the halt leaves it undone
  pub leaves_undone : (cause : HaltCause) → WorkLeaves op cause a (left_of op new)
  leaves_undone cause = leaves_by cause op refl

-- ---- a halt on the way

-- more cycles than the least
pub more_least : (least n count new : ℕ) → least ≤ n → more n count ≤ new → more least count ≤ new
more_least least n count new le enough = omega (arith, le, enough)

reads_stuck : (op : Op) (old new : BankState) → polls op ≡ false → is_open old.erase ≡ true → more 20 old.bus.cycles ≤ new.bus.cycles → ReadsStuck op old new
reads_stuck Poll old new unpolled opened many = absurd (cc)
reads_stuck (Program at data_in) old new unpolled opened many = inl (opened, many)
reads_stuck (Read at len) old new unpolled opened many = (opened, many)
reads_stuck (EraseOpen k) old new unpolled opened many = (opened, many)
reads_stuck EraseAll old new unpolled opened many = (opened, many)
reads_stuck (Lock k) old new unpolled opened many = (opened, many)
reads_stuck (Unlock k) old new unpolled opened many = (opened, many)
reads_stuck (IsLocked k) old new unpolled opened many = (opened, many)
reads_stuck (Arm cut mask) old new unpolled opened many = (opened, many)
reads_stuck PowerOn old new unpolled opened many = (opened, many)

not_both : (p q : Bool) → q ≡ true → (p && not q) ≡ true → ⊥
not_both true q is both = let no_way : false ≡ true = sym (ap not is) ∙ both in cc
not_both false q is both = cc

sticks_beside : (op : Op) (a : ArrayState) → is_open_in a.under ≡ true → SticksAtWork op a
sticks_beside (Program at data_in) a opened = λ alone. absurd (not_both (is_on a.power) (is_open_in a.under) opened alone)
sticks_beside (Read at len) a opened = tt
sticks_beside (EraseOpen k) a opened = tt
sticks_beside EraseAll a opened = tt
sticks_beside Poll a opened = tt
sticks_beside (Lock k) a opened = tt
sticks_beside (Unlock k) a opened = tt
sticks_beside (IsLocked k) a opened = tt
sticks_beside (Arm cut mask) a opened = tt
sticks_beside PowerOn a opened = tt

module _ (programs : Bool) (caller : ℕ) (op : Op) (old new : BankState) (given : List ℕ) (works : Works caller op old) (unpolled : polls op ≡ false)
    (unlocked : (needs_of op).unlocked ≡ programs) (opened : is_open old.erase ≡ true)
    (counts : (a : ArrayState) → Stands old a → EachLane (MayCountSuspend (can_beside (suspend_of old.found.query.extended) programs)) old.bus new.bus) where
  breaks_first : (cause : HaltCause) (a : ArrayState) → new.found ≡ old.found → Stands old a → BreaksWay old new a → HaltsFirst op cause old new a
  breaks_first cause a found stands broken = record {
    holds = holds_undone caller op old new a works stands found broken.holds;
    leaves = leaves_undone caller op old new a works stands found broken.holds cause;
    erases = λ c below. (broken.remains c below).erases;
    suspends = λ c below.
        subst (λ (n : ℕ). ((lane new.bus c).suspends ≡ (lane old.bus c).suspends) ⊎ ((lane new.bus c).suspends ≡ n))
        (alike programs caller op old (lane old.bus c) works unpolled unlocked opened) (counts a stands c below);
  }

  way_halts : (halt : Halt) → IsOfBlock old.erase → new ≡ halting (with_bus old new.bus) (cause_of old.after halt) → LosesWay way_most old new halt
      → IsCallOf caller op old new (Halted (cause_of old.after halt)) given
  way_halts LostPower of kept loses =
      let may = may_work caller op old works in
      first_lost way_most caller op old (with_bus old new.bus) new given works may.running refl refl kept loses.0 (way_fits op old may.own unpolled)
      (λ a stands. breaks_first (Off old.after) a (ap (λ (b : BankState). b.found) kept) stands (loses.1 of a stands))
  way_halts (StuckLane k) of kept loses =
      let may = may_work caller op old works in
      let counted = loses.0.1 in
      let many = counted.went.enough in
      let least = counted.enough in
      first_stuck 20 way_most k caller op old (with_bus old new.bus) new given works may.running refl refl kept counted (way_fits op old may.own unpolled) loses.0.0
      (reads_stuck op old new unpolled opened (more_least 20 counted.cycles old.bus.cycles new.bus.cycles least many))
      (may_stick op (under_of old.erase) may.own (open_under old.erase opened) (not_opening caller op old works opened))
      (λ a stands.
      let broken = loses.1 of a stands in (
        breaks_first (Stuck k) a (ap (λ (b : BankState). b.found) kept) stands broken.0,
        broken.1,
        sticks_beside op a (ap is_open_in stands.under ∙ open_under old.erase opened),
      ))

pub halts_answer : (programs : Bool) (old now new : BankState) (needs : CallNeeds) (refusal : Option Reply) (reply : Reply) (caller : ℕ) (op : Op) (given : List ℕ)
    → HasNeeds needs op → refusal ≡ bank_refusal old caller op → refusal ≡ None → now ≡ old → needs.idle ≡ false → programs ≡ needs.unlocked
    → is_open now.erase ≡ true
    → (IsOfBlock now.erase → (a : ArrayState) → Stands now a → EachLane (MayCountSuspend (can_beside (suspend_of now.found.query.extended) programs)) now.bus new.bus)
    → HaltsWay way_most now new reply → IsCallOf caller op old new reply given
halts_answer programs old now new needs refusal reply caller op given has is none same busy unlocked opened counts halts =
    let works = works_so old needs refusal caller op has is none busy in
    let of = of_block caller op old works has.unpolled in
    let mine = subst (λ (b : BankState). HaltsWay way_most b new reply) same halts in
    let each = subst (λ (b : BankState). IsOfBlock b.erase → (a : ArrayState) → Stands b a → EachLane (MayCountSuspend (can_beside (suspend_of b.found.query.extended) programs)) b.bus new.bus) same counts in
    subst (λ (r : Reply). IsCallOf caller op old new r given) (sym mine.answer)
    (way_halts programs caller op old new given works (needs_unpolled op needs has) (ap (λ (n : CallNeeds). n.unlocked) has.are ∙ sym unlocked)
    (subst (λ (b : BankState). is_open b.erase ≡ true) same opened) (each of) mine.halt of mine.kept mine.loses)
