-- A bank whose erase begins.
use Rattle.std.proofs.Common.{◌≡◌, ◌<◌, ◌≤◌, ◌+◌, ℕ, length, slice_index, refl, sym, ◌∙◌, ap, subst, arith, true, Option, Some, None}
use Rattle.std.proofs.Math.Nat.{min-le_right}
use Rattle.nor_cell.specs.Bits.{AreBytes, unit_len}
use Rattle.nor_cell.specs.Between.{Waits, IsQuiet}
use Rattle.nor_cell.specs.Chip.{ChipState, Part, Array, Status, NotHeld, Fault, NoFault, Target as ChipTarget, OneBlock, AllBlocks, counted}
use Rattle.nor_cell.specs.Machine.{work_of}
use Rattle.nor_cell.specs.Table.{limit, left_at_start, most_reads, typical, greatest}
use Rattle.nor_cell.specs.Wiring.{lane_at, place_at}
use Rattle.nor_cell.specs.declared.device.Device.{Device}
use Rattle.nor_cell.specs.declared.device.Set.{Set}
use Rattle.nor_cell.specs.declared.device.Set.TheVariants.{Intel, Amd}
use Rattle.nor_cell.specs.declared.device.Work.TheVariants.{Block, Chip}
use Rattle.nor_cell.proofs.Between.{resets_in, resets_still}
use Rattle.nor_lane.proofs.Places.{lane_at_below}
use Rattle.nor_bus.specs.Bus.{BusState, lane, lanes_of, chip_at, bank_byte, IsBank}
use Rattle.nor_bus.specs.Driven.{AllLanes, EachLane, Went}
use Rattle.nor_bus.proofs.Driving.{some_lane}
use Rattle.nor_poll.specs.Erase.{IsErasing, erasing}
use Rattle.nor_poll.specs.Toggles.{names_job}
use Rattle.nor_poll.specs.UnderErase.{LaneIs, erase_left, held_left, state_at}
use Rattle.nor_poll.specs.declared.lanes.LaneState.{LaneState}
use Rattle.nor_poll.specs.declared.lanes.LaneState.TheVariants.{Running, Suspended}
use Rattle.nor_probe.specs.declared.probing.Found.{Found}
use Rattle.nor_array.specs.Array.{ArrayState, IsThere, chip_target}
use Rattle.nor_array.specs.declared.entry.Halted.{Halted as HaltCause}
use Rattle.nor_array.specs.declared.entry.Op.{Op}
use Rattle.nor_array.specs.declared.entry.Op.TheVariants.{Read, Program, EraseOpen, EraseAll, Poll, Lock, Unlock, IsLocked, Arm, PowerOn}
use Rattle.nor_array.specs.declared.state.Target.{Target}
use Rattle.nor_array.specs.declared.state.Target.TheVariants.{OneBlock as OneOfBank, AllBlocks as AllOfBank}
use Rattle.nor_bank.specs.Counts.{IsNew, start_left}
use Rattle.nor_bank.specs.Stands.{Stands, IsOn, PowerIs}
use Rattle.nor_bank.specs.State.{BankState, blocks_of, erase_limit}
use Rattle.nor_bank.specs.UnderErase.{IsUnderErase, HasPollsLeft}
use Rattle.nor_bank.specs.declared.kept.Erasing.{Erasing}
use Rattle.nor_bank.proofs.Known.{IsPartOf, known_own, known_parts, known_some}
use Rattle.nor_bank.proofs.Lasting.{StaysKnown, stays_locked, known_lasts, constants_last}
use Rattle.nor_bank.proofs.Standing.{is_on_now, quiet_now, byte_now, bytes_known, cut_nearer}

-- ---- one chip

fault_named : (fault : Fault) → fault ≡ NoFault → names_job fault ≡ true
fault_named fault none = ap names_job none

-- it waits, and shows its array still where it is of set 0002
waits_erasing : (set : Set) (target : ChipTarget) (s : ChipState) → s.part.set ≡ set → s.mode ≡ Array → s.fault ≡ NoFault → Waits set (erasing set target s)
waits_erasing Intel target s is mode none = record {
  set = is;
  step = refl;
  mode = λ amd. absurd (cc);
  resets = resets_still Intel s.mode Status s.fault (resets_in Intel s.mode s.fault mode none) (λ amd. absurd (cc));
}
waits_erasing Amd target s is mode none = record { set = is; step = refl; mode = λ amd. refl; resets = resets_in Amd Array s.fault refl none }

pub waits_begun : (set : Set) (target : ChipTarget) (s t : ChipState) → s.part.set ≡ set → IsQuiet s → IsErasing set target s t → Waits t.part.set t
waits_begun set target s t is quiet erases =
    let now = waits_erasing set target s is quiet.shown.mode quiet.shown.fault in
    let same : t.part.set ≡ set = ap (λ (x : ChipState). x.part.set) erases.is ∙ is in
    subst (λ (k : Set). Waits k t) (sym same) (subst (λ (x : ChipState). Waits set x) (sym erases.is) now)

-- how often it shows the erase working is within the limit less 16
left_begun : (target : ChipTarget) (set : Set) (s : ChipState) → s.held ≡ NotHeld → erase_left (erasing set target s) + 16 ≤ limit (work_of target) s.part.table
left_begun (OneBlock b) set s free =
    let none : held_left s.held ≡ 0 = ap held_left free in
    let most = min-le_right s.part.pace_erase (most_reads (typical Block s.part.table) (greatest Block s.part.table)) in
    omega (arith, none, most)
left_begun AllBlocks set s free =
    let none : held_left s.held ≡ 0 = ap held_left free in
    let most = min-le_right s.part.pace_erase (most_reads (typical Chip s.part.table) (greatest Chip s.part.table)) in
    omega (arith, none, most)

limit_is : (f : Found) (s : ChipState) (target : Target) → IsPartOf f s → limit (work_of (chip_target target)) s.part.table ≡ erase_limit f target
limit_is f s (OneOfBank b) part = part.limits Block
limit_is f s AllOfBank part = part.limits Chip

enough_begun : (f : Found) (e : Erasing) (set : Set) (s t : ChipState) → IsPartOf f s → e.polls ≡ 0 → s.held ≡ NotHeld → IsErasing set (chip_target e.target) s t → HasPollsLeft f e t
enough_begun f e set s t part fresh free erases = λ whole some.
    let left : erase_left t ≡ erase_left (erasing set (chip_target e.target) s) = ap erase_left erases.is in
    let most = left_begun (chip_target e.target) set s free in
    let limits = limit_is f s e.target part in
    omega (arith, left, most, limits, fresh)

-- they are those of the chip's own pace
left_erasing : (target : ChipTarget) (set : Set) (s t : ChipState) → s.held ≡ NotHeld → IsErasing set target s t
    → erase_left t ≡ left_at_start (work_of target) s.part.pace_erase s.part.table
left_erasing target set s t free erases =
    let left : erase_left t ≡ erase_left (erasing set target s) = ap erase_left erases.is in
    let none : held_left s.held ≡ 0 = ap held_left free in
    omega (arith, left, none)

-- as the call that opens it says
opened_so : (caller : ℕ) (op : Op) (e : Erasing) (part : Part) → IsNew caller op (Some e)
    → left_at_start (work_of (chip_target e.target)) part.pace_erase part.table ≡ start_left op part
opened_so caller (EraseOpen b) e part is = ap (λ (t : Target). left_at_start (work_of (chip_target t)) part.pace_erase part.table) is.0
opened_so caller EraseAll e part is = ap (λ (t : Target). left_at_start (work_of (chip_target t)) part.pace_erase part.table) is.0
opened_so caller (Read at len) e part is = absurd is
opened_so caller (Program at new) e part is = absurd is
opened_so caller Poll e part is = absurd is
opened_so caller (Lock b) e part is = absurd is
opened_so caller (Unlock b) e part is = absurd is
opened_so caller (IsLocked b) e part is = absurd is
opened_so caller (Arm cut mask) e part is = absurd is
opened_so caller PowerOn e part is = absurd is

-- ---- bytes of a bank whose chips have the same cells

pub same_bytes : (width : ℕ) (device : Device) (old new : BusState) (p : ℕ) → IsBank width device old.lanes → lanes_of new ≡ lanes_of old
    → ((c q : ℕ) → c < lanes_of old → slice_index (lane new c).cells q ≡ slice_index (lane old c).cells q) → bank_byte device new.lanes p ≡ bank_byte device old.lanes p
same_bytes width device old new p bank count same =
    let d = unit_len device in
    let c = lane_at (lanes_of old) d p in
    let q = place_at (lanes_of old) d p in
    let below : c < lanes_of old = lane_at_below (lanes_of old) d p (some_lane width device old.lanes bank) in
    ap (λ (n : ℕ). slice_index (chip_at new.lanes (lane_at n d p)).cells (place_at n d p)) count ∙ same c q below

-- ---- the bank

-- Every chip has begun to erase, and the bank keeps the erase.
pub record Begins (least most : ℕ) (mid new : BankState) (e : Erasing) : Type 0 where
  pub kept : new ≡ record mid { bus = new.bus; erase = Some e }
  pub went : Went least most mid.bus new.bus
  pub there : IsThere e.target (blocks_of mid.found)
  pub fresh : e.polls ≡ 0
  pub run : (c : ℕ) → c < mid.found.geometry.lanes → state_at e.lanes c ≡ Running
  pub begun : EachLane (IsErasing mid.found.query.set (chip_target e.target)) mid.bus new.bus

module _ (least most : ℕ) (mid new : BankState) (e : Erasing) (a : ArrayState) (begins : Begins least most mid new e) (stands : Stands mid a)
    (running : mid.halted ≡ None) (closed : mid.erase ≡ None) where
  f : Found
  f = mid.found

  on : IsOn mid a
  on = is_on_now mid a stands running

  quiet : AllLanes IsQuiet mid.bus
  quiet = quiet_now mid a on closed

  there : (c : ℕ) → c < lanes_of new.bus → c < lanes_of mid.bus
  there c below = subst (λ (n : ℕ). c < n) begins.went.kept.count below

  set_is : (c : ℕ) → c < lanes_of mid.bus → (lane mid.bus c).part.set ≡ mid.found.query.set
  set_is c below = (known_parts mid.found mid.bus stands.known c below).set

  stays : EachLane StaysKnown mid.bus new.bus
  stays c below =
      let is = (begins.begun c below).is in
      let size : length (lane new.bus c).cells ≡ length (lane mid.bus c).cells = ap (λ (x : ChipState). length x.cells) is in
      let bytes : AreBytes (lane new.bus c).cells = subst (λ (x : ChipState). AreBytes x.cells) (sym is) (bytes_known mid.found mid.bus stands.known c below) in
      stays_locked (lane mid.bus c) (lane new.bus c) (ap (λ (x : ChipState). x.part) is) (ap (λ (x : ChipState). x.locks) is) size bytes

  runs_here : (c : ℕ) → c < lanes_of mid.bus → state_at e.lanes c ≡ Running
  runs_here c below = begins.run c (subst (λ (n : ℕ). c < n) (known_own mid.found mid.bus stands.known).count below)

  under_erase : IsUnderErase mid.found e new.bus
  under_erase = record {
    there = begins.there;
    each = λ c below.
        let mine = there c below in
        subst (λ (st : LaneState). LaneIs st (chip_target e.target) (lane new.bus c)) (sym (runs_here c mine)) (begins.begun c mine).runs;
    not_mixed = λ c k below other runs held. absurd (let both : Running ≡ Suspended = sym (runs_here k (there k other)) ∙ held in cc);
    enough = λ c below.
        let mine = there c below in
        enough_begun mid.found e mid.found.query.set (lane mid.bus c) (lane new.bus c) (known_parts mid.found mid.bus stands.known c mine) begins.fresh (quiet c mine).held
        (begins.begun c mine);
    named = λ c below.
        let mine = there c below in
        ap (λ (x : ChipState). names_job x.fault) (begins.begun c mine).is ∙ fault_named (lane mid.bus c).fault (quiet c mine).shown.fault;
    shown = λ none.
        let some = known_some mid.found mid.bus stands.known in
        absurd (none 0 (subst (λ (n : ℕ). 0 < n) (sym begins.went.kept.count) some) (runs_here 0 some));
  }

  opened : ArrayState
  opened = record a { under = Some (record { target = e.target; caller = e.caller }) }

  begun_bank : BankState
  begun_bank = record mid { bus = new.bus; erase = Some e }

  now_on : IsOn begun_bank opened
  unfolding begun_bank opened
  now_on = record {
    power = begins.went.power on.power;
    waits = λ c below.
        let mine = there c below in
        waits_begun mid.found.query.set (chip_target e.target) (lane mid.bus c) (lane new.bus c) (set_is c mine) (quiet c mine) (begins.begun c mine);
    cut = cut_nearer least most mid.after mid.bus.armed new.bus.armed a.armed begins.went.armed on.cut;
    erase = under_erase;
  }

  stands_begun : Stands begun_bank opened
  unfolding begun_bank opened
  stands_begun = record {
    known = known_lasts mid.found mid.bus new.bus begins.went.kept.count stays stands.known;
    consts = stands.consts ∙ sym (constants_last mid.found mid.bus new.bus a.consts.locked begins.went.kept.count (λ c below. (stays c below).part));
    opened = stands.opened;
    size = stands.size;
    bytes = λ p below _.
        byte_now mid a p stands closed below
        ∙ sym (same_bytes _ mid.found.geometry.device mid.bus new.bus p (known_own mid.found mid.bus stands.known).bank begins.went.kept.count (λ c q mine. ap (λ (x : ChipState). slice_index x.cells q) (begins.begun c mine).is));
    locks = λ c below. let mine = there c below in ap (λ (x : ChipState). x.locks) (begins.begun c mine).is ∙ stands.locks c mine;
    lock_count = stands.lock_count;
    power = stands.power;
    under = refl;
    now = subst (λ (h : Option HaltCause). PowerIs h (record mid { bus = new.bus; erase = Some e }) (record a { under = Some (record { target = e.target; caller = e.caller }) })) (sym running) now_on;
  }

  -- It stands for the array with it under erase.
  pub stands_opened : Stands new (record a { under = Some (record { target = e.target; caller = e.caller }) })
  unfolding begun_bank opened
  stands_opened = subst (λ (b : BankState). Stands b (record a { under = Some (record { target = e.target; caller = e.caller }) })) (sym begins.kept) stands_begun

  -- Each lane has counted an erase.
  pub counts_opened : EachLane (λ s t. (t.erases ≡ counted s.erases) × (t.suspends ≡ s.suspends)) mid.bus new.bus
  counts_opened c below = (ap (λ (x : ChipState). x.erases) (begins.begun c below).is, ap (λ (x : ChipState). x.suspends) (begins.begun c below).is)

  -- Its reads left are those of the chip's own pace.
  pub left_opened : (caller : ℕ) (op : Op) → IsNew caller op (Some e) → EachLane (λ s t. erase_left t ≡ start_left op s.part) mid.bus new.bus
  left_opened caller op is c below =
      let s = lane mid.bus c in
      left_erasing (chip_target e.target) mid.found.query.set s (lane new.bus c) (quiet c below).held (begins.begun c below) ∙ opened_so caller op e s.part is
