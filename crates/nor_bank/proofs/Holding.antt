-- What a bank stands for, by what its chips hold.
use Rattle.std.proofs.Common.{◌≡◌, ◌<◌, ◌≤◌, ◌+◌, ◌-◌, ◌*◌, inl, inr, ℕ, List, [], ◌∷◌, ◌++◌, length, take, drop, slice_index, slice_set, refl, sym, ◌∙◌, ap, subst, arith, Bool, true, false, Option, Some, None}
use Rattle.std.specs.Prelude.{◌&&◌, nat_le, nat_lt, slice_index_or}
use Rattle.nor_cell.specs.Bits.{AreBytes, unit_len}
use Rattle.std.proofs.lemmas.Bool.{cases_lt}
use Rattle.std.proofs.lemmas.List.{get_or_past, length-set}
use Rattle.std.proofs.Math.Seq.{take-append_seam, drop-append_seam}
use Rattle.std.proofs.Math.Nat.{eq_of_mul-eq-mul_left}
use Rattle.nor_cell.specs.Chip.{Part, Target as ChipTarget, OneBlock, AllBlocks, block, no_span, covered, is_within, span_end}
use Rattle.nor_cell.proofs.Spans.{block_inside}
use Rattle.nor_region.proofs.Following.{following}
use Rattle.nor_cell.specs.Between.{IsShown}
use Rattle.nor_cell.specs.Power.{is_erasing_at}
use Rattle.nor_cell.specs.Steps.{Remains}
use Rattle.nor_cell.specs.Wiring.{bank_place, lane_at, place_at}
use Rattle.nor_cell.specs.declared.device.Span.{Span}
use Rattle.nor_cell.proofs.Logic.{some_bytes, fails_behind}
use Rattle.nor_lane.proofs.Places.{bank_place-place_at, lane_at_below, bank_place_below}
use Rattle.nor_query.specs.Derived.{locks_of}
use Rattle.nor_bus.specs.Bus.{BusState, lane, lanes_of, units_of, bank_byte}
use Rattle.nor_bus.specs.Cycles.{KeepsLanes}
use Rattle.nor_bus.specs.Driven.{AllLanes, EachLane, Went}
use Rattle.nor_poll.specs.Toggles.{names_job}
use Rattle.nor_poll.specs.UnderErase.{KeepsOutside, state_at}
use Rattle.nor_probe.specs.declared.probing.Found.{Found}
use Rattle.nor_array.specs.Array.{ArrayState, Constants, chip_target, erase_span, open_span, put}
use Rattle.nor_array.specs.declared.state.OpenErase.{OpenErase}
use Rattle.nor_array.specs.After.{after, after_halted, closed, left_by, names_locked, power_of, with_lock}
use Rattle.nor_array.specs.Admits.{IsArmed, lock_byte}
use Rattle.nor_array.proofs.Arrays.{all_covered}
use Rattle.nor_array.proofs.Puts.{length-put, put_below, put_inside, put_above}
use Rattle.nor_array.specs.declared.state.ArmedCut.{ArmedCut}
use Rattle.nor_array.specs.declared.state.Power.{Power}
use Rattle.nor_array.specs.declared.state.Power.TheVariants.{On}
use Rattle.nor_array.specs.declared.entry.Halted.TheVariants.{Off, Stuck}
use Rattle.nor_array.specs.declared.entry.Halted.{Halted as HaltCause}
use Rattle.nor_array.specs.declared.entry.Op.{Op}
use Rattle.nor_array.specs.declared.entry.Op.TheVariants.{Read, Program, EraseOpen, EraseAll, Poll, Lock, Unlock, IsLocked, Arm, PowerOn}
use Rattle.nor_array.specs.declared.entry.Reply.TheVariants.{Halted}
use Rattle.nor_bank.specs.Calls.{entry_of, stands_locked, left_by_halt, left_in_erase, left_of}
use Rattle.nor_bank.specs.Refused.{Works}
use Rattle.nor_bank.specs.Stands.{Stands, IsKnown, IsOn, PowerIs, EraseIs, is_under, under_of, kept_power}
use Rattle.nor_bank.specs.State.{BankState, size_of, blocks_of, byte_of, bytes_of, erase_limit}
use Rattle.nor_bank.specs.declared.kept.Erasing.{Erasing}
use Rattle.nor_bank.specs.Way.{Holds, HoldsAll}
use Rattle.nor_bank.specs.Work.{with_bus, refusal_of}
use Rattle.nor_bank.proofs.BankBytes.{length-bank_bytes, bank_bytes-at}
use Rattle.nor_bank.proofs.Beginning.{lies_in, may_work}
use Rattle.nor_bank.proofs.HoldingLanes.{Serves, KeepsPart, left_served, lane_served}
use Rattle.nor_bank.proofs.Known.{blocks_follow, known_own, known_parts, known_size, known_some}
use Rattle.nor_bank.proofs.Lasting.{StaysKnown, stays_locked, known_lasts, constants_last}
use Rattle.nor_bank.proofs.Standing.{is_on_now, bytes_known, shown_waits, cut_nearer}
pub use Rattle.nor_bank.proofs.HoldingPlaces.{byte_of_place, lane_below, under_kept, under_place, not_erasing}
use Rattle.nor_bank.proofs.HoldingPlaces.{and_none, fails_above}

-- ---- what the chips hold, and what the bank keeps besides

pub holds_all : (b : BankState) (a : ArrayState) → Stands b a → HoldsAll b a
holds_all b a stands = record { known = stands.known; consts = stands.consts; bytes = λ p below outside spared. stands.bytes p below outside; locks = stands.locks }

-- The array's sizes, its power and what is under erase are as the bank keeps them.
pub record Fits (b : BankState) (a : ArrayState) : Type 0 where
  pub opened : length a.consts.locked ≡ length (blocks_of b.found)
  pub size : length a.bytes ≡ size_of b.found
  pub lock_count : length a.locks ≡ length (blocks_of b.found)
  pub power : a.power ≡ kept_power b.halted
  pub under : a.under ≡ under_of b.erase

pub fits : (b : BankState) (a : ArrayState) → Stands b a → Fits b a
fits b a stands = record { opened = stands.opened; size = stands.size; lock_count = stands.lock_count; power = stands.power; under = stands.under }

pub stands_by : (b : BankState) (a : ArrayState) → Fits b a → HoldsAll b a → PowerIs b.halted b a → Stands b a
stands_by b a fit holds now = record {
  known = holds.known;
  consts = holds.consts;
  opened = fit.opened;
  size = fit.size;
  bytes = λ p below outside. holds.bytes p below outside refl;
  locks = holds.locks;
  lock_count = fit.lock_count;
  power = fit.power;
  under = fit.under;
  now = now;
}

-- ---- chips that are what they were

-- With these locks, and their bytes as they were but for what is under erase and what is spared.
pub holds_kept : (spared : ℕ → Bool) (locked : List Bool) (b new : BankState) (a : ArrayState) → Stands b a → b.halted ≡ None → new.found ≡ b.found
    → lanes_of new.bus ≡ lanes_of b.bus → EachLane StaysKnown b.bus new.bus
    → ((c p : ℕ) → c < lanes_of b.bus → is_erasing_at (lane b.bus c) p ≡ false
    → spared (bank_place b.found.geometry.lanes (unit_len b.found.geometry.device) c p) ≡ false
    → slice_index (lane new.bus c).cells p ≡ slice_index (lane b.bus c).cells p)
    → AllLanes (λ s. s.locks ≡ locked) new.bus → Holds spared locked new a
holds_kept spared locked b new a stands running found count each still locks =
    let f = b.found in
    let d = unit_len f.geometry.device in
    let own = known_own f b.bus stands.known in
    let byte : (p : ℕ) → p < size_of f → is_under a.under a.consts p ≡ false → spared p ≡ false → slice_index a.bytes p ≡ bank_byte f.geometry.device new.bus.lanes p =
    λ p below outside spare.
    let g = f.geometry.lanes in
    let c = lane_at g d p in
    let q = place_at g d p in
    let place : bank_place g d c q ≡ p = bank_place-place_at g d p (some_bytes f.geometry.device) in
    let some : 0 < g = subst (λ (m : ℕ). 0 < m) own.count (known_some f b.bus stands.known) in
    let low : c < g = lane_at_below g d p some in
    let there : c < lanes_of b.bus = subst (λ (m : ℕ). c < m) (sym own.count) low in
    let calm = not_erasing b a stands running c q there (ap (λ (k : ℕ). is_under a.under a.consts k) place ∙ outside) in
    let same = still c q there calm (ap spared place ∙ spare) in
    stands.bytes p below outside
    ∙ (ap (λ (k : ℕ). bank_byte f.geometry.device b.bus.lanes k) (sym place)
    ∙ (byte_of_place f.geometry.device b.bus.lanes g c q own.count low
    ∙ (sym same
    ∙ (sym (byte_of_place f.geometry.device new.bus.lanes g c q (count ∙ own.count) low)
    ∙ ap (λ (k : ℕ). bank_byte f.geometry.device new.bus.lanes k) place)))) in
    let here : Holds spared locked (record new { found = b.found }) a = record {
      known = known_lasts f b.bus new.bus count each stands.known;
      consts = stands.consts ∙ sym (constants_last f b.bus new.bus a.consts.locked count (λ c below. (each c below).part));
      bytes = byte;
      locks = locks;
    } in
    subst (λ (x : Found). Holds spared locked (record new { found = x }) a) (sym found) here

-- Nothing has changed but what is under erase.
pub holds_outside : (b new : BankState) (a : ArrayState) → Stands b a → b.halted ≡ None → new.found ≡ b.found → KeepsLanes b.bus new.bus
    → EachLane Remains b.bus new.bus → EachLane KeepsOutside b.bus new.bus → HoldsAll new a
holds_outside b new a stands running found kept remains outside =
    let small = bytes_known b.found b.bus stands.known in
    holds_kept (λ p. false) a.locks b new a stands running found kept.count
    (λ c below. stays_locked (lane b.bus c) (lane new.bus c) (remains c below).part (remains c below).locks (remains c below).size ((kept.each c below).bytes (small c below)))
    (λ c q below calm spare. outside c below q calm)
    (λ c below. let there : c < lanes_of b.bus = subst (λ (m : ℕ). c < m) kept.count below in (remains c there).locks ∙ stands.locks c there)

-- ---- chips that did a call's work

module _ (b : BankState) (bus : BusState) (a : ArrayState) (stands : Stands b a) (shown : AllLanes IsShown b.bus) (kept : KeepsLanes b.bus bus) (serves : EachLane Serves b.bus bus)
    (under : (p : ℕ) → p < size_of b.found → is_under a.under a.consts p ≡ true → bank_byte b.found.geometry.device bus.lanes p ≡ byte_of b p) where
  -- what is under erase of a chip has the bytes that it had
  keeps_part : (e : Erasing) → b.erase ≡ Some e → EachLane (KeepsPart (chip_target e.target)) b.bus bus
  keeps_part e is c below q inside =
      let f = b.found in
      let g = f.geometry.lanes in
      let d = unit_len f.geometry.device in
      let own = known_own f b.bus stands.known in
      let low = lane_below b a stands c below in
      let part = known_parts f b.bus stands.known c below in
      let size = part.size in
      let whole = known_size f b.bus stands.known in
      let turned : g * (units_of b.bus * d) ≡ units_of b.bus * (g * d) = omega arith in
      let units : length (lane b.bus c).cells ≡ units_of b.bus * d =
      eq_of_mul-eq-mul_left g (let l : 0 < g = omega (arith, low) in l) (length (lane b.bus c).cells) (units_of b.bus * d) (size ∙ (sym whole ∙ sym turned)) in
      elim (cases_lt q (length (lane b.bus c).cells)) [
        | inl less ↦
            let below_size : bank_place g d c q < size_of f =
            subst (λ (m : ℕ). bank_place g d c q < m) size (bank_place_below g d (units_of b.bus) (length (lane b.bus c).cells) c q (some_bytes f.geometry.device) low units less) in
            sym (byte_of_place f.geometry.device bus.lanes g c q (kept.count ∙ own.count) low)
            ∙ (under (bank_place g d c q) below_size (under_place b a stands e is c q below ∙ inside)
            ∙ byte_of_place f.geometry.device b.bus.lanes g c q own.count low)
        | inr past ↦
            let size_now = (kept.each c below).size in
            get_or_past (lane bus c).cells q 0 (omega (arith, past, size_now)) ∙ sym (get_or_past (lane b.bus c).cells q 0 past)
      ]

  erase_served : (erase : Option Erasing) → b.erase ≡ erase → EraseIs erase b.found b.bus → EraseIs erase b.found bus
  erase_served None is quiet = λ c below.
      let there : c < lanes_of b.bus = subst (λ (m : ℕ). c < m) kept.count below in
      record { shown = (serves c there).shown; held = (serves c there).held ∙ (quiet c there).held }
  erase_served (Some e) is was =
      let there = λ (c : ℕ) (below : c < lanes_of bus). subst (λ (m : ℕ). c < m) kept.count below in
      record {
        there = was.there;
        each = λ c below.
            let mine = there c below in
            lane_served (chip_target e.target) (lane b.bus c) (lane bus c) (shown c mine) (serves c mine) (kept.each c mine).part (keeps_part e is c mine)
            (state_at e.lanes c) (was.each c mine);
        not_mixed = λ c k below other. was.not_mixed c k (there c below) (there k other);
        enough = λ c below free some.
            let mine = there c below in
            let left = left_served (lane b.bus c) (lane bus c) (shown c mine) (serves c mine) in
            let was_free : (lane b.bus c).part.stuck ≡ false = ap (λ (x : Part). x.stuck) (sym (kept.each c mine).part) ∙ free in
            subst (λ (m : ℕ). m + e.polls + 16 ≤ erase_limit b.found e.target) (sym left)
            (was.enough c mine was_free (subst (λ (m : ℕ). 0 < m) left some));
        named = λ c below. ap names_job (serves c (there c below)).shown.fault;
        shown = λ none c below. (serves c (there c below)).shown;
      }

-- With these bytes outside what is under erase, and these locks, the bank stands for the array that has them.
pub stands_served : (b : BankState) (bus : BusState) (a : ArrayState) (bytes : List ℕ) (locks : List Bool) (least most : ℕ) → Stands b a → b.halted ≡ None
    → AllLanes IsShown b.bus → Went least most b.bus bus → EachLane Serves b.bus bus
    → (locks_of b.found.query.extended ≡ false → locks ≡ a.locks) → length locks ≡ length a.locks → AllLanes (λ s. s.locks ≡ locks) bus
    → length bytes ≡ size_of b.found
    → ((p : ℕ) → p < size_of b.found → is_under a.under a.consts p ≡ true → bank_byte b.found.geometry.device bus.lanes p ≡ byte_of b p)
    → ((p : ℕ) → p < size_of b.found → is_under a.under a.consts p ≡ false → slice_index bytes p ≡ bank_byte b.found.geometry.device bus.lanes p)
    → Stands (with_bus b bus) (record a { bytes = bytes; locks = locks })
stands_served b bus a bytes locks least most stands running shown went serves unoffered count are size under outside =
    let f = b.found in
    let on = is_on_now b a stands running in
    let kept = went.kept in
    let small = bytes_known f b.bus stands.known in
    let there = λ (c : ℕ) (below : c < lanes_of bus). subst (λ (m : ℕ). c < m) kept.count below in
    let back = λ (c : ℕ) (below : c < lanes_of b.bus). subst (λ (m : ℕ). c < m) (sym kept.count) below in
    let stays : EachLane StaysKnown b.bus bus = λ c below. record {
      part = (kept.each c below).part;
      size = (kept.each c below).size;
      bytes = (kept.each c below).bytes (small c below);
      locks = (kept.each c below).locks;
      unlocked = λ none was k.
          let same : (lane bus c).locks ≡ (lane b.bus c).locks =
          are c (back c below) ∙ (unoffered (sym (known_parts f b.bus stands.known c below).offers ∙ none) ∙ sym (stands.locks c below)) in
          ap (λ (ls : List Bool). slice_index_or ls k false) same ∙ was k;
    } in
    let now : IsOn (with_bus b bus) (record a { bytes = bytes; locks = locks }) = record {
      power = went.power on.power;
      waits = λ c below. shown_waits (lane bus c) (serves c (there c below)).shown;
      cut = cut_nearer least most b.after b.bus.armed bus.armed a.armed went.armed on.cut;
      erase = erase_served b bus a stands shown kept serves under b.erase refl on.erase;
    } in
    record {
      known = known_lasts f b.bus bus kept.count stays stands.known;
      consts = stands.consts ∙ sym (constants_last f b.bus bus a.consts.locked kept.count (λ c below. (kept.each c below).part));
      opened = stands.opened;
      size = size;
      bytes = outside;
      locks = are;
      lock_count = count ∙ stands.lock_count;
      power = stands.power;
      under = stands.under;
      now = subst (λ (h : Option HaltCause). PowerIs h (with_bus b bus) (record a { bytes = bytes; locks = locks })) (sym running) now;
    }

-- Nothing has changed but how the chips were asked.
pub stands_same : (b : BankState) (bus : BusState) (a : ArrayState) (least most : ℕ) → Stands b a → b.halted ≡ None
    → AllLanes IsShown b.bus → Went least most b.bus bus → EachLane Serves b.bus bus → EachLane (λ s t. (t.cells ≡ s.cells) × (t.locks ≡ s.locks)) b.bus bus
    → Stands (with_bus b bus) a
stands_same b bus a least most stands running shown went serves same =
    let f = b.found in
    let d = unit_len f.geometry.device in
    let there = λ (c : ℕ) (below : c < lanes_of bus). subst (λ (m : ℕ). c < m) went.kept.count below in
    let own = known_own f b.bus stands.known in
    let byte : (p : ℕ) → bank_byte f.geometry.device bus.lanes p ≡ byte_of b p = λ p.
    let g = f.geometry.lanes in
    let c = lane_at g d p in
    let q = place_at g d p in
    let place : bank_place g d c q ≡ p = bank_place-place_at g d p (some_bytes f.geometry.device) in
    let some : 0 < g = subst (λ (m : ℕ). 0 < m) own.count (known_some f b.bus stands.known) in
    let low : c < g = lane_at_below g d p some in
    let mine : c < lanes_of b.bus = subst (λ (m : ℕ). c < m) (sym own.count) low in
    ap (λ (k : ℕ). bank_byte f.geometry.device bus.lanes k) (sym place)
    ∙ (byte_of_place f.geometry.device bus.lanes g c q (went.kept.count ∙ own.count) low
    ∙ (ap (λ (xs : List ℕ). slice_index xs q) (same c mine).0
    ∙ (sym (byte_of_place f.geometry.device b.bus.lanes g c q own.count low)
    ∙ ap (λ (k : ℕ). bank_byte f.geometry.device b.bus.lanes k) place))) in
    stands_served b bus a a.bytes a.locks least most stands running shown went serves (λ none. refl) refl
    (λ c below. (same c (there c below)).1 ∙ stands.locks c (there c below)) stands.size
    (λ p below under. byte p) (λ p below outside. stands.bytes p below outside ∙ sym (byte p))

-- ---- a first halt

-- the range of a program may have become anything, and so may the lock of a lock call
abbrev pub spared_by : Op → ℕ → Bool
spared_by (Program at new) p = nat_le at p && nat_lt p (at + length new)
spared_by _ p = false

abbrev pub locks_by : Op → BankState → List Bool → List Bool
locks_by (Lock k) new locks = slice_set locks k (stands_locked new k)
locks_by (Unlock k) new locks = slice_set locks k (stands_locked new k)
locks_by _ new locks = locks

-- What the chips hold is bytes.
pub bytes_small : (b : BankState) → IsKnown b.found b.bus → (from len : ℕ) → AreBytes (bytes_of b from len)
bytes_small b known from len i = elim (cases_lt i len) [
  | inl less ↦
      let device = b.found.geometry.device in
      let d = unit_len device in
      let at = from + i in
      let c = lane_at (lanes_of b.bus) d at in
      let below : c < lanes_of b.bus = lane_at_below (lanes_of b.bus) d at (known_some b.found b.bus known) in
      subst (λ (x : ℕ). x < 256) (sym (bank_bytes-at device b.bus.lanes from len i less)) (bytes_known b.found b.bus known c below (place_at (lanes_of b.bus) d at))
  | inr past ↦
      let count : length (bytes_of b from len) ≡ len = length-bank_bytes b.found.geometry.device b.bus.lanes from len in
      let none : slice_index (bytes_of b from len) i ≡ 0 = get_or_past (bytes_of b from len) i 0 (omega (arith, count, past)) in
      omega (arith, none)
]

-- what is erased lies in the bank
covered_fits : (f : Found) (target : ChipTarget) → span_end (covered target (blocks_of f)) ≤ size_of f
covered_fits f (OneBlock k) = elim (cases_lt k (length (blocks_of f))) [
  | inl there ↦ block_inside (size_of f) (blocks_of f) k no_span (following (size_of f) (blocks_of f) (blocks_follow f)) there
  | inr past ↦
      let none : block (blocks_of f) k ≡ no_span = get_or_past (blocks_of f) k no_span past in
      let end = ap (λ (s : Span). span_end s) none in omega (arith, end)
]
covered_fits f AllBlocks = let end = all_covered (size_of f) (blocks_of f) (blocks_follow f) in omega (arith, end)

-- what the array says nothing of is the open span
under_span : (under : Option OpenErase) (consts : Constants) (p : ℕ) → is_under under consts p ≡ is_within (erase_span under consts) p
under_span None consts p = sym (and_none (nat_le 0 p) (nat_lt p 0) (inr (fails_behind p 0 (omega arith))))
under_span (Some e) consts p = refl

-- the array after a halt that leaves these bytes, in what was under erase and of the call's own work
abbrev halted_to : Op → HaltCause → (front back : List ℕ) → ArrayState → ArrayState
halted_to op cause front back a = record (left_by op back (closed front a)) { power = power_of cause }

module _ (old new : BankState) (a : ArrayState) (stands : Stands old a) (found : new.found ≡ old.found) where
  span : Span
  span = open_span a

  open_fits : span_end (open_span a) ≤ size_of old.found
  open_fits = by old.erase stands.under
    where
      by : (erase : Option Erasing) → a.under ≡ under_of erase → span_end (open_span a) ≤ size_of old.found
      by None under = let end = ap (λ (u : Option OpenErase). span_end (erase_span u a.consts)) under in omega (arith, end)
      by (Some e) under =
          let end : span_end (open_span a) ≡ span_end (covered (chip_target e.target) (blocks_of old.found)) =
          ap (λ (u : Option OpenErase). span_end (erase_span u a.consts)) under
          ∙ ap (λ (k : Constants). span_end (covered (chip_target e.target) k.blocks)) stands.consts in
          let fits = covered_fits old.found (chip_target e.target) in
          omega (arith, end, fits)

  -- what the chips hold of it
  pub left_is : left_in_erase old.erase new ≡ bytes_of new (open_span a).from (open_span a).len
  left_is = by old.erase stands.under
    where
      by : (erase : Option Erasing) → a.under ≡ under_of erase → left_in_erase erase new ≡ bytes_of new (open_span a).from (open_span a).len
      by None under = sym (ap (λ (u : Option OpenErase). bytes_of new (erase_span u a.consts).from (erase_span u a.consts).len) under)
      by (Some e) under =
          let same : covered (chip_target e.target) (blocks_of new.found) ≡ open_span a =
          ap (λ (f : Found). covered (chip_target e.target) (blocks_of f)) found
          ∙ (sym (ap (λ (k : Constants). covered (chip_target e.target) k.blocks) stands.consts)
          ∙ sym (ap (λ (u : Option OpenErase). erase_span u a.consts) under)) in
          ap (λ (s : Span). bytes_of new s.from s.len) same

  pub left_count : length (left_in_erase old.erase new) ≡ (open_span a).len
  left_count = ap (λ (xs : List ℕ). length xs) left_is ∙ length-bank_bytes new.found.geometry.device new.bus.lanes (open_span a).from (open_span a).len

  module _ (cause : HaltCause) (halted : new.halted ≡ Some cause) (closed_now : new.erase ≡ None) (now : PowerIs (Some cause) new a) where
    power_same : (c : HaltCause) (x : ArrayState) → x.armed ≡ a.armed → PowerIs (Some c) new a → PowerIs (Some c) new x
    power_same (Off n) x same is = (is.0, subst (λ (cut : Option ArmedCut). IsArmed cut n) (sym same) is.1, is.2)
    power_same (Stuck k) x same is = is

    stands_at : (spared : ℕ → Bool) (bytes : List ℕ) (locks : List Bool) → Holds spared locks new a → length bytes ≡ size_of old.found → length locks ≡ length a.locks
        → ((p : ℕ) → p < size_of old.found → slice_index bytes p ≡ byte_of new p)
        → Stands new (record a { bytes = bytes; locks = locks; under = None; power = power_of cause })
    stands_at spared bytes locks holds size count each =
        let x : ArrayState = record a { bytes = bytes; locks = locks; under = None; power = power_of cause } in
        let blocks : length (blocks_of old.found) ≡ length (blocks_of new.found) = ap (λ (f : Found). length (blocks_of f)) (sym found) in
        let all : size_of old.found ≡ size_of new.found = ap (λ (f : Found). size_of f) (sym found) in
        stands_by new x
        (record {
          opened = stands.opened ∙ blocks;
          size = size ∙ all;
          lock_count = count ∙ (stands.lock_count ∙ blocks);
          power = ap kept_power (sym halted);
          under = ap under_of (sym closed_now);
        })
        (record {
          known = holds.known;
          consts = holds.consts;
          bytes = λ p below outside spare. each p (subst (λ (m : ℕ). p < m) (sym all) below);
          locks = holds.locks;
        })
        (subst (λ (h : Option HaltCause). PowerIs h new x) (sym halted) (power_same cause x refl now))

    front : List ℕ
    front = left_in_erase old.erase new

    -- what was under erase gets the bytes that the chips hold
    first : List ℕ
    first = put a.bytes (open_span a).from front

    fits_first : (open_span a).from + length front ≤ length a.bytes
    unfolding front
    fits_first = let count = left_count in let fits = open_fits in let size = stands.size in omega (arith, count, fits, size)

    first_size : length first ≡ size_of old.found
    unfolding first
    first_size = length-put a.bytes (open_span a).from front fits_first ∙ stands.size

    module _ (spared : ℕ → Bool) (locks : List Bool) (holds : Holds spared locks new a) where
      first_holds : (p : ℕ) → p < size_of old.found → spared p ≡ false → slice_index first p ≡ byte_of new p
      unfolding first front
      first_holds p below spare =
          let from = (open_span a).from in
          let count = left_count in
          let size : size_of old.found ≡ size_of new.found = ap (λ (f : Found). size_of f) (sym found) in
          let outside = λ (out : is_within (open_span a) p ≡ false). holds.bytes p (subst (λ (m : ℕ). p < m) size below) (under_span a.under a.consts p ∙ out) spare in
          elim (cases_lt p from) [
            | inl low ↦ put_below a.bytes from front fits_first p low ∙ outside (and_none (nat_le from p) (nat_lt p (span_end (open_span a))) (inl (fails_above from p low)))
            | inr high ↦ elim (cases_lt p (from + length front)) [
              | inl inside ↦
                  let near : p - from < (open_span a).len = omega (arith, count, inside, high) in
                  let place : from + (p - from) ≡ p = omega (arith, high) in
                  put_inside a.bytes from front fits_first p high inside
                  ∙ (ap (λ (xs : List ℕ). slice_index xs (p - from)) left_is
                  ∙ (bank_bytes-at new.found.geometry.device new.bus.lanes from (open_span a).len (p - from) near
                  ∙ ap (λ (q : ℕ). byte_of new q) place))
              | inr past ↦ put_above a.bytes from front fits_first p past
                  ∙ outside (and_none (nat_le from p) (nat_lt p (span_end (open_span a))) (inr (fails_behind p (span_end (open_span a)) (omega (arith, count, past)))))
            ]
          ]

    -- a call that has no work of its own, or left none
    plain : Holds (λ p. false) a.locks new a → Stands new (record (closed front a) { power = power_of cause })
    unfolding first
    plain holds = stands_at (λ p. false) first a.locks holds first_size refl (λ p below. first_holds (λ p. false) a.locks holds p below refl)

    -- a program
    programming : (at : ℕ) (data_in : List ℕ) → at + length data_in ≤ size_of old.found → Holds (spared_by (Program at data_in)) a.locks new a
        → Stands new (halted_to (Program at data_in) cause front (bytes_of new at (length data_in)) a)
    unfolding first
    programming at data_in fits holds =
        let back = bytes_of new at (length data_in) in
        let count : length back ≡ length data_in = length-bank_bytes new.found.geometry.device new.bus.lanes at (length data_in) in
        let sized = first_size in
        let room : at + length back ≤ length first = omega (arith, count, sized, fits) in
        stands_at (spared_by (Program at data_in)) (put first at back) a.locks holds (length-put first at back room ∙ first_size) refl
        (λ p below. elim (cases_lt p at) [
          | inl low ↦ put_below first at back room p low
              ∙ first_holds (spared_by (Program at data_in)) a.locks holds p below (and_none (nat_le at p) (nat_lt p (at + length data_in)) (inl (fails_above at p low)))
          | inr high ↦ elim (cases_lt p (at + length back)) [
            | inl inside ↦
                let near : p - at < length data_in = omega (arith, count, inside, high) in
                let place : at + (p - at) ≡ p = omega (arith, high) in
                put_inside first at back room p high inside
                ∙ (bank_bytes-at new.found.geometry.device new.bus.lanes at (length data_in) (p - at) near ∙ ap (λ (q : ℕ). byte_of new q) place)
            | inr past ↦ put_above first at back room p past
                ∙ first_holds (spared_by (Program at data_in)) a.locks holds p below
                (and_none (nat_le at p) (nat_lt p (at + length data_in)) (inr (fails_behind p (at + length data_in) (omega (arith, count, past)))))
          ]
        ])

    -- a lock call
    named : (locked : Bool) → names_locked (lock_byte locked ∷ []) ≡ locked
    named true = refl
    named false = refl

    locking : (k : ℕ) → Holds (λ p. false) (slice_set a.locks k (stands_locked new k)) new a
        → Stands new (record (with_lock k (names_locked (lock_byte (stands_locked new k) ∷ [])) (closed front a)) { power = power_of cause })
    unfolding first
    locking k holds =
        subst (λ (l : Bool). Stands new (record (with_lock k l (closed front a)) { power = power_of cause })) (sym (named (stands_locked new k)))
        (stands_at (λ p. false) first (slice_set a.locks k (stands_locked new k)) holds first_size (length-set a.locks k (stands_locked new k))
        (λ p below. first_holds (λ p. false) (slice_set a.locks k (stands_locked new k)) holds p below refl))

    halting_by : (op : Op) → ((at : ℕ) (data_in : List ℕ) → op ≡ Program at data_in → at + length data_in ≤ size_of old.found)
        → Holds (spared_by op) (locks_by op new a.locks) new a → Stands new (halted_to op cause front (left_of op new) a)
    halting_by (Program at data_in) fits holds = programming at data_in (fits at data_in refl) holds
    halting_by (Lock k) fits holds = locking k holds
    halting_by (Unlock k) fits holds = locking k holds
    halting_by (Read at len) fits holds = plain holds
    halting_by (EraseOpen k) fits holds = plain holds
    halting_by EraseAll fits holds = plain holds
    halting_by Poll fits holds = plain holds
    halting_by (IsLocked k) fits holds = plain holds
    halting_by (Arm cut mask) fits holds = plain holds
    halting_by PowerOn fits holds = plain holds

  -- the entry's bytes are these
  pub halt_bytes : (op : Op) → old.halted ≡ None → left_by_halt old.halted old.erase op new ≡ left_in_erase old.erase new ++ left_of op new
  halt_bytes op running = ap (λ (h : Option HaltCause). left_by_halt h old.erase op new) running

  halted_is : (op : Op) (cause : HaltCause) → old.halted ≡ None
      → after_halted a.power cause op (left_by_halt old.halted old.erase op new) a ≡ halted_to op cause (left_in_erase old.erase new) (left_of op new) a
  halted_is op cause running =
      let front = left_in_erase old.erase new in
      let back = left_of op new in
      let on : a.power ≡ On = stands.power ∙ ap kept_power running in
      let taken : take (open_span a).len (front ++ back) ≡ front = ap (λ (m : ℕ). take m (front ++ back)) (sym left_count) ∙ take-append_seam front back in
      let rest : drop (open_span a).len (front ++ back) ≡ back = ap (λ (m : ℕ). drop m (front ++ back)) (sym left_count) ∙ drop-append_seam front back in
      ap (λ (xs : List ℕ). after_halted a.power cause op xs a) (halt_bytes op running)
      ∙ (ap (λ (p : Power). after_halted p cause op (front ++ back) a) on
      ∙ (ap (λ (xs : List ℕ). halted_to op cause xs (drop (open_span a).len (front ++ back)) a) taken
      ∙ ap (λ (xs : List ℕ). halted_to op cause front xs a) rest))

-- The bank that keeps the halt stands for the array after it.
pub stands_halted : (old new : BankState) (a : ArrayState) (caller : ℕ) (op : Op) (cause : HaltCause) (given : List ℕ) → Works caller op old → Stands old a
    → old.halted ≡ None → new.found ≡ old.found → new.halted ≡ Some cause → new.erase ≡ None
    → Holds (spared_by op) (locks_by op new a.locks) new a → PowerIs (Some cause) new a
    → Stands new (after a (entry_of old new caller op (Halted cause) given))
unfolding front
stands_halted old new a caller op cause given works stands running found halted closed holds now =
    subst (λ (x : ArrayState). Stands new x) (sym (halted_is old new a stands found op cause running))
    (halting_by old new a stands found cause halted closed now op
    (λ at data_in is. (lies_in (size_of old.found) at (length data_in)
    (sym (ap (λ (x : Op). refusal_of old x) is) ∙ (may_work caller op old works).there)).within) holds)
