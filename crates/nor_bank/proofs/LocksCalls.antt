-- The calls about the lock of a block.
use Rattle.std.proofs.Common.{◌≡◌, ◌<◌, ◌≤◌, ◌+◌, ◌/◌, ◌⊎◌, inl, inr, ℕ, List, [], ◌∷◌, length, slice_set, refl, sym, ◌∙◌, ap, subst, arith, Bool, true, false, None}
use Rattle.std.specs.Prelude.{◌&&◌, not}
use Rattle.std.proofs.lemmas.Bool.{leb-false}
use Rattle.nor_cell.specs.Between.{IsShown}
use Rattle.nor_cell.specs.Chip.{ChipState, block}
use Rattle.nor_cell.specs.Wiring.{is_wiring}
use Rattle.nor_cell.specs.declared.device.Set.{Set}
use Rattle.nor_cell.specs.declared.device.Set.TheVariants.{Intel, Amd}
use Rattle.nor_query.specs.Derived.{locks_of}
use Rattle.nor_bus.specs.Bus.{BusState, lane, lanes_of, chip_at}
use Rattle.nor_bus.specs.Driven.{EachLane, Reaches, Went, Lost}
use Rattle.nor_poll.specs.Codes.{cycle_count}
use Rattle.nor_poll.specs.Lock.{SetsLock, LosesLock, lock_command}
use Rattle.nor_poll.specs.declared.codes.Command.TheVariants.{LeaveLocks}
use Rattle.nor_probe.specs.declared.probing.Found.{Found}
use Rattle.nor_array.specs.Array.{ArrayState, is_locked as is_locked_in}
use Rattle.nor_array.specs.Admits.{LockLeaves, lock_byte}
use Rattle.nor_array.specs.Needs.{needs_of, lock_call}
use Rattle.nor_array.specs.Refusals.{has_nothing, is_outside, is_too_long, kept_halt, when, while_open}
use Rattle.nor_array.specs.declared.needs.CallNeeds.{CallNeeds}
use Rattle.nor_array.specs.declared.entry.Halted.TheVariants.{Off}
use Rattle.nor_array.specs.declared.entry.Op.{Op}
use Rattle.nor_array.specs.declared.entry.Op.TheVariants.{IsLocked}
use Rattle.nor_array.specs.declared.entry.Reply.{Reply}
use Rattle.nor_array.specs.declared.entry.Reply.TheVariants.{Done, Bit, Halted, OutOfRange, TooLong, Nothing, NoLocks}
use Rattle.nor_bank.specs.Calls.{stands_locked}
use Rattle.nor_bank.specs.Counts.{call_most}
use Rattle.nor_bank.specs.Locks.{ShowsArray, ReadsLocks, LosesLocks, lock_op}
use Rattle.nor_bank.specs.Refused.{Works, outline}
use Rattle.nor_bank.specs.Stands.{Stands}
use Rattle.nor_bank.specs.State.{BankState, blocks_of}
use Rattle.nor_bank.specs.Way.{BeginsWork, HasNeeds, Holds, IsReady, halting, way_most}
use Rattle.nor_bank.specs.Whole.{IsCallOf, MayAnswer}
use Rattle.nor_bank.specs.Work.{with_bus}
use Rattle.nor_bank.proofs.Beginning.{none_first}
use Rattle.nor_bank.proofs.Ending.{EndsWork, HaltsWork, ended_call, lost_call, polls}
use Rattle.nor_bank.proofs.HoldingLanes.{Serves}
use Rattle.nor_bank.proofs.LocksReading.{ReadsAt}
use Rattle.nor_bank.proofs.LocksSetting.{HaltsLock, set_chips, set_each, set_stands, lock_given_up, told_value}

-- ---- what such a call needs

pub lock_needs : (locked : Bool) (k : ℕ) → HasNeeds (lock_call k) (lock_op locked k)
lock_needs true k = record { are = refl; unpolled = λ is. cc; arms = λ cut mask is. cc; powers = λ is. cc }
lock_needs false k = record { are = refl; unpolled = λ is. cc; arms = λ cut mask is. cc; powers = λ is. cc }

pub read_needs : (k : ℕ) → HasNeeds (lock_call k) (IsLocked k)
read_needs k = record { are = refl; unpolled = λ is. cc; arms = λ cut mask is. cc; powers = λ is. cc }

-- ---- where nothing refuses it

is_not : (holds : Bool) (reply : Reply) → when holds reply ≡ None → holds ≡ false
is_not true reply none = absurd (cc)
is_not false reply none = refl

is_offered : (offered : Bool) → (true && not offered) ≡ false → offered ≡ true
is_offered true none = refl
is_offered false none = absurd (cc)

-- the block is there, and locks are offered
pub record HasLock (k : ℕ) (b : BankState) : Type 0 where
  pub there : k < length (blocks_of b.found)
  pub offers : locks_of b.found.query.extended ≡ true

pub has_lock : (caller k : ℕ) (op : Op) (b : BankState) → needs_of op ≡ lock_call k → Works caller op b → HasLock k b
has_lock caller k op b needs works =
    let o = outline b in
    let outside = none_first (when (is_outside o (needs_of op).reach) OutOfRange) _ works.unrefused in
    let long = none_first (when (is_too_long (needs_of op).reach) TooLong) _ outside.1 in
    let kept = none_first (kept_halt o.power o.armed op) _ long.1 in
    let nothing = none_first (when (has_nothing o caller op) Nothing) _ kept.1 in
    let busy = none_first (while_open o.under o (needs_of op)) _ nothing.1 in
    let locks = none_first (when ((needs_of op).locks && not (locks_of b.found.query.extended)) NoLocks) _ busy.1 in
    record {
      there = leb-false (length (blocks_of b.found)) k
          (ap (λ (n : CallNeeds). is_outside o n.reach) (sym needs) ∙ is_not (is_outside o (needs_of op).reach) OutOfRange outside.0);
      offers = is_offered (locks_of b.found.query.extended)
          (ap (λ (n : CallNeeds). n.locks && not (locks_of b.found.query.extended)) (sym needs)
          ∙ is_not ((needs_of op).locks && not (locks_of b.found.query.extended)) NoLocks locks.0);
    }

module _ (most caller k : ℕ) (op : Op) (old mid : BankState) (needs : needs_of op ≡ lock_call k) (begins : BeginsWork false most caller op old mid) where
  found_kept : mid.found ≡ old.found
  found_kept = ap (λ (b : BankState). b.found) begins.kept

  -- nor once the chips are ready
  pub mid_has : HasLock k mid
  mid_has =
      let has = has_lock caller k op old needs begins.works in
      record {
        there = subst (λ (f : Found). k < length (blocks_of f)) (sym found_kept) has.there;
        offers = ap (λ (f : Found). locks_of f.query.extended) found_kept ∙ has.offers;
      }

  pub mid_shows : (a : ArrayState) → Stands mid a → IsReady false mid → ShowsArray mid a
  mid_shows a stands ready = record {
    running = ap (λ (b : BankState). b.halted) begins.kept ∙ begins.running;
    stands = stands;
    shown = ready.shown;
  }

-- ---- a lock is read

serves_itself : (s : ChipState) → IsShown s → Serves s s
serves_itself s shown = record { held = refl; suspends = refl; erases = refl; no_error = λ error. error; shown = shown }

pub serves_still : (old new : BusState) → new.lanes ≡ old.lanes → ((c : ℕ) → c < lanes_of old → IsShown (lane old c)) → EachLane Serves old new
serves_still old new same shown c below =
    subst (λ (ls : List ChipState). Serves (lane old c) (chip_at ls c)) (sym same) (serves_itself (lane old c) (shown c below))

pub bit_call : (caller k : ℕ) (locked : Bool) (old mid new : BankState) → BeginsWork false way_most caller (IsLocked k) old mid → ReadsLocks 6 mid new
    → ((a : ArrayState) → ShowsArray mid a → locked ≡ is_locked_in a k) → IsCallOf caller (IsLocked k) old new (Bit locked) []
bit_call caller k locked old mid new begins reads told =
    let few = reads.few in
    ended_call false way_most reads.cycles caller (IsLocked k) old mid new (Bit locked) [] begins refl refl refl tt reads.kept reads.went (omega (arith, few))
    (λ a stands before ready.
    let shows = mid_shows way_most caller k (IsLocked k) old mid refl begins a before ready in
    record {
      ends = (ap (λ (b : Bool). Bit b) (told a shows), refl);
      agrees = tt;
      serves = serves_still mid.bus new.bus (reads.same a shows) shows.shown;
      stands = (reads.shows a shows).stands;
    })

pub bit_lost_call : (caller k : ℕ) (reply : Reply) (old mid new : BankState) → BeginsWork false way_most caller (IsLocked k) old mid → LosesLocks 6 mid new reply
    → IsCallOf caller (IsLocked k) old new reply []
bit_lost_call caller k reply old mid new begins loses =
    subst (λ (r : Reply). IsCallOf caller (IsLocked k) old new r []) (sym loses.answer)
    (lost_call false way_most 6 caller (IsLocked k) old mid (with_bus mid new.bus) new [] begins refl refl refl loses.kept loses.lost (omega arith)
    (λ a stands before ready.
    let shows = mid_shows way_most caller k (IsLocked k) old mid refl begins a before ready in
    record {
      holds = loses.holds a shows;
      leaves = refl;
      erases = λ c below. (loses.unmoved a shows c below).remains.erases;
      suspends = λ c below. (loses.unmoved a shows c below).suspends;
    }))

-- ---- a lock is set or cleared

abbrev pub lock_cycles : Set → Bool → ℕ
lock_cycles set locked = cycle_count set (lock_command locked) + cycle_count set LeaveLocks

pub lock_few : (set : Set) (locked : Bool) → lock_cycles set locked ≤ 7
lock_few Intel true = omega arith
lock_few Intel false = omega arith
lock_few Amd true = omega arith
lock_few Amd false = omega arith

ends_set : (locked : Bool) (caller k : ℕ) (old mid new : BankState) (a : ArrayState) → EachLane Serves mid.bus new.bus
    → Stands new (record a { locks = slice_set a.locks k locked }) → EndsWork caller (lock_op locked k) old mid new Done [] a
ends_set true caller k old mid new a serves stands = record { ends = (refl, refl); agrees = tt; serves = serves; stands = stands }
ends_set false caller k old mid new a serves stands = record { ends = (refl, refl); agrees = tt; serves = serves; stands = stands }

-- what a halt leaves of the lock
leaves_value : (locked value was : Bool) (n : ℕ) → (value ≡ was) ⊎ (value ≡ locked) → LockLeaves (Off n) was locked (lock_byte value ∷ [])
leaves_value locked value was n (inl same) = inl (ap (λ (b : Bool). lock_byte b ∷ []) same)
leaves_value locked value was n (inr same) = inr (ap (λ (b : Bool). lock_byte b ∷ []) same)

module _ (locked : Bool) (k n : ℕ) (mid new : BankState) (bus : BusState) (a : ArrayState) (halts : HaltsLock k locked mid bus a) (found : new.found ≡ mid.found)
    (same : new.bus ≡ bus) (told : stands_locked new k ≡ halts.value) where
  holds_told : Holds (λ p. false) (slice_set a.locks k (stands_locked new k)) new a
  holds_told = subst (λ (v : Bool). Holds (λ p. false) (slice_set a.locks k v) new a) (sym told) (halts.holds new found same)

  was_told : (stands_locked new k ≡ is_locked_in a k) ⊎ (stands_locked new k ≡ locked)
  was_told = subst (λ (v : Bool). (v ≡ is_locked_in a k) ⊎ (v ≡ locked)) (sym told) halts.was

  erases_told : EachLane (λ s t. t.erases ≡ s.erases) mid.bus new.bus
  erases_told = subst (λ (x : BusState). EachLane (λ s t. t.erases ≡ s.erases) mid.bus x) (sym same) halts.erases

  suspends_told : EachLane (λ s t. t.suspends ≡ s.suspends) mid.bus new.bus
  suspends_told = subst (λ (x : BusState). EachLane (λ s t. t.suspends ≡ s.suspends) mid.bus x) (sym same) halts.suspends

halts_by : (locked : Bool) (k n : ℕ) (mid new : BankState) (a : ArrayState) → Holds (λ p. false) (slice_set a.locks k (stands_locked new k)) new a
    → (stands_locked new k ≡ is_locked_in a k) ⊎ (stands_locked new k ≡ locked) → EachLane (λ s t. t.erases ≡ s.erases) mid.bus new.bus
    → EachLane (λ s t. t.suspends ≡ s.suspends) mid.bus new.bus → HaltsWork (lock_op locked k) (Off n) mid new a
halts_by true k n mid new a holds was erases suspends =
    record { holds = holds; leaves = leaves_value true (stands_locked new k) (is_locked_in a k) n was; erases = erases; suspends = suspends }
halts_by false k n mid new a holds was erases suspends =
    record { holds = holds; leaves = leaves_value false (stands_locked new k) (is_locked_in a k) n was; erases = erases; suspends = suspends }

-- such a call asks for few cycles, and neither needs its block unlocked nor polls
record IsLockOp (op : Op) (k : ℕ) (b : BankState) : Type 0 where
  needs : needs_of op ≡ lock_call k
  other : polls op ≡ false
  answers : MayAnswer op b Done
  most : call_most op b ≡ 80

is_lock_op : (locked : Bool) (k : ℕ) (b : BankState) → IsLockOp (lock_op locked k) k b
is_lock_op true k b = record { needs = refl; other = refl; answers = tt; most = refl }
is_lock_op false k b = record { needs = refl; other = refl; answers = tt; most = refl }

pub lock_there : (caller k : ℕ) (locked : Bool) (old mid : BankState) → BeginsWork false way_most caller (lock_op locked k) old mid → HasLock k mid
lock_there caller k locked old mid begins = mid_has way_most caller k (lock_op locked k) old mid (is_lock_op locked k old).needs begins

-- the block begins at this bus word
pub sets_at : (width k at caller : ℕ) (locked : Bool) (old mid : BankState) → BeginsWork false way_most caller (lock_op locked k) old mid
    → is_wiring width mid.found.geometry.lanes mid.found.geometry.device ≡ true → at ≡ (block (blocks_of mid.found) k).from / width → ReadsAt width k at mid
sets_at width k at caller locked old mid begins wiring unit =
    let has = lock_there caller k locked old mid begins in
    record { wiring = wiring; there = has.there; offers = has.offers; unit = unit }

module _ (width k at caller : ℕ) (locked : Bool) (old mid : BankState) (begins : BeginsWork false way_most caller (lock_op locked k) old mid) (is : ReadsAt width k at mid)
    (bus : BusState) where
  unlocked : (needs_of (lock_op locked k)).unlocked ≡ false
  unlocked = ap (λ (x : CallNeeds). x.unlocked) (is_lock_op locked k old).needs

  few : way_most + lock_cycles mid.found.query.set locked ≤ call_most (lock_op locked k) old
  few =
      let most = (is_lock_op locked k old).most in
      let low = lock_few mid.found.query.set locked in
      omega (arith, most, low)

  pub set_call : (Reaches width mid.found.geometry at mid.bus → EachLane (SetsLock mid.found.query.set at locked) mid.bus bus)
      → Went (lock_cycles mid.found.query.set locked) (lock_cycles mid.found.query.set locked) mid.bus bus
      → IsCallOf caller (lock_op locked k) old (with_bus mid bus) Done []
  set_call sets went =
      ended_call false way_most (lock_cycles mid.found.query.set locked) caller (lock_op locked k) old mid (with_bus mid bus) Done [] begins unlocked
      (is_lock_op locked k old).other refl (is_lock_op locked k old).answers refl went few
      (λ a stands before ready.
      let shows = mid_shows way_most caller k (lock_op locked k) old mid (is_lock_op locked k old).needs begins a before ready in
      let each = set_chips width k at mid is bus a shows locked sets in
      ends_set locked caller k old mid (with_bus mid bus) a (set_each width k at mid is bus a shows locked each)
      (set_stands width k at mid is bus a shows locked (lock_cycles mid.found.query.set locked) each went))

  pub set_lost_call : (Reaches width mid.found.geometry at mid.bus → LosesLock mid.found.query.set at locked mid.bus bus)
      → Lost (lock_cycles mid.found.query.set locked) mid.bus bus
      → IsCallOf caller (lock_op locked k) old (halting (with_bus mid bus) (Off mid.after)) (Halted (Off mid.after)) []
  set_lost_call loses lost =
      let new = halting (with_bus mid bus) (Off mid.after) in
      lost_call false way_most (lock_cycles mid.found.query.set locked) caller (lock_op locked k) old mid (with_bus mid bus) new [] begins unlocked
      (is_lock_op locked k old).other refl refl lost few
      (λ a stands before ready.
      let shows = mid_shows way_most caller k (lock_op locked k) old mid (is_lock_op locked k old).needs begins a before ready in
      let halts = lock_given_up width k at mid is bus a shows locked (lock_cycles mid.found.query.set locked) loses lost in
      let told = told_value width k at mid is bus a shows locked new halts refl lost.kept.count in
      halts_by locked k mid.after mid new a (holds_told locked k mid.after mid new bus a halts refl refl told) (was_told locked k mid.after mid new bus a halts refl refl told)
      (erases_told locked k mid.after mid new bus a halts refl refl told) (suspends_told locked k mid.after mid new bus a halts refl refl told))
