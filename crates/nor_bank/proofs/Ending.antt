-- Each way out of a call that works makes the one record of every call.
use Rattle.std.proofs.Common.{◌≡◌, ◌<◌, ◌≤◌, ◌+◌, inl, inr, ℕ, List, [], ◌++◌, take, drop, refl, sym, ◌∙◌, ap, subst, arith, Bool, true, false, Option, Some, None}
use Rattle.std.proofs.lemmas.Bool.{cases_lt}
use Rattle.std.proofs.lemmas.List.{get_or_past}
use Rattle.std.proofs.Math.Seq.{take-append_seam, drop-append_seam}
use Rattle.nor_cell.specs.Bits.{AreBytes}
use Rattle.nor_cell.specs.Chip.{ChipState, Part, Idle, counted}
use Rattle.nor_query.specs.Derived.{suspend_of}
use Rattle.nor_bus.specs.Bus.{BusState, lane, lanes_of, no_chip, more}
use Rattle.nor_bus.specs.Cycles.{KeepsLanes}
use Rattle.nor_bus.specs.Driven.{AllLanes, EachLane, Went, Lost, Counted}
use Rattle.nor_array.specs.Array.{ArrayState, open_span}
use Rattle.nor_array.specs.declared.state.OpenErase.{OpenErase}
use Rattle.nor_array.specs.After.{after, after_opened}
use Rattle.nor_array.specs.Admits.{EndsUnlocked, AsksChips, Answers, Unrefused, AreUncertain, IsArmed, WorkLeaves, HaltLeaves, first_locked, may_come}
use Rattle.nor_array.specs.Legal.{ReplyAgrees, SticksAtWork}
use Rattle.nor_array.specs.Needs.{needs_of}
use Rattle.nor_array.specs.declared.entry.Halted.{Halted as HaltCause}
use Rattle.nor_array.specs.declared.entry.Halted.TheVariants.{Off, Stuck}
use Rattle.nor_array.specs.declared.entry.Op.{Op}
use Rattle.nor_array.specs.declared.entry.Op.TheVariants.{Read, Program, EraseOpen, EraseAll, Poll, Lock, Unlock, IsLocked, Arm, PowerOn}
use Rattle.nor_array.specs.declared.entry.Reply.{Reply}
use Rattle.nor_array.specs.declared.entry.Reply.TheVariants.{Opened, NotYet, Halted}
use Rattle.nor_bus.proofs.Driving.{went_then, lost_then, keeps_then, lane_kept}
use Rattle.nor_poll.specs.UnderErase.{erase_left}
use Rattle.nor_bank.specs.Calls.{entry_of, entry_bytes, facts_of, left_by_halt, left_in_erase, left_of}
use Rattle.nor_bank.specs.Counts.{is_open, Asked, call_most, may_suspend, erases_after, start_left, Spends, LeftIn, EndsErase, Counts, GoesOn, KeepsErase, IsNew, Waits, ReadsStuck}
use Rattle.nor_bank.specs.Refused.{Works}
use Rattle.nor_bank.specs.Stands.{Stands, IsKnown, PowerIs, under_of}
use Rattle.nor_bank.specs.State.{BankState}
use Rattle.nor_bank.specs.Way.{Holds, BeginsWork, BeginsChange, IsReady, MayCountSuspend, halting}
use Rattle.nor_bank.specs.Whole.{IsCallOf, LeavesBank, MayAnswer, leaves_quiet}
use Rattle.nor_bank.specs.Work.{with_bus}
use Rattle.nor_bank.specs.declared.kept.Erasing.{Erasing}
use Rattle.nor_bank.proofs.Holding.{spared_by, locks_by, bytes_small, halt_bytes, left_count, left_is, stands_halted}
use Rattle.nor_bank.proofs.HoldingLanes.{Serves, left_served}
use Rattle.nor_bank.proofs.Beginning.{may_work, closed_before}
use Rattle.nor_bank.proofs.RefusedCalls.{own_caller}
use Rattle.nor_bank.proofs.Refusing.{stuck_lane}
use Rattle.nor_bank.proofs.Outlines.{refuses_as_array}
use Rattle.nor_bank.proofs.Served.{is_armed}
use Rattle.nor_bank.proofs.Standing.{is_on_now}
pub use Rattle.nor_bank.proofs.EndingReplies.{answers_off, answers_stuck, answers_wait, answers_locked, opens_may, polls, goes_on, not_halted, not_waiting, kept_on, suspends_on, ends_none, no_pause, suspends_alike, not_long, quiet_pauses, falls_in, left_then, ends_work, ends_goes, erases_on, asks_ends, keeps_failed, keeps_on, opens_none, opens_unlocked, opens_other, opens_ends, opens_quiet}

-- ---- a call that works

-- what it makes of a bank that stands for an array
pub record WorksFor (caller : ℕ) (op : Op) (old new : BankState) (reply : Reply) (given : List ℕ) (a : ArrayState) : Type 0 where
  pub asks : AsksChips reply op a (entry_bytes reply op given old new)
  pub agrees : ReplyAgrees reply (facts_of old) a op (entry_bytes reply op given old new)
  pub stands : Stands new (after a (entry_of old new caller op reply given))
  pub counts : EachLane (Counts op reply old new) old.bus new.bus
  pub waits : reply ≡ NotYet → Waits old new
  pub rests : leaves_quiet op reply ≡ true → is_open old.erase ≡ true → AllLanes (λ s. s.job ≡ Idle) new.bus

-- The whole of it: nothing refuses it.
pub record Worked (caller : ℕ) (op : Op) (old new : BankState) (reply : Reply) (given : List ℕ) : Type 0 where
  pub works : Works caller op old
  pub running : old.halted ≡ None
  pub answers : MayAnswer op old reply
  pub makes : (a : ArrayState) → Stands old a → WorksFor caller op old new reply given a
  pub leaves : LeavesBank caller op old new reply
  pub spends : Spends op reply old new
  pub off : (n : ℕ) → reply ≡ Halted (Off n) → more 1 old.bus.failed ≤ new.bus.failed
  pub after : (n : ℕ) → reply ≡ Halted (Off n) → n ≡ old.after
  pub stuck : (k : ℕ) → reply ≡ Halted (Stuck k) → ReadsStuck op old new

pub worked_call : (caller : ℕ) (op : Op) (old new : BankState) (reply : Reply) (given : List ℕ) → Worked caller op old new reply given
    → IsCallOf caller op old new reply given
worked_call caller op old new reply given worked =
    let e = entry_of old new caller op reply given in
    record {
      refused = λ r is. absurd (let both : Some r ≡ None = sym is ∙ worked.works.unrefused in cc);
      idle = λ none idle. absurd (let both : true ≡ false = sym idle ∙ worked.works.busy in cc);
      answers = λ works. worked.answers;
      makes = λ a stands.
          let made = worked.makes a stands in
          record {
            entry = record {
              admitted = (
                own_caller op caller (may_work caller op old worked.works).own,
                subst (λ (r : Option Reply). Answers r e a) (sym (refuses_as_array old a caller op stands ∙ worked.works.unrefused))
                    (subst (λ (idle : Bool). Unrefused idle e a) (sym worked.works.busy) made.asks),
              );
              agrees = made.agrees;
              stands = made.stands;
            };
            counts = λ works. made.counts;
            waits = made.waits;
            rests = λ quiet works opened. made.rests quiet opened;
          };
      leaves = worked.leaves;
      spends = worked.spends;
      off = worked.off;
      after = λ n is running. worked.after n is;
      stuck = λ k is running. worked.stuck k is;
    }

-- ---- the work of a call that goes on, behind the way to the chips

-- what it makes of a bank whose chips were ready
record GoesOnFor (n caller : ℕ) (op : Op) (old mid new : BankState) (reply : Reply) (given : List ℕ) (a : ArrayState) : Type 0 where
  asks : AsksChips reply op a (entry_bytes reply op given old new)
  agrees : ReplyAgrees reply (facts_of old) a op (entry_bytes reply op given old new)
  stands : Stands new (after a (entry_of old new caller op reply given))
  erases : EachLane (λ s t. t.erases ≡ erases_after reply s.erases) mid.bus new.bus
  suspends : EachLane (λ s t. t.suspends ≡ s.suspends) mid.bus new.bus
  left : EachLane (LeftIn n op reply) mid.bus new.bus
  rests : leaves_quiet op reply ≡ true → AllLanes (λ s. s.job ≡ Idle) new.bus

begun_call : (programs : Bool) (most n caller : ℕ) (op : Op) (old mid new : BankState) (reply : Reply) (given : List ℕ)
    → BeginsWork programs most caller op old mid → (needs_of op).unlocked ≡ programs → polls op ≡ false → goes_on reply ≡ true → MayAnswer op old reply
    → new.found ≡ mid.found → new.after ≡ mid.after → new.halted ≡ mid.halted → KeepsErase caller op reply old.erase new.erase
    → Went n n mid.bus new.bus → most + n ≤ call_most op old
    → ((a : ArrayState) → Stands old a → Stands mid a → IsReady programs mid → GoesOnFor n caller op old mid new reply given a)
    → IsCallOf caller op old new reply given
begun_call programs most n caller op old mid new reply given begins unlocked other on may found after_same halted erase went few makes =
    let m = begins.cycles in
    let fit = begins.few in
    let there = λ (c : ℕ) (below : c < lanes_of old.bus). lane_kept old.bus mid.bus c begins.went.kept below in
    worked_call caller op old new reply given (record {
      works = begins.works;
      running = begins.running;
      answers = may;
      makes = λ a stands.
          let way = begins.stands a stands in
          let made = makes a stands way.stands (way.ready refl) in
          record {
            asks = made.asks;
            agrees = made.agrees;
            stands = made.stands;
            counts = λ c below.
                let s = lane old.bus c in
                let each = way.each c below in
                let quiet = λ (opens : (needs_of op).opens ≡ true). quiet_pauses old a stands begins.running (closed_before caller op old begins.works opens) c below in
                record {
                  erases = made.erases c (there c below) ∙ ap (λ (k : ℕ). erases_after reply k) each.remains.erases;
                  suspends = suspends_on reply (may_suspend (suspend_of old.found.query.extended) op) s (lane new.bus c) on
                      (made.suspends c (there c below)
                      ∙ (each.suspends
                      ∙ suspends_alike op (suspend_of old.found.query.extended) programs s other (may_work caller op old begins.works).own unlocked quiet));
                };
            waits = λ is. absurd (not_waiting reply on is);
            rests = λ quiet opened. made.rests quiet;
          };
      leaves = record {
        found = found ∙ ap (λ (b : BankState). b.found) begins.kept;
        after = after_same ∙ ap (λ (b : BankState). b.after) begins.kept;
        halted = halted ∙ (ap (λ (b : BankState). b.halted) begins.kept ∙ sym (kept_on reply old.halted on));
        lanes = keeps_then old.bus mid.bus new.bus begins.went.kept went.kept;
        erase = erase;
        limit = λ is. absurd (not_waiting reply on is);
      };
      spends = record {
        cycles = m + n;
        few = omega (arith, fit, few);
        asked = inl (went_then m m n n (m + n) (m + n) old.bus mid.bus new.bus (omega arith) (omega arith) begins.went went);
        left = λ a stands c below.
            let way = begins.stands a stands in
            let made = makes a stands way.stands (way.ready refl) in
            let each = way.each c below in
            left_then m n op reply (lane old.bus c) (lane mid.bus c) (lane new.bus c) each.remains.part each.left (made.left c (there c below));
        ends = λ a stands. ends_none op reply (m + n) old other;
      };
      off = λ k is. absurd (not_halted reply (Off k) on is);
      after = λ k is. absurd (not_halted reply (Off k) on is);
      stuck = λ k is. absurd (not_halted reply (Stuck k) on is);
    })

-- ---- the work of a call that ends

-- what is to be known of it: its entry, what becomes of each chip, and the array after it
pub record EndsWork (caller : ℕ) (op : Op) (old mid new : BankState) (reply : Reply) (given : List ℕ) (a : ArrayState) : Type 0 where
  pub ends : EndsUnlocked (first_locked a op) op a reply (entry_bytes reply op given old new)
  pub agrees : ReplyAgrees reply (facts_of old) a op (entry_bytes reply op given old new)
  pub serves : EachLane Serves mid.bus new.bus
  pub stands : Stands new (after a (entry_of old new caller op reply given))

-- A call that made so many cycles from a bank whose chips were ready.
pub ended_call : (programs : Bool) (most n caller : ℕ) (op : Op) (old mid new : BankState) (reply : Reply) (given : List ℕ)
    → BeginsWork programs most caller op old mid → (needs_of op).unlocked ≡ programs → polls op ≡ false → ends_work reply ≡ true → MayAnswer op old reply → new ≡ with_bus mid new.bus
    → Went n n mid.bus new.bus → most + n ≤ call_most op old
    → ((a : ArrayState) → Stands old a → Stands mid a → IsReady programs mid → EndsWork caller op old mid new reply given a)
    → IsCallOf caller op old new reply given
ended_call programs most n caller op old mid new reply given begins unlocked other plain may kept went few makes =
    begun_call programs most n caller op old mid new reply given begins unlocked other (ends_goes reply plain) may
    (ap (λ (b : BankState). b.found) kept) (ap (λ (b : BankState). b.after) kept) (ap (λ (b : BankState). b.halted) kept)
    (keeps_on caller op reply old.erase new.erase other plain
    (subst (λ (e : Option Erasing). GoesOn 0 old.erase e) (sym (ap (λ (b : BankState). b.erase) kept)) begins.goes_on))
    went few
    (λ a stands now ready.
    let made = makes a stands now ready in
    record {
      asks = asks_ends reply op a (entry_bytes reply op given old new) plain made.ends;
      agrees = made.agrees;
      stands = made.stands;
      erases = λ c below. (made.serves c below).erases ∙ sym (erases_on reply (lane mid.bus c).erases plain);
      suspends = λ c below. (made.serves c below).suspends;
      left = λ c below.
          let same = left_served (lane mid.bus c) (lane new.bus c) (ready.shown c below) (made.serves c below) in
          falls_in n op reply (lane mid.bus c) (lane new.bus c) (opens_none reply plain) (omega (arith, same), omega (arith, same));
      rests = λ quiet c below. (made.serves c (subst (λ (k : ℕ). c < k) went.kept.count below)).shown.job;
    })

-- ---- an erase that is opened

pub record OpensErase (caller : ℕ) (op : Op) (mid new : BankState) (a : ArrayState) : Type 0 where
  pub erases : EachLane (λ s t. (t.erases ≡ counted s.erases) × (t.suspends ≡ s.suspends)) mid.bus new.bus
  pub left : EachLane (λ s t. erase_left t ≡ start_left op s.part) mid.bus new.bus
  pub stands : Stands new (after_opened op caller a)

pub opened_call : (most n caller : ℕ) (op : Op) (old mid new : BankState) (now : Erasing) → BeginsChange most caller op old mid → (needs_of op).opens ≡ true
    → new ≡ record mid { bus = new.bus; erase = Some now } → IsNew caller op (Some now) → Went n n mid.bus new.bus → most + n ≤ call_most op old
    → ((a : ArrayState) → Stands old a → Stands mid a → IsReady true mid → OpensErase caller op mid new a)
    → IsCallOf caller op old new Opened []
opened_call most n caller op old mid new now begins opens kept is went few makes =
    begun_call true most n caller op old mid new Opened [] begins.begins (opens_unlocked op opens) (opens_other op opens) refl (opens_may op old opens)
    (ap (λ (b : BankState). b.found) kept) (ap (λ (b : BankState). b.after) kept) (ap (λ (b : BankState). b.halted) kept)
    (subst (λ (e : Option Erasing). IsNew caller op e) (sym (ap (λ (b : BankState). b.erase) kept)) is)
    went few
    (λ a stands mine ready.
    let made = makes a stands mine ready in
    record {
      asks = subst (λ (locked : Option ℕ). EndsUnlocked locked op a Opened []) (sym (begins.unlocked a stands)) (opens_ends op a opens);
      agrees = tt;
      stands = made.stands;
      erases = λ c below. (made.erases c below).0;
      suspends = λ c below. (made.erases c below).1;
      left = made.left;
      rests = λ quiet. absurd (opens_quiet op opens quiet);
    })

-- ---- a first halt of a call that works

-- what the chips hold then, and what it leaves of the call's own work
pub record HaltsFirst (op : Op) (cause : HaltCause) (old new : BankState) (a : ArrayState) : Type 0 where
  pub holds : Holds (spared_by op) (locks_by op new a.locks) new a
  pub leaves : WorkLeaves op cause a (left_of op new)
  pub erases : EachLane (λ s t. t.erases ≡ s.erases) old.bus new.bus
  pub suspends : EachLane (MayCountSuspend (may_suspend (suspend_of old.found.query.extended) op)) old.bus new.bus

-- the bytes of its entry
halt_leaves : (old new : BankState) (a : ArrayState) (op : Op) (cause : HaltCause) → Stands old a → old.halted ≡ None → new.found ≡ old.found
    → IsKnown new.found new.bus → WorkLeaves op cause a (left_of op new) → HaltLeaves cause op a (left_by_halt old.halted old.erase op new)
halt_leaves old new a op cause stands running found known leaves =
    let front = left_in_erase old.erase new in
    let back = left_of op new in
    let len = (open_span a).len in
    let count = left_count old new a stands found in
    let taken : take len (front ++ back) ≡ front = ap (λ (m : ℕ). take m (front ++ back)) (sym count) ∙ take-append_seam front back in
    let rest : drop len (front ++ back) ≡ back = ap (λ (m : ℕ). drop m (front ++ back)) (sym count) ∙ drop-append_seam front back in
    let small : AreBytes front = subst (λ (xs : List ℕ). AreBytes xs) (sym (left_is old new a stands found)) (bytes_small new known (open_span a).from len) in
    subst (λ (xs : List ℕ). HaltLeaves cause op a xs) (sym (halt_bytes old new a stands found op running))
    (subst (λ (xs : List ℕ). AreUncertain len xs) (sym taken) (record { size = count; values = small }), subst (λ (xs : List ℕ). WorkLeaves op cause a xs) (sym rest) leaves)

-- a lane is stuck, or not, as long as it is there
stuck_kept : (old new : BusState) (k : ℕ) → KeepsLanes old new → (lane new k).part.stuck ≡ (lane old k).part.stuck
stuck_kept old new k kept = elim (cases_lt k (lanes_of old)) [
  | inl below ↦ ap (λ (p : Part). p.stuck) (kept.each k below).part
  | inr past ↦
      let count = kept.count in
      let old_is : lane old k ≡ no_chip = get_or_past old.lanes k no_chip past in
      let new_is : lane new k ≡ no_chip = get_or_past new.lanes k no_chip (omega (arith, count, past)) in
      ap (λ (s : ChipState). s.part.stuck) (new_is ∙ sym old_is)
]

-- what it leaves of the bank, and asks of its bus
ends_halted : (op : Op) (cause : HaltCause) (n : ℕ) (old : BankState) → EndsErase op (Halted cause) n old
ends_halted Poll cause n old = tt
ends_halted (Read at len) cause n old = tt
ends_halted (Program at new) cause n old = tt
ends_halted (EraseOpen k) cause n old = tt
ends_halted EraseAll cause n old = tt
ends_halted (Lock k) cause n old = tt
ends_halted (Unlock k) cause n old = tt
ends_halted (IsLocked k) cause n old = tt
ends_halted (Arm cut mask) cause n old = tt
ends_halted PowerOn cause n old = tt

halt_quiet : (op : Op) (cause : HaltCause) → leaves_quiet op (Halted cause) ≡ true → ⊥
halt_quiet op cause quiet = cc

module _ (caller : ℕ) (op : Op) (cause : HaltCause) (old last new : BankState) (given : List ℕ) (works : Works caller op old) (running : old.halted ≡ None)
    (found : last.found ≡ old.found) (after_same : last.after ≡ old.after) (halts : new ≡ halting last cause) where
  new_found : new.found ≡ old.found
  new_found = ap (λ (b : BankState). b.found) halts ∙ found

  new_bus : new.bus ≡ last.bus
  new_bus = ap (λ (b : BankState). b.bus) halts

  none_kept : new.erase ≡ None
  none_kept = ap (λ (b : BankState). b.erase) halts

  halt_kept : new.halted ≡ Some cause
  halt_kept = ap (λ (b : BankState). b.halted) halts

  leaves_halted : KeepsLanes old.bus last.bus → LeavesBank caller op old new (Halted cause)
  leaves_halted kept = record {
    found = new_found;
    after = ap (λ (b : BankState). b.after) halts ∙ after_same;
    halted = halt_kept;
    lanes = subst (λ (x : BusState). KeepsLanes old.bus x) (sym new_bus) kept;
    erase = none_kept;
    limit = λ is. absurd (let both : Halted cause ≡ NotYet = is in cc);
  }

  spends_halted : (n : ℕ) → n ≤ call_most op old → Asked n old.bus last.bus → Spends op (Halted cause) old new
  spends_halted n few asked = record {
    cycles = n;
    few = few;
    asked = subst (λ (x : BusState). Asked n old.bus x) (sym new_bus) asked;
    left = λ a stands c below. tt;
    ends = λ a stands. ends_halted op cause n old;
  }

  works_halted : (a : ArrayState) → Stands old a → HaltsFirst op cause old new a → PowerIs (Some cause) new a
      → (HaltLeaves cause op a (left_by_halt old.halted old.erase op new) → AsksChips (Halted cause) op a (left_by_halt old.halted old.erase op new))
      → ReplyAgrees (Halted cause) (facts_of old) a op (left_by_halt old.halted old.erase op new)
      → WorksFor caller op old new (Halted cause) given a
  works_halted a stands made now asks agrees = record {
    asks = asks (halt_leaves old new a op cause stands running new_found made.holds.known made.leaves);
    agrees = agrees;
    stands = stands_halted old new a caller op cause given works stands running new_found halt_kept none_kept made.holds now;
    counts = λ c below. record { erases = made.erases c below; suspends = made.suspends c below };
    waits = λ is. absurd (let both : Halted cause ≡ NotYet = is in cc);
    rests = λ quiet. absurd (halt_quiet op cause quiet);
  }

off_number : (n k : ℕ) → Halted (Off n) ≡ Halted (Off k) → k ≡ n
off_number n k is = cc

off_stuck : (n k : ℕ) → Halted (Off n) ≡ Halted (Stuck k) → ⊥
off_stuck n k is = cc

stuck_off : (n k : ℕ) → Halted (Stuck k) ≡ Halted (Off n) → ⊥
stuck_off n k is = cc

-- A cycle of a call failed, whose last state before the halt is `last`.
pub first_lost : (n caller : ℕ) (op : Op) (old last new : BankState) (given : List ℕ) → Works caller op old → old.halted ≡ None
    → last.found ≡ old.found → last.after ≡ old.after → new ≡ halting last (Off last.after) → Lost n old.bus last.bus → n ≤ call_most op old
    → ((a : ArrayState) → Stands old a → HaltsFirst op (Off last.after) old new a)
    → IsCallOf caller op old new (Halted (Off last.after)) given
first_lost n caller op old last new given works running found after_same halts lost few makes =
    let cause = Off last.after in
    let here = new_bus caller op cause old last new given works running found after_same halts in
    let none = none_kept caller op cause old last new given works running found after_same halts in
    worked_call caller op old new (Halted cause) given (record {
      works = works;
      running = running;
      answers = answers_off op old last.after;
      makes = λ a stands.
          let armed : IsArmed a.armed last.after = subst (λ (k : ℕ). IsArmed a.armed k) (sym after_same) (is_armed old a last.bus n (is_on_now old a stands running) lost) in
          let dark : new.bus.power ≡ false = ap (λ (x : BusState). x.power) here ∙ lost.power in
          works_halted caller op cause old last new given works running found after_same halts a stands (makes a stands) (dark, armed, none)
          (λ leaves. (armed, leaves)) tt;
      leaves = leaves_halted caller op cause old last new given works running found after_same halts lost.kept;
      spends = spends_halted caller op cause old last new given works running found after_same halts n few (inr lost);
      off = λ k is. subst (λ (x : BusState). more 1 old.bus.failed ≤ x.failed) (sym here) lost.failed;
      after = λ k is. off_number last.after k is ∙ after_same;
      stuck = λ k is. absurd (off_stuck last.after k is);
    })

-- A lane was read working by so many polls, and is stuck.
pub first_stuck : (least n k caller : ℕ) (op : Op) (old last new : BankState) (given : List ℕ) → Works caller op old → old.halted ≡ None
    → last.found ≡ old.found → last.after ≡ old.after → new ≡ halting last (Stuck k) → Counted least n old.bus last.bus → n ≤ call_most op old
    → k < old.found.geometry.lanes → ReadsStuck op old new → may_come (needs_of op).sticks (under_of old.erase) ≡ true
    → ((a : ArrayState) → Stands old a → HaltsFirst op (Stuck k) old new a × ((lane old.bus k).part.stuck ≡ true) × SticksAtWork op a)
    → IsCallOf caller op old new (Halted (Stuck k)) given
first_stuck least n k caller op old last new given works running found after_same halts counted few low read comes makes =
    let cause = Stuck k in
    let here = new_bus caller op cause old last new given works running found after_same halts in
    let none = none_kept caller op cause old last new given works running found after_same halts in
    let less = counted.few in
    worked_call caller op old new (Halted cause) given (record {
      works = works;
      running = running;
      answers = answers_stuck op old k low comes;
      makes = λ a stands.
          let made = makes a stands in
          let same : (lane new.bus k).part.stuck ≡ true =
          ap (λ (x : BusState). (lane x k).part.stuck) here ∙ (stuck_kept old.bus last.bus k counted.went.kept ∙ made.1) in
          works_halted caller op cause old last new given works running found after_same halts a stands made.0 (same, none)
          (λ leaves. (ap (λ (u : Option OpenErase). may_come (needs_of op).sticks u) stands.under ∙ comes, leaves))
          (stuck_lane old.bus.lanes k ∙ made.1, made.2);
      leaves = leaves_halted caller op cause old last new given works running found after_same halts counted.went.kept;
      spends = spends_halted caller op cause old last new given works running found after_same halts counted.cycles (omega (arith, less, few)) (inl counted.went);
      off = λ m is. absurd (stuck_off m k is);
      after = λ m is. absurd (stuck_off m k is);
      stuck = λ m is. read;
    })

-- ---- in the work behind the way to the chips

-- what the chips hold then, and what it leaves of the call's own work
pub record HaltsWork (op : Op) (cause : HaltCause) (mid new : BankState) (a : ArrayState) : Type 0 where
  pub holds : Holds (spared_by op) (locks_by op new a.locks) new a
  pub leaves : WorkLeaves op cause a (left_of op new)
  pub erases : EachLane (λ s t. t.erases ≡ s.erases) mid.bus new.bus
  pub suspends : EachLane (λ s t. t.suspends ≡ s.suspends) mid.bus new.bus

module _ (programs : Bool) (most caller : ℕ) (op : Op) (old mid new : BankState) (begins : BeginsWork programs most caller op old mid)
    (unlocked : (needs_of op).unlocked ≡ programs) (other : polls op ≡ false) where
  halts_first : (cause : HaltCause) (a : ArrayState) → Stands old a → HaltsWork op cause mid new a → HaltsFirst op cause old new a
  halts_first cause a stands made =
      let way = begins.stands a stands in
      record {
        holds = made.holds;
        leaves = made.leaves;
        erases = λ c below. made.erases c (lane_kept old.bus mid.bus c begins.went.kept below) ∙ (way.each c below).remains.erases;
        suspends = λ c below.
            let quiet = λ (opens : (needs_of op).opens ≡ true). quiet_pauses old a stands begins.running (closed_before caller op old begins.works opens) c below in
            inr (made.suspends c (lane_kept old.bus mid.bus c begins.went.kept below)
            ∙ ((way.each c below).suspends
            ∙ suspends_alike op (suspend_of old.found.query.extended) programs (lane old.bus c) other (may_work caller op old begins.works).own unlocked quiet));
      }

  same_found : (last : BankState) → last ≡ with_bus mid last.bus → last.found ≡ old.found
  same_found last kept = ap (λ (b : BankState). b.found) kept ∙ ap (λ (b : BankState). b.found) begins.kept

  same_after : (last : BankState) → last ≡ with_bus mid last.bus → last.after ≡ old.after
  same_after last kept = ap (λ (b : BankState). b.after) kept ∙ ap (λ (b : BankState). b.after) begins.kept

-- Power went in the work of a call, whose last state before the halt is `last`.
pub lost_call : (programs : Bool) (most n caller : ℕ) (op : Op) (old mid last new : BankState) (given : List ℕ)
    → BeginsWork programs most caller op old mid → (needs_of op).unlocked ≡ programs → polls op ≡ false → last ≡ with_bus mid last.bus → new ≡ halting last (Off last.after)
    → Lost n mid.bus last.bus → most + n ≤ call_most op old
    → ((a : ArrayState) → Stands old a → Stands mid a → IsReady programs mid → HaltsWork op (Off last.after) mid new a)
    → IsCallOf caller op old new (Halted (Off last.after)) given
lost_call programs most n caller op old mid last new given begins unlocked other kept halts lost few makes =
    let m = begins.cycles in
    let fit = begins.few in
    first_lost (m + n) caller op old last new given begins.works begins.running
    (same_found programs most caller op old mid new begins unlocked other last kept) (same_after programs most caller op old mid new begins unlocked other last kept) halts
    (lost_then m n (m + n) old.bus mid.bus last.bus (omega arith) begins.went lost) (omega (arith, fit, few))
    (λ a stands.
    let way = begins.stands a stands in
    halts_first programs most caller op old mid new begins unlocked other (Off last.after) a stands (makes a stands way.stands (way.ready refl)))

-- A lane was read working by so many polls.
pub stuck_call : (programs : Bool) (most least n k caller : ℕ) (op : Op) (old mid last new : BankState) (given : List ℕ)
    → BeginsWork programs most caller op old mid → (needs_of op).unlocked ≡ programs → polls op ≡ false → last ≡ with_bus mid last.bus → new ≡ halting last (Stuck k)
    → Counted least n mid.bus last.bus → most + n ≤ call_most op old → k < old.found.geometry.lanes → ReadsStuck op old new → may_come (needs_of op).sticks (under_of old.erase) ≡ true
    → ((a : ArrayState) → Stands old a → Stands mid a → IsReady programs mid
    → HaltsWork op (Stuck k) mid new a × ((lane mid.bus k).part.stuck ≡ true) × SticksAtWork op a)
    → IsCallOf caller op old new (Halted (Stuck k)) given
stuck_call programs most least n k caller op old mid last new given begins unlocked other kept halts counted few low read comes makes =
    let m = begins.cycles in
    let j = counted.cycles in
    let fit = begins.few in
    let less = counted.few in
    first_stuck 0 (m + j) k caller op old last new given begins.works begins.running
    (same_found programs most caller op old mid new begins unlocked other last kept) (same_after programs most caller op old mid new begins unlocked other last kept) halts
    (record {
      cycles = m + j;
      enough = omega arith;
      few = omega arith;
      went = went_then m m j j (m + j) (m + j) old.bus mid.bus last.bus (omega arith) (omega arith) begins.went counted.went;
    })
    (omega (arith, fit, less, few)) low read comes
    (λ a stands.
    let way = begins.stands a stands in
    let made = makes a stands way.stands (way.ready refl) in (
      halts_first programs most caller op old mid new begins unlocked other (Stuck k) a stands made.0,
      sym (stuck_kept old.bus mid.bus k begins.went.kept) ∙ made.1,
      made.2,
    ))
