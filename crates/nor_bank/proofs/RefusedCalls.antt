-- What a call is that a bank refuses.
use Rattle.std.proofs.Common.{◌≡◌, ◌≢◌, ◌≤◌, ◌+◌, ◌⊎◌, inl, inr, ℕ, List, [], ◌∷◌, length, refl, sym, ◌∙◌, ap, subst, arith, Bool, true, false, Option, Some, None}
use Rattle.std.specs.Prelude.{◌&&◌, ◌||◌, not, IfSome, if◌then◌else◌}
use Rattle.std.specs.Option.{option_or, option_map}
use Rattle.nor_cell.specs.Chip.{ChipState}
use Rattle.nor_cell.specs.Steps.{Keeps as KeepsChip}
use Rattle.nor_bus.specs.Bus.{BusState, lane, chip_at, more}
use Rattle.nor_bus.specs.Cycles.{KeepsLanes}
use Rattle.nor_bus.proofs.Driving.{went_none, lost_one}
use Rattle.nor_poll.specs.UnderErase.{erase_left}
use Rattle.nor_array.specs.Array.{ArrayState, OfBlocks}
use Rattle.nor_array.specs.After.{after_reply}
use Rattle.nor_array.specs.Admits.{HasItsCaller}
use Rattle.nor_array.specs.Needs.{needs_of}
use Rattle.nor_array.specs.Refusals.{refusal, first_some, when, kept_halt, while_open, busy_or_occupied, first_busy, first_open, is_outside, is_too_long, is_power_on, has_nothing, owns}
use Rattle.nor_array.specs.declared.needs.CallNeeds.{CallNeeds}
use Rattle.nor_array.specs.declared.needs.Reach.{Reach}
use Rattle.nor_array.specs.declared.entry.Halted.{Halted as HaltCause}
use Rattle.nor_array.specs.declared.entry.Halted.TheVariants.{Off, Stuck}
use Rattle.nor_array.specs.declared.entry.Op.{Op}
use Rattle.nor_array.specs.declared.entry.Op.TheVariants.{Read, Program, EraseOpen, EraseAll, Poll, Lock, Unlock, IsLocked, Arm, PowerOn}
use Rattle.nor_array.specs.declared.entry.Reply.{Reply}
use Rattle.nor_array.specs.declared.entry.Reply.TheVariants.{Done, Opened, Erased, Bit, OutOfRange, TooLong, Busy, Occupied, Locked, NoLocks, NoChipErase, Nothing, NotYet, Failed, Halted}
use Rattle.nor_array.specs.declared.state.OpenErase.{OpenErase}
use Rattle.nor_bank.specs.Calls.{MakesEntry, entry_of}
use Rattle.nor_bank.specs.Counts.{Asked, EndsErase, GoesOn, KeepsErase, Spends, call_most}
use Rattle.nor_bank.specs.Refused.{outline, bank_refusal, kept_cut, is_own, not_offered, Refuses}
use Rattle.nor_bank.specs.Stands.{Stands, kept_power, under_of}
use Rattle.nor_bank.specs.State.{BankState, IsBankOf, IsDark, size_of, blocks_of}
use Rattle.nor_bank.specs.Way.{HasNeeds}
use Rattle.nor_bank.specs.Whole.{IsCallOf, LeavesBank}
use Rattle.nor_bank.specs.Work.{reach_refusal, range_refusal, refusal_of, with_bus, kept_after, Stays}
use Rattle.nor_bank.specs.declared.kept.Erasing.{Erasing}
use Rattle.nor_bank.proofs.EndingReplies.{falls_in}
use Rattle.nor_bank.proofs.Outlines.{refuses_as_array}
use Rattle.nor_bank.proofs.Refusing.{Refused, refusal_is, refused_by, refused_entry, kept_stuck}
use Rattle.nor_bank.proofs.Standing.{stays_standing}
use Rattle.nor_bank.proofs.RefusalOrder.{refuses_needs, touched_first, kept_first, poll_refusal}

-- ---- what a refusal may be

-- where this halt is kept
abbrev pub MayRefuse : Option HaltCause → Reply → Type 0
MayRefuse kept (Halted cause) = kept ≡ Some cause
MayRefuse kept OutOfRange = Unit {0}
MayRefuse kept TooLong = Unit {0}
MayRefuse kept (Busy k) = Unit {0}
MayRefuse kept (Occupied k) = Unit {0}
MayRefuse kept NoLocks = Unit {0}
MayRefuse kept NoChipErase = Unit {0}
MayRefuse kept Nothing = Unit {0}
MayRefuse kept _ = ⊥

first_may : (P : Reply → Type 0) (x : Option Reply) (later : List (Option Reply)) → IfSome x P → IfSome (first_some later) P → IfSome (first_some (x ∷ later)) P
first_may P None later here rest = rest
first_may P (Some r) later here rest = here

when_may : (P : Reply → Type 0) (holds : Bool) (r : Reply) → P r → IfSome (when holds r) P
when_may P true r is = is
when_may P false r is = tt

busy_may : (kept : Option HaltCause) (busy : Option ℕ) (e : OpenErase) (opens : Bool) → IfSome (busy_or_occupied busy e opens) (MayRefuse kept)
busy_may kept (Some k) e opens = tt
busy_may kept None e opens = when_may (MayRefuse kept) opens (Occupied (first_open e.target)) tt

open_may : (kept : Option HaltCause) (under : Option OpenErase) (o : ArrayState) (needs : CallNeeds) → IfSome (while_open under o needs) (MayRefuse kept)
open_may kept None o needs = tt
open_may kept (Some e) o needs = busy_may kept (first_busy e o needs) e needs.opens

off_may : (n : ℕ) (powers : Bool) → IfSome (if powers then None else Some (Halted (Off n))) (MayRefuse (Some (Off n)))
off_may n true = tt
off_may n false = refl

kept_may : (kept : Option HaltCause) (op : Op) → IfSome (kept_halt (kept_power kept) (kept_cut kept) op) (MayRefuse kept)
kept_may None op = tt
kept_may (Some (Off n)) op = off_may n (is_power_on op)
kept_may (Some (Stuck k)) op = refl

all_may : (b : BankState) (caller : ℕ) (op : Op) → IfSome (bank_refusal b caller op) (MayRefuse b.halted)
all_may b caller op =
    let o = outline b in
    let needs = needs_of op in
    let P = MayRefuse b.halted in
    first_may P (when (is_outside o needs.reach) OutOfRange) _ (when_may P (is_outside o needs.reach) OutOfRange tt)
    (first_may P (when (is_too_long needs.reach) TooLong) _ (when_may P (is_too_long needs.reach) TooLong tt)
    (first_may P (kept_halt o.power o.armed op) _ (kept_may b.halted op)
    (first_may P (when (has_nothing o caller op) Nothing) _ (when_may P (has_nothing o caller op) Nothing tt)
    (first_may P (while_open o.under o needs) _ (open_may b.halted o.under o needs)
    (first_may P (when (needs.locks && not o.consts.has_locks) NoLocks) _ (when_may P (needs.locks && not o.consts.has_locks) NoLocks tt)
    (first_may P (when (needs.chip_erase && not o.consts.has_chip_erase) NoChipErase) [] (when_may P (needs.chip_erase && not o.consts.has_chip_erase) NoChipErase tt) tt))))))

pub may_refuse : (b : BankState) (caller : ℕ) (op : Op) (reply : Reply) → bank_refusal b caller op ≡ Some reply → MayRefuse b.halted reply
may_refuse b caller op reply is = subst (λ (r : Option Reply). IfSome r (MayRefuse b.halted)) is (all_may b caller op)

-- it is no wait
not_waiting : {T : Type 0} (kept : Option HaltCause) (reply : Reply) → MayRefuse kept reply → reply ≡ NotYet → T
not_waiting kept reply may is = absurd (subst (λ (r : Reply). MayRefuse kept r) is may)

-- ---- what it leaves

-- the entry of it has no bytes, and leaves the array
refused_as : (reply : Reply) (b new : BankState) (a : ArrayState) (op : Op) (given : List ℕ) → Stands b a → MayRefuse b.halted reply → Refused b new a op reply given
refused_as OutOfRange b new a op given stands may = record { bytes = refl; after_is = λ e is. ap (λ (r : Reply). after_reply r e a) is; agrees = λ bytes. tt }
refused_as TooLong b new a op given stands may = record { bytes = refl; after_is = λ e is. ap (λ (r : Reply). after_reply r e a) is; agrees = λ bytes. tt }
refused_as (Busy k) b new a op given stands may = record { bytes = refl; after_is = λ e is. ap (λ (r : Reply). after_reply r e a) is; agrees = λ bytes. tt }
refused_as (Occupied k) b new a op given stands may = record { bytes = refl; after_is = λ e is. ap (λ (r : Reply). after_reply r e a) is; agrees = λ bytes. tt }
refused_as NoLocks b new a op given stands may = record { bytes = refl; after_is = λ e is. ap (λ (r : Reply). after_reply r e a) is; agrees = λ bytes. tt }
refused_as NoChipErase b new a op given stands may = record { bytes = refl; after_is = λ e is. ap (λ (r : Reply). after_reply r e a) is; agrees = λ bytes. tt }
refused_as Nothing b new a op given stands may = record { bytes = refl; after_is = λ e is. ap (λ (r : Reply). after_reply r e a) is; agrees = λ bytes. tt }
refused_as (Halted cause) b new a op given stands may =
    refused_by (Some cause) b new a op (Halted cause) given may (stands.power ∙ ap kept_power may) (λ k is. kept_stuck b.halted b a stands.now k (may ∙ is)) refl
refused_as Done b new a op given stands may = absurd may
refused_as Opened b new a op given stands may = absurd may
refused_as Erased b new a op given stands may = absurd may
refused_as (Bit locked) b new a op given stands may = absurd may
refused_as (Locked k) b new a op given stands may = absurd may
refused_as NotYet b new a op given stands may = absurd may
refused_as (Failed from to lanes) b new a op given stands may = absurd may

kept_same : (kept : Option HaltCause) (reply : Reply) → MayRefuse kept reply → kept_after kept reply ≡ kept
kept_same kept OutOfRange may = refl
kept_same kept TooLong may = refl
kept_same kept (Busy k) may = refl
kept_same kept (Occupied k) may = refl
kept_same kept NoLocks may = refl
kept_same kept NoChipErase may = refl
kept_same kept Nothing may = refl
kept_same kept (Halted cause) may = sym may
kept_same kept Done may = absurd may
kept_same kept Opened may = absurd may
kept_same kept Erased may = absurd may
kept_same kept (Bit locked) may = absurd may
kept_same kept (Locked k) may = absurd may
kept_same kept NotYet may = absurd may
kept_same kept (Failed from to lanes) may = absurd may

pub goes_on_self : (e : Option Erasing) → GoesOn 0 e e
goes_on_self None = refl
goes_on_self (Some e) = (refl, refl, let same : e.polls ≡ e.polls + 0 = omega arith in same)

-- a halt that is kept has given up what was under erase
erase_same : (reply : Reply) (caller : ℕ) (op : Op) (kept : Option HaltCause) (e : Option Erasing) → MayRefuse kept reply
    → ((cause : HaltCause) → reply ≡ Halted cause → e ≡ None) → KeepsErase caller op reply e e
erase_same OutOfRange caller op kept e may given_up = goes_on_self e
erase_same TooLong caller op kept e may given_up = goes_on_self e
erase_same (Busy k) caller op kept e may given_up = goes_on_self e
erase_same (Occupied k) caller op kept e may given_up = goes_on_self e
erase_same NoLocks caller op kept e may given_up = goes_on_self e
erase_same NoChipErase caller op kept e may given_up = goes_on_self e
erase_same Nothing caller op kept e may given_up = goes_on_self e
erase_same (Halted cause) caller op kept e may given_up = given_up cause refl
erase_same Done caller op kept e may given_up = absurd may
erase_same Opened caller op kept e may given_up = absurd may
erase_same Erased caller op kept e may given_up = absurd may
erase_same (Bit locked) caller op kept e may given_up = absurd may
erase_same (Locked k) caller op kept e may given_up = absurd may
erase_same NotYet caller op kept e may given_up = absurd may
erase_same (Failed from to lanes) caller op kept e may given_up = absurd may

-- nor does it end one
poll_goes_on : (reply : Reply) (kept : Option HaltCause) (n : ℕ) (b : BankState) → MayRefuse kept reply → EndsErase Poll reply n b
poll_goes_on OutOfRange kept n b may = tt
poll_goes_on TooLong kept n b may = tt
poll_goes_on (Busy k) kept n b may = tt
poll_goes_on (Occupied k) kept n b may = tt
poll_goes_on NoLocks kept n b may = tt
poll_goes_on NoChipErase kept n b may = tt
poll_goes_on Nothing kept n b may = tt
poll_goes_on (Halted cause) kept n b may = tt
poll_goes_on Done kept n b may = tt
poll_goes_on Opened kept n b may = tt
poll_goes_on Erased kept n b may = absurd may
poll_goes_on (Bit locked) kept n b may = tt
poll_goes_on (Locked k) kept n b may = tt
poll_goes_on NotYet kept n b may = tt
poll_goes_on (Failed from to lanes) kept n b may = absurd may

ends_none : (op : Op) (reply : Reply) (kept : Option HaltCause) (n : ℕ) (b : BankState) → MayRefuse kept reply → EndsErase op reply n b
ends_none Poll reply kept n b may = poll_goes_on reply kept n b may
ends_none (Read at len) reply kept n b may = tt
ends_none (Program at new) reply kept n b may = tt
ends_none (EraseOpen k) reply kept n b may = tt
ends_none EraseAll reply kept n b may = tt
ends_none (Lock k) reply kept n b may = tt
ends_none (Unlock k) reply kept n b may = tt
ends_none (IsLocked k) reply kept n b may = tt
ends_none (Arm after mask) reply kept n b may = tt
ends_none PowerOn reply kept n b may = tt

-- ---- the chips that it leaves

pub keeps_chips : (a b : BusState) → b.lanes ≡ a.lanes → KeepsLanes a b
keeps_chips a b same = record {
  count = ap (λ (ls : List ChipState). length ls) same;
  each = λ c below. subst (λ (ls : List ChipState). KeepsChip (lane a c) (chip_at ls c)) (sym same) (record { part = refl; size = refl; locks = refl; bytes = λ small. small });
}

record Left (b new : BankState) (reply : Reply) : Type 0 where
  rest : new ≡ with_bus b new.bus
  chips : new.bus.lanes ≡ b.bus.lanes
  cycles : ℕ
  few : cycles ≤ 1
  asked : Asked cycles b.bus new.bus
  off : (n : ℕ) → reply ≡ Halted (Off n) → more 1 b.bus.failed ≤ new.bus.failed
  stands : (a : ArrayState) → Stands b a → Stands new a

left_same : (b new : BankState) (reply : Reply) → new ≡ b → ((n : ℕ) → reply ≢ Halted (Off n)) → Left b new reply
left_same b new reply same other = subst (λ (x : BankState). Left b x reply) (sym same) (record {
  rest = refl;
  chips = refl;
  cycles = 0;
  few = omega arith;
  asked = inl (went_none b.bus);
  off = λ n is. absurd (other n is);
  stands = λ a stands. stands;
})

dark_fails : (power due : Bool) → power ≡ false → (not power || due) ≡ true
dark_fails true due dark = absurd (cc)
dark_fails false due dark = refl

-- after a loss of power a cycle failed
left_off : (b new : BankState) (n : ℕ) → b.halted ≡ Some (Off n) → b.bus.power ≡ false → Refuses (Halted (Off n)) b new → Left b new (Halted (Off n))
left_off b new n kept dark refuses =
    let fails = refuses.1 in
    let chips = fails.off_before dark in
    record {
      rest = refuses.0;
      chips = chips;
      cycles = 1;
      few = omega arith;
      asked = inr (lost_one b.bus new.bus (dark_fails b.bus.power _ dark) fails (keeps_chips b.bus new.bus chips));
      off = λ m is. fails.failed;
      stands = λ a stands.
          subst (λ (x : BankState). Stands x a) (sym refuses.0) (stays_standing b new.bus a (subst (λ (h : Option HaltCause). Stays h b.bus new.bus) (sym kept) fails) stands);
    }

left_as : (reply : Reply) (b new : BankState) → MayRefuse b.halted reply → ((n : ℕ) → reply ≡ Halted (Off n) → b.bus.power ≡ false) → Refuses reply b new
    → Left b new reply
left_as OutOfRange b new may dark same = left_same b new OutOfRange same (λ n is. cc)
left_as TooLong b new may dark same = left_same b new TooLong same (λ n is. cc)
left_as (Busy k) b new may dark same = left_same b new (Busy k) same (λ n is. cc)
left_as (Occupied k) b new may dark same = left_same b new (Occupied k) same (λ n is. cc)
left_as NoLocks b new may dark same = left_same b new NoLocks same (λ n is. cc)
left_as NoChipErase b new may dark same = left_same b new NoChipErase same (λ n is. cc)
left_as Nothing b new may dark same = left_same b new Nothing same (λ n is. cc)
left_as (Halted (Stuck k)) b new may dark same = left_same b new (Halted (Stuck k)) same (λ n is. cc)
left_as (Halted (Off n)) b new may dark refuses = left_off b new n may (dark n refl) refuses
left_as Done b new may dark same = absurd may
left_as Opened b new may dark same = absurd may
left_as Erased b new may dark same = absurd may
left_as (Bit locked) b new may dark same = absurd may
left_as (Locked k) b new may dark same = absurd may
left_as NotYet b new may dark same = absurd may
left_as (Failed from to lanes) b new may dark same = absurd may

-- ---- the call

some_most : (op : Op) (b : BankState) → is_own op ≡ false → 1 ≤ call_most op b
some_most (Read at len) b other = omega arith
some_most (Program at new) b other = omega arith
some_most (EraseOpen k) b other = omega arith
some_most EraseAll b other = omega arith
some_most Poll b other = omega arith
some_most (Lock k) b other = omega arith
some_most (Unlock k) b other = omega arith
some_most (IsLocked k) b other = omega arith
some_most (Arm after mask) b other = absurd (cc)
some_most PowerOn b other = absurd (cc)

pub own_caller : (op : Op) (caller : ℕ) → is_own op ≡ false → HasItsCaller op caller
own_caller (Read at len) caller other = tt
own_caller (Program at new) caller other = tt
own_caller (EraseOpen k) caller other = tt
own_caller EraseAll caller other = tt
own_caller Poll caller other = tt
own_caller (Lock k) caller other = tt
own_caller (Unlock k) caller other = tt
own_caller (IsLocked k) caller other = tt
own_caller (Arm after mask) caller other = absurd (cc)
own_caller PowerOn caller other = absurd (cc)

-- a halt is kept where this is refused
not_first : {T : Type 0} (kept : Option HaltCause) (reply : Reply) (cause : HaltCause) → MayRefuse kept reply → reply ≡ Halted cause → kept ≡ None → T
not_first kept reply cause may is none =
    let some = subst (λ (r : Reply). MayRefuse kept r) is may in
    absurd (let both : None ≡ Some cause = sym none ∙ some in cc)

none_some : {T : Type 0} (x : Option Reply) (reply : Reply) → x ≡ None → x ≡ Some reply → T
none_some x reply none is = absurd (let both : None ≡ Some reply = sym none ∙ is in cc)

-- A call of the chips that is refused is one entry, and leaves all as it was.
module _ (b new : BankState) (caller : ℕ) (op : Op) (reply : Reply) (given : List ℕ) (other : is_own op ≡ false) (is : bank_refusal b caller op ≡ Some reply)
    (refuses : Refuses reply b new) (dark : (n : ℕ) → reply ≡ Halted (Off n) → b.bus.power ≡ false) (given_up : (cause : HaltCause) → reply ≡ Halted cause → b.erase ≡ None) where
  its : MayRefuse b.halted reply
  its = may_refuse b caller op reply is

  left : Left b new reply
  left = left_as reply b new its dark refuses

  leaves : LeavesBank caller op b new reply
  leaves = record {
    found = ap (λ (x : BankState). x.found) left.rest;
    after = ap (λ (x : BankState). x.after) left.rest;
    halted = ap (λ (x : BankState). x.halted) left.rest ∙ sym (kept_same b.halted reply its);
    lanes = keeps_chips b.bus new.bus left.chips;
    erase = subst (λ (e : Option Erasing). KeepsErase caller op reply b.erase e) (sym (ap (λ (x : BankState). x.erase) left.rest)) (erase_same reply caller op b.halted b.erase its given_up);
    limit = λ waits. not_waiting b.halted reply its waits;
  }

  spends : Spends op reply b new
  spends =
      let few = left.few in
      let some = some_most op b other in
      record {
        cycles = left.cycles;
        few = omega (arith, few, some);
        asked = left.asked;
        left = λ a stands c below.
            let same = ap (λ (ls : List ChipState). erase_left (chip_at ls c)) left.chips in
            falls_in left.cycles op reply (lane b.bus c) (lane new.bus c) (λ opened. subst (λ (r : Reply). MayRefuse b.halted r) opened its)
            (omega (arith, same), omega (arith, same));
        ends = λ a stands. ends_none op reply b.halted left.cycles b its;
      }

  entry : (a : ArrayState) → Stands b a → MakesEntry b new (entry_of b new caller op reply given) a
  entry a stands =
      refused_entry b new a caller op reply given (own_caller op caller other) (refuses_as_array b a caller op stands ∙ is)
      (refused_as reply b new a op given stands its) (left.stands a stands)

  pub any_refusal : IsCallOf caller op b new reply given
  any_refusal = record {
    refused = λ r refused.
        let both : Some reply ≡ Some r = sym is ∙ refused in
        let one : reply ≡ r = cc in
        (one, subst (λ (x : Reply). Refuses x b new) one refuses);
    idle = λ none idle. none_some (bank_refusal b caller op) reply none is;
    answers = λ works. none_some (bank_refusal b caller op) reply works.unrefused is;
    makes = λ a stands. record {
      entry = entry a stands;
      counts = λ works. none_some (bank_refusal b caller op) reply works.unrefused is;
      waits = λ waits. not_waiting b.halted reply its waits;
      rests = λ quiet works open_erase. none_some (bank_refusal b caller op) reply works.unrefused is;
    };
    leaves = leaves;
    spends = spends;
    off = left.off;
    after = λ n halts running. not_first b.halted reply (Off n) its halts running;
    stuck = λ k halts running. not_first b.halted reply (Stuck k) its halts running;
  }

-- ---- as the calls come to it

plain_refusal : {T : Type 0} (reply : Reply) (cause : HaltCause) → (reply ≡ OutOfRange) ⊎ (reply ≡ TooLong) → reply ≡ Halted cause → T
plain_refusal reply cause (inl is) halts = absurd (cc)
plain_refusal reply cause (inr is) halts = absurd (cc)

plain_refuses : (b : BankState) (reply : Reply) → (reply ≡ OutOfRange) ⊎ (reply ≡ TooLong) → Refuses reply b b
plain_refuses b reply (inl is) = subst (λ (r : Reply). Refuses r b b) (sym is) refl
plain_refuses b reply (inr is) = subst (λ (r : Reply). Refuses r b b) (sym is) refl

-- by what is touched
pub touched_call : (b : BankState) (caller : ℕ) (op : Op) (reply : Reply) (given : List ℕ) → is_own op ≡ false → refusal_of b op ≡ Some reply
    → IsCallOf caller op b b reply given
touched_call b caller op reply given other is =
    let plain = refusal_is b.found (needs_of op).reach reply is in
    any_refusal b b caller op reply given other (touched_first b caller op reply is) (plain_refuses b reply plain)
    (λ n halts. plain_refusal reply (Off n) plain halts) (λ cause halts. plain_refusal reply cause plain halts)

pub touched_read : (b : BankState) (caller at len : ℕ) (reply : Reply) (given : List ℕ) → Some reply ≡ range_refusal (size_of b.found) at len
    → IsCallOf caller (Read at len) b b reply given
touched_read b caller at len reply given is = touched_call b caller (Read at len) reply given refl (sym is)

pub touched_if : (b : BankState) (refusal : Option Reply)
    → IfSome refusal (λ reply. (caller : ℕ) (op : Op) (given : List ℕ) → is_own op ≡ false → refusal_of b op ≡ refusal → IsCallOf caller op b b reply given)
touched_if b None = tt
touched_if b (Some reply) = λ caller op given other is. touched_call b caller op reply given other is

-- by the halt that is kept
other_power : (op : Op) → is_own op ≡ false → is_power_on op ≡ false
other_power (Read at len) other = refl
other_power (Program at new) other = refl
other_power (EraseOpen k) other = refl
other_power EraseAll other = refl
other_power Poll other = refl
other_power (Lock k) other = refl
other_power (Unlock k) other = refl
other_power (IsLocked k) other = refl
other_power (Arm after mask) other = refl
other_power PowerOn other = absurd (cc)

pub refuses_kept : (cause : HaltCause) (b new : BankState) → new ≡ with_bus b new.bus → Stays (Some cause) b.bus new.bus → Refuses (Halted cause) b new
refuses_kept (Off n) b new same stays = (same, stays)
refuses_kept (Stuck k) b new same stays = same ∙ ap (λ (x : BusState). with_bus b x) stays

pub kept_call : (width caller : ℕ) (b new : BankState) (op : Op) (cause : HaltCause) (given : List ℕ) → is_own op ≡ false → refusal_of b op ≡ None
    → b.halted ≡ Some cause → IsBankOf width b.bus b.found b.halted b.erase → new ≡ with_bus b new.bus → Stays b.halted b.bus new.bus
    → IsCallOf caller op b new (Halted cause) given
kept_call width caller b new op cause given other none halted bank same stays =
    any_refusal b new caller op (Halted cause) given other (kept_first b caller op cause (other_power op other) none halted)
    (refuses_kept cause b new same (subst (λ (h : Option HaltCause). Stays h b.bus new.bus) halted stays))
    (λ n is. let one : cause ≡ Off n = cc in subst (λ (h : Option HaltCause). IsDark h b.bus) (halted ∙ ap (λ (x : HaltCause). Some x) one) bank.dark)
    (λ other_cause is. bank.given_up cause halted)

-- by anything else
refuses_self : (reply : Reply) (b : BankState) → MayRefuse b.halted reply → b.halted ≡ None → Refuses reply b b
refuses_self OutOfRange b may running = refl
refuses_self TooLong b may running = refl
refuses_self (Busy k) b may running = refl
refuses_self (Occupied k) b may running = refl
refuses_self NoLocks b may running = refl
refuses_self NoChipErase b may running = refl
refuses_self Nothing b may running = refl
refuses_self (Halted cause) b may running = not_first b.halted (Halted cause) cause may refl running
refuses_self Done b may running = absurd may
refuses_self Opened b may running = absurd may
refuses_self Erased b may running = absurd may
refuses_self (Bit locked) b may running = absurd may
refuses_self (Locked k) b may running = absurd may
refuses_self NotYet b may running = absurd may
refuses_self (Failed from to lanes) b may running = absurd may

pub running_call : (b : BankState) (caller : ℕ) (op : Op) (reply : Reply) (given : List ℕ) → is_own op ≡ false → b.halted ≡ None
    → bank_refusal b caller op ≡ Some reply → IsCallOf caller op b b reply given
running_call b caller op reply given other running is =
    let may = may_refuse b caller op reply is in
    any_refusal b b caller op reply given other is (refuses_self reply b may running)
    (λ n halts. not_first b.halted reply (Off n) may halts running) (λ cause halts. not_first b.halted reply cause may halts running)

-- a poll where nothing is under erase for its caller
pub nothing_call : (b : BankState) (caller : ℕ) → b.halted ≡ None → owns (under_of b.erase) caller ≡ false → IsCallOf caller Poll b b Nothing []
nothing_call b caller running not_own =
    running_call b caller Poll Nothing [] refl running
    (poll_refusal b caller
    ∙ (ap (λ (h : Option HaltCause). option_or (option_map Halted h) (when (not (owns (under_of b.erase) caller)) Nothing)) running
    ∙ ap (λ (own : Bool). when (not own) Nothing) not_own))

-- ---- a call of these needs

pub needs_own : (needs : CallNeeds) (op : Op) → HasNeeds needs op → is_own op ≡ false
needs_own needs (Arm after mask) has = absurd (has.arms after mask refl)
needs_own needs PowerOn has = absurd (has.powers refl)
needs_own needs (Read at len) has = refl
needs_own needs (Program at new) has = refl
needs_own needs (EraseOpen k) has = refl
needs_own needs EraseAll has = refl
needs_own needs Poll has = refl
needs_own needs (Lock k) has = refl
needs_own needs (Unlock k) has = refl
needs_own needs (IsLocked k) has = refl

-- what it touches refuses it
pub needs_touch : (b : BankState) (needs : CallNeeds) (op : Op) (refusal : Option Reply) → HasNeeds needs op → refusal ≡ reach_refusal b.found needs.reach
    → refusal_of b op ≡ refusal
needs_touch b needs op refusal has is = ap (λ (n : CallNeeds). reach_refusal b.found n.reach) has.are ∙ sym is

pub none_touched : (b mid : BankState) (reach : Reach) (refusal : Option Reply) → mid ≡ b → refusal ≡ reach_refusal b.found reach → refusal ≡ None
    → reach_refusal mid.found reach ≡ None
none_touched b mid reach refusal same is none = ap (λ (x : BankState). reach_refusal x.found reach) same ∙ (sym is ∙ none)

-- what is under erase of its blocks
pub refused_under : (was b : BankState) (reply : Option Reply) (under : Option OpenErase) (needs : CallNeeds) → was ≡ b → under ≡ under_of b.erase
    → OfBlocks (blocks_of was.found) (λ a. reply ≡ while_open under a needs) → reply ≡ while_open (under_of b.erase) (outline b) needs
refused_under was b reply under needs same is told =
    told (outline b) (ap (λ (x : BankState). blocks_of x.found) (sym same)) ∙ ap (λ (u : Option OpenErase). while_open u (outline b) needs) is

-- a block under erase does, or another erase is open
pub busy_call : (b : BankState) (needs : CallNeeds) (reply : Reply) → b.halted ≡ None → reach_refusal b.found needs.reach ≡ None
    → Some reply ≡ while_open (under_of b.erase) (outline b) needs
    → (caller : ℕ) (op : Op) (given : List ℕ) → HasNeeds needs op → IsCallOf caller op b b reply given
busy_call b needs reply running none is caller op given has =
    let busy = while_open (under_of b.erase) (outline b) needs in
    let lacks = not_offered b.found needs in
    running_call b caller op reply given (needs_own needs op has) running
    (refuses_needs b caller op needs has
    ∙ (ap (λ (r : Option Reply). option_or r (option_or (option_map Halted b.halted) (option_or busy lacks))) none
    ∙ (ap (λ (h : Option HaltCause). option_or (option_map Halted h) (option_or busy lacks)) running
    ∙ ap (λ (r : Option Reply). option_or r lacks) (sym is))))

-- or the bank doesn't offer it
lacking_call : (b : BankState) (needs : CallNeeds) (reply : Reply) → b.halted ≡ None → reach_refusal b.found needs.reach ≡ None
    → while_open (under_of b.erase) (outline b) needs ≡ None → Some reply ≡ not_offered b.found needs
    → (caller : ℕ) (op : Op) (given : List ℕ) → HasNeeds needs op → IsCallOf caller op b b reply given
lacking_call b needs reply running none not_busy is caller op given has =
    let busy = while_open (under_of b.erase) (outline b) needs in
    let lacks = not_offered b.found needs in
    running_call b caller op reply given (needs_own needs op has) running
    (refuses_needs b caller op needs has
    ∙ (ap (λ (r : Option Reply). option_or r (option_or (option_map Halted b.halted) (option_or busy lacks))) none
    ∙ (ap (λ (h : Option HaltCause). option_or (option_map Halted h) (option_or busy lacks)) running
    ∙ (ap (λ (r : Option Reply). option_or r lacks) not_busy ∙ sym is))))

pub lacking_if : (b : BankState) (needs : CallNeeds) (lacks : Option Reply) → b.halted ≡ None → reach_refusal b.found needs.reach ≡ None
    → while_open (under_of b.erase) (outline b) needs ≡ None → lacks ≡ not_offered b.found needs
    → IfSome lacks (λ reply. (caller : ℕ) (op : Op) (given : List ℕ) → HasNeeds needs op → IsCallOf caller op b b reply given)
lacking_if b needs None running none not_busy is = tt
lacking_if b needs (Some reply) running none not_busy is = lacking_call b needs reply running none not_busy is
