-- Histories of a bank, call by call.
use Rattle.std.proofs.Common.{◌≡◌, ◌<◌, ◌+◌, ◌∙◌, ◌++◌, ◌∷◌, ℕ, zero, suc, List, [], Bool, true, false, Option, Some, None, refl, sym, ap, subst, arith}
use Rattle.std.specs.Prelude.{◌&&◌, not, if◌then◌else◌}
use Rattle.nor_cell.specs.Chip.{ChipState, counted}
use Rattle.nor_bus.specs.Bus.{lane}
use Rattle.nor_bus.specs.Driven.{EachLane}
use Rattle.nor_array.specs.Array.{ArrayState}
use Rattle.nor_array.specs.After.{after, after_all}
use Rattle.nor_array.specs.Entries.{is_halt}
use Rattle.nor_array.specs.Legal.{Facts, Legal}
use Rattle.nor_array.specs.Needs.{needs_of}
use Rattle.nor_array.specs.Refusals.{refusal, first_some, when, kept_halt, has_nothing, while_open, first_busy, busy_or_occupied, first_open, armed_after, is_outside, is_too_long, is_power_on}
use Rattle.nor_array.specs.declared.entry.Entry.{Entry}
use Rattle.nor_array.specs.declared.entry.Op.{Op}
use Rattle.nor_array.specs.declared.entry.Op.TheVariants.{Read, Program, EraseOpen, EraseAll, Poll, Lock, Unlock, IsLocked, Arm, PowerOn}
use Rattle.nor_array.specs.declared.entry.Reply.{Reply}
use Rattle.nor_array.specs.declared.entry.Reply.TheVariants.{Done, Opened, OutOfRange, TooLong, Busy, Occupied, Nothing, NotYet, NoLocks, NoChipErase, Halted}
use Rattle.nor_array.specs.declared.entry.Halted.TheVariants.{Off as OffHalt}
use Rattle.nor_array.specs.declared.state.ArmedCut.{ArmedCut}
use Rattle.nor_array.specs.declared.state.OpenErase.{OpenErase}
use Rattle.nor_array.specs.declared.state.Power.{Power}
use Rattle.nor_array.specs.declared.state.Power.TheVariants.{On, Off, Stuck}
use Rattle.nor_bank.specs.Calls.{MakesEntry, entry_of, entry_bytes, facts_of}
use Rattle.nor_bank.specs.Counts.{erases_after}
use Rattle.nor_history.specs.Histories.{opens, opened, risen, words_read, IsMadeBy, Makes, Leads}
use Rattle.nor_bank.specs.Refused.{bank_refusal, outline}
use Rattle.nor_bank.specs.Stands.{Stands}
use Rattle.nor_bank.specs.State.{BankState}
use Rattle.nor_bank.specs.Whole.{IsCallOf, Arms, PowersBank}
use Rattle.nor_bank.specs.Work.{KeepsBank}
use Rattle.nor_bank.proofs.Lasting.{facts_last}
use Rattle.nor_bank.proofs.RangeCalls.{refused_counts, same_counts}

-- ---- what a refusal answers

-- a reply that comes without asking the chips
abbrev pub is_refusal : Reply → Bool
is_refusal OutOfRange = true
is_refusal TooLong = true
is_refusal (Halted cause) = true
is_refusal Nothing = true
is_refusal (Busy b) = true
is_refusal (Occupied b) = true
is_refusal NoLocks = true
is_refusal NoChipErase = true
is_refusal r = false

-- what holds of a refusal, where there is one
abbrev OfRefusal : (P : Reply → Type 0) → Option Reply → Type 0
OfRefusal P None = Unit {0}
OfRefusal P (Some r) = P r

first_of : (P : Reply → Type 0) (o : Option Reply) (later : List (Option Reply)) → OfRefusal P o → OfRefusal P (first_some later) → OfRefusal P (first_some (o ∷ later))
first_of P None later one rest = rest
first_of P (Some r) later one rest = one

when_of : (P : Reply → Type 0) (holds : Bool) (r : Reply) → P r → OfRefusal P (when holds r)
when_of P true r is = is
when_of P false r is = tt

-- what holds of all that aren't halts
record OfOthers (P : Reply → Type 0) : Type 0 where
  pub range : P OutOfRange
  pub long : P TooLong
  pub nothing : P Nothing
  pub busy : (b : ℕ) → P (Busy b)
  pub occupied : (b : ℕ) → P (Occupied b)
  pub locks : P NoLocks
  pub chip_erase : P NoChipErase

busy_of : (P : Reply → Type 0) (busy : Option ℕ) (e : OpenErase) (opening : Bool) → OfOthers P → OfRefusal P (busy_or_occupied busy e opening)
busy_of P None e true each = each.occupied (first_open e.target)
busy_of P None e false each = tt
busy_of P (Some b) e opening each = each.busy b

open_of : (P : Reply → Type 0) (under : Option OpenErase) (a : ArrayState) (op : Op) → OfOthers P → OfRefusal P (while_open under a (needs_of op))
open_of P None a op each = tt
open_of P (Some e) a op each = busy_of P (first_busy e a (needs_of op)) e (needs_of op).opens each

refusal_of : (P : Reply → Type 0) (a : ArrayState) (caller : ℕ) (op : Op) → OfOthers P → OfRefusal P (kept_halt a.power a.armed op) → OfRefusal P (refusal a caller op)
refusal_of P a caller op each kept =
    first_of P _ _ (when_of P (is_outside a (needs_of op).reach) OutOfRange each.range)
    (first_of P _ _ (when_of P (is_too_long (needs_of op).reach) TooLong each.long)
    (first_of P _ _ kept
    (first_of P _ _ (when_of P (has_nothing a caller op) Nothing each.nothing)
    (first_of P _ _ (open_of P a.under a op each)
    (first_of P _ _ (when_of P ((needs_of op).locks && not a.consts.has_locks) NoLocks each.locks)
    (first_of P _ _ (when_of P ((needs_of op).chip_erase && not a.consts.has_chip_erase) NoChipErase each.chip_erase)
    tt))))))

abbrev Refuses : Reply → Type 0
Refuses r = is_refusal r ≡ true

kept_refuses : (power : Power) (armed : Option ArmedCut) (op : Op) → OfRefusal Refuses (kept_halt power armed op)
kept_refuses On armed op = tt
kept_refuses Off armed op = by_test (is_power_on op)
  where
    by_test : (b : Bool) → OfRefusal Refuses (if b then None else Some (Halted (OffHalt (armed_after armed))))
    by_test true = tt
    by_test false = refl
kept_refuses (Stuck k) armed op = refl

pub refused_is : (b : BankState) (caller : ℕ) (op : Op) (r : Reply) → bank_refusal b caller op ≡ Some r → is_refusal r ≡ true
refused_is b caller op r is = subst (OfRefusal Refuses) is (refusal_of Refuses (outline b) caller op each (kept_refuses (outline b).power (outline b).armed op))
  where
    each : OfOthers Refuses
    each = record { range = refl; long = refl; nothing = refl; busy = λ b. refl; occupied = λ b. refl; locks = refl; chip_erase = refl }

-- while power is on none is a halt
pub refused_goes_on : (a : ArrayState) (caller : ℕ) (op : Op) (r : Reply) → a.power ≡ On → refusal a caller op ≡ Some r → is_halt r ≡ false
refused_goes_on a caller op r power is = subst (OfRefusal GoesOn) is (refusal_of GoesOn a caller op each (subst (λ (p : Power). OfRefusal GoesOn (kept_halt p a.armed op)) (sym power) tt))
  where
    GoesOn : Reply → Type 0
    GoesOn r = is_halt r ≡ false

    each : OfOthers GoesOn
    each = record { range = refl; long = refl; nothing = refl; busy = λ b. refl; occupied = λ b. refl; locks = refl; chip_erase = refl }

-- no refusal opens an erase
refusal_opens : (r : Reply) → is_refusal r ≡ true → opens r ≡ 0
refusal_opens Opened refuses = cc
refusal_opens r refuses = refl

pub refused_opens : (b : BankState) (caller : ℕ) (op : Op) (r : Reply) → bank_refusal b caller op ≡ Some r → opens r ≡ 0
refused_opens b caller op r is = refusal_opens r (refused_is b caller op r is)

-- ---- each call counts the erase that it opens

abbrev Raises : Reply → ChipState → ChipState → Type 0
Raises reply s t = t.erases ≡ risen s.erases (opens reply)

risen_none : (n k : ℕ) → k ≡ 0 → n ≡ risen n k
risen_none n k none = sym (ap (λ (j : ℕ). risen n j) none)

pub risen_once : (r : Reply) (n : ℕ) → erases_after r n ≡ risen n (opens r)
risen_once Opened n = refl
risen_once r n = refl

-- where nothing opens one, and the counters stay
none_raised : (reply : Reply) (old new : BankState) → opens reply ≡ 0 → EachLane (λ s t. t.erases ≡ s.erases) old.bus new.bus → EachLane (Raises reply) old.bus new.bus
none_raised reply old new none stay c below = stay c below ∙ risen_none _ (opens reply) none

call_raises : (caller : ℕ) (op : Op) (old new : BankState) (reply : Reply) (given : List ℕ) (a : ArrayState) → IsCallOf caller op old new reply given → Stands old a
    → EachLane (Raises reply) old.bus new.bus
call_raises caller op old new reply given a call stands = by_refusal (bank_refusal old caller op) refl
  where
    by_idle : (idle : Bool) → (needs_of op).idle ≡ idle → bank_refusal old caller op ≡ None → EachLane (Raises reply) old.bus new.bus
    by_idle true idle none =
        let done = call.idle none idle in
        none_raised reply old new (ap opens done.0) (λ c below. (same_counts old new done.1 c below).erases)
    by_idle false busy none = λ c below.
        ((call.makes a stands).counts (record { unrefused = none; busy = busy }) c below).erases ∙ risen_once reply (lane old.bus c).erases

    by_refusal : (o : Option Reply) → bank_refusal old caller op ≡ o → EachLane (Raises reply) old.bus new.bus
    by_refusal None none = by_idle (needs_of op).idle refl none
    by_refusal (Some r) some =
        let both = call.refused r some in
        none_raised reply old new (ap opens both.0 ∙ refused_opens old caller op r some) (λ c below. (refused_counts old new r both.1 c below).erases)

arms_raise : (n m : ℕ) (old new : BankState) (reply : Reply) → Arms n m old new reply → EachLane (Raises reply) old.bus new.bus
arms_raise n m old new reply arms = by_refusal (bank_refusal old 0 (Arm n m)) refl
  where
    by_refusal : (o : Option Reply) → bank_refusal old 0 (Arm n m) ≡ o → EachLane (Raises reply) old.bus new.bus
    by_refusal None none =
        let done = arms.done none in
        none_raised reply old new (ap opens done.0) (λ c below. ap (λ (b : BankState). (lane b.bus c).erases) done.1)
    by_refusal (Some r) some =
        let both = arms.refused r some in
        none_raised reply old new (ap opens both.0 ∙ refused_opens old 0 (Arm n m) r some) (λ c below. (refused_counts old new r both.1 c below).erases)

powers_raise : (old new : BankState) (reply : Reply) → PowersBank old new reply → EachLane (Raises reply) old.bus new.bus
powers_raise old new reply powers = by_refusal (bank_refusal old 0 PowerOn) refl
  where
    by_refusal : (o : Option Reply) → bank_refusal old 0 PowerOn ≡ o → EachLane (Raises reply) old.bus new.bus
    by_refusal None none =
        let done = powers.done none in
        none_raised reply old new (ap opens done.0) (λ c below. ap (λ (s : ChipState). s.erases) (done.2.each c below))
    by_refusal (Some r) some =
        let both = powers.refused r some in
        none_raised reply old new (ap opens both.0 ∙ refused_opens old 0 PowerOn r some) (λ c below. (same_counts old new both.1 c below).erases)

-- ---- one call

-- as an entry of one that stands for an array
pub record MadeEntry (caller : ℕ) (op : Op) (old new : BankState) (reply : Reply) (given : List ℕ) (a : ArrayState) : Type 0 where
  pub entry : MakesEntry old new (entry_of old new caller op reply given) a
  pub erases : EachLane (Raises reply) old.bus new.bus

of_call : (caller : ℕ) (op : Op) (old new : BankState) (reply : Reply) (given : List ℕ) (a : ArrayState) → IsCallOf caller op old new reply given → Stands old a
    → MadeEntry caller op old new reply given a
of_call caller op old new reply given a call stands = record { entry = (call.makes a stands).entry; erases = call_raises caller op old new reply given a call stands }

arms_given : (reply : Reply) (n m : ℕ) (given : List ℕ) (old new : BankState) → entry_bytes reply (Arm n m) [] old new ≡ entry_bytes reply (Arm n m) given old new
arms_given Done n m given old new = refl
arms_given reply n m given old new = refl

powers_given : (reply : Reply) (given : List ℕ) (old new : BankState) → entry_bytes reply PowerOn [] old new ≡ entry_bytes reply PowerOn given old new
powers_given Done given old new = refl
powers_given reply given old new = refl

of_own : (caller : ℕ) (op : Op) (old new : BankState) (reply : Reply) (given : List ℕ) (a : ArrayState) → caller ≡ 0
    → entry_bytes reply op [] old new ≡ entry_bytes reply op given old new → MakesEntry old new (entry_of old new 0 op reply []) a
    → MakesEntry old new (entry_of old new caller op reply given) a
of_own caller op old new reply given a is same made =
    subst (λ (e : Entry). MakesEntry old new e a) (λ i. record { caller = sym is i; op = op; reply = reply; bytes = same i }) made

pub made_entry : (caller : ℕ) (op : Op) (old new : BankState) (reply : Reply) (given : List ℕ) (a : ArrayState) → IsMadeBy caller op old new reply given → Stands old a
    → MadeEntry caller op old new reply given a
made_entry caller (Arm n m) old new reply given a call stands = record {
  entry = of_own caller (Arm n m) old new reply given a call.0 (arms_given reply n m given old new) (call.1.makes a stands);
  erases = arms_raise n m old new reply call.1;
}
made_entry caller PowerOn old new reply given a call stands = record {
  entry = of_own caller PowerOn old new reply given a call.0 (powers_given reply given old new) (call.1.makes a stands);
  erases = powers_raise old new reply call.1;
}
made_entry caller (Read at len) old new reply given a call stands = of_call caller (Read at len) old new reply given a call stands
made_entry caller (Program at bytes) old new reply given a call stands = of_call caller (Program at bytes) old new reply given a call stands
made_entry caller (EraseOpen b) old new reply given a call stands = of_call caller (EraseOpen b) old new reply given a call stands
made_entry caller EraseAll old new reply given a call stands = of_call caller EraseAll old new reply given a call stands
made_entry caller Poll old new reply given a call stands = of_call caller Poll old new reply given a call stands
made_entry caller (Lock b) old new reply given a call stands = of_call caller (Lock b) old new reply given a call stands
made_entry caller (Unlock b) old new reply given a call stands = of_call caller (Unlock b) old new reply given a call stands
made_entry caller (IsLocked b) old new reply given a call stands = of_call caller (IsLocked b) old new reply given a call stands

-- ---- histories

pub leads_none : (b : BankState) (a : ArrayState) → Stands b a → Leads [] b b a
leads_none b a stands = record { legal = tt; stands = stands; erases = λ c below. refl }

pub leads_one : (caller : ℕ) (op : Op) (old new : BankState) (reply : Reply) (given : List ℕ) (a : ArrayState) → Makes caller op old new reply given → Stands old a
    → Leads (entry_of old new caller op reply given ∷ []) old new a
leads_one caller op old new reply given a makes stands =
    let made = made_entry caller op old new reply given a makes.call stands in
    let one : opens reply ≡ opens reply + 0 = omega arith in
    record {
      legal = (made.entry.admitted, made.entry.agrees, tt);
      stands = made.entry.stands;
      erases = λ c below. made.erases c below ∙ ap (λ (k : ℕ). risen (lane old.bus c).erases k) one;
    }

-- a poll that has to wait makes no entry: it changes nothing of the array
pub leads_waiting : (caller : ℕ) (old new : BankState) (reply : Reply) (a : ArrayState) → IsCallOf caller Poll old new reply [] → reply ≡ NotYet → Stands old a → Leads [] old new a
leads_waiting caller old new reply a call waits stands =
    let made = of_call caller Poll old new reply [] a call stands in
    record {
      legal = tt;
      stands = stands_still reply waits made.entry.stands;
      erases = λ c below. made.erases c below ∙ ap (λ (k : ℕ). risen (lane old.bus c).erases k) (ap opens waits);
    }
  where
    stands_still : (r : Reply) → r ≡ NotYet → Stands new (after a (entry_of old new caller Poll r [])) → Stands new a
    stands_still r is on = subst (λ (x : Reply). Stands new (after a (entry_of old new caller Poll x []))) is on

opened_then : (xs ys : List Entry) → opened (xs ++ ys) ≡ opened xs + opened ys
opened_then [] ys = let h : opened ys ≡ 0 + opened ys = omega arith in h
opened_then (x ∷ xs) ys = let rest = opened_then xs ys in omega (arith, rest)

pub risen_then : (n j k : ℕ) → risen (risen n j) k ≡ risen n (j + k)
risen_then n j zero = let h : j ≡ j + 0 = omega arith in ap (risen n) h
risen_then n j (suc k) = let h : suc (j + k) ≡ j + suc k = omega arith in ap counted (risen_then n j k) ∙ ap (risen n) h

pub words_then : (w : ℕ) (xs ys : List Entry) → words_read w (xs ++ ys) ≡ words_read w xs + words_read w ys
words_then w [] ys = let h : words_read w ys ≡ 0 + words_read w ys = omega arith in h
words_then w (x ∷ xs) ys = let rest = words_then w xs ys in omega (arith, rest)

pub after_then : (a : ArrayState) (xs ys : List Entry) → after_all a (xs ++ ys) ≡ after_all (after_all a xs) ys
after_then a [] ys = refl
after_then a (x ∷ xs) ys = after_then (after a x) xs ys

legal_then : (facts : Facts) (a : ArrayState) (xs ys : List Entry) → Legal facts a xs → Legal facts (after_all a xs) ys → Legal facts a (xs ++ ys)
legal_then facts a [] ys first next = next
legal_then facts a (x ∷ xs) ys first next = (first.0, first.1, legal_then facts (after a x) xs ys first.2 next)

-- one history behind another
pub leads_then : (xs ys : List Entry) (old mid new : BankState) (a : ArrayState) → KeepsBank old mid → Leads xs old mid a → Leads ys mid new (after_all a xs) → Leads (xs ++ ys) old new a
leads_then xs ys old mid new a keeps first next = record {
  legal = legal_then (facts_of old) a xs ys first.legal (subst (λ (f : Facts). Legal f (after_all a xs) ys) facts next.legal);
  stands = subst (λ (x : ArrayState). Stands new x) (sym (after_then a xs ys)) next.stands;
  erases = λ c below.
      next.erases c (subst (λ (n : ℕ). c < n) (sym keeps.lanes.count) below)
      ∙ (ap (λ (n : ℕ). risen n (opened ys)) (first.erases c below)
      ∙ (risen_then (lane old.bus c).erases (opened xs) (opened ys) ∙ ap (λ (k : ℕ). risen (lane old.bus c).erases k) (sym (opened_then xs ys))));
}
  where
    facts : facts_of mid ≡ facts_of old
    facts = facts_last old mid keeps.found keeps.lanes.count (λ c below. (keeps.lanes.each c below).part)
