-- What stands where a bank refuses a call, and where it doesn't.
use Rattle.std.proofs.Common.{◌≡◌, ◌≢◌, ◌&&◌, ℕ, List, [], ◌∷◌, Bool, true, false, not, Option, Some, None, if◌then◌else◌, refl, subst}
use Rattle.nor_array.specs.Array.{ArrayState}
use Rattle.nor_array.specs.Needs.{needs_of}
use Rattle.nor_array.specs.Refusals.{first_some, when, kept_halt, has_nothing, while_open, first_busy, first_open, busy_or_occupied, is_outside, is_too_long, is_power_on}
use Rattle.nor_array.specs.declared.needs.CallNeeds.{CallNeeds}
use Rattle.nor_array.specs.declared.entry.Halted.{Halted as HaltCause}
use Rattle.nor_array.specs.declared.entry.Halted.TheVariants.{Off as OffHalt, Stuck as StuckHalt}
use Rattle.nor_array.specs.declared.entry.Op.{Op}
use Rattle.nor_array.specs.declared.entry.Op.TheVariants.{Poll, PowerOn}
use Rattle.nor_array.specs.declared.entry.Reply.{Reply}
use Rattle.nor_array.specs.declared.entry.Reply.TheVariants.{OutOfRange, TooLong, Occupied, NoLocks, NoChipErase, Nothing, Halted}
use Rattle.nor_array.specs.declared.state.OpenErase.{OpenErase}
use Rattle.nor_bank.specs.Refused.{bank_refusal, outline, kept_cut}
use Rattle.nor_bank.specs.Stands.{kept_power, under_of}
use Rattle.nor_bank.specs.State.{BankState}
use Rattle.nor_bank.specs.declared.kept.Erasing.{Erasing}
use Rattle.nor_driver.specs.Fronts.{is_call}
use Rattle.nor_driver.specs.Made.{is_poll}
use Rattle.nor_driver.proofs.Replies.{false_true}

true_false : true ≡ false → ⊥
true_false is = cc

-- ---- calls

pub poll_is : (op : Op) → is_poll op ≡ true → op ≡ Poll
poll_is Poll is = refl
poll_is op is = absurd (false_true is)

call_power : (op : Op) → is_call op ≡ true → is_power_on op ≡ false
call_power PowerOn call = absurd (false_true call)
call_power op call = refl

-- ---- nothing refuses it

-- The kept halt and what is under erase, of a call that nothing refuses.
record Unrefused (kept while : Option Reply) : Type 0 where
  halt : kept ≡ None
  under : while ≡ None

unrefused : (outside long kept nothing while : Option Reply) (later : List (Option Reply)) → first_some (outside ∷ long ∷ kept ∷ nothing ∷ while ∷ later) ≡ None → Unrefused kept while
unrefused (Some r) long kept nothing while later none = absurd (cc)
unrefused None (Some r) kept nothing while later none = absurd (cc)
unrefused None None (Some r) nothing while later none = absurd (cc)
unrefused None None None (Some r) while later none = absurd (cc)
unrefused None None None None (Some r) later none = absurd (cc)
unrefused None None None None None later none = record { halt = refl; under = refl }

parts : (b : BankState) (caller : ℕ) (op : Op) → bank_refusal b caller op ≡ None
    → Unrefused (kept_halt (kept_power b.halted) (kept_cut b.halted) op) (while_open (under_of b.erase) (outline b) (needs_of op))
parts b caller op none =
    let o = outline b in
    let needs = needs_of op in
    unrefused (when (is_outside o needs.reach) OutOfRange) (when (is_too_long needs.reach) TooLong) (kept_halt o.power o.armed op) (when (has_nothing o caller op) Nothing) (while_open o.under o needs)
    (when (needs.locks && not o.consts.has_locks) NoLocks ∷ when (needs.chip_erase && not o.consts.has_chip_erase) NoChipErase ∷ []) none

halt_none : (kept : Option HaltCause) (op : Op) → is_power_on op ≡ false → kept_halt (kept_power kept) (kept_cut kept) op ≡ None → kept ≡ None
halt_none None op other none = refl
halt_none (Some (OffHalt n)) op other none =
    absurd (let is : Some (Halted (OffHalt n)) ≡ None = subst (λ (p : Bool). (if p then None else Some (Halted (OffHalt n))) ≡ None) other none in cc)
halt_none (Some (StuckHalt k)) op other none = absurd (cc)

-- no halt is kept
pub unrefused_runs : (b : BankState) (caller : ℕ) (op : Op) → is_call op ≡ true → bank_refusal b caller op ≡ None → b.halted ≡ None
unrefused_runs b caller op call none = halt_none b.halted op (call_power op call) (parts b caller op none).halt

busy_some : (busy : Option ℕ) (e : OpenErase) (opens : Bool) → opens ≡ true → busy_or_occupied busy e opens ≡ None → ⊥
busy_some (Some b) e opens is none = cc
busy_some None e true is none = cc
busy_some None e false is none = false_true is

open_none : (erase : Option Erasing) (o : ArrayState) (needs : CallNeeds) → needs.opens ≡ true → while_open (under_of erase) o needs ≡ None → erase ≡ None
open_none None o needs opens none = refl
open_none (Some e) o needs opens none =
    let under : OpenErase = record { target = e.target; caller = e.caller } in
    absurd (busy_some (first_busy under o needs) under needs.opens opens none)

-- and nothing is under erase, of a call that opens an erase
pub opening_closed : (b : BankState) (caller : ℕ) (op : Op) → (needs_of op).opens ≡ true → bank_refusal b caller op ≡ None → b.erase ≡ None
opening_closed b caller op opens none = open_none b.erase (outline b) (needs_of op) opens (parts b caller op none).under

-- ---- polls alone are told that there is nothing

abbrev Tells : Option Reply → Type 0
Tells o = o ≡ Some Nothing → ⊥

first_tells : (o : Option Reply) (later : List (Option Reply)) → Tells o → Tells (first_some later) → Tells (first_some (o ∷ later))
first_tells None later here rest = rest
first_tells (Some r) later here rest = here

when_tells : (holds : Bool) (r : Reply) → r ≢ Nothing → Tells (when holds r)
when_tells true r other is = other (cc)
when_tells false r other is = cc

when_never : (holds : Bool) (r : Reply) → holds ≡ false → Tells (when holds r)
when_never true r never is = true_false never
when_never false r never is = cc

off_tells : (leads_back : Bool) (cause : HaltCause) → Tells (if leads_back then None else Some (Halted cause))
off_tells true cause is = cc
off_tells false cause is = cc

kept_tells : (kept : Option HaltCause) (op : Op) → Tells (kept_halt (kept_power kept) (kept_cut kept) op)
kept_tells None op is = cc
kept_tells (Some (OffHalt n)) op is = off_tells (is_power_on op) (OffHalt n) is
kept_tells (Some (StuckHalt k)) op is = cc

busy_tells : (busy : Option ℕ) (e : OpenErase) (opens : Bool) → Tells (busy_or_occupied busy e opens)
busy_tells (Some b) e opens is = cc
busy_tells None e opens is = when_tells opens (Occupied (first_open e.target)) (λ same. cc) is

open_tells : (under : Option OpenErase) (o : ArrayState) (needs : CallNeeds) → Tells (while_open under o needs)
open_tells None o needs is = cc
open_tells (Some e) o needs is = busy_tells (first_busy e o needs) e needs.opens is

pub refusal_tells : (b : BankState) (caller : ℕ) (op : Op) → has_nothing (outline b) caller op ≡ false → bank_refusal b caller op ≡ Some Nothing → ⊥
refusal_tells b caller op something =
    let o = outline b in
    let needs = needs_of op in
    first_tells (when (is_outside o needs.reach) OutOfRange) _ (when_tells (is_outside o needs.reach) OutOfRange (λ same. cc))
    (first_tells (when (is_too_long needs.reach) TooLong) _ (when_tells (is_too_long needs.reach) TooLong (λ same. cc))
    (first_tells (kept_halt o.power o.armed op) _ (kept_tells b.halted op)
    (first_tells (when (has_nothing o caller op) Nothing) _ (when_never (has_nothing o caller op) Nothing something)
    (first_tells (while_open o.under o needs) _ (open_tells o.under o needs)
    (first_tells (when (needs.locks && not o.consts.has_locks) NoLocks) _ (when_tells (needs.locks && not o.consts.has_locks) NoLocks (λ same. cc))
    (first_tells (when (needs.chip_erase && not o.consts.has_chip_erase) NoChipErase) [] (when_tells (needs.chip_erase && not o.consts.has_chip_erase) NoChipErase (λ same. cc)) (λ is. cc)))))))

pub other_something : (a : ArrayState) (caller : ℕ) (op : Op) → is_call op ≡ true → is_poll op ≡ false → has_nothing a caller op ≡ false
other_something a caller Poll call other = absurd (true_false other)
other_something a caller PowerOn call other = absurd (false_true call)
other_something a caller op call other = refl
