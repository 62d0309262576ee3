-- What is known of an entry that an array admits.
use Rattle.std.proofs.Common.{◌≡◌, ◌≤◌, ◌+◌, ℕ, List, [], ◌∷◌, length, take, drop, refl, sym, subst, ap, arith, ◌∙◌, Bool, true, false, ◌⊎◌, inl, inr, Option, Some, None}
use Rattle.std.specs.Prelude.{not, ◌&&◌}
use Rattle.std.proofs.lemmas.Bool.{leb-false, ltb-false}
use Rattle.std.proofs.lemmas.Option.{same_Some}
use Rattle.std.proofs.lemmas.List.{length-take}
use Rattle.nor_array.specs.Array.{ArrayState, range, open_span}
use Rattle.nor_array.specs.Refusals.{refusal, first_some, when, kept_halt, while_open, is_outside, is_too_long, has_nothing}
use Rattle.nor_array.specs.Needs.{needs_of}
use Rattle.nor_array.specs.Entries.{is_halt}
use Rattle.nor_array.specs.Admits.{Admits, Answers, Unrefused, AsksChips, EndsUnlocked, Ends, FailsWithin, FailsWhole, HaltLeaves, WorkLeaves, ProgramLeaves, AreUncertain, first_locked}
use Rattle.nor_array.specs.Fits.{HaltFits, HaltIsWhole, LeftFits}
use Rattle.nor_array.specs.declared.state.Power.{Power}
use Rattle.nor_array.specs.declared.state.Power.TheVariants.{On, Off, Stuck}
use Rattle.nor_array.specs.declared.entry.Op.{Op}
use Rattle.nor_array.specs.declared.entry.Op.TheVariants.{Program, Poll, Lock, Unlock}
use Rattle.nor_array.specs.declared.entry.Reply.{Reply}
use Rattle.nor_array.specs.declared.entry.Reply.TheVariants.{OutOfRange, TooLong, Nothing, NoLocks, NoChipErase, Failed, Halted as HaltedReply}
use Rattle.nor_array.specs.declared.entry.Halted.{Halted}
use Rattle.nor_array.specs.declared.entry.Halted.TheVariants.{Off as OffHalt, Stuck as StuckHalt}
use Rattle.nor_array.specs.declared.entry.Entry.{Entry}
use Rattle.nor_array.proofs.Puts.{length-range}
use Rattle.nor_array.proofs.Refused.{HoldsOfEach, refusal_is}

-- the reply is the refusal, or there is none
split : (refused : Option Reply) (a : ArrayState) (e : Entry) → Answers refused e a
    → ((refused ≡ Some e.reply) × (e.bytes ≡ [])) ⊎ ((refused ≡ None) × Unrefused (needs_of e.op).idle e a)
split None a e answers = inr (refl, answers)
split (Some reply) a e answers = inl (ap (λ r. Some r) (sym answers.0), answers.1)

pub admitted : (a : ArrayState) (e : Entry) → Admits a e
    → ((refusal a e.caller e.op ≡ Some e.reply) × (e.bytes ≡ [])) ⊎ ((refusal a e.caller e.op ≡ None) × Unrefused (needs_of e.op).idle e a)
admitted a e admits = split (refusal a e.caller e.op) a e admits.1

-- where nothing refuses, the first refusal doesn't hold
first_fails : (holds : Bool) (reply : Reply) (later : List (Option Reply)) → first_some (when holds reply ∷ later) ≡ None → holds ≡ false
first_fails true reply later none = cc
first_fails false reply later none = refl

-- the refusals after OutOfRange
abbrev later_refusals : ArrayState → ℕ → Op → List (Option Reply)
later_refusals a caller op =
    when (is_too_long (needs_of op).reach) TooLong
    ∷ kept_halt a.power a.armed op
    ∷ when (has_nothing a caller op) Nothing
    ∷ while_open a.under a (needs_of op)
    ∷ when ((needs_of op).locks && not a.consts.has_locks) NoLocks
    ∷ when ((needs_of op).chip_erase && not a.consts.has_chip_erase) NoChipErase
    ∷ []

-- where nothing refuses, the call lies inside
pub unrefused_inside : (a : ArrayState) (caller : ℕ) (op : Op) → refusal a caller op ≡ None → is_outside a (needs_of op).reach ≡ false
unrefused_inside a caller op none = first_fails (is_outside a (needs_of op).reach) OutOfRange (later_refusals a caller op) none

-- a call that isn't told OutOfRange lies inside
inside_by : (holds : Bool) (reply : Reply) (later : List (Option Reply)) → first_some (when holds OutOfRange ∷ later) ≡ Some reply → (OutOfRange ≡ reply → ⊥) → holds ≡ false
inside_by true reply later is not_out = absurd (not_out (same_Some OutOfRange reply is))
inside_by false reply later is not_out = refl

pub admitted_inside : (a : ArrayState) (e : Entry) → Admits a e → (OutOfRange ≡ e.reply → ⊥) → is_outside a (needs_of e.op).reach ≡ false
admitted_inside a e admits not_out = elim (admitted a e admits) [
  | inl refused ↦ inside_by (is_outside a (needs_of e.op).reach) e.reply (later_refusals a e.caller e.op) refused.0 not_out
  | inr free ↦ unrefused_inside a e.caller e.op free.0
]

-- While power is on, no refusal is a halt, and none ever is a failure.
pub no_halts : (power : Power) → power ≡ On → HoldsOfEach (λ reply. is_halt reply ≡ false) power
no_halts power on = record {
  out_of_range = refl;
  too_long = refl;
  halted = λ cause not_on. absurd (not_on on);
  nothing = refl;
  busy = λ b. refl;
  occupied = λ b. refl;
  no_locks = refl;
  no_chip_erase = refl;
}

abbrev is_failure : Reply → Bool
is_failure (Failed from to lanes) = true
is_failure _ = false

no_failures : (power : Power) → HoldsOfEach (λ reply. is_failure reply ≡ false) power
no_failures power = record {
  out_of_range = refl;
  too_long = refl;
  halted = λ cause not_on. refl;
  nothing = refl;
  busy = λ b. refl;
  occupied = λ b. refl;
  no_locks = refl;
  no_chip_erase = refl;
}

-- so a halt has the bytes that a halt leaves
chips_halt : (reply : Reply) (cause : Halted) (op : Op) (a : ArrayState) (bytes : List ℕ) → reply ≡ HaltedReply cause → AsksChips reply op a bytes → HaltLeaves cause op a bytes
chips_halt reply (OffHalt n) op a bytes same asks = (let P : Reply → Type 0 = λ r. AsksChips r op a bytes in subst P same asks).1
chips_halt reply (StuckHalt lane) op a bytes same asks = (let P : Reply → Type 0 = λ r. AsksChips r op a bytes in subst P same asks).1

unrefused_halt : (needs_none : Bool) (e : Entry) (cause : Halted) (a : ArrayState) → e.reply ≡ HaltedReply cause → Unrefused needs_none e a → HaltLeaves cause e.op a e.bytes
unrefused_halt true e cause a same unrefused = cc
unrefused_halt false e cause a same unrefused = chips_halt e.reply cause e.op a e.bytes same unrefused

pub admitted_halt : (a : ArrayState) (e : Entry) (cause : Halted) → Admits a e → e.reply ≡ HaltedReply cause → a.power ≡ On
    → HaltLeaves cause e.op a e.bytes × (is_outside a (needs_of e.op).reach ≡ false)
admitted_halt a e cause admits same on = elim (admitted a e admits) [
  | inl refused ↦
      let none : is_halt e.reply ≡ false = refusal_is (λ reply. is_halt reply ≡ false) a e.caller e.op (no_halts a.power on) e.reply refused.0 in
      absurd (let no : true ≡ false = sym (ap is_halt same) ∙ none in cc)
  | inr free ↦ (unrefused_halt (needs_of e.op).idle e cause a same free.1, unrefused_inside a e.caller e.op free.0)
]

-- and a failure fits its call
abbrev pub FailureFits : Op → ArrayState → (from to : ℕ) → List ℕ → Type 0
FailureFits (Program at new) a from to bytes = FailsWithin a at new from to bytes
FailureFits Poll a from to bytes = FailsWhole a from to bytes
FailureFits _ a from to bytes = Unit {0}

ends_failed : (op : Op) (a : ArrayState) (from to lanes : ℕ) (bytes : List ℕ) → Ends op a (Failed from to lanes) bytes → FailureFits op a from to bytes
ends_failed (Program at new) a from to lanes bytes ends = ends.1
ends_failed Poll a from to lanes bytes ends = ends.1
ends_failed op a from to lanes bytes ends = tt

locked_failed : (locked : Option ℕ) (op : Op) (a : ArrayState) (from to lanes : ℕ) (bytes : List ℕ) → EndsUnlocked locked op a (Failed from to lanes) bytes → FailureFits op a from to bytes
locked_failed None op a from to lanes bytes ends = ends_failed op a from to lanes bytes ends
locked_failed (Some b) op a from to lanes bytes ends = absurd (let no = ends.0 in cc)

unrefused_failed : (needs_none : Bool) (e : Entry) (a : ArrayState) (from to lanes : ℕ) → e.reply ≡ Failed from to lanes → Unrefused needs_none e a → FailureFits e.op a from to e.bytes
unrefused_failed true e a from to lanes same unrefused = absurd (let no = sym same ∙ unrefused.0 in cc)
unrefused_failed false e a from to lanes same unrefused =
    let P : Reply → Type 0 = λ r. AsksChips r e.op a e.bytes in
    locked_failed (first_locked a e.op) e.op a from to lanes e.bytes (subst P same unrefused)

pub admitted_failed : (a : ArrayState) (e : Entry) (from to lanes : ℕ) → Admits a e → e.reply ≡ Failed from to lanes → FailureFits e.op a from to e.bytes
admitted_failed a e from to lanes admits same = elim (admitted a e admits) [
  | inl refused ↦
      let none : is_failure e.reply ≡ false = refusal_is (λ reply. is_failure reply ≡ false) a e.caller e.op (no_failures a.power) e.reply refused.0 in
      absurd (let no : true ≡ false = sym (ap is_failure same) ∙ none in cc)
  | inr free ↦ unrefused_failed (needs_of e.op).idle e a from to lanes same free.1
]

-- They reach over the block under erase, and the rest fits.
reaches : (n : ℕ) (bytes : List ℕ) → AreUncertain n (take n bytes) → n ≤ length bytes
reaches n bytes are = let taken = are.size in omega (arith, length-take n bytes)

leaves_many : (locked : Option ℕ) (old new bytes : List ℕ) → ProgramLeaves locked old new bytes → length bytes ≡ length old
leaves_many None old new bytes leaves = leaves.size
leaves_many (Some b) old new bytes leaves = ap length leaves

left_fits : (op : Op) (cause : Halted) (a : ArrayState) (left : List ℕ) → is_outside a (needs_of op).reach ≡ false → WorkLeaves op cause a left → LeftFits op a left
left_fits (Program at new) cause a left inside leaves =
    let fits : at + length new ≤ length a.bytes = ltb-false (length a.bytes) (at + length new) inside in
    let many = leaves_many (first_locked a (Program at new)) (range a.bytes at (length new)) new left leaves in
    omega (arith, length-range a.bytes at (length new) fits)
left_fits (Lock b) cause a left inside leaves = leb-false (length a.consts.blocks) b inside
left_fits (Unlock b) cause a left inside leaves = leb-false (length a.consts.blocks) b inside
left_fits op cause a left inside leaves = tt

halt_is_whole : (op : Op) (cause : Halted) (a : ArrayState) (bytes : List ℕ) → HaltLeaves cause op a bytes → is_outside a (needs_of op).reach ≡ false → HaltIsWhole op a bytes
halt_is_whole op cause a bytes leaves inside = record {
  block = reaches (open_span a).len bytes leaves.0;
  rest = left_fits op cause a (drop (open_span a).len bytes) inside leaves.1;
}

halt_fits : (power : Power) (a : ArrayState) (e : Entry) (cause : Halted) → a.power ≡ power → Admits a e → e.reply ≡ HaltedReply cause → HaltFits power e.op a e.bytes
halt_fits On a e cause is admits same = let halt = admitted_halt a e cause admits same is in halt_is_whole e.op cause a e.bytes halt.0 halt.1
halt_fits Off a e cause is admits same = tt
halt_fits (Stuck lane) a e cause is admits same = tt

pub halt_bytes_fit : (a : ArrayState) (e : Entry) (cause : Halted) → Admits a e → e.reply ≡ HaltedReply cause → HaltFits a.power e.op a e.bytes
halt_bytes_fit a e cause admits same = halt_fits a.power a e cause refl admits same
