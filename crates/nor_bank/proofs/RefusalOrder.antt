-- In which order a bank refuses a call.
use Rattle.std.proofs.Common.{◌≡◌, ℕ, List, [], ◌∷◌, length, refl, ◌∙◌, ap, subst, Bool, true, false, Option, Some, None}
use Rattle.std.specs.Prelude.{◌&&◌, not, nat_le, if◌then◌else◌}
use Rattle.std.specs.Option.{option_or, option_map}
use Rattle.nor_query.specs.Derived.{locks_of, chip_erase_of}
use Rattle.nor_array.specs.Array.{ArrayState}
use Rattle.nor_array.specs.Needs.{needs_of}
use Rattle.nor_array.specs.Refusals.{first_some, when, kept_halt, while_open, busy_or_occupied, is_outside, is_too_long, is_power_on, has_nothing, owns}
use Rattle.nor_array.specs.declared.needs.CallNeeds.{CallNeeds}
use Rattle.nor_array.specs.declared.needs.Reach.{Reach}
use Rattle.nor_array.specs.declared.needs.Reach.TheVariants.{Nowhere, Range, Block, Everywhere}
use Rattle.nor_array.specs.declared.entry.Halted.{Halted as HaltCause}
use Rattle.nor_array.specs.declared.entry.Halted.TheVariants.{Off, Stuck}
use Rattle.nor_array.specs.declared.entry.Op.{Op}
use Rattle.nor_array.specs.declared.entry.Op.TheVariants.{Read, Program, EraseOpen, EraseAll, Poll, Lock, Unlock, IsLocked, Arm, PowerOn}
use Rattle.nor_array.specs.declared.entry.Reply.{Reply}
use Rattle.nor_array.specs.declared.entry.Reply.TheVariants.{OutOfRange, TooLong, NoLocks, NoChipErase, Nothing, Halted}
use Rattle.nor_array.specs.declared.state.OpenErase.{OpenErase}
use Rattle.nor_bank.specs.Refused.{outline, bank_refusal, kept_cut, not_offered}
use Rattle.nor_bank.specs.Stands.{kept_power, under_of}
use Rattle.nor_bank.specs.State.{BankState, blocks_of}
use Rattle.nor_bank.specs.Way.{HasNeeds}
use Rattle.nor_bank.specs.Work.{reach_refusal, range_refusal, refusal_of}
use Rattle.nor_bank.proofs.Meeting.{open_nowhere}
use Rattle.nor_bank.proofs.Refusing.{first_when, split}
use Rattle.nor_bank.proofs.Outlines.{outline_size}

-- ---- the order of what a bank refuses a call with

-- by what is touched
reach_of : (b : BankState) (reach : Reach)
    → first_some (when (is_outside (outline b) reach) OutOfRange ∷ when (is_too_long reach) TooLong ∷ []) ≡ reach_refusal b.found reach
reach_of b Nowhere = refl
reach_of b (Range at len) = ap (λ (n : ℕ). range_refusal n at len) (outline_size b)
reach_of b (Block k) = first_when (nat_le (length (blocks_of b.found)) k)
reach_of b Everywhere = refl

in_turn : (kept busy locks chips : Option Reply) → first_some (kept ∷ None ∷ busy ∷ locks ∷ chips ∷ [])
    ≡ option_or kept (option_or busy (first_some (locks ∷ chips ∷ [])))
in_turn (Some r) busy locks chips = refl
in_turn None (Some r) locks chips = refl
in_turn None None locks chips = refl

-- by the halt that is kept
halt_of : (halted : Option HaltCause) (op : Op) → is_power_on op ≡ false → kept_halt (kept_power halted) (kept_cut halted) op ≡ option_map Halted halted
halt_of None op other = refl
halt_of (Some (Off n)) op other = ap (λ (p : Bool). if p then None else Some (Halted (Off n))) other
halt_of (Some (Stuck k)) op other = refl

-- In this order the bank refuses a call that isn't one of its own, nor a poll.
pub refuses_in_turn : (b : BankState) (caller : ℕ) (op : Op) (needs : CallNeeds) → needs_of op ≡ needs → is_power_on op ≡ false
    → has_nothing (outline b) caller op ≡ false
    → bank_refusal b caller op ≡ option_or (reach_refusal b.found needs.reach)
    (option_or (option_map Halted b.halted) (option_or (while_open (under_of b.erase) (outline b) needs) (not_offered b.found needs)))
refuses_in_turn b caller op needs are other something =
    subst (λ (n : CallNeeds). bank_refusal b caller op ≡ option_or (reach_refusal b.found n.reach)
    (option_or (option_map Halted b.halted) (option_or (while_open (under_of b.erase) (outline b) n) (not_offered b.found n)))) are
    (split (is_outside o reach) (is_too_long reach) later
    ∙ (ap (λ (r : Option Reply). option_or r (first_some later)) (reach_of b reach)
    ∙ ap (λ (r : Option Reply). option_or (reach_refusal b.found reach) r) rest))
  where
    o : ArrayState
    o = outline b

    reach : Reach
    reach = (needs_of op).reach

    busy : Option Reply
    busy = while_open (under_of b.erase) o (needs_of op)

    locks : Option Reply
    locks = when ((needs_of op).locks && not (locks_of b.found.query.extended)) NoLocks

    chips : Option Reply
    chips = when ((needs_of op).chip_erase && not (chip_erase_of b.found.query.set b.found.query.times)) NoChipErase

    later : List (Option Reply)
    later = kept_halt (kept_power b.halted) (kept_cut b.halted) op ∷ when (has_nothing o caller op) Nothing ∷ busy ∷ locks ∷ chips ∷ []

    rest : first_some later ≡ option_or (option_map Halted b.halted) (option_or busy (not_offered b.found (needs_of op)))
    rest =
        ap (λ (k : Option Reply). first_some (k ∷ when (has_nothing o caller op) Nothing ∷ busy ∷ locks ∷ chips ∷ [])) (halt_of b.halted op other)
        ∙ (ap (λ (n : Bool). first_some (option_map Halted b.halted ∷ when n Nothing ∷ busy ∷ locks ∷ chips ∷ [])) something
        ∙ in_turn (option_map Halted b.halted) busy locks chips)

has_needs_power : (needs : CallNeeds) (op : Op) → HasNeeds needs op → is_power_on op ≡ false
has_needs_power needs PowerOn has = absurd (has.powers refl)
has_needs_power needs (Read at len) has = refl
has_needs_power needs (Program at new) has = refl
has_needs_power needs (EraseOpen k) has = refl
has_needs_power needs EraseAll has = refl
has_needs_power needs Poll has = refl
has_needs_power needs (Lock k) has = refl
has_needs_power needs (Unlock k) has = refl
has_needs_power needs (IsLocked k) has = refl
has_needs_power needs (Arm after mask) has = refl

has_needs_something : (a : ArrayState) (caller : ℕ) (needs : CallNeeds) (op : Op) → HasNeeds needs op → has_nothing a caller op ≡ false
has_needs_something a caller needs PowerOn has = absurd (has.powers refl)
has_needs_something a caller needs Poll has = absurd (has.unpolled refl)
has_needs_something a caller needs (Read at len) has = refl
has_needs_something a caller needs (Program at new) has = refl
has_needs_something a caller needs (EraseOpen k) has = refl
has_needs_something a caller needs EraseAll has = refl
has_needs_something a caller needs (Lock k) has = refl
has_needs_something a caller needs (Unlock k) has = refl
has_needs_something a caller needs (IsLocked k) has = refl
has_needs_something a caller needs (Arm after mask) has = refl

-- So it refuses any call with such needs.
pub refuses_needs : (b : BankState) (caller : ℕ) (op : Op) (needs : CallNeeds) → HasNeeds needs op
    → bank_refusal b caller op ≡ option_or (reach_refusal b.found needs.reach)
    (option_or (option_map Halted b.halted) (option_or (while_open (under_of b.erase) (outline b) needs) (not_offered b.found needs)))
refuses_needs b caller op needs has = refuses_in_turn b caller op needs has.are (has_needs_power needs op has) (has_needs_something (outline b) caller needs op has)

-- ---- a refusal by what is touched, or by the halt that is kept

abbrev later_of : BankState → ℕ → Op → List (Option Reply)
later_of b caller op =
    let needs = needs_of op in
    when (has_nothing (outline b) caller op) Nothing
    ∷ while_open (under_of b.erase) (outline b) needs
    ∷ when (needs.locks && not (locks_of b.found.query.extended)) NoLocks
    ∷ when (needs.chip_erase && not (chip_erase_of b.found.query.set b.found.query.times)) NoChipErase
    ∷ []

first_of_all : (b : BankState) (caller : ℕ) (op : Op)
    → bank_refusal b caller op ≡ option_or (refusal_of b op) (first_some (kept_halt (kept_power b.halted) (kept_cut b.halted) op ∷ later_of b caller op))
first_of_all b caller op =
    let later = kept_halt (kept_power b.halted) (kept_cut b.halted) op ∷ later_of b caller op in
    split (is_outside (outline b) (needs_of op).reach) (is_too_long (needs_of op).reach) later
    ∙ ap (λ (r : Option Reply). option_or r (first_some later)) (reach_of b (needs_of op).reach)

pub touched_first : (b : BankState) (caller : ℕ) (op : Op) (reply : Reply) → refusal_of b op ≡ Some reply → bank_refusal b caller op ≡ Some reply
touched_first b caller op reply is =
    first_of_all b caller op
    ∙ ap (λ (r : Option Reply). option_or r (first_some (kept_halt (kept_power b.halted) (kept_cut b.halted) op ∷ later_of b caller op))) is

pub kept_first : (b : BankState) (caller : ℕ) (op : Op) (cause : HaltCause) → is_power_on op ≡ false → refusal_of b op ≡ None → b.halted ≡ Some cause
    → bank_refusal b caller op ≡ Some (Halted cause)
kept_first b caller op cause other none halted =
    let kept = halt_of b.halted op other ∙ ap (λ (h : Option HaltCause). option_map Halted h) halted in
    first_of_all b caller op
    ∙ (ap (λ (r : Option Reply). option_or r (first_some (kept_halt (kept_power b.halted) (kept_cut b.halted) op ∷ later_of b caller op))) none
    ∙ ap (λ (k : Option Reply). first_some (k ∷ later_of b caller op)) kept)

-- a poll is refused by a halt, and where its caller owns no erase
poll_beside : (under : Option OpenErase) (o : ArrayState) → while_open under o (needs_of Poll) ≡ None
poll_beside None o = refl
poll_beside (Some e) o = ap (λ (k : Option ℕ). busy_or_occupied k e false) (open_nowhere e.target o)

poll_turn : (kept : Option Reply) (nothing : Bool) → first_some (kept ∷ when nothing Nothing ∷ None ∷ None ∷ None ∷ []) ≡ option_or kept (when nothing Nothing)
poll_turn (Some r) nothing = refl
poll_turn None true = refl
poll_turn None false = refl

pub poll_refusal : (b : BankState) (caller : ℕ)
    → bank_refusal b caller Poll ≡ option_or (option_map Halted b.halted) (when (not (owns (under_of b.erase) caller)) Nothing)
poll_refusal b caller =
    let nothing = not (owns (under_of b.erase) caller) in
    ap (λ (k : Option Reply). first_some (k ∷ when nothing Nothing ∷ while_open (under_of b.erase) (outline b) (needs_of Poll) ∷ None ∷ None ∷ [])) (halt_of b.halted Poll refl)
    ∙ (ap (λ (busy : Option Reply). first_some (option_map Halted b.halted ∷ when nothing Nothing ∷ busy ∷ None ∷ None ∷ [])) (poll_beside (under_of b.erase) (outline b))
    ∙ poll_turn (option_map Halted b.halted) nothing)
