-- A halt has a cause: an armed cut, or a stuck lane.
use Rattle.std.proofs.Common.{◌≡◌, ℕ, List, [], ◌∷◌, refl, sym, subst, ap, ◌∙◌, Bool, true, false, ◌||◌, inl, inr, None}
use Rattle.std.proofs.lemmas.Bool.{or_parts}
use Rattle.nor_array.specs.Array.{ArrayState}
use Rattle.nor_array.specs.After.{after, after_reply, after_done, after_opened, after_erased, after_failed}
use Rattle.nor_array.specs.Needs.{needs_of}
use Rattle.nor_array.specs.Admits.{Admits, Unrefused, AsksChips, IsArmed}
use Rattle.nor_array.specs.Legal.{Facts, Agrees, ReplyAgrees, Legal, is_stuck}
use Rattle.nor_array.specs.Entries.{is_halt, has_halt, is_arming, has_arming}
use Rattle.nor_array.specs.declared.state.Power.TheVariants.{On}
use Rattle.nor_array.specs.declared.entry.Op.{Op}
use Rattle.nor_array.specs.declared.entry.Op.TheVariants.{Program, EraseOpen, EraseAll, Poll, Lock, Unlock, Arm, PowerOn}
use Rattle.nor_array.specs.declared.entry.Reply.{Reply}
use Rattle.nor_array.specs.declared.entry.Reply.TheVariants.{Done, Opened, Erased, Failed, Halted as HaltedReply}
use Rattle.nor_array.specs.declared.entry.Halted.TheVariants.{Off as OffHalt, Stuck as StuckHalt}
use Rattle.nor_array.specs.declared.entry.Entry.{Entry}
use Rattle.nor_array.proofs.Admitted.{admitted, no_halts}
use Rattle.nor_array.proofs.Refused.{refusal_is}

-- power is on, and no cut armed
record IsUnarmed (a : ArrayState) : Type 0 where
  power : a.power ≡ On
  armed : a.armed ≡ None

abbrev IsSound : Facts → Type 0
IsSound facts = (lane : ℕ) → is_stuck facts lane ≡ false

-- ---- the chips give no halt

chips_halt : (reply : Reply) (op : Op) (bytes : List ℕ) (facts : Facts) (a : ArrayState) → IsUnarmed a → IsSound facts
    → ReplyAgrees reply facts a op bytes → AsksChips reply op a bytes → is_halt reply ≡ false
chips_halt (HaltedReply (OffHalt n)) op bytes facts a is sound agrees asks = absurd (subst (λ o. IsArmed o n) is.armed asks.0)
chips_halt (HaltedReply (StuckHalt lane)) op bytes facts a is sound agrees asks =
    absurd (let no : true ≡ false = sym agrees.0 ∙ sound lane in cc)
chips_halt reply op bytes facts a is sound agrees asks = refl

unrefused_halt : (idle : Bool) (e : Entry) (facts : Facts) (a : ArrayState) → IsUnarmed a → IsSound facts → Agrees facts a e
    → Unrefused idle e a → is_halt e.reply ≡ false
unrefused_halt true e facts a is sound agrees free = ap is_halt free.0
unrefused_halt false e facts a is sound agrees free = chips_halt e.reply e.op e.bytes facts a is sound agrees free

entry_halts : (e : Entry) (facts : Facts) (a : ArrayState) → IsUnarmed a → IsSound facts → Admits a e → Agrees facts a e
    → is_halt e.reply ≡ false
entry_halts e facts a is sound admits agrees = elim (admitted a e admits) [
  | inl refused ↦ refusal_is (λ reply. is_halt reply ≡ false) a e.caller e.op (no_halts a.power is.power) e.reply refused.0
  | inr free ↦ unrefused_halt (needs_of e.op).idle e facts a is sound agrees free.1
]

-- ---- no other entry arms a cut, or turns power off

done_unarmed : (op : Op) (a : ArrayState) → IsUnarmed a → is_arming op ≡ false → IsUnarmed (after_done op a)
done_unarmed (Program at new) a is none = record { power = is.power; armed = is.armed }
done_unarmed (Lock b) a is none = record { power = is.power; armed = is.armed }
done_unarmed (Unlock b) a is none = record { power = is.power; armed = is.armed }
done_unarmed (Arm cut mask) a is none = absurd (cc)
done_unarmed PowerOn a is none = record { power = refl; armed = refl }
done_unarmed op a is none = is

opened_unarmed : (op : Op) (caller : ℕ) (a : ArrayState) → IsUnarmed a → IsUnarmed (after_opened op caller a)
opened_unarmed (EraseOpen b) caller a is = record { power = is.power; armed = is.armed }
opened_unarmed EraseAll caller a is = record { power = is.power; armed = is.armed }
opened_unarmed op caller a is = is

erased_unarmed : (op : Op) (a : ArrayState) → IsUnarmed a → IsUnarmed (after_erased op a)
erased_unarmed Poll a is = record { power = is.power; armed = is.armed }
erased_unarmed op a is = is

failed_unarmed : (op : Op) (from : ℕ) (bytes : List ℕ) (a : ArrayState) → IsUnarmed a → IsUnarmed (after_failed op from bytes a)
failed_unarmed (Program at new) from bytes a is = record { power = is.power; armed = is.armed }
failed_unarmed Poll from bytes a is = record { power = is.power; armed = is.armed }
failed_unarmed op from bytes a is = is

reply_unarmed : (reply : Reply) (e : Entry) (a : ArrayState) → IsUnarmed a → is_halt reply ≡ false → is_arming e.op ≡ false
    → IsUnarmed (after_reply reply e a)
reply_unarmed Done e a is goes none = done_unarmed e.op a is none
reply_unarmed Opened e a is goes none = opened_unarmed e.op e.caller a is
reply_unarmed Erased e a is goes none = erased_unarmed e.op a is
reply_unarmed (Failed from to lanes) e a is goes none = failed_unarmed e.op from e.bytes a is
reply_unarmed (HaltedReply cause) e a is goes none = absurd (cc)
reply_unarmed reply e a is goes none = is

-- ---- so a history has none

never_halts : (facts : Facts) (a : ArrayState) (es : List Entry) → Legal facts a es → IsUnarmed a → has_arming es ≡ false → IsSound facts → has_halt es ≡ false
never_halts facts a [] legal is none sound = refl
never_halts facts a (e ∷ es) legal is none sound =
    let arms = or_parts (is_arming e.op) (has_arming es) none in
    let goes = entry_halts e facts a is sound legal.0 legal.1 in
    ap (λ (b : Bool). b || has_halt es) goes ∙ never_halts facts (after a e) es legal.2 (reply_unarmed e.reply e a is goes arms.0) arms.1 sound

pub halts_have_a_cause : (facts : Facts) (a : ArrayState) (es : List Entry) → Legal facts a es → a.power ≡ On → a.armed ≡ None
    → has_arming es ≡ false → IsSound facts → has_halt es ≡ false
halts_have_a_cause facts a es legal on unarmed none sound = never_halts facts a es legal (record { power = on; armed = unarmed }) none sound
