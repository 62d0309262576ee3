-- Calls that ask nothing of the chips.
use Rattle.std.proofs.Common.{◌≡◌, ◌+◌, inl, ℕ, List, [], ◌∷◌, ◌++◌, take, drop, refl, sym, ◌∙◌, ap, subst, arith, Bool, true, false, Option, Some, None}
use Rattle.std.proofs.lemmas.List.{append-nil, take-append-drop}
use Rattle.nor_cell.proofs.Logic.{no_items}
use Rattle.nor_bus.specs.Bus.{BusState}
use Rattle.nor_bus.specs.Cycles.{KeepsLanes}
use Rattle.nor_bus.proofs.Driving.{went_none}
use Rattle.nor_array.specs.Array.{ArrayState, put, range}
use Rattle.nor_array.specs.After.{after, all_and, programmed}
use Rattle.nor_array.specs.Admits.{Answers, Unrefused}
use Rattle.nor_array.specs.Needs.{needs_of}
use Rattle.nor_array.specs.declared.needs.CallNeeds.{CallNeeds}
use Rattle.nor_array.specs.declared.entry.Halted.TheVariants.{Off, Stuck}
use Rattle.nor_array.specs.declared.entry.Op.{Op}
use Rattle.nor_array.specs.declared.entry.Op.TheVariants.{Read, Program, EraseOpen, EraseAll, Poll, Lock, Unlock, IsLocked, Arm, PowerOn}
use Rattle.nor_array.specs.declared.entry.Reply.{Reply}
use Rattle.nor_array.specs.declared.entry.Reply.TheVariants.{Done, Failed, NotYet, Halted}
use Rattle.nor_bank.specs.Calls.{entry_of, given_by}
use Rattle.nor_bank.specs.Refused.{Works, bank_refusal, is_own}
use Rattle.nor_bank.specs.Stands.{Stands}
use Rattle.nor_bank.specs.State.{BankState}
use Rattle.nor_bank.specs.Way.{HasNeeds}
use Rattle.nor_bank.specs.Whole.{IsCallOf}
use Rattle.nor_bank.proofs.Ending.{polls, ends_none}
use Rattle.nor_bank.proofs.Outlines.{refuses_as_array}
use Rattle.nor_bank.proofs.RefusedCalls.{MayRefuse, goes_on_self, own_caller, may_refuse}

-- ---- calls with needs

pub needs_own : (op : Op) (needs : CallNeeds) → HasNeeds needs op → is_own op ≡ false
needs_own (Arm cut mask) needs has = absurd (has.arms cut mask refl)
needs_own PowerOn needs has = absurd (has.powers refl)
needs_own (Read at len) needs has = refl
needs_own (Program at new) needs has = refl
needs_own (EraseOpen k) needs has = refl
needs_own EraseAll needs has = refl
needs_own Poll needs has = refl
needs_own (Lock k) needs has = refl
needs_own (Unlock k) needs has = refl
needs_own (IsLocked k) needs has = refl

pub needs_unpolled : (op : Op) (needs : CallNeeds) → HasNeeds needs op → polls op ≡ false
needs_unpolled Poll needs has = absurd (has.unpolled refl)
needs_unpolled op needs has = refl

-- a refusal is never that a call is done
pub never_done : (b : BankState) (caller : ℕ) (op : Op) (refusal : Option Reply) (reply : Reply) → refusal ≡ bank_refusal b caller op → refusal ≡ Some reply
    → Some reply ≡ Some Done → ⊥
never_done b caller op refusal reply is some done =
    let same : reply ≡ Done = cc in
    subst (λ (r : Reply). MayRefuse b.halted r) same (may_refuse b caller op reply (sym is ∙ some))

-- nor that it failed
pub never_failed : (b : BankState) (caller : ℕ) (op : Op) (refusal : Option Reply) (reply : Reply) (from to lanes : ℕ) → refusal ≡ bank_refusal b caller op → refusal ≡ Some reply
    → Some reply ≡ Some (Failed from to lanes) → ⊥
never_failed b caller op refusal reply from to lanes is some failed =
    let same : reply ≡ Failed from to lanes = cc in
    subst (λ (r : Reply). MayRefuse b.halted r) same (may_refuse b caller op reply (sym is ∙ some))

-- ---- a call that asks nothing of the chips

pub lanes_self : (bus : BusState) → KeepsLanes bus bus
lanes_self bus = record { count = refl; each = λ c below. record { part = refl; size = refl; locks = refl; bytes = λ small. small } }

no_given : (op : Op) (given : List ℕ) → given ≡ [] → given_by op given ≡ []
no_given (Read at len) given none = none
no_given (Program at new) given none = refl
no_given (EraseOpen k) given none = refl
no_given EraseAll given none = refl
no_given Poll given none = refl
no_given (Lock k) given none = refl
no_given (Unlock k) given none = refl
no_given (IsLocked k) given none = refl
no_given (Arm cut mask) given none = refl
no_given PowerOn given none = refl

and_no_data : (old : List ℕ) → all_and old [] ≡ []
and_no_data [] = refl
and_no_data (x ∷ old) = refl

put_nothing : (bytes : List ℕ) (at : ℕ) → put bytes at [] ≡ bytes
put_nothing bytes at =
    let same : at + 0 ≡ at = omega arith in
    ap (λ (xs : List ℕ). xs ++ drop (at + 0) bytes) (append-nil (take at bytes))
    ∙ (ap (λ (n : ℕ). take at bytes ++ drop n bytes) same ∙ take-append-drop at bytes)

-- programming no bytes changes none
pub programs_nothing : (bytes : List ℕ) (at : ℕ) → programmed bytes at [] ≡ bytes
programs_nothing bytes at = ap (λ (xs : List ℕ). put bytes at xs) (and_no_data (range bytes at 0)) ∙ put_nothing bytes at

idle_stands : (op : Op) (b : BankState) (a : ArrayState) (caller : ℕ) (given : List ℕ) → (needs_of op).idle ≡ true → is_own op ≡ false → Stands b a
    → Stands b (after a (entry_of b b caller op Done given))
idle_stands (Read at len) b a caller given idle other stands = stands
idle_stands (Program at new) b a caller given idle other stands =
    let none : new ≡ [] = no_items new idle in
    subst (λ (xs : List ℕ). Stands b (record a { bytes = programmed a.bytes at xs })) (sym none)
    (subst (λ (xs : List ℕ). Stands b (record a { bytes = xs })) (sym (programs_nothing a.bytes at)) stands)
idle_stands (EraseOpen k) b a caller given idle other stands = absurd (cc)
idle_stands EraseAll b a caller given idle other stands = absurd (cc)
idle_stands Poll b a caller given idle other stands = absurd (cc)
idle_stands (Lock k) b a caller given idle other stands = absurd (cc)
idle_stands (Unlock k) b a caller given idle other stands = absurd (cc)
idle_stands (IsLocked k) b a caller given idle other stands = absurd (cc)
idle_stands (Arm cut mask) b a caller given idle other stands = absurd (cc)
idle_stands PowerOn b a caller given idle other stands = absurd (cc)

pub idle_call : (b : BankState) (caller : ℕ) (op : Op) (given : List ℕ) → bank_refusal b caller op ≡ None → (needs_of op).idle ≡ true → is_own op ≡ false
    → polls op ≡ false → given ≡ [] → IsCallOf caller op b b Done given
idle_call b caller op given unrefused idle other unpolled none =
    let e = entry_of b b caller op Done given in
    let busy : Works caller op b → ⊥ = λ works. (let both : true ≡ false = sym idle ∙ works.busy in cc) in
    record {
      refused = λ r is. absurd (let both : Some r ≡ None = sym is ∙ unrefused in cc);
      idle = λ _ _. (refl, refl);
      answers = λ works. absurd (busy works);
      makes = λ a stands. record {
        entry = record {
          admitted = (
            own_caller op caller other,
            subst (λ (r : Option Reply). Answers r e a) (sym (refuses_as_array b a caller op stands ∙ unrefused))
                (subst (λ (i : Bool). Unrefused i e a) (sym idle) (refl, no_given op given none)),
          );
          agrees = tt;
          stands = idle_stands op b a caller given idle other stands;
        };
        counts = λ works. absurd (busy works);
        waits = λ is. absurd (let both : Done ≡ NotYet = is in cc);
        rests = λ quiet works. absurd (busy works);
      };
      leaves = record {
        found = refl;
        after = refl;
        halted = refl;
        lanes = lanes_self b.bus;
        erase = goes_on_self b.erase;
        limit = λ is. absurd (let both : Done ≡ NotYet = is in cc);
      };
      spends = record {
        cycles = 0;
        few = omega arith;
        asked = inl (went_none b.bus);
        left = λ a stands c below. (omega arith, omega arith);
        ends = λ a stands. ends_none op Done 0 b unpolled;
      };
      off = λ n is. absurd (let both : Done ≡ Halted (Off n) = is in cc);
      after = λ n is. absurd (let both : Done ≡ Halted (Off n) = is in cc);
      stuck = λ k is. absurd (let both : Done ≡ Halted (Stuck k) = is in cc);
    }

-- as it comes to know it: nothing refused the call, and the bank stayed
pub idle_answer : (old now : BankState) (needs : CallNeeds) (refusal : Option Reply) (caller : ℕ) (op : Op) (given : List ℕ) → HasNeeds needs op
    → refusal ≡ bank_refusal old caller op → refusal ≡ None → now ≡ old → needs.idle ≡ true → (needs.idle ≡ true → given ≡ []) → IsCallOf caller op old now Done given
idle_answer old now needs refusal caller op given has is none same idle empty =
    subst (λ (b : BankState). IsCallOf caller op old b Done given) (sym same)
    (idle_call old caller op given (sym is ∙ none) (ap (λ (n : CallNeeds). n.idle) has.are ∙ idle) (needs_own op needs has) (needs_unpolled op needs has) (empty idle))
