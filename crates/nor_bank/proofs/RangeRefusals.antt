-- What refuses a read or a program, and what stands where nothing does.
use Rattle.std.proofs.Common.{◌≡◌, ◌≢◌, ◌∙◌, ◌&&◌, ℕ, List, [], ◌∷◌, Bool, true, false, not, Option, Some, None, refl, sym, ap, subst}
use Rattle.std.specs.Prelude.{◌&&◌}
use Rattle.nor_array.specs.Array.{ArrayState}
use Rattle.nor_array.specs.Needs.{needs_of}
use Rattle.nor_array.specs.Refusals.{refusal, first_some, when, kept_halt, has_nothing, while_open, first_busy, busy_or_occupied, is_outside, is_too_long}
use Rattle.nor_array.specs.declared.entry.Op.{Op}
use Rattle.nor_array.specs.declared.entry.Op.TheVariants.{Read, Program}
use Rattle.nor_array.specs.declared.entry.Reply.{Reply}
use Rattle.nor_array.specs.declared.entry.Reply.TheVariants.{OutOfRange, TooLong, Busy, Halted, Nothing, NoLocks, NoChipErase}
use Rattle.nor_array.specs.declared.state.ArmedCut.{ArmedCut}
use Rattle.nor_array.specs.declared.state.OpenErase.{OpenErase}
use Rattle.nor_array.specs.declared.state.Power.{Power}
use Rattle.nor_array.specs.declared.state.Power.TheVariants.{On, Off, Stuck}
use Rattle.nor_array.proofs.Unlocked.{is_range}

false_true : false ≡ true → ⊥
false_true is = cc

-- a reply that refuses a read or a program
abbrev pub is_refused : Reply → Bool
is_refused OutOfRange = true
is_refused TooLong = true
is_refused (Busy b) = true
is_refused (Halted cause) = true
is_refused _ = false

pub refused_other : (r s : Reply) → is_refused r ≡ true → is_refused s ≡ false → r ≢ s
refused_other r s refused other is = false_true (sym other ∙ (ap is_refused (sym is) ∙ refused))

-- ---- a reply of a list of refusals

abbrev IsOne : Option Reply → Type 0
IsOne o = (r : Reply) → o ≡ Some r → is_refused r ≡ true

some_same : (x y : Reply) → Some x ≡ Some y → x ≡ y
some_same x y is = cc

one_more : (o : Option Reply) (later : List (Option Reply)) → IsOne o → IsOne (first_some later) → IsOne (first_some (o ∷ later))
one_more None later one rest = rest
one_more (Some x) later one rest = one

none_of : (o : Option Reply) (later : List (Option Reply)) → first_some (o ∷ later) ≡ None → o ≡ None
none_of None later none = refl
none_of (Some x) later none = absurd (cc)

none_later : (o : Option Reply) (later : List (Option Reply)) → first_some (o ∷ later) ≡ None → first_some later ≡ None
none_later None later none = none
none_later (Some x) later none = absurd (cc)

when_one : (holds : Bool) (reply : Reply) → is_refused reply ≡ true → IsOne (when holds reply)
when_one true reply one r is = subst (λ (x : Reply). is_refused x ≡ true) (some_same reply r is) one
when_one false reply one r is = absurd (cc)

when_never : (holds : Bool) (reply : Reply) → holds ≡ false → IsOne (when holds reply)
when_never true reply never r is = absurd (false_true (sym never))
when_never false reply never r is = absurd (cc)

none_one : IsOne (first_some [])
none_one r is = absurd (cc)

-- ---- the refusals of a read or a program

kept_one : (power : Power) (armed : Option ArmedCut) (op : Op) → is_range op ≡ true → IsOne (kept_halt power armed op)
kept_one On armed op range r is = absurd (cc)
kept_one Off armed (Read at len) range r is = subst (λ (x : Reply). is_refused x ≡ true) (some_same _ r is) refl
kept_one Off armed (Program at new) range r is = subst (λ (x : Reply). is_refused x ≡ true) (some_same _ r is) refl
kept_one Off armed op range r is = absurd (false_true range)
kept_one (Stuck lane) armed op range r is = subst (λ (x : Reply). is_refused x ≡ true) (some_same _ r is) refl

nothing_never : (a : ArrayState) (caller : ℕ) (op : Op) → is_range op ≡ true → has_nothing a caller op ≡ false
nothing_never a caller (Read at len) range = refl
nothing_never a caller (Program at new) range = refl
nothing_never a caller op range = absurd (false_true range)

busy_one : (busy : Option ℕ) (e : OpenErase) → IsOne (busy_or_occupied busy e false)
busy_one None e r is = absurd (cc)
busy_one (Some b) e r is = subst (λ (x : Reply). is_refused x ≡ true) (some_same (Busy b) r is) refl

open_one : (under : Option OpenErase) (a : ArrayState) (op : Op) → is_range op ≡ true → IsOne (while_open under a (needs_of op))
open_one None a op range r is = absurd (cc)
open_one (Some e) a (Read at len) range r is = busy_one (first_busy e a (needs_of (Read at len))) e r is
open_one (Some e) a (Program at new) range r is = busy_one (first_busy e a (needs_of (Program at new))) e r is
open_one (Some e) a op range r is = absurd (false_true range)

asks_no_locks : (op : Op) (offered : Bool) → is_range op ≡ true → ((needs_of op).locks && not offered) ≡ false
asks_no_locks (Read at len) offered range = refl
asks_no_locks (Program at new) offered range = refl
asks_no_locks op offered range = absurd (false_true range)

erases_no_chip : (op : Op) (offered : Bool) → is_range op ≡ true → ((needs_of op).chip_erase && not offered) ≡ false
erases_no_chip (Read at len) offered range = refl
erases_no_chip (Program at new) offered range = refl
erases_no_chip op offered range = absurd (false_true range)

pub range_refused : (a : ArrayState) (caller : ℕ) (op : Op) (r : Reply) → is_range op ≡ true → refusal a caller op ≡ Some r → is_refused r ≡ true
range_refused a caller op r range = all r
  where
    all : IsOne (refusal a caller op)
    all = one_more _ _ (when_one (is_outside a (needs_of op).reach) OutOfRange refl)
        (one_more _ _ (when_one (is_too_long (needs_of op).reach) TooLong refl)
        (one_more _ _ (kept_one a.power a.armed op range)
        (one_more _ _ (when_never (has_nothing a caller op) Nothing (nothing_never a caller op range))
        (one_more _ _ (open_one a.under a op range)
        (one_more _ _ (when_never ((needs_of op).locks && not a.consts.has_locks) NoLocks (asks_no_locks op a.consts.has_locks range))
        (one_more _ _ (when_never ((needs_of op).chip_erase && not a.consts.has_chip_erase) NoChipErase (erases_no_chip op a.consts.has_chip_erase range))
        none_one))))))

-- ---- where nothing refuses it

kept_on : (power : Power) (armed : Option ArmedCut) (op : Op) → is_range op ≡ true → kept_halt power armed op ≡ None → power ≡ On
kept_on On armed op range none = refl
kept_on Off armed (Read at len) range none = absurd (cc)
kept_on Off armed (Program at new) range none = absurd (cc)
kept_on Off armed op range none = absurd (false_true range)
kept_on (Stuck lane) armed op range none = absurd (cc)

-- those behind a kept halt
abbrev later_ones : ArrayState → ℕ → Op → List (Option Reply)
later_ones a caller op =
    when (has_nothing a caller op) Nothing ∷ while_open a.under a (needs_of op)
    ∷ when ((needs_of op).locks && not a.consts.has_locks) NoLocks
    ∷ when ((needs_of op).chip_erase && not a.consts.has_chip_erase) NoChipErase ∷ []

pub range_on : (a : ArrayState) (caller : ℕ) (op : Op) → is_range op ≡ true → refusal a caller op ≡ None → a.power ≡ On
range_on a caller op range none =
    let kept : Option Reply = kept_halt a.power a.armed op in
    let long : Option Reply = when (is_too_long (needs_of op).reach) TooLong in
    let outside : Option Reply = when (is_outside a (needs_of op).reach) OutOfRange in
    let later : List (Option Reply) = later_ones a caller op in
    kept_on a.power a.armed op range
    (none_of kept later (none_later long (kept ∷ later) (none_later outside (long ∷ kept ∷ later) none)))
