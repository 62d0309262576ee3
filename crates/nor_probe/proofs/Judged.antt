-- From what was seen of a bank to what probing answers.
use Rattle.std.proofs.Common.{◌≡◌, ◌<◌, ◌≤◌, ◌+◌, ◌∙◌, ℕ, List, Option, Some, None, Result, Ok, Err, IsOk, IfOk, IfErr, refl, sym, ap, subst, arith}
use Rattle.std.specs.Option.{option_or, option_map}
use Rattle.std.specs.Result.{result_err}
use Rattle.nor_cell.specs.Chip.{ChipState}
use Rattle.nor_cell.specs.declared.geometry.Geometry.{Geometry}
use Rattle.nor_bus.specs.Bus.{BusState, lane}
use Rattle.nor_bus.specs.Driven.{Went, EachLane, Counted}
use Rattle.nor_bus.proofs.Counting.{counted_exactly, counted_then}
use Rattle.nor_query.specs.Checks.{first_error}
use Rattle.nor_probe.specs.Asking.{Resets, Rests}
use Rattle.nor_probe.specs.Probed.{refusal, refusal_in, IsCommonTable, IsFoundBy, IsFoundOn}
use Rattle.nor_probe.specs.Tables.{table_read, first_difference}
use Rattle.nor_probe.specs.declared.error.ProbeError.TheVariants.{Query}
use Rattle.nor_probe.specs.declared.probing.Found.{Found}
use Rattle.nor_probe.proofs.Shown.{rests_reset}

-- ---- results

pub if_ok : {T E : Type 0} (r : Result T E) (x : T) (P : T → Type 0) → r ≡ Ok x → IfOk r P → P x
if_ok r x P is fact = subst (λ q. IfOk q P) is fact

pub if_err : {T E : Type 0} (r : Result T E) (e : E) (P : E → Type 0) → r ≡ Err e → IfErr r P → P e
if_err r e P is fact = subst (λ q. IfErr q P) is fact

pub then_ok : {T E : Type 0} (r : Result T E) (P Q : T → Type 0) → ((x : T) → P x → Q x) → IfOk r P → IfOk r Q
then_ok (Ok x) P Q more fact = more x fact
then_ok (Err e) P Q more fact = tt

pub ok_of : {T E : Type 0} (r : Result T E) → result_err r ≡ None → IsOk r
ok_of (Ok x) none = refl
ok_of (Err e) none = absurd cc

pub clash : {X : Type 0} (o : Option X) (x : X) → o ≡ None → o ≡ Some x → ⊥
clash o x none some = let both : None ≡ Some x = sym none ∙ some in cc

-- ---- cycles, and the reset at the end

pub counted_more : (m n k q : ℕ) (a b c : BusState) → k ≤ n → m + n ≤ q → Counted 0 m a b → Went n n b c → Counted k q a c
counted_more m n k q a b c some fits first went = counted_then 0 m n n k q a b c (omega arith) fits first (counted_exactly n b c went)

pub reset_last : (m : ℕ) (old now new : BusState) → Counted 0 m old now → EachLane Rests old now → EachLane Resets now new → EachLane Resets old new
reset_last m old now new counted rests resets = λ c below.
    rests_reset (lane old c) (lane now c) (lane new c) (rests c below) (resets c (subst (λ (n : ℕ). c < n) (sym counted.went.kept.count) below))

-- ---- the answer

-- a table that all lanes show is refused as it says
pub refusal_common : (width : ℕ) (chips : List ChipState) (g : Geometry) (table : List ℕ) → IsCommonTable width chips g table
    → refusal width chips ≡ option_map Query (first_error table)
refusal_common width chips g table is =
    ap (λ o. refusal_in o chips) is.wiring
    ∙ (ap (λ o. option_or o (option_map Query (first_error (table_read g chips 0)))) is.same ∙ ap (λ (t : List ℕ). option_map Query (first_error t)) (sym is.bytes))

-- and else gives what it says
pub found_on : (width : ℕ) (chips : List ChipState) (g : Geometry) (table : List ℕ) (found : Found) → IsCommonTable width chips g table → IsFoundBy g table found
    → IsFoundOn width chips found
found_on width chips g table found is says =
    let wired : g ≡ found.geometry = sym says.wiring in
    let here : IsFoundBy g (table_read g chips 0) found = subst (λ (t : List ℕ). IsFoundBy g t found) is.bytes says in
    record {
      wiring = is.wiring ∙ ap (λ (x : Geometry). Some x) wired;
      same = subst (λ (x : Geometry). first_difference x chips ≡ None) wired is.same;
      says = subst (λ (x : Geometry). IsFoundBy x (table_read x chips 0) found) wired here;
    }
