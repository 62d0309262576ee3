-- Changes that a bank may have.
use Rattle.std.proofs.Common.{◌≡◌, ◌≢◌, ◌<◌, ◌≤◌, ◌⊎◌, inl, inr, ◌-◌, ℕ, zero, suc, List, length, Bool, true, false, not, nat_lt, nat_le, ◌&&◌, if◌then◌else◌, refl, sym, ap, ◌∙◌, arith, Some, None}
use Rattle.std.specs.List.{list_all}
use Rattle.std.proofs.lemmas.Bool.{cases_eq}
use Rattle.std.proofs.lemmas.Bool.Decides.{nat_tests}
use Rattle.nor_cell.proofs.Logic.{both_pass}
use Rattle.nor_cell.specs.Ranges.{is_ascending_below, begin_units}
use Rattle.nor_cell.specs.declared.device.Device.{Device}
use Rattle.nor_cell.specs.declared.geometry.Geometry.{Geometry}
use Rattle.nor_dump.specs.Changes.{paces_of, weak_of, is_in, is_weak_list, fit_weak, change_error}
use Rattle.nor_dump.specs.declared.changes.Change.{Change}
use Rattle.nor_dump.specs.declared.changes.ChangeError.TheVariants.{BadPace, BadLane, BadWeak}

none_by : (pace lanes weak : Bool) → (if pace then Some BadPace else if not lanes then Some BadLane else if weak then None else Some BadWeak) ≡ None → (pace ≡ false) × (weak ≡ true)
none_by true lanes weak h = absurd (cc)
none_by false false weak h = absurd (cc)
none_by false true true h = (refl, refl)
none_by false true false h = absurd (cc)

is_none_by : (pace lanes weak : Bool) → pace ≡ false → lanes ≡ true → weak ≡ true → None ≡ (if pace then Some BadPace else if not lanes then Some BadLane else if weak then None else Some BadWeak)
is_none_by true lanes weak p l w = absurd (cc)
is_none_by false false weak p l w = absurd (cc)
is_none_by false true true p l w = refl
is_none_by false true false p l w = absurd (cc)

is_weak_by : (pace lanes weak : Bool) → pace ≡ false → lanes ≡ true → weak ≡ false → Some BadWeak ≡ (if pace then Some BadPace else if not lanes then Some BadLane else if weak then None else Some BadWeak)
is_weak_by true lanes weak p l w = absurd (cc)
is_weak_by false false weak p l w = absurd (cc)
is_weak_by false true false p l w = refl
is_weak_by false true true p l w = absurd (cc)

slow : (s : ℕ) → s ≤ 16 → nat_lt 16 s ≡ false
slow s le = grind (arith, nat_tests)

module _ (g : Geometry) (size : ℕ) (changes : List Change) where
  pub no_error : (paces_of changes).suspend ≤ 16 → list_all (is_in g.lanes) changes ≡ true → fit_weak g.device size changes g.lanes ≡ true → None ≡ change_error g size changes
  no_error le lanes weak = is_none_by (nat_lt 16 (paces_of changes).suspend) (list_all (is_in g.lanes) changes) (fit_weak g.device size changes g.lanes) (slow (paces_of changes).suspend le) lanes weak

  pub weak_error : (paces_of changes).suspend ≤ 16 → list_all (is_in g.lanes) changes ≡ true → fit_weak g.device size changes g.lanes ≡ false → Some BadWeak ≡ change_error g size changes
  weak_error le lanes weak = is_weak_by (nat_lt 16 (paces_of changes).suspend) (list_all (is_in g.lanes) changes) (fit_weak g.device size changes g.lanes) (slow (paces_of changes).suspend le) lanes weak

  pub few_pace : change_error g size changes ≡ None → (paces_of changes).suspend ≤ 16
  few_pace free =
      let low = (none_by (nat_lt 16 (paces_of changes).suspend) (list_all (is_in g.lanes) changes) (fit_weak g.device size changes g.lanes) free).0 in
      grind (arith, nat_tests, low)

  all_weak : change_error g size changes ≡ None → fit_weak g.device size changes g.lanes ≡ true
  all_weak free = (none_by (nat_lt 16 (paces_of changes).suspend) (list_all (is_in g.lanes) changes) (fit_weak g.device size changes g.lanes) free).1

weak_in : (device : Device) (size : ℕ) (changes : List Change) (n c : ℕ) → fit_weak device size changes n ≡ true → c < n → (c ≡ n - 1) ⊎ (c ≢ n - 1) → is_weak_list device size (weak_of c changes) ≡ true
weak_in device size changes zero c fit below at = absurd (omega arith)
weak_in device size changes (suc n) c fit below (inl is) =
    let last : n ≡ c = omega arith in
    ap (λ (k : ℕ). is_weak_list device size (weak_of k changes)) (sym last) ∙ (both_pass (fit_weak device size changes n) (is_weak_list device size (weak_of n changes)) fit).1
weak_in device size changes (suc n) c fit below (inr apart) =
    weak_in device size changes n c (both_pass (fit_weak device size changes n) (is_weak_list device size (weak_of n changes)) fit).0 (omega arith) (cases_eq c (n - 1))

pub record IsWeakList (device : Device) (size : ℕ) (places : List ℕ) : Type 0 where
  pub few : length places ≤ 256
  pub ascending : is_ascending_below size places ≡ true
  pub whole : begin_units device places ≡ true

pub lane_weak : (g : Geometry) (size : ℕ) (changes : List Change) (c : ℕ) → change_error g size changes ≡ None → c < g.lanes → IsWeakList g.device size (weak_of c changes)
lane_weak g size changes c free below =
    let places = weak_of c changes in
    let fit = weak_in g.device size changes g.lanes c (all_weak g size changes free) below (cases_eq c (g.lanes - 1)) in
    let both = both_pass (nat_le (length places) 256 && is_ascending_below size places) (begin_units g.device places) fit in
    let first = both_pass (nat_le (length places) 256) (is_ascending_below size places) both.0 in
    record { few = let h = first.0 in grind (arith, nat_tests, h); ascending = first.1; whole = both.1 }
