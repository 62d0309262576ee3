-- Weak places that are read one after another.
use Rattle.std.proofs.Common.{◌≡◌, ◌<◌, ◌≤◌, ◌+◌, ◌%◌, ℕ, suc, List, [], ◌∷◌, ◌++◌, length, true, IsTrue, ◌&&◌, nat_lt, nat_le, ◌==◌, refl, sym, ap, subst, ◌∙◌, arith, add-one, None, Some}
use Rattle.std.proofs.lemmas.List.{length-append}
use Rattle.std.proofs.lemmas.List.Folds.{list_all-append}
use Rattle.std.proofs.lemmas.Bool.{and_from}
use Rattle.nor_cell.proofs.Logic.{both_pass, is_at_most, is_below, passes_below}
use Rattle.nor_cell.specs.Bits.{unit_len}
use Rattle.nor_cell.specs.Ranges.{is_ascending_below, begin_units}
use Rattle.nor_cell.specs.declared.device.Device.{Device}
use Rattle.nor_io.specs.Fields.{u32_at}
use Rattle.nor_image.specs.Image.{weak_in, weak_field, weak_fields, weak_field_at, least_weak, is_weak_place, first_refusal, refusal_of}
use Rattle.nor_image.specs.declared.error.ImageError.{ImageError}
use Rattle.nor_image.proofs.Refusals.{goes_on, or_none, or_some, stays}

-- so many weak places were read and none refused; the next one is to be no less than `least`
pub record AreWeak (file : List ℕ) (device : Device) (at size k least : ℕ) (places : List ℕ) : Type 0 where
  pub read : places ≡ weak_in file at k
  pub next : least ≡ least_weak file at k
  pub below : least ≤ size
  pub none : first_refusal file (weak_fields file at k) ≡ None
  pub count : length places ≡ k
  pub ascending : IsTrue (is_ascending_below least places)
  pub whole : IsTrue (begin_units device places)

-- one more place above the others
ascending_more : (n x : ℕ) (xs : List ℕ) → IsTrue (is_ascending_below n xs) → n ≤ x → IsTrue (is_ascending_below (x + 1) (xs ++ x ∷ []))
ascending_more n x [] h le = passes_below x (x + 1) (omega arith)
ascending_more n x (y ∷ []) h le =
    let before = is_below y n h in
    and_from (nat_lt y x) (nat_lt x (x + 1)) (passes_below y x (omega arith)) (passes_below x (x + 1) (omega arith))
ascending_more n x (y ∷ z ∷ zs) h le =
    let parts = both_pass (nat_lt y z) (is_ascending_below n (z ∷ zs)) h in
    and_from (nat_lt y z) (is_ascending_below (x + 1) (z ∷ (zs ++ x ∷ []))) parts.0 (ascending_more n x (z ∷ zs) parts.1 le)

-- a higher bound
pub ascending_below : (n m : ℕ) (xs : List ℕ) → IsTrue (is_ascending_below n xs) → n ≤ m → IsTrue (is_ascending_below m xs)
ascending_below n m [] h le = refl
ascending_below n m (y ∷ []) h le = let before = is_below y n h in passes_below y m (omega arith)
ascending_below n m (y ∷ z ∷ zs) h le =
    let parts = both_pass (nat_lt y z) (is_ascending_below n (z ∷ zs)) h in
    and_from (nat_lt y z) (is_ascending_below m (z ∷ zs)) parts.0 (ascending_below n m (z ∷ zs) parts.1 le)

-- one more place that begins a unit
begin_more : (device : Device) (x : ℕ) (xs : List ℕ) → IsTrue (begin_units device xs) → (x % unit_len device == 0) ≡ true → IsTrue (begin_units device (xs ++ x ∷ []))
begin_more device x xs h whole =
    list_all-append (λ p. p % unit_len device == 0) xs (x ∷ [])
    ∙ and_from (begin_units device xs) (x % unit_len device == 0 && true) h (and_from (x % unit_len device == 0) true whole refl)

-- one more weak place
pub weak_more : (file : List ℕ) (device : Device) (at size k least place : ℕ) (places more : List ℕ) → AreWeak file device at size k least places
    → place ≡ u32_at file (weak_field_at at k) → IsTrue (is_weak_place device size least place)
    → refusal_of file (weak_field file at k) ≡ None → more ≡ places ++ place ∷ [] → AreWeak file device at size (k + 1) (place + 1) more
weak_more file device at size k least place places more so is fits right pushed =
    let first = both_pass (nat_le least place && (place % unit_len device == 0)) (nat_lt place size) fits in
    let second = both_pass (nat_le least place) (place % unit_len device == 0) first.0 in
    let above = is_at_most least place second.0 in
    let under = is_below place size first.1 in
    let ascending = ascending_more least place places so.ascending above in
    let whole = begin_more device place places so.whole second.1 in
    let count : length more ≡ suc k = ap length pushed ∙ (length-append places (place ∷ []) ∙ (let n = so.count in omega arith)) in
    subst (λ (n : ℕ). AreWeak file device at size n (place + 1) more) (sym (add-one k))
    (record {
      read = pushed ∙ (ap (λ (xs : List ℕ). xs ++ place ∷ []) so.read ∙ ap (λ (p : ℕ). weak_in file at k ++ p ∷ []) is);
      next = ap (λ (p : ℕ). p + 1) is;
      below = omega arith;
      none = goes_on file (weak_fields file at k) (weak_field file at k ∷ []) so.none ∙ or_none (refusal_of file (weak_field file at k)) None right;
      count = count;
      ascending = subst (λ (xs : List ℕ). IsTrue (is_ascending_below (place + 1) xs)) (sym pushed) ascending;
      whole = subst (λ (xs : List ℕ). IsTrue (begin_units device xs)) (sym pushed) whole;
    })

-- a weak place that is refused
pub weak_stops : (file : List ℕ) (device : Device) (at size k least n : ℕ) (places : List ℕ) (e : ImageError) → AreWeak file device at size k least places
    → k < n → refusal_of file (weak_field file at k) ≡ Some e → first_refusal file (weak_fields file at n) ≡ Some e
weak_stops file device at size k least n places e so below refused =
    stays file (weak_fields file at) (λ j. weak_field file at j ∷ []) (λ j. refl) e k n below so.none
    (or_some (refusal_of file (weak_field file at k)) None e refused)
