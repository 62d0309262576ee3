-- What a test that passed or failed says: of numbers, of options, of results.
use Rattle.std.proofs.Common.{◌≡◌, ◌<◌, ◌≤◌, ◌/◌, ℕ, suc, refl, sym, ◌∙◌, subst, arith, bit_and, Bool, true, false, ◌&&◌, ◌||◌, ◌==◌, nat_le, nat_lt, cond, List, [], ◌∷◌, length, Option, Some, None, is_some, Result, Ok, Err, IfErr, OnErr, IsErrAnd}
use Rattle.std.proofs.lemmas.Bool.Decides.{nat_tests}
use Rattle.std.proofs.lemmas.Nat.{and_or_self, le-div}
use Rattle.std.proofs.Math.Nat.{div-mul-le_self}
use Rattle.std.specs.List.{find}
use Rattle.nor_cell.specs.Bits.{unit_len}
use Rattle.nor_cell.specs.declared.device.Device.{Device}
use Rattle.nor_cell.specs.declared.device.Device.TheVariants.{X8, X16, X16Byte}

-- ---- tests together, and numbers

pub both_pass : (a b : Bool) → (a && b) ≡ true → (a ≡ true) × (b ≡ true)
both_pass true true h = (refl, refl)
both_pass true false h = cc
both_pass false b h = cc

pub all_three : (a b c : Bool) → a ≡ true → b ≡ true → c ≡ true → (a && b && c) ≡ true
all_three a b c x y z = cc

pub none_pass : (a b : Bool) → (a || b) ≡ false → (a ≡ false) × (b ≡ false)
none_pass true b h = cc
none_pass false true h = cc
none_pass false false h = (refl, refl)

pub not_passed : (b : Bool) → (b ≡ true → ⊥) → b ≡ false
not_passed true never = absurd (never refl)
not_passed false never = refl

pub same_number : (a b : ℕ) → (a == b) ≡ true → a ≡ b
same_number a b h = grind (arith, nat_tests)

pub same_self : (n : ℕ) → (n == n) ≡ true
same_self n = grind (arith, nat_tests)

pub passes_below : (a b : ℕ) → a < b → nat_lt a b ≡ true
passes_below a b h = grind (arith, nat_tests)

pub is_below : (a b : ℕ) → nat_lt a b ≡ true → a < b
is_below a b h = grind (arith, nat_tests)

pub fails_behind : (a b : ℕ) → b ≤ a → nat_lt a b ≡ false
fails_behind a b h = grind (arith, nat_tests)

pub is_behind : (a b : ℕ) → nat_lt a b ≡ false → b ≤ a
is_behind a b h = grind (arith, nat_tests)

pub is_at_most : (a b : ℕ) → nat_le a b ≡ true → a ≤ b
is_at_most a b h = grind (arith, nat_tests)

pub not_none : (n : ℕ) → 0 < n → (n == 0) ≡ false
not_none n some = grind (arith, nat_tests)

pub quotient_rises : (a b n : ℕ) → 0 < n → a ≤ b → a / n ≤ b / n
quotient_rises a b n some le = let low = div-mul-le_self a n in le-div (a / n) b n some (omega (arith, low, le))

pub and_self : (x : ℕ) → bit_and x x ≡ x
and_self x = and_or_self x 0

-- a bus word of a device has some bytes
pub some_bytes : (device : Device) → 0 < unit_len device
some_bytes X8 = omega arith
some_bytes X16 = omega arith
some_bytes X16Byte = omega arith

-- ---- what was found, and what was answered

pub is_none : {X : Type 0} (found : Option X) → is_some found ≡ false → found ≡ None
is_none None none = refl
is_none (Some x) none = absurd (cc)

pub no_items : {X : Type 0} (xs : List X) → (length xs == 0) ≡ true → xs ≡ []
no_items [] none = refl
no_items (x ∷ xs) none = absurd (let some = not_none (suc (length xs)) (omega arith) in let both : true ≡ false = sym none ∙ some in cc)

-- what was found passes the test
pub find_passes : {X : Type 0} (p : X → Bool) (xs : List X) (x : X) → find p xs ≡ Some x → p x ≡ true
find_passes p [] x h = cc
find_passes p (y ∷ xs) x h = go (p y) refl h (find_passes p xs x)
  where
    go : (b : Bool) → p y ≡ b → cond b (Some y) (find p xs) ≡ Some x → (find p xs ≡ Some x → p x ≡ true) → p x ≡ true
    go true e k later = let same : y ≡ x = cc in subst (λ z. p z ≡ true) same e
    go false e k later = later k

pub on_err : {T E : Type 0} (r : Result T E) (P : Type 0) → P → OnErr r P
on_err (Ok x) P p = tt
on_err (Err e) P p = p

-- a fact of the error that was given
pub if_gave : {T E : Type 0} (r : Result T E) (e : E) (P : E → Type 0) → IsErrAnd r (λ x. x ≡ e) → P e → IfErr r P
if_gave (Ok x) e P gave p = tt
if_gave (Err x) e P gave p = subst P (sym gave) p
