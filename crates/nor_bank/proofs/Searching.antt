-- What passes a test: of a list, and of the numbers from one place on.
use Rattle.std.proofs.Common.{◌≡◌, ◌<◌, ◌≤◌, ◌+◌, ◌%◌, ◌⊎◌, inl, inr, ℕ, zero, suc, List, [], ◌∷◌, map, refl, sym, ◌∙◌, ap, arith, Bool, true, false, ◌||◌, ◌==◌, cond, Option, Some, is_some, if◌then◌else◌}
use Rattle.std.specs.List.{find, list_any, list_all}
use Rattle.nor_cell.proofs.Logic.{both_pass, same_number, not_passed}
use Rattle.nor_array.specs.Array.{lowest}
use Rattle.nor_poll.proofs.Between.{right_false}

-- ---- one test beside another

pub same_answer : (a b : Bool) → (a ≡ true → b ≡ true) → (b ≡ true → a ≡ true) → a ≡ b
same_answer true b to from = sym (to refl)
same_answer false true to from = from refl
same_answer false false to from = refl

pub either : (a b : Bool) → (a || b) ≡ true → (a ≡ true) ⊎ (b ≡ true)
either true b passes = inl refl
either false b passes = inr passes

pub first_passes : (a b : Bool) → a ≡ true → (a || b) ≡ true
first_passes a b is = ap (λ (x : Bool). x || b) is

pub second_passes : (a b : Bool) → b ≡ true → (a || b) ≡ true
second_passes true b is = refl
second_passes false b is = is

pub is_passed : (b : Bool) → (b ≡ false → ⊥) → b ≡ true
is_passed true never = refl
is_passed false never = absurd (never refl)

-- ---- lists

-- What passes a test passes one that asks for less.
pub any_weaker : {X : Type 0} (first second : X → Bool) (xs : List X) → ((x : X) → first x ≡ true → second x ≡ true)
    → list_any first xs ≡ true → list_any second xs ≡ true
any_weaker first second [] so passes = absurd (cc)
any_weaker first second (x ∷ xs) so passes = elim (either (first x) (list_any first xs) passes) [
  | inl here ↦ first_passes (second x) (list_any second xs) (so x here)
  | inr later ↦ second_passes (second x) (list_any second xs) (any_weaker first second xs so later)
]

pub any_map : {X Y : Type 0} (test : Y → Bool) (f : X → Y) (xs : List X) → list_any test (map f xs) ≡ list_any (λ x. test (f x)) xs
any_map test f [] = refl
any_map test f (x ∷ xs) = ap (λ (b : Bool). test (f x) || b) (any_map test f xs)

-- ---- lists of places of which each begins a unit of d bytes

-- Where a place passes, it passes the second test too.
pub any_so : (d : ℕ) (first second : ℕ → Bool) (places : List ℕ) → list_all (λ p. p % d == 0) places ≡ true
    → ((p : ℕ) → p % d ≡ 0 → first p ≡ true → second p ≡ true) → list_any first places ≡ true → list_any second places ≡ true
any_so d first second [] begin so passes = absurd (cc)
any_so d first second (p ∷ places) begin so passes =
    let parts = both_pass (p % d == 0) (list_all (λ q. q % d == 0) places) begin in
    elim (either (first p) (list_any first places) passes) [
      | inl here ↦ first_passes (second p) (list_any second places) (so p (same_number (p % d) 0 parts.0) here)
      | inr later ↦ second_passes (second p) (list_any second places) (any_so d first second places parts.1 so later)
    ]

-- Where none passes either of two tests, none passes one that asks for one of them.
pub any_neither : (left right whole : ℕ → Bool) (places : List ℕ) → list_any left places ≡ false → list_any right places ≡ false
    → ((p : ℕ) → whole p ≡ true → (left p ≡ true) ⊎ (right p ≡ true)) → list_any whole places ≡ false
any_neither left right whole [] no_left no_right so = refl
any_neither left right whole (p ∷ places) no_left no_right so =
    let left_fails = right_false (left p) (list_any left places) no_left in
    let right_fails = right_false (right p) (list_any right places) no_right in
    not_passed (whole p || list_any whole places) (λ passes.
    elim (either (whole p) (list_any whole places) passes) [
      | inl here ↦ elim (so p here) [
        | inl is ↦ (let both : true ≡ false = sym (first_passes (left p) (list_any left places) is) ∙ no_left in cc)
        | inr is ↦ (let both : true ≡ false = sym (first_passes (right p) (list_any right places) is) ∙ no_right in cc)
      ]
      | inr later ↦
          let none = any_neither left right whole places left_fails right_fails so in
          let both : true ≡ false = sym later ∙ none in cc
    ])

-- None passes where each that begins a unit fails.
pub any_none : (d : ℕ) (test : ℕ → Bool) (places : List ℕ) → list_all (λ p. p % d == 0) places ≡ true
    → ((p : ℕ) → p % d ≡ 0 → test p ≡ true → ⊥) → list_any test places ≡ false
any_none d test places begin never =
    not_passed (list_any test places) (λ passes. no_place places (any_so d test (λ p. false) places begin (λ p at is. absurd (never p at is)) passes))
  where
    no_place : (places : List ℕ) → list_any (λ p. false) places ≡ true → ⊥
    no_place [] is = cc
    no_place (p ∷ places) is = no_place places is

-- one is found where one passes
found_or : (b : Bool) (p : ℕ) (found : Option ℕ) (any : Bool) → is_some found ≡ any → is_some (cond b (Some p) found) ≡ (b || any)
found_or true p found any same = refl
found_or false p found any same = same

pub find_any : (test : ℕ → Bool) (places : List ℕ) → is_some (find test places) ≡ list_any test places
find_any test [] = refl
find_any test (p ∷ places) = found_or (test p) p (find test places) (list_any test places) (find_any test places)

-- ---- the numbers from one on

-- one of the n numbers from k on passes
pub record Passes (test : ℕ → Bool) (k n : ℕ) : Type 0 where
  pub place : ℕ
  pub from : k ≤ place
  pub before : place < k + n
  pub passes : test place ≡ true

pub lowest_passes : (test : ℕ → Bool) (k n : ℕ) → is_some (lowest test k n) ≡ true → Passes test k n
lowest_passes test k zero some = absurd (cc)
lowest_passes test k (suc n) some = step (test k) refl some (lowest_passes test (k + 1) n)
  where
    step : (b : Bool) → test k ≡ b → is_some (if b then Some k else lowest test (k + 1) n) ≡ true
        → (is_some (lowest test (k + 1) n) ≡ true → Passes test (k + 1) n) → Passes test k (suc n)
    step true is some later = record { place = k; from = omega arith; before = omega arith; passes = is }
    step false is some later =
        let one = later some in
        let low = one.from in
        let high = one.before in
        record { place = one.place; from = omega (arith, low); before = omega (arith, high); passes = one.passes }
