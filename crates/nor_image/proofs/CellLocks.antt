-- The lanes before, one after another, and whether they agree with a lock.
use Rattle.std.proofs.Common.{◌≡◌, ◌≢◌, ◌<◌, ◌+◌, ◌==◌, ◌||◌, ℕ, List, [], ◌∷◌, ◌++◌, length, map, take, get_or, Bool, true, false, not, refl, sym, ap, ◌∙◌, arith}
use Rattle.std.proofs.lemmas.Bool.Decides.{nat_tests}
use Rattle.std.proofs.lemmas.List.{get_or-map, length-map, map-append, take_more}
use Rattle.nor_cell.proofs.Logic.{both_pass}
use Rattle.nor_cell.specs.declared.cells.Cells.{Cells}
use Rattle.nor_cell.specs.declared.device.Set.{Set}
use Rattle.nor_image.specs.Image.{kept_locks, same_lock, is_agreed}
use Rattle.nor_image.specs.Reading.{kept_of_each}
use Rattle.nor_image.proofs.Agreeing.{agreed_at, one_agrees, is_same}
use Rattle.std.proofs.lemmas.Bool.{cases_eq, and_from}

never : (b : Bool) → (b ≡ true → false ≡ true) → false ≡ b
never true h = h refl
never false h = refl

-- a lane that keeps as many and has another one
pub disagrees : (set : Set) (before : List Cells) (i count k : ℕ) (locked : Bool) (item : Cells) (kept : List Bool) → i < length before → item ≡ get_or before i item
    → kept ≡ kept_locks set item.table item.locks.items → length kept ≡ count → get_or kept k false ≢ locked → false ≡ is_agreed (kept_of_each set before) count k locked
disagrees set before i count k locked item kept below is locks same apart =
    let f : Cells → List Bool = λ (c : Cells). kept_locks set c.table c.locks.items in
    let there : get_or (kept_of_each set before) i [] ≡ kept = get_or-map f before i item [] below ∙ (ap f (sym is) ∙ sym locks) in
    let lane : i < length (kept_of_each set before) = (let long = length-map before f in omega arith) in
    never (is_agreed (kept_of_each set before) count k locked)
    (λ agreed. absurd (apart (sym (ap (λ (ls : List Bool). get_or ls k false) there)
    ∙ agreed_at (kept_of_each set before) count k locked i agreed lane (ap (λ (ls : List Bool). length ls) there ∙ same))))

-- one more lane that agrees
agreed_snoc : (before : List (List Bool)) (locks : List Bool) (count k : ℕ) (locked : Bool) → is_agreed before count k locked ≡ true
    → (not (length locks == count) || same_lock (get_or locks k false) locked) ≡ true → is_agreed (before ++ locks ∷ []) count k locked ≡ true
agreed_snoc [] locks count k locked agreed one = and_from (not (length locks == count) || same_lock (get_or locks k false) locked) true one refl
agreed_snoc (first ∷ before) locks count k locked agreed one =
    let parts = both_pass (not (length first == count) || same_lock (get_or first k false) locked) (is_agreed before count k locked) agreed in
    and_from (not (length first == count) || same_lock (get_or first k false) locked) (is_agreed (before ++ locks ∷ []) count k locked) parts.0
    (agreed_snoc before locks count k locked parts.1 one)

one_more : (set : Set) (before : List Cells) (i count k : ℕ) (locked : Bool) (item : Cells) (kept : List Bool) → i < length before → item ≡ get_or before i item
    → kept ≡ kept_locks set item.table item.locks.items → is_agreed (kept_of_each set (take i before)) count k locked ≡ true
    → (not (length kept == count) || same_lock (get_or kept k false) locked) ≡ true → is_agreed (kept_of_each set (take (i + 1) before)) count k locked ≡ true
one_more set before i count k locked item kept below is locks agreed one =
    let f : Cells → List Bool = λ (c : Cells). kept_locks set c.table c.locks.items in
    let lanes : kept_of_each set (take (i + 1) before) ≡ kept_of_each set (take i before) ++ kept ∷ [] =
    ap (map f) (take_more before i item below)
    ∙ (map-append f (take i before) (get_or before i item ∷ [])
    ∙ ap (λ (ls : List Bool). kept_of_each set (take i before) ++ ls ∷ []) (ap f (sym is) ∙ sym locks)) in
    ap (λ (all : List (List Bool)). is_agreed all count k locked) lanes ∙ agreed_snoc (kept_of_each set (take i before)) kept count k locked agreed one

pub agrees_more : (set : Set) (before : List Cells) (i count k : ℕ) (locked : Bool) (item : Cells) (kept : List Bool) → i < length before → item ≡ get_or before i item
    → kept ≡ kept_locks set item.table item.locks.items → is_agreed (kept_of_each set (take i before)) count k locked ≡ true
    → get_or kept k false ≡ locked → is_agreed (kept_of_each set (take (i + 1) before)) count k locked ≡ true
agrees_more set before i count k locked item kept below is locks agreed same =
    one_more set before i count k locked item kept below is locks agreed
    (one_agrees (length kept) count (same_lock (get_or kept k false) locked) (λ as_many. is_same (get_or kept k false) locked same) (cases_eq (length kept) count))

pub differs_more : (set : Set) (before : List Cells) (i count k : ℕ) (locked : Bool) (item : Cells) (kept : List Bool) → i < length before → item ≡ get_or before i item
    → kept ≡ kept_locks set item.table item.locks.items → is_agreed (kept_of_each set (take i before)) count k locked ≡ true
    → length kept ≢ count → is_agreed (kept_of_each set (take (i + 1) before)) count k locked ≡ true
differs_more set before i count k locked item kept below is locks agreed apart =
    let differs : (length kept == count) ≡ false = grind (arith, nat_tests) in
    one_more set before i count k locked item kept below is locks agreed (ap (λ (b : Bool). not b || same_lock (get_or kept k false) locked) differs)
