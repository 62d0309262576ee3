-- The words of a table, one by one.
use Rattle.std.proofs.Common.{◌≡◌, ◌≢◌, ◌<◌, ◌≤◌, ◌+◌, ◌*◌, ◌++◌, ◌∷◌, [], ◌==◌, ◌&&◌, ℕ, suc, List, length, take, drop, get_or, Bool, true, false, Some, None, if◌then◌else◌, sym, ap, ◌∙◌, arith, append_assoc}
use Rattle.std.proofs.Math.ListN.{set}
use Rattle.std.proofs.Math.Seq.{drop-cons}
use Rattle.std.proofs.lemmas.Bool.Decides.{nat_tests}
use Rattle.std.proofs.lemmas.List.{append-nil, drop_all, take_all, take_more_set}
use Rattle.nor_dump.specs.Table.{low_bytes, are_low}

-- the word at a place
pub word_there : (xs : List ℕ) (n : ℕ) → 2 * n + 1 < length xs → drop (2 * n) xs ≡ get_or xs (2 * n) 0 ∷ get_or xs (2 * n + 1) 0 ∷ drop (2 * (n + 1)) xs
word_there xs n below =
    let first : 2 * n < length xs = omega arith in
    let second : suc (2 * n) < length xs = omega arith in
    let e : suc (suc (2 * n)) ≡ 2 * (n + 1) = omega arith in
    let f : suc (2 * n) ≡ 2 * n + 1 = omega arith in
    drop-cons xs (2 * n) 0 first
    ∙ (ap (λ (l : List ℕ). get_or xs (2 * n) 0 ∷ l) (drop-cons xs (suc (2 * n)) 0 second)
    ∙ (ap (λ (k : ℕ). get_or xs (2 * n) 0 ∷ get_or xs k 0 ∷ drop (suc (suc (2 * n))) xs) f
    ∙ ap (λ (k : ℕ). get_or xs (2 * n) 0 ∷ get_or xs (2 * n + 1) 0 ∷ drop k xs) e))

-- a high byte that isn't 0
pub high_stops : (xs : List ℕ) (n : ℕ) → 2 * n + 1 < length xs → get_or xs (2 * n + 1) 0 ≢ 0 → are_low (drop (2 * n) xs) ≡ false
high_stops xs n below apart =
    let bad : (get_or xs (2 * n + 1) 0 == 0) ≡ false = grind (arith, nat_tests) in
    ap are_low (word_there xs n below) ∙ ap (λ (b : Bool). b && are_low (drop (2 * (n + 1)) xs)) bad

pub high_more : (xs : List ℕ) (n : ℕ) → 2 * n + 1 < length xs → get_or xs (2 * n + 1) 0 ≡ 0 → are_low (drop (2 * n) xs) ≡ are_low (drop (2 * (n + 1)) xs)
high_more xs n below is =
    let good : (get_or xs (2 * n + 1) 0 == 0) ≡ true = grind (arith, nat_tests) in
    ap are_low (word_there xs n below) ∙ ap (λ (b : Bool). b && are_low (drop (2 * (n + 1)) xs)) good

-- one low byte more
pub low_more : (xs table : List ℕ) (n : ℕ) → 2 * n + 1 < length xs → n < length table
    → take (n + 1) (set table n (get_or xs (2 * n) 0)) ++ low_bytes (drop (2 * (n + 1)) xs) ≡ take n table ++ low_bytes (drop (2 * n) xs)
low_more xs table n below there =
    let low = get_or xs (2 * n) 0 in
    let rest = low_bytes (drop (2 * (n + 1)) xs) in
    ap (λ (l : List ℕ). l ++ rest) (take_more_set table n low there)
    ∙ (append_assoc (take n table) (low ∷ []) rest
    ∙ ap (λ (l : List ℕ). take n table ++ l) (sym (ap low_bytes (word_there xs n below))))

-- all of them
pub low_ends : (xs table : List ℕ) (n : ℕ) → length xs ≤ 2 * n → length table ≤ n → take n table ++ low_bytes (drop (2 * n) xs) ≡ low_bytes xs
    → are_low (drop (2 * n) xs) ≡ are_low xs → Some table ≡ (if are_low xs then Some (low_bytes xs) else None)
low_ends xs table n over whole low high =
    let none : drop (2 * n) xs ≡ [] = drop_all (2 * n) xs over in
    let all : take n table ≡ table = take_all n table whole in
    let is : table ≡ low_bytes xs = sym all ∙ (sym (append-nil (take n table)) ∙ (ap (λ (l : List ℕ). take n table ++ l) (sym (ap low_bytes none)) ∙ low)) in
    let good : are_low xs ≡ true = sym high ∙ ap are_low none in
    ap (λ (t : List ℕ). Some t) is ∙ ap (λ (b : Bool). if b then Some (low_bytes xs) else None) (sym good)
