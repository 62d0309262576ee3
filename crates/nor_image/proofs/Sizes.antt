-- The size of a chip.
use Rattle.std.proofs.Common.{◌≡◌, ◌≤◌, ◌^◌, ℕ, List, [], ◌∷◌, IsTrue, false, nat_lt, ◌||◌, ◌==◌, refl, sym, ◌∙◌, arith}
use Rattle.std.specs.List.{list_any}
use Rattle.std.proofs.lemmas.Bool.Decides.{nat_tests}
use Rattle.nor_cell.proofs.Logic.{both_pass, same_number}
use Rattle.nor_cell.specs.Ranges.{is_chip_size}
use Rattle.nor_cell.specs.Table.{field_8}
use Rattle.nor_image.specs.Image.{is_size_by}

-- equality of numbers, asked from either side
same_flip : (x n : ℕ) → (x == n) ≡ (n == x)
same_flip x n = grind (arith, nat_tests)

-- whether a number stands in a list, asked from either side
pub list_any-flip : (n : ℕ) (xs : List ℕ) → list_any (λ x. x == n) xs ≡ list_any (λ x. n == x) xs
list_any-flip n [] = refl
list_any-flip n (x ∷ xs) = λ i. same_flip x n i || list_any-flip n xs i

-- the powers of two that a chip's size may be
abbrev pub chip_sizes : List ℕ
chip_sizes =
    0x1000 ∷ 0x2000 ∷ 0x4000 ∷ 0x8000 ∷ 0x10000 ∷ 0x20000 ∷ 0x40000 ∷ 0x80000
    ∷ 0x100000 ∷ 0x200000 ∷ 0x400000 ∷ 0x800000 ∷ 0x1000000 ∷ 0x2000000 ∷ 0x4000000 ∷ 0x8000000 ∷ []

-- where the table gives a size that a chip may have, it is that
pub size_of_table : (table : List ℕ) (size : ℕ) → IsTrue (is_size_by table size) → 12 ≤ field_8 table 0x27 → field_8 table 0x27 ≤ 27 → size ≡ 2 ^ field_8 table 0x27
size_of_table table size fits least most =
    let log = field_8 table 0x27 in
    let low : nat_lt log 12 ≡ false = grind (arith, nat_tests) in
    let high : nat_lt 27 log ≡ false = grind (arith, nat_tests) in
    let by_table = (both_pass (is_chip_size size) (nat_lt log 12 || nat_lt 27 log || size == 2 ^ log) fits).1 in
    same_number size (2 ^ log) ((λ i. sym low i || sym high i || size == 2 ^ log) ∙ by_table)
