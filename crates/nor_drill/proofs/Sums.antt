-- Sums of bytes, one byte or one chip after the other.
use Rattle.std.proofs.Common.{◌≡◌, ◌<◌, ◌≤◌, ◌+◌, ◌^◌, ◌∙◌, ℕ, List, length, take, slice_index, true, ap, arith}
use Rattle.std.proofs.lemmas.List.{take_all}
use Rattle.std.specs.List.{sum, sum_by}
use Rattle.std.proofs.lemmas.List.Sums.{sum_by_more}
use Rattle.nor_cell.specs.Chip.{ChipState}
use Rattle.nor_cell.specs.Ranges.{is_chip_size}
use Rattle.nor_bus.specs.Bus.{chip_at, no_chip}
use Rattle.nor_bus.proofs.Sizes.{chip_size}

pub more_bytes : (bytes : List ℕ) (k : ℕ) → k < length bytes → sum (take (k + 1) bytes) ≡ sum (take k bytes) + slice_index bytes k
more_bytes bytes k below = sum_by_more (λ (x : ℕ). x) bytes k 0 below

pub few_bytes : (bytes : List ℕ) → is_chip_size (length bytes) ≡ true → length bytes ≤ 2 ^ 27
few_bytes bytes is = let so = chip_size (length bytes) is in omega (arith, so.1)

pub more_chips : (chips : List ChipState) (k : ℕ) → k < length chips
    → sum_by (λ (s : ChipState). sum s.cells) (take (k + 1) chips) ≡ sum_by (λ (s : ChipState). sum s.cells) (take k chips) + sum (chip_at chips k).cells
more_chips chips k below = sum_by_more (λ (s : ChipState). sum s.cells) chips k no_chip below

pub all_bytes : (bytes : List ℕ) (k : ℕ) → k ≡ length bytes → sum (take k bytes) ≡ sum bytes
all_bytes bytes k is = ap (λ (n : ℕ). sum (take n bytes)) is ∙ ap (λ (b : List ℕ). sum b) (take_all (length bytes) bytes (omega arith))

pub all_chips : (chips : List ChipState) (k : ℕ) → k ≡ length chips
    → sum_by (λ (s : ChipState). sum s.cells) (take k chips) ≡ sum_by (λ (s : ChipState). sum s.cells) chips
all_chips chips k is =
    ap (λ (n : ℕ). sum_by (λ (s : ChipState). sum s.cells) (take n chips)) is ∙ ap (λ (cs : List ChipState). sum_by (λ (s : ChipState). sum s.cells) cs) (take_all (length chips) chips (omega arith))
