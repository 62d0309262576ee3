-- The lines of a summary, one after the other.
use Rattle.std.proofs.Common.{◌≡◌, ◌<◌, ◌+◌, ◌∙◌, ◌++◌, ◌∷◌, [], ℕ, zero, suc, List, length, drop, slice_index, slice_index_or, codes, decimal, refl, sym, ap, arith, append_assoc, append-nil}
use Rattle.nor_drill.specs.Summary.{words, count_lines}

count_line : List ℕ → ℕ → List ℕ
count_line word count = word ++ codes " " ++ decimal count ++ codes "\n"

-- the line of a place stands before those behind it
next_line : (ws : List (List ℕ)) (counts : List ℕ) (k : ℕ) → k < length ws → length counts ≡ length ws
    → count_lines (drop k ws) (drop k counts)
    ≡ (slice_index_or ws k [] ++ codes " " ++ decimal (slice_index counts k) ++ codes "\n") ++ count_lines (drop (suc k) ws) (drop (suc k) counts)
next_line [] counts k below same = absurd (omega (arith, below))
next_line (w ∷ ws) [] k below same = absurd (omega (arith, same))
next_line (w ∷ ws) (c ∷ counts) zero below same = refl
next_line (w ∷ ws) (c ∷ counts) (suc k) below same = next_line ws counts k (omega (arith, below)) (omega (arith, same))

-- so many lines were pushed, and the next is
pub more_lines : (whole start now next : List ℕ) (counts : List ℕ) (k : ℕ) → k < 17 → length counts ≡ 17
    → now ++ count_lines (drop k words) (drop k counts) ≡ whole
    → next ≡ now ++ (slice_index_or words k [] ++ codes " " ++ decimal (slice_index counts k) ++ codes "\n")
    → next ++ count_lines (drop (k + 1) words) (drop (k + 1) counts) ≡ whole
more_lines whole start now next counts k below same so is =
    let there : k + 1 ≡ suc k = omega arith in
    let line : List ℕ = slice_index_or words k [] ++ codes " " ++ decimal (slice_index counts k) ++ codes "\n" in
    ap (λ (t : List ℕ). t ++ count_lines (drop (k + 1) words) (drop (k + 1) counts)) is
    ∙ append_assoc now line (count_lines (drop (k + 1) words) (drop (k + 1) counts))
    ∙ ap (λ (j : ℕ). now ++ (line ++ count_lines (drop j words) (drop j counts))) there
    ∙ ap (λ (t : List ℕ). now ++ t) (sym (next_line words counts k below same))
    ∙ so

-- all lines were pushed
pub all_lines : (whole now counts : List ℕ) (k : ℕ) → k ≡ 17 → now ++ count_lines (drop k words) (drop k counts) ≡ whole → now ≡ whole
all_lines whole now counts k done so =
    sym (append-nil now) ∙ ap (λ (j : ℕ). now ++ count_lines (drop j words) (drop j counts)) (sym done) ∙ so
