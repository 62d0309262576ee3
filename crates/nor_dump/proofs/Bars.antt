-- Bars of blocks.
use Rattle.std.proofs.Common.{◌≡◌, ◌+◌, ◌*◌, ◌∙◌, ℕ, suc, List, [], ◌∷◌, ◌++◌, length, ap, arith}
use Rattle.std.proofs.lemmas.List.{length_push}
use Rattle.nor_cell.specs.Chip.{ChipState}
use Rattle.nor_dump.specs.Survey.{bar_of, bars_of}
use Rattle.nor_dump.specs.declared.survey.Bar.{Bar}

pub more_bars : (chips : List ChipState) (per first : ℕ) (bars : List Bar) (bar : Bar) → bars ≡ bars_of chips per (length bars) → first ≡ length bars * per → bar ≡ bar_of chips per first
    → bars ++ bar ∷ [] ≡ bars_of chips per (length (bars ++ bar ∷ []))
more_bars chips per first bars bar are at is =
    let long = length_push bars bar in
    let next : suc (length bars) ≡ length (bars ++ bar ∷ []) = omega (arith, long) in
    ap (λ (xs : List Bar). xs ++ bar ∷ []) are
    ∙ (ap (λ (b : Bar). bars_of chips per (length bars) ++ b ∷ []) (is ∙ ap (λ (n : ℕ). bar_of chips per n) at)
    ∙ ap (λ (n : ℕ). bars_of chips per n) next)

pub next_first : (per first : ℕ) (bars : List Bar) (bar : Bar) → first ≡ length bars * per → first + per ≡ length (bars ++ bar ∷ []) * per
next_first per first bars bar at =
    let long = length_push bars bar in
    let next : length bars + 1 ≡ length (bars ++ bar ∷ []) = omega (arith, long) in
    let sum : first + per ≡ (length bars + 1) * per = omega arith in
    sum ∙ ap (λ (n : ℕ). n * per) next
