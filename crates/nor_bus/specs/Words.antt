-- A bus word made of what the chips say, each in its lane.
use Rattle.std.specs.Prelude.{◌++◌, ℕ, List, [], ◌∷◌}
use Rattle.nor_cell.specs.Bits.{unit_bytes}
use Rattle.nor_cell.specs.Chip.{ChipState}
use Rattle.nor_cell.specs.Shown.{query_at}

-- the word in which each chip says its number
abbrev pub side_by_side : (ChipState → ℕ) → List ChipState → List ℕ
side_by_side f [] = []
side_by_side f (s ∷ chips) = unit_bytes s.part.device (f s) ++ side_by_side f chips

-- what chips that show their query tables answer at bus address u
abbrev pub query_word : List ChipState → ℕ → List ℕ
query_word chips u = side_by_side (λ s. query_at s.part u) chips
