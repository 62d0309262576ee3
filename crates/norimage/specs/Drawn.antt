-- What a drawing says of a bank: a line for each bar of blocks.
use Rattle.std.specs.Prelude.{◌≡◌, ◌≤◌, ◌^◌, ℕ, List, [], ◌∷◌, ◌++◌, length, Bool, if◌then◌else◌, codes, decimal}
use Rattle.nor_dump.specs.Survey.{IsSurveyOf}
use Rattle.nor_dump.specs.declared.survey.Bar.{Bar}
use Rattle.nor_dump.specs.declared.survey.Survey.{Survey}

abbrev pub flag : Bool → List ℕ → List ℕ
flag holds text = if holds then text else []

-- its first block, how many it has, how many units are erased, and whether it has a lock that is set or a weak place
abbrev pub line_of : Bar → List ℕ
line_of bar =
    codes "from block " ++ decimal bar.first ++ codes ", " ++ decimal bar.blocks ++ codes " in all: " ++ decimal bar.erased ++ codes " units erased"
    ++ flag bar.locked (codes ", locked") ++ flag bar.weak (codes ", weak") ++ codes "\n"

abbrev pub lines_of : List Bar → List ℕ
lines_of [] = []
lines_of (bar ∷ bars) = line_of bar ++ lines_of bars

-- The drawing has the lines of all bars, in their order, in one place, and at most 512 KiB.
pub record IsDrawn (survey : Survey) (drawing : List ℕ) : Type 0 where
  pub front : List ℕ
  pub rest : List ℕ
  pub says : drawing ≡ front ++ lines_of survey.bars.items ++ rest
  pub short : length drawing ≤ 2 ^ 19

-- The file stands for a bank, and the bytes are a drawing of it.
pub record IsDrawingOf (file drawing : List ℕ) : Type 0 where
  pub survey : Survey
  pub told : IsSurveyOf file survey
  pub drawn : IsDrawn survey drawing
