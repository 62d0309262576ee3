-- What a bank may halt by: a cut that a script arms, or a lane that never ends its work.
use Rattle.std.specs.Prelude.{◌≡◌, ◌⊎◌, List, Bool, true, false}
use Rattle.std.specs.List.{list_any}
use Rattle.nor_cell.specs.Chip.{ChipState}
use Rattle.nor_array.specs.Entries.{is_arming}
use Rattle.nor_script.specs.declared.line.Line.{Line}
use Rattle.nor_script.specs.declared.line.Word.{Word}
use Rattle.nor_script.specs.declared.line.Word.TheVariants.{Call, Erase, EraseAll}

-- the line arms a cut
abbrev pub is_cut : Word → Bool
is_cut (Call op) = is_arming op
is_cut (Erase b) = false
is_cut EraseAll = false

-- some line does
abbrev pub has_cut : List Line → Bool
has_cut lines = list_any (λ line. is_cut line.word) lines

-- some chip never ends its work
abbrev pub has_stuck : List ChipState → Bool
has_stuck chips = list_any (λ s. s.part.stuck) chips

-- the lines, run on a bank of these chips, may halt it
abbrev pub MayHalt : List Line → List ChipState → Type 0
MayHalt lines chips = (has_cut lines ≡ true) ⊎ (has_stuck chips ≡ true)
