-- A whole race.
use Rattle.std.specs.Prelude.{◌≡◌, ◌<◌, ◌++◌, ℕ, List, slice_get, Some}
use Rattle.nor_array.specs.Array.{ArrayState}
use Rattle.nor_array.specs.declared.entry.Entry.{Entry}
use Rattle.nor_bank.specs.Stands.{Stands}
use Rattle.nor_bank.specs.State.{BankState}
use Rattle.nor_history.specs.Histories.{Leads}
use Rattle.nor_turn.specs.Fronts.{Front}
use Rattle.nor_script.specs.Answering.{AnswersLines, AnswersRace, lines_by}
use Rattle.nor_script.specs.declared.line.Line.{Line}
use Rattle.nor_driver.specs.Fronts.{StandsFor, entries_of}
use Rattle.nor_race.specs.Cuts.{ArmsAll}
use Rattle.nor_race.specs.Noted.{NoteView}
use Rattle.nor_race.specs.Ran.{rank}
use Rattle.nor_race.specs.Told.{AreTold}

-- Of two notes for lines of one caller, the later is for the later line, or closes the erase of the same line.
abbrev pub KeepOrder : List Line → List NoteView → Type 0
KeepOrder lines notes =
    (i j : ℕ) (x y : NoteView) (a b : Line) → i < j → slice_get notes i ≡ Some x → slice_get notes j ≡ Some y
    → slice_get lines x.line ≡ Some a → slice_get lines y.line ≡ Some b → a.caller ≡ b.caller → rank x < rank y

-- What the workers made of a bank whose cuts are armed: there is a history that, behind the entries of the cuts, answers
-- the script, for which the bank stands that is given back. The notes tell its entries.
pub record RacesOn (lines : List Line) (armed new : BankState) (notes : List NoteView) : Type 0 where
  pub front : Front Entry
  pub stands : StandsFor armed front new
  pub answers : (cuts : List Entry) → AnswersLines (lines_by 0 lines) cuts
      → AnswersRace lines (cuts ++ entries_of front)
  pub told : AreTold lines notes (entries_of front)
  pub some : (k : ℕ) (note : NoteView) (line : Line) → slice_get notes k ≡ Some note
      → slice_get lines note.line ≡ Some line → 0 < line.caller
  pub order : KeepOrder lines notes

-- The cuts of the script were armed, and then its lines were raced. The entries of all are one legal history, which leads
-- to the bank that is given back. The notes tell them, each once, at the place that is its position, and keep the order of
-- each caller's lines.
pub record Races (lines : List Line) (old new : BankState) (notes : List NoteView) : Type 0 where
  pub cuts : List NoteView
  pub raced : List NoteView
  pub parts : notes ≡ cuts ++ raced
  pub armed : BankState
  pub arms : ArmsAll lines cuts old armed
  pub races : RacesOn lines armed new raced
  pub answers : AnswersRace lines (arms.entries ++ entries_of races.front)
  pub leads : (a : ArrayState) → Stands old a → Leads (arms.entries ++ entries_of races.front) old new a
  pub told : AreTold lines notes (arms.entries ++ entries_of races.front)
  pub order : KeepOrder lines notes
