-- The cuts of a script, which come before all that workers make.
use Rattle.std.specs.Prelude.{◌≡◌, ℕ, List, [], length, map, slice_get, Some, false, Option, All}
use Rattle.nor_bus.specs.declared.bus.Armed.{Armed}
use Rattle.nor_array.specs.Array.{ArrayState}
use Rattle.nor_array.specs.After.{after_all}
use Rattle.nor_array.specs.Legal.{Legal}
use Rattle.nor_array.specs.declared.entry.Entry.{Entry}
use Rattle.nor_array.specs.declared.entry.Op.TheVariants.{Arm}
use Rattle.nor_array.specs.declared.entry.Reply.{Reply}
use Rattle.nor_array.specs.declared.entry.Reply.TheVariants.{Done}
use Rattle.nor_bank.specs.Calls.{facts_of, MakesEntry}
use Rattle.nor_history.specs.Histories.{words_read}
use Rattle.nor_bank.specs.Stands.{Stands}
use Rattle.nor_bank.specs.State.{BankState}
use Rattle.nor_script.specs.Answering.{AnswersLines, lines_by}
use Rattle.nor_script.specs.declared.line.Line.{Line}
use Rattle.nor_script.specs.declared.line.Word.TheVariants.{Call}
use Rattle.nor_race.specs.Noted.{NoteView}
use Rattle.nor_race.specs.Ran.{Tells}
use Rattle.nor_race.specs.Tasks.{AreLinesBy}

-- ---- before they are armed

-- the line is a cut
pub record IsCut (line : Line) : Type 0 where
  pub after : ℕ
  pub mask : ℕ
  pub word : line.word ≡ Call (Arm after mask)
  pub caller : line.caller ≡ 0

-- the note is for a line that is one
pub record IsOfCut (lines : List Line) (note : NoteView) : Type 0 where
  pub line : Line
  pub at : slice_get lines note.line ≡ Some line
  pub cut : IsCut line
  pub closes : note.closes ≡ false

-- The notes are for all cuts of a script, in their order.
pub record AreCuts (lines : List Line) (notes : List NoteView) : Type 0 where
  pub places : AreLinesBy lines 0 (map (λ note. note.line) notes)
  pub each : (j : ℕ) (note : NoteView) → slice_get notes j ≡ Some note → IsOfCut lines note

-- ---- and when they are

-- A cut may be armed in the bank. All else of it is as it was: no cycle was made.
pub record IsArmed (old new : BankState) : Type 0 where
  pub armed : Option Armed
  pub after : ℕ
  pub is : new ≡ record old { bus = record old.bus { armed = armed }; after = after }

-- The cut of a line was armed, which makes this entry.
pub record ArmsCut (line : Line) (old new : BankState) (reply : Reply) : Type 0 where
  pub entry : Entry
  pub cut : IsCut line
  pub op : entry.op ≡ Arm cut.after cut.mask
  pub by : entry.caller ≡ 0
  pub done : reply ≡ Done
  pub reply_is : entry.reply ≡ Done
  pub none : entry.bytes ≡ []
  pub armed : IsArmed old new
  pub makes : (a : ArrayState) → Stands old a → MakesEntry old new entry a

-- The entries lead from an array that the old bank stood for to one that the new bank stands for.
pub record ArmsFrom (old new : BankState) (entries : List Entry) (a : ArrayState) : Type 0 where
  pub legal : Legal (facts_of old) a entries
  pub stands : Stands new (after_all a entries)

-- All cuts of a script were armed, one in place of the other. The notes tell entries that answer them.
pub record ArmsAll (lines : List Line) (notes : List NoteView) (old new : BankState) : Type 0 where
  pub entries : List Entry
  pub count : length notes ≡ length entries
  pub told : (k : ℕ) (note : NoteView) (e : Entry) → slice_get notes k ≡ Some note → slice_get entries k ≡ Some e
      → Tells lines note e
  pub cuts : AreCuts lines notes
  pub answers : AnswersLines (lines_by 0 lines) entries
  pub done : All (λ e. e.reply ≡ Done) entries
  pub unread : (w : ℕ) → words_read w entries ≡ 0
  pub armed : IsArmed old new
  pub leads : (a : ArrayState) → Stands old a → ArmsFrom old new entries a
