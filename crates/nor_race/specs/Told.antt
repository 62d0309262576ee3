-- What is told of a race, and handed over.
use Rattle.std.specs.Prelude.{◌≡◌, ℕ, List, length, slice_get, Some, Result}
use Rattle.nor_array.specs.declared.entry.Entry.{Entry}
use Rattle.nor_array.specs.declared.entry.Op.{Op}
use Rattle.nor_array.specs.declared.entry.Reply.{Reply}
use Rattle.nor_script.specs.declared.line.Line.{Line}
use Rattle.nor_array.specs.Entries.{has_halt}
use Rattle.nor_run.specs.Taking.{Takes, TakesAll, Hands}
use Rattle.nor_run.specs.declared.lines.Ran.{Ran}
use Rattle.nor_race.specs.Noted.{NoteView}
use Rattle.nor_race.specs.Ran.{Tells, op_of}

-- The notes tell these entries, in their order and each once.
pub record AreTold (lines : List Line) (notes : List NoteView) (es : List Entry) : Type 0 where
  pub count : length notes ≡ length es
  pub told : (k : ℕ) (note : NoteView) (e : Entry)
      → slice_get notes k ≡ Some note → slice_get es k ≡ Some e → Tells lines note e

-- they tell some history
pub record HasHistory (lines : List Line) (notes : List NoteView) : Type 0 where
  pub entries : List Entry
  pub are : AreTold lines notes entries

-- a note of a line: its entry was handed over
abbrev pub HandsTold : {T E : Type 0} → Takes T E → ℕ → Line → NoteView → (before after : T) → Result Reply E → Type 0
HandsTold {T} {E} takes position line note before after result =
    (op : Op) → op_of line.word note.closes ≡ Some op
    → Hands takes position (record { caller = line.caller; op = op; reply = note.reply; bytes = note.bytes })
    before after result

-- The taker took the history.
pub record HandsAll {T E : Type 0} (takes : Takes T E) (es : List Entry) (before after : T) (ran : Ran) : Type 0 where
  pub took : TakesAll takes 0 es before after
  pub entries : ran.entries ≡ length es
  pub halted : ran.halted ≡ has_halt es
