-- What workers have run, and what is noted of it.
use Rattle.std.specs.Prelude.{◌≡◌, ◌<◌, ◌+◌, ℕ, List, length, slice_get, Bool, true, false, Option, Some, None}
use Rattle.nor_array.specs.declared.entry.Entry.{Entry}
use Rattle.nor_array.specs.declared.entry.Op.{Op}
use Rattle.nor_array.specs.declared.entry.Op.TheVariants.{EraseOpen, EraseAll as EraseAllOp, Poll}
use Rattle.nor_bank.specs.State.{BankState}
use Rattle.nor_turn.specs.Fronts.{Name, Front}
use Rattle.nor_turn.specs.Passes.{PassView, Owns}
use Rattle.nor_array.specs.Entries.{IsAwaited}
use Rattle.nor_script.specs.Answering.{AnswersLines, lines_by}
use Rattle.nor_script.specs.declared.line.Line.{Line}
use Rattle.nor_script.specs.declared.line.Word.{Word}
use Rattle.nor_script.specs.declared.line.Word.TheVariants.{Call, Erase, EraseAll}
use Rattle.nor_driver.specs.Callers.{Gives}
use Rattle.nor_race.specs.Noted.{NoteView, Noted}

-- ---- what a note tells

-- the call of a word: its own, or the poll that closes its erase
abbrev pub op_of : Word → (closes : Bool) → Option Op
op_of (Call op) false = Some op
op_of (Call op) true = None
op_of (Erase block) false = Some (EraseOpen block)
op_of (Erase block) true = Some Poll
op_of EraseAll false = Some EraseAllOp
op_of EraseAll true = Some Poll

-- The note tells the entry: it is a call of the note's line, by the line's caller, with the note's reply, and its data
-- where a read is done.
pub record Tells (lines : List Line) (note : NoteView) (e : Entry) : Type 0 where
  pub line : Line
  pub at : slice_get lines note.line ≡ Some line
  pub op : op_of line.word note.closes ≡ Some e.op
  pub by : e.caller ≡ line.caller
  pub reply : e.reply ≡ note.reply
  pub bytes : Gives note.reply e.op note.bytes e.bytes

-- where a note stands among those of its caller: by its line, and the close of an erase behind its opening
abbrev pub closing : Bool → ℕ
closing true = 1
closing false = 0

abbrev pub rank : NoteView → ℕ
rank note = note.line + note.line + closing note.closes

-- ---- what one worker made

-- it tells the entry at its position in the front, which a caller that waits may be given
pub record TellsIn (lines : List Line) (x : Noted) (e : Entry) (front : Front Entry) : Type 0 where
  pub name : Name
  pub at : slice_get front x.position ≡ Some (name, e)
  pub tells : Tells lines x.note e
  pub awaited : IsAwaited e.reply

-- a note has this position
pub record HasNote (notes : List Noted) (place : ℕ) : Type 0 where
  pub index : ℕ
  pub note : Noted
  pub at : slice_get notes index ≡ Some note
  pub position : note.position ≡ place

-- Each note tells one of the entries, in their order, which is also that of the front and of the lines.
pub record AllTell (lines : List Line) (notes : List Noted) (entries : List Entry) (front : Front Entry) : Type 0 where
  pub count : length entries ≡ length notes
  pub each : (j : ℕ) (x : Noted) (e : Entry) → slice_get notes j ≡ Some x → slice_get entries j ≡ Some e
      → TellsIn lines x e front
  pub order : (j k : ℕ) (x y : Noted) → j < k → slice_get notes j ≡ Some x → slice_get notes k ≡ Some y
      → (x.position < y.position) × (rank x.note < rank y.note)

-- A worker has run these lines: the notes tell, in the front, entries that answer them.
pub record HasRun (lines own : List Line) (notes : List Noted) (front : Front Entry) : Type 0 where
  pub entries : List Entry
  pub tell : AllTell lines notes entries front
  pub answers : AnswersLines own entries

-- each entry under a name that the pass owns is told by a note
abbrev pub AreOwn : List Noted → PassView BankState Entry → Type 0
AreOwn notes p = (place : ℕ) (pair : Name × Entry) → slice_get p.seen place ≡ Some pair → Owns p pair.0
    → HasNote notes place

-- The worker has made nothing else.
pub record Works (lines own : List Line) (notes : List Noted) (p : PassView BankState Entry) : Type 0 where
  pub run : HasRun lines own notes p.seen
  pub owned : AreOwn notes p

-- ---- what several made

-- a worker: its number, and what is noted of its entries
pub record Team : Type 0 where
  pub caller : ℕ
  pub notes : List Noted

-- one of several workers has a note with this position
pub record HasNoteOf (teams : List Team) (place : ℕ) : Type 0 where
  pub worker : ℕ
  pub team : Team
  pub at : slice_get teams worker ≡ Some team
  pub has : HasNote team.notes place

-- What workers have made together, where the pass took in all of theirs: the notes of each tell, in what the pass has
-- seen, entries that answer its lines; and each entry there under a name that the pass owns is told by a note.
pub record Ran (lines : List Line) (teams : List Team) (p : PassView BankState Entry) : Type 0 where
  pub told : (w : ℕ) (team : Team) → slice_get teams w ≡ Some team
      → HasRun lines (lines_by team.caller lines) team.notes p.seen
  pub own : (place : ℕ) (pair : Name × Entry) → slice_get p.seen place ≡ Some pair → Owns p pair.0
      → HasNoteOf teams place
