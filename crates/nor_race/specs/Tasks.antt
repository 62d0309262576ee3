-- A worker's tasks.
use Rattle.std.specs.Prelude.{◌≡◌, ◌≢◌, ◌<◌, ℕ, List, [], length, map, slice_get, nat_le, if◌then◌else◌, true, Option, Some, None}
use Rattle.nor_array.specs.declared.entry.Op.{Op}
use Rattle.nor_array.specs.declared.entry.Op.TheVariants.{Read, EraseOpen, EraseAll as EraseAllOp, Poll}
use Rattle.nor_array.specs.declared.entry.Reply.{Reply}
use Rattle.nor_array.specs.declared.entry.Reply.TheVariants.{Opened}
use Rattle.nor_bank.specs.State.{BankState}
use Rattle.nor_driver.specs.Callers.{CallerView, Called}
use Rattle.nor_driver.specs.declared.caller.Answer.{Answer}
use Rattle.nor_script.specs.Answering.{lines_by}
use Rattle.nor_script.specs.Racing.{is_raced}
use Rattle.nor_script.specs.declared.line.Line.{Line}
use Rattle.nor_script.specs.declared.line.Word.{Word}
use Rattle.nor_script.specs.declared.line.Word.TheVariants.{Call, Erase, EraseAll}
use Rattle.nor_race.specs.declared.task.Task.{Task}

-- ---- before the race

-- how many bytes a call may give
abbrev pub room_for : Op → ℕ
room_for (Read at len) = if nat_le len 4096 then len else 0
room_for _ = 0

abbrev pub RoomFor : Op → List ℕ → Type 0
RoomFor op bytes = length bytes ≡ room_for op

-- a word that a worker can run, with so many bytes for its data
abbrev pub CanRun : Word → List ℕ → Type 0
CanRun (Call op) bytes = (is_raced op ≡ true) × RoomFor op bytes
CanRun (Erase block) bytes = Unit {0}
CanRun EraseAll bytes = Unit {0}

-- The task is for a line of the caller, for whose data it has room. Nothing was closed yet.
pub record IsFor (lines : List Line) (caller : ℕ) (task : Task) : Type 0 where
  pub line : Line
  pub at : slice_get lines task.line ≡ Some line
  pub by : line.caller ≡ caller
  pub can : CanRun line.word task.bytes.items
  pub none : task.close ≡ None

-- The places in the script of all lines of this caller, in their order.
pub record AreLinesBy (lines : List Line) (caller : ℕ) (places : List ℕ) : Type 0 where
  pub count : length (lines_by caller lines) ≡ length places
  pub told : (j place : ℕ) (line : Line) → slice_get places j ≡ Some place
      → slice_get (lines_by caller lines) j ≡ Some line → slice_get lines place ≡ Some line
  pub order : (i j x y : ℕ) → i < j → slice_get places i ≡ Some x → slice_get places j ≡ Some y → x < y

-- The tasks are for the lines of this caller: for all that it has, in their order.
pub record AreFor (lines : List Line) (caller : ℕ) (tasks : List Task) : Type 0 where
  pub places : AreLinesBy lines caller (map (λ task. task.line) tasks)
  pub each : (j : ℕ) (task : Task) → slice_get tasks j ≡ Some task → IsFor lines caller task

-- ---- a line that was run

-- An erase that was opened was closed by a poll; one that wasn't has no close.
abbrev pub Closes : (first : BankState) (opening : Reply) (c d : CallerView) → Option Answer → Type 0
Closes first opening c d None = (opening ≢ Opened) × (d ≡ c)
Closes first opening c d (Some answer) = (opening ≡ Opened) × Called first Poll [] c d answer

-- Both calls of an erase were made.
pub record RunsErase (first : BankState) (op : Op) (c d : CallerView) (task : Task) : Type 0 where
  pub mid : CallerView
  pub called : Called first op [] c mid task.answer
  pub closes : Closes first task.answer.reply mid d task.close

-- The calls of a line were made, and the task has the answers.
abbrev pub RunsWord : Word → BankState → (c d : CallerView) → Task → Type 0
RunsWord (Call op) first c d task = Called first op task.bytes.items c d task.answer × (task.close ≡ None)
RunsWord (Erase block) first c d task = RunsErase first (EraseOpen block) c d task
RunsWord EraseAll first c d task = RunsErase first EraseAllOp c d task

pub record RunsLine (lines : List Line) (first : BankState) (c d : CallerView) (task : Task) : Type 0 where
  pub line : Line
  pub at : slice_get lines task.line ≡ Some line
  pub by : line.caller ≡ c.number
  pub runs : RunsWord line.word first c d task
