-- What is noted of entries.
use Rattle.std.specs.Prelude.{ℕ, List, [], ◌∷◌, ◌++◌, Bool, true, false, Option, Some, None}
use Rattle.nor_array.specs.declared.entry.Reply.{Reply}
use Rattle.nor_driver.specs.declared.caller.Answer.{Answer}
use Rattle.nor_race.specs.declared.task.Task.{Task}

-- what is printed of an entry: the place of its line, whether it closes the erase of the line, its reply, and its data
pub record NoteView : Type 0 where
  pub line : ℕ
  pub closes : Bool
  pub reply : Reply
  pub bytes : List ℕ

-- the same, with the entry's place among those that the workers make
pub record Noted : Type 0 where
  pub position : ℕ
  pub note : NoteView

-- what a task has noted of the call of its line
abbrev pub call_of : Task → Noted
call_of task = record {
  position = task.answer.position;
  note = record { line = task.line; closes = false; reply = task.answer.reply; bytes = task.bytes.items };
}

-- and of the poll that closed its erase
abbrev pub closes_of : ℕ → Option Answer → List Noted
closes_of line None = []
closes_of line (Some answer) = record {
  position = answer.position;
  note = record { line = line; closes = true; reply = answer.reply; bytes = [] };
} ∷ []

abbrev pub noted_of : Task → List Noted
noted_of task = call_of task ∷ closes_of task.line task.close

-- and of all tasks
abbrev pub told_of : List Task → List Noted
told_of [] = []
told_of (task ∷ tasks) = noted_of task ++ told_of tasks
