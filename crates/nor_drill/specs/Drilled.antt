-- What comes of a drill.
use Rattle.std.specs.Prelude.{◌≡◌, ℕ, List, false, Result, Ok, Err}
use Rattle.nor_array.specs.Entries.{has_halt}
use Rattle.nor_array.specs.declared.entry.Entry.{Entry}
use Rattle.nor_bus.specs.Bus.{BusState}
use Rattle.nor_bus.specs.Driven.{AllLanes}
use Rattle.nor_io.specs.Files.{SinkState}
use Rattle.nor_io.specs.Puts.{PutsText}
use Rattle.nor_io.specs.declared.sink.SinkError.{SinkError}
use Rattle.nor_run.specs.Scripts.{IsRunOf, HasLetters}
use Rattle.nor_script.specs.declared.line.Line.{Line}
use Rattle.nor_drill.specs.Drill.{drill_chips, drill_lines}
use Rattle.nor_drill.specs.Summary.{counts_of, sum_of, summary_text}
use Rattle.nor_drill.specs.declared.drilled.DrillError.{DrillError}
use Rattle.nor_drill.specs.declared.drilled.DrillError.TheVariants.{NoMemory, Put}
use Rattle.nor_drill.specs.declared.drilled.Drilled.{Drilled}

-- Lines were run on a bank, whose entries answer them. They were counted, and the bytes that the chips then have
-- were summed.
pub record IsDrilled (width : ℕ) (lines : List Line) (old : BusState) (drilled : Drilled) : Type 0 where
  pub new : BusState
  pub history : List Entry
  pub runs : IsRunOf false width lines old new history
  pub counts : drilled.tally ≡ counts_of history
  pub sum : drilled.sum ≡ sum_of new.lanes

-- The script of a number was run on its bank. The entries answer the script, and are a legal history from the array that
-- opens with the bank's bytes. The bank doesn't halt.
pub record DrillRun (n : ℕ) (history : List Entry) (new : BusState) : Type 0 where
  pub old : BusState
  pub bank : old.lanes ≡ drill_chips n
  pub letters : AllLanes HasLetters old
  pub runs : IsRunOf false 4 (drill_lines n) old new history
  pub goes_on : has_halt history ≡ false

-- The text is the summary of a number: of the entries that the run of its script made, and of the bytes of the chips
-- after it.
pub record IsSummary (n : ℕ) (text : List ℕ) : Type 0 where
  pub history : List Entry
  pub new : BusState
  pub run : DrillRun n history new
  pub is : text ≡ summary_text n (counts_of history) (sum_of new.lanes)

-- what came of putting it
pub record Summarizes (n : ℕ) (before after : SinkState) (put : Result (Unit {0}) SinkError) : Type 0 where
  pub text : List ℕ
  pub summary : IsSummary n text
  pub puts : PutsText text before after put

-- The summary of a drill was put, or why not.
abbrev pub Drills : (n : ℕ) → (before after : SinkState) → Result (Unit {0}) DrillError → Type 0
Drills n before after (Ok done) = Summarizes n before after (Ok done)
Drills n before after (Err NoMemory) = after ≡ before
Drills n before after (Err (Put error)) = Summarizes n before after (Err error)
