-- What a sink has taken where a text is put.
use Rattle.std.specs.Prelude.{ℕ, List, Result, Ok, Err}
use Rattle.nor_io.specs.declared.sink.SinkError.{SinkError}
use Rattle.nor_io.specs.declared.sink.SinkError.TheVariants.{Fault, NoMemory}
use Rattle.nor_io.specs.Files.{SinkState, Rose, Appends, AppendsPart}

-- The text was put; or the sink failed, which its count tells, or lacked memory, and then a first part of it was.
abbrev pub PutsText : List ℕ → (before after : SinkState) → Result (Unit {0}) SinkError → Type 0
PutsText text before after (Ok done) = Appends before.taken text after.taken
PutsText text before after (Err Fault) = Rose before.faults after.faults × AppendsPart before.taken text after.taken
PutsText text before after (Err NoMemory) = AppendsPart before.taken text after.taken
