-- Entries that are handed to a taker, one after the other.
use Rattle.std.specs.Prelude.{◌≡◌, ◌≤◌, ◌+◌, ◌++◌, ℕ, List, [], ◌∷◌, length, Result, Ok, Err}
use Rattle.nor_array.specs.declared.entry.Entry.{Entry}
use Rattle.nor_array.specs.declared.entry.Op.{Op}
use Rattle.nor_array.specs.declared.entry.Op.TheVariants.{Read}
use Rattle.nor_array.specs.declared.entry.Reply.{Reply}
use Rattle.nor_array.specs.declared.entry.Reply.TheVariants.{Done}
use Rattle.nor_io.specs.Files.{SinkState}
use Rattle.nor_io.specs.Puts.{PutsText}
use Rattle.nor_io.specs.declared.sink.SinkError.{SinkError}
use Rattle.nor_script.specs.Report.{entry_line}

-- ---- what is told of an entry

-- the data of a read that is done: what stands in uncertain spans isn't told
abbrev pub told_bytes : Op → Reply → List ℕ → List ℕ
told_bytes (Read at len) Done bytes = bytes
told_bytes _ reply bytes = []

abbrev pub told : Entry → Entry
told e = record e { bytes = told_bytes e.op e.reply e.bytes }

-- ---- what a taker makes of it

-- How a taker stood before an entry at a place of the history and stands after it, and what it answers: that it took
-- the entry, or why it takes no more.
abbrev pub Takes : Type 0 → Type 0 → Type 1
Takes T E = ℕ → Entry → (before after : T) → Result (Unit {0}) E → Type 0

-- It took the entry, and the entry's reply is given; or it stopped.
abbrev pub Hands : {T E : Type 0} → Takes T E → ℕ → Entry → (before after : T) → Result Reply E → Type 0
Hands takes position e before after (Ok reply) = (reply ≡ e.reply) × takes position (told e) before after (Ok tt)
Hands takes position e before after (Err stop) = takes position (told e) before after (Err stop)

-- It took all of these entries, the first of them at this place.
abbrev pub TakesAll : {T E : Type 0} → Takes T E → ℕ → List Entry → (before after : T) → Type 0
TakesAll takes position [] before after = after ≡ before
TakesAll {T} takes position (e ∷ es) before after =
    (mid : T) × takes position (told e) before mid (Ok tt) × TakesAll takes (position + 1) es mid after

-- It took the first of these entries, and stopped at the next.
pub record StopsIn {T E : Type 0} (takes : Takes T E) (es : List Entry) (before after : T) (stop : E) : Type 0 where
  pub taken : List Entry
  pub entry : Entry
  pub rest : List Entry
  pub parts : es ≡ taken ++ entry ∷ rest
  pub mid : T
  pub took : TakesAll takes 0 taken before mid
  pub stops : takes (length taken) (told entry) mid after (Err stop)

-- ---- a sink

abbrev pub line_of_entry : ℕ → Entry → List ℕ
line_of_entry position e = entry_line position e.caller e.op e.reply e.bytes

-- It takes an entry by its line of the report.
abbrev pub PutsEntry : ℕ → Entry → (before after : SinkState) → Result (Unit {0}) SinkError → Type 0
PutsEntry position e before after result =
    PutsText (line_of_entry position e) before after result × (before.faults ≤ after.faults)

-- the same of any sink, by its state
abbrev pub PutsBy : {K : Type 0} → (K → SinkState) → Takes K SinkError
PutsBy state position e before after result = PutsEntry position e (state before) (state after) result
