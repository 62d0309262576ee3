-- What running the lines of a script makes of a bank.
use Rattle.std.specs.Prelude.{◌≡◌, ◌≢◌, ◌≤◌, ◌⊎◌, ◌+◌, ◌++◌, ◌∷◌, ◌||◌, ℕ, List, [], length, take, map, Bool, true, false, Some, None, Result, Ok, Err}
use Rattle.nor_cell.specs.Chip.{ChipState}
use Rattle.nor_array.specs.After.{after_all}
use Rattle.nor_array.specs.Array.{ArrayState}
use Rattle.nor_array.specs.declared.state.ArmedCut.{ArmedCut}
use Rattle.nor_array.specs.declared.entry.Entry.{Entry}
use Rattle.nor_array.specs.declared.entry.Op.{Op}
use Rattle.nor_array.specs.declared.entry.Op.TheVariants.{Read, Poll}
use Rattle.nor_array.specs.declared.entry.Reply.{Reply}
use Rattle.nor_array.specs.declared.entry.Reply.TheVariants.{NotYet}
use Rattle.nor_io.specs.Files.{SinkState, Rose, Appends, AppendsPart}
use Rattle.nor_io.specs.declared.sink.SinkError.TheVariants.{Fault, NoMemory}
use Rattle.nor_array.specs.Entries.{has_halt}
use Rattle.nor_script.specs.Answering.{Answers, NotOpened, OpenedAndClosed}
use Rattle.nor_script.specs.Report.{entry_lines, report_text}
use Rattle.nor_script.specs.declared.line.Line.{Line}
use Rattle.nor_bank.specs.Calls.{entry_of}
use Rattle.nor_history.specs.Bounds.{polls_most, steps_as, ReadsWords, Tally, Fits, Goes}
use Rattle.nor_history.specs.Histories.{Makes, Leads, words_read}
use Rattle.nor_bus.specs.Driven.{Nearer}
use Rattle.nor_bank.specs.Stands.{Stands, under_of}
use Rattle.nor_bank.specs.State.{BankState, word_bytes}
use Rattle.nor_bank.specs.Work.{KeepsBank}
use Rattle.nor_bank.specs.declared.kept.Erasing.{Erasing}
use Rattle.nor_run.specs.Steps.{GoesBy}
use Rattle.nor_run.specs.Taking.{told, Takes, TakesAll, StopsIn, PutsEntry}
use Rattle.nor_run.specs.declared.error.RunError.{RunError}
use Rattle.nor_run.specs.declared.error.RunError.TheVariants.{Probe, NoMemory as Memory, Put}
use Rattle.nor_run.specs.declared.lines.Ran.{Ran}

-- ---- one call

-- what was run, with these entries more
abbrev pub ran_over : Ran → List Entry → Ran
ran_over ran es = record { entries = ran.entries + length es; halted = ran.halted || has_halt es }

-- The taker stopped at one of these entries, the first of which has this place. At most one comes behind it: an erase is
-- closed before its two entries are handed over.
pub record StopsFrom {T E : Type 0} (takes : Takes T E) (position : ℕ) (es : List Entry) (before after : T) (stop : E)
    : Type 0 where
  pub taken : List Entry
  pub entry : Entry
  pub rest : List Entry
  pub parts : es ≡ taken ++ entry ∷ rest
  pub mid : T
  pub took : TakesAll takes position taken before mid
  pub stops : takes (position + length taken) (told entry) mid after (Err stop)
  pub last : length rest ≤ 1

-- It took them all, or it stopped.
abbrev pub Gives : {T E : Type 0} → Takes T E → Ran → List Entry → (before after : T) → Result Ran E → Type 0
Gives takes ran es before after (Ok now) = TakesAll takes ran.entries es before after × (now ≡ ran_over ran es)
Gives takes ran es before after (Err stop) = StopsFrom takes ran.entries es before after stop

-- It took this entry, which is counted, or it stopped.
abbrev pub HandsOn : {T E : Type 0} → Takes T E → Ran → Entry → (before after : T) → Result Ran E → Type 0
HandsOn takes ran e before after (Ok now) =
    takes ran.entries (told e) before after (Ok tt) × (now ≡ ran_over ran (e ∷ []))
HandsOn takes ran e before after (Err stop) = takes ran.entries (told e) before after (Err stop)

-- A call was made, and its entry handed over.
pub record RunsCall {T E : Type 0} (takes : Takes T E) (caller : ℕ) (op : Op) (ran : Ran) (old new : BankState)
    (before after : T) (result : Result Ran E) : Type 0 where
  pub reply : Reply
  pub given : List ℕ
  pub makes : Makes caller op old new reply given
  pub reads : ReadsWords op reply old new
  pub hands : HandsOn takes ran (entry_of old new caller op reply given) before after result

-- the call gives bytes
abbrev pub is_read : Op → Bool
is_read (Read at len) = true
is_read op = false

-- ---- one line

-- This caller's erase is under way.
pub record IsPolled (caller : ℕ) (b : BankState) : Type 0 where
  pub erase : Erasing
  pub is : b.erase ≡ Some erase
  pub own : erase.caller ≡ caller

-- It was polled until it ended, or the bank halted. The polls that had to wait make no entry, and change nothing of an
-- array for which the bank stood; together they asked for no more cycles than the limit of the erase allows.
pub record PollsOn (caller : ℕ) (old new : BankState) (reply : Reply) : Type 0 where
  pub mid : BankState
  pub keeps : KeepsBank old mid
  pub waits : (a : ArrayState) → Stands old a → Leads [] old mid a
  pub after : mid.after ≡ old.after
  pub near : Nearer 0 (polls_most old (under_of old.erase)) old.bus.armed mid.bus.armed
  pub last : Makes caller Poll mid new reply []
  pub ended : reply ≢ NotYet

-- The entries are those of an erase that this call opens, or doesn't.
abbrev pub AnswersErase : ℕ → Op → List Entry → Type 0
AnswersErase caller op [] = ⊥
AnswersErase caller op (e ∷ []) = NotOpened caller op e
AnswersErase caller op (e ∷ close ∷ []) = OpenedAndClosed caller op e close
AnswersErase caller op (e ∷ close ∷ more ∷ entries) = ⊥

-- Entries were made that answer what was asked for, they lead from each array for which the bank stood and keep the
-- bounds, and they were handed over.
pub record RunsTo {T E : Type 0} (takes : Takes T E) (waits : Bool) (Asked : List Entry → Type 0) (ran : Ran)
    (old new : BankState) (before after : T) (result : Result Ran E) : Type 0 where
  pub entries : List Entry
  pub answers : Asked entries
  pub leads : (a : ArrayState) → Stands old a → Leads entries old new a
  pub goes : (a : ArrayState) → Stands old a → (t : Tally) → Fits t old → Goes (steps_as waits entries) old new a t
  pub gives : Gives takes ran entries before after result

-- ---- all lines

-- The entries answer the lines, run by one thread or raced, and lead from each array for which the bank stood. A race
-- leaves nothing under erase, and reads no more bus words than the cut that is armed was armed with: its cuts come first.
-- What one thread runs keeps the bounds.
pub record IsHistoryOf (race : Bool) (lines : List Line) (old new : BankState) (es : List Entry) : Type 0 where
  pub answers : Answers race lines es
  pub leads : (a : ArrayState) → Stands old a → Leads es old new a
  pub closed : race ≡ true → (a : ArrayState) → Stands old a → old.erase ≡ None → new.erase ≡ None
  pub reads : race ≡ true → (a : ArrayState) → Stands old a → (cut : ArmedCut) → (after_all a es).armed ≡ Some cut
      → words_read (word_bytes old.found) es ≤ cut.after
  pub goes : race ≡ false → (a : ArrayState) → Stands old a → (t : Tally) → Fits t old → GoesBy lines es old new a t

-- All lines were run, and the taker took the history.
pub record RunsWhole {T E : Type 0} (takes : Takes T E) (race : Bool) (lines : List Line) (old new : BankState)
    (before after : T) (ran : Ran) : Type 0 where
  pub history : List Entry
  pub is : IsHistoryOf race lines old new history
  pub took : TakesAll takes 0 history before after
  pub entries : ran.entries ≡ length history
  pub halted : ran.halted ≡ has_halt history

-- how many lines were run where the taker stopped: a race runs all before it hands over any
abbrev pub IsCount : (race : Bool) → List Line → ℕ → Type 0
IsCount false lines count = Unit {0}
IsCount true lines count = count ≡ length lines

-- The taker stopped at an entry: one of the last line that was run, or in a race any of all.
pub record RunsPart {T E : Type 0} (takes : Takes T E) (race : Bool) (lines : List Line) (old new : BankState)
    (before after : T) (stop : E) : Type 0 where
  pub history : List Entry
  pub count : ℕ
  pub all : IsCount race lines count
  pub is : IsHistoryOf race (take count lines) old new history
  pub stops : StopsIn takes history before after stop
  pub last : race ≡ false → length stops.rest ≤ 1

-- ---- for a report

-- What was run, and put: all, or a part.
abbrev pub RunsLines : (race : Bool) → List Line → (old new : BankState) → (before after : SinkState)
    → Result Ran RunError → Type 0
RunsLines race lines old new before after (Ok ran) = RunsWhole PutsEntry race lines old new before after ran
RunsLines race lines old new before after (Err (Probe error)) = ⊥
RunsLines race lines old new before after (Err Memory) = Unit {0}
RunsLines race lines old new before after (Err (Put error)) =
    RunsPart PutsEntry race lines old new before after error

-- nothing was put
abbrev pub Untouched : (before after : SinkState) → Type 0
Untouched before after = after ≡ before

-- Why not all was put: a race may want memory, and then nothing was; or it comes from the sink.
abbrev pub EndsLines : (race : Bool) → (before after : SinkState) → Result Ran RunError → Type 0
EndsLines race before after (Ok ran) = Unit {0}
EndsLines race before after (Err (Probe error)) = ⊥
EndsLines race before after (Err Memory) = (race ≡ true) × Untouched before after
EndsLines race before after (Err (Put Fault)) = Rose before.faults after.faults
EndsLines race before after (Err (Put NoMemory)) = Unit {0}

-- ---- with the chips' counters at the end

-- how often an erase was suspended on each lane, and how many erases there were
abbrev pub counters_of : List ChipState → List (ℕ × ℕ)
counters_of chips = map (λ (s : ChipState). (s.suspends, s.erases)) chips

-- All lines were run, and the report put.
pub record ReportsWhole (race : Bool) (lines : List Line) (old new : BankState)
    (before after : SinkState) (ran : Ran) : Type 0 where
  pub history : List Entry
  pub is : IsHistoryOf race lines old new history
  pub text : Appends before.taken (report_text history (counters_of new.bus.lanes)) after.taken
  pub entries : ran.entries ≡ length history
  pub halted : ran.halted ≡ has_halt history

-- What there is to put where so many of the lines were run: the lines of their history, or, where all were run, the
-- whole report.
abbrev pub IsDue : List Line → (count : ℕ) → List Entry → List (ℕ × ℕ) → List ℕ → Type 0
IsDue lines count history counters text =
    (text ≡ entry_lines 0 history) ⊎ ((length lines ≤ count) × (text ≡ report_text history counters))

-- The first lines were run, or in a race all, and of what there is then to put a first part was put.
pub record ReportsPart (race : Bool) (lines : List Line) (old new : BankState)
    (before after : SinkState) : Type 0 where
  pub history : List Entry
  pub count : ℕ
  pub all : IsCount race lines count
  pub is : IsHistoryOf race (take count lines) old new history
  pub whole : List ℕ
  pub due : IsDue lines count history (counters_of new.bus.lanes) whole
  pub text : AppendsPart before.taken whole after.taken

-- What was put of the report.
abbrev pub ReportsLines : (race : Bool) → List Line → (old new : BankState) → (before after : SinkState)
    → Result Ran RunError → Type 0
ReportsLines race lines old new before after (Ok ran) = ReportsWhole race lines old new before after ran
ReportsLines race lines old new before after (Err (Probe error)) = ⊥
ReportsLines race lines old new before after (Err Memory) = Unit {0}
ReportsLines race lines old new before after (Err (Put error)) = ReportsPart race lines old new before after
