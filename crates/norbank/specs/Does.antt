-- What a command does before its last text, and with what it ends: what was done, or what stopped
-- it.
use Rattle.std.specs.Prelude.{◌≡◌, ◌≤◌, ◌⊎◌, ℕ, List, Bool, true, Option, Some, None, Result, Ok, Err}
use Rattle.nor_cell.specs.Chip.{ChipState}
use Rattle.nor_bus.specs.Bus.{BusState, bank_bytes}
use Rattle.nor_bus.specs.Driven.{AllLanes}
use Rattle.nor_drill.specs.Drilled.{IsSummary}
use Rattle.nor_image.specs.Image.{device_of, width_of}
use Rattle.nor_io.specs.Files.{ShelfState, SinkState, FileMap, Rose, Saves}
use Rattle.nor_io.specs.Puts.{PutsText}
use Rattle.nor_io.specs.declared.sink.SinkError.{SinkError}
use Rattle.nor_io.specs.declared.sink.SinkError.TheVariants.{Fault}
use Rattle.nor_probe.specs.Probed.{IsFoundOn}
use Rattle.nor_probe.specs.declared.probing.Found.{Found}
use Rattle.nor_run.specs.Causes.{MayHalt}
use Rattle.nor_run.specs.Running.{Untouched}
use Rattle.nor_run.specs.Scripts.{IsRunnable, RunsImage, RunsPartly, HasLetters}
use Rattle.nor_run.specs.declared.lines.Ran.{Ran}
use Rattle.nor_script.specs.Script.{script_of}
use Rattle.nor_script.specs.declared.line.Line.{Line}
use Rattle.nor_show.specs.Lines.{shown_lines}
use Rattle.norbank.specs.Endings.{status_of, text_of, done_of, Tells, lacks_memory}
use Rattle.norbank.specs.Stops.{file_stop, stop_of, bytes_in, chips_of_file}
use Rattle.norbank.specs.Text.{hex_line, no_memory}
use Rattle.norbank.specs.Words.{Asked, Read, Show, Script, Drill, Unknown, name_of}
use Rattle.norbank.specs.declared.stop.Done.{Done}
use Rattle.norbank.specs.declared.stop.Done.TheVariants.{All}
use Rattle.norbank.specs.declared.stop.File.TheVariants.{Bank, Script as ScriptFile}
use Rattle.norbank.specs.declared.stop.Stop.{Stop}
use Rattle.norbank.specs.declared.stop.Stop.TheVariants.{ReadFault, WriteFault, NoMemory, Output}

-- ---- why a command stops before it puts anything

-- what a shelf holds under a name, where it tells that
abbrev pub IsFound : Option FileMap → List ℕ → Option (List ℕ) → Type 0
IsFound None name found = Unit {0}
IsFound (Some files) name found = files name ≡ found

-- what is under the names of a command, as far as the shelf tells it
pub record Names (command : Asked) (told : Option FileMap) : Type 0 where
  pub bank : Option (List ℕ)
  pub is_bank : IsFound told (name_of command Bank) bank
  pub script : Option (List ℕ)
  pub is_script : IsFound told (name_of command ScriptFile) script

abbrev pub NamesFile : Asked → Type 0
NamesFile (Drill n) = ⊥
NamesFile Unknown = ⊥
NamesFile _ = Unit {0}

-- it takes memory
abbrev pub MayWant : Asked → Type 0
MayWant Unknown = ⊥
MayWant _ = Unit {0}

-- A file couldn't be read, which the shelf's count tells: that of the bank, or behind it the
-- script's.
abbrev pub FailsRead : Option (List ℕ) → (was now : ShelfState) → Stop → Type 0
FailsRead bank was now stop =
    ((stop ≡ ReadFault Bank) ⊎ ((stop ≡ ReadFault ScriptFile) × (file_stop Bank bank ≡ None)))
    × Rose was.faults now.faults

-- memory ran out, which is told
pub record IsWant (command : Asked) (stop : Stop) : Type 0 where
  pub status : status_of stop ≡ lacks_memory
  pub text : text_of command stop ≡ no_memory

-- It stops as the first thing says that is wrong in the order of work; or, where it names a file,
-- as one can't be read; or for want of memory. Nothing was put, and no file has changed.
pub record Stops (command : Asked) (was now : ShelfState) (before after : SinkState) (stop : Stop)
    : Type 0 where
  pub names : Names command was.files
  pub cause : (stop_of command names.bank names.script ≡ Some stop)
      ⊎ ((NamesFile command × FailsRead names.bank was now stop)
      ⊎ (MayWant command × IsWant command stop))
  pub kept : now.files ≡ was.files
  pub silent : Untouched before after

-- ---- what it does where nothing stops it

-- what comes of the last text
abbrev pub of_put : Result (Unit {0}) SinkError → Result Done Stop
of_put (Ok done) = Ok All
of_put (Err error) = Err (Output error)

-- A text was put, and no file has changed.
pub record Prints (text : List ℕ) (was now : ShelfState) (before after : SinkState)
    (result : Result Done Stop) : Type 0 where
  pub put : Result (Unit {0}) SinkError
  pub puts : PutsText text before after put
  pub is : result ≡ of_put put
  pub kept : now.files ≡ was.files

-- the lines that tell what was found of a bank
abbrev pub found_lines : ℕ → Found → List ℕ
found_lines width found = shown_lines width found.geometry found.query found.map

-- the bus that a loaded bank of these chips has
abbrev pub fresh_bus : List ChipState → BusState
fresh_bus chips = record { lanes = chips; power = true; armed = None; cycles = 0; failed = 0 }

-- the bus of a file's bank
abbrev pub bus_in : List ℕ → BusState
bus_in file = fresh_bus (chips_of_file file)

-- The bank was saved under its name; or it wasn't, which the shelf's count tells, or for want of
-- memory, and no file has changed.
abbrev pub Saved : (name saved : List ℕ) → Ran → (was now : ShelfState) → Result Done Stop → Type 0
Saved name saved ran was now result =
    ((result ≡ Ok (done_of ran.halted)) × Saves was.files name saved now.files)
    ⊎ ((now.files ≡ was.files)
    × (((result ≡ Err WriteFault) × Rose was.faults now.faults) ⊎ (result ≡ Err NoMemory)))

-- a bank whose tables begin with `QRY` halted only by what may halt it
abbrev pub IsCaused : (lines : List Line) → BusState → Ran → Type 0
IsCaused lines bus ran = AllLanes HasLetters bus → ran.halted ≡ true → MayHalt lines bus.lanes

-- The report of a script was put whole, and then the bank was to be saved.
pub record RunsWhole (race : Bool) (name file : List ℕ) (lines : List Line) (was now : ShelfState)
    (before after : SinkState) (result : Result Done Stop) : Type 0 where
  pub ran : Ran
  pub saved : List ℕ
  pub runs : RunsImage race (width_of file) lines (bus_in file) before after ran saved
  pub caused : IsCaused lines (bus_in file) ran
  pub saves : Saved name saved ran was now result

-- It wasn't put whole, which the sink's count tells, or for want of memory; and no file has
-- changed.
pub record RunsPart (race : Bool) (file : List ℕ) (lines : List Line) (was now : ShelfState)
    (before after : SinkState) (result : Result Done Stop) : Type 0 where
  pub error : SinkError
  pub is : result ≡ Err (Output error)
  pub new : BusState
  pub runs : RunsPartly race (width_of file) lines (bus_in file) new before after
  pub fault : error ≡ Fault → Rose before.faults after.faults
  pub kept : now.files ≡ was.files

-- The lines of a text were run on the bank of a file, which probing accepts.
pub record RunsScript (race : Bool) (name file text : List ℕ) (was now : ShelfState)
    (before after : SinkState) (result : Result Done Stop) : Type 0 where
  pub lines : List Line
  pub is_script : script_of race text ≡ Ok lines
  pub runnable : IsRunnable (width_of file) (chips_of_file file)
  pub runs : RunsWhole race name file lines was now before after result
      ⊎ RunsPart race file lines was now before after result

-- What is asked for was done, on the bank of a file or of a number, as far as the output took it.
abbrev pub Answers : Asked → (file text : List ℕ) → (was now : ShelfState)
    → (before after : SinkState)
    → Result Done Stop → Type 0
Answers (Read image at len) file text was now before after result =
    Prints (hex_line (bank_bytes (device_of file) (chips_of_file file) at len)) was now
    before after result
Answers (Show image) file text was now before after result =
    (found : Found) × IsFoundOn (width_of file) (chips_of_file file) found
    × Prints (found_lines (width_of file) found) was now before after result
Answers (Script race image name) file text was now before after result =
    RunsScript race image file text was now before after result
Answers (Drill n) file text was now before after result =
    (summary : List ℕ) × IsSummary n summary × Prints summary was now before after result
Answers Unknown file text was now before after result = ⊥

-- Nothing is wrong, and what is asked for was done.
pub record Works (command : Asked) (was now : ShelfState) (before after : SinkState)
    (result : Result Done Stop) : Type 0 where
  pub names : Names command was.files
  pub free : stop_of command names.bank names.script ≡ None
  pub answers : Answers command (bytes_in names.bank) (bytes_in names.script) was now
      before after result

-- it stopped before it put anything
abbrev pub StopsWith : Asked → (was now : ShelfState) → (before after : SinkState)
    → Result Done Stop → Type 0
StopsWith command was now before after (Ok done) = ⊥
StopsWith command was now before after (Err stop) = Stops command was now before after stop

abbrev pub Does : Asked → (was now : ShelfState) → (before after : SinkState) → Result Done Stop
    → Type 0
Does command was now before after result =
    StopsWith command was now before after result ⊎ Works command was now before after result

-- ---- how it ends

-- A command does what is asked for, and then tells what stopped it.
pub record Ends (command : Asked) (was now : ShelfState) (before after : SinkState) (status : ℕ)
    : Type 0 where
  pub result : Result Done Stop
  pub mid : SinkState
  pub does : Does command was now before mid result
  pub tells : Tells command result mid after status
  pub first : before.faults ≤ mid.faults
  pub last : mid.faults ≤ after.faults
