-- How a command ends: the status and the text of what stopped it, or the status of what was done.
use Rattle.std.specs.Prelude.{◌≡◌, ◌⊎◌, ℕ, List, [], Bool, true, false, Result, Ok, Err}
use Rattle.nor_drill.specs.declared.drilled.DrillError.{DrillError}
use Rattle.nor_drill.specs.declared.drilled.DrillError.TheVariants.{NoMemory as NoDrillMemory, Put as PutSummary}
use Rattle.nor_image.specs.declared.error.ImageError.TheVariants.{NoMemory as NoImageMemory}
use Rattle.nor_io.specs.Files.{SinkState, Rose, Appends, AppendsPart}
use Rattle.nor_io.specs.declared.shelf.LoadError.{LoadError}
use Rattle.nor_io.specs.declared.shelf.LoadError.TheVariants.{Absent as NoFile, ReadFault as LoadFault, TooLarge as LargeFile, NoMemory as NoLoadMemory}
use Rattle.nor_io.specs.declared.shelf.SaveError.{SaveError}
use Rattle.nor_io.specs.declared.shelf.SaveError.TheVariants.{WriteFault as SaveFault, NoMemory as NoSaveMemory}
use Rattle.nor_io.specs.declared.sink.SinkError.TheVariants.{Fault, NoMemory as NoSinkMemory}
use Rattle.nor_run.specs.declared.error.RunError.{RunError}
use Rattle.nor_run.specs.declared.error.RunError.TheVariants.{Probe, NoMemory as NoRunMemory, Put}
use Rattle.nor_script.specs.declared.error.ScriptError.TheVariants.{NoMemory as NoScriptMemory}
use Rattle.norbank.specs.Text.{usage, no_memory, out_of_range, absent, read_fault, write_fault, too_large, image_text, script_text, probe_text}
use Rattle.norbank.specs.Words.{Asked, name_of}
use Rattle.norbank.specs.declared.stop.Done.{Done}
use Rattle.norbank.specs.declared.stop.Done.TheVariants.{All, Halted}
use Rattle.norbank.specs.declared.stop.File.{File}
use Rattle.norbank.specs.declared.stop.File.TheVariants.{Bank, Script}
use Rattle.norbank.specs.declared.stop.Stop.{Stop}
use Rattle.norbank.specs.declared.stop.Stop.TheVariants.{Usage, BadImage, BadScript, Unfound, Absent, TooLarge, ReadFault, WriteFault, OutOfRange, NoMemory, Output}

-- ---- the table

-- the status of what was done
abbrev pub done_status : Done → ℕ
done_status All = 0
done_status Halted = 6

-- the status of what stops a command
abbrev pub status_of : Stop → ℕ
status_of Usage = 2
status_of (BadImage NoImageMemory) = 9
status_of (BadImage error) = 3
status_of (BadScript NoScriptMemory) = 9
status_of (BadScript error) = 4
status_of (Unfound error) = 5
status_of (Absent file) = 8
status_of (TooLarge Bank) = 3
status_of (TooLarge Script) = 4
status_of (ReadFault file) = 7
status_of WriteFault = 7
status_of OutOfRange = 10
status_of NoMemory = 9
status_of (Output Fault) = 7
status_of (Output NoSinkMemory) = 9

-- those that are spoken of by themselves
abbrev pub all_done : ℕ
all_done = done_status All

abbrev pub bank_halted : ℕ
bank_halted = done_status Halted

abbrev pub fault_told : ℕ
fault_told = status_of (Output Fault)

abbrev pub lacks_memory : ℕ
lacks_memory = status_of NoMemory

-- its text
abbrev pub text_of : Asked → Stop → List ℕ
text_of command Usage = usage
text_of command (BadImage error) = image_text error
text_of command (BadScript error) = script_text error
text_of command (Unfound error) = probe_text error
text_of command (Absent file) = absent (name_of command file)
text_of command (TooLarge file) = too_large file
text_of command (ReadFault file) = read_fault (name_of command file)
text_of command WriteFault = write_fault (name_of command Bank)
text_of command OutOfRange = out_of_range
text_of command NoMemory = no_memory
text_of command (Output error) = []

-- ---- what stops a command where a call fails

abbrev pub file_failure : File → LoadError → Stop
file_failure file NoFile = Absent file
file_failure file LoadFault = ReadFault file
file_failure file LargeFile = TooLarge file
file_failure file NoLoadMemory = NoMemory

abbrev pub save_failure : SaveError → Stop
save_failure SaveFault = WriteFault
save_failure NoSaveMemory = NoMemory

abbrev pub run_failure : RunError → Stop
run_failure (Probe error) = Unfound error
run_failure NoRunMemory = NoMemory
run_failure (Put error) = Output error

abbrev pub drill_failure : DrillError → Stop
drill_failure NoDrillMemory = NoMemory
drill_failure (PutSummary error) = Output error

-- what was done where a script was run
abbrev pub done_of : Bool → Done
done_of true = Halted
done_of false = All

-- ---- the last text

-- A text was put with a status; or the output failed, which its count tells, or lacked memory, and
-- then a first part was.
abbrev pub Says : ℕ → List ℕ → (before after : SinkState) → ℕ → Type 0
Says code text before after status =
    ((status ≡ code) × Appends before.taken text after.taken)
    ⊎ (((status ≡ fault_told) × Rose before.faults after.faults
    × AppendsPart before.taken text after.taken)
    ⊎ ((status ≡ lacks_memory) × AppendsPart before.taken text after.taken))

-- only why a bank isn't found takes memory to tell
abbrev pub TakesMemory : Stop → Type 0
TakesMemory (Unfound error) = Unit {0}
TakesMemory _ = ⊥

-- What stopped the command was told, or want of memory in its place. Where all was done nothing
-- more was put.
abbrev pub Tells : Asked → Result Done Stop → (before after : SinkState) → ℕ → Type 0
Tells command (Ok done) before after status = (status ≡ done_status done) × (after ≡ before)
Tells command (Err stop) before after status =
    Says (status_of stop) (text_of command stop) before after status
    ⊎ (TakesMemory stop × Says lacks_memory no_memory before after status)
