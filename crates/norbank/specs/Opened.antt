-- Files that were loaded, and banks that were made of them; or why not.
use Rattle.std.specs.Prelude.{◌≡◌, ◌≤◌, ◌⊎◌, ◌^◌, ℕ, List, [], ◌∷◌, length, Bool, true, Option, Some, None, Result, Ok, Err}
use Rattle.nor_cell.specs.Chip.{ChipState}
use Rattle.nor_cell.specs.declared.device.Device.{Device}
use Rattle.nor_bus.specs.Bus.{BusState, IsBank, bank_bytes}
use Rattle.nor_bus.specs.Driven.{AllLanes}
use Rattle.nor_image.specs.Image.{IsImageOf, device_of}
use Rattle.nor_image.specs.Loaded.{bus_of, loaded_width, IsFreshBus}
use Rattle.nor_image.specs.declared.loaded.Loaded.{Loaded}
use Rattle.nor_io.specs.Files.{ShelfState, SinkState, FileMap, Rose}
use Rattle.nor_io.specs.Puts.{PutsText}
use Rattle.nor_io.specs.declared.sink.SinkError.{SinkError}
use Rattle.nor_probe.specs.Probed.{IsFoundOn}
use Rattle.nor_probe.specs.declared.probing.Found.{Found}
use Rattle.nor_run.specs.Running.{Untouched}
use Rattle.nor_run.specs.Scripts.{IsLoaded, HasRoom, EndsRun, ReportsImage}
use Rattle.nor_run.specs.declared.error.RunError.{RunError}
use Rattle.nor_run.specs.declared.lines.Ran.{Ran}
use Rattle.nor_script.specs.Racing.{IsRaceScript}
use Rattle.nor_script.specs.Script.{IsScript, script_of}
use Rattle.nor_script.specs.declared.line.Line.{Line}
use Rattle.norbank.specs.Does.{IsFound, Names, FailsRead, IsWant, IsCaused, Saved, of_put, found_lines}
use Rattle.norbank.specs.Endings.{run_failure}
use Rattle.norbank.specs.Open.{IsIdleChip}
use Rattle.norbank.specs.Stops.{file_stop, image_stop, probe_stop, range_stop, first_some, bytes_in, stop_of}
use Rattle.norbank.specs.Text.{hex_line}
use Rattle.norbank.specs.Words.{Asked, Script}
use Rattle.norbank.specs.declared.jobs.Job.{Job}
use Rattle.norbank.specs.declared.stop.Done.{Done}
use Rattle.norbank.specs.declared.stop.File.{File}
use Rattle.norbank.specs.declared.stop.File.TheVariants.{Bank}
use Rattle.norbank.specs.declared.stop.Stop.{Stop}
use Rattle.norbank.specs.declared.stop.Stop.TheVariants.{ReadFault, NoMemory}

-- The file is under the name, and isn't too large.
pub record IsLoadedAs (told : Option FileMap) (name file : List ℕ) : Type 0 where
  pub is_found : IsFound told name (Some file)
  pub few : length file ≤ 2 ^ 30

-- It wasn't loaded: the shelf hasn't got it so, or couldn't read it, or memory ran out.
pub record FailsLoad (which : File) (name : List ℕ) (was now : ShelfState) (stop : Stop)
    : Type 0 where
  pub found : Option (List ℕ)
  pub is_found : IsFound was.files name found
  pub cause : (file_stop which found ≡ Some stop)
      ⊎ (((stop ≡ ReadFault which) × Rose was.faults now.faults) ⊎ (stop ≡ NoMemory))

-- The bank is that of the file, just powered on.
pub record IsBankOf (file : List ℕ) (loaded : Loaded) : Type 0 where
  pub image : IsImageOf file (loaded_width loaded) (bus_of loaded).lanes
  pub fresh : IsFreshBus (bus_of loaded)
  pub wired : IsBank (loaded_width loaded) (device_of file) (bus_of loaded).lanes

-- No bank is made of the file: it says why, or memory ran out.
abbrev pub IsNoBank : List ℕ → Stop → Type 0
IsNoBank file stop = (image_stop file ≡ Some stop) ⊎ ((command : Asked) → IsWant command stop)

-- The bank was made of the file under the name.
pub record IsOpened (told : Option FileMap) (name : List ℕ) (loaded : Loaded) : Type 0 where
  pub file : List ℕ
  pub is_file : IsLoadedAs told name file
  pub is_bank : IsBankOf file loaded
  pub idle : AllLanes IsIdleChip (bus_of loaded)

-- what is wrong with a bank's file, in the order of work
abbrev pub opening_stops : Option (List ℕ) → List (Option Stop)
opening_stops bank = file_stop Bank bank ∷ image_stop (bytes_in bank) ∷ []

-- No bank was made of it.
pub record FailsOpen (name : List ℕ) (was now : ShelfState) (stop : Stop) : Type 0 where
  pub found : Option (List ℕ)
  pub is_found : IsFound was.files name found
  pub cause : (first_some (opening_stops found) ≡ Some stop)
      ⊎ (((stop ≡ ReadFault Bank) × Rose was.faults now.faults)
      ⊎ ((command : Asked) → IsWant command stop))

-- ---- what comes of a bank that was opened

-- it stops with the first of these, before anything was put
pub record StopsBy (stops : List (Option Stop)) (before after : SinkState)
    (result : Result Done Stop) : Type 0 where
  pub stop : Stop
  pub is : result ≡ Err stop
  pub first : first_some stops ≡ Some stop
  pub silent : Untouched before after

-- none of these is there, and the text was put
pub record PutsFree (stops : List (Option Stop)) (text : List ℕ) (before after : SinkState)
    (result : Result Done Stop) : Type 0 where
  pub free : first_some stops ≡ None
  pub put : Result (Unit {0}) SinkError
  pub puts : PutsText text before after put
  pub is : result ≡ of_put put

-- how a read of a bank of these chips ends
abbrev pub ReadEnds : ℕ → Device → List ChipState → (at len : ℕ) → (before after : SinkState)
    → Result Done Stop → Type 0
ReadEnds width device chips at len before after result =
    StopsBy (probe_stop width chips ∷ range_stop chips at len ∷ []) before after result
    ⊎ PutsFree (probe_stop width chips ∷ range_stop chips at len ∷ [])
    (hex_line (bank_bytes device chips at len)) before after result

-- Bytes of such a bank were read.
pub record ReadsBank (width : ℕ) (device : Device) (chips : List ChipState) (at len : ℕ)
    (before after : SinkState) (result : Result Done Stop) : Type 0 where
  pub is : ReadEnds width device chips at len before after result

-- memory ran out before anything was put
abbrev pub Lacks : (before after : SinkState) → Result Done Stop → Type 0
Lacks before after result = (result ≡ Err NoMemory) × Untouched before after

-- how it ends that a bank of these chips is shown
abbrev pub ShowEnds : ℕ → List ChipState → (before after : SinkState) → Result Done Stop → Type 0
ShowEnds width chips before after result =
    StopsBy (probe_stop width chips ∷ []) before after result
    ⊎ (Lacks before after result
    ⊎ ((found : Found) × IsFoundOn width chips found
    × PutsFree (probe_stop width chips ∷ []) (found_lines width found) before after result))

-- What such a bank is was shown.
pub record ShowsBank (width : ℕ) (chips : List ChipState) (before after : SinkState)
    (result : Result Done Stop) : Type 0 where
  pub is : ShowEnds width chips before after result

-- ---- the bank and the script that a run or a race begins with

-- The bank was just loaded from the file under one name, there is room for its file, and the lines
-- of the script are what the text under the other name says; those of a race may be raced.
pub record IsJob (race : Bool) (told : Option FileMap) (name script_name : List ℕ) (job : Job)
    : Type 0 where
  pub file : List ℕ
  pub is_file : IsLoadedAs told name file
  pub text : List ℕ
  pub is_text : IsLoadedAs told script_name text
  pub is_bank : IsBankOf file job.loaded
  pub is_script : script_of race text ≡ Ok job.script
  pub loaded : IsLoaded job.loaded
  pub room : HasRoom job.file.items job.loaded
  pub script : IsScript job.script
  pub raced : race ≡ true → IsRaceScript job.script

-- No run or race begins.
pub record FailsJob (race : Bool) (name script_name : List ℕ) (was now : ShelfState) (stop : Stop)
    : Type 0 where
  pub names : Names (Script race name script_name) was.files
  pub cause : (stop_of (Script race name script_name) names.bank names.script ≡ Some stop)
      ⊎ (FailsRead names.bank was now stop ⊎ IsWant (Script race name script_name) stop)

-- ---- a job that was run

-- The lines were run on the bank and the report put, and then the bank was to be saved.
pub record IsRunWhole (race : Bool) (width : ℕ) (lines : List Line) (bus : BusState) (name : List ℕ)
    (was now : ShelfState) (before after : SinkState) (result : Result Done Stop) : Type 0 where
  pub ran : Ran
  pub saved : List ℕ
  pub ends : EndsRun race width bus.lanes before after (Ok ran)
  pub reports : ReportsImage race width lines bus before after saved (Ok ran)
  pub caused : IsCaused lines bus ran
  pub saves : Saved name saved ran was now result

-- They weren't, or not to their end.
pub record IsRunShort (race : Bool) (width : ℕ) (lines : List Line) (bus : BusState)
    (was now : ShelfState) (before after : SinkState) (result : Result Done Stop) : Type 0 where
  pub error : RunError
  pub saved : List ℕ
  pub is : result ≡ Err (run_failure error)
  pub ends : EndsRun race width bus.lanes before after (Err error)
  pub reports : ReportsImage race width lines bus before after saved (Err error)
  pub kept : now.files ≡ was.files

abbrev pub RunsJob : (race : Bool) → ℕ → List Line → BusState → List ℕ
    → (was now : ShelfState) → (before after : SinkState) → Result Done Stop → Type 0
RunsJob race width lines bus name was now before after result =
    IsRunWhole race width lines bus name was now before after result
    ⊎ IsRunShort race width lines bus was now before after result
