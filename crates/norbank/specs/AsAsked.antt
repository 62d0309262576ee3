-- How each command ends, read off its status.
use Rattle.std.specs.Prelude.{◌≡◌, ◌≢◌, ◌⊎◌, ℕ, List, Bool, Some, None, Ok}
use Rattle.nor_drill.specs.Drilled.{Drills}
use Rattle.nor_io.specs.Files.{ShelfState, SinkState, FileMap, Rose}
use Rattle.norbank.specs.Does.{Ends}
use Rattle.norbank.specs.Done.{PrintsImage, ShowsImage, RanImage, MayHaltImage, IsRun}
use Rattle.norbank.specs.Endings.{Says, status_of, all_done, bank_halted, fault_told, lacks_memory}
use Rattle.norbank.specs.Parts.{PutsPart}
use Rattle.norbank.specs.Stops.{stop_of}
use Rattle.norbank.specs.Text.{usage}
use Rattle.norbank.specs.Words.{Asked, Read, Show, Script, Drill, Unknown, name_of}
use Rattle.norbank.specs.declared.stop.File.TheVariants.{Bank, Script as ScriptFile}
use Rattle.norbank.specs.declared.stop.Stop.TheVariants.{Usage}

abbrev pub IsScript : Asked → Type 0
IsScript (Script race image name) = Unit {0}
IsScript _ = ⊥

-- only a script's bank halts
abbrev pub EndsDone : Asked → ℕ → Type 0
EndsDone command status = (status ≡ all_done) ⊎ ((status ≡ bank_halted) × IsScript command)

-- All was done, or a count of faults rose, or memory ran out.
abbrev pub IsDone : Asked → (was now : ShelfState) → (before after : SinkState) → ℕ → Type 0
IsDone command was now before after status =
    EndsDone command status
    ⊎ (((status ≡ fault_told) × (Rose was.faults now.faults ⊎ Rose before.faults after.faults))
    ⊎ (status ≡ lacks_memory))

-- The command ends as it is asked for, each status with its text. Status 0 means that all was done,
-- and 6 that the bank halted in it. Where nothing is wrong all is done, unless a fault or want of
-- memory comes between. Status 7 comes only where a count of faults rose. Where it wasn't done, the
-- sink has taken a first part of what would have been put, and why it wasn't. Only a script changes
-- files, and only with status 0 or 6.
pub record EndsAsAsked (command : Asked) (was now : ShelfState) (before after : SinkState)
    (status : ℕ) : Type 0 where
  pub ends : Ends command was now before after status
  pub usage : command ≡ Unknown → Says (status_of Usage) usage before after status
  pub printed : (image : List ℕ) (at len : ℕ) → command ≡ Read image at len → status ≡ all_done
      → PrintsImage was.files image at len before after
  pub shown : (image : List ℕ) → command ≡ Show image → status ≡ all_done
      → ShowsImage was.files image before after
  pub drilled : (n : ℕ) → command ≡ Drill n → status ≡ all_done → Drills n before after (Ok tt)
  pub ran : (race : Bool) (image name : List ℕ) → command ≡ Script race image name → IsRun status
      → RanImage race image name was now before after status
  pub halted : (race : Bool) (image name : List ℕ) → command ≡ Script race image name
      → status ≡ bank_halted
      → MayHaltImage race image name was.files
  pub part : status ≢ all_done → status ≢ bank_halted
      → PutsPart command was.files before after status
  pub complete : (files : FileMap) → was.files ≡ Some files
      → stop_of command (files (name_of command Bank)) (files (name_of command ScriptFile)) ≡ None
      → IsDone command was now before after status
  pub fault : status ≡ fault_told → Rose was.faults now.faults ⊎ Rose before.faults after.faults
  pub kept : status ≢ all_done → status ≢ bank_halted → now.files ≡ was.files
  pub same : (IsScript command → ⊥) → now.files ≡ was.files
