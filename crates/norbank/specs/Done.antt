-- What a command that was done has printed and saved.
use Rattle.std.specs.Prelude.{◌≡◌, ◌≤◌, ◌+◌, ◌⊎◌, ℕ, List, Bool, Option, Some, None, Ok}
use Rattle.nor_bus.specs.Bus.{bank_bytes, bank_size}
use Rattle.nor_bus.specs.Driven.{AllLanes}
use Rattle.nor_image.specs.Image.{image_refusal, device_of, width_of}
use Rattle.nor_io.specs.Files.{ShelfState, SinkState, FileMap, Appends, Saves}
use Rattle.nor_probe.specs.Probed.{refusal, IsFoundOn}
use Rattle.nor_probe.specs.declared.probing.Found.{Found}
use Rattle.nor_run.specs.Causes.{MayHalt}
use Rattle.nor_run.specs.Scripts.{IsRunnable, RunsImage, HasLetters}
use Rattle.nor_run.specs.declared.lines.Ran.{Ran}
use Rattle.nor_script.specs.Script.{script_of}
use Rattle.nor_script.specs.declared.line.Line.{Line}
use Rattle.norbank.specs.Does.{IsFound, IsCaused, found_lines, bus_in}
use Rattle.norbank.specs.Endings.{done_status, done_of, all_done, bank_halted}
use Rattle.norbank.specs.Stops.{stop_of, chips_of_file}
use Rattle.norbank.specs.Text.{hex_line}
use Rattle.norbank.specs.Words.{Script}

-- The file stands for a bank, which probing accepts.
pub record IsAccepted (file : List ℕ) : Type 0 where
  pub formed : image_refusal file ≡ None
  pub accepted : refusal (width_of file) (chips_of_file file) ≡ None

-- The file under a name stands for a bank that probing accepts, and its bytes were printed.
pub record PrintsImage (told : Option FileMap) (name : List ℕ) (at len : ℕ)
    (before after : SinkState) : Type 0 where
  pub file : List ℕ
  pub is_found : IsFound told name (Some file)
  pub accepted : IsAccepted file
  pub within : at + len ≤ bank_size (chips_of_file file)
  pub text : Appends before.taken
      (hex_line (bank_bytes (device_of file) (chips_of_file file) at len)) after.taken

-- The same, and it was printed what the bank is.
pub record ShowsImage (told : Option FileMap) (name : List ℕ) (before after : SinkState)
    : Type 0 where
  pub file : List ℕ
  pub is_found : IsFound told name (Some file)
  pub accepted : IsAccepted file
  pub found : Found
  pub is : IsFoundOn (width_of file) (chips_of_file file) found
  pub text : Appends before.taken (found_lines (width_of file) found) after.taken

-- The script under one name was run on the bank of the file under the other, in which nothing is
-- wrong. The sink has taken the report of entries that answer the script, and the bank was saved
-- under its name. Where the bank's tables begin with `QRY`, the entries are a legal history from
-- the opening array, the bank stands for the array after it, whose bytes its cells are outside what
-- is under erase, and it halted only by what may halt it.
pub record RanImage (race : Bool) (name script_name : List ℕ) (was now : ShelfState)
    (before after : SinkState) (status : ℕ) : Type 0 where
  pub file : List ℕ
  pub is_file : IsFound was.files name (Some file)
  pub text : List ℕ
  pub is_text : IsFound was.files script_name (Some text)
  pub free : stop_of (Script race name script_name) (Some file) (Some text) ≡ None
  pub accepted : IsAccepted file
  pub lines : List Line
  pub is_script : script_of race text ≡ Ok lines
  pub runnable : IsRunnable (width_of file) (chips_of_file file)
  pub ran : Ran
  pub saved : List ℕ
  pub code : status ≡ done_status (done_of ran.halted)
  pub runs : RunsImage race (width_of file) lines (bus_in file) before after ran saved
  pub caused : IsCaused lines (bus_in file) ran
  pub saves : Saves was.files name saved now.files

-- The script under one name has lines that may halt the bank of the file under the other, or one of
-- its chips never ends its work; or not all of its tables begin with `QRY`.
pub record MayHaltImage (race : Bool) (name script_name : List ℕ) (told : Option FileMap)
    : Type 0 where
  pub file : List ℕ
  pub is_file : IsFound told name (Some file)
  pub text : List ℕ
  pub is_text : IsFound told script_name (Some text)
  pub lines : List Line
  pub is_script : script_of race text ≡ Ok lines
  pub cause : AllLanes HasLetters (bus_in file) → MayHalt lines (chips_of_file file)

-- all was done, and the bank halted in it or not
abbrev pub IsRun : ℕ → Type 0
IsRun status = (status ≡ all_done) ⊎ (status ≡ bank_halted)
