-- What the sink has taken where a command wasn't done.
use Rattle.std.specs.Prelude.{◌≡◌, ◌⊎◌, ℕ, List, take, Bool, Option, Ok}
use Rattle.nor_bus.specs.Bus.{BusState, bank_bytes}
use Rattle.nor_array.specs.declared.entry.Entry.{Entry}
use Rattle.nor_drill.specs.Drilled.{IsSummary}
use Rattle.nor_image.specs.Image.{device_of, width_of}
use Rattle.nor_io.specs.Files.{SinkState, FileMap, AppendsPart}
use Rattle.nor_probe.specs.Probed.{IsFoundOn}
use Rattle.nor_probe.specs.declared.probing.Found.{Found}
use Rattle.nor_run.specs.Running.{IsCount, IsDue, Untouched, counters_of}
use Rattle.nor_run.specs.Scripts.{IsRunOf}
use Rattle.nor_script.specs.Script.{script_of}
use Rattle.nor_script.specs.declared.line.Line.{Line}
use Rattle.norbank.specs.Does.{Names, bus_in, found_lines}
use Rattle.norbank.specs.Endings.{Says, status_of, text_of}
use Rattle.norbank.specs.Stops.{bytes_in, chips_of_file}
use Rattle.norbank.specs.Text.{hex_line}
use Rattle.norbank.specs.Words.{Asked, Read, Show, Script, Drill, Unknown}
use Rattle.norbank.specs.declared.stop.Stop.{Stop}

-- The text is what there is to put of entries that answer the first lines of a script, in a race
-- all of them, on the bank of a file: the lines of these entries, or, where all lines were run, the
-- whole report.
pub record IsReport (race : Bool) (file script whole : List ℕ) : Type 0 where
  pub lines : List Line
  pub is_script : script_of race script ≡ Ok lines
  pub count : ℕ
  pub all : IsCount race lines count
  pub history : List Entry
  pub new : BusState
  pub runs : IsRunOf race (width_of file) (take count lines) (bus_in file) new history
  pub due : IsDue lines count history (counters_of new.lanes) whole

-- the text is what a command puts of a bank and a script, or of a number
abbrev pub IsOutput : Asked → (file script whole : List ℕ) → Type 0
IsOutput (Read image at len) file script whole =
    whole ≡ hex_line (bank_bytes (device_of file) (chips_of_file file) at len)
IsOutput (Show image) file script whole =
    (found : Found) × IsFoundOn (width_of file) (chips_of_file file) found
    × (whole ≡ found_lines (width_of file) found)
IsOutput (Script race image name) file script whole = IsReport race file script whole
IsOutput (Drill n) file script whole = IsSummary n whole
IsOutput Unknown file script whole = ⊥

-- a first part of what the command puts was put
pub record Begins (command : Asked) (file script : List ℕ) (before after : SinkState) : Type 0 where
  pub whole : List ℕ
  pub is : IsOutput command file script whole
  pub part : AppendsPart before.taken whole after.taken

-- Nothing was put of what the command puts, or a first part; and then why it wasn't done.
pub record PutsPart (command : Asked) (told : Option FileMap) (before after : SinkState)
    (status : ℕ) : Type 0 where
  pub names : Names command told
  pub mid : SinkState
  pub begun : Untouched before mid
      ⊎ Begins command (bytes_in names.bank) (bytes_in names.script) before mid
  pub stop : Stop
  pub ended : Says (status_of stop) (text_of command stop) mid after status
