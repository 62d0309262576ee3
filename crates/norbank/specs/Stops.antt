-- What stops a command, in the order of its work, by its words and the bytes of the files that they
-- name.
use Rattle.std.specs.Prelude.{◌^◌, ◌+◌, ℕ, List, [], ◌∷◌, ◌++◌, zero, suc, length, Bool, if◌then◌else◌, nat_lt, Option, Some, None, Result, Ok, Err}
use Rattle.std.specs.Option.{option_map}
use Rattle.nor_cell.specs.Chip.{ChipState}
use Rattle.nor_bus.specs.Bus.{bank_size}
use Rattle.nor_probe.specs.Probed.{refusal}
use Rattle.nor_image.specs.Image.{image_refusal, width_of, lanes_of_file, chip_of_lane}
use Rattle.nor_script.specs.Script.{script_of}
use Rattle.nor_script.specs.declared.error.ScriptError.{ScriptError}
use Rattle.nor_script.specs.declared.line.Line.{Line}
use Rattle.norbank.specs.Words.{Asked, Read, Show, Script, Drill, Unknown}
use Rattle.norbank.specs.declared.stop.File.{File}
use Rattle.norbank.specs.declared.stop.File.TheVariants.{Bank, Script as ScriptFile}
use Rattle.norbank.specs.declared.stop.Stop.{Stop}
use Rattle.norbank.specs.declared.stop.Stop.TheVariants.{Usage, BadImage, BadScript, Unfound, Absent, TooLarge, OutOfRange}

-- ---- the bank of a file

-- the chips of the first n lanes of a file
abbrev pub chips_before : List ℕ → ℕ → List ChipState
chips_before file zero = []
chips_before file (suc n) = chips_before file n ++ chip_of_lane file n ∷ []

abbrev pub chips_of_file : List ℕ → List ChipState
chips_of_file file = chips_before file (lanes_of_file file)

-- ---- each thing that may stop a command

abbrev pub when : Bool → Stop → Option Stop
when holds stop = if holds then Some stop else None

-- by what the shelf has under a name
abbrev pub file_stop : File → Option (List ℕ) → Option Stop
file_stop which None = Some (Absent which)
file_stop which (Some bytes) = when (nat_lt (2 ^ 30) (length bytes)) (TooLarge which)

abbrev pub image_stop : List ℕ → Option Stop
image_stop file = option_map BadImage (image_refusal file)

-- by what a text says
abbrev pub text_stop : Result (List Line) ScriptError → Option Stop
text_stop (Ok lines) = None
text_stop (Err error) = Some (BadScript error)

abbrev pub probe_stop : ℕ → List ChipState → Option Stop
probe_stop width chips = option_map Unfound (refusal width chips)

abbrev pub range_stop : List ChipState → ℕ → ℕ → Option Stop
range_stop chips at len = when (nat_lt (bank_size chips) (at + len)) OutOfRange

-- ---- the order of work

-- the first of these, if there is one
abbrev pub first_some : List (Option Stop) → Option Stop
first_some [] = None
first_some (None ∷ later) = first_some later
first_some (Some stop ∷ later) = Some stop

-- the bytes under a name: none, where there is no file
abbrev pub bytes_in : Option (List ℕ) → List ℕ
bytes_in None = []
bytes_in (Some bytes) = bytes

-- The order of work of a command: the first of these that there is stops it.
abbrev pub stops_of : Asked → (bank script : Option (List ℕ)) → List (Option Stop)
stops_of (Read image at len) bank script =
    file_stop Bank bank
    ∷ image_stop (bytes_in bank)
    ∷ probe_stop (width_of (bytes_in bank)) (chips_of_file (bytes_in bank))
    ∷ range_stop (chips_of_file (bytes_in bank)) at len
    ∷ []
stops_of (Show image) bank script =
    file_stop Bank bank
    ∷ image_stop (bytes_in bank)
    ∷ probe_stop (width_of (bytes_in bank)) (chips_of_file (bytes_in bank))
    ∷ []
stops_of (Script race image name) bank script =
    file_stop Bank bank
    ∷ file_stop ScriptFile script
    ∷ image_stop (bytes_in bank)
    ∷ text_stop (script_of race (bytes_in script))
    ∷ probe_stop (width_of (bytes_in bank)) (chips_of_file (bytes_in bank))
    ∷ []
stops_of (Drill n) bank script = []
stops_of Unknown bank script = Some Usage ∷ []

abbrev pub stop_of : Asked → (bank script : Option (List ℕ)) → Option Stop
stop_of command bank script = first_some (stops_of command bank script)
