-- What stops a command, in the order of its work, by its words and the bytes of the files that they name.
use Rattle.std.specs.Prelude.{◌^◌, ◌*◌, ◌==◌, ℕ, List, [], ◌∷◌, ◌++◌, length, Bool, not, if◌then◌else◌, nat_lt, is_none, Option, Some, None, replicate, codes}
use Rattle.std.specs.Option.{option_map}
use Rattle.std.specs.Str.{bytes_eq}
use Rattle.nor_cell.specs.Wiring.{is_wiring}
use Rattle.nor_cell.specs.declared.geometry.Geometry.{Geometry}
use Rattle.nor_dump.specs.Changes.{change_error}
use Rattle.nor_dump.specs.Made.{chip_size}
use Rattle.nor_dump.specs.Table.{table_of, table_error}
use Rattle.nor_dump.specs.declared.changes.Change.{Change}
use Rattle.nor_image.specs.Image.{image_refusal, lanes_of_file}
use Rattle.norimage.specs.Options.{changes_of}
use Rattle.norimage.specs.Words.{Asked, Make, Raw, Table, Draw, Unknown}
use Rattle.norimage.specs.declared.stop.File.{File}
use Rattle.norimage.specs.declared.stop.File.TheVariants.{Image, Table as TableFile, Raw as RawFile}
use Rattle.norimage.specs.declared.stop.Stop.{Stop}
use Rattle.norimage.specs.declared.stop.Stop.TheVariants.{Usage, BadWiring, BadImage, BadTable, BadChange, RawLength, NoLane, Absent, TooLarge}

-- ---- each thing that may stop a command

abbrev pub when : Bool → Stop → Option Stop
when holds stop = if holds then Some stop else None

-- by what the shelf has under a name
abbrev pub file_stop : File → Option (List ℕ) → Option Stop
file_stop which None = Some (Absent which)
file_stop which (Some bytes) = when (nat_lt (2 ^ 30) (length bytes)) (TooLarge which)

-- the bytes under a name: none, where there is no file
abbrev pub bytes_in : Option (List ℕ) → List ℕ
bytes_in None = []
bytes_in (Some bytes) = bytes

-- the changes that options ask for: none, where they are no options
abbrev pub changes_in : Option (List Change) → List Change
changes_in None = []
changes_in (Some changes) = changes

abbrev pub is_dash : List ℕ → Bool
is_dash name = bytes_eq name (codes "-")

-- the bytes of a dump: those under its name, or ones where that is a dash
abbrev pub dump_in : (name raw : List ℕ) → (bank : ℕ) → List ℕ
dump_in name raw bank = if is_dash name then replicate bank 255 else raw

-- by the dump: a file that isn't there or is too large, or has another length than the bank
abbrev pub raw_stops : List ℕ → Option (List ℕ) → (bank : ℕ) → List (Option Stop)
raw_stops name raw bank =
    if is_dash name then []
    else file_stop RawFile raw
    ∷ when (not (length (bytes_in raw) == bank)) (RawLength (length (bytes_in raw)) bank) ∷ []

-- ---- the order of work

-- the first of these, if there is one
abbrev pub first_some : List (Option Stop) → Option Stop
first_some [] = None
first_some (None ∷ later) = first_some later
first_some (Some stop ∷ later) = Some stop

abbrev pub image_stops : Option (List ℕ) → List (Option Stop) → List (Option Stop)
image_stops image later = file_stop Image image ∷ option_map BadImage (image_refusal (bytes_in image)) ∷ later

-- by the table: a file that isn't there or is too large, or that has no query table
abbrev pub table_stops : Option (List ℕ) → List (Option Stop)
table_stops table = file_stop TableFile table ∷ option_map BadTable (table_error (bytes_in table)) ∷ []

-- by the table, the changes of a bank of its chips, and the dump
abbrev pub bank_stops : Geometry → List Change → (raw_name : List ℕ) → (table raw : Option (List ℕ)) → List (Option Stop)
bank_stops g changes raw_name table raw =
    let size = chip_size (table_of (bytes_in table)) in
    table_stops table
    ++ option_map BadChange (change_error g size changes)
    ∷ raw_stops raw_name raw (g.lanes * size)

-- The order of work of a command, whose files have these bytes: the first of these that there is stops it. `make` reads
-- the table and then the dump, the others an image.
abbrev pub stops_of : Asked → (first second : Option (List ℕ)) → List (Option Stop)
stops_of (Make out width device lanes table_name raw_name options) table raw =
    when (is_none (changes_of options)) Usage
    ∷ when (not (is_wiring width lanes device)) BadWiring
    ∷ bank_stops (record { lanes = lanes; device = device }) (changes_in (changes_of options)) raw_name table raw
stops_of (Raw name out) image second = image_stops image []
stops_of (Table name lane out) image second =
    image_stops image (when (not (nat_lt lane (lanes_of_file (bytes_in image)))) NoLane ∷ [])
stops_of (Draw name out) image second = image_stops image []
stops_of Unknown first second = Some Usage ∷ []

abbrev pub stop_of : Asked → (first second : Option (List ℕ)) → Option Stop
stop_of command first second = first_some (stops_of command first second)
