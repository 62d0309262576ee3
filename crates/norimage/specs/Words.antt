-- The words of a command.
use Rattle.std.specs.Prelude.{ℕ, zero, suc, ◌==◌, ◌&&◌, nat_lt, Bool, if◌then◌else◌, List, [], ◌∷◌, drop, length, string_bytes, String, Option, Some, None, codes}
use Rattle.std.specs.Str.{bytes_eq}
use Rattle.std.specs.declared.alloc.Global.{Global}
use Rattle.nor_cell.specs.declared.device.Device.{Device}
use Rattle.nor_cell.specs.declared.device.Device.TheVariants.{X8, X16, X16Byte}
use Rattle.nor_script.specs.Numbers.{number_of}
use Rattle.norimage.specs.declared.stop.File.{File}
use Rattle.norimage.specs.declared.stop.File.TheVariants.{Image, Table as TableFile, Raw as RawFile}
use Rattle.norimage.specs.declared.words.Command.{Command}
use Rattle.norimage.specs.declared.words.Command.TheVariants.{Make as MakeImage, Raw as TakeRaw, Table as TakeTable, Draw as DrawBank, Unknown as NoForm}

-- What the words ask for: the image of a bank, made of a table and a dump; the bytes of a bank; the query table of a lane; a drawing.
-- Names are bytes.
pub data Asked : Type 0 where
  Make : (out : List ℕ) (width : ℕ) (device : Device) (lanes : ℕ) (table raw : List ℕ) (options : List (String Global)) → Asked
  Raw : (image out : List ℕ) → Asked
  Table : (image : List ℕ) (lane : ℕ) (out : List ℕ) → Asked
  Draw : (image out : List ℕ) → Asked
  Unknown : Asked

-- what a command of the program asks for
abbrev pub asked_by : Command → Asked
asked_by (MakeImage out width device lanes table raw options) = Make out.now width device lanes table.now raw.now options.now
asked_by (TakeRaw image out) = Raw image.now out.now
asked_by (TakeTable image lane out) = Table image.now lane out.now
asked_by (DrawBank image out) = Draw image.now out.now
asked_by NoForm = Unknown

-- the name of one of the files that it reads; empty where it has none
abbrev pub name_of : Asked → File → List ℕ
name_of (Make out width device lanes table raw options) Image = []
name_of (Make out width device lanes table raw options) TableFile = table
name_of (Make out width device lanes table raw options) RawFile = raw
name_of (Raw image out) Image = image
name_of (Raw image out) TableFile = []
name_of (Raw image out) RawFile = []
name_of (Table image lane out) Image = image
name_of (Table image lane out) TableFile = []
name_of (Table image lane out) RawFile = []
name_of (Draw image out) Image = image
name_of (Draw image out) TableFile = []
name_of (Draw image out) RawFile = []
name_of Unknown file = []

-- the name of the file that it writes
abbrev pub out_of : Asked → List ℕ
out_of (Make out width device lanes table raw options) = out
out_of (Raw image out) = out
out_of (Table image lane out) = out
out_of (Draw image out) = out
out_of Unknown = []

-- the text of a word
abbrev pub word_at : List (String Global) → ℕ → List ℕ
word_at [] k = []
word_at (word ∷ words) zero = string_bytes word
word_at (word ∷ words) (suc k) = word_at words k

-- a number of one byte
abbrev pub byte_in : Option ℕ → Option ℕ
byte_in None = None
byte_in (Some n) = if nat_lt n 256 then Some n else None

abbrev pub byte_of : List ℕ → Option ℕ
byte_of text = byte_in (number_of text)

abbrev pub device_of : List ℕ → Option Device
device_of text =
    if bytes_eq text (codes "x8") then Some X8
    else if bytes_eq text (codes "x16") then Some X16
    else if bytes_eq text (codes "x16-byte") then Some X16Byte
    else None

-- so many words, the first of them this one
abbrev pub is_form : List (String Global) → ℕ → List ℕ → Bool
is_form words count verb = (length words == count) && bytes_eq (word_at words 0) verb

abbrev pub made_of : List (String Global) → Option ℕ → Option Device → Option ℕ → Asked
made_of words None device lanes = Unknown
made_of words (Some width) None lanes = Unknown
made_of words (Some width) (Some device) None = Unknown
made_of words (Some width) (Some device) (Some lanes) =
    Make (word_at words 1) width device lanes (word_at words 5) (word_at words 6) (drop 7 words)

abbrev pub make_of : List (String Global) → Asked
make_of words = made_of words (byte_of (word_at words 2)) (device_of (word_at words 3)) (byte_of (word_at words 4))

abbrev pub table_of : List ℕ → Option ℕ → List ℕ → Asked
table_of image None out = Unknown
table_of image (Some lane) out = Table image lane out

-- what the words ask for
abbrev pub asked : List (String Global) → Asked
asked words =
    if nat_lt 6 (length words) && bytes_eq (word_at words 0) (codes "make") then make_of words
    else if is_form words 3 (codes "raw") then Raw (word_at words 1) (word_at words 2)
    else if is_form words 4 (codes "table") then table_of (word_at words 1) (byte_of (word_at words 2)) (word_at words 3)
    else if is_form words 3 (codes "draw") then Draw (word_at words 1) (word_at words 2)
    else Unknown
