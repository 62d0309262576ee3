-- Texts that the program puts, and bytes as hex text.
use Rattle.std.specs.Prelude.{ℕ, List, [], ◌∷◌, ◌++◌, codes, decimal}
use Rattle.hex.specs.Hex.{encode_lower}
use Rattle.nor_image.specs.declared.error.ImageError.{ImageError}
use Rattle.nor_image.specs.declared.error.ImageError.TheVariants.{BadMagic, BadHeader, Truncated, Trailing, SizeDiffers, NoMemory}
use Rattle.nor_probe.specs.declared.error.ProbeError.{ProbeError}
use Rattle.nor_probe.specs.declared.error.ProbeError.TheVariants.{NoAnswer, LaneDiffers, Query, Off}
use Rattle.nor_script.specs.declared.error.LineKind.{LineKind}
use Rattle.nor_script.specs.declared.error.LineKind.TheVariants.{Bytes, Word, Count, Number, Hex, NotHere}
use Rattle.nor_script.specs.declared.error.ScriptError.{ScriptError}
use Rattle.nor_script.specs.declared.error.ScriptError.TheVariants.{BadLine, BadCaller, TooManyLines, NoMemory as NoScriptMemory}
use Rattle.nor_show.specs.Refusals.{query_text, difference_text}
use Rattle.norbank.specs.declared.stop.File.{File}
use Rattle.norbank.specs.declared.stop.File.TheVariants.{Bank, Script}

-- a line of lower-case hex text, a dash for no bytes
abbrev pub hex_line : List ℕ → List ℕ
hex_line [] = codes "-\n"
hex_line (byte ∷ bytes) = encode_lower (byte ∷ bytes) ++ codes "\n"

abbrev pub usage : List ℕ
usage = codes "usage: norbank read IMAGE ADDR LEN, show IMAGE, run IMAGE SCRIPT, race IMAGE SCRIPT, drill N\n"

abbrev pub no_memory : List ℕ
no_memory = codes "no memory\n"

abbrev pub out_of_range : List ℕ
out_of_range = codes "out of range\n"

-- a text with something behind it, and a newline
abbrev pub line_of : List ℕ → List ℕ → List ℕ
line_of head tail = head ++ tail ++ codes "\n"

abbrev pub absent : List ℕ → List ℕ
absent name = line_of (codes "absent ") name

abbrev pub read_fault : List ℕ → List ℕ
read_fault name = line_of (codes "read fault ") name

abbrev pub write_fault : List ℕ → List ℕ
write_fault name = line_of (codes "write fault ") name

abbrev pub too_large : File → List ℕ
too_large Bank = codes "image: too large\n"
too_large Script = codes "script: too large\n"

-- why a file is no bank's
abbrev pub image_text : ImageError → List ℕ
image_text BadMagic = codes "image: bad magic\n"
image_text (BadHeader at) = line_of (codes "image: bad header at ") (decimal at)
image_text (Truncated at) = line_of (codes "image: truncated at ") (decimal at)
image_text (Trailing at) = line_of (codes "image: trailing at ") (decimal at)
image_text (SizeDiffers lane) = line_of (codes "image: size differs in lane ") (decimal lane)
image_text NoMemory = no_memory

-- what is wrong with a line of a script
abbrev pub kind_text : LineKind → List ℕ
kind_text Bytes = codes "bytes"
kind_text Word = codes "word"
kind_text Count = codes "count"
kind_text Number = codes "number"
kind_text Hex = codes "hex"
kind_text NotHere = codes "not here"

abbrev pub bad_line : ℕ → List ℕ → List ℕ
bad_line line kind = codes "script: line " ++ decimal line ++ line_of (codes ": ") kind

-- why a text is no script
abbrev pub script_text : ScriptError → List ℕ
script_text (BadLine line kind) = bad_line line (kind_text kind)
script_text (BadCaller line) = bad_line line (codes "caller")
script_text TooManyLines = codes "script: too many lines\n"
script_text NoScriptMemory = no_memory

-- why probing refuses a bank
abbrev pub reason_text : ProbeError → List ℕ
reason_text NoAnswer = codes "no answer"
reason_text (LaneDiffers lane offset left right) = difference_text lane offset left right
reason_text (Query error) = query_text error
reason_text Off = []

abbrev pub probe_text : ProbeError → List ℕ
probe_text error = line_of (codes "probe: ") (reason_text error)
