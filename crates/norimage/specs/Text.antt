-- Texts that the program puts.
use Rattle.std.specs.Prelude.{ℕ, List, ◌++◌, codes, decimal}
use Rattle.nor_dump.specs.declared.changes.ChangeError.{ChangeError}
use Rattle.nor_dump.specs.declared.changes.ChangeError.TheVariants.{BadPace, BadLane, BadWeak}
use Rattle.nor_dump.specs.declared.table.TableError.{TableError}
use Rattle.nor_dump.specs.declared.table.TableError.TheVariants.{Length, HighByte, Query}
use Rattle.nor_image.specs.declared.error.ImageError.{ImageError}
use Rattle.nor_image.specs.declared.error.ImageError.TheVariants.{BadMagic, BadHeader, Truncated, Trailing, SizeDiffers, NoMemory as NoImageMemory}
use Rattle.nor_show.specs.Refusals.{query_text}
use Rattle.norimage.specs.Words.{Asked, name_of, out_of}
use Rattle.norimage.specs.declared.stop.File.{File}
use Rattle.norimage.specs.declared.stop.File.TheVariants.{Image, Table, Raw}
use Rattle.norimage.specs.declared.stop.Stop.{Stop}
use Rattle.norimage.specs.declared.stop.Stop.TheVariants.{Usage, BadWiring, BadImage, BadTable, BadChange, RawLength, NoLane, Absent, TooLarge, ReadFault, WriteFault, NoMemory}

-- a text with something behind it, and a newline
abbrev pub line_of : List ℕ → List ℕ → List ℕ
line_of head tail = head ++ tail ++ codes "\n"

abbrev pub no_memory : List ℕ
no_memory = codes "no memory\n"

-- why a file is no bank's
abbrev pub image_text : ImageError → List ℕ
image_text BadMagic = codes "image: bad magic\n"
image_text (BadHeader at) = line_of (codes "image: bad header at ") (decimal at)
image_text (Truncated at) = line_of (codes "image: truncated at ") (decimal at)
image_text (Trailing at) = line_of (codes "image: trailing at ") (decimal at)
image_text (SizeDiffers lane) = line_of (codes "image: size differs in lane ") (decimal lane)
image_text NoImageMemory = no_memory

-- why a file has no query table
abbrev pub table_text : TableError → List ℕ
table_text (Length len) = codes "table: " ++ decimal len ++ codes " bytes\n"
table_text HighByte = codes "table: high byte\n"
table_text (Query error) = line_of (codes "table: ") (query_text error)

-- that a dump and a bank have so many bytes
abbrev pub length_text : (raw bank : ℕ) → List ℕ
length_text raw bank = codes "raw: " ++ decimal raw ++ codes " bytes, bank: " ++ decimal bank ++ codes " bytes\n"

abbrev pub change_text : ChangeError → List ℕ
change_text BadPace = codes "suspend pace: above 16\n"
change_text BadLane = codes "lane: not in the bank\n"
change_text BadWeak = codes "weak places: not ascending units of the chip\n"

abbrev pub too_large : File → List ℕ
too_large Image = codes "image: too large\n"
too_large Table = codes "table: too large\n"
too_large Raw = codes "raw: too large\n"

-- the text of what stops a command
abbrev pub text_of : Asked → Stop → List ℕ
text_of command Usage = codes "usage: norimage make OUT WIDTH DEVICE LANES TABLE RAW [--paces P E S] [--weak LANE PLACE] [--stuck LANE], raw IMAGE OUT, table IMAGE LANE OUT, draw IMAGE OUT\n"
text_of command BadWiring = codes "wiring: none of the nine\n"
text_of command (BadImage error) = image_text error
text_of command (BadTable error) = table_text error
text_of command (BadChange error) = change_text error
text_of command (RawLength raw bank) = length_text raw bank
text_of command NoLane = codes "lane: not in the bank\n"
text_of command (Absent file) = line_of (codes "absent ") (name_of command file)
text_of command (TooLarge file) = too_large file
text_of command (ReadFault file) = line_of (codes "read fault ") (name_of command file)
text_of command WriteFault = line_of (codes "write fault ") (out_of command)
text_of command NoMemory = no_memory
