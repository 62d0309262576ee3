-- The lines that tell what a bank is.
use Rattle.std.specs.Prelude.{◌+◌, ◌*◌, ◌/◌, ◌%◌, ◌^◌, ℕ, List, [], ◌∷◌, ◌++◌, length, Bool, true, false, codes, decimal}
use Rattle.std.specs.Fmt.{digits}
use Rattle.nor_cell.specs.Bits.{unit_len}
use Rattle.nor_cell.specs.Table.{buffer_units_of}
use Rattle.nor_cell.specs.declared.device.Device.{Device}
use Rattle.nor_cell.specs.declared.device.Device.TheVariants.{X8, X16, X16Byte}
use Rattle.nor_cell.specs.declared.device.Set.{Set}
use Rattle.nor_cell.specs.declared.device.Set.TheVariants.{Intel, Amd}
use Rattle.nor_cell.specs.declared.device.SuspendKind.{SuspendKind}
use Rattle.nor_cell.specs.declared.device.SuspendKind.TheVariants.{None, Read, Program}
use Rattle.nor_cell.specs.declared.device.Work.TheVariants.{Word, Buffer, Block}
use Rattle.nor_cell.specs.declared.geometry.Geometry.{Geometry}
use Rattle.nor_region.specs.Map.{spans_of}
use Rattle.nor_region.specs.Regions.{total_len}
use Rattle.nor_region.specs.declared.region.Region.{Region}
use Rattle.nor_query.specs.Derived.{suspend_of, locks_of, limit_of}
use Rattle.nor_query.specs.declared.query.Query.{Query}

-- a number in lower-case hex, without zeros in front
abbrev pub hex_number : ℕ → List ℕ
hex_number n = digits 16 false n

-- two digits, and four
abbrev pub hex_byte : ℕ → List ℕ
hex_byte n = hex_number (n / 16) ++ hex_number (n % 16)

abbrev pub hex_word : ℕ → List ℕ
hex_word n = hex_byte (n / 256) ++ hex_byte (n % 256)

abbrev pub device_name : Device → List ℕ
device_name X8 = codes "x8"
device_name X16 = codes "x16"
device_name X16Byte = codes "x16-byte"

-- a command set's identifier
abbrev pub set_name : Set → List ℕ
set_name Intel = codes "0001"
set_name Amd = codes "0002"

abbrev pub suspend_name : SuspendKind → List ℕ
suspend_name None = codes "none"
suspend_name Read = codes "read"
suspend_name Program = codes "program"

abbrev pub yes_or_no : Bool → List ℕ
yes_or_no true = codes "yes"
yes_or_no false = codes "no"

-- a word, what it says, and a newline
abbrev pub line : List ℕ → List ℕ → List ℕ
line word says = word ++ says ++ codes "\n"

-- how the chips are wired: the bus word's bytes, the lanes, the device
abbrev pub wiring_lines : ℕ → Geometry → List ℕ
wiring_lines width g =
    line (codes "width ") (decimal width)
    ++ line (codes "lanes ") (decimal g.lanes)
    ++ line (codes "device ") (device_name g.device)

-- the command set, the bytes of a chip, and those of the bank, which its map covers
abbrev pub size_lines : Query → List Region → List ℕ
size_lines q map =
    line (codes "set ") (set_name q.set)
    ++ line (codes "size ") (decimal (2 ^ q.size_log))
    ++ line (codes "bank ") (decimal (total_len map))

-- how many bytes a chip's write buffer has, as a driver uses it
abbrev pub buffer_len : Device → Query → ℕ
buffer_len device q = buffer_units_of device q.buffer_log * unit_len device

-- the interface, and the write buffer
abbrev pub buffer_lines : Device → Query → List ℕ
buffer_lines device q =
    line (codes "interface ") (decimal q.interface)
    ++ line (codes "buffer ") (decimal (buffer_len device q))

-- numbers with a space before each
abbrev pub spaced : List ℕ → List ℕ
spaced [] = []
spaced (n ∷ numbers) = codes " " ++ decimal n ++ spaced numbers

-- the exponents of the eight times
abbrev pub times_line : List ℕ → List ℕ
times_line times = line (codes "times") (spaced times)

-- the version of the extended table, and the alternate set with the address of its table
abbrev pub version_lines : Query → List ℕ
version_lines q =
    line (codes "version 1.") (decimal q.minor)
    ++ line (codes "alternate ") (hex_word q.alt_set ++ codes " " ++ hex_word q.alt_ext)

-- what may be done while an erase is suspended, and whether blocks can be locked
abbrev pub offer_lines : Query → List ℕ
offer_lines q =
    line (codes "suspend ") (suspend_name (suspend_of q.extended))
    ++ line (codes "locks ") (yes_or_no (locks_of q.extended))

-- the erase regions from a number on: how many blocks, of how many bytes
abbrev pub region_lines : ℕ → List Region → List ℕ
region_lines k [] = []
region_lines k (region ∷ regions) =
    line (codes "region") (spaced (k ∷ region.count ∷ region.size ∷ [])) ++ region_lines (k + 1) regions

-- how many blocks, and how often a status is read at most for a word, a buffer load and a block
abbrev pub limit_lines : Query → List Region → List ℕ
limit_lines q map =
    line (codes "blocks ") (decimal (length (spans_of map)))
    ++ line (codes "limits") (spaced (limit_of q.times Word ∷ limit_of q.times Buffer ∷ limit_of q.times Block ∷ []))

-- what else the query table says
abbrev pub query_lines : Device → Query → List ℕ
query_lines device q = buffer_lines device q ++ times_line q.times ++ version_lines q ++ offer_lines q

-- what a bank is: its wiring, its query table, and its map of erase regions
abbrev pub shown_lines : ℕ → Geometry → Query → List Region → List ℕ
shown_lines width g q map = wiring_lines width g ++ size_lines q map ++ query_lines g.device q
    ++ region_lines 0 map ++ limit_lines q map
