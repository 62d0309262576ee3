-- The file of a bank: its fields in the order of reading, the first that is refused, and the chips of a well formed file.
use Rattle.std.specs.Prelude.{◌≡◌, ◌<◌, ◌+◌, ◌*◌, ◌%◌, ◌^◌, ℕ, zero, suc, List, [], ◌∷◌, ◌++◌, length, slice_index, slice_index_or, take, drop, codes, Bool, true, false, ◌==◌, ◌&&◌, ◌||◌, not, nat_eq, nat_lt, nat_le, if◌then◌else◌, Option, Some, None}
use Rattle.std.specs.List.{starts_with, list_all}
use Rattle.std.specs.Option.{option_or}
use Rattle.nor_cell.specs.Bits.{unit_len}
use Rattle.nor_cell.specs.Cells.{given_or_open}
use Rattle.nor_cell.specs.Chip.{ChipState, Part}
use Rattle.nor_cell.specs.Power.{powered}
use Rattle.nor_cell.specs.Ranges.{is_chip_size}
use Rattle.nor_cell.specs.Table.{field_8, has_locks, set_of}
use Rattle.nor_cell.specs.Wiring.{is_wiring}
use Rattle.nor_cell.specs.declared.device.Device.{Device}
use Rattle.nor_cell.specs.declared.device.Device.TheVariants.{X8, X16, X16Byte}
use Rattle.nor_cell.specs.declared.device.Set.{Set}
use Rattle.nor_bus.specs.Bus.{chip_at, no_chip}
use Rattle.nor_io.specs.Fields.{u16_at, u32_at}
use Rattle.nor_query.specs.Derived.{keeps_locks, table_blocks}
use Rattle.nor_image.specs.declared.error.ImageError.{ImageError}
use Rattle.nor_image.specs.declared.error.ImageError.TheVariants.{BadMagic, BadHeader, Truncated, Trailing, SizeDiffers, NoMemory}
use Rattle.nor_image.specs.declared.header.Version.{Version}
use Rattle.nor_image.specs.declared.header.Version.TheVariants.{One, Two}

-- ---- what the header says

abbrev pub magic_of : Version → List ℕ
magic_of One = codes "NORBANK1"
magic_of Two = codes "NORBANK2"

abbrev pub is_magic : List ℕ → Version → Bool
is_magic file version = starts_with nat_eq file (magic_of version)

abbrev pub version_of : List ℕ → Version
version_of file = if is_magic file Two then Two else One

abbrev pub width_of : List ℕ → ℕ
width_of file = slice_index file 8

abbrev pub device_of_code : ℕ → Device
device_of_code code = if code == 0 then X8 else if code == 1 then X16 else X16Byte

abbrev pub device_of : List ℕ → Device
device_of file = device_of_code (slice_index file 9)

abbrev pub lanes_of_file : List ℕ → ℕ
lanes_of_file file = slice_index file 10

-- ---- what the record of a lane says, by the place at which it begins

-- so many bytes from a place on
abbrev pub bytes_at : List ℕ → ℕ → ℕ → List ℕ
bytes_at file at n = take n (drop at file)

abbrev pub weak_count : List ℕ → ℕ → ℕ
weak_count file at = u16_at file (at + 10)

abbrev pub table_in : List ℕ → ℕ → List ℕ
table_in file at = bytes_at file (at + 20) 512

abbrev pub size_in : List ℕ → ℕ → ℕ
size_in file at = u32_at file (at + 532)

-- where number k of the weak places stands
abbrev pub weak_field_at : ℕ → ℕ → ℕ
weak_field_at at k = at + 536 + 4 * k

-- the first n weak places
abbrev pub weak_in : List ℕ → ℕ → ℕ → List ℕ
weak_in file at zero = []
weak_in file at (suc k) = weak_in file at k ++ u32_at file (weak_field_at at k) ∷ []

-- the set of all chips, by the table of lane 0
abbrev pub machine_of : List ℕ → Set
machine_of file = set_of (table_in file 12)

-- The locks that a chip keeps without power: all that it has, or none.
abbrev pub kept_locks : Set → List ℕ → List Bool → List Bool
kept_locks set table locks = if keeps_locks set (has_locks table) then locks else []

-- how many locks the record of a chip with this table stores: version 1 stores none
abbrev pub stored_count : Version → Set → List ℕ → ℕ
stored_count One set table = 0
stored_count Two set table = if keeps_locks set (has_locks table) then length (table_blocks table) else 0

-- how many bytes they take: in version 2 their number, and a byte for each
abbrev pub locks_len : Version → ℕ → ℕ
locks_len One count = 0
locks_len Two count = 4 + count

unfoldable pub lock_count : List ℕ → ℕ → ℕ
lock_count file at = stored_count (version_of file) (machine_of file) (table_in file at)

-- where they stand: behind the weak places
abbrev pub locks_at : List ℕ → ℕ → ℕ
locks_at file at = weak_field_at at (weak_count file at)

-- n locks, the first of which stands at a place
abbrev pub locks_from : List ℕ → ℕ → ℕ → List Bool
locks_from file at zero = []
locks_from file at (suc k) = locks_from file at k ++ (slice_index file (at + k) == 1) ∷ []

-- the locks of the chip: where none are stored, one for each block that isn't set
unfoldable pub locks_of : List ℕ → ℕ → List Bool
locks_of file at =
    given_or_open (locks_from file (locks_at file at + 4) (lock_count file at)) (length (table_blocks (table_in file at)))

abbrev pub cells_at : List ℕ → ℕ → ℕ
cells_at file at = locks_at file at + locks_len (version_of file) (lock_count file at)

abbrev pub record_end : List ℕ → ℕ → ℕ
record_end file at = cells_at file at + size_in file at

-- where lane c's record begins: the first behind the header, each later one behind the one before
abbrev pub record_place : List ℕ → ℕ → ℕ
record_place file zero = 12
record_place file (suc c) = record_end file (record_place file c)

-- the locks that the chip of a record keeps without power
abbrev pub kept_in : List ℕ → ℕ → List Bool
kept_in file at = kept_locks (machine_of file) (table_in file at) (locks_of file at)

-- those of the first n lanes
abbrev pub kept_before : List ℕ → ℕ → List (List Bool)
kept_before file zero = []
kept_before file (suc c) = kept_before file c ++ kept_in file (record_place file c) ∷ []

-- ---- fields, and the first refusal

-- A field of the file, and what its value is refused with, if it may not have that value.
pub record Field : Type 0 where
  pub at : ℕ
  pub size : ℕ
  pub bad : Option ImageError

-- a field that may have any value
abbrev pub any_field : ℕ → ℕ → Field
any_field at size = record { at = at; size = size; bad = None }

-- a field that may have its value or not
abbrev pub tested_field : ℕ → ℕ → Bool → Field
tested_field at size valid = record { at = at; size = size; bad = if valid then None else Some (BadHeader at) }

-- a number of one byte, or of two, that may be so much at most
abbrev pub byte_up_to_field : List ℕ → (at most : ℕ) → Field
byte_up_to_field file at most = tested_field at 1 (nat_le (slice_index file at) most)

abbrev pub u16_up_to_field : List ℕ → (at most : ℕ) → Field
u16_up_to_field file at most = tested_field at 2 (nat_le (u16_at file at) most)

-- a field that isn't whole goes before what it says
abbrev pub refusal_of : List ℕ → Field → Option ImageError
refusal_of file field = if nat_lt (length file) (field.at + field.size) then Some (Truncated (length file)) else field.bad

abbrev pub first_refusal : List ℕ → List Field → Option ImageError
first_refusal file [] = None
first_refusal file (field ∷ fields) = option_or (refusal_of file field) (first_refusal file fields)

-- ---- the fields of the header

abbrev pub magic_field : List ℕ → Field
magic_field file = record {
  at = 0;
  size = 8;
  bad = if is_magic file One || is_magic file Two then None else Some BadMagic;
}

abbrev pub is_width : ℕ → Bool
is_width n = n == 1 || n == 2 || n == 4 || n == 8

abbrev pub width_field : List ℕ → Field
width_field file = tested_field 8 1 (is_width (width_of file))

-- the lanes have to fill the width
abbrev pub lanes_field : List ℕ → Field
lanes_field file = tested_field 10 1 (is_wiring (width_of file) (lanes_of_file file) (device_of file))

-- the magic, the width, the device, the lanes, and a byte that is 0
abbrev pub header_fields : List ℕ → List Field
header_fields file =
    magic_field file
    ∷ width_field file
    ∷ byte_up_to_field file 9 2
    ∷ lanes_field file
    ∷ tested_field 11 1 (slice_index file 11 == 0)
    ∷ []

-- ---- the fields of the record of lane c, which begins at a place

-- the three paces, stuck, the number of weak places, both counters
abbrev pub number_fields : List ℕ → ℕ → List Field
number_fields file at =
    any_field at 4
    ∷ any_field (at + 4) 4
    ∷ byte_up_to_field file (at + 8) 16
    ∷ byte_up_to_field file (at + 9) 1
    ∷ tested_field (at + 10) 2 (nat_le (weak_count file at) 256)
    ∷ any_field (at + 12) 4
    ∷ any_field (at + 16) 4
    ∷ []

abbrev pub table_field : ℕ → Field
table_field at = any_field (at + 20) 512

-- A chip's size: where the table gives one that a chip may have, it is that.
abbrev pub is_size_by : List ℕ → ℕ → Bool
is_size_by table size =
    let log = field_8 table 0x27 in
    is_chip_size size && (nat_lt log 12 || nat_lt 27 log || size == 2 ^ log)

-- All lanes have the size of lane 0.
abbrev pub size_field : List ℕ → ℕ → ℕ → Field
size_field file c at = record {
  at = at + 532;
  size = 4;
  bad =
      if not (is_size_by (table_in file at) (size_in file at)) then Some (BadHeader (at + 532))
      else if size_in file at == size_in file 12 then None
      else Some (SizeDiffers c);
}

-- the least that number k of the weak places may be: above the one before
abbrev pub least_weak : List ℕ → ℕ → ℕ → ℕ
least_weak file at zero = 0
least_weak file at (suc k) = u32_at file (weak_field_at at k) + 1

abbrev pub is_weak_place : Device → ℕ → ℕ → ℕ → Bool
is_weak_place device size least place = nat_le least place && place % unit_len device == 0 && nat_lt place size

abbrev pub weak_field : List ℕ → ℕ → ℕ → Field
weak_field file at k =
    tested_field (weak_field_at at k) 4
    (is_weak_place (device_of file) (size_in file at) (least_weak file at k) (u32_at file (weak_field_at at k)))

-- those of the first n weak places
abbrev pub weak_fields : List ℕ → ℕ → ℕ → List Field
weak_fields file at zero = []
weak_fields file at (suc k) = weak_fields file at k ++ weak_field file at k ∷ []

-- a number at a place that has to be this one
abbrev pub count_field : List ℕ → (at count : ℕ) → Field
count_field file at count = tested_field at 4 (u32_at file at == count)

abbrev pub same_lock : Bool → Bool → Bool
same_lock true b = b
same_lock false b = not b

-- No lane of these that keeps so many locks has another one as its number k.
abbrev pub is_agreed : List (List Bool) → (count k : ℕ) → Bool → Bool
is_agreed before count k locked =
    list_all (λ locks. not (length locks == count) || same_lock (slice_index_or locks k false) locked) before

-- A byte for lock k of so many: 1 where the block is locked, else 0, and as in each lane before that keeps as many.
abbrev pub is_lock_byte : List (List Bool) → (count k byte : ℕ) → Bool
is_lock_byte before count k byte = nat_le byte 1 && is_agreed before count k (byte == 1)

-- those of the first n locks, from a place on
abbrev pub each_lock : List ℕ → List (List Bool) → (at count n : ℕ) → List Field
each_lock file before at count zero = []
each_lock file before at count (suc k) =
    each_lock file before at count k
    ++ tested_field (at + k) 1 (is_lock_byte before count k (slice_index file (at + k))) ∷ []

-- the number of locks, and each of them; version 1 has neither
abbrev pub lock_fields_of : Version → List ℕ → List (List Bool) → (at count : ℕ) → List Field
lock_fields_of One file before at count = []
lock_fields_of Two file before at count = count_field file at count ∷ each_lock file before (at + 4) count count

-- those of a record
unfoldable pub lock_fields : List ℕ → ℕ → ℕ → List Field
lock_fields file c at = lock_fields_of (version_of file) file (kept_before file c) (locks_at file at) (lock_count file at)

abbrev pub cells_field : List ℕ → ℕ → Field
cells_field file at = any_field (cells_at file at) (size_in file at)

unfoldable pub record_fields : List ℕ → ℕ → ℕ → List Field
record_fields file c at =
    number_fields file at
    ++ (table_field at ∷ size_field file c at
    ∷ (weak_fields file at (weak_count file at)
    ++ (lock_fields file c at ++ cells_field file at ∷ [])))

-- the header's fields and those of the first n records
abbrev pub fields_before : List ℕ → ℕ → List Field
fields_before file zero = header_fields file
fields_before file (suc c) = fields_before file c ++ record_fields file c (record_place file c)

-- bytes behind the last record
abbrev pub trailing : List ℕ → ℕ → Option ImageError
trailing file end = if nat_lt end (length file) then Some (Trailing end) else None

-- The first refusal, field by field and then of what follows. There is none exactly where the file is well formed.
unfoldable pub image_refusal : List ℕ → Option ImageError
image_refusal file =
    option_or
    (first_refusal file (fields_before file (lanes_of_file file)))
    (trailing file (record_place file (lanes_of_file file)))

-- ---- the chips that a well formed file stands for

-- what the chip is whose record begins at a place
abbrev pub part_in : List ℕ → Set → Device → ℕ → Part
part_in file set device at = record {
  set = set;
  device = device;
  table = table_in file at;
  blocks = table_blocks (table_in file at);
  weak = weak_in file at (weak_count file at);
  stuck = slice_index file (at + 9) == 1;
  pace_program = u32_at file at;
  pace_erase = u32_at file (at + 4);
  pace_suspend = slice_index file (at + 8);
}

-- That chip, just powered on: modes and jobs aren't stored.
abbrev pub chip_in : List ℕ → Set → Device → ℕ → ChipState
chip_in file set device at = powered (record no_chip {
  part = part_in file set device at;
  cells = bytes_at file (cells_at file at) (size_in file at);
  locks = locks_of file at;
  suspends = u32_at file (at + 12);
  erases = u32_at file (at + 16);
})

-- the chip of lane c
abbrev pub chip_of_lane : List ℕ → ℕ → ChipState
chip_of_lane file c = chip_in file (machine_of file) (device_of file) (record_place file c)

-- The file is well formed, and stands for a bank of these chips on a bus of so many bytes.
pub record IsImageOf (file : List ℕ) (width : ℕ) (chips : List ChipState) : Type 0 where
  pub well_formed : image_refusal file ≡ None
  pub bus : width_of file ≡ width
  pub count : length chips ≡ lanes_of_file file
  pub each : (c : ℕ) → c < length chips → chip_at chips c ≡ chip_of_lane file c

-- Why an error comes: want of memory has no cause in the file.
abbrev pub IsCause : List ℕ → ImageError → Type 0
IsCause file NoMemory = Unit {0}
IsCause file error = image_refusal file ≡ Some error
