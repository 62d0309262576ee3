-- The file of a bank, byte by byte. Numbers are little-endian.
use Rattle.std.specs.Prelude.{◌≡◌, ◌<◌, ℕ, List, [], ◌∷◌, ◌++◌, length, map, Bool, IsTrue}
use Rattle.std.specs.Int.{w16, w32, to_le_bytes, from_bool}
use Rattle.std.specs.List.{flat_map}
use Rattle.nor_cell.specs.Chip.{ChipState, Part}
use Rattle.nor_cell.specs.Power.{powered}
use Rattle.nor_cell.specs.Table.{set_of}
use Rattle.nor_cell.specs.declared.device.Set.{Set}
use Rattle.nor_cell.specs.declared.device.Device.{Device}
use Rattle.nor_cell.specs.declared.device.Device.TheVariants.{X8, X16, X16Byte}
use Rattle.nor_bus.specs.Bus.{chip_at}
use Rattle.nor_query.specs.Derived.{table_blocks}
use Rattle.nor_image.specs.Image.{magic_of, is_size_by, kept_locks, IsImageOf}
use Rattle.nor_image.specs.declared.header.Version.{Version}
use Rattle.nor_image.specs.declared.header.Version.TheVariants.{One, Two}

abbrev pub code_of_device : Device → ℕ
code_of_device X8 = 0
code_of_device X16 = 1
code_of_device X16Byte = 2

-- the header: the magic, the width of the bus in bytes, the device, the lanes, and a byte that is 0
abbrev pub header_bytes : Version → (width : ℕ) → Device → (lanes : ℕ) → List ℕ
header_bytes version width device lanes = magic_of version ++ width ∷ code_of_device device ∷ lanes ∷ 0 ∷ []

-- what a record says first: the three paces, stuck, the number of weak places, both counters
abbrev pub number_bytes : Part → (suspends erases : ℕ) → List ℕ
number_bytes part suspends erases =
    to_le_bytes w32 part.pace_program ++ to_le_bytes w32 part.pace_erase
    ++ (part.pace_suspend ∷ from_bool part.stuck ∷ [])
    ++ to_le_bytes w16 (length part.weak) ++ to_le_bytes w32 suspends ++ to_le_bytes w32 erases

abbrev pub place_bytes : List ℕ → List ℕ
place_bytes places = flat_map (to_le_bytes w32) places

-- the number of locks, and a byte for each; version 1 has neither
abbrev pub lock_bytes : Version → List Bool → List ℕ
lock_bytes One locks = []
lock_bytes Two locks = to_le_bytes w32 (length locks) ++ map from_bool locks

-- all that a chip keeps without power: these numbers, its query table, its size, its weak places, its locks where they are kept, and its cells
unfoldable pub kept_bytes : Version → Part → (locks : List Bool) → (cells : List ℕ) → (suspends erases : ℕ) → List ℕ
kept_bytes version part locks cells suspends erases =
    number_bytes part suspends erases ++ part.table ++ to_le_bytes w32 (length cells)
    ++ place_bytes part.weak ++ lock_bytes version locks ++ cells

-- the locks that a chip keeps without power where it is of this set
abbrev pub kept_of : Set → ChipState → List Bool
kept_of set chip = kept_locks set chip.part.table chip.locks

-- its record
abbrev pub record_bytes : Version → Set → ChipState → List ℕ
record_bytes version set chip = kept_bytes version chip.part (kept_of set chip) chip.cells chip.suspends chip.erases

-- the records of several chips, one behind the other
abbrev pub records_bytes : Version → Set → List ChipState → List ℕ
records_bytes version set chips = flat_map (record_bytes version set) chips

-- the set of all chips, by the table of lane 0
abbrev pub bank_set : List ChipState → Set
bank_set chips = set_of (chip_at chips 0).part.table

-- A bank's file of a version, on a bus of so many bytes: the header, and a record for each chip.
abbrev pub file_in : Version → ℕ → List ChipState → List ℕ
file_in version width chips =
    header_bytes version width (chip_at chips 0).part.device (length chips)
    ++ records_bytes version (bank_set chips) chips

-- the file that is written
abbrev pub file_of : ℕ → List ChipState → List ℕ
file_of width chips = file_in Two width chips

-- The machine, the sizes and the blocks are those that the format gives for the chips' tables.
pub record AreStorable (chips : List ChipState) : Type 0 where
  pub machine : (c : ℕ) → c < length chips → (chip_at chips c).part.set ≡ bank_set chips
  pub sizes : (c : ℕ) → c < length chips
      → IsTrue (is_size_by (chip_at chips c).part.table (length (chip_at chips c).cells))
  pub blocks : (c : ℕ) → c < length chips → (chip_at chips c).part.blocks ≡ table_blocks (chip_at chips c).part.table

-- Lanes that keep equally many locks without power have the same ones.
abbrev pub AgreeOnLocks : List ChipState → Type 0
AgreeOnLocks chips =
    (c d : ℕ) → c < length chips → d < length chips
    → length (kept_of (bank_set chips) (chip_at chips c)) ≡ length (kept_of (bank_set chips) (chip_at chips d))
    → kept_of (bank_set chips) (chip_at chips c) ≡ kept_of (bank_set chips) (chip_at chips d)

-- The machine, sizes and blocks of a bank are those that the format gives, and its lanes agree on their locks.
pub record CanStore (chips : List ChipState) : Type 0 where
  pub storable : AreStorable chips
  pub agree : AgreeOnLocks chips

-- The file stands for the bank, just powered on, where a file can store it.
abbrev pub Stores : List ℕ → ℕ → List ChipState → Type 0
Stores file width chips = CanStore chips → IsImageOf file width (map powered chips)
