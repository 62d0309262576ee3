-- What a step of reading answers.
use Rattle.std.specs.Prelude.{◌≡◌, ◌≢◌, ◌<◌, ◌≤◌, ◌+◌, ◌*◌, ◌==◌, ℕ, List, length, map, Bool, IsTrue, slice_index, Option, Some, None, Result, Ok, Err}
use Rattle.nor_cell.specs.Bits.{AreBytes}
use Rattle.nor_cell.specs.Cells.{chip_of}
use Rattle.nor_cell.specs.Chip.{ChipState}
use Rattle.nor_cell.specs.Power.{powered}
use Rattle.nor_cell.specs.Wiring.{is_wiring}
use Rattle.nor_cell.specs.declared.cells.Cells.{Cells}
use Rattle.nor_cell.specs.declared.device.Device.{Device}
use Rattle.nor_cell.specs.declared.device.Set.{Set}
use Rattle.nor_bus.specs.Bus.{chip_at}
use Rattle.nor_io.specs.Fields.{u32_at}
use Rattle.nor_image.specs.Image.{Field, refusal_of, version_of, device_of, width_of, lanes_of_file, weak_count, table_in, size_in, locks_of, locks_len, kept_locks, record_place, chip_in, is_size_by}
use Rattle.nor_image.specs.declared.error.ImageError.{ImageError}
use Rattle.nor_image.specs.declared.error.ImageError.TheVariants.{BadMagic, BadHeader, Truncated, Trailing, SizeDiffers, NoMemory}
use Rattle.nor_image.specs.declared.header.Header.{Header}
use Rattle.nor_image.specs.declared.header.Version.{Version}
use Rattle.nor_image.specs.declared.record.Numbers.{Numbers}

-- an error that the file's bytes give
abbrev pub IsRefusal : ImageError → Type 0
IsRefusal BadMagic = Unit {0}
IsRefusal (BadHeader at) = Unit {0}
IsRefusal (Truncated at) = Unit {0}
IsRefusal (Trailing at) = Unit {0}
IsRefusal (SizeDiffers lane) = Unit {0}
IsRefusal NoMemory = ⊥

-- a value of which P holds where there is no refusal, and else the refusal
abbrev pub Reads : {A : Type 0} → Option ImageError → (A → Type 0) → Result A ImageError → Type 0
Reads refusal P (Ok x) = (refusal ≡ None) × P x
Reads refusal P (Err e) = (refusal ≡ Some e) × IsRefusal e

-- the value of a field, or what the field is refused with
abbrev pub ReadsField : {A : Type 0} → List ℕ → Field → A → Result A ImageError → Type 0
ReadsField file field value result = Reads (refusal_of file field) (λ x. x ≡ value) result

-- The same, but memory may run out.
abbrev pub MayRead : {A : Type 0} → Option ImageError → (A → Type 0) → Result A ImageError → Type 0
MayRead refusal P (Ok x) = (refusal ≡ None) × P x
MayRead refusal P (Err e) = e ≢ NoMemory → (refusal ≡ Some e) × IsRefusal e

-- what the header says
pub record IsHeader (file : List ℕ) (header : Header) : Type 0 where
  pub version : header.version ≡ version_of file
  pub width : header.width ≡ width_of file
  pub lanes : header.geometry.lanes ≡ lanes_of_file file
  pub device : header.geometry.device ≡ device_of file
  pub wired : IsTrue (is_wiring (width_of file) (lanes_of_file file) (device_of file))

-- what the record that begins at a place says first
pub record AreNumbers (file : List ℕ) (at : ℕ) (numbers : Numbers) : Type 0 where
  pub pace_program : numbers.pace_program ≡ u32_at file at
  pub pace_erase : numbers.pace_erase ≡ u32_at file (at + 4)
  pub pace_suspend : numbers.pace_suspend ≡ slice_index file (at + 8)
  pub pace : numbers.pace_suspend ≤ 16
  pub stuck : numbers.stuck ≡ (slice_index file (at + 9) == 1)
  pub weak_count : numbers.weak_count ≡ weak_count file at
  pub few_weak : numbers.weak_count ≤ 256
  pub suspends : numbers.suspends ≡ u32_at file (at + 12)
  pub erases : numbers.erases ≡ u32_at file (at + 16)

-- how long the record of a chip with these cells is
abbrev pub record_len : Version → Set → Cells → ℕ
record_len version set cells =
    536 + 4 * length cells.weak.items + locks_len version (length (kept_locks set cells.table cells.locks.items)) + length cells.bytes.items

-- the cells that the record at a place stores
pub record AreStored (file : List ℕ) (device : Device) (at : ℕ) (cells : Cells) : Type 0 where
  pub chip : (set : Set) → powered (chip_of set cells) ≡ chip_in file set device at
  pub table : cells.table ≡ table_in file at
  pub weak : length cells.weak.items ≡ weak_count file at
  pub locks : cells.locks.items ≡ locks_of file at
  pub size : length cells.bytes.items ≡ size_in file at
  pub bytes : AreBytes cells.bytes.items
  pub fits : IsTrue (is_size_by cells.table (length cells.bytes.items))
  -- as many as lane 0's chip has
  pub same : length cells.bytes.items ≡ size_in file 12
  -- no more blocks than bytes
  pub few_blocks : length cells.blocks.items ≤ length cells.bytes.items
  -- lane 0's table, which names the set of all, is whole
  pub first_table : 544 ≤ length file

-- the locks that chips with these cells keep without power
abbrev pub kept_of_each : Set → List Cells → List (List Bool)
kept_of_each set lanes = map (λ (cells : Cells). kept_locks set cells.table cells.locks.items) lanes

-- the chips that cells make, just powered on
abbrev pub chips_of : Set → List Cells → List ChipState
chips_of set cells = map (λ (c : Cells). powered (chip_of set c)) cells

-- The chips of the first n records.
pub record AreChips (file : List ℕ) (set : Set) (n : ℕ) (chips : List ChipState) : Type 0 where
  pub count : length chips ≡ n
  pub each : (c : ℕ) → c < n → chip_at chips c ≡ chip_in file set (device_of file) (record_place file c)
  pub sizes : (c : ℕ) → c < n → length (chip_at chips c).cells ≡ size_in file 12
  pub bytes : (c : ℕ) → c < n → AreBytes (chip_at chips c).cells
  pub fits : (c : ℕ) → c < n → IsTrue (is_size_by (chip_at chips c).part.table (length (chip_at chips c).cells))

-- The cells of all records, whichever set they are to be powered on with.
abbrev pub AreLanes : List ℕ → List Cells → Type 0
AreLanes file lanes = (set : Set) → AreChips file set (lanes_of_file file) (chips_of set lanes)
