-- What a step of writing does.
use Rattle.std.specs.Prelude.{◌≡◌, ◌<◌, ◌+◌, ◌^◌, ℕ, List, ◌++◌, length, take}
use Rattle.nor_cell.specs.Cells.{part_of}
use Rattle.nor_cell.specs.Chip.{ChipState, Part}
use Rattle.nor_cell.specs.Ranges.{IsChip}
use Rattle.nor_cell.specs.declared.cells.Cells.{Cells}
use Rattle.nor_cell.specs.declared.device.Set.{Set}
use Rattle.nor_cell.specs.declared.device.Set.TheVariants.{Intel}
use Rattle.nor_image.specs.Image.{kept_locks}
use Rattle.nor_image.specs.Written.{number_bytes, kept_bytes}
use Rattle.nor_image.specs.declared.header.Version.TheVariants.{Two}

-- what the record of a chip with these cells says first, and the whole of it: the set of the chip isn't stored, and the machine of all says which locks are
abbrev pub numbers_of : Cells → List ℕ
numbers_of cells = number_bytes (part_of Intel cells) cells.suspends cells.erases

abbrev pub record_of : Set → Cells → List ℕ
record_of set cells =
    kept_bytes Two (part_of Intel cells) (kept_locks set cells.table cells.locks.items) cells.bytes.items cells.suspends cells.erases

-- Behind what stands before a place, the file has these bytes now, up to the place where the next go.
pub record Puts (bytes : List ℕ) (at : ℕ) (old new : List ℕ) (end : ℕ) : Type 0 where
  pub end_is : end ≡ at + length bytes
  pub size : length new ≡ length old
  pub front : take end new ≡ take at old ++ bytes

-- The numbers of a record have at most 32 bits.
pub record HasNumbers (part : Part) (suspends erases : ℕ) : Type 0 where
  pub pace_program : part.pace_program < 2 ^ 32
  pub pace_erase : part.pace_erase < 2 ^ 32
  pub suspends_fit : suspends < 2 ^ 32
  pub erases_fit : erases < 2 ^ 32

-- What holds of each chip that is written.
pub record HasFields (chip : ChipState) : Type 0 where
  pub ranges : IsChip chip
  pub numbers : HasNumbers chip.part chip.suspends chip.erases
