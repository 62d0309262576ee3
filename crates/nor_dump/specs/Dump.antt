-- The bytes of a bank in the order of its addresses.
use Rattle.std.specs.Prelude.{◌≡◌, ℕ, List, length, nat_lt, if◌then◌else◌, Option, Some, None}
use Rattle.nor_cell.specs.Chip.{ChipState}
use Rattle.nor_bus.specs.Bus.{bank_bytes, bank_size, chip_at}
use Rattle.nor_image.specs.Image.{IsImageOf, device_of}

-- The file stands for a bank, and these are all of its bytes.
pub record IsDumpOf (file raw : List ℕ) : Type 0 where
  pub width : ℕ
  pub chips : List ChipState
  pub image : IsImageOf file width chips
  pub bytes : raw ≡ bank_bytes (device_of file) chips 0 (bank_size chips)

-- the query table of a lane, if there is the lane
abbrev pub table_at : List ChipState → ℕ → Option (List ℕ)
table_at chips lane = if nat_lt lane (length chips) then Some (chip_at chips lane).part.table else None

-- The file stands for a bank, and this is the table of its lane.
pub record IsTableOf (file : List ℕ) (lane : ℕ) (table : Option (List ℕ)) : Type 0 where
  pub width : ℕ
  pub chips : List ChipState
  pub image : IsImageOf file width chips
  pub is : table ≡ table_at chips lane
