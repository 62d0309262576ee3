-- What the bank of a drill is made of.
use Rattle.std.specs.Prelude.{◌≡◌, ℕ, [], false}
use Rattle.nor_cell.specs.Ranges.{IsChip}
use Rattle.nor_cell.specs.declared.cells.CellParts.{CellParts}
use Rattle.nor_cell.specs.declared.device.Device.TheVariants.{X16}
use Rattle.nor_cell.specs.declared.device.Set.{Set}
use Rattle.nor_image.specs.Loaded.{bus_of, loaded_width, IsFreshBus}
use Rattle.nor_image.specs.declared.loaded.Loaded.{Loaded}
use Rattle.nor_drill.specs.Drill.{table_of, all_ones, eight_blocks, drill_chip, chips_of_set}

-- the parts of a chip with such paces
pub record AreDrillParts (set : Set) (program erase suspend : ℕ) (parts : CellParts) : Type 0 where
  pub device : parts.device ≡ X16
  pub table : parts.table ≡ table_of set
  pub bytes : parts.bytes.items ≡ all_ones
  pub weak : parts.weak.items ≡ []
  pub stuck : parts.stuck ≡ false
  pub pace_program : parts.pace_program ≡ program
  pub pace_erase : parts.pace_erase ≡ erase
  pub pace_suspend : parts.pace_suspend ≡ suspend
  pub suspends : parts.suspends ≡ 0
  pub erases : parts.erases ≡ 0
  pub blocks : parts.blocks.items ≡ eight_blocks
  pub locks : parts.locks.items ≡ []

-- a bank of both chips of a set, on a bus of 32 bits
pub record IsDrillBank (set : Set) (loaded : Loaded) : Type 0 where
  pub width : loaded_width loaded ≡ 4
  pub lanes : (bus_of loaded).lanes ≡ chips_of_set set
  pub fresh : IsFreshBus (bus_of loaded)
  pub low : IsChip (drill_chip set 3 40 2)
  pub high : IsChip (drill_chip set 5 90 4)
