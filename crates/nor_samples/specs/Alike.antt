-- The chips of a bank for trials.
use Rattle.std.specs.Prelude.{◌≡◌, length}
use Rattle.nor_cell.specs.Chip.{ChipState}
use Rattle.nor_cell.specs.declared.device.Device.{Device}

-- of one device and one size
pub record IsAlike (wired : Device) (s : ChipState) : Type 0 where
  pub device : s.part.device ≡ wired
  pub size : length s.cells ≡ 8192
