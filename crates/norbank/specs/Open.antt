-- A bus that can be read, and what reading leaves of it.
use Rattle.std.specs.Prelude.{◌≡◌, ℕ, true, None}
use Rattle.nor_cell.specs.Bits.{AreBytes}
use Rattle.nor_cell.specs.Chip.{ChipState}
use Rattle.nor_cell.specs.Between.{IsIdle}
use Rattle.nor_cell.specs.declared.device.Device.{Device}
use Rattle.nor_bus.specs.Bus.{BusState, IsBank, bank_bytes, bank_size}
use Rattle.nor_bus.specs.Driven.{AllLanes}
use Rattle.nor_bank.specs.Ranges.{IsReadable}

-- the bus has power, and no cut is armed
pub record IsPowered (bus : BusState) : Type 0 where
  pub power : bus.power ≡ true
  pub armed : bus.armed ≡ None

-- its chips rest, and their cells are bytes
pub record IsIdleChip (s : ChipState) : Type 0 where
  pub resting : IsIdle s
  pub bytes : AreBytes s.cells

-- it can be read
pub record IsOpen (bus : BusState) : Type 0 where
  pub powered : IsPowered bus
  pub chips : AllLanes IsReadable bus

-- The chips have the cells that they had.
abbrev pub SameBytes : BusState → BusState → Type 0
SameBytes old new = (width : ℕ) (device : Device) → IsBank width device old.lanes
    → IsBank width device new.lanes × (bank_size new.lanes ≡ bank_size old.lanes)
    × ((at len : ℕ) → bank_bytes device new.lanes at len ≡ bank_bytes device old.lanes at len)
