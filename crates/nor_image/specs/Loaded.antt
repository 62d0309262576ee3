-- A bank that was loaded from a file.
use Rattle.std.specs.Prelude.{◌≡◌, ℕ, true, None}
use Rattle.nor_bus.specs.Bus.{BusState}
use Rattle.nor_image.specs.declared.loaded.Loaded.{Loaded}
use Rattle.nor_image.specs.declared.loaded.Loaded.TheVariants.{Intel8, Intel16, Intel32, Intel64, Amd8, Amd16, Amd32, Amd64}

-- its bus, of whatever width
abbrev pub bus_of : Loaded → BusState
bus_of (Intel8 bank) = bank
bus_of (Intel16 bank) = bank
bus_of (Intel32 bank) = bank
bus_of (Intel64 bank) = bank
bus_of (Amd8 bank) = bank
bus_of (Amd16 bank) = bank
bus_of (Amd32 bank) = bank
bus_of (Amd64 bank) = bank

-- how many bytes its bus word has
abbrev pub loaded_width : Loaded → ℕ
loaded_width (Intel8 bank) = 1
loaded_width (Intel16 bank) = 2
loaded_width (Intel32 bank) = 4
loaded_width (Intel64 bank) = 8
loaded_width (Amd8 bank) = 1
loaded_width (Amd16 bank) = 2
loaded_width (Amd32 bank) = 4
loaded_width (Amd64 bank) = 8

-- It has power, with no cut armed and no cycle made.
pub record IsFreshBus (bus : BusState) : Type 0 where
  pub power : bus.power ≡ true
  pub armed : bus.armed ≡ None
  pub cycles : bus.cycles ≡ 0
  pub failed : bus.failed ≡ 0
