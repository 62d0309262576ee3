-- A bus of chips side by side, with power and an armed cut.
use Rattle.std.specs.Prelude.{◌≡◌, ◌<◌, ◌+◌, ◌*◌, ◌-◌, ◌^◌, ◌==◌, ◌||◌, min, not, ℕ, List, [], length, slice_index_or, Bool, false, Option, Some, None, IsTrue, slice_index, zero, suc, ◌∷◌}
use Rattle.nor_cell.specs.Bits.{unit_len}
use Rattle.nor_cell.specs.Chip.{ChipState, Array, Rest, Idle, NotHeld, NoFault, units}
use Rattle.nor_cell.specs.Ranges.{is_chip_size}
use Rattle.nor_cell.specs.Wiring.{is_wiring, lane_at, place_at}
use Rattle.nor_cell.specs.declared.device.Set.TheVariants.{Intel}
use Rattle.nor_cell.specs.declared.device.Device.{Device}
use Rattle.nor_cell.specs.declared.device.Device.TheVariants.{X8}
use Rattle.nor_bus.specs.declared.bus.Armed.{Armed}

pub record BusState : Type 0 where
  pub lanes : List ChipState
  pub power : Bool
  pub armed : Option Armed
  -- cycles that reached the chips, and cycles that failed
  pub cycles : ℕ
  pub failed : ℕ

-- what stands where no chip is, so that a lane can be named by its number alone
abbrev pub no_chip : ChipState
no_chip = record {
  part = record {
    set = Intel;
    device = X8;
    table = [];
    blocks = [];
    weak = [];
    stuck = false;
    pace_program = 0;
    pace_erase = 0;
    pace_suspend = 0;
  };
  cells = [];
  locks = [];
  suspends = 0;
  erases = 0;
  mode = Array;
  step = Rest;
  job = Idle;
  held = NotHeld;
  flags = record { erase = false; program = false; locked = false };
  fault = NoFault;
  toggle_6 = false;
  toggle_2 = false;
}

abbrev pub lanes_of : BusState → ℕ
lanes_of bus = length bus.lanes

-- chip c
abbrev pub chip_at : List ChipState → ℕ → ChipState
chip_at chips c = slice_index_or chips c no_chip

-- lane c's chip
abbrev pub lane : BusState → ℕ → ChipState
lane bus c = chip_at bus.lanes c

-- how many bytes of the word a lane takes
abbrev pub wide : ChipState → ℕ
wide chip = unit_len chip.part.device

-- how many units each chip has
abbrev pub units_of : BusState → ℕ
units_of bus = units (lane bus 0)

-- One, two or four chips of one device and one size fill a word of so many bytes.
pub record IsBank (width : ℕ) (device : Device) (chips : List ChipState) : Type 0 where
  pub wiring : IsTrue (is_wiring width (length chips) device)
  pub devices : (c : ℕ) → c < length chips → (chip_at chips c).part.device ≡ device
  pub sizes : (c : ℕ) → c < length chips → length (chip_at chips c).cells ≡ length (chip_at chips 0).cells

-- What holds of every bus of words of so many bytes: its chips are a bank, of a size that a chip may have.
pub record IsWired (width : ℕ) (bus : BusState) : Type 0 where
  pub device : Device
  pub bank : IsBank width device bus.lanes
  pub size : IsTrue (is_chip_size (length (lane bus 0).cells))

-- byte a of a bank of these chips: units of the device go round the chips
abbrev pub bank_byte : Device → List ChipState → ℕ → ℕ
bank_byte device chips a =
    slice_index (chip_at chips (lane_at (length chips) (unit_len device) a)).cells (place_at (length chips) (unit_len device) a)

-- so many bytes of the bank from a on
abbrev pub bank_bytes : Device → List ChipState → ℕ → ℕ → List ℕ
bank_bytes device chips a zero = []
bank_bytes device chips a (suc n) = bank_byte device chips a ∷ bank_bytes device chips (a + 1) n

-- how many bytes the bank has
abbrev pub bank_size : List ChipState → ℕ
bank_size chips = length chips * length (chip_at chips 0).cells

-- the armed count is 0
abbrev pub is_now : Option Armed → Bool
is_now None = false
is_now (Some armed) = armed.after == 0

-- the next cycle fails
abbrev pub fails : BusState → Bool
fails bus = not bus.power || is_now bus.armed

-- so many cycles nearer
abbrev pub nearer : ℕ → Option Armed → Option Armed
nearer n None = None
nearer n (Some armed) = Some (record armed { after = armed.after - n })

-- so many more, in a counter of 64 bits that stays at its last value
abbrev pub more : ℕ → ℕ → ℕ
more n count = min (count + n) (2 ^ 64 - 1)
