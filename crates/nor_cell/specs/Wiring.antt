-- How chips lie side by side on a bus word, and where a byte of the bank lies in them.
use Rattle.std.specs.Prelude.{ℕ, ◌+◌, ◌*◌, ◌/◌, ◌%◌, Bool, ◌==◌, ◌&&◌, ◌||◌}
use Rattle.nor_cell.specs.Bits.{unit_len}
use Rattle.nor_cell.specs.declared.device.Device.{Device}

-- one, two or four chips of eight wires fill a word of as many bytes, and one, two or four of sixteen wires one of twice as many
abbrev pub is_wiring : ℕ → ℕ → Device → Bool
is_wiring width lanes device = (lanes == 1 || lanes == 2 || lanes == 4) && (width == lanes * unit_len device)

-- Byte p of chip c is this byte of the bank: units of d bytes go round the chips.
abbrev pub bank_place : (lanes d c p : ℕ) → ℕ
bank_place lanes d c p = p / d * (lanes * d) + c * d + p % d

-- the chip of bank byte a, and the byte's place in it
abbrev pub lane_at : (lanes d a : ℕ) → ℕ
lane_at lanes d a = a / d % lanes

abbrev pub place_at : (lanes d a : ℕ) → ℕ
place_at lanes d a = a / (lanes * d) * d + a % d
