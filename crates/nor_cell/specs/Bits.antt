-- Bytes, what programming may leave of one, and the units (device words) of a chip.
use Rattle.std.specs.Prelude.{◌≡◌, ◌<◌, ◌≤◌, ◌+◌, ◌*◌, ◌/◌, ◌%◌, ◌^◌, ℕ, List, [], ◌∷◌, length, slice_index, bit_and, Bool, ◌==◌}
use Rattle.nor_cell.specs.declared.device.Device.{Device}
use Rattle.nor_cell.specs.declared.device.Device.TheVariants.{X8, X16, X16Byte}

-- Programming only clears bits, and only those that the datum clears: x has no bit that old lacks, and
-- keeps each bit of old that the datum has.
pub record IsBetween (old datum x : ℕ) : Type 0 where
  pub clears_only : bit_and x old ≡ x
  pub keeps : bit_and (bit_and x old) datum ≡ bit_and old datum

-- bit k is set
abbrev pub has_bit : ℕ → ℕ → Bool
has_bit n k = n / 2 ^ k % 2 == 1

-- how many bytes a unit of the device has: those of its part of the bus word
abbrev pub unit_len : Device → ℕ
unit_len X8 = 1
unit_len X16 = 2
unit_len X16Byte = 1

-- the bytes of a unit's value, the low one first; what is above the unit is dropped
abbrev pub unit_bytes : Device → ℕ → List ℕ
unit_bytes X8 v = v % 256 ∷ []
unit_bytes X16 v = v % 256 ∷ v / 256 % 256 ∷ []
unit_bytes X16Byte v = v % 256 ∷ []

-- the value of unit u of some cells
abbrev pub unit_at : Device → List ℕ → ℕ → ℕ
unit_at X8 cells u = slice_index cells u
unit_at X16 cells u = slice_index cells (2 * u) + 256 * slice_index cells (2 * u + 1)
unit_at X16Byte cells u = slice_index cells u

-- each number is a byte
abbrev pub AreBytes : List ℕ → Type 0
AreBytes bytes = (p : ℕ) → slice_index bytes p < 256

-- The new bytes differ from the old at most from `from` up to `to`, and each byte there passes P.
pub record ChangesWithin (from to : ℕ) (P : ℕ → ℕ → Type 0) (old new : List ℕ) : Type 0 where
  pub size : length new ≡ length old
  pub below : (p : ℕ) → p < from → slice_index new p ≡ slice_index old p
  pub above : (p : ℕ) → to ≤ p → slice_index new p ≡ slice_index old p
  pub inside : (p : ℕ) → from ≤ p → p < to → P p (slice_index new p)
