-- A worked example: power is lost in a buffer load, before its confirm and after it.
use Rattle.std.specs.Prelude.{◌≡◌, ◌<◌, ◌+◌, ◌*◌, ◌/◌, ◌≤◌, ℕ, List, [], ◌∷◌, ◌++◌, length, slice_index, true, false, replicate}
use Rattle.nor_cell.specs.Bits.{IsBetween, unit_at}
use Rattle.nor_cell.specs.Chip.{ChipState, Part, is_locked, NotHeld, NoFault, Idle, Array, Rest}
use Rattle.nor_cell.specs.Intel.{IntelReads, intel_writes}
use Rattle.nor_cell.specs.Power.{Cuts, powered}
use Rattle.nor_cell.specs.declared.device.Device.TheVariants.{X16}
use Rattle.nor_cell.specs.declared.device.Set.TheVariants.{Intel}
use Rattle.nor_cell.specs.declared.device.Span.{Span}

-- a sixteen bit chip of eight blocks of 1,024 bytes, with locks and a buffer of 32 bytes
abbrev pub table_a : List ℕ
table_a =
    replicate 0x10 0
    ++ 0x51 ∷ 0x52 ∷ 0x59 ∷ 0x01 ∷ 0x00 ∷ 0x31 ∷ 0x00 ∷ 0x00 ∷ 0x00 ∷ 0x00 ∷ 0x00 ∷ 0x27 ∷ 0x36 ∷ 0x00 ∷ 0x00 ∷ 0x04
    ∷ 0x06 ∷ 0x0a ∷ 0x00 ∷ 0x02 ∷ 0x02 ∷ 0x02 ∷ 0x00 ∷ 0x0d ∷ 0x01 ∷ 0x00 ∷ 0x05 ∷ 0x00 ∷ 0x01
    ∷ 0x07 ∷ 0x00 ∷ 0x04 ∷ 0x00
    ∷ 0x50 ∷ 0x52 ∷ 0x49 ∷ 0x31 ∷ 0x31 ∷ 0x22 ∷ 0x00 ∷ 0x00 ∷ 0x00 ∷ 0x01 ∷ []
    ++ replicate 453 0

abbrev pub kilobyte : ℕ → Span
kilobyte k = record { from = 1024 * k; len = 1024 }

abbrev pub part_a : Part
part_a = record {
  set = Intel;
  device = X16;
  table = table_a;
  blocks = kilobyte 0 ∷ kilobyte 1 ∷ kilobyte 2 ∷ kilobyte 3 ∷ kilobyte 4 ∷ kilobyte 5 ∷ kilobyte 6 ∷ kilobyte 7 ∷ [];
  weak = [];
  stuck = false;
  pace_program = 2;
  pace_erase = 4;
  pace_suspend = 2;
}

-- that chip after power-on, with these cells
abbrev pub chip_a : List ℕ → ChipState
chip_a cells = record {
  part = part_a;
  cells = cells;
  locks = true ∷ true ∷ true ∷ true ∷ true ∷ true ∷ true ∷ true ∷ [];
  suspends = 0;
  erases = 0;
  mode = Array;
  step = Rest;
  job = Idle;
  held = NotHeld;
  flags = record { erase = false; program = false; locked = false };
  fault = NoFault;
  toggle_6 = false;
  toggle_2 = false;
}

abbrev pub all_written : List (ℕ × ℕ) → ChipState → ChipState
all_written [] s = s
all_written (w ∷ ws) s = all_written ws (intel_writes s w.0 w.1)

-- unlock block 0 and load four units, without the confirm
abbrev pub load : List (ℕ × ℕ)
load = (0, 0x60) ∷ (0, 0xD0) ∷ (0, 0xE8) ∷ (0, 0x0003) ∷ (0, 0x1111) ∷ (1, 0x2222) ∷ (2, 0x3333) ∷ (3, 0x4444) ∷ []

abbrev pub load_and_confirm : List (ℕ × ℕ)
load_and_confirm = load ++ (0, 0xD0) ∷ []

abbrev pub IsOnes : List ℕ → Type 0
IsOnes cells = (length cells ≡ 8192) × ((p : ℕ) → p < 8192 → slice_index cells p ≡ 255)

-- from such a chip these writes, a cut and power-on may lead to this chip
abbrev pub MayLeave : List ℕ → List (ℕ × ℕ) → ChipState → Type 0
MayLeave cells writes end = (dark : ChipState) × Cuts (all_written writes (chip_a cells)) dark × (end ≡ powered dark)

-- Without the confirm nothing has changed.
abbrev pub BeforeConfirm : Type 0
BeforeConfirm = (cells : List ℕ) (end : ChipState) → MayLeave cells load end → end.cells ≡ cells

-- With it the four units read what lies between ones and their data, and block 0 is locked again.
abbrev pub AfterConfirm : Type 0
AfterConfirm = (cells : List ℕ) (end : ChipState) → IsOnes cells → MayLeave cells load_and_confirm end →
    (is_locked end 0 ≡ true)
    × ((p : ℕ) → 8 ≤ p → slice_index end.cells p ≡ slice_index cells p)
    × ((p : ℕ) → p < 8 → IsBetween 255 (17 * (p / 2 + 1)) (slice_index end.cells p))

-- The byte that a simulated chip leaves at the mask 0x0f is among them.
abbrev pub SimulatedIsAllowed : Type 0
SimulatedIsAllowed = (k : ℕ) → k < 4 → IsBetween 255 (17 * (k + 1)) (16 * (k + 1) + 15)

-- and what is read then, whatever the rest
abbrev pub ReadsCells : Type 0
ReadsCells = (s t : ChipState) (u answer : ℕ) → s.part ≡ part_a
    → IntelReads (powered s) u answer t → answer ≡ unit_at X16 s.cells u
