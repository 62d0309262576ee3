-- What a drawing shows of a bank: bars of blocks that follow each other, and what is erased, locked and weak in each.
use Rattle.std.specs.Prelude.{◌≡◌, ◌≤◌, ◌<◌, ◌+◌, ◌-◌, ◌*◌, ◌/◌, ◌==◌, ◌&&◌, ◌||◌, min, nat_le, nat_lt, ℕ, zero, suc, List, [], ◌∷◌, ◌++◌, length, take, drop, slice_index, slice_index_or, Bool, false, if◌then◌else◌}
use Rattle.std.specs.List.{list_any}
use Rattle.nor_cell.specs.Bits.{unit_len}
use Rattle.nor_cell.specs.Chip.{ChipState}
use Rattle.nor_cell.specs.Table.{set_of}
use Rattle.nor_cell.specs.declared.device.Device.{Device}
use Rattle.nor_cell.specs.declared.device.Device.TheVariants.{X8, X16, X16Byte}
use Rattle.nor_cell.specs.declared.device.Span.{Span}
use Rattle.nor_bus.specs.Bus.{chip_at}
use Rattle.nor_image.specs.Image.{IsImageOf}
use Rattle.nor_dump.specs.declared.survey.Bar.{Bar}
use Rattle.nor_dump.specs.declared.survey.Survey.{Survey}

-- unit u of these cells has all its bits set
abbrev pub is_erased : Device → List ℕ → ℕ → Bool
is_erased X8 cells u = slice_index cells u == 255
is_erased X16 cells u = (slice_index cells (2 * u) == 255) && (slice_index cells (2 * u + 1) == 255)
is_erased X16Byte cells u = slice_index cells u == 255

-- how many of n units from one on
abbrev pub erased_units : Device → List ℕ → (from n : ℕ) → ℕ
erased_units device cells from zero = 0
erased_units device cells from (suc n) =
    erased_units device cells from n + (if is_erased device cells (from + n) then 1 else 0)

-- in the first n lanes
abbrev pub erased_in : List ChipState → (from units n : ℕ) → ℕ
erased_in chips from units zero = 0
erased_in chips from units (suc n) =
    erased_in chips from units n + erased_units (chip_at chips n).part.device (chip_at chips n).cells from units

-- whether one of some blocks is locked in the first n lanes
abbrev pub is_locked_in : List ChipState → (first blocks n : ℕ) → Bool
is_locked_in chips first blocks zero = false
is_locked_in chips first blocks (suc n) =
    is_locked_in chips first blocks n || list_any (λ (l : Bool). l) (take blocks (drop first (chip_at chips n).locks))

-- whether a weak place lies between two places in the first n lanes
abbrev pub is_weak_in : List ChipState → (from to n : ℕ) → Bool
is_weak_in chips from to zero = false
is_weak_in chips from to (suc n) =
    is_weak_in chips from to n || list_any (λ p. nat_le from p && nat_lt p to) (chip_at chips n).part.weak

-- the blocks are those of lane 0's chip
abbrev pub blocks_in : List ChipState → List Span
blocks_in chips = (chip_at chips 0).part.blocks

abbrev pub span_at : List Span → ℕ → Span
span_at spans k = slice_index_or spans k (record { from = 0; len = 0 })

-- the last byte of a block, and one more
abbrev pub end_of : Span → ℕ
end_of span = span.from + span.len

-- how many blocks a bar has that begins with one: so many, or those that are left
abbrev pub blocks_from : List ChipState → (per first : ℕ) → ℕ
blocks_from chips per first = min per (length (blocks_in chips) - first)

abbrev pub bar_from : List ChipState → (first blocks from to : ℕ) → Bar
bar_from chips first blocks from to =
    let unit = unit_len (chip_at chips 0).part.device in
    record {
      first = first;
      blocks = blocks;
      from = from;
      len = to - from;
      erased = erased_in chips (from / unit) ((to - from) / unit) (length chips);
      locked = is_locked_in chips first blocks (length chips);
      weak = is_weak_in chips from to (length chips);
    }

-- the bar that begins with a block
abbrev pub bar_of : List ChipState → (per first : ℕ) → Bar
bar_of chips per first =
    let spans = blocks_in chips in
    let blocks = blocks_from chips per first in
    bar_from chips first blocks (span_at spans first).from (end_of (span_at spans (first + blocks - 1)))

-- the first n bars, of so many blocks each
abbrev pub bars_of : List ChipState → (per n : ℕ) → List Bar
bars_of chips per zero = []
bars_of chips per (suc n) = bars_of chips per n ++ bar_of chips per (n * per) ∷ []

-- Bars of so many blocks each: all blocks have one, and each has a block.
pub record AreBars (chips : List ChipState) (per : ℕ) (bars : List Bar) : Type 0 where
  pub are : bars ≡ bars_of chips per (length bars)
  pub all : length (blocks_in chips) ≤ length bars * per
  pub some : length bars * per < length (blocks_in chips) + per

-- so many blocks to a bar that there are at most 512 bars
abbrev pub blocks_per : ℕ → ℕ
blocks_per blocks = (blocks - 1) / 512 + 1

abbrev pub stuck_at : List ChipState → ℕ → Bool
stuck_at chips c = (chip_at chips c).part.stuck

-- what is told of a bank of these chips
pub record IsTold (width : ℕ) (chips : List ChipState) (survey : Survey) : Type 0 where
  pub wide : survey.width ≡ width
  pub lanes : survey.lanes ≡ length chips
  pub device : survey.device ≡ (chip_at chips 0).part.device
  pub set : survey.set ≡ set_of (chip_at chips 0).part.table
  pub size : survey.size ≡ length (chip_at chips 0).cells
  pub stuck : survey.stuck ≡ stuck_at chips 0 ∷ stuck_at chips 1 ∷ stuck_at chips 2 ∷ stuck_at chips 3 ∷ []
  pub blocks : survey.blocks ≡ length (blocks_in chips)
  pub per : survey.per ≡ blocks_per (length (blocks_in chips))
  pub bars : AreBars chips survey.per survey.bars.items

-- The file stands for a bank, and this is told of it.
pub record IsSurveyOf (file : List ℕ) (survey : Survey) : Type 0 where
  pub width : ℕ
  pub chips : List ChipState
  pub image : IsImageOf file width chips
  pub told : IsTold width chips survey
