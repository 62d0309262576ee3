-- Programming a bus word, in the words that both command sets use.
use Rattle.std.specs.Prelude.{◌≡◌, ◌<◌, ◌+◌, ℕ, List, Bool, length, slice_index, bit_and, is_some}
use Rattle.nor_cell.specs.Bits.{unit_len, unit_bytes}
use Rattle.nor_cell.specs.Chip.{ChipState, place}
use Rattle.nor_cell.specs.Look.{break_of, Programmed}
use Rattle.nor_cell.specs.Table.{left_at_start}
use Rattle.nor_cell.specs.declared.device.Work.TheVariants.{Word}

-- how many reads a word shows working
abbrev pub word_reads : ChipState → ℕ
word_reads s = left_at_start Word s.part.pace_program s.part.table

-- a program of these bytes from place p on breaks off: a weak unit among them would change
abbrev pub breaks : ℕ → List ℕ → ChipState → Bool
breaks p bytes s = is_some (break_of (unit_len s.part.device) s.part.weak p bytes s.cells)

-- what it leaves of the cells
abbrev pub Stores : ℕ → List ℕ → ChipState → List ℕ → Type 0
Stores p bytes s cells = Programmed (unit_len s.part.device) s.part.weak p bytes s.cells cells

-- so it is with v at unit u
abbrev pub unit_breaks : ℕ → ℕ → ChipState → Bool
unit_breaks u v s = breaks (place s.part u) (unit_bytes s.part.device v) s

-- no datum has a bit that its byte lacks
abbrev pub ClearsBits : ℕ → List ℕ → List ℕ → Type 0
ClearsBits p bytes cells =
    (i : ℕ) → i < length bytes → bit_and (slice_index cells (p + i)) (slice_index bytes i) ≡ slice_index bytes i

-- these bytes stand from place p on
abbrev pub HoldsBytes : ℕ → List ℕ → List ℕ → Type 0
HoldsBytes p bytes cells = (i : ℕ) → i < length bytes → slice_index cells (p + i) ≡ slice_index bytes i
