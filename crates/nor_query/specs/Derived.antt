-- What a query says beyond its fields, in the words that the chip's own table is read with.
use Rattle.std.specs.Prelude.{◌+◌, ℕ, List, [], slice_index, Bool, false, not, ◌==◌, ◌&&◌, nat_lt, nat_le, is_none, if◌then◌else◌}
use Rattle.nor_cell.specs.Bits.{has_bit}
use Rattle.nor_cell.specs.Table.{extended, set_of, intel_suspend, amd_suspend, most_reads}
use Rattle.nor_cell.specs.declared.device.Set.{Set}
use Rattle.nor_cell.specs.declared.device.Set.TheVariants.{Intel as IntelSet, Amd as AmdSet}
use Rattle.nor_cell.specs.declared.device.Span.{Span}
use Rattle.nor_cell.specs.declared.device.SuspendKind.{SuspendKind}
use Rattle.nor_cell.specs.declared.device.Work.{Work}
use Rattle.nor_cell.specs.declared.device.Work.TheVariants.{Word, Buffer, Block, Chip}
use Rattle.nor_region.specs.Map.{in_order, spans_of}
use Rattle.nor_query.specs.Checks.{first_error}
use Rattle.nor_query.specs.Fields.{region_count, regions_of}
use Rattle.nor_query.specs.declared.query.Extended.{Extended}
use Rattle.nor_query.specs.declared.query.Extended.TheVariants.{Intel, Amd}

abbrev pub suspend_of : Extended → SuspendKind
suspend_of (Intel features in_suspend) = intel_suspend features in_suspend
suspend_of (Amd suspend protect boot) = amd_suspend suspend

abbrev pub locks_of : Extended → Bool
locks_of (Intel features in_suspend) = has_bit features 5
locks_of (Amd suspend protect boot) = protect == 8

-- where the exponents of a time stand among the eight: the typical one, and four further the greatest
abbrev pub time_of : Work → ℕ
time_of Word = 0
time_of Buffer = 1
time_of Block = 2
time_of Chip = 3

-- an erase of the whole chip, which is given a typical time
abbrev pub chip_erase_of : Set → List ℕ → Bool
chip_erase_of IntelSet times = false
chip_erase_of AmdSet times = not (slice_index times (time_of Chip) == 0)

-- whether a chip of this set, which offers locks or not, keeps them without power
abbrev pub keeps_locks : Set → Bool → Bool
keeps_locks IntelSet offered = false
keeps_locks AmdSet offered = offered

-- Whether the regions lie in the chip last to first: an Amd chip of version 1.1 or later that boots from its top, with several regions.
abbrev pub is_reversed_in : Set → List ℕ → Bool
is_reversed_in IntelSet table = false
is_reversed_in AmdSet table = nat_le 0x31 (extended table 4) && extended table 15 == 3 && nat_lt 1 (region_count table)

abbrev pub is_reversed : Extended → (minor regions : ℕ) → Bool
is_reversed (Intel features in_suspend) minor regions = false
is_reversed (Amd suspend protect boot) minor regions = nat_le 1 minor && boot == 3 && nat_lt 1 regions

abbrev pub limit_of : List ℕ → Work → ℕ
limit_of times work = most_reads (slice_index times (time_of work)) (slice_index times (time_of work + 4)) + 16

-- the blocks of a chip with this table: none where the table is refused
abbrev pub table_blocks : List ℕ → List Span
table_blocks table =
    if is_none (first_error table) then
    spans_of (in_order (is_reversed_in (set_of table) table) (regions_of table))
    else []
