-- What a chip's query table says, read straight from its bytes.
use Rattle.std.specs.Prelude.{◌+◌, ◌-◌, ◌*◌, ◌^◌, min, ℕ, zero, suc, List, slice_index, Bool, true, false, not, ◌==◌, if◌then◌else◌}
use Rattle.nor_cell.specs.Bits.{has_bit}
use Rattle.nor_cell.specs.declared.device.Device.{Device}
use Rattle.nor_cell.specs.declared.device.Device.TheVariants.{X8, X16, X16Byte}
use Rattle.nor_cell.specs.declared.device.Set.{Set}
use Rattle.nor_cell.specs.declared.device.Set.TheVariants.{Intel, Amd}
use Rattle.nor_cell.specs.declared.device.Work.{Work}
use Rattle.nor_cell.specs.declared.device.Work.TheVariants.{Word, Buffer, Block, Chip}
use Rattle.nor_cell.specs.declared.device.SuspendKind.{SuspendKind}
use Rattle.nor_cell.specs.declared.device.SuspendKind.TheVariants.{None as NoSuspend, Read as ReadOnly, Program as ReadProgram}

abbrev pub field_8 : List ℕ → ℕ → ℕ
field_8 table at = slice_index table at

abbrev pub field_16 : List ℕ → ℕ → ℕ
field_16 table at = slice_index table at + 256 * slice_index table (at + 1)

-- where the primary extended table begins
abbrev pub extended_at : List ℕ → ℕ
extended_at table = field_16 table 0x15

-- a byte of the primary extended table
abbrev pub extended : List ℕ → ℕ → ℕ
extended table at = slice_index table (extended_at table + at)

-- the set that the table names
abbrev pub set_of : List ℕ → Set
set_of table = if field_16 table 0x13 == 2 then Amd else Intel

-- Intel: feature bit 1 offers erase suspend, and bit 0 of the byte behind the features programming in it.
abbrev pub intel_suspend : ℕ → ℕ → SuspendKind
intel_suspend features in_suspend =
    if has_bit features 1 then (if has_bit in_suspend 0 then ReadProgram else ReadOnly) else NoSuspend

-- Amd: a byte says it, and an unknown number counts as none.
abbrev pub amd_suspend : ℕ → SuspendKind
amd_suspend n = if n == 1 then ReadOnly else if n == 2 then ReadProgram else NoSuspend

abbrev pub suspend_of : Set → List ℕ → SuspendKind
suspend_of Intel table = intel_suspend (extended table 5) (extended table 9)
suspend_of Amd table = amd_suspend (extended table 6)

-- what the table offers while an erase is suspended
abbrev pub suspend_kind : List ℕ → SuspendKind
suspend_kind table = suspend_of (set_of table) table

abbrev pub can_suspend : SuspendKind → Bool
can_suspend NoSuspend = false
can_suspend ReadOnly = true
can_suspend ReadProgram = true

abbrev pub can_program_suspended : SuspendKind → Bool
can_program_suspended NoSuspend = false
can_program_suspended ReadOnly = false
can_program_suspended ReadProgram = true

abbrev pub locks_of : Set → List ℕ → Bool
locks_of Intel table = has_bit (extended table 5) 5
locks_of Amd table = extended table 9 == 8

-- whether the table offers locks
abbrev pub has_locks : List ℕ → Bool
has_locks table = locks_of (set_of table) table

-- Amd: a typical time of a chip's erase is given.
abbrev pub chip_erase_of : Set → List ℕ → Bool
chip_erase_of Intel table = false
chip_erase_of Amd table = not (field_8 table 0x22 == 0)

-- whether the table offers an erase of all blocks at once
abbrev pub has_chip_erase : List ℕ → Bool
has_chip_erase table = chip_erase_of (set_of table) table

abbrev pub at_least_two : ℕ → ℕ
at_least_two n = if n == 1 then 0 else n

-- How many units a buffer load may have, at 2 ^ n bytes of buffer. 0: words are programmed one by one.
abbrev pub buffer_units_of : Device → ℕ → ℕ
buffer_units_of X8 zero = 0
buffer_units_of X8 (suc n) = 2 ^ min (suc n) 8
buffer_units_of X16 zero = 0
buffer_units_of X16 (suc n) = at_least_two (2 ^ (min (suc n) 9 - 1))
buffer_units_of X16Byte n = 0

abbrev pub buffer_units : Device → List ℕ → ℕ
buffer_units device table = buffer_units_of device (field_16 table 0x2A)

abbrev pub typical : Work → List ℕ → ℕ
typical Word table = field_8 table 0x1F
typical Buffer table = field_8 table 0x20
typical Block table = field_8 table 0x21
typical Chip table = field_8 table 0x22

abbrev pub greatest : Work → List ℕ → ℕ
greatest Word table = field_8 table 0x23
greatest Buffer table = field_8 table 0x24
greatest Block table = field_8 table 0x25
greatest Chip table = field_8 table 0x26

-- the most status reads that a job shows working, by its exponents
abbrev pub most_reads : ℕ → ℕ → ℕ
most_reads t g = 2 ^ min 20 (t + g)

-- how many reads a driver makes at most
abbrev pub limit : Work → List ℕ → ℕ
limit work table = most_reads (typical work table) (greatest work table) + 16

-- how many status reads a job of this pace shows working
abbrev pub left_of : ℕ → ℕ → ℕ → ℕ
left_of pace t g = min pace (most_reads t g)

abbrev pub left_at_start : Work → ℕ → List ℕ → ℕ
left_at_start work pace table = left_of pace (typical work table) (greatest work table)
