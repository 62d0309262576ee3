-- A chip of either set at a bus cycle, and what no cycle and no loss of power changes.
use Rattle.std.specs.Prelude.{◌≡◌, ℕ, length}
use Rattle.nor_cell.specs.Bits.{AreBytes}
use Rattle.nor_cell.specs.Chip.{ChipState}
use Rattle.nor_cell.specs.Intel.{IntelReads, intel_writes}
use Rattle.nor_cell.specs.Amd.{AmdReads, amd_writes}
use Rattle.nor_cell.specs.declared.device.Set.{Set}
use Rattle.nor_cell.specs.declared.device.Set.TheVariants.{Intel, Amd}

abbrev pub reads_of : Set → ChipState → ℕ → ℕ → ChipState → Type 0
reads_of Intel old u answer new = IntelReads old u answer new
reads_of Amd old u answer new = AmdReads old u answer new

-- a read at unit u may take a chip from old to new with this answer
abbrev pub Reads : ChipState → ℕ → ℕ → ChipState → Type 0
Reads old u answer new = reads_of old.part.set old u answer new

abbrev pub writes_of : Set → ChipState → ℕ → ℕ → ChipState
writes_of Intel s u v = intel_writes s u v
writes_of Amd s u v = amd_writes s u v

-- the state after a write of v at unit u
abbrev pub written : ChipState → ℕ → ℕ → ChipState
written s u v = writes_of s.part.set s u v

-- What no cycle and no loss of power changes: what the chip is, and how many cells and locks it has. Bytes stay bytes.
pub record Keeps (old new : ChipState) : Type 0 where
  pub part : new.part ≡ old.part
  pub size : length new.cells ≡ length old.cells
  pub locks : length new.locks ≡ length old.locks
  pub bytes : AreBytes old.cells → AreBytes new.cells

-- The chip is what it was, with as many cells, its locks, and its count of erases.
pub record Remains (old new : ChipState) : Type 0 where
  pub part : new.part ≡ old.part
  pub size : length new.cells ≡ length old.cells
  pub locks : new.locks ≡ old.locks
  pub erases : new.erases ≡ old.erases
