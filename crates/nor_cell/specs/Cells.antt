-- A chip and the cells that it is made of.
use Rattle.std.specs.Prelude.{◌≡◌, ℕ, Bool, false, List, [], ◌∷◌, length, replicate}
use Rattle.nor_cell.specs.Chip.{ChipState, Part, Array, Rest, Idle, NotHeld, NoFault}
use Rattle.nor_cell.specs.declared.device.Set.{Set}
use Rattle.nor_cell.specs.declared.cells.Cells.{Cells}
use Rattle.nor_cell.specs.declared.cells.CellParts.{CellParts}

-- what a chip of a set with these cells is
abbrev pub part_of : Set → Cells → Part
part_of set cells = record {
  set = set;
  device = cells.device;
  table = cells.table;
  blocks = cells.blocks.items;
  weak = cells.weak.items;
  stuck = cells.stuck;
  pace_program = cells.pace_program;
  pace_erase = cells.pace_erase;
  pace_suspend = cells.pace_suspend;
}

-- a chip with these cells that shows its array, with nothing under way
abbrev pub chip_of : Set → Cells → ChipState
chip_of set cells = record {
  part = part_of set cells;
  cells = cells.bytes.items;
  locks = cells.locks.items;
  suspends = cells.suspends;
  erases = cells.erases;
  mode = Array;
  step = Rest;
  job = Idle;
  held = NotHeld;
  flags = record { erase = false; program = false; locked = false };
  fault = NoFault;
  toggle_6 = false;
  toggle_2 = false;
}

-- What the chip is and keeps is what its cells say.
pub record HasCells (s : ChipState) (cells : Cells) : Type 0 where
  pub part : s.part ≡ part_of s.part.set cells
  pub bytes : s.cells ≡ cells.bytes.items
  pub locks : s.locks ≡ cells.locks.items
  pub suspends : s.suspends ≡ cells.suspends
  pub erases : s.erases ≡ cells.erases

-- the locks that are given, or an open one for each block
abbrev pub given_or_open : List Bool → ℕ → List Bool
given_or_open [] blocks = replicate blocks false
given_or_open (locked ∷ locks) blocks = locked ∷ locks

-- Cells are made of their parts; where no locks are given each block has an open one.
pub record AreMadeOf (parts : CellParts) (cells : Cells) : Type 0 where
  pub device : cells.device ≡ parts.device
  pub table : cells.table ≡ parts.table
  pub bytes : cells.bytes.items ≡ parts.bytes.items
  pub weak : cells.weak.items ≡ parts.weak.items
  pub stuck : cells.stuck ≡ parts.stuck
  pub pace_program : cells.pace_program ≡ parts.pace_program
  pub pace_erase : cells.pace_erase ≡ parts.pace_erase
  pub pace_suspend : cells.pace_suspend ≡ parts.pace_suspend
  pub suspends : cells.suspends ≡ parts.suspends
  pub erases : cells.erases ≡ parts.erases
  pub blocks : cells.blocks.items ≡ parts.blocks.items
  pub locks : cells.locks.items ≡ given_or_open parts.locks.items (length parts.blocks.items)
