-- Buffer loads, of either set.
use Rattle.std.specs.Prelude.{◌+◌, ◌/◌, ℕ, zero, suc, List, [], ◌∷◌, length, Bool, ◌==◌, ◌&&◌}
use Rattle.nor_cell.specs.Table.{buffer_units}
use Rattle.nor_cell.specs.Chip.{ChipState, BufferData, BufferConfirm, block_of, place}

-- how many units its buffer takes
abbrev pub room : ChipState → ℕ
room s = buffer_units s.part.device s.part.table

-- Unit u is the one that a buffer load may take next: the first anywhere in the block; each later one behind
-- the one before, in the same page and block.
abbrev pub is_next : ChipState → ℕ → ℕ → List ℕ → ℕ → Bool
is_next s b first [] u = block_of s u == b
is_next s b first (x ∷ bytes) u =
    (block_of s u == b) && (place s.part u == place s.part first + length (x ∷ bytes)) && (u / room s == first / room s)

abbrev pub first_of : ℕ → List ℕ → ℕ → ℕ
first_of first [] u = u
first_of first (x ∷ bytes) u = first

-- one more unit of a buffer load
abbrev pub taken : ℕ → ℕ → ℕ → List ℕ → ChipState → ChipState
taken b zero first bytes s = record s { step = BufferConfirm first bytes }
taken b (suc missing) first bytes s = record s { step = BufferData b (suc missing) first bytes }
