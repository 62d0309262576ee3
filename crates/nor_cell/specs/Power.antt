-- What a loss of power leaves, and what its return makes of it.
use Rattle.std.specs.Prelude.{◌≡◌, ◌<◌, ◌+◌, ◌-◌, ℕ, List, length, slice_index, Bool, true, false, ◌&&◌, ◌||◌, nat_le, nat_lt, if◌then◌else◌, replicate}
use Rattle.nor_cell.specs.Bits.{IsBetween}
use Rattle.nor_cell.specs.Table.{has_locks}
use Rattle.nor_cell.specs.Chip.{ChipState, Job, Idle, Program, Erase, Pausing, NotHeld, NoFault, Array, Rest, block, covered, is_within, holds_at}
use Rattle.nor_cell.specs.declared.device.Span.{Span}
use Rattle.nor_cell.specs.declared.device.Set.{Set}
use Rattle.nor_cell.specs.declared.device.Set.TheVariants.{Intel, Amd}

-- the place lies in the block that is being erased, or whose erase is suspended
abbrev pub erases_at : Job → List Span → ℕ → Bool
erases_at Idle blocks p = false
erases_at (Program at bytes left) blocks p = false
erases_at (Erase target left) blocks p = is_within (covered target blocks) p
erases_at (Pausing b wait left) blocks p = is_within (block blocks b) p

abbrev pub programs_at : Job → ℕ → Bool
programs_at Idle p = false
programs_at (Program at bytes left) p = nat_le at p && nat_lt p (at + length bytes)
programs_at (Erase target left) p = false
programs_at (Pausing b wait left) p = false

-- the datum of a place that is programmed
abbrev pub datum_at : Job → ℕ → ℕ
datum_at Idle p = 0
datum_at (Program at bytes left) p = slice_index bytes (p - at)
datum_at (Erase target left) p = 0
datum_at (Pausing b wait left) p = 0

-- the place lies in a block under erase, running or suspended
abbrev pub is_erasing_at : ChipState → ℕ → Bool
is_erasing_at s p = erases_at s.job s.part.blocks p || holds_at s.held s.part.blocks p

-- Power is lost: a block under erase may hold any bytes, a byte that is programmed bits between, and all else stays.
pub record Cuts (old new : ChipState) : Type 0 where
  pub size : length new.cells ≡ length old.cells
  pub erasing : (p : ℕ) → is_erasing_at old p ≡ true → slice_index new.cells p < 256
  pub programming : (p : ℕ) → is_erasing_at old p ≡ false → programs_at old.job p ≡ true →
      IsBetween (slice_index old.cells p) (datum_at old.job p) (slice_index new.cells p)
  pub kept : (p : ℕ) → is_erasing_at old p ≡ false → programs_at old.job p ≡ false
      → slice_index new.cells p ≡ slice_index old.cells p
  pub rest : new ≡ record old { cells = new.cells }

-- The locks after power-on: where the table offers locks set 0001 has all of them set, and set 0002 keeps them.
-- Where it offers none, none is set.
abbrev pub locks_after : Set → List ℕ → List Bool → List Bool
locks_after Intel table locks = replicate (length locks) (has_locks table)
locks_after Amd table locks = if has_locks table then locks else replicate (length locks) false

-- Power is back.
abbrev pub powered : ChipState → ChipState
powered s = record s {
  mode = Array;
  step = Rest;
  job = Idle;
  held = NotHeld;
  fault = NoFault;
  flags = record { erase = false; program = false; locked = false };
  toggle_6 = false;
  toggle_2 = false;
  locks = locks_after s.part.set s.part.table s.locks;
}
