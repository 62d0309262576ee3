-- The bank that is made of a query table and a dump of its bytes.
use Rattle.std.specs.Prelude.{◌≡◌, ◌<◌, ◌*◌, ◌^◌, ℕ, zero, suc, List, [], ◌∷◌, ◌++◌, length, slice_index, false, replicate, None, IsTrue}
use Rattle.nor_cell.specs.Bits.{unit_len}
use Rattle.nor_cell.specs.Chip.{ChipState}
use Rattle.nor_cell.specs.Power.{powered}
use Rattle.nor_cell.specs.Table.{field_8, set_of}
use Rattle.nor_cell.specs.Wiring.{is_wiring, bank_place}
use Rattle.nor_cell.specs.declared.geometry.Geometry.{Geometry}
use Rattle.nor_bus.specs.Bus.{bank_byte, no_chip}
use Rattle.nor_query.specs.Checks.{first_error}
use Rattle.nor_query.specs.Derived.{table_blocks}
use Rattle.nor_image.specs.Image.{IsImageOf}
use Rattle.nor_image.specs.Written.{file_of}
use Rattle.nor_dump.specs.Changes.{paces_of, weak_of, is_stuck, change_error}
use Rattle.nor_dump.specs.Dump.{IsDumpOf}
use Rattle.nor_dump.specs.declared.changes.Change.{Change}

-- how many bytes a chip with this table has
abbrev pub chip_size : List ℕ → ℕ
chip_size table = 2 ^ field_8 table 0x27

-- the first n cells of the chip of lane c, where a bank has these bytes: units of the device go round the chips
abbrev pub lane_cells : Geometry → List ℕ → (c n : ℕ) → List ℕ
lane_cells g raw c zero = []
lane_cells g raw c (suc n) = lane_cells g raw c n ++ slice_index raw (bank_place g.lanes (unit_len g.device) c n) ∷ []

-- the chip of lane c, as after power-on
abbrev pub made_chip : Geometry → List ℕ → List Change → List ℕ → ℕ → ChipState
made_chip g table changes raw c = powered (record no_chip {
  part = record {
    set = set_of table;
    device = g.device;
    table = table;
    blocks = table_blocks table;
    weak = weak_of c changes;
    stuck = is_stuck c changes;
    pace_program = (paces_of changes).program;
    pace_erase = (paces_of changes).erase;
    pace_suspend = (paces_of changes).suspend;
  };
  cells = lane_cells g raw c (chip_size table);
  locks = replicate (length (table_blocks table)) false;
})

-- those of the first n lanes
abbrev pub made_chips : Geometry → List ℕ → List Change → List ℕ → ℕ → List ChipState
made_chips g table changes raw zero = []
made_chips g table changes raw (suc n) = made_chips g table changes raw n ++ made_chip g table changes raw n ∷ []

-- Of what a bank can be made: one of the nine wirings, a table that is accepted, as many bytes as the chips have, and
-- changes that they may have.
pub record CanMake (width : ℕ) (g : Geometry) (table : List ℕ) (changes : List Change) (raw : List ℕ) : Type 0 where
  pub wiring : IsTrue (is_wiring width g.lanes g.device)
  pub accepted : first_error table ≡ None
  pub whole : length raw ≡ g.lanes * chip_size table
  pub fit : change_error g (chip_size table) changes ≡ None

-- The file is that of the bank of these chips, whose bytes are those of the dump.
pub record IsMade (width : ℕ) (g : Geometry) (table : List ℕ) (changes : List Change) (raw file : List ℕ) : Type 0 where
  pub is_file : file ≡ file_of width (made_chips g table changes raw g.lanes)
  -- byte a of the bank is byte a of the dump
  pub bytes : (a : ℕ) → a < length raw
      → bank_byte g.device (made_chips g table changes raw g.lanes) a ≡ slice_index raw a
  -- reading the file gives this bank
  pub image : IsImageOf file width (made_chips g table changes raw g.lanes)
  -- and a dump of the file gives the bytes again
  pub back : IsDumpOf file raw
