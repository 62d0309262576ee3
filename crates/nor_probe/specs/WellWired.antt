-- Banks whose chips are what their tables say.
use Rattle.std.specs.Prelude.{◌≡◌, ◌<◌, ◌^◌, ℕ, List, length, ◌++◌, drop, replicate, false, Some}
use Rattle.nor_cell.specs.Chip.{ChipState, is_locked}
use Rattle.nor_cell.specs.Ranges.{IsChip}
use Rattle.nor_cell.specs.Table.{field_8, set_of, has_locks}
use Rattle.nor_cell.specs.declared.geometry.Geometry.{Geometry}
use Rattle.nor_bus.specs.Bus.{BusState, lane, lanes_of}
use Rattle.nor_bus.specs.Driven.{IsOwn, AllLanes}
use Rattle.nor_probe.specs.Found.{found_geometry}
use Rattle.nor_probe.specs.Probed.{IsFoundBy}
use Rattle.nor_probe.specs.Tables.{table_read}
use Rattle.nor_probe.specs.declared.probing.Found.{Found}

-- the table that a chip shows: its own, but for the first sixteen bytes, which read 0
unfoldable pub shown_table : ChipState → List ℕ
shown_table s = replicate 16 0 ++ drop 16 s.part.table

-- a query table begins with `QRY`
pub record HasQry (table : List ℕ) : Type 0 where
  pub q : field_8 table 0x10 ≡ 0x51
  pub r : field_8 table 0x11 ≡ 0x52
  pub y : field_8 table 0x12 ≡ 0x59

-- A chip's table begins with `QRY` and names the chip's set and size. Where it offers no locks, no block is locked.
pub record IsAsItsTable (s : ChipState) : Type 0 where
  pub chip : IsChip s
  pub qry : HasQry s.part.table
  pub set : s.part.set ≡ set_of s.part.table
  pub size : length s.cells ≡ 2 ^ field_8 s.part.table 0x27
  pub unlocked : has_locks s.part.table ≡ false → (b : ℕ) → is_locked s b ≡ false

-- The bus has this wiring, and its chips are what their tables say.
pub record IsWellWired (width : ℕ) (g : Geometry) (bus : BusState) : Type 0 where
  pub own : IsOwn width g bus
  pub chips : AllLanes IsAsItsTable bus

-- The wiring that is found is the bus's own, and what it reads of each lane is the table that the chip shows.
pub record ShowsItself (width : ℕ) (g : Geometry) (bus : BusState) : Type 0 where
  pub wiring : found_geometry width bus.lanes ≡ Some g
  pub tables : (c : ℕ) → c < lanes_of bus → table_read g bus.lanes c ≡ shown_table (lane bus c)

-- each lane shows this table
abbrev pub AllShow : List ℕ → BusState → Type 0
AllShow table bus = AllLanes (λ s. shown_table s ≡ table) bus

-- What is found is the bus's own: its wiring, and what the table says that each lane shows.
pub record IsOwnFound (g : Geometry) (bus : BusState) (found : Found) : Type 0 where
  pub table : List ℕ
  pub same : AllShow table bus
  pub says : IsFoundBy g table found
