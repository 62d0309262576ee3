-- Which wiring a bank answers to.
use Rattle.std.specs.Prelude.{◌*◌, ◌==◌, ◌&&◌, ℕ, zero, suc, Bool, true, List, Option}
use Rattle.std.specs.List.{find}
use Rattle.nor_cell.specs.Bits.{unit_len}
use Rattle.nor_cell.specs.Chip.{ChipState}
use Rattle.nor_cell.specs.declared.device.Device.{Device}
use Rattle.nor_cell.specs.declared.device.Device.TheVariants.{X8, X16, X16Byte}
use Rattle.nor_cell.specs.declared.geometry.Geometry.{Geometry}
use Rattle.nor_word.specs.Word.{lane_of}
use Rattle.nor_bus.specs.Words.{query_word}
use Rattle.nor_lane.specs.Candidates.{candidates_of}

-- the bus address of word n of the query table, as a wiring has it
abbrev pub query_address : Device → ℕ → ℕ
query_address X8 n = n
query_address X16 n = n
query_address X16Byte n = 2 * n

-- each of the first lanes of a word, d bytes each, reads v
abbrev pub lanes_read : (d lanes : ℕ) → List ℕ → ℕ → Bool
lanes_read d zero word v = true
lanes_read d (suc c) word v = lanes_read d c word v && (lane_of d word c == v)

-- every lane of the wiring reads v where word n of the query table stands
abbrev pub shows_at : Geometry → List ChipState → ℕ → ℕ → Bool
shows_at g chips n v = lanes_read (unit_len g.device) g.lanes (query_word chips (query_address g.device n)) v

-- every lane of the wiring shows `QRY` where a query table begins with it
abbrev pub shows_qry : Geometry → List ChipState → Bool
shows_qry g chips = shows_at g chips 0x10 0x51 && shows_at g chips 0x11 0x52 && shows_at g chips 0x12 0x59

-- the first wiring of a bus of so many bytes that does
abbrev pub found_geometry : ℕ → List ChipState → Option Geometry
found_geometry width chips = find (λ g. shows_qry g chips) (candidates_of width)
