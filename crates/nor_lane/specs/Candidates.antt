-- The nine wirings of a bus word.
use Rattle.std.specs.Prelude.{ℕ, ◌*◌, List, [], ◌∷◌, Bool, ◌==◌, if◌then◌else◌}
use Rattle.nor_cell.specs.Bits.{unit_len}
use Rattle.nor_cell.specs.Wiring.{is_wiring}
use Rattle.nor_cell.specs.declared.device.Device.{Device}
use Rattle.nor_cell.specs.declared.device.Device.TheVariants.{X8, X16, X16Byte}
use Rattle.nor_cell.specs.declared.geometry.Geometry.{Geometry}

-- so many lanes of a device
abbrev pub wiring : ℕ → Device → Geometry
wiring lanes device = record { lanes = lanes; device = device }

-- the wirings of a word of so many bytes, in the order in which they are tried
abbrev pub candidates_of : ℕ → List Geometry
candidates_of width =
    if width == 1 then wiring 1 X8 ∷ wiring 1 X16Byte ∷ []
    else if width == 2 then wiring 2 X8 ∷ wiring 2 X16Byte ∷ wiring 1 X16 ∷ []
    else if width == 4 then wiring 4 X8 ∷ wiring 4 X16Byte ∷ wiring 2 X16 ∷ []
    else if width == 8 then wiring 4 X16 ∷ []
    else []

-- one of the nine: a wiring of the word that its lanes fill
abbrev pub is_geometry : Geometry → Bool
is_geometry g = is_wiring (g.lanes * unit_len g.device) g.lanes g.device
