-- What reads of a chip of either set show: the query table, and bits of a status.
use Rattle.std.specs.Prelude.{◌/◌, ℕ, Bool, ◌&&◌, nat_lt, nat_le, slice_index, if◌then◌else◌}
use Rattle.nor_cell.specs.Chip.{Part}
use Rattle.nor_cell.specs.declared.device.Device.{Device}
use Rattle.nor_cell.specs.declared.device.Device.TheVariants.{X8, X16, X16Byte}

-- the register of a unit: in byte mode a register takes two units
abbrev pub register : Device → ℕ → ℕ
register X8 u = u
register X16 u = u
register X16Byte u = u / 2

-- the table, but for its first sixteen bytes
abbrev pub query_at : Part → ℕ → ℕ
query_at part u =
    let r = register part.device u in
    if nat_le 0x10 r && nat_lt r 0x200 then slice_index part.table r else 0

abbrev pub bit_if : ℕ → Bool → ℕ
bit_if n b = if b then n else 0
