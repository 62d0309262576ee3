-- Little-endian numbers in a list of bytes.
use Rattle.std.specs.Prelude.{ℕ, ◌+◌, ◌*◌, List, slice_index}

-- the number in the two bytes at a place, the lowest first
abbrev pub u16_at : List ℕ → ℕ → ℕ
u16_at bytes at = slice_index bytes at + 256 * slice_index bytes (at + 1)

-- the number in the four bytes at a place, the lowest first
abbrev pub u32_at : List ℕ → ℕ → ℕ
u32_at bytes at = u16_at bytes at + 65536 * u16_at bytes (at + 2)
