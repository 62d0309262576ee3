-- Lanes of a bus word, whose bytes are a list, the lowest first.
use Rattle.std.specs.Prelude.{◌+◌, ◌*◌, ◌==◌, ◌||◌, Bool, ℕ, List, slice_index, if◌then◌else◌}

-- lane c of a word whose lanes have d bytes each, one or two, as a number, the low byte first
abbrev pub lane_of : ℕ → List ℕ → ℕ → ℕ
lane_of d word c = if d == 1 then slice_index word c else slice_index word (2 * c) + 256 * slice_index word (2 * c + 1)

-- a word has 1, 2, 4 or 8 bytes
abbrev pub is_width : ℕ → Bool
is_width width = width == 1 || width == 2 || width == 4 || width == 8
