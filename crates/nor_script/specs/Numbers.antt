-- The numbers of a script.
use Rattle.std.specs.Prelude.{ℕ, ◌+◌, ◌*◌, ◌^◌, ◌==◌, nat_lt, nat_le, ◌&&◌, if◌then◌else◌, List, [], ◌∷◌, length, drop, slice_index, Option, Some, None}
use Rattle.hex.specs.Hex.{hex_digit_value}

-- a digit in a base, after what was read before it, below 2 ^ 32
abbrev pub and_digit : ℕ → ℕ → Option ℕ → Option ℕ
and_digit base before None = None
and_digit base before (Some digit) =
    if nat_lt digit base && nat_lt (before * base + digit) (2 ^ 32) then Some (before * base + digit) else None

abbrev pub number_from : ℕ → Option ℕ → List ℕ → Option ℕ
number_from base None digits = None
number_from base (Some before) [] = Some before
number_from base (Some before) (digit ∷ digits) =
    number_from base (and_digit base before (hex_digit_value digit)) digits

-- one digit at least, and so many at most
abbrev pub digits_number : ℕ → ℕ → List ℕ → Option ℕ
digits_number base most digits =
    if nat_lt 0 (length digits) && nat_le (length digits) most then number_from base (Some 0) digits else None

-- one to ten decimal digits, or 0x and one to eight hex digits
abbrev pub number_of : List ℕ → Option ℕ
number_of text =
    if (slice_index text 0 == 48) && (slice_index text 1 == 120) then digits_number 16 8 (drop 2 text)
    else digits_number 10 10 text
