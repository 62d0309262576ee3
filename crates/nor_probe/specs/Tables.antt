-- The query tables of a bank's lanes, as a wiring reads them.
use Rattle.std.specs.Prelude.{◌==◌, ◌%◌, ◌+◌, not, nat_lt, ℕ, zero, suc, List, Option, Some, None, map, is_some, if◌then◌else◌}
use Rattle.std.specs.List.{find, range_with_len}
use Rattle.std.specs.Option.{option_map, option_and_then}
use Rattle.nor_cell.specs.Bits.{unit_len}
use Rattle.nor_cell.specs.Chip.{ChipState}
use Rattle.nor_cell.specs.declared.device.Device.{Device}
use Rattle.nor_cell.specs.declared.geometry.Geometry.{Geometry}
use Rattle.nor_word.specs.Word.{lane_of}
use Rattle.nor_bus.specs.Words.{query_word}
use Rattle.nor_probe.specs.Found.{query_address}
use Rattle.nor_probe.specs.declared.error.ProbeError.{ProbeError}
use Rattle.nor_probe.specs.declared.error.ProbeError.TheVariants.{LaneDiffers}

-- the bus word with byte n of each lane's table
abbrev pub table_word : Geometry → List ChipState → ℕ → List ℕ
table_word g chips n = query_word chips (query_address g.device n)

-- the low byte of lane c of a word
abbrev pub low_byte : Geometry → List ℕ → ℕ → ℕ
low_byte g word c = lane_of (unit_len g.device) word c % 256

-- lane c's table: 512 bytes
unfoldable pub table_read : Geometry → List ChipState → ℕ → List ℕ
table_read g chips c = map (λ n. low_byte g (table_word g chips n) c) (range_with_len 0 512)

-- the lowest lane of a word whose low byte isn't lane 0's
abbrev pub odd_lane : Geometry → List ℕ → Option ℕ
odd_lane g word = find (λ c. not (low_byte g word 0 == low_byte g word c)) (range_with_len 0 g.lanes)

-- that lane and its byte, beside lane 0's, where the word has byte n of each table
abbrev pub difference_in : Geometry → ℕ → List ℕ → Option ProbeError
difference_in g n word = option_map (λ c. LaneDiffers c n (low_byte g word 0) (low_byte g word c)) (odd_lane g word)

-- the first of the 512 words whose lanes differ, and how
unfoldable pub first_difference : Geometry → List ChipState → Option ProbeError
first_difference g chips =
    option_and_then (λ n. difference_in g n (table_word g chips n))
    (find (λ n. is_some (odd_lane g (table_word g chips n))) (range_with_len 0 512))

-- ---- what is known of the tables before they are read

-- Chips that show `QRY` show it in every lane, and no chip shows anything below bus address 0x10.
abbrev pub known_byte : Device → ℕ → Option ℕ
known_byte device n =
    if n == 0x10 then Some 0x51
    else if n == 0x11 then Some 0x52
    else if n == 0x12 then Some 0x59
    else if nat_lt (query_address device n) 0x10 then Some 0
    else None

-- how many words have to be read for byte n, and for the first n bytes
abbrev pub reads_at : Device → ℕ → ℕ
reads_at device n = if is_some (known_byte device n) then 0 else 1

unfoldable pub reads_before : Device → ℕ → ℕ
reads_before device zero = 0
reads_before device (suc n) = reads_before device n + reads_at device n
