-- The query table in a file: its bytes, or the low ones of device words of two bytes.
use Rattle.std.specs.Prelude.{ℕ, List, [], ◌∷◌, length, Bool, true, not, ◌==◌, ◌&&◌, if◌then◌else◌, Option, Some}
use Rattle.std.specs.Option.{option_map}
use Rattle.nor_query.specs.Checks.{first_error}
use Rattle.nor_dump.specs.declared.table.TableError.{TableError}
use Rattle.nor_dump.specs.declared.table.TableError.TheVariants.{Length, HighByte, Query}

-- the low byte of each word, and whether each high one is 0
abbrev pub low_bytes : List ℕ → List ℕ
low_bytes [] = []
low_bytes (low ∷ []) = low ∷ []
low_bytes (low ∷ high ∷ words) = low ∷ low_bytes words

abbrev pub are_low : List ℕ → Bool
are_low [] = true
are_low (low ∷ []) = true
are_low (low ∷ high ∷ words) = (high == 0) && are_low words

abbrev pub table_of : List ℕ → List ℕ
table_of file = if length file == 512 then file else low_bytes file

-- what is wrong with the file of a table: its length, a high byte, or what the table says
abbrev pub table_error : List ℕ → Option TableError
table_error file =
    if length file == 512 then option_map Query (first_error file)
    else if not (length file == 1024) then Some (Length (length file))
    else if are_low file then option_map Query (first_error (low_bytes file))
    else Some HighByte
