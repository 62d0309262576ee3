-- Why a bank is refused, as text.
use Rattle.std.specs.Prelude.{ℕ, List, ◌++◌, codes, decimal}
use Rattle.nor_query.specs.declared.error.QueryError.{QueryError}
use Rattle.nor_query.specs.declared.error.QueryKind.{QueryKind}
use Rattle.nor_query.specs.declared.error.QueryKind.TheVariants.{NoQry, UnknownSet, BadSize, BadInterface, NoRegions, TooManyRegions, BadExtended, UnknownVersion, SizeMismatch}
use Rattle.nor_show.specs.Lines.{hex_number, hex_byte, hex_word}

-- what is out of range in a query table
abbrev pub kind_text : QueryKind → List ℕ
kind_text NoQry = codes "no qry"
kind_text (UnknownSet set) = codes "set " ++ hex_word set
kind_text (BadSize size) = codes "size " ++ decimal size
kind_text (BadInterface interface) = codes "interface " ++ decimal interface
kind_text NoRegions = codes "no regions"
kind_text (TooManyRegions regions) = decimal regions ++ codes " regions"
kind_text BadExtended = codes "extended"
kind_text UnknownVersion = codes "version"
kind_text (SizeMismatch sum size) = codes "sum " ++ decimal sum ++ codes " size " ++ decimal size

-- a place in a query table, in device words
abbrev pub at_place : ℕ → List ℕ
at_place at = codes " at 0x" ++ hex_number at

-- the first byte of a table that is out of range
abbrev pub query_text : QueryError → List ℕ
query_text error = codes "query" ++ at_place error.at ++ codes ": " ++ kind_text error.kind

-- a lane whose table isn't lane 0's: where, and what each of the two has there
abbrev pub difference_text : (lane offset left right : ℕ) → List ℕ
difference_text lane offset left right =
    codes "lane " ++ decimal lane ++ codes " differs" ++ at_place offset ++ codes ": " ++ hex_byte left ++ codes " " ++ hex_byte right
