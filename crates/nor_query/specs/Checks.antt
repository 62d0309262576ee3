-- The checks of a query table, in their order.
use Rattle.std.specs.Prelude.{◌+◌, ◌*◌, ◌^◌, ℕ, List, [], ◌∷◌, ◌++◌, Bool, not, ◌==◌, ◌&&◌, ◌||◌, nat_le, if◌then◌else◌, Option, Some, None}
use Rattle.nor_cell.specs.Table.{field_8, field_16, extended_at, extended, set_of}
use Rattle.nor_region.specs.Regions.{total_len}
use Rattle.nor_query.specs.Fields.{region_count, regions_of, named_len}
use Rattle.nor_query.specs.declared.error.QueryError.{QueryError}
use Rattle.nor_query.specs.declared.error.QueryKind.{QueryKind}
use Rattle.nor_query.specs.declared.error.QueryKind.TheVariants.{NoQry, UnknownSet, BadSize, BadInterface, NoRegions, TooManyRegions, BadExtended, UnknownVersion, SizeMismatch}

-- a check of a table: whether it holds, and what is wrong where it doesn't
pub record Check : Type 0 where
  pub holds : Bool
  pub error : QueryError

abbrev pub check : Bool → (at : ℕ) → QueryKind → Check
check holds at kind = record { holds = holds; error = record { at = at; kind = kind } }

-- what the first check says that doesn't hold
abbrev pub first_of : List Check → Option QueryError
first_of [] = None
first_of (c ∷ checks) = if c.holds then first_of checks else Some c.error

-- whether a byte is from `low` to `high`
abbrev pub is_within : (low high n : ℕ) → Bool
is_within low high n = nat_le low n && nat_le n high

-- the byte at a place is this one
abbrev pub shows : List ℕ → (at byte : ℕ) → QueryKind → Check
shows table at byte kind = check (field_8 table at == byte) at kind

-- the words Q, R, Y, the set, the size, the interface and the number of regions
abbrev pub head_checks : List ℕ → List Check
head_checks table =
    shows table 0x10 0x51 NoQry
    ∷ shows table 0x11 0x52 NoQry
    ∷ shows table 0x12 0x59 NoQry
    ∷ check (field_16 table 0x13 == 1 || field_16 table 0x13 == 2) 0x13 (UnknownSet (field_16 table 0x13))
    ∷ check (is_within 12 27 (field_8 table 0x27)) 0x27 (BadSize (field_8 table 0x27))
    ∷ check (nat_le (field_16 table 0x28) 2) 0x28 (BadInterface (field_16 table 0x28))
    ∷ check (not (region_count table == 0)) 0x2C NoRegions
    ∷ check (nat_le (region_count table) 8) 0x2C (TooManyRegions (region_count table))
    ∷ []

-- the extended table lies behind the regions and in the table
abbrev pub has_place : List ℕ → Bool
has_place table = nat_le (0x2D + 4 * region_count table) (extended_at table)
    && nat_le (extended_at table + named_len (set_of table)) 0x200

-- the place of the extended table, the words P, R, I, and the version from 1.0 to 1.5
abbrev pub extended_checks : List ℕ → List Check
extended_checks table =
    check (has_place table) 0x15 BadExtended
    ∷ shows table (extended_at table) 0x50 BadExtended
    ∷ shows table (extended_at table + 1) 0x52 BadExtended
    ∷ shows table (extended_at table + 2) 0x49 BadExtended
    ∷ shows table (extended_at table + 3) 0x31 UnknownVersion
    ∷ check (is_within 0x30 0x35 (extended table 4)) (extended_at table + 4) UnknownVersion
    ∷ []

-- the regions have as many bytes as the chip
abbrev pub sum_check : List ℕ → Check
sum_check table =
    check (total_len (regions_of table) == 2 ^ field_8 table 0x27) 0x2D
    (SizeMismatch (total_len (regions_of table)) (2 ^ field_8 table 0x27))

-- what is wrong with a table, by the first check that doesn't hold
abbrev pub first_error : List ℕ → Option QueryError
first_error table = first_of (head_checks table ++ (extended_checks table ++ sum_check table ∷ []))
