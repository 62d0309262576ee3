-- The fields of a query table, each read at its place.
use Rattle.std.specs.Prelude.{◌+◌, ◌-◌, ◌*◌, ℕ, zero, suc, List, [], ◌∷◌, Bool, ◌==◌, ◌&&◌, ◌||◌, nat_lt, nat_le}
use Rattle.nor_cell.specs.Table.{field_8, field_16, extended_at, extended, set_of}
use Rattle.nor_cell.specs.declared.device.Set.{Set}
use Rattle.nor_cell.specs.declared.device.Set.TheVariants.{Intel as IntelSet, Amd as AmdSet}
use Rattle.nor_region.specs.declared.region.Region.{Region}
use Rattle.nor_query.specs.declared.query.Extended.{Extended}
use Rattle.nor_query.specs.declared.query.Extended.TheVariants.{Intel, Amd}

abbrev pub field_32 : List ℕ → ℕ → ℕ
field_32 table at = field_16 table at + 65536 * field_16 table (at + 2)

-- the n bytes from a place on
abbrev pub bytes_at : List ℕ → (at n : ℕ) → List ℕ
bytes_at table at zero = []
bytes_at table at (suc n) = field_8 table at ∷ bytes_at table (at + 1) n

-- a block size in steps of 256 bytes, where 0 is 128 bytes
abbrev pub block_size : ℕ → ℕ
block_size zero = 128
block_size (suc n) = 256 * suc n

-- four bytes: the number of blocks less one, and the size of a block
abbrev pub region_at : List ℕ → ℕ → Region
region_at table at = record { count = field_16 table at + 1; size = block_size (field_16 table (at + 2)) }

abbrev pub regions_at : List ℕ → (at n : ℕ) → List Region
regions_at table at zero = []
regions_at table at (suc n) = region_at table at ∷ regions_at table (at + 4) n

-- how many regions the table has, and which
abbrev pub region_count : List ℕ → ℕ
region_count table = field_8 table 0x2C

abbrev pub regions_of : List ℕ → List Region
regions_of table = regions_at table 0x2D (region_count table)

-- what the primary extended table of a set says
abbrev pub extended_of : Set → List ℕ → Extended
extended_of IntelSet table = Intel (field_32 table (extended_at table + 5)) (extended table 9)
extended_of AmdSet table = Amd (extended table 6) (extended table 9) (extended table 15)

-- how long the part of the extended table is that has names
abbrev pub named_len : Set → ℕ
named_len IntelSet = 10
named_len AmdSet = 16

-- its bytes with a name: P, R, I, the two of the version, and those that `extended_of` reads
abbrev pub is_named_extended : Set → ℕ → Bool
is_named_extended IntelSet k = nat_lt k 10
is_named_extended AmdSet k = nat_lt k 5 || k == 6 || k == 9 || k == 15

-- Whether a byte has a name, in a table of so many regions whose extended table begins there. The others are free.
abbrev pub is_named : Set → (regions ext at : ℕ) → Bool
is_named set regions ext at =
    nat_le 0x10 at && nat_lt at (0x2D + 4 * regions)
    || nat_le ext at && is_named_extended set (at - ext)

-- whether a byte of this table has a name
abbrev pub is_named_in : List ℕ → ℕ → Bool
is_named_in table at = is_named (set_of table) (region_count table) (extended_at table) at
