-- What stands in a table once a part of it is written.
use Rattle.std.specs.Prelude.{◌≡◌, ◌<◌, ◌≤◌, ◌+◌, ℕ, List, length, slice_index}
use Rattle.nor_cell.specs.Table.{field_8, field_16}
use Rattle.nor_cell.specs.declared.device.Set.{Set}
use Rattle.nor_cell.specs.declared.device.Set.TheVariants.{Intel as IntelSet, Amd as AmdSet}
use Rattle.nor_query.specs.Fields.{field_32, bytes_at}
use Rattle.nor_query.specs.declared.query.Query.{Query}
use Rattle.nor_query.specs.declared.query.Extended.{Extended}
use Rattle.nor_query.specs.declared.query.Extended.TheVariants.{Intel, Amd}

-- the bytes from `from` up to `to` are the same in two tables
abbrev pub SameWithin : (from to : ℕ) → List ℕ → List ℕ → Type 0
SameWithin from to old new = (at : ℕ) → from ≤ at → at < to → slice_index new at ≡ slice_index old at

-- the identifier of a command set
abbrev pub set_code : Set → ℕ
set_code IntelSet = 1
set_code AmdSet = 2

-- the words Q, R, Y and the fields behind them, up to the number of regions, from a place on
pub record HeadReads (table : List ℕ) (at : ℕ) (query : Query) : Type 0 where
  pub q : field_8 table at ≡ 0x51
  pub r : field_8 table (at + 1) ≡ 0x52
  pub y : field_8 table (at + 2) ≡ 0x59
  pub set : field_16 table (at + 3) ≡ set_code query.set
  pub ext : field_16 table (at + 5) ≡ query.ext
  pub alt_set : field_16 table (at + 7) ≡ query.alt_set
  pub alt_ext : field_16 table (at + 9) ≡ query.alt_ext
  pub volts : bytes_at table (at + 11) 4 ≡ query.volts
  pub times : bytes_at table (at + 15) 8 ≡ query.times
  pub size_log : field_8 table (at + 23) ≡ query.size_log
  pub interface : field_16 table (at + 24) ≡ query.interface
  pub buffer_log : field_16 table (at + 26) ≡ query.buffer_log
  pub count : field_8 table (at + 28) ≡ length query.regions.items

-- what a set's extended table says, from a place on
abbrev pub Says : List ℕ → ℕ → Extended → Type 0
Says table ext (Intel features in_suspend) = (field_32 table (ext + 5) ≡ features)
    × (field_8 table (ext + 9) ≡ in_suspend)
Says table ext (Amd suspend protect boot) = (field_8 table (ext + 6) ≡ suspend)
    × (field_8 table (ext + 9) ≡ protect) × (field_8 table (ext + 15) ≡ boot)

-- the words P, R, I, the version, and what the set's table says
pub record ExtendedReads (table : List ℕ) (ext minor : ℕ) (extended : Extended) : Type 0 where
  pub p : field_8 table ext ≡ 0x50
  pub r : field_8 table (ext + 1) ≡ 0x52
  pub i : field_8 table (ext + 2) ≡ 0x49
  pub major : field_8 table (ext + 3) ≡ 0x31
  pub minor_is : field_8 table (ext + 4) ≡ minor + 0x30
  pub says : Says table ext extended
