-- What a query table stands for.
use Rattle.std.specs.Prelude.{◌≡◌, ◌<◌, ◌+◌, ℕ, List, length, slice_index, if◌then◌else◌, None}
use Rattle.nor_cell.specs.Bits.{AreBytes}
use Rattle.nor_cell.specs.Table.{field_8, field_16, extended_at, extended, set_of}
use Rattle.nor_query.specs.Checks.{first_error}
use Rattle.nor_query.specs.Fields.{bytes_at, regions_of, extended_of, is_named_in}
use Rattle.nor_query.specs.declared.query.Query.{Query}

-- A table of 512 bytes stands for a query: each check holds, each field reads so, and the rest has the free bytes, and 0 in the named places.
pub record StandsFor (table : List ℕ) (q : Query) : Type 0 where
  pub len : length table ≡ 512
  pub bytes : AreBytes table
  pub checks : first_error table ≡ None
  pub set : q.set ≡ set_of table
  pub ext : q.ext ≡ extended_at table
  pub alt_set : q.alt_set ≡ field_16 table 0x17
  pub alt_ext : q.alt_ext ≡ field_16 table 0x19
  pub volts : q.volts ≡ bytes_at table 0x1B 4
  pub times : q.times ≡ bytes_at table 0x1F 8
  pub size_log : q.size_log ≡ field_8 table 0x27
  pub interface : q.interface ≡ field_16 table 0x28
  pub buffer_log : q.buffer_log ≡ field_16 table 0x2A
  pub regions : q.regions.items ≡ regions_of table
  pub minor : q.minor + 0x30 ≡ extended table 4
  pub extended : q.extended ≡ extended_of (set_of table) table
  pub rest_len : length q.rest ≡ 512
  pub rest : (at : ℕ) → at < 512 → slice_index q.rest at ≡ (if is_named_in table at then 0 else slice_index table at)
