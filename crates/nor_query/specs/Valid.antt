-- Which queries a table can stand for.
use Rattle.std.specs.Prelude.{◌≡◌, ◌<◌, ◌≤◌, ◌+◌, ◌*◌, ◌%◌, ◌^◌, ℕ, length, slice_index, Bool, ◌==◌, ◌&&◌, ◌||◌, IsTrue}
use Rattle.std.specs.List.{list_all}
use Rattle.nor_cell.specs.declared.device.Set.{Set}
use Rattle.nor_cell.specs.declared.device.Set.TheVariants.{Intel as IntelSet, Amd as AmdSet}
use Rattle.nor_region.specs.Regions.{is_region, total_len}
use Rattle.nor_region.specs.declared.region.Region.{Region}
use Rattle.nor_query.specs.Fields.{named_len, is_named}
use Rattle.nor_query.specs.declared.query.Query.{Query}
use Rattle.nor_query.specs.declared.query.Extended.{Extended}
use Rattle.nor_query.specs.declared.query.Extended.TheVariants.{Intel, Amd}

-- the set that an extended part belongs to
abbrev pub set_of_extended : Extended → Set
set_of_extended (Intel features in_suspend) = IntelSet
set_of_extended (Amd suspend protect boot) = AmdSet

-- 1 to 65,536 blocks of 128 bytes, or of a multiple of 256 bytes
abbrev pub is_table_region : Region → Bool
is_table_region region = is_region region && (region.size == 128 || region.size % 256 == 0)

-- All checks hold of the fields, and no named place has a byte in the rest.
pub record IsValid (q : Query) : Type 0 where
  pub set : q.set ≡ set_of_extended q.extended
  pub size_log : (12 ≤ q.size_log) × (q.size_log ≤ 27)
  pub interface : q.interface ≤ 2
  pub minor : q.minor ≤ 5
  pub some_regions : 0 < length q.regions.items
  pub few_regions : length q.regions.items ≤ 8
  pub ranges : IsTrue (list_all is_table_region q.regions.items)
  pub sum : total_len q.regions.items ≡ 2 ^ q.size_log
  pub behind : 0x2D + 4 * length q.regions.items ≤ q.ext
  pub inside : q.ext + named_len q.set ≤ 512
  pub rest : (at : ℕ) → at < 512 → IsTrue (is_named q.set (length q.regions.items) q.ext at) → slice_index q.rest at ≡ 0
