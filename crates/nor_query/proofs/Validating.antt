-- A query is valid where its parts are.
use Rattle.std.proofs.Common.{◌≡◌, ◌<◌, ◌≤◌, ℕ, ◌+◌, ◌*◌, ◌^◌, length, Bool, true}
use Rattle.std.specs.Prelude.{slice_index, ◌↔◌}
use Rattle.std.specs.List.{list_all}
use Rattle.nor_region.specs.Regions.{total_len}
use Rattle.nor_query.specs.Fields.{named_len, is_named}
use Rattle.nor_query.specs.Valid.{IsValid, is_table_region, set_of_extended}
use Rattle.nor_query.specs.declared.query.Query.{Query}

-- no place with a name has a byte in the rest
abbrev pub IsRestFree : Query → Type 0
IsRestFree q = (at : ℕ) → at < 512 → is_named q.set (length q.regions.items) q.ext at ≡ true → slice_index q.rest at ≡ 0

-- where all else is in range, the rest decides
pub valid_where_free : (q : Query) (free : Bool) → (q.set ≡ set_of_extended q.extended) × (12 ≤ q.size_log) × (q.size_log ≤ 27) × (q.interface ≤ 2) × (q.minor ≤ 5)
    → (0 < length q.regions.items) × (list_all is_table_region q.regions.items ≡ true) → length q.regions.items ≤ 8
    → total_len q.regions.items ≡ 2 ^ q.size_log → (0x2D + 4 * length q.regions.items ≤ q.ext) × (q.ext + named_len q.set ≤ 512)
    → ((free ≡ true) ↔ IsRestFree q) → ((free ≡ true) ↔ IsValid q)
valid_where_free q free numbers regions few size place rest = (
  λ is. record {
    set = numbers.0;
    size_log = (numbers.1, numbers.2);
    interface = numbers.3;
    minor = numbers.4;
    some_regions = regions.0;
    few_regions = few;
    ranges = regions.1;
    sum = size;
    behind = place.0;
    inside = place.1;
    rest = rest.0 is;
  },
  λ is. rest.1 is.rest,
)
