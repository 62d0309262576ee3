use Rattle.std.proofs.Common.{◌≡◌, length, IsTrue}
use Rattle.std.specs.List.{list_all}
use Rattle.nor_query.specs.Fields.{regions_at}
use Rattle.nor_query.specs.Valid.{is_table_region}
use Rattle.nor_query.proofs.field.regions_of.Given as goal

-- the regions so far
abbrev pub invariant-loop-i : goal.invariant-loop-i
invariant-loop-i l = record {
  regions : l.regions.items ≡ regions_at l.table 0x2D l.i;
  ranges : IsTrue (list_all is_table_region l.regions.items);
  count : length l.regions.items ≡ l.i;
}
