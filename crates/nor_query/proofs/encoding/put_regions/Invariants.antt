use Rattle.std.proofs.Common.{◌≡◌, ◌+◌, ◌*◌, length, take}
use Rattle.nor_query.specs.Fields.{regions_at}
use Rattle.nor_query.specs.Writing.{SameWithin}
use Rattle.nor_query.proofs.encoding.put_regions.Given as goal

-- the regions so far stand there, and nothing else has changed
abbrev pub invariant-loop-i : goal.invariant-loop-i
invariant-loop-i l = record {
  len : length l.table ≡ 512;
  regions : regions_at l.table 0x2D l.i ≡ take l.i l.regions;
  below : SameWithin 0 0x2D l.initial.table l.table;
  above : SameWithin (0x2D + 4 * l.i) 512 l.initial.table l.table;
}
