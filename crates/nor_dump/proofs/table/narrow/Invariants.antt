use Rattle.std.proofs.Common.{◌≡◌, ◌*◌, ◌++◌, take, drop, length}
use Rattle.nor_dump.specs.Table.{low_bytes, are_low}
use Rattle.nor_dump.proofs.table.narrow.Given as goal

-- the low bytes so far and those to come, and no high one so far
abbrev pub invariant-loop-n : goal.invariant-loop-n
invariant-loop-n l = record {
  size : length l.table ≡ 512;
  low : take l.n l.table ++ low_bytes (drop (2 * l.n) l.words) ≡ low_bytes l.words;
  high : are_low (drop (2 * l.n) l.words) ≡ are_low l.words;
}
