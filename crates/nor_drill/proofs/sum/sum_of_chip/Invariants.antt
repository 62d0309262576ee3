use Rattle.std.proofs.Common.{◌≡◌, ◌≤◌, ◌*◌, take}
use Rattle.std.specs.List.{sum}
use Rattle.nor_drill.proofs.sum.sum_of_chip.Given as goal

abbrev pub invariant-loop-byte : goal.invariant-loop-byte
invariant-loop-byte g l = record {
  sum : l.sum ≡ sum (take l.byte-index l.bytes);
  few : l.sum ≤ 255 * l.byte-index;
}
