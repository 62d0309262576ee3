use Rattle.std.proofs.Common.{◌≡◌, ◌≤◌, ◌*◌, ◌^◌, take}
use Rattle.std.specs.List.{sum, sum_by}
use Rattle.nor_cell.specs.Chip.{ChipState}
use Rattle.nor_drill.proofs.sum.sum_of.Given as goal

abbrev pub invariant-loop-lane : goal.invariant-loop-lane
invariant-loop-lane g l = record {
  sum : l.sum ≡ sum_by (λ (s : ChipState). sum s.cells) (take l.lane l.bank.lanes);
  few : l.sum ≤ 255 * 2 ^ 27 * l.lane;
}
