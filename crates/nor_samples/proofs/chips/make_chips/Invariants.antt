use Rattle.std.proofs.Common.{◌≡◌, length, map}
use Rattle.std.specs.List.{All}
use Rattle.nor_samples.specs.Alike.{IsAlike}
use Rattle.nor_samples.proofs.chips.make_chips.Given as goal

abbrev pub invariant-loop-lane : goal.invariant-loop-lane
invariant-loop-lane g l = record {
  count : length (map g.C.Chip.state l.chips.items) ≡ l.lane;
  alike : All (IsAlike l.setup.geometry.device) (map g.C.Chip.state l.chips.items);
}
