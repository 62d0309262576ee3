use Rattle.std.proofs.Common.{◌≡◌, take}
use Rattle.nor_region.specs.Map.{spans_of}
use Rattle.nor_dump.proofs.lanes.spans_of.Given as goal

abbrev pub invariant-loop-block : goal.invariant-loop-block
invariant-loop-block l = l.spans.items ≡ take l.block (spans_of l.map)
