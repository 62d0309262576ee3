use Rattle.nor_image.proofs.Lanes.{LanesSoFar}
use Rattle.nor_image.proofs.read.read_lanes.Given as goal

abbrev pub invariant-loop-lane : goal.invariant-loop-lane
invariant-loop-lane l = LanesSoFar l.file l.lane l.at l.lanes.items
