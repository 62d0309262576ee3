use Rattle.std.proofs.Common.{drop}
use Rattle.nor_script.specs.Report.{lane_lines}
use Rattle.nor_io.proofs.Putting.{PutSoFar}
use Rattle.nor_script.proofs.report.put_lanes.Given as goal

-- the lines of the lanes before this one have been put
abbrev pub invariant-loop-lane : goal.invariant-loop-lane
invariant-loop-lane g l =
    PutSoFar (lane_lines 0 l.lanes) (lane_lines l.lane (drop l.lane l.lanes)) (g.K.Sink.state l.fn.out) (g.K.Sink.state l.out)
