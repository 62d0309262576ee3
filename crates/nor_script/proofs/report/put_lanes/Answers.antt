use Rattle.std.proofs.Common.{rules, drop, ◌+◌}
use Rattle.nor_script.specs.Report.{lane_lines}
use Rattle.nor_io.proofs.Putting.{more_put, stop_put}
use Rattle.nor_script.proofs.Putting.{next_lane}
use Rattle.nor_script.proofs.report.put_lanes.Goals as goal

pub returns-in_err-put_lane-clause-puts : goal.returns-in_err-put_lane-clause-puts
returns-in_err-put_lane-clause-puts g c =
    stop_put (lane_lines 0 c.args.lanes.now) (lane_lines c.loop-lane.lane (drop c.loop-lane.lane c.args.lanes.now)) _ (lane_lines (c.loop-lane.lane + 1) (drop (c.loop-lane.lane + 1) c.args.lanes.now)) (g.K.Sink.state c.args.out.now) (g.K.Sink.state c.loop-lane.out) (g.K.Sink.state c.put_lane.new.out) c.in_err-put_lane.field-0.0 c.from_residual.result c.loop-lane.invariant (next_lane c.args.lanes.now c.loop-lane.lane c.loop-lane-test.true) c.in_err-put_lane.ensures.puts (search rules)

pub loop-lane-preserved : goal.loop-lane-preserved
loop-lane-preserved g c =
    more_put (lane_lines 0 c.args.lanes.now) (lane_lines c.loop-lane.lane (drop c.loop-lane.lane c.args.lanes.now)) _ (lane_lines (c.loop-lane.lane + 1) (drop (c.loop-lane.lane + 1) c.args.lanes.now)) (g.K.Sink.state c.args.out.now) (g.K.Sink.state c.loop-lane.out) (g.K.Sink.state c.put_lane.new.out) c.loop-lane.invariant (next_lane c.args.lanes.now c.loop-lane.lane c.loop-lane-test.true) c.in_ok-put_lane.ensures.puts c.put_lane.ensures.later
