use Rattle.std.proofs.Common.{rules}
use Rattle.nor_script.specs.Report.{lane_lines, count_line}
use Rattle.nor_io.proofs.Putting.{puts_then, puts_stop_as}
use Rattle.nor_script.proofs.report.put_totals.Goals as goal

pub returns-in_err-put_lanes-clause-puts : goal.returns-in_err-put_lanes-clause-puts
returns-in_err-put_lanes-clause-puts g c =
    puts_stop_as (lane_lines 0 c.args.lanes.now) (count_line c.args.entries) (g.K.Sink.state c.args.out.now) (g.K.Sink.state c.put_lanes.new.out) c.in_err-put_lanes.field-0.0 c.from_residual.result c.in_err-put_lanes.ensures.puts (search rules)

pub returns-clause-puts : goal.returns-clause-puts
returns-clause-puts g c =
    puts_then (lane_lines 0 c.args.lanes.now) (count_line c.args.entries) (g.K.Sink.state c.args.out.now) (g.K.Sink.state c.put_lanes.new.out) (g.K.Sink.state c.put_count.new.out) c.put_count.result c.in_ok-put_lanes.ensures.puts c.put_lanes.ensures.later c.put_count.ensures.puts
