use Rattle.std.proofs.Common.{rules, ◌++◌, codes}
use Rattle.nor_script.specs.Report.{data_text}
use Rattle.nor_io.proofs.Putting.{puts_then, puts_stop_as}
use Rattle.nor_script.proofs.report.put_read.Goals as goal

pub returns-in_err-put-clause-puts : goal.returns-in_err-put-clause-puts
returns-in_err-put-clause-puts g c =
    puts_stop_as (codes " -> ") (data_text c.args.bytes.now ++ codes "\n") (g.K.Sink.state c.args.out.now) (g.K.Sink.state c.put.new.self) c.in_err-put.field-0.0 c.from_residual.result c.in_err-put.ensures.puts (search rules)

pub returns-in_err-put_data-clause-puts : goal.returns-in_err-put_data-clause-puts
returns-in_err-put_data-clause-puts g c =
    puts_then (codes " -> ") (data_text c.args.bytes.now ++ codes "\n") (g.K.Sink.state c.args.out.now) (g.K.Sink.state c.put.new.self) (g.K.Sink.state c.put_data.new.out) c.from_residual-in_err-put_data.result c.in_ok-put.ensures.puts c.put.ensures.later
    (puts_stop_as (data_text c.args.bytes.now) (codes "\n") (g.K.Sink.state c.put.new.self) (g.K.Sink.state c.put_data.new.out) c.in_err-put_data.field-0.0 c.from_residual-in_err-put_data.result c.in_err-put_data.ensures.puts (search rules))

pub returns-clause-puts : goal.returns-clause-puts
returns-clause-puts g c =
    puts_then (codes " -> ") (data_text c.args.bytes.now ++ codes "\n") (g.K.Sink.state c.args.out.now) (g.K.Sink.state c.put.new.self) (g.K.Sink.state c.put-2.new.self) c.put-2.result c.in_ok-put.ensures.puts c.put.ensures.later
    (puts_then (data_text c.args.bytes.now) (codes "\n") (g.K.Sink.state c.put.new.self) (g.K.Sink.state c.put_data.new.out) (g.K.Sink.state c.put-2.new.self) c.put-2.result c.in_ok-put_data.ensures.puts c.put_data.ensures.later c.put-2.ensures.puts)
