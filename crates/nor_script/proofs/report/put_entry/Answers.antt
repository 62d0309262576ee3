use Rattle.std.proofs.Common.{rules}
use Rattle.nor_script.specs.Report.{call_text, reply_part}
use Rattle.nor_io.proofs.Putting.{puts_then, puts_stop_as}
use Rattle.nor_script.proofs.report.put_entry.Goals as goal

pub returns-in_err-put_call-clause-puts : goal.returns-in_err-put_call-clause-puts
returns-in_err-put_call-clause-puts g c =
    puts_stop_as (call_text c.args.position c.args.caller c.args.op.now) (reply_part c.args.op.now c.args.reply c.args.bytes.now) (g.K.Sink.state c.args.out.now) (g.K.Sink.state c.put_call.new.out) c.in_err-put_call.field-0.0 c.from_residual.result c.in_err-put_call.ensures.puts (search rules)

pub returns-clause-puts : goal.returns-clause-puts
returns-clause-puts g c =
    puts_then (call_text c.args.position c.args.caller c.args.op.now) (reply_part c.args.op.now c.args.reply c.args.bytes.now) (g.K.Sink.state c.args.out.now) (g.K.Sink.state c.put_call.new.out) (g.K.Sink.state c.put_reply.new.out) c.put_reply.result c.in_ok-put_call.ensures.puts c.put_call.ensures.later c.put_reply.ensures.puts
