use Rattle.std.proofs.Common.{rules, List, ℕ, Err, Ok, subst, ◌∙◌}
use Rattle.nor_script.specs.Report.{call_front, op_data}
use Rattle.nor_io.specs.Puts.{PutsText}
use Rattle.nor_io.proofs.Putting.{puts_then, puts_stop_as}
use Rattle.nor_script.proofs.report.put_call.Goals as goal

pub returns-in_err-put-clause-puts : goal.returns-in_err-put-clause-puts
returns-in_err-put-clause-puts g c =
    puts_stop_as (call_front c.args.position c.args.caller c.args.op.now) (op_data c.args.op.now) (g.K.Sink.state c.args.out.now) (g.K.Sink.state c.put.new.self) c.in_err-put.field-0.0 c.from_residual.result
    (subst (λ (t : List ℕ). PutsText t (g.K.Sink.state c.args.out.now) (g.K.Sink.state c.put.new.self) (Err c.in_err-put.field-0.0)) (c.deref.ensures.0 ∙ c.call_front.ensures) c.in_err-put.ensures.puts) (search rules)

pub returns-clause-puts : goal.returns-clause-puts
returns-clause-puts g c =
    puts_then (call_front c.args.position c.args.caller c.args.op.now) (op_data c.args.op.now) (g.K.Sink.state c.args.out.now) (g.K.Sink.state c.put.new.self) (g.K.Sink.state c.put_op_data.new.out) c.put_op_data.result
    (subst (λ (t : List ℕ). PutsText t (g.K.Sink.state c.args.out.now) (g.K.Sink.state c.put.new.self) (Ok c.in_ok-put.field-0)) (c.deref.ensures.0 ∙ c.call_front.ensures) c.in_ok-put.ensures.puts) c.put.ensures.later c.put_op_data.ensures.puts
