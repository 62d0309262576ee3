use Rattle.std.proofs.Common.{Ok, Err, Result, sym, subst}
use Rattle.norbank.specs.Does.{Does}
use Rattle.norbank.specs.declared.stop.Done.{Done}
use Rattle.norbank.specs.declared.stop.Stop.{Stop}
use Rattle.norbank.proofs.Flushing.{printed_out}
use Rattle.norbank.proofs.emptying.printed.Goals as goal

pub returns-in-Ok-flush-clause-does : goal.returns-in-Ok-flush-clause-does
returns-in-Ok-flush-clause-does g c = λ command was now before quiet later does.
    let mid = g.K.Sink.state c.args.out.now in
    let after = g.K.Sink.state c.flush.new.self in
    let so = printed_out command was now before mid after c.in-Ok.done (Ok tt) quiet later c.in-Ok-flush.ensures.puts
    (subst (λ (r : Result Done Stop). Does command was now before mid r) c.in-Ok.is does) in
    subst (λ (d : Done). Does command was now before after (Ok d)) (sym so.1) so.0

pub returns-in-Err-flush-clause-does : goal.returns-in-Err-flush-clause-does
returns-in-Err-flush-clause-does g c = λ command was now before quiet later does.
    let mid = g.K.Sink.state c.args.out.now in
    let after = g.K.Sink.state c.flush.new.self in
    (printed_out command was now before mid after c.in-Ok.done (Err c.in-Err-flush.error) quiet later c.in-Err-flush.ensures.puts
    (subst (λ (r : Result Done Stop). Does command was now before mid r) c.in-Ok.is does)).0
