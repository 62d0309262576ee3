use Rattle.std.proofs.Common.{Result, sym, subst}
use Rattle.norbank.specs.Endings.{Tells}
use Rattle.norbank.specs.Words.{asked_by}
use Rattle.norbank.specs.declared.stop.Done.{Done}
use Rattle.norbank.specs.declared.stop.Stop.{Stop}
use Rattle.norbank.proofs.Flushing.{tells_out}
use Rattle.norbank.proofs.telling.tell.Goals as goal

pub returns-in-Err-clause-tells : goal.returns-in-Err-clause-tells
returns-in-Err-clause-tells g c =
    let before = g.K.Sink.state c.args.out.now in
    let after = g.K.Sink.state c.said.new.out in
    subst (λ (r : Result Done Stop). Tells (asked_by c.args.command) r before after c.said.result.code) (sym c.in-Err.is)
    (tells_out (asked_by c.args.command) c.in-Err.stop before (g.K.Sink.state c.tell_stop-status.new.out) after c.tell_stop-status.result.code c.said.result.code
    c.tell_stop-status.ensures.later c.said.ensures.says c.tell_stop-status.ensures.tells)
