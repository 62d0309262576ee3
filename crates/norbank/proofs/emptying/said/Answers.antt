use Rattle.std.proofs.Common.{ℕ, sym, subst}
use Rattle.norbank.specs.Endings.{Says}
use Rattle.norbank.proofs.Flushing.{says_kept}
use Rattle.norbank.proofs.emptying.said.Goals as goal

pub returns-in-Err-clause-says : goal.returns-in-Err-clause-says
returns-in-Err-clause-says g c = λ code text before later says.
    let after = g.K.Sink.state c.flush.new.self in
    subst (λ (s : ℕ). Says code text before after s) (sym c.status.ensures)
    (says_kept code text before (g.K.Sink.state c.args.out.now) after c.args.status.code c.in-Err.error later c.in-Err.ensures.puts says)
