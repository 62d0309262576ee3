use Rattle.std.proofs.Common.{inr, subst}
use Rattle.norimage.specs.Endings.{Tells}
use Rattle.norimage.specs.Ends.{Stops}
use Rattle.norimage.specs.Words.{Asked}
use Rattle.norimage.proofs.program.norimage.Goals as goal

pub returns-in-Err-clause-ends : goal.returns-in-Err-clause-ends
returns-in-Err-clause-ends g c =
    let was = g.H.Shelf.state c.args.shelf.now in
    let now = g.H.Shelf.state c.obey.new.shelf in
    let before = g.K.Sink.state c.args.out.now in
    let after = g.K.Sink.state c.tell.new.out in
    inr (record {
      stop = c.in-Err.stop;
      stops = subst (λ (command : Asked). Stops command was now c.in-Err.stop) c.command_of-command.ensures c.in-Err.ensures.stops;
      tells = subst (λ (command : Asked). Tells command c.in-Err.stop before after c.tell.result.code) c.command_of-command.ensures c.tell.ensures;
      kept = c.in-Err.ensures.kept;
    })
