use Rattle.std.proofs.Common.{ap, refl}
use Rattle.norbank.specs.Words.{Unknown, asked_by, quietly}
use Rattle.norbank.specs.declared.stop.Stop.TheVariants.{Usage}
use Rattle.norbank.specs.declared.words.Command.{Command}
use Rattle.norbank.proofs.Doing.{refused}
use Rattle.norbank.proofs.quiet.obey.Goals as goal

pub returns-in-Race-clause-does : goal.returns-in-Race-clause-does
returns-in-Race-clause-does g c =
    refused (quietly (asked_by c.args.command)) Unknown (g.H.Shelf.state c.args.shelf.now) (g.K.Sink.state c.args.out.now) Usage
    (ap (λ (o : Command). quietly (asked_by o)) c.in-Race.is) (λ bank script. refl)

pub returns-in-Unknown-clause-does : goal.returns-in-Unknown-clause-does
returns-in-Unknown-clause-does g c =
    refused (quietly (asked_by c.args.command)) Unknown (g.H.Shelf.state c.args.shelf.now) (g.K.Sink.state c.args.out.now) Usage
    (ap (λ (o : Command). quietly (asked_by o)) c.in-Unknown.is) (λ bank script. refl)
