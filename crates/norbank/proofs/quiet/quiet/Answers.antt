use Rattle.norbank.specs.Words.{asked, asked_by}
use Rattle.norbank.proofs.AsAsked.{quiet_ends}
use Rattle.norbank.proofs.quiet.quiet.Goals as goal

pub returns-clause-ends : goal.returns-clause-ends
returns-clause-ends g c =
    quiet_ends (asked_by c.command_of-command.result) (asked c.args.words.now) (g.H.Shelf.state c.args.shelf.now) (g.H.Shelf.state c.obey-ended.new.shelf)
    (g.K.Sink.state c.args.out.now) (g.K.Sink.state c.obey-ended.new.out) (g.K.Sink.state c.tell.new.out) c.tell.result.code c.obey-ended.result
    c.command_of-command.ensures c.obey-ended.ensures.does c.tell.ensures.tells c.obey-ended.ensures.later c.tell.ensures.later
