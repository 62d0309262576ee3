use Rattle.std.proofs.Common.{true}
use Rattle.norbank.specs.Words.{asked, asked_by}
use Rattle.norbank.proofs.AsAsked.{all_ends}
use Rattle.norbank.proofs.program.norbank.Goals as goal

pub returns-clause-ends : goal.returns-clause-ends
returns-clause-ends g c =
    all_ends (asked_by c.command_of-command.result) (asked c.args.words.now) (g.H.Shelf.state c.args.shelf.now) (g.H.Shelf.state c.obey_all-ended.new.shelf)
    (g.K.Sink.state c.args.out.now) (g.K.Sink.state c.obey_all-ended.new.out) (g.K.Sink.state c.tell.new.out) c.tell.result.code c.obey_all-ended.result
    c.command_of-command.ensures c.obey_all-ended.ensures.does c.tell.ensures.tells c.obey_all-ended.ensures.later c.tell.ensures.later

pub returns-clause-race : goal.returns-clause-race
returns-clause-race g c = λ image script is run.
    let ends = all_ends (asked_by c.command_of-command.result) (asked c.args.words.now) (g.H.Shelf.state c.args.shelf.now) (g.H.Shelf.state c.obey_all-ended.new.shelf)
    (g.K.Sink.state c.args.out.now) (g.K.Sink.state c.obey_all-ended.new.out) (g.K.Sink.state c.tell.new.out) c.tell.result.code c.obey_all-ended.result
    c.command_of-command.ensures c.obey_all-ended.ensures.does c.tell.ensures.tells c.obey_all-ended.ensures.later c.tell.ensures.later in
    ends.ran true image script is run
