use Rattle.std.proofs.Common.{length}
use Rattle.nor_run.proofs.Calling.{done_reads, read_runs}
use Rattle.nor_run.proofs.lines.read_into.Goals as goal

pub returns-clause-runs : goal.returns-clause-runs
returns-clause-runs g c =
    read_runs g.T.Taker.takes c.args.bank.now c.read-reply.new.self c.args.caller c.args.at c.args.len (length c.args.into.now) c.args.ran c.read-reply.new.into c.read-reply.result _ _ c.hand_on.result
    c.requires.length c.read-reply.ensures.call
    (done_reads c.args.at (length c.args.into.now) c.read-reply.result c.args.bank.now c.read-reply.new.self c.read-reply.ensures.done) c.hand_on.ensures
