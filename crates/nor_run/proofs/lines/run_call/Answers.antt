use Rattle.nor_array.specs.declared.entry.Op.TheVariants.{Read}
use Rattle.nor_run.proofs.Calling.{made_runs, of_call, reads_not}
use Rattle.nor_run.proofs.lines.run_call.Goals as goal

pub returns-in-Read-clause-runs : goal.returns-in-Read-clause-runs
returns-in-Read-clause-runs g c = of_call (Read c.in-Read.at c.in-Read.len) c.args.op.now c.in-Read.is c.run_read.ensures.runs

pub make-reply-requires-clause-given : goal.make-reply-requires-clause-given
make-reply-requires-clause-given g c = reads_not c.args.op.now c.in_default.not-Read

pub returns-clause-runs : goal.returns-clause-runs
returns-clause-runs g c =
    made_runs g.T.Taker.takes c.args.bank.now c.make-reply.new.bank c.args.caller c.args.op.now c.args.ran c.make-reply.result _ _ c.hand_on.result
    (reads_not c.args.op.now c.in_default.not-Read) c.make-reply.ensures c.hand_on.ensures

pub returns-clause-keeps : goal.returns-clause-keeps
returns-clause-keeps g c = c.make-reply.ensures.keeps
