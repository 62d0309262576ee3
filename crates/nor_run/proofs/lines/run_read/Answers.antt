use Rattle.std.proofs.Common.{[], sym, ◌∙◌}
use Rattle.nor_bank.specs.State.{size_of}
use Rattle.nor_run.proofs.Calling.{read_runs, refused_reads}
use Rattle.nor_run.proofs.lines.run_read.Goals as goal

pub returns-in-Some-clause-runs : goal.returns-in-Some-clause-runs
returns-in-Some-clause-runs g c =
    read_runs g.T.Taker.takes c.args.bank.now c.args.bank.now c.args.caller c.args.at c.args.len c.from.result c.args.ran [] c.in-Some.reply _ _ c.hand_on.result
    c.from.ensures (c.in-Some.ensures.call c.args.caller [])
    (refused_reads (size_of c.args.bank.now.found) c.args.at c.from.result c.in-Some.reply c.args.bank.now c.args.bank.now (sym c.in-Some.is ∙ c.range_refusal.ensures.refusal)) c.hand_on.ensures
