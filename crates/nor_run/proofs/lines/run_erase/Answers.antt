use Rattle.std.proofs.Common.{[], Result, subst, true}
use Rattle.nor_array.specs.declared.entry.Reply.{Reply}
use Rattle.nor_bank.proofs.Keeping.{keeps_bank_then}
use Rattle.nor_history.specs.Histories.{Makes}
use Rattle.nor_run.specs.Running.{AnswersErase, RunsTo}
use Rattle.nor_run.specs.declared.lines.Ran.{Ran}
use Rattle.nor_run.proofs.Calling.{erase_closed, erase_stopped, erase_unopened, of_error, opening_own, opening_reads, polled_opened}
use Rattle.nor_run.proofs.lines.run_erase.Goals as goal

pub make-requires-clause-own : goal.make-requires-clause-own
make-requires-clause-own g c = opening_own c.args.op.now c.args.caller c.requires.opens

pub make-requires-clause-given : goal.make-requires-clause-given
make-requires-clause-given g c = opening_reads c.args.op.now c.requires.opens

pub poll_on-closed-requires : goal.poll_on-closed-requires
poll_on-closed-requires g c = polled_opened c.args.caller c.args.op.now c.args.bank.now c.make.new.bank c.make.result c.requires.opens c.in-Opened.is c.make.ensures

pub returns-in_err-ran-in-Opened-clause-runs : goal.returns-in_err-ran-in-Opened-clause-runs
returns-in_err-ran-in-Opened-clause-runs g c =
    let makes = subst (λ (r : Reply). Makes c.args.caller c.args.op.now c.args.bank.now c.make.new.bank r []) c.in-Opened.is c.make.ensures in
    of_error c.from_residual.result c.in_err-ran-in-Opened.field-0.0
    (λ (r : Result Ran _). RunsTo g.T.Taker.takes true (AnswersErase c.args.caller c.args.op.now) c.args.ran c.args.bank.now c.poll_on-closed.new.bank c.args.taker.now c.hand_on.new.taker r)
    c.from_residual.ensures.1
    (erase_stopped g.T.Taker.takes c.args.caller c.args.op.now c.args.ran c.args.bank.now c.make.new.bank c.poll_on-closed.new.bank c.poll_on-closed.result
    c.args.taker.now c.hand_on.new.taker c.in_err-ran-in-Opened.field-0.0 c.requires.opens makes c.poll_on-closed.ensures.polls c.in_err-ran-in-Opened.ensures)

pub returns-in_err-ran-in-Opened-clause-keeps : goal.returns-in_err-ran-in-Opened-clause-keeps
returns-in_err-ran-in-Opened-clause-keeps g c = keeps_bank_then c.args.bank.now c.make.new.bank c.poll_on-closed.new.bank c.make.ensures.keeps c.poll_on-closed.ensures.keeps

pub returns-in_ok-ran-in-Opened-clause-runs : goal.returns-in_ok-ran-in-Opened-clause-runs
returns-in_ok-ran-in-Opened-clause-runs g c =
    let makes = subst (λ (r : Reply). Makes c.args.caller c.args.op.now c.args.bank.now c.make.new.bank r []) c.in-Opened.is c.make.ensures in
    erase_closed g.T.Taker.takes c.args.caller c.args.op.now c.args.ran c.in_ok-ran-in-Opened.ran c.args.bank.now c.make.new.bank c.poll_on-closed.new.bank c.poll_on-closed.result
    c.args.taker.now c.hand_on.new.taker c.hand_on-in-Opened.new.taker c.hand_on-in-Opened.result c.requires.opens makes c.poll_on-closed.ensures.polls c.in_ok-ran-in-Opened.ensures c.hand_on-in-Opened.ensures

pub returns-in_ok-ran-in-Opened-clause-keeps : goal.returns-in_ok-ran-in-Opened-clause-keeps
returns-in_ok-ran-in-Opened-clause-keeps g c = keeps_bank_then c.args.bank.now c.make.new.bank c.poll_on-closed.new.bank c.make.ensures.keeps c.poll_on-closed.ensures.keeps

pub returns-in_default : goal.returns-in_default
returns-in_default g c = record {
  runs =
      erase_unopened g.T.Taker.takes c.args.caller c.args.op.now c.args.ran c.args.bank.now c.make.new.bank c.make.result c.args.taker.now c.hand_on-in_default.new.taker c.hand_on-in_default.result
      c.requires.opens c.in_default.not-Opened c.make.ensures c.hand_on-in_default.ensures;
  keeps = c.make.ensures.keeps;
}
