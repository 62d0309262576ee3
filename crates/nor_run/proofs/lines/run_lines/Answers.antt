use Rattle.std.proofs.Common.{◌+◌, refl, sym, arith}
use Rattle.nor_cell.proofs.Logic.{if_gave}
use Rattle.nor_bank.proofs.Keeping.{keeps_self, keeps_bank_then}
use Rattle.nor_run.proofs.Growing.{no_line, line_more, line_stopped, few_more, caller_at, all_run}
use Rattle.nor_run.proofs.lines.run_lines.Goals as goal

pub loop-line-init : goal.loop-line-init
loop-line-init g c = record {
  runs = no_line g.T.Taker.takes c.args.lines.now c.args.bank.now c.args.taker.now;
  keeps = keeps_self c.args.bank.now;
  few = omega arith;
}

pub run_line-requires-clause-caller : goal.run_line-requires-clause-caller
run_line-requires-clause-caller g c = caller_at c.args.lines.now c.loop-line.line-index c.line-item.result c.loop-line-test.true (sym c.line-item.is) c.requires

pub run_line-requires-clause-few : goal.run_line-requires-clause-few
run_line-requires-clause-few g c = let few = c.requires.few in let so = c.loop-line.invariant.few in let below = c.loop-line-test.true in omega (arith, few, so, below)

pub returns-in_err-ran-clause-stopped : goal.returns-in_err-ran-clause-stopped
returns-in_err-ran-clause-stopped g c =
    if_gave c.from_residual.result c.in_err-ran.field-0.0 _ c.from_residual.ensures.1
    (line_stopped g.T.Taker.takes c.args.lines.now c.loop-line.line-index c.line-item.result c.args.bank.now c.loop-line.bank c.run_line.new.bank
    c.args.taker.now c.loop-line.taker c.run_line.new.taker
    c.loop-line.ran c.in_err-ran.field-0.0 c.loop-line-test.true (sym c.line-item.is) c.loop-line.invariant.keeps c.loop-line.invariant.runs
    c.in_err-ran.ensures.runs)

pub loop-line-preserved : goal.loop-line-preserved
loop-line-preserved g c = record {
  runs =
      line_more g.T.Taker.takes c.args.lines.now c.loop-line.line-index c.line-item.result c.args.bank.now c.loop-line.bank c.run_line.new.bank
      c.args.taker.now c.loop-line.taker c.run_line.new.taker
      c.loop-line.ran c.in_ok-ran.ran c.loop-line-test.true (sym c.line-item.is)
      c.loop-line.invariant.keeps c.loop-line.invariant.runs c.in_ok-ran.ensures.runs;
  keeps = keeps_bank_then c.args.bank.now c.loop-line.bank c.run_line.new.bank c.loop-line.invariant.keeps c.run_line.ensures.keeps;
  few =
      few_more g.T.Taker.takes c.line-item.result.word c.line-item.result.caller c.loop-line.line-index (c.loop-line.line-index + 1) c.loop-line.bank c.run_line.new.bank
      c.loop-line.taker c.run_line.new.taker c.loop-line.ran c.in_ok-ran.ran c.in_ok-ran.ensures.runs c.loop-line.invariant.few refl;
}

pub returns-clause-ran : goal.returns-clause-ran
returns-clause-ran g c =
    all_run g.T.Taker.takes c.args.lines.now c.loop-line.line-index c.args.bank.now c.loop-line.bank c.args.taker.now c.loop-line.taker c.loop-line.ran
    (omega (arith, c.loop-line-test.false)) c.loop-line.invariant.runs
