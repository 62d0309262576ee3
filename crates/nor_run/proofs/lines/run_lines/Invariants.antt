use Rattle.std.proofs.Common.{◌≤◌, ◌*◌}
use Rattle.nor_bank.specs.Work.{KeepsBank}
use Rattle.nor_run.proofs.Growing.{RunsSoFar}
use Rattle.nor_run.proofs.lines.run_lines.Given as goal

abbrev pub invariant-loop-line : goal.invariant-loop-line
invariant-loop-line g l = record {
  runs : RunsSoFar g.T.Taker.takes l.lines l.line-index l.fn.bank l.bank l.fn.taker l.taker l.ran;
  keeps : KeepsBank l.fn.bank l.bank;
  few : l.ran.entries ≤ 2 * l.line-index;
}
