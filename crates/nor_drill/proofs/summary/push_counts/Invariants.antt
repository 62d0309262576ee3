use Rattle.std.proofs.Common.{◌≡◌, ◌≤◌, ◌+◌, ◌*◌, ◌++◌, drop}
use Rattle.arrayvec.specs.ArrayVec.{array_vec_len}
use Rattle.nor_drill.specs.Summary.{words, count_lines}
use Rattle.nor_drill.proofs.summary.push_counts.Given as goal

-- the lines that lack make it whole
abbrev pub invariant-loop-place : goal.invariant-loop-place
invariant-loop-place l = record {
  rest : l.text.items ++ count_lines (drop l.place words) (drop l.place l.tally) ≡ l.fn.text.items ++ count_lines words l.tally;
  few : array_vec_len l.text ≤ array_vec_len l.fn.text + 34 * l.place;
}
