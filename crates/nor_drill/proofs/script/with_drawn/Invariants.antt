use Rattle.std.proofs.Common.{◌≡◌, ◌++◌, ◌*◌}
use Rattle.nor_drill.specs.Drill.{drawn_lines, later}
use Rattle.nor_drill.proofs.script.with_drawn.Given as goal

abbrev pub invariant-loop-k : goal.invariant-loop-k
invariant-loop-k l = record {
  all : l.all.items ≡ l.fn.lines.items ++ drawn_lines l.x l.k;
  from : l.from ≡ later l.x (4 * l.k);
}
