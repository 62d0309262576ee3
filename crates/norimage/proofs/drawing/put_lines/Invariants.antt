use Rattle.std.proofs.Common.{◌≡◌, ◌≤◌, ◌+◌, ◌*◌, ◌++◌, length, drop}
use Rattle.norimage.specs.Drawn.{lines_of}
use Rattle.norimage.proofs.drawing.put_lines.Given as goal

-- the lines to come make it the lines of all
abbrev pub invariant-loop-bar : goal.invariant-loop-bar
invariant-loop-bar l = record {
  items : l.svg.items ++ lines_of (drop l.bar-index l.bars) ≡ l.initial.svg.items ++ lines_of l.bars;
  len : length l.svg.items ≤ length l.initial.svg.items + 115 * l.bar-index;
}
