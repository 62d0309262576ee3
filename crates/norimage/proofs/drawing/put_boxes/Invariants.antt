use Rattle.std.proofs.Common.{◌≤◌, ◌+◌, ◌*◌, length}
use Rattle.nor_io.specs.Files.{IsPrefix}
use Rattle.norimage.proofs.drawing.put_boxes.Given as goal

-- what was there is at the head
abbrev pub invariant-loop-bar : goal.invariant-loop-bar
invariant-loop-bar l = record {
  items : IsPrefix l.initial.svg.items l.svg.items;
  len : length l.svg.items ≤ length l.initial.svg.items + 848 * l.bar-index;
}
