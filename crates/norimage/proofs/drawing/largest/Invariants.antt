use Rattle.std.proofs.Common.{◌<◌}
use Rattle.norimage.proofs.drawing.largest.Given as goal

abbrev pub invariant-loop-bar : goal.invariant-loop-bar
invariant-loop-bar l = 0 < l.largest
