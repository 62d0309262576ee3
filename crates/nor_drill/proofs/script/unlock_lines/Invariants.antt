use Rattle.std.proofs.Common.{◌≡◌}
use Rattle.nor_drill.specs.Drill.{unlock_lines}
use Rattle.nor_drill.proofs.script.unlock_lines.Given as goal

abbrev pub invariant-loop-block : goal.invariant-loop-block
invariant-loop-block l = l.lines.items ≡ unlock_lines l.block
