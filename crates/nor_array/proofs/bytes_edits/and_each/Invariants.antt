use Rattle.std.proofs.Common.{◌≡◌}
use Rattle.nor_array.proofs.Programmed.{and_first}
use Rattle.nor_array.proofs.bytes_edits.and_each.Given as goal

abbrev pub invariant-loop-i : goal.invariant-loop-i
invariant-loop-i l = l.bytes ≡ and_first l.i l.initial.bytes l.new
