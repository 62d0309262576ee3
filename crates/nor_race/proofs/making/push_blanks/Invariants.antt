use Rattle.std.proofs.Common.{◌≡◌, ◌+◌, length}
use Rattle.nor_race.proofs.making.push_blanks.Given as goal

abbrev pub invariant-loop-i : goal.invariant-loop-i
invariant-loop-i l = length l.table.items ≡ length l.fn.table.items + l._i
