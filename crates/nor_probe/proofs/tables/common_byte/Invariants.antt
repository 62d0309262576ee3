use Rattle.std.proofs.Common.{◌≡◌, ◌<◌, ℕ}
use Rattle.nor_probe.specs.Tables.{low_byte}
use Rattle.nor_probe.proofs.tables.common_byte.Given as goal

abbrev pub invariant-loop-lane : goal.invariant-loop-lane
invariant-loop-lane g l = (c : ℕ) → c < l.lane → low_byte l.fn.g (g.W.BusWord.bytes l.word) 0 ≡ low_byte l.fn.g (g.W.BusWord.bytes l.word) c
