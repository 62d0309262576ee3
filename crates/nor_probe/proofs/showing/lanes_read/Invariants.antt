use Rattle.std.proofs.Common.{◌≡◌}
use Rattle.nor_cell.specs.Bits.{unit_len}
use Rattle.nor_probe.specs.Found.{lanes_read}
use Rattle.nor_probe.proofs.showing.lanes_read.Given as goal

abbrev pub invariant-loop-lane : goal.invariant-loop-lane
invariant-loop-lane g l = l.all ≡ lanes_read (unit_len l.fn.g.device) l.lane (g.W.BusWord.bytes l.word) l.letter
