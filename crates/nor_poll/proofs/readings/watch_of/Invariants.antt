use Rattle.nor_cell.specs.Bits.{unit_len}
use Rattle.nor_poll.specs.Readings.{told_of}
use Rattle.nor_poll.proofs.Telling.{ToldUpTo}
use Rattle.nor_poll.proofs.readings.watch_of.Given as goal

abbrev pub invariant-loop-lane : goal.invariant-loop-lane
invariant-loop-lane g l = ToldUpTo l.lane (told_of g.W.BusWord.bytes l.readings (unit_len l.fn.g.device)) l.lanes
