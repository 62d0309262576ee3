use Rattle.std.proofs.Common.{map}
use Rattle.nor_poll.proofs.WordSending.{SentWords}
use Rattle.nor_poll.proofs.buffer.write_words.Given as goal

abbrev pub invariant-loop-k : goal.invariant-loop-k
invariant-loop-k g l = SentWords g.W.BusWord.WIDTH l.fn.g l.fn.at (map g.W.BusWord.bytes l.words) l.k (g.B.Bus.state l.initial.bus) (g.B.Bus.state l.bus)
