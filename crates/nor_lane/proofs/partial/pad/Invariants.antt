use Rattle.nor_lane.proofs.Padding.{IsPaddedTo}
use Rattle.nor_lane.proofs.partial.pad.Given as goal

abbrev pub invariant-loop-k : goal.invariant-loop-k
invariant-loop-k g l = IsPaddedTo l.k g.W.BusWord.WIDTH l.first l.bytes (g.W.BusWord.bytes l.word)
