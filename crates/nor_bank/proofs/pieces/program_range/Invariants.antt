use Rattle.nor_bank.proofs.PiecesLoop.{Between}
use Rattle.nor_bank.proofs.pieces.program_range.Given as goal

abbrev pub invariant-loop-u : goal.invariant-loop-u
invariant-loop-u g l = Between g.W.BusWord.bytes g.W.BusWord.WIDTH l.found l.at l.new l.first l.u l.waiting l.words (g.B.Bus.state l.initial.bus) (g.B.Bus.state l.bus)
