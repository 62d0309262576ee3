use Rattle.std.proofs.Common.{◌-◌}
use Rattle.norbank.proofs.Piecewise.{PrintedTo}
use Rattle.norbank.proofs.printing.put_pieces.Given as goal

abbrev pub invariant-loop-done : goal.invariant-loop-done
invariant-loop-done g l =
    PrintedTo g.W.BusWord.WIDTH l.at l.len l.done (g.B.Bus.state l.fn.bus) (g.B.Bus.state l.bus)
    (g.K.Sink.state l.fn.out) (g.K.Sink.state l.out)

abbrev pub decreases-loop-done : goal.decreases-loop-done
decreases-loop-done g l = l.len - l.done
