use Rattle.std.proofs.Common.{◌≡◌}
use Rattle.nor_bus.specs.Bus.{units_of}
use Rattle.nor_probe.proofs.Shown.{Tried}
use Rattle.nor_probe.proofs.find.answering.Given as goal

abbrev pub invariant-loop-i : goal.invariant-loop-i
invariant-loop-i g l = record {
  tried : Tried g.W.BusWord.WIDTH l.i (g.B.Bus.state l.initial.bus) (g.B.Bus.state l.bus);
  units : units_of (g.B.Bus.state l.bus) ≡ units_of (g.B.Bus.state l.initial.bus);
}
