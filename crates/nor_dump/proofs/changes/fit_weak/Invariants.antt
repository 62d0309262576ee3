use Rattle.std.proofs.Common.{◌≡◌}
use Rattle.nor_dump.specs.Changes.{fit_weak}
use Rattle.nor_dump.proofs.changes.fit_weak.Given as goal

abbrev pub invariant-loop-lane : goal.invariant-loop-lane
invariant-loop-lane l = l.fit ≡ fit_weak l.g.device l.size l.changes l.lane
