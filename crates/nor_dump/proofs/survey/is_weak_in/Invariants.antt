use Rattle.std.proofs.Common.{◌≡◌}
use Rattle.nor_dump.specs.Survey.{is_weak_in}
use Rattle.nor_dump.proofs.survey.is_weak_in.Given as goal

abbrev pub invariant-loop-lane : goal.invariant-loop-lane
invariant-loop-lane g l = l.weak ≡ is_weak_in l.bank.lanes l.from l.to l.lane
