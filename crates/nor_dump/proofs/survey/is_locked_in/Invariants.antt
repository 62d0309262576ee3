use Rattle.std.proofs.Common.{◌≡◌}
use Rattle.nor_dump.specs.Survey.{is_locked_in}
use Rattle.nor_dump.proofs.survey.is_locked_in.Given as goal

abbrev pub invariant-loop-lane : goal.invariant-loop-lane
invariant-loop-lane g l = l.locked ≡ is_locked_in l.bank.lanes l.first l.blocks l.lane
