use Rattle.std.proofs.Common.{◌≡◌, ◌≤◌, ◌*◌, ◌^◌}
use Rattle.nor_dump.specs.Survey.{erased_in}
use Rattle.nor_dump.proofs.survey.erased_in.Given as goal

abbrev pub invariant-loop-lane : goal.invariant-loop-lane
invariant-loop-lane g l = record {
  value : l.count ≡ erased_in l.bank.lanes l.from l.units l.lane;
  few : l.count ≤ l.lane * 2 ^ 33;
}
