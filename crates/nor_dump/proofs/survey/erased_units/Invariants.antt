use Rattle.std.proofs.Common.{◌≡◌, ◌≤◌}
use Rattle.nor_dump.specs.Survey.{erased_units}
use Rattle.nor_dump.proofs.survey.erased_units.Given as goal

abbrev pub invariant-loop-k : goal.invariant-loop-k
invariant-loop-k l = record {
  value : l.count ≡ erased_units l.cells.device l.cells.bytes.items l.from l.k;
  few : l.count ≤ l.k;
}
