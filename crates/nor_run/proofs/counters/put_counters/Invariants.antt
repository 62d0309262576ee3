use Rattle.std.proofs.Common.{◌≡◌, take, length}
use Rattle.nor_run.specs.Running.{counters_of}
use Rattle.nor_run.proofs.counters.put_counters.Given as goal

abbrev pub invariant-loop-lane : goal.invariant-loop-lane
invariant-loop-lane g l = record {
  done : take l.lane l.all ≡ counters_of (take l.lane l.bank.lanes);
  room : length l.all ≡ 4;
}
