use Rattle.std.proofs.Common.{◌<◌, ℕ}
use Rattle.nor_cell.specs.Ranges.{IsChip}
use Rattle.nor_bus.specs.Bus.{lane as lane_state}
use Rattle.nor_run.proofs.bank.see_chips.Given as goal

abbrev pub invariant-loop-lane : goal.invariant-loop-lane
invariant-loop-lane g l = (c : ℕ) → c < l.lane → IsChip (lane_state l.bank c)
