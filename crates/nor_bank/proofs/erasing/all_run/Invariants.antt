use Rattle.std.proofs.Common.{◌≡◌, ◌<◌, ℕ, length, slice_index_or}
use Rattle.nor_poll.specs.declared.lanes.LaneState.TheVariants.{Running, Finished}
use Rattle.nor_bank.proofs.erasing.all_run.Given as goal

abbrev pub invariant-loop-lane : goal.invariant-loop-lane
invariant-loop-lane l = (length l.lanes ≡ 4) × ((c : ℕ) → c < l.lane → slice_index_or l.lanes c Finished ≡ Running)
