use Rattle.std.proofs.Common.{◌≢◌, ◌<◌, ℕ}
use Rattle.nor_poll.specs.UnderErase.{state_at}
use Rattle.nor_bank.proofs.way.first_in.Given as goal

abbrev pub invariant-loop-lane : goal.invariant-loop-lane
invariant-loop-lane l = (c : ℕ) → c < l.lane → state_at l.lanes c ≢ l.state
