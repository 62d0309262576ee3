use Rattle.std.proofs.Common.{◌≢◌, ◌<◌, ℕ}
use Rattle.nor_poll.specs.Told.{seen_at}
use Rattle.nor_poll.specs.declared.watch.Seen.TheVariants.{Working}
use Rattle.nor_poll.proofs.wait.first_working.Given as goal

abbrev pub invariant-loop-lane : goal.invariant-loop-lane
invariant-loop-lane l = (c : ℕ) → c < l.lane → seen_at l.watch.lanes c ≢ Working
