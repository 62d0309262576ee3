use Rattle.std.proofs.Common.{ℕ}
use Rattle.nor_poll.specs.Told.{seen_at}
use Rattle.nor_poll.specs.Word.{is_broken}
use Rattle.nor_poll.proofs.Four.{low_bits, high_bits}
use Rattle.nor_poll.proofs.broken.broken_lanes.Goals as goal

pub returns-clause-lanes : goal.returns-clause-lanes
returns-clause-lanes c = λ k below.
    rw (c.bit_of.ensures, c.bit_of-2.ensures, c.bit_of-3.ensures, c.bit_of-4.ensures) (low_bits (λ (i : ℕ). is_broken (seen_at c.args.watch.now.lanes i)) k below)

pub returns-clause-past : goal.returns-clause-past
returns-clause-past c = λ k past.
    rw (c.bit_of.ensures, c.bit_of-2.ensures, c.bit_of-3.ensures, c.bit_of-4.ensures) (high_bits (λ (i : ℕ). is_broken (seen_at c.args.watch.now.lanes i)) k past)
