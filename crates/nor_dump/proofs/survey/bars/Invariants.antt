use Rattle.std.proofs.Common.{◌≡◌, ◌<◌, ◌*◌, ◌+◌, ◌-◌, length}
use Rattle.nor_dump.specs.Survey.{bars_of, blocks_in}
use Rattle.nor_dump.proofs.survey.bars.Given as goal

-- the bars so far
abbrev pub invariant-loop-first : goal.invariant-loop-first
invariant-loop-first g l = record {
  are : l.bars.items ≡ bars_of l.bank.lanes l.per (length l.bars.items);
  first : l.first ≡ length l.bars.items * l.per;
  some : l.first < length (blocks_in l.bank.lanes) + l.per;
}

abbrev pub decreases-loop-first : goal.decreases-loop-first
decreases-loop-first g l = length (blocks_in l.bank.lanes) - l.first
