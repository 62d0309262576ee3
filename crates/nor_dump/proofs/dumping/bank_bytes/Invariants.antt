use Rattle.std.proofs.Common.{◌≡◌}
use Rattle.nor_bus.specs.Bus.{bank_bytes}
use Rattle.nor_dump.proofs.dumping.bank_bytes.Given as goal

-- the bytes so far
abbrev pub invariant-loop-at : goal.invariant-loop-at
invariant-loop-at g l = l.raw.items ≡ bank_bytes l.g.device l.bank.lanes 0 l.at
