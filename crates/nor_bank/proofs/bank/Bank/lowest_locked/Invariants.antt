use Rattle.nor_bank.proofs.LocksSearching.{UnlockedTo}
use Rattle.nor_bank.proofs.bank.Bank.lowest_locked.Given as goal

abbrev pub invariant-loop-block : goal.invariant-loop-block
invariant-loop-block g l = UnlockedTo l.first l.end l.block l.initial.self l.self
