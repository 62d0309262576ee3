use Rattle.std.proofs.Common.{rules}
use Rattle.nor_array.specs.declared.entry.Reply.TheVariants.{OutOfRange, TooLong}
use Rattle.nor_bank.proofs.RefusedCalls.{touched_read}
use Rattle.nor_bank.proofs.bank.Bank.range_refusal.Goals as goal

pub returns-then-from-size-clause-call : goal.returns-then-from-size-clause-call
returns-then-from-size-clause-call g c = λ caller given. touched_read c.args.self.now caller c.args.at c.args.len OutOfRange given (search rules)

pub returns-then-len-clause-call : goal.returns-then-len-clause-call
returns-then-len-clause-call g c = λ caller given. touched_read c.args.self.now caller c.args.at c.args.len TooLong given (search rules)
