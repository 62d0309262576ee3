use Rattle.nor_bank.proofs.bank.Bank.lock.Goals as goal

pub returns : goal.returns
returns g c = record { call = c.set_lock.ensures.call c.args.caller }
