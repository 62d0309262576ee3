use Rattle.nor_bank.proofs.LookingBank.{look_kept, look_halted}
use Rattle.nor_bank.proofs.bank.Bank.look.Goals as goal

pub returns-in-Ok-clause-looks : goal.returns-in-Ok-clause-looks
returns-in-Ok-clause-looks g c =
    look_kept g.W.BusWord.WIDTH _ _ c.args.erase c.erased_unit-at.result (g.B.Bus.state c.look_once.new.bus) c.self.view_is c.self.invariant
    c.requires.running c.requires.open c.erased_unit-at.ensures c.in-Ok.lanes c.in-Ok.ensures.looks

pub returns-in-Err-clause-loses : goal.returns-in-Err-clause-loses
returns-in-Err-clause-loses g c =
    look_halted g.W.BusWord.WIDTH _ _ c.args.erase c.erased_unit-at.result (g.B.Bus.state c.look_once.new.bus) c.self.view_is c.self.invariant
    c.requires.running c.requires.open c.erased_unit-at.ensures c.keep_halt.new.halted c.keep_halt.new.erase c.keep_halt.result
    c.keep_halt.ensures.halted c.keep_halt.ensures.erase c.keep_halt.ensures.reply c.in-Err.ensures.loses
