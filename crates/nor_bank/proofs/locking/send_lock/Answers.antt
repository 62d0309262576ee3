use Rattle.std.proofs.Common.{sym, subst, Bool, OnErr}
use Rattle.nor_bus.specs.Driven.{Reaches}
use Rattle.nor_poll.specs.Lock.{LosesLock}
use Rattle.nor_bank.proofs.locking.send_lock.Goals as goal

pub returns-then-locked-clause-loses : goal.returns-then-locked-clause-loses
returns-then-locked-clause-loses g c =
    let old = g.B.Bus.state c.args.bus.now in
    let new = g.B.Bus.state c.lock.new.bus in
    subst (λ (locked : Bool). OnErr c.lock.result (Reaches g.W.BusWord.WIDTH c.args.g c.args.at old → LosesLock c.args.set c.args.at locked old new)) (sym c.if-locked.true)
    c.lock.ensures.loses

pub returns-else-locked-clause-loses : goal.returns-else-locked-clause-loses
returns-else-locked-clause-loses g c =
    let old = g.B.Bus.state c.args.bus.now in
    let new = g.B.Bus.state c.unlock.new.bus in
    subst (λ (locked : Bool). OnErr c.unlock.result (Reaches g.W.BusWord.WIDTH c.args.g c.args.at old → LosesLock c.args.set c.args.at locked old new)) (sym c.if-locked.false)
    c.unlock.ensures.loses
