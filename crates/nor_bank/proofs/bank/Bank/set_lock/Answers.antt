use Rattle.std.proofs.Common.{[], refl, sym, subst, false}
use Rattle.nor_bus.specs.Driven.{EachLane, Lost, Reaches, Went}
use Rattle.nor_poll.specs.Lock.{LosesLock, SetsLock}
use Rattle.nor_array.specs.declared.needs.CallNeeds.{CallNeeds}
use Rattle.nor_array.specs.declared.entry.Halted.TheVariants.{Off}
use Rattle.nor_array.specs.declared.entry.Reply.{Reply}
use Rattle.nor_array.specs.declared.entry.Reply.TheVariants.{Done, Halted}
use Rattle.nor_bank.specs.Locks.{lock_op}
use Rattle.nor_bank.specs.State.{BankState, IsBankOf}
use Rattle.nor_bank.specs.Way.{BeginsWork, HasNeeds, halting, way_most}
use Rattle.nor_bank.specs.Whole.{IsCallOf}
use Rattle.nor_bank.specs.Work.{with_bus}
use Rattle.nor_bank.proofs.LocksCalls.{lock_cycles, lock_needs, lock_there, set_call, set_lost_call, sets_at}
use Rattle.nor_bank.proofs.LocksLosing.{kept_halt}
use Rattle.nor_bank.proofs.LocksReading.{ReadsAt}
use Rattle.nor_bank.proofs.bank.Bank.set_lock.Goals as goal

pub returns-in-Some : goal.returns-in-Some
returns-in-Some g c =
    let op = lock_op c.args.locked c.args.block in
    record {
      call = λ caller.
          c.in-Some.ensures.call caller op [] (subst (λ (n : CallNeeds). HasNeeds n op) (sym c.lock_call.ensures) (lock_needs c.args.locked c.args.block)) (λ idle. refl);
    }

pub unit_of-at-requires : goal.unit_of-at-requires
unit_of-at-requires g c =
    let op = lock_op c.args.locked c.args.block in
    (lock_there 0 c.args.block c.args.locked c.args.self.now c.before_work.new.self (c.in_default.ensures.works refl 0 op
    (subst (λ (n : CallNeeds). HasNeeds n op) (sym c.lock_call.ensures) (lock_needs c.args.locked c.args.block)))).there

pub returns-in-Ok : goal.returns-in-Ok
returns-in-Ok g c =
    let width = g.W.BusWord.WIDTH in
    let k = c.args.block in
    let locked = c.args.locked in
    let op = lock_op c.args.locked c.args.block in
    let old = c.args.self.now in
    let mid = c.before_work.new.self in
    let at = c.unit_of-at.result in
    let bus = g.B.Bus.state c.send_lock.new.bus in
    let needs = subst (λ (n : CallNeeds). HasNeeds n op) (sym c.lock_call.ensures) (lock_needs locked k) in
    let bank : IsBankOf width mid.bus mid.found mid.halted mid.erase = subst (λ (b : BankState). IsBankOf width b.bus b.found b.halted b.erase) c.self.view_is c.self.invariant in
    record {
      call = λ caller.
          let begins : BeginsWork false way_most caller op old mid = c.in_default.ensures.works refl caller op needs in
          let is : ReadsAt width k at mid = sets_at width k at caller locked old mid begins bank.wiring c.unit_of-at.ensures in
          subst (λ (b : BankState). IsCallOf caller op old (with_bus b bus) Done []) (sym c.self.view_is)
          (set_call width k at caller locked old mid begins is bus
          (subst (λ (b : BankState). Reaches width b.found.geometry at b.bus → EachLane (SetsLock b.found.query.set at locked) b.bus bus) c.self.view_is c.in-Ok.ensures.locks)
          (subst (λ (b : BankState). Went (lock_cycles b.found.query.set locked) (lock_cycles b.found.query.set locked) b.bus bus) c.self.view_is c.in-Ok.ensures.cycles));
    }

pub returns-in-Err : goal.returns-in-Err
returns-in-Err g c =
    let width = g.W.BusWord.WIDTH in
    let k = c.args.block in
    let locked = c.args.locked in
    let op = lock_op c.args.locked c.args.block in
    let old = c.args.self.now in
    let mid = c.before_work.new.self in
    let at = c.unit_of-at.result in
    let bus = g.B.Bus.state c.send_lock.new.bus in
    let needs = subst (λ (n : CallNeeds). HasNeeds n op) (sym c.lock_call.ensures) (lock_needs locked k) in
    let bank : IsBankOf width mid.bus mid.found mid.halted mid.erase = subst (λ (b : BankState). IsBankOf width b.bus b.found b.halted b.erase) c.self.view_is c.self.invariant in
    let shape : BankState = record {
      bus = g.B.Bus.state c.self.inside.bus;
      found = c.self.inside.found;
      halted = c.self.inside.halted;
      erase = c.self.inside.erase;
      after = c.self.inside.after;
    } in
    record {
      call = λ caller.
          let begins : BeginsWork false way_most caller op old mid = c.in_default.ensures.works refl caller op needs in
          let is : ReadsAt width k at mid = sets_at width k at caller locked old mid begins bank.wiring c.unit_of-at.ensures in
          kept_halt (λ (b : BankState) (reply : Reply). IsCallOf caller op old b reply []) shape bus (Off c.self.inside.after) c.keep_halt.new.halted c.keep_halt.new.erase
          c.keep_halt.result c.keep_halt.ensures.halted c.keep_halt.ensures.erase c.keep_halt.ensures.reply
          (subst (λ (b : BankState). IsCallOf caller op old (halting (with_bus b bus) (Off b.after)) (Halted (Off b.after)) []) (sym c.self.view_is)
          (set_lost_call width k at caller locked old mid begins is bus
          (subst (λ (b : BankState). Reaches width b.found.geometry at b.bus → LosesLock b.found.query.set at locked b.bus bus) c.self.view_is c.in-Err.ensures.loses)
          (subst (λ (b : BankState). Lost (lock_cycles b.found.query.set locked) b.bus bus) c.self.view_is c.in-Err.ensures.cycles)));
    }
