use Rattle.std.proofs.Common.{sym, subst}
use Rattle.nor_bus.specs.Driven.{EachLane, Lost, Reaches, Went}
use Rattle.nor_poll.specs.Lock.{OffersLocks, TellsLock}
use Rattle.nor_poll.specs.Losing.{LosesNone}
use Rattle.nor_array.specs.declared.entry.Halted.TheVariants.{Off}
use Rattle.nor_array.specs.declared.entry.Reply.{Reply}
use Rattle.nor_array.specs.declared.entry.Reply.TheVariants.{Halted}
use Rattle.nor_bank.specs.Locks.{ReadsLocks, LosesLocks}
use Rattle.nor_bank.specs.State.{BankState, IsBankOf}
use Rattle.nor_bank.specs.Way.{halting}
use Rattle.nor_bank.specs.Work.{with_bus}
use Rattle.nor_bank.proofs.LocksReading.{ReadsAt, read_cycles, read_told, read_reads}
use Rattle.nor_bank.proofs.LocksLosing.{kept_halt, read_lost}
use Rattle.nor_bank.proofs.bank.Bank.reads_locked.Goals as goal

pub returns-in-Ok-clause-locked : goal.returns-in-Ok-clause-locked
returns-in-Ok-clause-locked g c =
    let now = c.args.self.now in
    let width = g.W.BusWord.WIDTH in
    let at = c.unit_of-at.result in
    let bus = g.B.Bus.state c.is_locked.new.bus in
    let bank : IsBankOf width now.bus now.found now.halted now.erase = subst (λ (b : BankState). IsBankOf width b.bus b.found b.halted b.erase) c.self.view_is c.self.invariant in
    let is : ReadsAt width c.args.block at now = record { wiring = bank.wiring; there = c.requires.there; offers = c.requires.offers; unit = c.unit_of-at.ensures } in
    read_told width c.args.block at now is bus c.in-Ok.locked
    (subst (λ (b : BankState). TellsLock b.found.query.set width b.found.geometry at b.bus bus c.in-Ok.locked) c.self.view_is c.in-Ok.ensures.tells)

pub returns-in-Ok-clause-reads : goal.returns-in-Ok-clause-reads
returns-in-Ok-clause-reads g c =
    let now = c.args.self.now in
    let width = g.W.BusWord.WIDTH in
    let at = c.unit_of-at.result in
    let bus = g.B.Bus.state c.is_locked.new.bus in
    let bank : IsBankOf width now.bus now.found now.halted now.erase = subst (λ (b : BankState). IsBankOf width b.bus b.found b.halted b.erase) c.self.view_is c.self.invariant in
    let is : ReadsAt width c.args.block at now = record { wiring = bank.wiring; there = c.requires.there; offers = c.requires.offers; unit = c.unit_of-at.ensures } in
    subst (λ (b : BankState). ReadsLocks 6 now (with_bus b bus)) (sym c.self.view_is)
    (read_reads width c.args.block at now is bus c.in-Ok.locked
    (subst (λ (b : BankState). TellsLock b.found.query.set width b.found.geometry at b.bus bus c.in-Ok.locked) c.self.view_is c.in-Ok.ensures.tells)
    (subst (λ (b : BankState). Went (read_cycles b.found.query.set) (read_cycles b.found.query.set) b.bus bus) c.self.view_is c.in-Ok.ensures.cycles))

pub returns-in-Err-clause-loses : goal.returns-in-Err-clause-loses
returns-in-Err-clause-loses g c =
    let now = c.args.self.now in
    let width = g.W.BusWord.WIDTH in
    let at = c.unit_of-at.result in
    let bus = g.B.Bus.state c.is_locked.new.bus in
    let bank : IsBankOf width now.bus now.found now.halted now.erase = subst (λ (b : BankState). IsBankOf width b.bus b.found b.halted b.erase) c.self.view_is c.self.invariant in
    let is : ReadsAt width c.args.block at now = record { wiring = bank.wiring; there = c.requires.there; offers = c.requires.offers; unit = c.unit_of-at.ensures } in
    let lost = read_lost width c.args.block at now is bus
    (subst (λ (b : BankState). Reaches width b.found.geometry at b.bus → EachLane (LosesNone (OffersLocks b.found.query.set)) b.bus bus) c.self.view_is c.in-Err.ensures.loses)
    (subst (λ (b : BankState). Lost (read_cycles b.found.query.set) b.bus bus) c.self.view_is c.in-Err.ensures.cycles) in
    let shape : BankState = record {
      bus = g.B.Bus.state c.self.inside.bus;
      found = c.self.inside.found;
      halted = c.self.inside.halted;
      erase = c.self.inside.erase;
      after = c.self.inside.after;
    } in
    kept_halt (λ (b : BankState) (reply : Reply). LosesLocks 6 now b reply) shape bus (Off c.self.inside.after) c.keep_halt.new.halted c.keep_halt.new.erase c.keep_halt.result
    c.keep_halt.ensures.halted c.keep_halt.ensures.erase c.keep_halt.ensures.reply
    (subst (λ (b : BankState). LosesLocks 6 now (halting (with_bus b bus) (Off b.after)) (Halted (Off b.after))) (sym c.self.view_is) lost)
