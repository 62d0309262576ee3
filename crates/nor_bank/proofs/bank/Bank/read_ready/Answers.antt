use Rattle.std.proofs.Common.{◌≡◌, length, sym, subst}
use Rattle.nor_cell.specs.declared.device.Device.{Device}
use Rattle.nor_bus.specs.Driven.{EachLane, Went, Lost, Darkens}
use Rattle.nor_array.specs.declared.entry.Halted.TheVariants.{Off}
use Rattle.nor_array.specs.declared.entry.Reply.{Reply}
use Rattle.nor_array.specs.declared.entry.Reply.TheVariants.{Halted}
use Rattle.nor_bank.specs.Ranges.{CanRead, ReadsRange, words_met}
use Rattle.nor_bank.specs.Reads.{ReadsReady, ReadsBank}
use Rattle.nor_bank.specs.State.{BankState, word_bytes}
use Rattle.nor_bank.specs.Way.{halting}
use Rattle.nor_bank.specs.Work.{with_bus}
use Rattle.nor_bank.proofs.LocksLosing.{kept_halt}
use Rattle.nor_bank.proofs.ReadingHeld.{reads_by, loses_by}
use Rattle.nor_bank.proofs.Served.{wide_is}
use Rattle.nor_bank.proofs.bank.Bank.read_ready.Goals as goal

pub returns-in-Ok-clause-reads : goal.returns-in-Ok-clause-reads
returns-in-Ok-clause-reads g c =
    let now = c.args.self.now in
    let width = g.W.BusWord.WIDTH in
    let at = c.args.at in
    let len = length c.args.into.now in
    let bus = g.B.Bus.state c.read_range.new.bus in
    let into = c.read_range.new.into in
    subst (λ (b : BankState). ReadsReady width at now (with_bus b bus) into) (sym c.self.view_is)
    (reads_by width at now bus c.args.into.now into c.in-Ok.ensures.length
    (subst (λ (b : BankState). (device : Device) → CanRead width device b.bus at len → ReadsRange device b.bus bus at into) c.self.view_is c.in-Ok.ensures.reads)
    (subst (λ (b : BankState). Went (words_met at len width) (words_met at len width) b.bus bus) c.self.view_is c.in-Ok.ensures.went))

pub returns-in-Ok-clause-wide : goal.returns-in-Ok-clause-wide
returns-in-Ok-clause-wide g c =
    subst (λ (b : BankState). word_bytes b.found ≡ g.W.BusWord.WIDTH) c.self.view_is (wide_is g.W.BusWord.WIDTH c.self.inside.found c.self.invariant.wiring)

pub returns-in-Err-clause-reads : goal.returns-in-Err-clause-reads
returns-in-Err-clause-reads g c =
    let now = c.args.self.now in
    let width = g.W.BusWord.WIDTH in
    let at = c.args.at in
    let len = length c.args.into.now in
    let bus = g.B.Bus.state c.read_range.new.bus in
    let into = c.read_range.new.into in
    let lost = loses_by width at now bus c.args.into.now into c.in-Err.ensures.length
    (subst (λ (b : BankState). (device : Device) → CanRead width device b.bus at len → EachLane Darkens b.bus bus) c.self.view_is c.in-Err.ensures.dark)
    (subst (λ (b : BankState). Lost (words_met at len width) b.bus bus) c.self.view_is c.in-Err.ensures.lost) in
    let shape : BankState = record {
      bus = g.B.Bus.state c.self.inside.bus;
      found = c.self.inside.found;
      halted = c.self.inside.halted;
      erase = c.self.inside.erase;
      after = c.self.inside.after;
    } in
    kept_halt (λ (b : BankState) (reply : Reply). ReadsBank width at now b into reply) shape bus (Off c.self.inside.after) c.keep_halt.new.halted c.keep_halt.new.erase c.keep_halt.result
    c.keep_halt.ensures.halted c.keep_halt.ensures.erase c.keep_halt.ensures.reply
    (subst (λ (b : BankState). ReadsBank width at now (halting (with_bus b bus) (Off b.after)) into (Halted (Off b.after))) (sym c.self.view_is) lost)

pub returns-in-Err-clause-wide : goal.returns-in-Err-clause-wide
returns-in-Err-clause-wide g c =
    subst (λ (b : BankState). word_bytes b.found ≡ g.W.BusWord.WIDTH) c.self.view_is (wide_is g.W.BusWord.WIDTH c.self.inside.found c.self.invariant.wiring)
