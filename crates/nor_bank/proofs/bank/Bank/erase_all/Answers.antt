use Rattle.std.proofs.Common.{◌≡◌, [], sym, refl, ◌∙◌, ap, subst, Option, Some}
use Rattle.nor_poll.proofs.Telling.{wired}
use Rattle.nor_array.specs.declared.entry.Halted.{Halted as HaltCause}
use Rattle.nor_array.specs.declared.entry.Halted.TheVariants.{Off}
use Rattle.nor_array.specs.declared.entry.Op.TheVariants.{EraseAll}
use Rattle.nor_array.specs.declared.entry.Reply.{Reply}
use Rattle.nor_bank.specs.State.{BankState}
use Rattle.nor_bank.specs.Way.{BeginsChange, change_most, halting}
use Rattle.nor_bank.specs.Whole.{IsCallOf}
use Rattle.nor_bank.specs.declared.kept.Erasing.{Erasing}
use Rattle.nor_bank.proofs.OpeningCalls.{needs_all, begins_running, opened_all, lost_all}
use Rattle.nor_bank.proofs.bank.Bank.erase_all.Goals as goal

pub returns-in-Some : goal.returns-in-Some
returns-in-Some g c = record {
  call = c.in-Some.ensures.call c.args.caller EraseAll [] (needs_all c.erase_all_call.result c.erase_all_call.ensures) (λ idle. refl);
}

pub open-requires-clause-running : goal.open-requires-clause-running
open-requires-clause-running g c =
    let begins = c.in_default.ensures.works refl c.args.caller EraseAll (needs_all c.erase_all_call.result c.erase_all_call.ensures) in
    ap (λ (b : BankState). b.halted) c.self.view_is
    ∙ begins_running (change_most c.args.self.now EraseAll) c.args.caller EraseAll c.args.self.now c.before_change.new.self begins

pub returns-in-Ok : goal.returns-in-Ok
returns-in-Ok g c =
    let w = g.W.BusWord.WIDTH in
    let old = c.args.self.now in
    let mid : BankState = record {
      bus = g.B.Bus.state c.self.inside.bus;
      found = c.self.inside.found;
      halted = c.self.inside.halted;
      erase = c.self.inside.erase;
      after = c.self.inside.after;
    } in
    let last : BankState = record mid { bus = g.B.Bus.state c.erase_all_start.new.bus } in
    let is : mid ≡ c.before_change.new.self = c.self.view_is in
    let begins = subst (λ (b : BankState). BeginsChange (change_most old EraseAll) c.args.caller EraseAll old b) (sym is)
    (c.in_default.ensures.works refl c.args.caller EraseAll (needs_all c.erase_all_call.result c.erase_all_call.ensures)) in
    let wide = (wired w mid.found.geometry.lanes mid.found.geometry.device c.self.invariant.wiring).1 in
    record {
      call = subst (λ (r : Reply). IsCallOf c.args.caller EraseAll old c.open.new.self r []) (sym c.open.ensures.reply)
          (opened_all w c.args.caller old mid last c.open.new.self begins refl wide c.in-Ok.ensures.begins c.in-Ok.ensures.cycles c.open.ensures.opens);
    }

pub returns-in-Err : goal.returns-in-Err
returns-in-Err g c =
    let w = g.W.BusWord.WIDTH in
    let old = c.args.self.now in
    let mid : BankState = record {
      bus = g.B.Bus.state c.self.inside.bus;
      found = c.self.inside.found;
      halted = c.self.inside.halted;
      erase = c.self.inside.erase;
      after = c.self.inside.after;
    } in
    let last : BankState = record mid { bus = g.B.Bus.state c.erase_all_start.new.bus } in
    let new : BankState = record last { halted = c.keep_halt.new.halted; erase = c.keep_halt.new.erase } in
    let is : mid ≡ c.before_change.new.self = c.self.view_is in
    let begins = subst (λ (b : BankState). BeginsChange (change_most old EraseAll) c.args.caller EraseAll old b) (sym is)
    (c.in_default.ensures.works refl c.args.caller EraseAll (needs_all c.erase_all_call.result c.erase_all_call.ensures)) in
    let wide = (wired w mid.found.geometry.lanes mid.found.geometry.device c.self.invariant.wiring).1 in
    let kept : new ≡ halting last (Off last.after) =
    ap (λ (h : Option HaltCause). record last { halted = h; erase = c.keep_halt.new.erase }) c.keep_halt.ensures.halted
    ∙ ap (λ (e : Option Erasing). record last { halted = Some (Off last.after); erase = e }) c.keep_halt.ensures.erase in
    record {
      call = subst (λ (r : Reply). IsCallOf c.args.caller EraseAll old new r []) (sym c.keep_halt.ensures.reply)
          (lost_all w c.args.caller old mid last new begins refl wide c.in-Err.ensures.loses c.in-Err.ensures.cycles kept);
    }
