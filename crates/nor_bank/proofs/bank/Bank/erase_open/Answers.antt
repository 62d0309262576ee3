use Rattle.std.proofs.Common.{◌≡◌, ◌<◌, ◌/◌, [], length, sym, refl, ◌∙◌, ap, subst, Option, Some}
use Rattle.nor_cell.specs.Chip.{block}
use Rattle.nor_poll.proofs.Telling.{wired}
use Rattle.nor_array.specs.declared.entry.Halted.{Halted as HaltCause}
use Rattle.nor_array.specs.declared.entry.Halted.TheVariants.{Off}
use Rattle.nor_array.specs.declared.entry.Op.TheVariants.{EraseOpen}
use Rattle.nor_array.specs.declared.entry.Reply.{Reply}
use Rattle.nor_bank.specs.State.{BankState, blocks_of}
use Rattle.nor_bank.specs.Way.{BeginsChange, change_most, halting}
use Rattle.nor_bank.specs.Whole.{IsCallOf}
use Rattle.nor_bank.specs.declared.kept.Erasing.{Erasing}
use Rattle.nor_bank.proofs.OpeningCalls.{needs_block, there_begun, begins_running, opened_block, lost_block}
use Rattle.nor_bank.proofs.bank.Bank.erase_open.Goals as goal

pub returns-in-Some : goal.returns-in-Some
returns-in-Some g c = record {
  call = c.in-Some.ensures.call c.args.caller (EraseOpen c.args.block) [] (needs_block c.args.block c.erase_call.result c.erase_call.ensures) (λ idle. refl);
}

pub unit_of-at-requires : goal.unit_of-at-requires
unit_of-at-requires g c =
    let op = EraseOpen c.args.block in
    there_begun (change_most c.args.self.now op) c.args.caller c.args.block c.args.self.now c.before_change.new.self
    (c.in_default.ensures.works refl c.args.caller op (needs_block c.args.block c.erase_call.result c.erase_call.ensures))

pub open-requires-clause-running : goal.open-requires-clause-running
open-requires-clause-running g c =
    let op = EraseOpen c.args.block in
    let begins = c.in_default.ensures.works refl c.args.caller op (needs_block c.args.block c.erase_call.result c.erase_call.ensures) in
    ap (λ (b : BankState). b.halted) c.self.view_is
    ∙ begins_running (change_most c.args.self.now op) c.args.caller op c.args.self.now c.before_change.new.self begins

pub open-requires-clause-there : goal.open-requires-clause-there
open-requires-clause-there g c =
    let op = EraseOpen c.args.block in
    let begins = c.in_default.ensures.works refl c.args.caller op (needs_block c.args.block c.erase_call.result c.erase_call.ensures) in
    subst (λ (b : BankState). c.args.block < length (blocks_of b.found)) (sym c.self.view_is)
    (there_begun (change_most c.args.self.now op) c.args.caller c.args.block c.args.self.now c.before_change.new.self begins)

pub returns-in-Ok : goal.returns-in-Ok
returns-in-Ok g c =
    let k = c.args.block in
    let op = EraseOpen k in
    let w = g.W.BusWord.WIDTH in
    let old = c.args.self.now in
    let mid : BankState = record {
      bus = g.B.Bus.state c.self.inside.bus;
      found = c.self.inside.found;
      halted = c.self.inside.halted;
      erase = c.self.inside.erase;
      after = c.self.inside.after;
    } in
    let last : BankState = record mid { bus = g.B.Bus.state c.erase_start.new.bus } in
    let is : mid ≡ c.before_change.new.self = c.self.view_is in
    let begins = subst (λ (b : BankState). BeginsChange (change_most old op) c.args.caller op old b) (sym is)
    (c.in_default.ensures.works refl c.args.caller op (needs_block k c.erase_call.result c.erase_call.ensures)) in
    let at : c.unit_of-at.result ≡ (block (blocks_of mid.found) k).from / w =
    c.unit_of-at.ensures ∙ ap (λ (b : BankState). (block (blocks_of b.found) k).from / w) (sym is) in
    let wide = (wired w mid.found.geometry.lanes mid.found.geometry.device c.self.invariant.wiring).1 in
    record {
      call = subst (λ (r : Reply). IsCallOf c.args.caller op old c.open.new.self r []) (sym c.open.ensures.reply)
          (opened_block w c.args.caller k c.unit_of-at.result old mid last c.open.new.self begins refl wide at mid.found.query.set refl
          c.in-Ok.ensures.begins c.in-Ok.ensures.cycles c.open.ensures.opens);
    }

pub returns-in-Err : goal.returns-in-Err
returns-in-Err g c =
    let k = c.args.block in
    let op = EraseOpen k in
    let w = g.W.BusWord.WIDTH in
    let old = c.args.self.now in
    let mid : BankState = record {
      bus = g.B.Bus.state c.self.inside.bus;
      found = c.self.inside.found;
      halted = c.self.inside.halted;
      erase = c.self.inside.erase;
      after = c.self.inside.after;
    } in
    let last : BankState = record mid { bus = g.B.Bus.state c.erase_start.new.bus } in
    let new : BankState = record last { halted = c.keep_halt.new.halted; erase = c.keep_halt.new.erase } in
    let is : mid ≡ c.before_change.new.self = c.self.view_is in
    let begins = subst (λ (b : BankState). BeginsChange (change_most old op) c.args.caller op old b) (sym is)
    (c.in_default.ensures.works refl c.args.caller op (needs_block k c.erase_call.result c.erase_call.ensures)) in
    let at : c.unit_of-at.result ≡ (block (blocks_of mid.found) k).from / w =
    c.unit_of-at.ensures ∙ ap (λ (b : BankState). (block (blocks_of b.found) k).from / w) (sym is) in
    let wide = (wired w mid.found.geometry.lanes mid.found.geometry.device c.self.invariant.wiring).1 in
    let kept : new ≡ halting last (Off last.after) =
    ap (λ (h : Option HaltCause). record last { halted = h; erase = c.keep_halt.new.erase }) c.keep_halt.ensures.halted
    ∙ ap (λ (e : Option Erasing). record last { halted = Some (Off last.after); erase = e }) c.keep_halt.ensures.erase in
    record {
      call = subst (λ (r : Reply). IsCallOf c.args.caller op old new r []) (sym c.keep_halt.ensures.reply)
          (lost_block w c.args.caller k c.unit_of-at.result old mid last new begins refl wide at mid.found.query.set refl
          c.in-Err.ensures.loses c.in-Err.ensures.cycles kept);
    }
