use Rattle.std.proofs.Common.{refl, ap, ◌∙◌, arith, Some}
use Rattle.nor_array.specs.declared.entry.Reply.{Reply}
use Rattle.nor_array.specs.declared.entry.Reply.TheVariants.{Halted}
use Rattle.nor_bank.specs.Pieces.{ProgramsBank, ProgramsRange}
use Rattle.nor_bank.specs.Runs.{least_limit}
use Rattle.nor_bank.specs.State.{BankState}
use Rattle.nor_bank.specs.Way.{cause_of, halting}
use Rattle.nor_bank.specs.Work.{with_bus}
use Rattle.nor_bank.specs.declared.programming.Outcome.{Outcome}
use Rattle.nor_bank.specs.declared.programming.Outcome.TheVariants.{BrokeOff, GivenUp}
use Rattle.nor_bank.proofs.LocksLosing.{kept_halt}
use Rattle.nor_bank.proofs.PiecesCall.{halted_bank, programs_bank, running_bank, stored_answers}
use Rattle.nor_bank.proofs.Served.{wide_is}
use Rattle.nor_bank.proofs.bank.Bank.program_ready.Goals as goal

pub program_range-requires-clause-few : goal.program_range-requires-clause-few
program_range-requires-clause-few g c = let size = c.size-size.ensures in let small = c.size-size.type_inv in let within = c.requires.within in omega (arith, size, small, within)

pub failed-requires-clause-few : goal.failed-requires-clause-few
failed-requires-clause-few g c = let size = c.size-size.ensures in let small = c.size-size.type_inv in let within = c.requires.within in omega (arith, size, small, within)

-- ---- the bank that it leaves

pub invariant_of-self-in-BrokeOff : goal.invariant_of-self-in-BrokeOff
invariant_of-self-in-BrokeOff g c =
    let f = c.self.inside.found in
    let w = g.W.BusWord.WIDTH in
    running_bank w f c.self.inside.halted c.self.inside.erase _ (g.B.Bus.state c.self.inside.bus) (g.B.Bus.state c.program_range.new.bus) c.self.invariant
    (ap (λ (b : BankState). b.halted) c.self.view_is ∙ c.requires.running) c.in-BrokeOff.ensures.takes

pub invariant_of-self-in-GivenUp : goal.invariant_of-self-in-GivenUp
invariant_of-self-in-GivenUp g c =
    let f = c.self.inside.found in
    let w = g.W.BusWord.WIDTH in
    halted_bank w f c.self.inside.halted c.keep_halt.new.halted c.self.inside.erase c.keep_halt.new.erase c.self.inside.after f.geometry.lanes (least_limit f) _ c.in-GivenUp.halt
    (g.B.Bus.state c.self.inside.bus) (g.B.Bus.state c.program_range.new.bus) c.self.invariant c.in-GivenUp.ensures.takes
    (c.keep_halt.ensures.halted ∙ ap Some c.cause_of-cause.ensures) c.keep_halt.ensures.erase

-- ---- its answer

pub returns-in-Skipped : goal.returns-in-Skipped
returns-in-Skipped g c =
    let w = g.W.BusWord.WIDTH in
    let now = g.B.Bus.state c.program_range.new.bus in
    let shape : BankState = record {
      bus = g.B.Bus.state c.self.inside.bus;
      found = c.self.inside.found;
      halted = c.self.inside.halted;
      erase = c.self.inside.erase;
      after = c.self.inside.after;
    } in
    let is = c.program_range.ensures in
    let programs : ProgramsRange w c.args.at c.args.from.now shape.found c.program_range.result shape.bus now =
    record { becomes = is.becomes; takes = is.takes; costs = is.costs; there = is.there; named = is.named; run = is.run } in
    programs_bank w c.args.at c.args.from.now shape c.args.self.now (with_bus shape now) c.program_range.result now _ (wide_is w c.self.inside.found c.self.invariant.wiring) c.self.view_is programs
    (stored_answers w c.args.at _ c.program_range.result shape now c.in-Skipped.is)

pub returns-in-BrokeOff : goal.returns-in-BrokeOff
returns-in-BrokeOff g c =
    let w = g.W.BusWord.WIDTH in
    let now = g.B.Bus.state c.program_range.new.bus in
    let shape : BankState = record {
      bus = g.B.Bus.state c.self.inside.bus;
      found = c.self.inside.found;
      halted = c.self.inside.halted;
      erase = c.self.inside.erase;
      after = c.self.inside.after;
    } in
    let is = c.in-BrokeOff.ensures in
    let outcome : Outcome = BrokeOff c.in-BrokeOff.piece c.in-BrokeOff.lanes in
    let programs : ProgramsRange w c.args.at c.args.from.now shape.found outcome shape.bus now =
    record { becomes = is.becomes; takes = is.takes; costs = is.costs; there = is.there; named = is.named; run = is.run } in
    programs_bank w c.args.at c.args.from.now shape c.args.self.now (with_bus shape now) outcome now c.failed.result (wide_is w c.self.inside.found c.self.invariant.wiring) c.self.view_is programs
    (c.failed.ensures, refl)

pub returns-in-GivenUp : goal.returns-in-GivenUp
returns-in-GivenUp g c =
    let w = g.W.BusWord.WIDTH in
    let now = g.B.Bus.state c.program_range.new.bus in
    let shape : BankState = record {
      bus = g.B.Bus.state c.self.inside.bus;
      found = c.self.inside.found;
      halted = c.self.inside.halted;
      erase = c.self.inside.erase;
      after = c.self.inside.after;
    } in
    let is = c.in-GivenUp.ensures in
    let halt = c.in-GivenUp.halt in
    let outcome : Outcome = GivenUp halt in
    let cause = cause_of c.self.inside.after halt in
    let programs : ProgramsRange w c.args.at c.args.from.now shape.found outcome shape.bus now =
    record { becomes = is.becomes; takes = is.takes; costs = is.costs; there = is.there; named = is.named; run = is.run } in
    kept_halt (λ (b : BankState) (reply : Reply). ProgramsBank c.args.at c.args.from.now c.args.self.now b reply) shape now cause c.keep_halt.new.halted c.keep_halt.new.erase c.keep_halt.result
    (c.keep_halt.ensures.halted ∙ ap Some c.cause_of-cause.ensures) c.keep_halt.ensures.erase (c.keep_halt.ensures.reply ∙ ap Halted c.cause_of-cause.ensures)
    (programs_bank w c.args.at c.args.from.now shape c.args.self.now (halting (with_bus shape now) cause) outcome now (Halted cause) (wide_is w c.self.inside.found c.self.invariant.wiring) c.self.view_is programs
    (refl, refl))
