use Rattle.std.proofs.Common.{◌∙◌, sym, ap, subst}
use Rattle.nor_cell.proofs.Logic.{is_none}
use Rattle.nor_bank.specs.State.{BankState, IsBankOf}
use Rattle.nor_bank.proofs.RefusedCalls.{touched_if, kept_call}
use Rattle.nor_bank.proofs.bank.Bank.refuse.Goals as goal

pub returns-then-is_some-clause-call : goal.returns-then-is_some-clause-call
returns-then-is_some-clause-call g c = touched_if c.args.self.now c.args.refusal

pub returns-in-Some-clause-call : goal.returns-in-Some-clause-call
returns-in-Some-clause-call g c = λ caller op given other is.
    kept_call g.W.BusWord.WIDTH caller c.args.self.now c.try_cycle.new.self op c.in-Some.cause given other
    (is ∙ is_none c.args.refusal (sym c.is_some.ensures ∙ c.if-is_some.false))
    (sym (ap (λ (b : BankState). b.halted) c.self.view_is) ∙ c.in-Some.is)
    (subst (λ (b : BankState). IsBankOf g.W.BusWord.WIDTH b.bus b.found b.halted b.erase) c.self.view_is c.self.invariant) c.try_cycle.ensures.same c.try_cycle.ensures.stays
