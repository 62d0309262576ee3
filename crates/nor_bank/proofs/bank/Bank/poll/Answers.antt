use Rattle.std.proofs.Common.{◌∙◌, [], sym, refl, ap, subst}
use Rattle.nor_array.specs.declared.entry.Op.TheVariants.{Poll}
use Rattle.nor_array.specs.declared.entry.Reply.TheVariants.{Nothing}
use Rattle.nor_bank.specs.State.{BankState}
use Rattle.nor_bank.specs.Whole.{IsCallOf}
use Rattle.nor_bank.proofs.PollingCalls.{not_owned, other_owned}
use Rattle.nor_bank.proofs.RefusedCalls.{nothing_call}
use Rattle.nor_bank.proofs.bank.Bank.poll.Goals as goal

pub returns-in-Some : goal.returns-in-Some
returns-in-Some g c = record { call = c.in-Some.ensures.call c.args.caller Poll [] refl refl }

pub returns-in_default-erase : goal.returns-in_default-erase
returns-in_default-erase g c =
    let now = c.refuse.new.self in
    let is = sym (ap (λ (b : BankState). b.erase) c.self.view_is) ∙ c.in-Some-erase.is in
    record {
      call = subst (λ (b : BankState). IsCallOf c.args.caller Poll b now Nothing []) (c.refuse.ensures.same c.in_default.is)
          (nothing_call now c.args.caller (c.refuse.ensures.running c.in_default.is) (other_owned now c.args.caller c.in-Some-erase.erase is c.if-erase-caller.false));
    }

pub returns-in_default-erase-2 : goal.returns-in_default-erase-2
returns-in_default-erase-2 g c =
    let now = c.refuse.new.self in
    let none = sym (ap (λ (b : BankState). b.erase) c.self.view_is) ∙ c.in_default-erase.is in
    record {
      call = subst (λ (b : BankState). IsCallOf c.args.caller Poll b now Nothing []) (c.refuse.ensures.same c.in_default.is)
          (nothing_call now c.args.caller (c.refuse.ensures.running c.in_default.is) (not_owned now c.args.caller none));
    }
