use Rattle.std.proofs.Common.{◌≡◌, [], refl, sym, ap, ◌∙◌, None}
use Rattle.nor_array.specs.declared.entry.Op.TheVariants.{Poll}
use Rattle.nor_bank.specs.State.{BankState}
use Rattle.nor_bank.proofs.Arming.{arms_reply, arms_from, arms_keep}
use Rattle.nor_bank.proofs.Keeping.{keeps_call}
use Rattle.nor_bank.proofs.bank.Bank.arm.Goals as goal

pub returns-in-Some-clause-call : goal.returns-in-Some-clause-call
returns-in-Some-clause-call g c =
    let stays = c.refuse.ensures.stays refl in
    arms_reply c.args.self.now.halted c.args.self.now c.refuse.new.self c.args.after c.args.mask c.in-Some.reply refl
    (sym c.in-Some.is ∙ c.refuse.ensures.reply) stays.0 stays.1

pub returns-clause-call : goal.returns-clause-call
returns-clause-call g c =
    let none : c.refuse.result ≡ None = let is = c.in_default.is in cc in
    let same = c.refuse.ensures.same none in
    let running = sym (ap (λ (b : BankState). b.halted) same) ∙ c.refuse.ensures.running none in
    arms_from _ _ _ c.args.after c.args.mask (c.self.view_is ∙ same) running c.arm.ensures

pub returns-in-Some-clause-keeps : goal.returns-in-Some-clause-keeps
returns-in-Some-clause-keeps g c =
    keeps_call 0 Poll c.args.self.now c.refuse.new.self c.in-Some.reply (c.in-Some.ensures.call 0 Poll [] refl refl).leaves

pub returns-clause-keeps : goal.returns-clause-keeps
returns-clause-keeps g c =
    let none : c.refuse.result ≡ None = let is = c.in_default.is in cc in
    let same = c.refuse.ensures.same none in
    arms_keep _ _ _ c.args.after c.args.mask (c.self.view_is ∙ same) c.arm.ensures
