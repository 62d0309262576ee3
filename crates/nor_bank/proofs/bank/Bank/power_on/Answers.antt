use Rattle.std.proofs.Common.{◌≡◌, sym, ap, subst, ◌∙◌, Some}
use Rattle.nor_array.specs.declared.entry.Halted.{Halted as HaltCause}
use Rattle.nor_array.specs.declared.entry.Halted.TheVariants.{Off}
use Rattle.nor_array.specs.declared.entry.Reply.TheVariants.{Halted}
use Rattle.nor_bank.specs.State.{BankState}
use Rattle.nor_bank.specs.Whole.{PowersBank}
use Rattle.nor_bank.proofs.Arming.{powers_nothing, powers_stuck, powers_from, powers_keep}
use Rattle.nor_bank.proofs.Keeping.{keeps_self}
use Rattle.nor_bank.proofs.bank.Bank.power_on.Goals as goal

pub returns-in-Stuck-clause-call : goal.returns-in-Stuck-clause-call
returns-in-Stuck-clause-call g c =
    let now = c.args.self.now in
    let kept = sym (ap (λ (b : BankState). b.halted) c.self.view_is) in
    subst (λ (cause : HaltCause). PowersBank now now (Halted cause)) (sym c.in-Stuck.is)
    (powers_stuck now c.in-Stuck.lane (kept ∙ (c.in-Some.is ∙ ap (λ (cause : HaltCause). Some cause) c.in-Stuck.is)))

pub returns-in-Off-clause-call : goal.returns-in-Off-clause-call
returns-in-Off-clause-call g c =
    let halted : c.self.inside.halted ≡ Some (Off c.in-Off.after) = c.in-Some.is ∙ ap (λ (cause : HaltCause). Some cause) c.in-Off.is in
    powers_from _ _ _ c.in-Off.after c.self.view_is halted c.power_on.ensures.powers c.power_on.ensures.kept

pub returns-in-Stuck-clause-keeps : goal.returns-in-Stuck-clause-keeps
returns-in-Stuck-clause-keeps g c = keeps_self c.args.self.now

pub returns-in-Off-clause-keeps : goal.returns-in-Off-clause-keeps
returns-in-Off-clause-keeps g c = powers_keep _ _ _ c.self.view_is c.power_on.ensures.kept

pub returns-in-None-clause-keeps : goal.returns-in-None-clause-keeps
returns-in-None-clause-keeps g c = keeps_self c.args.self.now

pub returns-in-None-clause-call : goal.returns-in-None-clause-call
returns-in-None-clause-call g c = powers_nothing c.args.self.now (sym (ap (λ (b : BankState). b.halted) c.self.view_is) ∙ c.in-None.is)
