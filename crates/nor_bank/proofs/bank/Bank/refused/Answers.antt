use Rattle.std.proofs.Common.{ℕ, List, sym, ◌∙◌, subst, Some}
use Rattle.std.specs.Prelude.{IfSome}
use Rattle.nor_array.specs.declared.entry.Op.{Op}
use Rattle.nor_bank.specs.State.{BankState}
use Rattle.nor_bank.specs.Way.{HasNeeds}
use Rattle.nor_bank.specs.Whole.{IsCallOf}
use Rattle.nor_bank.proofs.RefusedCalls.{needs_own, needs_touch, none_touched, refused_under, busy_call, lacking_if}
use Rattle.nor_bank.proofs.bank.Bank.refused.Goals as goal

pub returns-in-Some-clause-call : goal.returns-in-Some-clause-call
returns-in-Some-clause-call g c = λ caller op given has.
    c.in-Some.ensures.call caller op given (needs_own c.args.needs op has)
    (needs_touch c.args.self.now c.args.needs op c.reach_refusal-refusal.result has c.reach_refusal-refusal.ensures)

pub returns-in-Some-while_open-clause-call : goal.returns-in-Some-while_open-clause-call
returns-in-Some-while_open-clause-call g c = λ caller op given has.
    let mid = c.refuse.new.self in
    let same = c.refuse.ensures.same c.in_default.is in
    let none = none_touched c.args.self.now mid c.args.needs.reach c.reach_refusal-refusal.result same c.reach_refusal-refusal.ensures (c.refuse.ensures.unrefused c.in_default.is) in
    subst (λ (b : BankState). IsCallOf caller op b mid c.in-Some-while_open.reply given) same
    (busy_call mid c.args.needs c.in-Some-while_open.reply (c.refuse.ensures.running c.in_default.is) none (refused_under _ mid (Some c.in-Some-while_open.reply) c.under.result c.args.needs c.self.view_is c.under.ensures c.in-Some-while_open.ensures) caller op given has)

pub returns-clause-call : goal.returns-clause-call
returns-clause-call g c =
    let mid = c.refuse.new.self in
    let needs = c.args.needs in
    let same = c.refuse.ensures.same c.in_default.is in
    let none = none_touched c.args.self.now mid needs.reach c.reach_refusal-refusal.result same c.reach_refusal-refusal.ensures (c.refuse.ensures.unrefused c.in_default.is) in
    subst (λ (b : BankState). IfSome c.not_offered.result (λ reply. (caller : ℕ) → (op : Op) → (given : List ℕ) → HasNeeds needs op → IsCallOf caller op b mid reply given)) same
    (lacking_if mid needs c.not_offered.result (c.refuse.ensures.running c.in_default.is) none (sym (refused_under _ mid c.while_open.result c.under.result needs c.self.view_is c.under.ensures c.while_open.ensures) ∙ c.in_default-while_open.is) c.not_offered.ensures)
