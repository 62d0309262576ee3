use Rattle.std.proofs.Common.{subst, Bool}
use Rattle.nor_bank.specs.Way.{ClearsWay}
use Rattle.nor_bank.proofs.Halting.{never_done, never_failed, idle_answer, begins_answer, waits_answer, halts_answer, there_answer}
use Rattle.nor_bank.proofs.bank.Bank.before_work.Goals as goal

pub returns-in-Some-clause-call : goal.returns-in-Some-clause-call
returns-in-Some-clause-call g c = λ caller op given has empty. c.in-Some.ensures.call caller op given has

pub returns-in-Some-clause-done : goal.returns-in-Some-clause-done
returns-in-Some-clause-done g c = λ done op has.
    absurd (never_done c.args.self.now 0 op c.refused.result c.in-Some.reply (c.refused.ensures.reply 0 op has) c.in-Some.is done)

pub returns-in-Some-clause-unfailed : goal.returns-in-Some-clause-unfailed
returns-in-Some-clause-unfailed g c = λ from to lanes failed op has.
    absurd (never_failed c.args.self.now 0 op c.refused.result c.in-Some.reply from to lanes (c.refused.ensures.reply 0 op has) c.in-Some.is failed)

pub returns-then-needs-clause-call : goal.returns-then-needs-clause-call
returns-then-needs-clause-call g c = λ caller op given has empty.
    idle_answer c.args.self.now c.refused.new.self c.args.needs c.refused.result caller op given has (c.refused.ensures.reply caller op has) c.in_default.is
    (c.refused.ensures.same c.in_default.is) c.if-needs.true empty

pub returns-in-Ok-true-clause-works : goal.returns-in-Ok-true-clause-works
returns-in-Ok-true-clause-works g c = λ none caller op has.
    begins_answer c.args.programs c.args.self.now c.refused.new.self c.clear_way.new.self c.args.needs c.refused.result caller op has
    (c.refused.ensures.reply caller op has) c.in_default.is (c.refused.ensures.same c.in_default.is) c.if-needs.false
    (subst (λ (clear : Bool). ClearsWay c.args.programs c.refused.new.self c.clear_way.new.self clear) c.in-Ok-true.field-0-test c.in-Ok-true.ensures.clears)

pub returns-in-Ok-false-clause-call : goal.returns-in-Ok-false-clause-call
returns-in-Ok-false-clause-call g c = λ caller op given has empty.
    waits_answer c.args.programs c.args.self.now c.refused.new.self c.clear_way.new.self c.args.needs c.refused.result caller op given has
    (c.refused.ensures.reply caller op has) c.in_default.is (c.refused.ensures.same c.in_default.is) c.if-needs.false c.requires.programs
    (c.in-Ok-false.ensures.waits c.in-Ok-false.field-0-test)
    (subst (λ (clear : Bool). ClearsWay c.args.programs c.refused.new.self c.clear_way.new.self clear) c.in-Ok-false.field-0-test c.in-Ok-false.ensures.clears)

pub returns-in-Err-clause-call : goal.returns-in-Err-clause-call
returns-in-Err-clause-call g c = λ caller op given has empty.
    halts_answer c.args.programs c.args.self.now c.refused.new.self c.clear_way.new.self c.args.needs c.refused.result c.in-Err.reply caller op given has
    (c.refused.ensures.reply caller op has) c.in_default.is (c.refused.ensures.same c.in_default.is) c.if-needs.false c.requires.programs
    c.in-Err.ensures.beside c.in-Err.ensures.counts c.in-Err.ensures.halts

pub returns-in-Ok-true-clause-there : goal.returns-in-Ok-true-clause-there
returns-in-Ok-true-clause-there g c = λ none.
    there_answer c.args.self.now c.refused.new.self c.clear_way.new.self c.args.needs.reach (c.refused.ensures.there c.in_default.is)
    (c.refused.ensures.same c.in_default.is) c.in-Ok-true.ensures.clears.kept
