use Rattle.std.proofs.Common.{◌<◌, ℕ, refl, subst, sym, ◌∙◌, IfSome, Option}
use Rattle.nor_bank.specs.Locks.{HasReadLock}
use Rattle.nor_bank.specs.State.{BankState, HasLongBlocks, word_bytes}
use Rattle.nor_bank.proofs.HaltingLocks.{begins_change, locked_answer, locks_lost_answer, still_there, some_width}
use Rattle.nor_bank.proofs.bank.Bank.before_change.Goals as goal

pub returns-in-Ok-None-clause-works : goal.returns-in-Ok-None-clause-works
returns-in-Ok-None-clause-works g c = λ none caller op has.
    begins_change c.args.needs caller op c.args.self.now c.before_work.new.self c.lowest_locked.new.self has c.requires.unlocked
    (subst (λ (b : BankState). HasLongBlocks b.found) c.self.view_is c.self.invariant.long)
    (subst (λ (b : BankState). 0 < word_bytes b.found) c.self.view_is
    (some_width g.W.BusWord.WIDTH c.self.inside.found.geometry.lanes c.self.inside.found.geometry.device c.self.invariant.wiring))
    (c.in_default.ensures.works refl caller op has) (c.in_default.ensures.closed refl) c.in-Ok-None.ensures.reads
    (λ a shows. sym c.in-Ok-None.field-0-is ∙ c.in-Ok-None.ensures.lowest a shows)

pub returns-in-Ok-None-clause-there : goal.returns-in-Ok-None-clause-there
returns-in-Ok-None-clause-there g c = λ none.
    still_there c.before_work.new.self c.lowest_locked.new.self c.args.needs.reach (c.in_default.ensures.there refl) c.in-Ok-None.ensures.reads.kept

pub returns-in-Ok-Some-clause-call : goal.returns-in-Ok-Some-clause-call
returns-in-Ok-Some-clause-call g c = λ caller op given has empty.
    locked_answer c.args.needs caller op c.args.self.now c.before_work.new.self c.lowest_locked.new.self has c.requires.unlocked
    (subst (λ (b : BankState). HasLongBlocks b.found) c.self.view_is c.self.invariant.long)
    (subst (λ (b : BankState). 0 < word_bytes b.found) c.self.view_is
    (some_width g.W.BusWord.WIDTH c.self.inside.found.geometry.lanes c.self.inside.found.geometry.device c.self.invariant.wiring))
    (c.in_default.ensures.works refl caller op has) c.in-Ok-Some.block given c.in-Ok-Some.ensures.reads
    (λ a shows. sym c.in-Ok-Some.field-0-is ∙ c.in-Ok-Some.ensures.lowest a shows)
    (subst (λ (o : Option ℕ). IfSome o (HasReadLock c.before_work.new.self c.args.needs.reach)) c.in-Ok-Some.field-0-is c.in-Ok-Some.ensures.found)

pub returns-in-Err-clause-call : goal.returns-in-Err-clause-call
returns-in-Err-clause-call g c = λ caller op given has empty.
    locks_lost_answer c.args.needs caller op c.args.self.now c.before_work.new.self c.lowest_locked.new.self has c.requires.unlocked
    (subst (λ (b : BankState). HasLongBlocks b.found) c.self.view_is c.self.invariant.long)
    (subst (λ (b : BankState). 0 < word_bytes b.found) c.self.view_is
    (some_width g.W.BusWord.WIDTH c.self.inside.found.geometry.lanes c.self.inside.found.geometry.device c.self.invariant.wiring))
    (c.in_default.ensures.works refl caller op has) c.in-Err.reply given c.in-Err.ensures.loses
