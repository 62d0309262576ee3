use Rattle.std.proofs.Common.{[], refl, sym, subst}
use Rattle.nor_array.specs.declared.needs.CallNeeds.{CallNeeds}
use Rattle.nor_array.specs.declared.entry.Op.TheVariants.{IsLocked}
use Rattle.nor_bank.specs.Way.{HasNeeds, way_most}
use Rattle.nor_bank.proofs.LocksCalls.{bit_call, bit_lost_call, mid_has, read_needs}
use Rattle.nor_bank.proofs.bank.Bank.is_locked.Goals as goal

pub returns-in-Some : goal.returns-in-Some
returns-in-Some g c = record {
  call = c.in-Some.ensures.call c.args.caller (IsLocked c.args.block) []
      (subst (λ (n : CallNeeds). HasNeeds n (IsLocked c.args.block)) (sym c.lock_call.ensures) (read_needs c.args.block)) (λ idle. refl);
}

pub reads_locked-requires-clause-there : goal.reads_locked-requires-clause-there
reads_locked-requires-clause-there g c =
    let needs = subst (λ (n : CallNeeds). HasNeeds n (IsLocked c.args.block)) (sym c.lock_call.ensures) (read_needs c.args.block) in
    (mid_has way_most c.args.caller c.args.block (IsLocked c.args.block) c.args.self.now c.before_work.new.self refl
    (c.in_default.ensures.works refl c.args.caller (IsLocked c.args.block) needs)).there

pub reads_locked-requires-clause-offers : goal.reads_locked-requires-clause-offers
reads_locked-requires-clause-offers g c =
    let needs = subst (λ (n : CallNeeds). HasNeeds n (IsLocked c.args.block)) (sym c.lock_call.ensures) (read_needs c.args.block) in
    (mid_has way_most c.args.caller c.args.block (IsLocked c.args.block) c.args.self.now c.before_work.new.self refl
    (c.in_default.ensures.works refl c.args.caller (IsLocked c.args.block) needs)).offers

pub returns-in-Ok : goal.returns-in-Ok
returns-in-Ok g c =
    let needs = subst (λ (n : CallNeeds). HasNeeds n (IsLocked c.args.block)) (sym c.lock_call.ensures) (read_needs c.args.block) in
    record {
      call = bit_call c.args.caller c.args.block c.in-Ok.locked c.args.self.now c.before_work.new.self c.reads_locked.new.self
          (c.in_default.ensures.works refl c.args.caller (IsLocked c.args.block) needs) c.in-Ok.ensures.reads c.in-Ok.ensures.locked;
    }

pub returns-in-Err : goal.returns-in-Err
returns-in-Err g c =
    let needs = subst (λ (n : CallNeeds). HasNeeds n (IsLocked c.args.block)) (sym c.lock_call.ensures) (read_needs c.args.block) in
    record {
      call = bit_lost_call c.args.caller c.args.block c.in-Err.reply c.args.self.now c.before_work.new.self c.reads_locked.new.self
          (c.in_default.ensures.works refl c.args.caller (IsLocked c.args.block) needs) c.in-Err.ensures.loses;
    }
