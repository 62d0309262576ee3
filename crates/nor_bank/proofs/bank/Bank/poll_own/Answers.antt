use Rattle.std.proofs.Common.{◌≡◌, ◌≢◌, ◌<◌, ◌+◌, ◌∙◌, ℕ, [], sym, refl, ap, subst, arith, Some, None}
use Rattle.nor_poll.specs.UnderErase.{state_at}
use Rattle.nor_poll.specs.declared.lanes.LaneState.TheVariants.{Running}
use Rattle.nor_array.specs.declared.entry.Halted.TheVariants.{Stuck}
use Rattle.nor_array.specs.declared.entry.Op.TheVariants.{Poll}
use Rattle.nor_array.specs.declared.entry.Reply.{Reply}
use Rattle.nor_array.specs.declared.entry.Reply.TheVariants.{NotYet}
use Rattle.nor_bank.specs.Erases.{EndsWith}
use Rattle.nor_bank.specs.State.{BankState, erase_limit}
use Rattle.nor_bank.specs.Way.{Looks, halting}
use Rattle.nor_bank.specs.Whole.{IsCallOf}
use Rattle.nor_bank.specs.Work.{with_bus}
use Rattle.nor_bank.proofs.PollingCalls.{lost_poll, ended_call, waiting_call, stuck_poll}
use Rattle.nor_bank.proofs.bank.Bank.poll_own.Goals as goal

pub returns-in-Err : goal.returns-in-Err
returns-in-Err g c = record {
  call = lost_poll c.args.erase c.args.self.now c.look.new.self c.in-Err.reply (record { running = c.requires.running; is = c.requires.«open» }) c.in-Err.ensures.loses;
}

pub overflow_add-polls : goal.overflow_add-polls
overflow_add-polls g c =
    let e = c.args.erase in
    let is : c.self.inside.erase ≡ Some e =
    ap (λ (b : BankState). b.erase) (c.self.view_is ∙ c.in-Ok.ensures.looks.kept) ∙ c.requires.«open» in
    let kept = (c.self.invariant.kept e is).polls in
    let same = ap (λ (b : BankState). erase_limit b.found e.target) c.self.view_is in
    let limit = c.erase_limit-limit.ensures in
    let small = c.erase_limit-limit.type_inv in
    omega (arith, kept, same, limit, small)

pub returns-in-None : goal.returns-in-None
returns-in-None g c =
    let e = c.args.erase in
    let old = c.args.self.now in
    let now = c.in-Ok.lanes in
    let first = c.in-Ok.ensures.looks in
    let bus = c.look.new.self.bus in
    let looks : Looks e old (with_bus old bus) now = subst (λ (b : BankState). Looks e old b now) first.kept first in
    let lanes = ap (λ (b : BankState). b.found.geometry.lanes) (c.self.view_is ∙ first.kept) in
    record {
      call = ended_call e old bus now (record { running = c.requires.running; is = c.requires.«open» }) looks
          (subst (λ (n : ℕ). (k : ℕ) → k < n → state_at now k ≢ Running) lanes (c.in-None.ensures.none refl))
          c.close.new.self c.close.result (c.close.ensures.kept ∙ ap (λ (b : BankState). record b { erase = None }) first.kept)
          (subst (λ (b : BankState). EndsWith b.found e.target now c.close.result) first.kept c.close.ensures.ends);
    }

pub returns-in-Some : goal.returns-in-Some
returns-in-Some g c =
    let e = c.args.erase in
    let old = c.args.self.now in
    let now = c.in-Ok.lanes in
    let first = c.in-Ok.ensures.looks in
    let bus = c.look.new.self.bus in
    let looks : Looks e old (with_bus old bus) now = subst (λ (b : BankState). Looks e old b now) first.kept first in
    let here = c.self.view_is ∙ first.kept in
    let k = c.in-Some.field-0 in
    let some = c.in-Some.ensures.some in
    let low : k < old.found.geometry.lanes = subst (λ (b : BankState). k < b.found.geometry.lanes) here some.0 in
    let limit : erase_limit old.found e.target ≡ c.erase_limit-limit.result =
    sym (c.erase_limit-limit.ensures ∙ ap (λ (b : BankState). erase_limit b.found e.target) first.kept) in
    let below = c.if-polls-limit.true in
    let less : e.polls + 1 < erase_limit old.found e.target = omega (arith, below, limit) in
    let same = ap (λ (b : BankState). record b { erase = Some (record e { polls = e.polls + 1; lanes = now }) }) here in
    record {
      call = subst (λ (b : BankState). IsCallOf e.caller Poll old b NotYet []) (sym same)
          (waiting_call e old bus now (record { running = c.requires.running; is = c.requires.«open» }) looks k low some.1 less);
    }

pub returns-in-Some-2 : goal.returns-in-Some-2
returns-in-Some-2 g c =
    let e = c.args.erase in
    let old = c.args.self.now in
    let now = c.in-Ok.lanes in
    let first = c.in-Ok.ensures.looks in
    let bus = c.look.new.self.bus in
    let looks : Looks e old (with_bus old bus) now = subst (λ (b : BankState). Looks e old b now) first.kept first in
    let here = c.self.view_is ∙ first.kept in
    let k = c.in-Some.field-0 in
    let some = c.in-Some.ensures.some in
    let low : k < old.found.geometry.lanes = subst (λ (b : BankState). k < b.found.geometry.lanes) here some.0 in
    let is : c.self.inside.erase ≡ Some e = ap (λ (b : BankState). b.erase) here ∙ c.requires.«open» in
    let kept = (c.self.invariant.kept e is).polls in
    let limit = ap (λ (b : BankState). erase_limit b.found e.target) here in
    let result : c.erase_limit-limit.result ≡ erase_limit old.found e.target =
    c.erase_limit-limit.ensures ∙ ap (λ (b : BankState). erase_limit b.found e.target) first.kept in
    let past = c.if-polls-limit.false in
    let last : e.polls + 1 ≡ erase_limit old.found e.target = omega (arith, kept, limit, result, past) in
    record {
      call = subst (λ (r : Reply). IsCallOf e.caller Poll old c.halt.new.self r []) (sym c.halt.ensures.reply)
          (stuck_poll e old bus now (record { running = c.requires.running; is = c.requires.«open» }) looks k low some.1 c.halt.new.self
          (c.halt.ensures.kept ∙ ap (λ (b : BankState). halting b (Stuck k)) first.kept) last);
    }
