use Rattle.std.proofs.Common.{◌≡◌, refl, sym, subst, ap, ◌∙◌, Bool, true, false, Some}
use Rattle.std.specs.Prelude.{not}
use Rattle.nor_cell.specs.declared.device.SuspendKind.{SuspendKind}
use Rattle.nor_cell.proofs.Logic.{if_gave, on_err}
use Rattle.nor_query.specs.Derived.{suspend_of}
use Rattle.nor_bus.specs.Driven.{EachLane}
use Rattle.nor_array.specs.Array.{ArrayState}
use Rattle.nor_poll.specs.declared.lanes.LaneState.TheVariants.{Running}
use Rattle.nor_bank.specs.Counts.{can_beside}
use Rattle.nor_bank.specs.Looks.{NoLaneIs, SomeLaneIs}
use Rattle.nor_bank.specs.Stands.{Stands}
use Rattle.nor_bank.specs.State.{BankState}
use Rattle.nor_bank.specs.Way.{ClearsWay, HaltsWay, IsOfBlock, Looks, MayCountSuspend, way_most}
use Rattle.nor_bank.proofs.ClearingWay.{clear_none, look_clears, look_halts, look_counts, counts_as}
use Rattle.nor_bank.proofs.PausingBank.{paused}
use Rattle.nor_bank.proofs.bank.Bank.clear_way.Goals as goal

pub returns-in_default-clause-clears : goal.returns-in_default-clause-clears
returns-in_default-clause-clears g c =
    clear_none c.args.self.now c.args.programs c.requires.running (sym (ap (λ (b : BankState). b.erase) c.self.view_is) ∙ c.in_default.is)

pub returns-in_err-pause-clause-counts : goal.returns-in_err-pause-clause-counts
returns-in_err-pause-clause-counts g c =
    let now = c.args.self.now in
    let new = c.pause.new.self in
    let may = can_beside (suspend_of now.found.query.extended) c.args.programs in
    let kind : suspend_of now.found.query.extended ≡ c.suspend_kind.result =
    sym (c.suspend_kind.ensures.value ∙ ap (λ (b : BankState). suspend_of b.found.query.extended) c.self.view_is) in
    let is : may ≡ true = ap (λ (k : SuspendKind). can_beside k c.args.programs) kind ∙ (sym c.can_suspend.ensures ∙ c.if-can_suspend.true) in
    on_err c.from_residual.result (IsOfBlock now.erase → (a : ArrayState) → Stands now a → EachLane (MayCountSuspend may) now.bus new.bus)
    (λ block a stands. counts_as may now.bus new.bus is (c.in_err-pause.ensures.counts block a stands))

pub returns-in_err-lanes-clause-halts : goal.returns-in_err-lanes-clause-halts
returns-in_err-lanes-clause-halts g c =
    let now = c.args.self.now in
    let new = c.look.new.self in
    let reply = c.in_err-lanes.field-0.0 in
    if_gave c.from_residual-in_err-lanes.result reply (HaltsWay way_most now new) c.from_residual-in_err-lanes.ensures.1 (look_halts now new reply c.in_err-lanes.ensures.loses)

pub returns-in_err-lanes-clause-counts : goal.returns-in_err-lanes-clause-counts
returns-in_err-lanes-clause-counts g c =
    let now = c.args.self.now in
    let new = c.look.new.self in
    let may = can_beside (suspend_of now.found.query.extended) c.args.programs in
    on_err c.from_residual-in_err-lanes.result (IsOfBlock now.erase → (a : ArrayState) → Stands now a → EachLane (MayCountSuspend may) now.bus new.bus)
    (λ block a stands. look_counts now new c.in_err-lanes.field-0.0 may c.in_err-lanes.ensures.loses a stands)

not_running : (b : Bool) → not b ≡ true → b ≡ false
not_running true is = cc
not_running false is = refl

runs_on : (b : Bool) → not b ≡ false → b ≡ true
runs_on true is = refl
runs_on false is = cc

pub returns-clause-clears : goal.returns-clause-clears
returns-clause-clears g c =
    let now = c.args.self.now in
    let x = c.look.new.self in
    let e = c.in-Some.erase in
    let lanes = c.in_ok-lanes.lanes in
    let looks = c.in_ok-lanes.ensures.looks in
    let same = c.self-2.view_is ∙ looks.kept in
    let opened = sym (ap (λ (b : BankState). b.erase) c.self.view_is) ∙ c.in-Some.is in
    let kind : suspend_of now.found.query.extended ≡ c.suspend_kind.result =
    sym (c.suspend_kind.ensures.value ∙ ap (λ (b : BankState). suspend_of b.found.query.extended) c.self.view_is) in
    let lacks : can_beside (suspend_of now.found.query.extended) c.args.programs ≡ false =
    ap (λ (k : SuspendKind). can_beside k c.args.programs) kind ∙ (sym c.can_suspend.ensures ∙ c.if-can_suspend.false) in
    subst (λ (y : BankState). ClearsWay c.args.programs now (record y { erase = Some (paused e lanes) }) (not c.has_lane.result)) (sym same)
    (look_clears now e c.args.programs c.requires.running opened lacks x.bus lanes (not c.has_lane.result)
    (subst (λ (y : BankState). Looks e now y lanes) looks.kept looks)
    (λ is. subst (λ (y : BankState). NoLaneIs y.found.geometry.lanes lanes Running) same (c.has_lane.ensures.lacks (not_running c.has_lane.result is)))
    (λ is. subst (λ (y : BankState). SomeLaneIs y.found.geometry.lanes lanes Running) same (c.has_lane.ensures.has (runs_on c.has_lane.result is))))
