-- The way to the chips is cleared: beside nothing open, by a suspend, or by a look.
use Rattle.std.proofs.Common.{◌≡◌, ◌<◌, ◌+◌, inl, ℕ, refl, sym, ◌∙◌, ap, subst, arith, Bool, true, false, Option, Some, None}
use Rattle.std.specs.Prelude.{◌&&◌, if◌then◌else◌}
use Rattle.nor_cell.specs.Chip.{ChipState, NotHeld, counted}
use Rattle.nor_query.specs.Derived.{suspend_of}
use Rattle.nor_bus.specs.Bus.{BusState, lane, lanes_of}
use Rattle.nor_bus.specs.Driven.{EachLane}
use Rattle.nor_bus.proofs.Driving.{went_none}
use Rattle.nor_poll.specs.Suspend.{pauses}
use Rattle.nor_poll.specs.UnderErase.{state_at}
use Rattle.nor_poll.specs.declared.lanes.Halt.TheVariants.{Off}
use Rattle.nor_poll.specs.declared.lanes.LaneState.TheVariants.{Running}
use Rattle.nor_poll.specs.declared.lanes.Lanes.{Lanes}
use Rattle.nor_array.specs.Array.{ArrayState, chip_target}
use Rattle.nor_array.specs.declared.entry.Reply.{Reply}
use Rattle.nor_probe.specs.declared.probing.Found.{Found}
use Rattle.nor_bank.specs.Counts.{GoesOn, Waits, can_beside, suspends_after}
use Rattle.nor_bank.specs.Looks.{NoLaneIs, SomeLaneIs}
use Rattle.nor_bank.specs.Stands.{Stands, IsOn, PowerIs}
use Rattle.nor_bank.specs.State.{BankState}
use Rattle.nor_bank.specs.UnderErase.{IsUnderErase}
use Rattle.nor_bank.specs.Way.{ClearsWay, HaltsWay, LetsProgram, Looks, LosesLook, LooksOver, MayCountSuspend, PassesBy, StandsOn, looked, way_most}
use Rattle.nor_bank.specs.Work.{with_bus}
use Rattle.nor_bank.specs.declared.kept.Erasing.{Erasing}
use Rattle.nor_bank.proofs.Holding.{fits, holds_all, stands_by}
use Rattle.nor_bank.proofs.Known.{known_own}
use Rattle.nor_bank.proofs.Using.{lost_within}
use Rattle.nor_bank.proofs.LookingLanes.{closed_of}
use Rattle.nor_bank.proofs.PausingBank.{paused}
use Rattle.nor_bank.proofs.PausingLanes.{passes_idle}
use Rattle.nor_bank.proofs.Standing.{is_on_now, quiet_now}

-- ---- nothing is open

free_lets : (programs : Bool) (s : ChipState) → s.held ≡ NotHeld → LetsProgram programs s
free_lets true s free = inl free
free_lets false s free = tt

pub clear_none : (b : BankState) (programs : Bool) → b.halted ≡ None → b.erase ≡ None → ClearsWay programs b b true
clear_none b programs running closed = record {
  cycles = 0;
  few = omega arith;
  went = went_none b.bus;
  kept = refl;
  goes_on = subst (λ (o : Option Erasing). GoesOn 0 o o) (sym closed) refl;
  lacks = λ never. absurd (cc);
  stands = λ block a stands.
      let quiet = quiet_now b a (is_on_now b a stands running) closed in
      record {
        stands = stands;
        ready = λ clear. record { shown = λ c below. (quiet c below).shown; lets = λ c below. free_lets programs (lane b.bus c) (quiet c below).held };
        waits = λ never. absurd (cc);
        each = λ c below. passes_idle (can_beside (suspend_of b.found.query.extended) programs) (lane b.bus c) (quiet c below).shown.job;
      };
}

-- ---- by a look

fewer_polls : (f : Found) (e : Erasing) (now : Lanes) (bus : BusState) → IsUnderErase f (record e { polls = e.polls + 1; lanes = now }) bus
    → IsUnderErase f (paused e now) bus
fewer_polls f e now bus it = record {
  there = it.there;
  each = it.each;
  not_mixed = it.not_mixed;
  enough = λ c below sound some. let room = it.enough c below sound some in omega (arith, room);
  named = it.named;
  shown = it.shown;
}

-- The poll isn't counted.
uncounted : (b : BankState) (e : Erasing) (now : Lanes) (a : ArrayState) → b.halted ≡ None → Stands (looked e now b) a → Stands (record b { erase = Some (paused e now) }) a
uncounted b e now a running stands =
    let on = is_on_now (looked e now b) a stands running in
    let fit = fits (looked e now b) a stands in
    let holds = holds_all (looked e now b) a stands in
    let after : IsOn (record b { erase = Some (paused e now) }) a = record {
      power = on.power;
      waits = on.waits;
      cut = on.cut;
      erase = fewer_polls b.found e now b.bus on.erase;
    } in
    stands_by (record b { erase = Some (paused e now) }) a
    (record { opened = fit.opened; size = fit.size; lock_count = fit.lock_count; power = fit.power; under = fit.under })
    (record { known = holds.known; consts = holds.consts; bytes = holds.bytes; locks = holds.locks })
    (subst (λ h. PowerIs h (record b { erase = Some (paused e now) }) a) (sym running) after)

none_counts : (may : Bool) (s t : ChipState) → may ≡ false → t.suspends ≡ s.suspends → t.suspends ≡ suspends_after may s
none_counts may s t never same = same ∙ sym (ap (λ (x : Bool). if x && pauses s then counted s.suspends else s.suspends) never)

module _ (b : BankState) (e : Erasing) (programs : Bool) (running : b.halted ≡ None) (opened : b.erase ≡ Some e)
    (lacks : can_beside (suspend_of b.found.query.extended) programs ≡ false) where
  module _ (bus : BusState) (now : Lanes) (looks : Looks e b (with_bus b bus) now) (a : ArrayState) (stands : Stands b a) where
    over : LooksOver e looks.cycles b (with_bus b bus) a now
    over = looks.stands a stands

    counted_back : (c : ℕ) → c < lanes_of bus → c < lanes_of b.bus
    counted_back c below = subst (λ (n : ℕ). c < n) looks.went.kept.count below

    none_there : NoLaneIs b.found.geometry.lanes now Running → NoLaneIs (lanes_of bus) now Running
    none_there none c below = none c (subst (λ (n : ℕ). c < n) (known_own b.found b.bus stands.known).count (counted_back c below))

    under_then : IsUnderErase b.found (record e { polls = e.polls + 1; lanes = now }) bus
    under_then = (is_on_now (looked e now (with_bus b bus)) a over.stands running).erase

    ready_then : NoLaneIs b.found.geometry.lanes now Running → (c : ℕ) → c < lanes_of bus → LetsProgram programs (lane bus c)
    ready_then none c below =
        free_lets programs (lane bus c)
        (closed_of (state_at now c) (chip_target e.target) (lane bus c) (under_then.each c below) (none_there none c below) (over.awake c (counted_back c below))).held

    passes : EachLane (PassesBy (can_beside (suspend_of b.found.query.extended) programs) looks.cycles) b.bus bus
    passes c below =
        let one = over.each c below in
        record {
          remains = one.remains;
          suspends = none_counts (can_beside (suspend_of b.found.query.extended) programs) (lane b.bus c) (lane bus c) lacks one.suspends;
          left = one.left;
        }

    waits_then : SomeLaneIs b.found.geometry.lanes now Running → Waits b (record b { bus = bus; erase = Some (paused e now) })
    waits_then some =
        let there : some.number < lanes_of b.bus = subst (λ (n : ℕ). some.number < n) (sym (known_own b.found b.bus stands.known).count) some.there in
        record {
          works = record { number = some.number; there = there; works = over.works some.number there some.is };
          nears = λ c below. (over.each c below).nears;
        }

    stands_then : (clear : Bool) → (clear ≡ true → NoLaneIs b.found.geometry.lanes now Running) → (clear ≡ false → SomeLaneIs b.found.geometry.lanes now Running)
        → StandsOn programs clear looks.cycles b (record b { bus = bus; erase = Some (paused e now) }) a
    stands_then clear none some = record {
      stands = uncounted (with_bus b bus) e now a running over.stands;
      ready = λ is. record { shown = under_then.shown (none_there (none is)); lets = ready_then (none is) };
      waits = λ is. waits_then (some is);
      each = passes;
    }

  pub look_clears : (bus : BusState) (now : Lanes) (clear : Bool) → Looks e b (with_bus b bus) now
      → (clear ≡ true → NoLaneIs b.found.geometry.lanes now Running) → (clear ≡ false → SomeLaneIs b.found.geometry.lanes now Running)
      → ClearsWay programs b (record b { bus = bus; erase = Some (paused e now) }) clear
  look_clears bus now clear looks none some = record {
    cycles = looks.cycles;
    few = let few = looks.few in omega (arith, few);
    went = looks.went;
    kept = refl;
    goes_on = subst (λ (o : Option Erasing). GoesOn 0 o (Some (paused e now))) (sym opened) (refl, refl, omega arith);
    lacks = λ _. lacks;
    stands = λ block a stands. stands_then bus now looks a stands clear none some;
  }

pub look_halts : (b new : BankState) (reply : Reply) → LosesLook b new reply → HaltsWay way_most b new reply
look_halts b new reply it = record {
  halt = Off;
  answer = it.answer;
  kept = it.kept;
  loses = (
    lost_within 5 way_most b.bus new.bus (omega arith) it.lost,
    λ block a stands.
        let breaks = it.breaks a stands in
        record { holds = breaks.holds; remains = breaks.remains; suspends = λ c below. inl (breaks.suspends c below) },
  );
}

pub look_counts : (b new : BankState) (reply : Reply) (may : Bool) → LosesLook b new reply → (a : ArrayState) → Stands b a → EachLane (MayCountSuspend may) b.bus new.bus
look_counts b new reply may it a stands c below = inl ((it.breaks a stands).suspends c below)

-- a lane may count a suspend where that is offered
pub counts_as : (may : Bool) (old new : BusState) → may ≡ true → EachLane (MayCountSuspend true) old new → EachLane (MayCountSuspend may) old new
counts_as may old new is counts = subst (λ (x : Bool). EachLane (MayCountSuspend x) old new) (sym is) counts
