-- A suspend of the erase that a bank keeps open.
use Rattle.std.proofs.Common.{◌≡◌, ◌<◌, ◌≤◌, ◌+◌, ◌/◌, ℕ, length, refl, sym, ◌∙◌, ap, subst, arith, Bool, true, false, Option, Some, None}
use Rattle.nor_cell.specs.Between.{Waits, IsShown}
use Rattle.nor_cell.specs.Chip.{ChipState, Part, OneBlock, block, is_within, place}
use Rattle.nor_cell.specs.Table.{suspend_kind, can_suspend}
use Rattle.nor_cell.specs.Wiring.{is_wiring}
use Rattle.nor_cell.specs.declared.device.Set.{Set}
use Rattle.nor_cell.specs.declared.device.Set.TheVariants.{Intel, Amd}
use Rattle.nor_cell.specs.declared.device.SuspendKind.{SuspendKind}
use Rattle.nor_cell.proofs.Between.{takes_waits}
use Rattle.nor_query.specs.Derived.{suspend_of}
use Rattle.nor_bus.specs.Bus.{BusState, lane, lanes_of}
use Rattle.nor_bus.specs.Cycles.{KeepsLanes}
use Rattle.nor_bus.specs.Driven.{AllLanes, EachLane}
use Rattle.nor_bus.proofs.Driving.{went_none}
use Rattle.nor_poll.specs.Codes.{cycle_count}
use Rattle.nor_poll.specs.Suspend.{TakesSuspend, Suspends, SuspendsAll, SuspendHalts, ChangesInSuspend, suspend_most, suspend_reads, stuck_reads}
use Rattle.nor_poll.specs.UnderErase.{EachUnder, LaneIs, state_at}
use Rattle.nor_poll.specs.declared.codes.Command.TheVariants.{SuspendErase, Reset}
use Rattle.nor_poll.specs.declared.lanes.Halt.{Halt}
use Rattle.nor_poll.specs.declared.lanes.Halt.TheVariants.{Off, Stuck}
use Rattle.nor_poll.specs.declared.lanes.LaneState.TheVariants.{Running}
use Rattle.nor_poll.specs.declared.lanes.Lanes.{Lanes}
use Rattle.nor_array.specs.Array.{ArrayState, IsThere, chip_target}
use Rattle.nor_array.specs.declared.entry.Halted.{Halted as HaltCause}
use Rattle.nor_array.specs.declared.entry.Reply.{Reply}
use Rattle.nor_array.specs.declared.entry.Reply.TheVariants.{Halted}
use Rattle.nor_array.specs.declared.state.Target.{Target}
use Rattle.nor_array.specs.declared.state.Target.TheVariants.{OneBlock as OneOfBank}
use Rattle.nor_bank.specs.Counts.{GoesOn, can_beside}
use Rattle.nor_bank.specs.Looks.{NoLaneIs, StaysOutside}
use Rattle.nor_bank.specs.Stands.{Stands, IsOn, PowerIs, under_of}
use Rattle.nor_bank.specs.State.{BankState, IsBankOf, blocks_of}
use Rattle.nor_bank.specs.UnderErase.{IsUnderErase}
use Rattle.nor_bank.specs.Way.{ClearsWay, StandsOn, BreaksWay, LosesWay, HaltsWay, MayCountSuspend, IsOfBlock, cause_of, erased_at, halting, way_most}
use Rattle.nor_bank.specs.Work.{with_bus}
use Rattle.nor_bank.specs.declared.kept.Erasing.{Erasing}
use Rattle.nor_bank.proofs.Holding.{fits, stands_by}
use Rattle.nor_bank.proofs.Known.{known_own, known_parts}
use Rattle.nor_bank.proofs.LocksBlocks.{block_begins}
use Rattle.nor_bank.proofs.LocksLosing.{kept_halt}
use Rattle.nor_bank.proofs.LookingBank.{kept_there, holds_open, under_now, reached_now}
use Rattle.nor_bank.proofs.LookingLanes.{idle_of}
use Rattle.nor_bank.proofs.PausingLanes.{known_suspend, lets_program, passes_idle, stays_suspended, counts_once, may_count, shown_after, names_after, passes_suspended}
use Rattle.nor_bank.proofs.Served.{wide_is}
use Rattle.nor_bank.proofs.Standing.{is_on_now, cut_nearer}
use Rattle.nor_bank.proofs.Using.{lost_within}

-- ---- how many cycles there are

few_suspend : (set : Set) (reads : ℕ) → reads ≤ suspend_reads set → cycle_count set SuspendErase + reads + cycle_count set Reset ≤ way_most
few_suspend Intel reads few = omega (arith, few)
few_suspend Amd reads few = omega (arith, few)

most_suspend : (set : Set) → suspend_most set ≤ way_most
most_suspend Intel = omega arith
most_suspend Amd = omega arith

stuck_cycles : (set : Set) → (20 ≤ cycle_count set SuspendErase + stuck_reads set) × (cycle_count set SuspendErase + stuck_reads set ≤ way_most)
stuck_cycles Intel = (omega arith, omega arith)
stuck_cycles Amd = (omega arith, omega arith)

-- the erase, with where its lanes are now
abbrev pub paused : Erasing → Lanes → Erasing
paused e now = record e { lanes = now }

module _ (width : ℕ) (b : BankState) (e : Erasing) (wiring : is_wiring width b.found.geometry.lanes b.found.geometry.device ≡ true)
    (there : IsThere e.target (blocks_of b.found)) (running : b.halted ≡ None) (opened : b.erase ≡ Some e) where
  counted : (a : ArrayState) → Stands b a → (c : ℕ) → c < lanes_of b.bus → c < b.found.geometry.lanes
  counted a stands c below = subst (λ (n : ℕ). c < n) (known_own b.found b.bus stands.known).count below

  -- ---- no lane runs

  pub pause_none : NoLaneIs b.found.geometry.lanes e.lanes Running → (programs : Bool) → can_beside (suspend_of b.found.query.extended) programs ≡ true
      → ClearsWay programs b b true
  pause_none none programs may = record {
    cycles = 0;
    few = omega arith;
    went = went_none b.bus;
    kept = refl;
    goes_on = subst (λ (o : Option Erasing). GoesOn 0 o o) (sym opened) (refl, refl, omega arith);
    lacks = λ never. absurd (cc);
    stands = λ block a stands.
        let under = under_now width b e wiring there running opened a stands in
        let idle = λ (c : ℕ) (below : c < lanes_of b.bus). idle_of (state_at e.lanes c) _ (lane b.bus c) (under.each c below) (none c (counted a stands c below)) in
        record {
          stands = stands;
          ready = λ clear. record {
            shown = under.shown (λ c below. none c (counted a stands c below));
            lets = λ c below.
                lets_program programs (lane b.bus c) (ap (λ (k : SuspendKind). can_beside k programs) (known_suspend b.found b.bus stands.known c below) ∙ may);
          };
          waits = λ never. absurd (cc);
          each = λ c below. passes_idle (can_beside (suspend_of b.found.query.extended) programs) (lane b.bus c) (idle c below);
        };
  }

  -- ---- lanes run

  module _ (offers : can_suspend (suspend_of b.found.query.extended) ≡ true) (bus : BusState) where
    module _ (k : ℕ) (of_block : e.target ≡ OneOfBank k) (a : ArrayState) (stands : Stands b a) where
      takes : (c : ℕ) → c < lanes_of b.bus → TakesSuspend b.found.query.set (erased_at width b.found e.target) k (state_at e.lanes c) (lane b.bus c)
      takes c below =
          let s = lane b.bus c in
          let f = b.found in
          let known = stands.known in
          let under = under_now width b e wiring there running opened a stands in
          let parts = known_parts f b.bus known c below in
          let mine : k < length (blocks_of f) = subst (λ (t : Target). IsThere t (blocks_of f)) of_block there in
          record {
            waits = subst (λ (x : Set). Waits x s) parts.set ((is_on_now b a stands running).waits c below);
            names = under.named c below;
            is = subst (λ (t : Target). LaneIs (state_at e.lanes c) (chip_target t) s) of_block (under.each c below);
            blocks = parts.some;
            offers = ap (λ (x : SuspendKind). can_suspend x) (known_suspend f b.bus known c below) ∙ offers;
            pace = (known.wired.chips c below).chip.pace;
            within = subst (λ (t : Target). is_within (block s.part.blocks k) (place s.part (erased_at width f t)) ≡ true) (sym of_block)
                (subst (λ (w : ℕ). is_within (block s.part.blocks k) (place s.part ((block (blocks_of f) k).from / w)) ≡ true) (wide_is width f wiring)
                (block_begins f b.bus known k c mine below).within);
          }

      stays : (s t : ChipState) → StaysOutside (OneBlock k) s t → StaysOutside (chip_target e.target) s t
      stays s t it = subst (λ (x : Target). StaysOutside (chip_target x) s t) (sym of_block) it

      -- Each lane is suspended, or has ended.
      module _ (now : Lanes) (it : SuspendsAll b.found.query.set width b.found.geometry (erased_at width b.found e.target) e.lanes b.bus bus now) where
        suspends : (c : ℕ) → c < lanes_of b.bus → Suspends b.found.query.set k (state_at e.lanes c) (state_at now c) it.reads (lane b.bus c) (lane bus c)
        suspends c below = it.each (reached_now width b e wiring there running opened a stands) k c below (takes c below)

        before : (c : ℕ) → c < lanes_of bus → c < lanes_of b.bus
        before c below = subst (λ (n : ℕ). c < n) it.went.kept.count below

        shown : AllLanes IsShown bus
        shown c below = shown_after b.found.query.set k (state_at e.lanes c) (state_at now c) it.reads (lane b.bus c) (lane bus c) (suspends c (before c below))

        same_part : (c : ℕ) → c < lanes_of b.bus → (lane bus c).part ≡ (lane b.bus c).part
        same_part c below = (suspends c below).keeps.remains.part

        under_paused : IsUnderErase b.found (paused e now) bus
        under_paused = record {
          there = there;
          each = λ c below. subst (λ (t : Target). LaneIs (state_at now c) (chip_target t) (lane bus c)) (sym of_block) (suspends c (before c below)).next.is;
          not_mixed = λ c other below _ runs _. absurd ((suspends c (before c below)).next.idle runs);
          enough = λ c below sound some.
              let one = suspends c (before c below) in
              let most = one.keeps.most in
              let same : (lane b.bus c).part.stuck ≡ false = ap (λ (p : Part). p.stuck) (sym (same_part c (before c below))) ∙ sound in
              let room = (under_now width b e wiring there running opened a stands).enough c (before c below) same (omega (arith, most, some)) in
              omega (arith, most, room);
          named = λ c below. names_after b.found.query.set k (state_at e.lanes c) (state_at now c) it.reads (lane b.bus c) (lane bus c) (suspends c (before c below));
          shown = λ none. shown;
        }

        on_paused : IsOn (record b { bus = bus; erase = Some (paused e now) }) a
        on_paused =
            let on = is_on_now b a stands running in
            let cycles = cycle_count b.found.query.set SuspendErase + it.reads + cycle_count b.found.query.set Reset in
            record {
              power = it.went.power on.power;
              waits = λ c below.
                  let waits = takes_waits b.found.query.set (lane bus c) (suspends c (before c below)).takes in
                  subst (λ (x : Set). Waits x (lane bus c)) (sym waits.set) waits;
              cut = cut_nearer cycles cycles b.after b.bus.armed bus.armed a.armed it.went.armed on.cut;
              erase = under_paused;
            }

        stands_paused : Stands (record b { bus = bus; erase = Some (paused e now) }) a
        stands_paused =
            let fit = fits b a stands in
            stands_by (record b { bus = bus; erase = Some (paused e now) }) a
            (record { opened = fit.opened; size = fit.size; lock_count = fit.lock_count; power = fit.power; under = fit.under ∙ ap under_of opened })
            (holds_open b (record b { bus = bus; erase = Some (paused e now) }) a e stands opened refl it.went.kept
            (λ c below. stays (lane b.bus c) (lane bus c) (stays_suspended k (state_at e.lanes c) (lane b.bus c) (lane bus c) (takes c below).is (suspends c below).keeps)))
            (subst (λ h. PowerIs h (record b { bus = bus; erase = Some (paused e now) }) a) (sym running) on_paused)

        on_by : (programs : Bool) → can_beside (suspend_of b.found.query.extended) programs ≡ true
            → StandsOn programs true (cycle_count b.found.query.set SuspendErase + it.reads + cycle_count b.found.query.set Reset) b
            (record b { bus = bus; erase = Some (paused e now) }) a
        on_by programs may = record {
          stands = stands_paused;
          ready = λ clear. record {
            shown = shown;
            lets = λ c below.
                lets_program programs (lane bus c)
                (ap (λ (p : Part). can_beside (suspend_kind p.table) programs) (same_part c (before c below))
                ∙ (ap (λ (x : SuspendKind). can_beside x programs) (known_suspend b.found b.bus stands.known c (before c below)) ∙ may));
          };
          waits = λ never. absurd (cc);
          each = λ c below.
              passes_suspended b.found.query.set k (state_at e.lanes c) (state_at now c) it.reads (lane b.bus c) (lane bus c) (suspends c below)
              (can_beside (suspend_of b.found.query.extended) programs)
              (cycle_count b.found.query.set SuspendErase + it.reads + cycle_count b.found.query.set Reset) may (omega arith);
        }

      -- It was given up.
      module _ (halt : Halt) (kept : KeepsLanes b.bus bus)
          (leaves : EachUnder (TakesSuspend b.found.query.set (erased_at width b.found e.target)) ChangesInSuspend width b.found.geometry (erased_at width b.found e.target) e.lanes b.bus bus) where
        changes : (c : ℕ) → c < lanes_of b.bus → ChangesInSuspend k (lane b.bus c) (lane bus c)
        changes c below = leaves (reached_now width b e wiring there running opened a stands) k c below (takes c below)

        breaks : BreaksWay b (halting (with_bus b bus) (cause_of b.after halt)) a
        breaks = record {
          holds = holds_open b (halting (with_bus b bus) (cause_of b.after halt)) a e stands opened refl kept
              (λ c below. stays (lane b.bus c) (lane bus c) (stays_suspended k (state_at e.lanes c) (lane b.bus c) (lane bus c) (takes c below).is (changes c below)));
          remains = λ c below. (changes c below).remains;
          suspends = λ c below. counts_once k (lane b.bus c) (lane bus c) (changes c below);
        }

        counts : EachLane (MayCountSuspend true) b.bus bus
        counts c below = may_count k (lane b.bus c) (lane bus c) (changes c below)

    pub pause_over : (now : Lanes) → SuspendsAll b.found.query.set width b.found.geometry (erased_at width b.found e.target) e.lanes b.bus bus now
        → (programs : Bool) → can_beside (suspend_of b.found.query.extended) programs ≡ true
        → ClearsWay programs b (record b { bus = bus; erase = Some (paused e now) }) true
    pause_over now it programs may = record {
      cycles = cycle_count b.found.query.set SuspendErase + it.reads + cycle_count b.found.query.set Reset;
      few = few_suspend b.found.query.set it.reads it.few;
      went = it.went;
      kept = refl;
      goes_on = subst (λ (o : Option Erasing). GoesOn 0 o (Some (paused e now))) (sym opened) (refl, refl, omega arith);
      lacks = λ never. absurd (cc);
      stands = λ block a stands.
          let of_block = subst (λ (o : Option Erasing). IsOfBlock o) opened block in
          on_by of_block.0 of_block.1 a stands now it programs may;
    }

    loses_by : (halt : Halt) → SuspendHalts b.found.query.set width b.found.geometry (erased_at width b.found e.target) e.lanes b.bus bus halt
        → LosesWay way_most b (halting (with_bus b bus) (cause_of b.after halt)) halt
    loses_by Off it = (
      lost_within (suspend_most b.found.query.set) way_most b.bus bus (most_suspend b.found.query.set) it.lost,
      λ block a stands.
          let of_block = subst (λ (o : Option Erasing). IsOfBlock o) opened block in
          breaks of_block.0 of_block.1 a stands Off it.lost.kept it.leaves,
    )
    loses_by (Stuck j) it =
        let n = cycle_count b.found.query.set SuspendErase + stuck_reads b.found.query.set in
        let bounds = stuck_cycles b.found.query.set in (
          (it.there, record { cycles = n; enough = bounds.0; few = bounds.1; went = it.went }),
          λ block a stands.
              let of_block = subst (λ (o : Option Erasing). IsOfBlock o) opened block in
              let mine : j < lanes_of b.bus = subst (λ (m : ℕ). j < m) (sym (known_own b.found b.bus stands.known).count) it.there in
              let ran = it.ran (reached_now width b e wiring there running opened a stands) of_block.0 (takes of_block.0 of_block.1 a stands j mine) in
              (breaks of_block.0 of_block.1 a stands (Stuck j) it.went.kept it.leaves, ran.1),
        )

    -- The halt is kept.
    pub pause_halts : (halt : Halt) → SuspendHalts b.found.query.set width b.found.geometry (erased_at width b.found e.target) e.lanes b.bus bus halt
        → HaltsWay way_most b (halting (with_bus b bus) (cause_of b.after halt)) (Halted (cause_of b.after halt))
    pause_halts halt it = record { halt = halt; answer = refl; kept = refl; loses = loses_by halt it }

    pub pause_counts : (halt : Halt) → SuspendHalts b.found.query.set width b.found.geometry (erased_at width b.found e.target) e.lanes b.bus bus halt
        → IsOfBlock b.erase → (a : ArrayState) → Stands b a → EachLane (MayCountSuspend true) b.bus bus
    pause_counts Off it block a stands =
        let of_block = subst (λ (o : Option Erasing). IsOfBlock o) opened block in
        counts of_block.0 of_block.1 a stands Off it.lost.kept it.leaves
    pause_counts (Stuck j) it block a stands =
        let of_block = subst (λ (o : Option Erasing). IsOfBlock o) opened block in
        counts of_block.0 of_block.1 a stands (Stuck j) it.went.kept it.leaves

-- ---- the same, of a bank and the parts that its call took

module _ (width : ℕ) (x now : BankState) (e : Erasing) (view : x ≡ now) (bank : IsBankOf width x.bus x.found x.halted x.erase)
    (running : now.halted ≡ None) (opened : now.erase ≡ Some e) where
  pub pause_idle : NoLaneIs x.found.geometry.lanes e.lanes Running → (programs : Bool) → can_beside (suspend_of now.found.query.extended) programs ≡ true
      → ClearsWay programs now now true
  pause_idle none =
      let P : BankState → Type 0 = λ y. IsBankOf width y.bus y.found y.halted y.erase → NoLaneIs y.found.geometry.lanes e.lanes Running
      → (programs : Bool) → can_beside (suspend_of now.found.query.extended) programs ≡ true → ClearsWay programs now now true in
      subst P (sym view) (λ is idle. pause_none width now e is.wiring (kept_there width now e is opened) running opened idle) bank none

  module _ (at : ℕ) (bus : BusState) (offers : can_suspend (suspend_of now.found.query.extended) ≡ true) (unit : at ≡ erased_at width now.found e.target) where
    pub pause_kept : (lanes : Lanes) → SuspendsAll x.found.query.set width x.found.geometry at e.lanes x.bus bus lanes
        → (programs : Bool) → can_beside (suspend_of now.found.query.extended) programs ≡ true
        → ClearsWay programs now (record x { bus = bus; erase = Some (paused e lanes) }) true
    pause_kept lanes suspends programs may =
        let P : BankState → Type 0 = λ y. IsBankOf width y.bus y.found y.halted y.erase
        → SuspendsAll y.found.query.set width y.found.geometry at e.lanes y.bus bus lanes
        → ClearsWay programs now (record y { bus = bus; erase = Some (paused e lanes) }) true in
        subst P (sym view) (λ is it.
        pause_over width now e is.wiring (kept_there width now e is opened) running opened offers bus lanes
        (subst (λ (u : ℕ). SuspendsAll now.found.query.set width now.found.geometry u e.lanes now.bus bus lanes) unit it) programs may) bank suspends

    pub pause_halted : (halt : Halt) (cause : HaltCause) (halted : Option HaltCause) (erase : Option Erasing) (reply : Reply) → cause ≡ cause_of x.after halt
        → halted ≡ Some cause → erase ≡ None → reply ≡ Halted cause → SuspendHalts x.found.query.set width x.found.geometry at e.lanes x.bus bus halt
        → HaltsWay way_most now (record x { bus = bus; halted = halted; erase = erase }) reply
    pause_halted halt cause halted erase reply why kept closed answer halts =
        let P : BankState → Type 0 = λ y. IsBankOf width y.bus y.found y.halted y.erase
        → SuspendHalts y.found.query.set width y.found.geometry at e.lanes y.bus bus halt
        → HaltsWay way_most now (halting (with_bus y bus) (cause_of y.after halt)) (Halted (cause_of y.after halt)) in
        kept_halt (λ (b : BankState) (r : Reply). HaltsWay way_most now b r) x bus (cause_of x.after halt) halted erase reply
        (kept ∙ ap (λ (c : HaltCause). Some c) why) closed (answer ∙ ap (λ (c : HaltCause). Halted c) why)
        (subst P (sym view) (λ is it.
        pause_halts width now e is.wiring (kept_there width now e is opened) running opened offers bus halt
        (subst (λ (u : ℕ). SuspendHalts now.found.query.set width now.found.geometry u e.lanes now.bus bus halt) unit it)) bank halts)

    pub pause_counted : (halt : Halt) → SuspendHalts x.found.query.set width x.found.geometry at e.lanes x.bus bus halt
        → IsOfBlock now.erase → (a : ArrayState) → Stands now a → EachLane (MayCountSuspend true) now.bus bus
    pause_counted halt halts =
        let P : BankState → Type 0 = λ y. IsBankOf width y.bus y.found y.halted y.erase
        → SuspendHalts y.found.query.set width y.found.geometry at e.lanes y.bus bus halt
        → IsOfBlock now.erase → (a : ArrayState) → Stands now a → EachLane (MayCountSuspend true) now.bus bus in
        subst P (sym view) (λ is it.
        pause_counts width now e is.wiring (kept_there width now e is opened) running opened offers bus halt
        (subst (λ (u : ℕ). SuspendHalts now.found.query.set width now.found.geometry u e.lanes now.bus bus halt) unit it)) bank halts
