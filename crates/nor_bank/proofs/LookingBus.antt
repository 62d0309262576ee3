-- One look at an erase, over the bus alone: what becomes of all lanes.
use Rattle.std.proofs.Common.{◌≡◌, ◌≢◌, ◌<◌, ◌≤◌, ◌+◌, ◌⊎◌, inl, inr, ℕ, refl, sym, ◌∙◌, ap, subst, arith}
use Rattle.nor_cell.specs.Between.{AtRest, IsShown}
use Rattle.nor_cell.specs.Chip.{Target}
use Rattle.nor_cell.specs.declared.device.Set.{Set}
use Rattle.nor_cell.specs.declared.device.Set.TheVariants.{Intel, Amd}
use Rattle.nor_cell.specs.declared.geometry.Geometry.{Geometry}
use Rattle.nor_cell.proofs.Between.{waits_rests}
use Rattle.nor_bus.specs.Bus.{BusState, lane, lanes_of}
use Rattle.nor_bus.specs.Driven.{EachLane, Went, Lost, Reaches}
use Rattle.nor_bus.proofs.Driving.{went_none, went_then, lost_then, reaches_kept, lane_kept}
use Rattle.nor_poll.specs.Codes.{cycle_count}
use Rattle.nor_poll.specs.Erase.{TakesLook, LooksAll, ChangesWithinErase, look_reads}
use Rattle.nor_poll.specs.Losing.{LosesNone}
use Rattle.nor_poll.specs.Rest.{Resets}
use Rattle.nor_poll.specs.Resume.{TakesResume, ResumesAll, resumed_state}
use Rattle.nor_poll.specs.UnderErase.{EachUnder, state_at}
use Rattle.nor_poll.specs.declared.codes.Command.TheVariants.{ShowStatus, Reset}
use Rattle.nor_poll.specs.declared.lanes.LaneState.{LaneState}
use Rattle.nor_poll.specs.declared.lanes.LaneState.TheVariants.{Running, Suspended, Finished, Broken}
use Rattle.nor_poll.specs.declared.lanes.Lanes.{Lanes}
use Rattle.nor_bank.specs.Looks.{SomeLaneIs, NoLaneIs, CanLook, CanPoll, LaneLooks, LooksBy, LosesBy}
use Rattle.nor_bank.proofs.LookingLanes.{idle_of, outside_by, outside_then, outside_lost, outside_same, takes_look, takes_resume, looks_none, looks_once, looks_resumed, looks_reset}

is_running : (state : LaneState) → (state ≡ Running) ⊎ (state ≢ Running)
is_running Running = inl refl
is_running Suspended = inr (λ is. cc)
is_running Finished = inr (λ is. cc)
is_running Broken = inr (λ is. cc)

-- ---- how many cycles there are

few_cycles : (set : Set) (reads : ℕ) → reads ≤ look_reads set → cycle_count set ShowStatus + reads ≤ 3
few_cycles Intel reads few = omega (arith, few)
few_cycles Amd reads few = omega (arith, few)

most_cycles : (set : Set) → cycle_count set ShowStatus + look_reads set ≤ 4
most_cycles set = let few = few_cycles set (look_reads set) (omega arith) in omega (arith, few)

one_reset : (set : Set) → cycle_count set Reset ≡ 1
one_reset Intel = refl
one_reset Amd = refl

module _ (set : Set) (width : ℕ) (g : Geometry) (at : ℕ) (lanes : Lanes) (old : BusState) where
  -- a lane that there is, as the geometry counts them
  counted : Reaches width g at old → (c : ℕ) → c < lanes_of old → c < g.lanes
  counted reaches c below = subst (λ (n : ℕ). c < n) reaches.own.count below

  -- and the other way
  there : Reaches width g at old → (c : ℕ) → c < g.lanes → c < lanes_of old
  there reaches c below = subst (λ (n : ℕ). c < n) (sym reaches.own.count) below

  -- ---- a poll

  -- no lane runs, and nothing is asked
  pub polls_none : NoLaneIs g.lanes lanes Running → LooksBy (λ target. CanPoll set target lanes old) 4 set width g at lanes old old lanes
  polls_none none = record {
    cycles = 0;
    few = omega arith;
    went = went_none old;
    each = λ reaches target can c below. looks_none set target (state_at lanes c) (lane old c) (can.takes c below) (none c (counted reaches c below));
    shown = λ reaches target can still. can.shown still;
  }

  module _ (mid : BusState) (now : Lanes) (looks : LooksAll set width g at lanes old mid now) where
    each_looks : Reaches width g at old → (target : Target) → CanPoll set target lanes old → (c : ℕ) → c < lanes_of old
        → LaneLooks set target (state_at lanes c) (state_at now c) (cycle_count set ShowStatus + looks.reads) (lane old c) (lane mid c)
    each_looks reaches target can c below =
        looks_once set target (state_at lanes c) (state_at now c) (cycle_count set ShowStatus) looks.reads (lane old c) (lane mid c) (can.takes c below)
        (is_running (state_at lanes c)) (looks.each reaches target c below (can.takes c below))

    -- a lane runs after it
    pub polls_on : SomeLaneIs g.lanes now Running → LooksBy (λ target. CanPoll set target lanes old) 4 set width g at lanes old mid now
    polls_on some = record {
      cycles = cycle_count set ShowStatus + looks.reads;
      few = let few = few_cycles set looks.reads looks.few in omega (arith, few);
      went = looks.went;
      each = each_looks;
      shown = λ reaches target can none. absurd (none some.number (there reaches some.number some.there) some.is);
    }

    module _ (new : BusState) (none : NoLaneIs g.lanes now Running) where
      at_rest : Reaches width g at old → (target : Target) → CanPoll set target lanes old → (c : ℕ) → c < lanes_of old → AtRest set (lane mid c)
      at_rest reaches target can c below =
          let it = each_looks reaches target can c below in
          waits_rests set (lane mid c) it.takes.waits (idle_of (state_at now c) target (lane mid c) it.takes.is (none c (counted reaches c below)))

      -- none runs, and the array is shown
      pub polls_over : (Reaches width g at mid → EachLane (Resets set) mid new) → Went (cycle_count set Reset) (cycle_count set Reset) mid new
          → LooksBy (λ target. CanPoll set target lanes old) 4 set width g at lanes old new now
      polls_over resets went =
          let first = cycle_count set ShowStatus + looks.reads in
          let one = one_reset set in
          let both : Reaches width g at old → (target : Target) → CanPoll set target lanes old → (c : ℕ) → c < lanes_of old
          → IsShown (lane new c) × LaneLooks set target (state_at lanes c) (state_at now c) (first + 1) (lane old c) (lane new c)
          = λ reaches target can c below.
          looks_reset set target (state_at lanes c) (state_at now c) first (lane old c) (lane mid c) (lane new c) (each_looks reaches target can c below)
          (none c (counted reaches c below))
          (resets (reaches_kept width g at old mid looks.went.kept reaches) c (lane_kept old mid c looks.went.kept below)) in
          record {
            cycles = first + 1;
            few = let few = few_cycles set looks.reads looks.few in omega (arith, few);
            went = went_then first first (cycle_count set Reset) (cycle_count set Reset) (first + 1) (first + 1) old mid new
                (omega (arith, one)) (omega (arith, one)) looks.went went;
            each = λ reaches target can c below. (both reaches target can c below).1;
            shown = λ reaches target can still c below.
                let count = went_count mid new went in
                (both reaches target can c (subst (λ (n : ℕ). c < n) (count ∙ looks.went.kept.count) below)).0;
          }
        where
          went_count : (a b : BusState) → Went (cycle_count set Reset) (cycle_count set Reset) a b → lanes_of b ≡ lanes_of a
          went_count a b went = went.kept.count

      -- power went as it was to be shown
      pub resets_lost : (Reaches width g at mid → EachLane (LosesNone (AtRest set)) mid new) → Lost (cycle_count set Reset) mid new
          → LosesBy (λ target. CanPoll set target lanes old) 4 width g at old new
      resets_lost loses lost = record {
        lost =
            let first = cycle_count set ShowStatus + looks.reads in
            let one = one_reset set in
            let few = few_cycles set looks.reads looks.few in
            lost_then first (cycle_count set Reset) 4 old mid new (omega (arith, one, few)) looks.went lost;
        each = λ reaches target can c below.
            let it = each_looks reaches target can c below in
            let there = lane_kept old mid c looks.went.kept below in
            let gone = loses (reaches_kept width g at old mid looks.went.kept reaches) c there (at_rest reaches target can c below) in
            record {
              stays = outside_then target (lane old c) (lane mid c) (lane new c) it.stays (outside_lost (state_at now c) target (lane mid c) (lane new c) it.takes.is gone);
              suspends = gone.keeps.suspends ∙ it.suspends;
            };
      }

  -- a cycle of the poll failed
  pub polls_lost : (new : BusState) → EachUnder (TakesLook set) ChangesWithinErase width g at lanes old new
      → Lost (cycle_count set ShowStatus + look_reads set) old new → LosesBy (λ target. CanPoll set target lanes old) 4 width g at old new
  polls_lost new loses lost = record {
    lost = let most = most_cycles set in lost_then 0 (cycle_count set ShowStatus + look_reads set) 4 old old new (omega (arith, most)) (went_none old) lost;
    each = λ reaches target can c below.
        let takes = can.takes c below in
        let gone = loses reaches target c below takes in
        record {
          stays = outside_by (state_at lanes c) target (lane old c) (lane new c) takes.is gone.remains gone.outside;
          suspends = gone.suspends;
        };
  }

  -- ---- lanes that are suspended

  -- there is none
  can_poll : (target : Target) → Reaches width g at old → NoLaneIs g.lanes lanes Suspended → CanLook set target lanes old → CanPoll set target lanes old
  can_poll target reaches none can = record {
    takes = λ c below. takes_look set target (state_at lanes c) (lane old c) (can.waits c below) (can.named c below) (can.each c below) (none c (counted reaches c below));
    shown = can.shown;
  }

  pub looks_awake : (new : BusState) (now : Lanes) → NoLaneIs g.lanes lanes Suspended
      → LooksBy (λ target. CanPoll set target lanes old) 4 set width g at lanes old new now
      → LooksBy (λ target. CanLook set target lanes old) 5 set width g at lanes old new now
  looks_awake new now none it = record {
    cycles = it.cycles;
    few = let few = it.few in omega (arith, few);
    went = it.went;
    each = λ reaches target can. it.each reaches target (can_poll target reaches none can);
    shown = λ reaches target can. it.shown reaches target (can_poll target reaches none can);
  }

  pub loses_awake : (new : BusState) → NoLaneIs g.lanes lanes Suspended
      → LosesBy (λ target. CanPoll set target lanes old) 4 width g at old new → LosesBy (λ target. CanLook set target lanes old) 5 width g at old new
  loses_awake new none it = record {
    lost = lost_then 0 4 5 old old new (omega arith) (went_none old) it.lost;
    each = λ reaches target can. it.each reaches target (can_poll target reaches none can);
  }

  -- one is suspended, so none runs
  module _ (some : SomeLaneIs g.lanes lanes Suspended) where
    none_runs : Reaches width g at old → (target : Target) → CanLook set target lanes old → NoLaneIs (lanes_of old) lanes Running
    none_runs reaches target can c below runs = can.not_mixed c some.number below (there reaches some.number some.there) runs some.is

    takes_all : Reaches width g at old → (target : Target) → CanLook set target lanes old → (c : ℕ) → c < lanes_of old
        → TakesResume set target (state_at lanes c) (lane old c)
    takes_all reaches target can c below =
        takes_resume set target (state_at lanes c) (lane old c) (can.waits c below) (can.blocks c below) (can.each c below)
        (can.shown (none_runs reaches target can) c below) (none_runs reaches target can c below)

    -- the cycle that resumes them failed
    pub resume_lost : (new : BusState) → EachUnder (TakesResume set) ChangesWithinErase width g at lanes old new → Lost 1 old new
        → LosesBy (λ target. CanLook set target lanes old) 5 width g at old new
    resume_lost new loses lost = record {
      lost = lost_then 0 1 5 old old new (omega arith) (went_none old) lost;
      each = λ reaches target can c below.
          let takes = takes_all reaches target can c below in
          let gone = loses reaches target c below takes in
          record {
            stays = outside_by (state_at lanes c) target (lane old c) (lane new c) takes.is gone.remains gone.outside;
            suspends = gone.suspends;
          };
    }

    module _ (mid : BusState) (woken : Lanes) (resumes : ResumesAll set width g at lanes old mid woken) (went : Went 1 1 old mid) where
      later : Reaches width g at old → Reaches width g at mid
      later reaches = reaches_kept width g at old mid went.kept reaches

      can_after : Reaches width g at old → (target : Target) → CanLook set target lanes old → CanPoll set target woken mid
      can_after reaches target can = record {
        takes = λ c below.
            let before : c < lanes_of old = subst (λ (n : ℕ). c < n) went.kept.count below in
            let it = resumes reaches target c before (takes_all reaches target can c before) in
            subst (λ (x : LaneState). TakesLook set target x (lane mid c)) (sym it.1) it.0.next;
        shown = λ none.
            let k = some.number in
            let before = there reaches k some.there in
            let it = resumes reaches target k before (takes_all reaches target can k before) in
            absurd (none k (lane_kept old mid k went.kept before) (it.1 ∙ ap resumed_state some.is));
      }

      pub looks_woken : (new : BusState) (now : Lanes) → LooksBy (λ target. CanPoll set target woken mid) 4 set width g at woken mid new now
          → LooksBy (λ target. CanLook set target lanes old) 5 set width g at lanes old new now
      looks_woken new now it = record {
        cycles = 1 + it.cycles;
        few = let few = it.few in omega (arith, few);
        went = went_then 1 1 it.cycles it.cycles (1 + it.cycles) (1 + it.cycles) old mid new (omega arith) (omega arith) went it.went;
        each = λ reaches target can c below.
            let woke = resumes reaches target c below (takes_all reaches target can c below) in
            let then = it.each (later reaches) target (can_after reaches target can) c (lane_kept old mid c went.kept below) in
            looks_resumed set target (state_at lanes c) (state_at now c) it.cycles (lane old c) (lane mid c) (lane new c) woke.0
            (subst (λ (x : LaneState). LaneLooks set target x (state_at now c) it.cycles (lane mid c) (lane new c)) woke.1 then)
            (none_runs reaches target can c below);
        shown = λ reaches target can still.
            it.shown (later reaches) target (can_after reaches target can) (λ c below. still c (subst (λ (n : ℕ). c < n) went.kept.count below));
      }

      pub loses_woken : (new : BusState) → LosesBy (λ target. CanPoll set target woken mid) 4 width g at mid new
          → LosesBy (λ target. CanLook set target lanes old) 5 width g at old new
      loses_woken new it = record {
        lost = lost_then 1 4 5 old mid new (omega arith) went it.lost;
        each = λ reaches target can c below.
            let woke = resumes reaches target c below (takes_all reaches target can c below) in
            let gone = it.each (later reaches) target (can_after reaches target can) c (lane_kept old mid c went.kept below) in
            record {
              stays = outside_then target (lane old c) (lane mid c) (lane new c) (outside_same target (lane old c) (lane mid c) woke.0.remains woke.0.cells) gone.stays;
              suspends = gone.suspends ∙ woke.0.suspends;
            };
      }
