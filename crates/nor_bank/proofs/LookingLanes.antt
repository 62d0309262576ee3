-- What a chip under erase is, by where its lane is, and what a look at the erase makes of it.
use Rattle.std.proofs.Common.{◌≡◌, ◌≢◌, ◌+◌, ◌⊎◌, inl, inr, ℕ, List, [], slice_index, refl, sym, ◌∙◌, ap, subst, arith, true}
use Rattle.std.proofs.lemmas.Bool.{cases_lt}
use Rattle.nor_cell.specs.Chip.{ChipState, Part, Job, Idle, Target, Held, is_within, covered, reads_left, has_blocks}
use Rattle.nor_cell.specs.Between.{Waits, IsShown, reset}
use Rattle.nor_cell.specs.Steps.{Remains}
use Rattle.nor_cell.specs.declared.device.Set.{Set}
use Rattle.nor_cell.proofs.Between.{array_resets, shown_takes, waits_rests, reset_shows}
use Rattle.nor_poll.specs.Erase.{TakesLook, LooksOn}
use Rattle.nor_poll.specs.Losing.{Loses}
use Rattle.nor_poll.specs.Rest.{Resets}
use Rattle.nor_poll.specs.Resume.{TakesResume, Resumes, resumed_state}
use Rattle.nor_poll.specs.Told.{HasLeft}
use Rattle.nor_poll.specs.Toggles.{names_job}
use Rattle.nor_poll.specs.UnderErase.{LaneIs, IsClosed, KeepsOutside, erase_left, held_left}
use Rattle.nor_poll.specs.declared.lanes.LaneState.{LaneState}
use Rattle.nor_poll.specs.declared.lanes.LaneState.TheVariants.{Running, Suspended, Finished, Broken}
use Rattle.nor_poll.proofs.Losing.{remains_then}
use Rattle.nor_bank.specs.Looks.{WorksOn, IsAwaited, StaysOutside, LaneLooks}
use Rattle.nor_bank.specs.Way.{LooksAt}
use Rattle.nor_bank.proofs.HoldingLanes.{erasing_within}

-- ---- by where the lane is

pub idle_of : (state : LaneState) (target : Target) (s : ChipState) → LaneIs state target s → state ≢ Running → s.job ≡ Idle
idle_of Running target s is apart = absurd (apart refl)
idle_of Suspended target s is apart = is.1
idle_of Finished target s is apart = is.1.job
idle_of Broken target s is apart = is.1.job

pub closed_of : (state : LaneState) (target : Target) (s : ChipState) → LaneIs state target s → state ≢ Running → state ≢ Suspended → IsClosed s
closed_of Running target s is apart free = absurd (apart refl)
closed_of Suspended target s is apart free = absurd (free refl)
closed_of Finished target s is apart free = is.1
closed_of Broken target s is apart free = is.1

-- no read is left
pub none_left : (s : ChipState) → IsClosed s → erase_left s ≡ 0
none_left s closed =
    let job : reads_left s.job ≡ 0 = ap (λ (j : Job). reads_left j) closed.job in
    let held : held_left s.held ≡ 0 = ap (λ (h : Held). held_left h) closed.held in
    omega (arith, job, held)

-- ---- what no call near an erase changes

pub remains_self : (s : ChipState) → Remains s s
remains_self s = record { part = refl; size = refl; locks = refl; erases = refl }

pub outside_self : (target : Target) (s : ChipState) → StaysOutside target s s
outside_self target s = record { remains = remains_self s; outside = λ p out. refl }

pub outside_then : (target : Target) (r s t : ChipState) → StaysOutside target r s → StaysOutside target s t → StaysOutside target r t
outside_then target r s t x y = record {
  remains = remains_then r s t x.remains y.remains;
  outside = λ p out.
      y.outside p (ap (λ (k : Part). is_within (covered target k.blocks) p) x.remains.part ∙ out) ∙ x.outside p out;
}

-- with its cells as they were
pub outside_same : (target : Target) (s t : ChipState) → Remains s t → t.cells ≡ s.cells → StaysOutside target s t
outside_same target s t remains cells = record {
  remains = remains;
  outside = λ p out. ap (λ (bytes : List ℕ). slice_index bytes p) cells;
}

pub outside_by : (state : LaneState) (target : Target) (s t : ChipState) → LaneIs state target s → Remains s t → KeepsOutside s t → StaysOutside target s t
outside_by state target s t is remains keeps = record {
  remains = remains;
  outside = λ p out. keeps p (erasing_within state target s p is out);
}

pub outside_lost : (state : LaneState) (target : Target) (s t : ChipState) → LaneIs state target s → Loses 0 [] s t → StaysOutside target s t
outside_lost state target s t is lost = record {
  remains = lost.keeps.remains;
  outside = λ p out. lost.above p (erasing_within state target s p is out) (omega arith);
}

-- ---- what a look asks

pub takes_look : (set : Set) (target : Target) (state : LaneState) (s : ChipState) → Waits set s → names_job s.fault ≡ true → LaneIs state target s
    → state ≢ Suspended → TakesLook set target state s
takes_look set target state s waits names is awake = record { waits = waits; names = names; is = is; awake = awake }

pub takes_resume : (set : Set) (target : Target) (state : LaneState) (s : ChipState) → Waits set s → has_blocks s.part.blocks ≡ true → LaneIs state target s
    → IsShown s → state ≢ Running → TakesResume set target state s
takes_resume set target state s waits blocks is shown apart = record {
  rest = waits_rests set s waits (idle_of state target s is apart);
  takes = λ held. shown_takes set s waits.set shown;
  blocks = blocks;
  is = is;
  idle = apart;
}

-- ---- what it makes of a lane

pub looks_at : (set : Set) (target : Target) (before after : LaneState) (cycles : ℕ) (s t : ChipState) → LaneLooks set target before after cycles s t → LooksAt cycles s t
looks_at set target before after cycles s t it = record { remains = it.stays.remains; suspends = it.suspends; left = (it.most, it.left); nears = it.nears }

works_by : (s : ChipState) → HasLeft s → WorksOn s
works_by s (inl some) = inl (omega (arith, some))
works_by s (inr both) = inr both.1

awaited_not : (state : LaneState) → state ≢ Running → state ≢ Suspended → IsAwaited state → ⊥
awaited_not state apart free (inl is) = apart is
awaited_not state apart free (inr is) = free is

-- a lane that had ended before, of which nothing is asked
pub looks_none : (set : Set) (target : Target) (state : LaneState) (s : ChipState) → TakesLook set target state s → state ≢ Running → LaneLooks set target state state 0 s s
looks_none set target state s takes apart =
    let closed = closed_of state target s takes.is apart takes.awake in
    record {
      takes = takes;
      stays = outside_self target s;
      suspends = refl;
      most = omega arith;
      left = omega arith;
      nears = λ sound. inl (none_left s closed);
      works = λ is. absurd (apart is);
      ends = λ awaited _. absurd (awaited_not state apart takes.awake awaited);
    }

-- a lane that is looked at
pub looks_once : (set : Set) (target : Target) (before after : LaneState) (n reads : ℕ) (s t : ChipState) → TakesLook set target before s → (before ≡ Running) ⊎ (before ≢ Running)
    → LooksOn set target before after reads s t → LaneLooks set target before after (n + reads) s t
looks_once set target before after n reads s t takes ran it = record {
  takes = it.next;
  stays = outside_by before target s t takes.is it.keeps.remains it.keeps.outside;
  suspends = it.keeps.suspends;
  most = it.keeps.most;
  left = let few = it.few in omega (arith, few);
  nears = λ sound. elim (cases_lt 0 (erase_left s)) [
    | inl some ↦ inr (it.fewer sound some)
    | inr none ↦ inl (let most = it.keeps.most in omega (arith, none, most))
  ];
  works = λ runs. elim ran [
    | inl was ↦ works_by s (it.works was runs)
    | inr apart ↦ absurd (apart (sym (it.others apart).0 ∙ runs))
  ];
  ends = λ awaited over. elim awaited [
    | inl was ↦ let less = it.ends was over in omega (arith, less)
    | inr held ↦ absurd (takes.awake held)
  ];
}

-- what was resumed before it
pub looks_resumed : (set : Set) (target : Target) (before after : LaneState) (n : ℕ) (r s t : ChipState) → Resumes set target before r s
    → LaneLooks set target (resumed_state before) after n s t → before ≢ Running → LaneLooks set target before after (1 + n) r t
looks_resumed set target before after n r s t resumed it apart =
    let same = resumed.left in
    let part = resumed.remains.part in
    record {
      takes = it.takes;
      stays = outside_then target r s t (outside_same target r s resumed.remains resumed.cells) it.stays;
      suspends = it.suspends ∙ resumed.suspends;
      most = let most = it.most in omega (arith, same, most);
      left = let left = it.left in omega (arith, same, left);
      nears = λ sound. elim (it.nears (ap (λ (k : Part). k.stuck) part ∙ sound)) [
        | inl none ↦ inl none
        | inr less ↦ inr (omega (arith, same, less))
      ];
      works = λ runs. elim (it.works runs) [
        | inl some ↦ inl (omega (arith, same, some))
        | inr stuck ↦ inr (sym (ap (λ (k : Part). k.stuck) part) ∙ stuck)
      ];
      ends = λ awaited over. elim awaited [
        | inl was ↦ absurd (apart was)
        | inr held ↦ let less = it.ends (inl (ap resumed_state held)) over in omega (arith, same, less)
      ];
    }

-- and a reset after it, where the lane has ended
pub looks_reset : (set : Set) (target : Target) (before after : LaneState) (n : ℕ) (s t u : ChipState) → LaneLooks set target before after n s t → after ≢ Running
    → Resets set t u → IsShown u × LaneLooks set target before after (n + 1) s u
looks_reset set target before after n s t u it apart resets =
    let rest = waits_rests set t it.takes.waits (idle_of after target t it.takes.is apart) in
    let P : ChipState → Type 0 = λ x. IsShown x × LaneLooks set target before after (n + 1) s x in
    subst P (sym (resets rest)) (
      reset_shows set t rest,
      record {
        takes = record {
          waits = record { set = it.takes.waits.set; step = it.takes.waits.step; mode = λ amd. refl; resets = array_resets set };
          names = refl;
          is = reset_is after target t it.takes.is apart it.takes.awake;
          awake = it.takes.awake;
        };
        stays = outside_then target s t (reset t) it.stays (outside_same target t (reset t) (record { part = refl; size = refl; locks = refl; erases = refl }) refl);
        suspends = it.suspends;
        most = it.most;
        left = let left = it.left in omega (arith, left);
        nears = it.nears;
        works = it.works;
        ends = λ awaited over. let less = it.ends awaited over in omega (arith, less);
      },
    )
  where
    reset_is : (state : LaneState) (target : Target) (s : ChipState) → LaneIs state target s → state ≢ Running → state ≢ Suspended → LaneIs state target (reset s)
    reset_is Running target s is apart free = absurd (apart refl)
    reset_is Suspended target s is apart free = absurd (free refl)
    reset_is Finished target s is apart free = (record { ones = is.0.ones; sound = is.0.sound }, record { job = is.1.job; held = is.1.held })
    reset_is Broken target s is apart free = (is.0, record { job = is.1.job; held = is.1.held })
