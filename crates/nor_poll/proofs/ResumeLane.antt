-- A resume of one lane, by either set.
use Rattle.std.proofs.Common.{◌≡◌, ◌≢◌, ◌⊎◌, inl, inr, ◌+◌, ◌*◌, ◌<◌, ◌%◌, ◌^◌, ◌&&◌, ℕ, refl, sym, ap, subst, ◌∙◌, arith, Bool, true, if◌then◌else◌}
use Rattle.nor_cell.specs.Bits.{unit_len}
use Rattle.nor_cell.specs.Chip.{ChipState, Mode, Array, Status, Fault, Rest, Job, Idle, Erase, Target, OneBlock, AllBlocks, Held, NotHeld, Holds, has_blocks, is_held, reads_left}
use Rattle.nor_cell.specs.Intel.{commanded}
use Rattle.nor_cell.specs.Amd.{array_steps}
use Rattle.nor_cell.specs.Look.{resumed, resumed_from}
use Rattle.nor_cell.specs.Power.{programs_at}
use Rattle.nor_cell.specs.Steps.{written}
use Rattle.nor_cell.specs.declared.device.Set.{Set}
use Rattle.nor_cell.specs.declared.device.Set.TheVariants.{Intel, Amd}
use Rattle.nor_cell.specs.declared.device.Device.{Device}
use Rattle.nor_cell.specs.declared.device.Device.TheVariants.{X8, X16, X16Byte}
use Rattle.nor_bus.specs.Bus.{wide}
use Rattle.nor_bus.specs.Driven.{spread, Darkens}
use Rattle.nor_poll.specs.Erase.{ChangesWithinErase}
use Rattle.nor_poll.specs.Toggles.{names_job}
use Rattle.nor_cell.specs.Between.{Waits, AtRest, TakesCommands, reset}
use Rattle.nor_cell.proofs.Between.{no_intel_fault, resets_amd, reset_shows, shown_takes, takes_waits}
use Rattle.nor_cell.proofs.Logic.{same_number}
use Rattle.nor_poll.specs.Word.{work_mode}
use Rattle.nor_poll.proofs.Programming.{work_array, work_resets}
use Rattle.nor_poll.specs.Resume.{TakesResume, Resumes, resume_code}
use Rattle.nor_poll.specs.UnderErase.{LaneIs, IsUntold, ShowsErase, holds_target, held_left}
use Rattle.nor_poll.specs.declared.lanes.LaneState.{LaneState}
use Rattle.nor_poll.specs.declared.lanes.LaneState.TheVariants.{Running, Suspended, Finished, Broken}
use Rattle.nor_bus.proofs.Driving.{spread_low}
use Rattle.nor_poll.proofs.Codes1.{by_step as step_1}
use Rattle.nor_poll.proofs.Codes2.{by_step as step_2}
use Rattle.nor_poll.proofs.Erasing.{dark_within, within_none}

-- ---- the word

value_of : (device : Device) (code : ℕ) → code < 256 → (257 * code) % 256 ^ unit_len device ≡ spread (unit_len device) code
value_of X8 code h = omega arith
value_of X16 code h = omega arith
value_of X16Byte code h = omega arith

-- a lane more has its code
pub code_more : (lane_at : ℕ → ℕ) (device : Device) (f : ℕ → ℕ) (k value code : ℕ) (after : ℕ → ℕ) → value ≡ 257 * code → code < 256 → code ≡ f k
    → after k ≡ value % 256 ^ unit_len device → ((c : ℕ) → c ≢ k → after c ≡ lane_at c) → ((c : ℕ) → c < k → lane_at c ≡ spread (unit_len device) (f c)) → (c : ℕ) → c < k + 1 → (c ≡ k) ⊎ (c ≢ k)
    → after c ≡ spread (unit_len device) (f c)
code_more lane_at device f k value code after is small own here others done c below (inl e) =
    ap after e ∙ (here ∙ (ap (λ (v : ℕ). v % 256 ^ unit_len device) is ∙ (value_of device code small ∙ (ap (spread (unit_len device)) own ∙ ap (λ (i : ℕ). spread (unit_len device) (f i)) (sym e)))))
code_more lane_at device f k value code after is small own here others done c below (inr ne) = others c ne ∙ done c (omega arith)

-- ---- a suspended lane

-- the chip holds the erase of the one block
pub record HoldsOne (target : Target) (held : Held) : Type 0 where
  pub number : ℕ
  pub left : ℕ
  pub held_is : held ≡ Holds number left
  pub target_is : target ≡ OneBlock number

holds_one : (held : Held) (target : Target) → holds_target held target ≡ true → HoldsOne target held
holds_one NotHeld target h = cc
holds_one (Holds b left) (OneBlock c) h = record { number = b; left = left; held_is = refl; target_is = ap OneBlock (same_number c b h) }
holds_one (Holds b left) AllBlocks h = cc

-- the chip after the resume code
abbrev runs_again : Set → ℕ → ℕ → ChipState → ChipState
runs_again set b left s = record s { mode = work_mode set; job = Erase (OneBlock b) left; held = NotHeld }

resumes_1 : (u b left : ℕ) (s : ChipState) → AtRest Intel s → has_blocks s.part.blocks ≡ true → s.held ≡ Holds b left → written s u (spread (wide s) 0xD0) ≡ runs_again Intel b left s
resumes_1 u b left s rest blocks held =
    step_1 s u (spread (wide s) 0xD0) Rest rest.set rest.job rest.step
    ∙ (ap (commanded s u) (spread_low s.part.device 0xD0 (omega arith))
    ∙ (ap (λ (k : Bool). if k && is_held s.held then record (resumed s) { mode = Status } else record s { mode = Array }) blocks
    ∙ ap (λ (h : Held). if is_held h then record (resumed_from h s) { mode = Status } else record s { mode = Array }) held))

resumes_2 : (u b left : ℕ) (s : ChipState) → TakesCommands Amd s → has_blocks s.part.blocks ≡ true → s.held ≡ Holds b left
    → written s u (spread (wide s) 0x30) ≡ runs_again Amd b left s
resumes_2 u b left s takes blocks held =
    step_2 s u (spread (wide s) 0x30) Rest takes.rest.set takes.rest.job takes.fault (takes.mode refl) takes.rest.step
    ∙ (ap (array_steps Rest s u (spread (wide s) 0x30)) (spread_low s.part.device 0x30 (omega arith))
    ∙ (ap (λ (k : Bool). if k then resumed s else s) blocks
    ∙ (ap (λ (h : Held). resumed_from h s) held ∙ ap (λ (m : Mode). record s { mode = m; job = Erase (OneBlock b) left; held = NotHeld }) (takes.mode refl))))

runs_by : (set : Set) (u b left : ℕ) (target : Target) (s : ChipState) → TakesResume set target Suspended s → s.held ≡ Holds b left → written s u (spread (wide s) (resume_code set Suspended)) ≡ runs_again set b left s
runs_by Intel u b left target s takes held = resumes_1 u b left s takes.rest takes.blocks held
runs_by Amd u b left target s takes held = resumes_2 u b left s (takes.takes refl) takes.blocks held

shows_again : (set : Set) (b left : ℕ) (s : ChipState) → ShowsErase set (runs_again set b left s)
shows_again Intel b left s = refl
shows_again Amd b left s = tt

untold_again : (set : Set) (b left : ℕ) (s : ChipState) → IsUntold set s → IsUntold set (runs_again set b left s)
untold_again Intel b left s h = h
untold_again Amd b left s h = h

left_again : (job : Job) (held : Held) (b left : ℕ) → job ≡ Idle → held ≡ Holds b left → left + 0 ≡ reads_left job + held_left held
left_again job held b left idle is = rw (idle, is) (omega arith)

again_waits : (set : Set) (b left : ℕ) (s : ChipState) → TakesCommands set s → Waits set (runs_again set b left s)
again_waits set b left s takes = record {
  set = takes.rest.set;
  step = takes.rest.step;
  mode = work_array set;
  resets = work_resets set s.fault takes.fault;
}

resumes_as : (set : Set) (b left : ℕ) (target : Target) (s : ChipState) → TakesResume set target Suspended s → s.held ≡ Holds b left → target ≡ OneBlock b → Resumes set target Suspended s (runs_again set b left s)
resumes_as set b left target s takes held is = record {
  is = sym (ap (λ (h : Held). record (resumed_from h s) { mode = work_mode set }) held);
  next = record {
    waits = again_waits set b left s (takes.takes refl);
    names = ap names_job (takes.takes refl).fault;
    awake = λ e. cc;
    is = (
      inl (record {
        left = left;
        job = ap (λ (t : Target). Erase t left) (sym is);
        shows = subst (λ (k : Set). ShowsErase k (runs_again set b left s)) (sym takes.rest.set) (shows_again set b left s);
        untold = subst (λ (k : Set). IsUntold k (runs_again set b left s)) (sym takes.rest.set) (untold_again set b left s (subst (λ (k : Set). IsUntold k s) takes.rest.set takes.is.2));
      }),
      refl,
    );
  };
  remains = record { part = refl; size = refl; locks = refl; erases = refl };
  cells = refl;
  suspends = refl;
  flags = refl;
  left = left_again s.job s.held b left takes.rest.job held;
  shown = λ other. absurd (other refl);
}

-- ---- a lane that has ended

ends_by : (set : Set) (u : ℕ) (s : ChipState) → AtRest set s → written s u (spread (wide s) (resume_code set Finished)) ≡ reset s
ends_by Intel u s rest =
    step_1 s u (spread (wide s) 0xFF) Rest rest.set rest.job rest.step
    ∙ (ap (commanded s u) (spread_low s.part.device 0xFF (omega arith)) ∙ ap (λ (f : Fault). record s { mode = Array; fault = f }) (no_intel_fault s.mode s.fault rest.resets))
ends_by Amd u s rest = resets_amd s u (spread (wide s) 0xF0) rest (spread_low s.part.device 0xF0 (omega arith))

ended_waits : (set : Set) (s : ChipState) → AtRest set s → Waits set (reset s)
ended_waits set s rest = takes_waits set (reset s) (shown_takes set (reset s) rest.set (reset_shows set s rest))

finished_as : (set : Set) (target : Target) (s : ChipState) → AtRest set s → LaneIs Finished target s → Resumes set target Finished s (reset s)
finished_as set target s rest is = record {
  is = refl;
  next = record {
    waits = ended_waits set s rest;
    names = refl;
    is = (record { ones = is.0.ones; sound = is.0.sound }, record { job = is.1.job; held = is.1.held });
    awake = λ e. cc;
  };
  remains = record { part = refl; size = refl; locks = refl; erases = refl };
  cells = refl;
  suspends = refl;
  flags = refl;
  left = refl;
  shown = λ other. refl;
}

broken_as : (set : Set) (target : Target) (s : ChipState) → AtRest set s → LaneIs Broken target s → Resumes set target Broken s (reset s)
broken_as set target s rest is = record {
  is = refl;
  next = record { waits = ended_waits set s rest; names = refl; is = (is.0, record { job = is.1.job; held = is.1.held }); awake = λ e. cc };
  remains = record { part = refl; size = refl; locks = refl; erases = refl };
  cells = refl;
  suspends = refl;
  flags = refl;
  left = refl;
  shown = λ other. refl;
}

same_code : (set : Set) → resume_code set Broken ≡ resume_code set Finished
same_code Intel = refl
same_code Amd = refl

pub resumes : (set : Set) (u : ℕ) (target : Target) (state : LaneState) (s t : ChipState) → TakesResume set target state s → t ≡ written s u (spread (wide s) (resume_code set state)) → Resumes set target state s t
resumes set u target Running s t takes is = absurd (takes.idle refl)
resumes set u target Suspended s t takes is =
    let h = holds_one s.held target takes.is.0 in
    subst (λ (x : ChipState). Resumes set target Suspended s x) (sym (is ∙ runs_by set u h.number h.left target s takes h.held_is)) (resumes_as set h.number h.left target s takes h.held_is h.target_is)
resumes set u target Finished s t takes is =
    subst (λ (x : ChipState). Resumes set target Finished s x) (sym (is ∙ ends_by set u s takes.rest)) (finished_as set target s takes.rest takes.is)
resumes set u target Broken s t takes is =
    subst (λ (x : ChipState). Resumes set target Broken s x) (sym (is ∙ (ap (λ (n : ℕ). written s u (spread (wide s) n)) (same_code set) ∙ ends_by set u s takes.rest))) (broken_as set target s takes.rest takes.is)

-- ---- a cycle that failed

pub loses_resume : (set : Set) (target : Target) (state : LaneState) (s t : ChipState) → TakesResume set target state s → Darkens s t → ChangesWithinErase target s t
loses_resume set target state s t takes dark = dark_within target s s t (within_none target s) (λ p. ap (λ (j : Job). programs_at j p) takes.rest.job) dark
