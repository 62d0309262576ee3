-- What one status read tells.
use Rattle.std.proofs.Common.{◌≡◌, ◌+◌, ◌*◌, ◌<◌, ◌≤◌, ◌⊎◌, inl, inr, ℕ, zero, suc, refl, sym, subst, ap, arith, ◌∙◌, Bool, true, false, List, [], ◌∷◌, length, MatchBool, ◌≢◌, slice_set, get_or-set_other, get_or-set_same}
use Rattle.std.proofs.lemmas.Bool.{cases_eq}
use Rattle.std.proofs.Math.ListN.{length-set}
use Rattle.nor_cell.specs.Bits.{unit_len}
use Rattle.nor_cell.specs.Chip.{ChipState, Flags, Mode, Status, Job, Idle, Program, Erase, Pausing, runs, is_held, reads_left}
use Rattle.nor_cell.specs.Intel.{IntelReads, ShowsMode, status_of}
use Rattle.nor_cell.specs.Shown.{bit_if}
use Rattle.nor_cell.specs.Look.{look_at, look, job_after}
use Rattle.nor_cell.specs.Steps.{Reads, reads_of}
use Rattle.nor_cell.specs.Wiring.{is_wiring}
use Rattle.nor_cell.specs.declared.device.Device.{Device}
use Rattle.nor_cell.specs.declared.device.Set.{Set}
use Rattle.nor_cell.specs.declared.device.Set.TheVariants.{Intel}
use Rattle.nor_word.specs.Word.{lane_of}
use Rattle.nor_cell.specs.declared.geometry.Geometry.{Geometry}
use Rattle.nor_bus.specs.Bus.{BusState, lane, lanes_of, wide}
use Rattle.nor_bus.specs.Driven.{IsOwn}
use Rattle.nor_bus.proofs.Driving.{device_of}
use Rattle.nor_poll.specs.Register.{status_says, heeded}
use Rattle.nor_poll.specs.Told.{TellsStatus, TellsErase, HasLeft, ShowsStatus, past_program, seen, seen_idle, seen_at, Told}
use Rattle.nor_poll.proofs.Looking.{looked_by}
use Rattle.nor_poll.specs.declared.watch.Seen.{Seen}
use Rattle.nor_poll.specs.declared.watch.Seen.TheVariants.{Working, Ready}

busy : (held : Bool) → status_says (bit_if 0x40 held) ≡ Working
busy true = refl
busy false = refl

rested : (held e p l : Bool) → status_says (status_of held (record { erase = e; program = p; locked = l })) ≡ seen false held (record { erase = e; program = p; locked = l })
rested true true true true = refl
rested true true true false = refl
rested true true false true = refl
rested true true false false = refl
rested true false true true = refl
rested true false true false = refl
rested true false false true = refl
rested true false false false = refl
rested false true true true = refl
rested false true true false = refl
rested false true false true = refl
rested false true false false = refl
rested false false true true = refl
rested false false true false = refl
rested false false false true = refl
rested false false false false = refl

rested_in_erase : (held e p l : Bool) → status_says (heeded (status_of held (record { erase = e; program = p; locked = l }))) ≡ seen false held (record { erase = e; program = false; locked = l })
rested_in_erase true true true true = refl
rested_in_erase true true true false = refl
rested_in_erase true true false true = refl
rested_in_erase true true false false = refl
rested_in_erase true false true true = refl
rested_in_erase true false true false = refl
rested_in_erase true false false true = refl
rested_in_erase true false false false = refl
rested_in_erase false true true true = refl
rested_in_erase false true true false = refl
rested_in_erase false true false true = refl
rested_in_erase false true false false = refl
rested_in_erase false false true true = refl
rested_in_erase false false true false = refl
rested_in_erase false false false true = refl
rested_in_erase false false false false = refl

busy_in_erase : (held : Bool) → status_says (heeded (bit_if 0x40 held)) ≡ Working
busy_in_erase true = refl
busy_in_erase false = refl

shown_in_erase : (working held : Bool) (flags : Flags) (answer : ℕ) → MatchBool working (answer ≡ bit_if 0x40 held) (answer ≡ status_of held flags)
    → status_says (heeded answer) ≡ seen working held (record { erase = flags.erase; program = false; locked = flags.locked })
shown_in_erase true held flags answer h = ap (λ (n : ℕ). status_says (heeded n)) h ∙ busy_in_erase held
shown_in_erase false held flags answer h = ap (λ (n : ℕ). status_says (heeded n)) h ∙ rested_in_erase held flags.erase flags.program flags.locked

shown : (working held : Bool) (flags : Flags) (answer : ℕ) → MatchBool working (answer ≡ bit_if 0x40 held) (answer ≡ status_of held flags) → status_says answer ≡ seen working held flags
shown true held flags answer h = ap status_says h ∙ busy held
shown false held flags answer h = ap status_says h ∙ rested held flags.erase flags.program flags.locked

-- what still runs ran, and had reads left
pub ran : (stuck : Bool) (job : Job) → runs (job_after (look_at stuck job)) ≡ true → (0 < reads_left job) ⊎ ((runs job ≡ true) × (stuck ≡ true))
ran true Idle h = cc
ran true (Program at bytes left) h = inr (refl, refl)
ran true (Erase target left) h = inr (refl, refl)
ran true (Pausing b wait left) h = inr (refl, refl)
ran false Idle h = cc
ran false (Program at bytes zero) h = cc
ran false (Program at bytes (suc left)) h = inl (omega arith)
ran false (Erase target zero) h = cc
ran false (Erase target (suc left)) h = inl (omega arith)
ran false (Pausing b zero left) h = cc
ran false (Pausing b (suc wait) left) h = inl (omega arith)

has_some : (job : Job) → 0 < reads_left job → runs job ≡ true
has_some Idle h = absurd (omega (arith, h))
has_some (Program at bytes left) h = refl
has_some (Erase target left) h = refl
has_some (Pausing b wait left) h = refl

pub left_runs : (s : ChipState) → HasLeft s → runs s.job ≡ true
left_runs s (inl some) = has_some s.job some
left_runs s (inr stuck) = stuck.0

working_if : (working held e p l : Bool) → seen working held (record { erase = e; program = p; locked = l }) ≡ Working → working ≡ true
working_if true held e p l h = refl
working_if false held true p l h = cc
working_if false held false true l h = cc
working_if false true false false l h = cc
working_if false false false false l h = cc

-- a chip that is told to work runs a job
pub working_runs : (working held : Bool) (flags : Flags) → seen working held flags ≡ Working → working ≡ true
working_runs working held flags h = working_if working held flags.erase flags.program flags.locked h

-- what the status shows, once a read has looked
status_shown : (s : ChipState) (u answer : ℕ) (t : ChipState) → Reads s u answer t → ShowsStatus s → IntelReads s u answer t × MatchBool (runs t.job) (answer ≡ bit_if 0x40 (is_held t.held)) (answer ≡ status_of (is_held t.held) t.flags)
status_shown s u answer t reads shows =
    let h : IntelReads s u answer t = subst (λ k. reads_of k s u answer t) shows.set reads in
    let mode : t.mode ≡ Status = ap (λ (x : ChipState). x.mode) h.rest ∙ shows.mode in
    (h, subst (λ (m : Mode). MatchBool (runs t.job) (answer ≡ bit_if 0x40 (is_held t.held)) (ShowsMode m t u answer)) mode h.answers)

-- a read of a chip that shows its status tells what the status says
pub tells : (s : ChipState) (u answer : ℕ) (t : ChipState) → Reads s u answer t → TellsStatus s (status_says answer) t
tells s u answer t reads shows =
    let x = status_shown s u answer t reads shows in
    let job : t.job ≡ job_after (look s) = ap (λ (y : ChipState). y.job) x.0.rest in
    let is : status_says answer ≡ seen (runs t.job) (is_held t.held) t.flags = shown (runs t.job) (is_held t.held) t.flags answer x.1 in
    record {
      looked = looked_by s u answer t reads;
      told = is;
      had = λ e. ran s.part.stuck s.job (subst (λ (j : Job). runs j ≡ true) job (working_runs (runs t.job) (is_held t.held) t.flags (sym is ∙ e)));
    }

-- a chip that isn't told to work runs no job
pub idle_if : (job : Job) (held : Bool) (flags : Flags) → seen (runs job) held flags ≢ Working → job ≡ Idle
idle_if Idle held flags h = refl
idle_if (Program p bytes left) held flags h = absurd (h refl)
idle_if (Erase b left) held flags h = absurd (h refl)
idle_if (Pausing b wait left) held flags h = absurd (h refl)

-- so does one of a chip under erase
tells_erase : (v : ℕ) (s : ChipState) (u answer : ℕ) (t : ChipState) → Reads s u answer t → TellsErase v s (status_says (heeded answer)) t
tells_erase v s u answer t reads shows =
    let x = status_shown s u answer t reads shows in
    let job : t.job ≡ job_after (look s) = ap (λ (y : ChipState). y.job) x.0.rest in
    let intel : t.part.set ≡ Intel = ap (λ (y : ChipState). y.part.set) x.0.rest ∙ shows.set in
    let flags = (past_program t).flags in
    let is : status_says (heeded answer) ≡ seen (runs t.job) (is_held t.held) flags = shown_in_erase (runs t.job) (is_held t.held) t.flags answer x.1 in
    record {
      had = λ e. ran s.part.stuck s.job (subst (λ (j : Job). runs j ≡ true) job (working_runs (runs t.job) (is_held t.held) flags (sym is ∙ e)));
      idle = λ rests. idle_if t.job (is_held t.held) flags (λ e. rests (is ∙ e));
      is = λ rests.
          is ∙ (ap (λ (j : Job). seen (runs j) (is_held t.held) flags) (idle_if t.job (is_held t.held) flags (λ e. rests (is ∙ e))) ∙ sym (ap (λ (k : Set). seen_idle k v (past_program t)) intel));
    }

pub erase_told_by : (v : ℕ) (device : Device) (s t : ChipState) (it : Seen) (u c : ℕ) (word : List ℕ) → wide s ≡ unit_len device → Reads s u (lane_of (wide s) word c) t
    → it ≡ status_says (heeded (lane_of (unit_len device) word c)) → TellsErase v s it t
erase_told_by v device s t it u c word same reads is =
    let read = subst (λ (d : ℕ). Reads s u (lane_of d word c) t) same reads in
    subst (λ (x : Seen). TellsErase v s x t) (sym is) (tells_erase v s u (lane_of (unit_len device) word c) t read)

-- so it is with a lane of a word that was read
pub told_by : (device : Device) (s t : ChipState) (it : Seen) (u c : ℕ) (word : List ℕ) → wide s ≡ unit_len device → Reads s u (lane_of (wide s) word c) t
    → it ≡ status_says (lane_of (unit_len device) word c) → TellsStatus s it t
told_by device s t it u c word same reads is shows =
    let read = subst (λ (d : ℕ). Reads s u (lane_of d word c) t) same reads in
    subst (λ (x : Seen). Told s x t) (sym is) (tells s u (lane_of (unit_len device) word c) t read shows)

-- a lane of a word, by the bytes that a lane has
pub lane_value : (bytes d k : ℕ) (word : List ℕ) (value : ℕ) → value ≡ lane_of bytes word k → bytes ≡ d → value ≡ lane_of d word k
lane_value bytes d k word value is same = is ∙ ap (λ (b : ℕ). lane_of b word k) same

-- a wiring has at most four lanes, and they fill the word
pub wired : (width lanes : ℕ) (device : Device) → is_wiring width lanes device ≡ true → (lanes ≤ 4) × (lanes * unit_len device ≡ width)
wired width lanes device is = grind (arith, is)

-- The first k lanes are told as f says, and nothing yet of the others.
pub record ToldUpTo (k : ℕ) (f : ℕ → Seen) (lanes : List Seen) : Type 0 where
  pub size : length lanes ≡ 4
  pub told : (c : ℕ) → c < k → seen_at lanes c ≡ f c
  pub past : (c : ℕ) → k ≤ c → seen_at lanes c ≡ Ready

told_at : (k c : ℕ) (f : ℕ → Seen) (lanes : List Seen) (it : Seen) → k < length lanes → ToldUpTo k f lanes → it ≡ f k → c < k + 1 → (c ≡ k) ⊎ (c ≢ k) → seen_at (slice_set lanes k it) c ≡ f c
told_at k c f lanes it room h e below (inl same) = rw same (get_or-set_same lanes k it Ready room ∙ e)
told_at k c f lanes it room h e below (inr apart) = get_or-set_other lanes k c it Ready apart ∙ h.told c (omega arith)

-- one more lane is told
pub told_more : (k : ℕ) (f : ℕ → Seen) (lanes : List Seen) (it : Seen) → k < 4 → ToldUpTo k f lanes → it ≡ f k → ToldUpTo (k + 1) f (slice_set lanes k it)
told_more k f lanes it room h e =
    let size : length lanes ≡ 4 = h.size in
    record {
      size = length-set lanes k it ∙ size;
      told = λ c below. told_at k c f lanes it (omega arith) h e below (cases_eq c k);
      past = λ c le. let apart : c ≢ k = omega arith in get_or-set_other lanes k c it Ready apart ∙ h.past c (omega arith);
    }

none_at : (k c : ℕ) (f : ℕ → Bool) → ((i : ℕ) → i < k → f i ≡ false) → f k ≡ false → c < k + 1 → (c ≡ k) ⊎ (c ≢ k) → f c ≡ false
none_at k c f none e below (inl same) = ap f same ∙ e
none_at k c f none e below (inr apart) = none c (omega arith)

-- one more lane of which it isn't so
pub none_more : (k : ℕ) (f : ℕ → Bool) → ((i : ℕ) → i < k → f i ≡ false) → f k ≡ false → (c : ℕ) → c < k + 1 → f c ≡ false
none_more k f none e c below = none_at k c f none e below (cases_eq c k)

-- a lane's answer, where the geometry is the bus's own
pub lane_read : (width : ℕ) (g : Geometry) (old new : BusState) (u k : ℕ) (word : List ℕ) → IsOwn width g old → k < lanes_of old → Reads (lane old k) u (lane_of (wide (lane old k)) word k) (lane new k)
    → Reads (lane old k) u (lane_of (unit_len g.device) word k) (lane new k)
lane_read width g old new u k word own below h =
    subst (λ (d : ℕ). Reads (lane old k) u (lane_of d word k) (lane new k)) (device_of width g.device old k own.bank below) h

-- nothing is told of any lane but that it is ready
pub all_ready : (k : ℕ) → seen_at (Ready ∷ Ready ∷ Ready ∷ Ready ∷ []) k ≡ Ready
all_ready zero = refl
all_ready (suc zero) = refl
all_ready (suc (suc zero)) = refl
all_ready (suc (suc (suc zero))) = refl
all_ready (suc (suc (suc (suc k)))) = refl
