-- Polls of all lanes, one after another.
use Rattle.std.proofs.Common.{◌≡◌, ◌≢◌, ◌+◌, ◌-◌, ◌*◌, ◌<◌, ◌≤◌, ◌⊎◌, inl, inr, ℕ, zero, suc, refl, sym, ap, subst, ◌∙◌, arith, List, true}
use Rattle.std.proofs.lemmas.Bool.{cases_lt}
use Rattle.nor_cell.specs.Chip.{ChipState, Part, Idle}
use Rattle.nor_cell.specs.Bits.{unit_len}
use Rattle.nor_cell.specs.Wiring.{is_wiring}
use Rattle.nor_cell.specs.declared.device.Device.{Device}
use Rattle.nor_word.specs.Word.{lane_of}
use Rattle.nor_bus.specs.Bus.{BusState, lane, lanes_of, wide}
use Rattle.nor_bus.specs.Driven.{AllLanes}
use Rattle.nor_bus.proofs.Driving.{went_none, lane_kept}
use Rattle.nor_poll.specs.Told.{ToldAt, seen_idle}
use Rattle.nor_cell.specs.declared.device.Set.{Set}
use Rattle.nor_poll.specs.Toggles.{ShowsToggle, ShowsDatum}
use Rattle.nor_poll.specs.Reads.{AfterReads, NoReads, OneMore, WorksAfter, ReadBy, SomeLeft}
use Rattle.nor_poll.specs.Polled.{Answers, InTime, working_reads, most_reads, viewed}
use Rattle.nor_poll.specs.Wait.{AllAnswer, IsReady, WorksFor, wait_most, wait_prompt}
use Rattle.nor_poll.specs.declared.watch.Seen.{Seen}
use Rattle.nor_poll.specs.declared.watch.Seen.TheVariants.{Working, Ready}
use Rattle.nor_poll.specs.declared.polling.Polling.{Polling}
use Rattle.nor_poll.specs.declared.polling.Polling.TheVariants.{Status, EraseStatus, Toggle, Data}
use Rattle.nor_poll.proofs.Answering.{shows_next}
use Rattle.nor_poll.proofs.Showing.{datum_next}
use Rattle.nor_poll.proofs.Reading.{read_then, after_then, shows_after}

-- ---- a chip that answers polls goes on answering them

toggles_after : (u : ℕ) (s : ChipState) (n : ℕ) (t : ChipState) → AfterReads s n t → ShowsToggle u s → ShowsToggle u t
toggles_after u s n t NoReads h = h
toggles_after u s n t (OneMore {m = m} before look) h = shows_next u m t (toggles_after u s _ m before h) look

datum_after : (u v : ℕ) (s : ChipState) (n : ℕ) (t : ChipState) → AfterReads s n t → ShowsDatum u v s → ShowsDatum u v t
datum_after u v s n t NoReads h = h
datum_after u v s n t (OneMore {m = m} before look) h = datum_next u v m t (datum_after u v s _ m before h) look

pub part_after : (s : ChipState) (n : ℕ) (t : ChipState) → AfterReads s n t → t.part ≡ s.part
part_after s n t NoReads = refl
part_after s n t (OneMore {m = m} before look) = ap (λ (x : ChipState). x.part) look.rest ∙ part_after s _ m before

pub answers_after : {W : Type 0} (bytes : W → List ℕ) (how : Polling W) (u c : ℕ) (s : ChipState) (n : ℕ) (t : ChipState) → AfterReads s n t → Answers bytes how u c s → Answers bytes how u c t
answers_after bytes Status u c s n t reads h = shows_after s n t reads h
answers_after bytes EraseStatus u c s n t reads h = shows_after s n t reads h
answers_after bytes Toggle u c s n t reads h = toggles_after u s n t reads h
answers_after bytes (Data datum) u c s n t reads h =
    subst (λ (p : Part). ShowsDatum u (lane_of (unit_len p.device) (bytes datum) c) t) (sym (part_after s n t reads))
    (datum_after u (lane_of (wide s) (bytes datum) c) s n t reads h)

-- a poll sees of the chip what it is and what it runs
viewed_job : {W : Type 0} (how : Polling W) (t : ChipState) → (viewed how t).job ≡ t.job
viewed_job Status t = refl
viewed_job EraseStatus t = refl
viewed_job Toggle t = refl
viewed_job (Data datum) t = refl

pub viewed_set : {W : Type 0} (how : Polling W) (t : ChipState) → (viewed how t).part.set ≡ t.part.set
viewed_set Status t = refl
viewed_set EraseStatus t = refl
viewed_set Toggle t = refl
viewed_set (Data datum) t = refl

-- no job of the chip runs any more, and of it was told what stands there
abbrev pub IsEnded : ℕ → ChipState → Seen → ChipState → Type 0
IsEnded u s it t = IsReady {W = ℕ} Toggle u s it t

-- so it is after polls that see all of the chip
pub ended_by : {W : Type 0} (how : Polling W) (u : ℕ) (s t : ChipState) (it : Seen) → viewed how t ≡ t → IsReady how u s it t → IsEnded u s it t
ended_by how u s t it all ready = record {
  polls = ready.polls;
  reads = ready.reads;
  job = ready.job;
  told = ready.told ∙ ap (seen_idle t.part.set u) all;
}

-- ---- the polls so far

-- the last of k polls told lane j to work
pub record HasWorked {W : Type 0} (bytes : W → List ℕ) (how : Polling W) (u k j : ℕ) (old : BusState) : Type 0 where
  pub works : 0 < k → (j < lanes_of old) × (Answers bytes how u j (lane old j) → WorksAfter (working_reads how * k - working_reads how) (lane old j))

pub worked_none : {W : Type 0} (bytes : W → List ℕ) (how : Polling W) (u : ℕ) (old : BusState) → HasWorked bytes how u 0 0 old
worked_none bytes how u old = record { works = λ some. absurd (omega arith) }

-- what is told of each lane
abbrev pub ToldLanes : {W : Type 0} (bytes : W → List ℕ) → Polling W → ℕ → (ℕ → Seen) → BusState → BusState → Type 0
ToldLanes bytes how u f mid after = (c : ℕ) → c < lanes_of mid → Answers bytes how u c (lane mid c) → ToldAt u (lane mid c) (f c) (viewed how (lane after c))

reads_of : (r k : ℕ) → r * (k + 1) - r ≡ r * k
reads_of r k = omega arith

-- one poll more, that told lane j to work
pub worked_more : {W : Type 0} (bytes : W → List ℕ) (how : Polling W) (u k j : ℕ) (f : ℕ → Seen) (old mid after : BusState) → ReadBy (working_reads how * k) (working_reads how * k) old mid
    → ToldLanes bytes how u f mid after → j < lanes_of old → f j ≡ Working → HasWorked bytes how u (k + 1) j old
worked_more bytes how u k j f old mid after read told below working = record {
  works = λ some. (
    below,
    λ answers.
        let r = working_reads how in
        let e = read.enough in
        let l = read.few in
        let same : read.reads ≡ r * (k + 1) - r = let x = reads_of r k in omega (arith, x, e, l) in
        let there = lane_kept old mid j read.went.kept below in
        let left = (told j there (answers_after bytes how u j (lane old j) read.reads (lane mid j) (read.each j below) answers)).had working in
        subst (λ (n : ℕ). WorksAfter n (lane old j)) same (record { mid = lane mid j; reads = read.each j below; left = left }),
  );
}

-- the lanes below the lowest that it told to work run no job
pub lower_rest : {W : Type 0} (bytes : W → List ℕ) (how : Polling W) (u l m k : ℕ) (f : ℕ → Seen) (old mid after : BusState) → ReadBy l m old mid → ToldLanes bytes how u f mid after → k < lanes_of old
    → ((c : ℕ) → c < k → f c ≢ Working) → (c : ℕ) → c < k → Answers bytes how u c (lane old c) → (lane after c).job ≡ Idle
lower_rest bytes how u l m k f old mid after read told there none c lower answers =
    let below : c < lanes_of old = omega (arith, lower, there) in
    sym (viewed_job how (lane after c)) ∙ (told c (lane_kept old mid c read.went.kept below) (answers_after bytes how u c (lane old c) read.reads (lane mid c) (read.each c below) answers)).idle (none c lower)

-- no poll yet
pub no_polls : (r : ℕ) (old : BusState) → ReadBy (r * 0) (r * 0) old old
no_polls r old = record { reads = 0; enough = omega arith; few = omega arith; went = went_none old; each = λ c below. NoReads }

-- ---- the last poll

pub ends_waiting : {W : Type 0} (bytes : W → List ℕ) (how : Polling W) (u l m n q : ℕ) (f : ℕ → Seen) (old mid after : BusState) → ReadBy l m old mid → ReadBy n q mid after
    → ToldLanes bytes how u f mid after → lanes_of old ≤ 4 → ((c : ℕ) → c < 4 → f c ≢ Working)
    → (c : ℕ) → c < lanes_of old → Answers bytes how u c (lane old c) → IsReady how u (lane old c) (f c) (lane after c)
ends_waiting bytes how u l m n q f old mid after read last told few none c below answers =
    let there = lane_kept old mid c read.went.kept below in
    let it = told c there (answers_after bytes how u c (lane old c) read.reads (lane mid c) (read.each c below) answers) in
    let rests = none c (omega arith) in
    record {
      polls = read.reads + last.reads;
      reads = after_then (lane old c) read.reads (lane mid c) last.reads (lane after c) (read.each c below) (last.each c there);
      job = sym (viewed_job how (lane after c)) ∙ it.idle rests;
      told = it.is rests ∙ ap (λ (k : Set). seen_idle k u (viewed how (lane after c))) (viewed_set how (lane after c));
    }

-- all polls fit
pub polls_fit : {W : Type 0} (how : Polling W) (k limit : ℕ) → k < limit → working_reads how * k + most_reads how ≤ wait_most how limit
polls_fit Status k limit h = omega arith
polls_fit EraseStatus k limit h = omega arith
polls_fit Toggle k limit h = omega arith
polls_fit (Data datum) k limit h = omega arith

-- so few, where no lane works for long
prompt_by : {W : Type 0} (how : Polling W) (n most : ℕ) → n ≡ 0 ⊎ (n < most + working_reads how) → n + working_reads how ≤ wait_prompt how most
prompt_by Status n most (inl h) = omega arith
prompt_by Status n most (inr h) = omega arith
prompt_by EraseStatus n most (inl h) = omega arith
prompt_by EraseStatus n most (inr h) = omega arith
prompt_by Toggle n most (inl h) = omega arith
prompt_by Toggle n most (inr h) = omega arith
prompt_by (Data datum) n most (inl h) = omega arith
prompt_by (Data datum) n most (inr h) = omega arith

late_by : {W : Type 0} (how : Polling W) (n most : ℕ) → n < most → n + most_reads how ≤ wait_prompt how most
late_by Status n most h = omega arith
late_by EraseStatus n most h = omega arith
late_by Toggle n most h = omega arith
late_by (Data datum) n most h = omega arith

none_or_some : (n : ℕ) → (n ≡ 0) ⊎ (0 < n)
none_or_some zero = inl refl
none_or_some (suc n) = inr (omega arith)

before_last : {W : Type 0} (bytes : W → List ℕ) (how : Polling W) (u k j most : ℕ) (old : BusState) → HasWorked bytes how u k j old → AllAnswer bytes how u old → AllLanes (WorksFor most) old
    → (k ≡ 0) ⊎ (0 < k) → working_reads how * k ≡ 0 ⊎ (working_reads how * k < most + working_reads how)
before_last bytes how u k j most old h answers short (inl none) = inl (ap (λ (n : ℕ). working_reads how * n) none ∙ omega arith)
before_last bytes how u k j most old h answers short (inr some) =
    let w = h.works some in
    let few : working_reads how * k - working_reads how < most = short j w.0 (working_reads how * k - working_reads how) (w.1 (answers j w.0)) in
    inr (omega (arith, few))

some_left : (l m : ℕ) (old mid : BusState) → ReadBy l m old mid → SomeLeft mid → (most : ℕ) → AllLanes (WorksFor most) old → l < most
some_left l m old mid read left most short =
    let j = left.number in
    let below : j < lanes_of old = subst (λ (n : ℕ). j < n) read.went.kept.count left.there in
    let few = short j below read.reads (record { mid = lane mid j; reads = read.each j below; left = left.left }) in
    let e = read.enough in
    omega (arith, few, e)

prompt_last : {W : Type 0} (how : Polling W) (n most : ℕ) (old mid after : BusState) → ReadBy n n old mid → n ≡ 0 ⊎ (n < most + working_reads how) → InTime how mid after → AllLanes (WorksFor most) old
    → ReadBy 1 (wait_prompt how most) old after
prompt_last how n most old mid after read before (inl last) short =
    let fits = prompt_by how n most before in read_then n n 1 (working_reads how) 1 (wait_prompt how most) old mid after (omega arith) fits read last
prompt_last how n most old mid after read before (inr late) short =
    let few = some_left n n old mid read late.1 most short in
    read_then n n 1 (most_reads how) 1 (wait_prompt how most) old mid after (omega arith) (late_by how n most few) read late.0

pub prompt_wait : {W : Type 0} (bytes : W → List ℕ) (how : Polling W) (u k j most : ℕ) (old mid after : BusState) → ReadBy (working_reads how * k) (working_reads how * k) old mid
    → HasWorked bytes how u k j old → AllAnswer bytes how u old → AllLanes (WorksFor most) old → InTime how mid after → ReadBy 1 (wait_prompt how most) old after
prompt_wait bytes how u k j most old mid after read h answers short last =
    prompt_last how (working_reads how * k) most old mid after read (before_last bytes how u k j most old h answers short (none_or_some k)) last short

-- all lanes go on answering
pub all_after : {W : Type 0} (bytes : W → List ℕ) (how : Polling W) (u l m : ℕ) (old mid : BusState) → ReadBy l m old mid → AllAnswer bytes how u old → AllAnswer bytes how u mid
all_after bytes how u l m old mid read answers = λ c below.
    let there : c < lanes_of old = subst (λ (n : ℕ). c < n) read.went.kept.count below in
    answers_after bytes how u c (lane old c) read.reads (lane mid c) (read.each c there) (answers c there)

-- ---- lanes by their number

-- a wiring has a lane
pub some_wired : (width lanes : ℕ) (device : Device) → is_wiring width lanes device ≡ true → 0 < lanes
some_wired width lanes device is = grind (arith, is)

lane_if : (lanes k : ℕ) (f : ℕ → Seen) → ((c : ℕ) → lanes ≤ c → f c ≡ Ready) → f k ≡ Working → (k < lanes) ⊎ (lanes ≤ k) → k < lanes
lane_if lanes k f past working (inl below) = below
lane_if lanes k f past working (inr high) = let e : Ready ≡ Working = sym (past k high) ∙ working in absurd cc

-- a lane that is told to work is there
pub is_lane : (lanes k : ℕ) (f : ℕ → Seen) → ((c : ℕ) → lanes ≤ c → f c ≡ Ready) → f k ≡ Working → k < lanes
is_lane lanes k f past working = lane_if lanes k f past working (cases_lt k lanes)
