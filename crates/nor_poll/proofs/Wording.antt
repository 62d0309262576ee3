-- A program of one word, from its begin to its end, by the calls of either set.
use Rattle.std.proofs.Common.{◌≡◌, ◌+◌, ◌-◌, ◌*◌, ◌<◌, ◌≤◌, ◌⊎◌, inl, inr, ℕ, sym, subst, ap, ◌∙◌, arith, Bool, false, List}
use Rattle.std.proofs.lemmas.Bool.{cases_lt}
use Rattle.nor_cell.specs.Bits.{has_bit, unit_bytes}
use Rattle.nor_cell.specs.Chip.{ChipState, Status, place}
use Rattle.nor_cell.specs.Between.{AtRest}
use Rattle.nor_cell.specs.declared.device.Set.{Set}
use Rattle.nor_cell.specs.declared.geometry.Geometry.{Geometry}
use Rattle.nor_word.specs.Word.{lane_of}
use Rattle.nor_bus.specs.Bus.{BusState, lane, lanes_of, wide}
use Rattle.nor_bus.specs.Driven.{Reaches, Went, AllLanes, Counted, EachPart}
use Rattle.nor_bus.proofs.Driving.{went_then, lost_then, reaches_kept, lane_kept}
use Rattle.nor_poll.specs.Losing.{LosesNone}
use Rattle.nor_poll.specs.Polled.{Answers, working_reads}
use Rattle.nor_poll.specs.Reads.{AfterReads, WorksAfter, ReadBy, DarkAfter, EachSent}
use Rattle.nor_poll.specs.Rest.{SettlesUnbroken}
use Rattle.nor_poll.proofs.Waiting.{IsEnded}
use Rattle.nor_poll.specs.Wait.{WorksFor, WaitHalts, wait_most}
use Rattle.nor_poll.specs.Word.{TakesProgram, BeginsWord, ProgramsWord, LosesWord, TearsWord, TellsBroken, EndsWithin, IsStuckBy, WordHalts, is_broken, word_begin, word_most, word_stuck, word_sent, program_reads, working_at_each}
use Rattle.nor_poll.proofs.Reading.{dark_sent, read_sent}
use Rattle.nor_poll.specs.Words.{word_reads}
use Rattle.nor_poll.specs.declared.lanes.Halt.{Halt}
use Rattle.nor_poll.specs.declared.lanes.Halt.TheVariants.{Off, Stuck}
use Rattle.nor_poll.specs.declared.watch.Seen.{Seen}
use Rattle.nor_poll.specs.declared.watch.Seen.TheVariants.{Ready}
use Rattle.nor_poll.specs.declared.polling.Polling.{Polling}
use Rattle.nor_poll.specs.declared.polling.Polling.TheVariants.{Status, EraseStatus, Toggle, Data}
use Rattle.nor_bus.proofs.Counting.{counted_exactly, counted_then}
use Rattle.nor_poll.proofs.Begun.{Begun, tells as program_tells, program_done, loses_ended as program_loses, works_for as program_works_for, dark_begun, tears_begun, stuck_begun}

abbrev bytes_of : ℕ → ChipState → List ℕ
bytes_of v s = unit_bytes s.part.device v

begun : (kind : Set) (u v : ℕ) (s b : ChipState) → TakesProgram kind u s → BeginsWord kind u v s b → Begun kind (place s.part u) (bytes_of v s) (word_reads s) s b
begun kind u v s b takes begins = record { takes = takes.takes; is = begins takes }

-- ---- a program that ends

-- the bit of a lane tells whether it broke off
pub tells : (kind : Set) (u v : ℕ) (s b m : ChipState) (it : Seen) (bit : Bool) → BeginsWord kind u v s b → (TakesProgram kind u s → IsEnded u b it m) → bit ≡ is_broken it → TellsBroken kind u bit v s
tells kind u v s b m it bit begins waits is takes =
    program_tells kind u (place s.part u) (bytes_of v s) (word_reads s) s b m it bit (begun kind u v s b takes begins) (waits takes) is

-- the call is done
pub word_done : (kind : Set) (u v bits k : ℕ) (s b m t : ChipState) (it : Seen) → BeginsWord kind u v s b → (TakesProgram kind u s → IsEnded u b it m) → has_bit bits k ≡ is_broken it
    → SettlesUnbroken kind bits m t → ProgramsWord kind u v s t
word_done kind u v bits k s b m t it begins waits is settles takes =
    program_done kind u (place s.part u) (bytes_of v s) (word_reads s) bits k s b m t it (begun kind u v s b takes begins) (waits takes) is settles

-- power went after the program had ended
pub loses_ended : (kind : Set) (u v : ℕ) (s b m t : ChipState) (it : Seen) → BeginsWord kind u v s b → (TakesProgram kind u s → IsEnded u b it m) → LosesNone (AtRest kind) m t → LosesWord kind u v s t
loses_ended kind u v s b m t it begins waits loses takes =
    program_loses kind u (place s.part u) (bytes_of v s) (word_reads s) s b m t it (begun kind u v s b takes begins) (waits takes) loses

-- ---- power goes while a chip is at rest

past_by : (bits lanes k : ℕ) (f : ℕ → Seen) → ((c : ℕ) → c < 4 → has_bit bits c ≡ is_broken (f c)) → ((c : ℕ) → 4 ≤ c → has_bit bits c ≡ false)
    → ((c : ℕ) → lanes ≤ c → f c ≡ Ready) → lanes ≤ k → (k < 4) ⊎ (4 ≤ k) → has_bit bits k ≡ false
past_by bits lanes k f is high past le (inl low) = is k low ∙ ap is_broken (past k le)
past_by bits lanes k f is high past le (inr over) = high k over

pub past_lanes : (bits lanes k : ℕ) (f : ℕ → Seen) → ((c : ℕ) → c < 4 → has_bit bits c ≡ is_broken (f c)) → ((c : ℕ) → 4 ≤ c → has_bit bits c ≡ false)
    → ((c : ℕ) → lanes ≤ c → f c ≡ Ready) → lanes ≤ k → has_bit bits k ≡ false
past_lanes bits lanes k f is high past le = past_by bits lanes k f is high past le (cases_lt k 4)

-- a lane works no longer than a word takes
works_for : (kind : Set) (u v most : ℕ) (s b : ChipState) → EndsWithin kind u most s → BeginsWord kind u v s b → WorksFor most b
works_for kind u v most s b ends begins =
    program_works_for kind (place s.part u) (bytes_of v s) (word_reads s) most s b (begun kind u v s b ends.takes begins) ends.free ends.reads

pub all_work_for : (kind : Set) (u most : ℕ) (word : List ℕ) (old mid : BusState) → lanes_of mid ≡ lanes_of old → EachPart word (BeginsWord kind u) old mid → AllLanes (EndsWithin kind u most) old
    → AllLanes (WorksFor most) mid
all_work_for kind u most word old mid count begins ends = λ c there.
    let below = subst (λ (m : ℕ). c < m) count there in
    works_for kind u (lane_of (wide (lane old c)) word c) most (lane old c) (lane mid c) (ends c below) (begins c below)

-- ---- the cycles

-- those that begin, the polls, and those that end
pub counted_word : (first least polls most end low high : ℕ) (old mid last new : BusState) → low ≤ first + least + end → first + polls + end ≤ high → polls ≡ most → Went first first old mid
    → ReadBy least most mid last → Went end end last new → Counted low high old new
counted_word first least polls most end low high old mid last new ge le same begins waits ends =
    let fits : first + (most + end) ≤ high = omega (arith, le, same) in
    let middle : Counted least most mid last = record { cycles = waits.reads; enough = waits.enough; few = waits.few; went = waits.went } in
    counted_then first first (least + end) (most + end) low high old mid new (omega (arith, ge)) fits (counted_exactly first old mid begins)
    (counted_then least most end end (least + end) (most + end) mid last new (omega arith) (omega arith) middle (counted_exactly end last new ends))

-- ---- a wait that was given up

dark_word : (kind : Set) (u v n : ℕ) (s b t : ChipState) → BeginsWord kind u v s b → DarkAfter n b t → LosesWord kind u v s t
dark_word kind u v n s b t begins dark takes = dark_begun kind (place s.part u) (bytes_of v s) (word_reads s) n s b t (begun kind u v s b takes begins) dark

tears_word : (kind : Set) (u v n : ℕ) (s b t : ChipState) → BeginsWord kind u v s b → AfterReads b n t → TearsWord kind u v s t
tears_word kind u v n s b t begins reads takes = tears_begun kind (place s.part u) (bytes_of v s) (word_reads s) n s b t (begun kind u v s b takes begins) reads

pub enough_polls : {W : Type 0} (how : Polling W) (limit : ℕ) → limit ≤ working_reads how * limit - working_reads how + 1
enough_polls Status limit = omega arith
enough_polls EraseStatus limit = omega arith
enough_polls Toggle limit = omega arith
enough_polls (Data datum) limit = omega arith

stuck_word : (kind : Set) (u v n limit : ℕ) (s b : ChipState) → BeginsWord kind u v s b → limit ≤ n + 1 → (TakesProgram kind u s → 0 < limit → WorksAfter n b) → IsStuckBy kind u limit s
stuck_word kind u v n limit s b begins enough working takes few =
    stuck_begun kind (place s.part u) (bytes_of v s) (word_reads s) n limit s b (begun kind u v s b takes begins) enough (working takes (omega (arith, few))) few

pub went_by : (n : ℕ) (a b : BusState) → ReadBy n n a b → Went n n a b
went_by n a b h = let e : h.reads ≡ n = let p = h.enough in let q = h.few in omega (arith, p, q) in subst (λ (k : ℕ). Went k k a b) e h.went

pub word_halts : {W : Type 0} (bytes : W → List ℕ) (how : Polling W) (kind : Set) (width u limit : ℕ) (g : Geometry) (word : List ℕ) (old mid after : BusState) (halt : Halt)
    → word_begin kind + wait_most how limit ≤ word_most kind limit → word_begin kind + working_reads how * limit ≡ word_stuck kind limit → Went (word_begin kind) (word_begin kind) old mid
    → (Reaches width g u old → EachPart word (BeginsWord kind u) old mid)
    → (Reaches width g u old → (c : ℕ) → c < lanes_of old → TakesProgram kind u (lane old c) → Answers bytes how u c (lane mid c))
    → (Reaches width g u old → EachSent (word_sent kind u word) old mid) → wait_most how limit ≤ program_reads kind limit → working_reads how * limit ≡ working_at_each kind limit
    → WaitHalts width bytes g how u limit mid after halt → WordHalts kind width g u word limit old after halt
word_halts bytes how kind width u limit g word old mid after Off fits same went begins answers sent most works h = (
  lost_then (word_begin kind) (wait_most how limit) (word_most kind limit) old mid after fits went h.lost,
  λ reaches k below.
      dark_word kind u (lane_of (wide (lane old k)) word k) h.lost.cycles (lane old k) (lane mid k) (lane after k) (begins reaches k below) (h.each k (lane_kept old mid k went.kept below)),
  λ reaches. inr (inl (dark_sent (word_sent kind u word) (word_begin kind) (wait_most how limit) (program_reads kind limit) old mid after most went (sent reaches) h)),
)
word_halts bytes how kind width u limit g word old mid after (Stuck n) fits same went begins answers sent most works h =
    let polls = working_reads how * limit in
    let reads = h.1 in (
      h.0,
      went_then (word_begin kind) (word_begin kind) polls polls (word_stuck kind limit) (word_stuck kind limit) old mid after (omega (arith, same)) (omega (arith, same)) went (went_by polls mid after reads),
      λ reaches k below.
          tears_word kind u (lane_of (wide (lane old k)) word k) reads.reads (lane old k) (lane mid k) (lane after k) (begins reaches k below)
          (reads.each k (lane_kept old mid k went.kept below)),
      λ reaches.
          let now = reaches_kept width g u old mid went.kept reaches in
          let below = subst (λ (m : ℕ). n < m) (sym reaches.own.count) h.0 in
          stuck_word kind u (lane_of (wide (lane old n)) word n) (polls - working_reads how) limit (lane old n) (lane mid n) (begins reaches n below) (enough_polls how limit)
          (λ takes some. h.2 now.own now.there some (answers reaches n below takes)),
      λ reaches. read_sent (word_sent kind u word) polls (working_at_each kind limit) old mid after works went.kept (sent reaches) reads,
    )
