-- A program of a buffer load, from its begin to its end, by the calls of either set.
use Rattle.std.proofs.Common.{inl, inr, ◌≡◌, ◌+◌, ◌-◌, ◌*◌, ◌<◌, ◌≤◌, ◌%◌, ◌^◌, ◌==◌, ℕ, zero, suc, refl, sym, subst, ap, ◌∙◌, arith, Bool, true, false, if◌then◌else◌, List, [], ◌∷◌, ◌++◌, length, get_or, slice_index, min}
use Rattle.std.proofs.lemmas.List.{get_or_append_left, get_or-append-add}
use Rattle.std.proofs.Math.Nat.{mod-eq_of_lt}
use Rattle.nor_cell.specs.Bits.{has_bit, unit_len, unit_bytes}
use Rattle.nor_cell.specs.Chip.{ChipState, Fault, place}
use Rattle.nor_cell.specs.Between.{AtRest}
use Rattle.nor_cell.specs.declared.device.Device.{Device}
use Rattle.nor_cell.specs.declared.device.Device.TheVariants.{X8, X16, X16Byte}
use Rattle.nor_cell.specs.declared.device.Set.{Set}
use Rattle.nor_cell.specs.declared.device.Set.TheVariants.{Intel, Amd}
use Rattle.nor_cell.specs.declared.geometry.Geometry.{Geometry}
use Rattle.nor_cell.proofs.Loading.{length-unit_bytes}
use Rattle.nor_word.specs.Word.{lane_of}
use Rattle.nor_bus.specs.Bus.{BusState, lane, lanes_of, units_of, wide}
use Rattle.nor_bus.specs.Cycles.{KeepsLanes}
use Rattle.nor_bus.specs.Driven.{Went, AllLanes}
use Rattle.nor_bus.proofs.Driving.{went_then, lost_then, own_kept, there_kept, lane_kept}
use Rattle.nor_poll.specs.Losing.{LosesNone}
use Rattle.nor_poll.specs.Polled.{Answers, working_reads, polling_for}
use Rattle.nor_poll.specs.Reads.{AfterReads, WorksAfter, DarkAfter, EachSent}
use Rattle.nor_poll.specs.Rest.{SettlesUnbroken}
use Rattle.nor_poll.specs.Toggles.{ShowsToggle, ShowsDatum, EndsWith, IsProgramFault, names_job}
use Rattle.nor_poll.proofs.Waiting.{IsEnded}
use Rattle.nor_poll.specs.Wait.{WorksFor, WaitHalts, wait_most, wait_prompt}
use Rattle.nor_poll.specs.Word.{is_broken, programming, program_reads, working_at_each}
use Rattle.nor_poll.proofs.Reading.{dark_sent, read_sent}
use Rattle.nor_poll.specs.Buffer.{EachLoad, ReachesAll, TakesLoad, BeginsLoad, ProgramsLoad, TellsLoadBroken, LosesLoad, TearsLoad, IsStuckByLoad, LoadEndsWithin, LoadHalts, load_of, load_reads, load_begin, load_most, load_prompt, load_stuck, load_sent, last_of}
use Rattle.nor_poll.specs.Codes.{cycles_of}
use Rattle.nor_poll.specs.declared.codes.Command.TheVariants.{ClearErrors, ShowArray}
use Rattle.nor_poll.specs.declared.lanes.Halt.{Halt}
use Rattle.nor_poll.specs.declared.lanes.Halt.TheVariants.{Off, Stuck}
use Rattle.nor_poll.specs.declared.polling.Polling.{Polling}
use Rattle.nor_poll.specs.declared.polling.Polling.TheVariants.{Toggle, Data}
use Rattle.nor_poll.specs.declared.watch.Seen.{Seen}
use Rattle.nor_poll.proofs.Begun.{Begun, tells as program_tells, program_done, loses_ended as program_loses, works_for as program_works_for, dark_begun, tears_begun, stuck_begun}
use Rattle.nor_poll.proofs.Wording.{enough_polls, went_by}

-- ---- one chip

begun : (kind : Set) (u n : ℕ) (bytes : List ℕ) (s b : ChipState) → TakesLoad kind u n s → BeginsLoad kind u n bytes s b → Begun kind (place s.part u) bytes (load_reads s) s b
begun kind u n bytes s b takes begins = record { takes = takes.takes; is = begins takes }

-- the bit of a lane tells whether it broke off
pub tells : (kind : Set) (u n a : ℕ) (bytes : List ℕ) (s b m : ChipState) (it : Seen) (bit : Bool) → BeginsLoad kind u n bytes s b → (TakesLoad kind u n s → IsEnded a b it m) → bit ≡ is_broken it
    → TellsLoadBroken kind u n bytes bit s
tells kind u n a bytes s b m it bit begins waits is takes =
    program_tells kind a (place s.part u) bytes (load_reads s) s b m it bit (begun kind u n bytes s b takes begins) (waits takes) is

-- the call is done
pub load_done : (kind : Set) (u n a : ℕ) (bytes : List ℕ) (bits k : ℕ) (s b m t : ChipState) (it : Seen) → BeginsLoad kind u n bytes s b → (TakesLoad kind u n s → IsEnded a b it m)
    → has_bit bits k ≡ is_broken it → SettlesUnbroken kind bits m t → ProgramsLoad kind u n bytes s t
load_done kind u n a bytes bits k s b m t it begins waits is settles takes =
    program_done kind a (place s.part u) bytes (load_reads s) bits k s b m t it (begun kind u n bytes s b takes begins) (waits takes) is settles

-- power went after the program had ended
pub loses_ended : (kind : Set) (u n a : ℕ) (bytes : List ℕ) (s b m t : ChipState) (it : Seen) → BeginsLoad kind u n bytes s b → (TakesLoad kind u n s → IsEnded a b it m)
    → LosesNone (AtRest kind) m t → LosesLoad kind u n bytes s t
loses_ended kind u n a bytes s b m t it begins waits loses takes =
    program_loses kind a (place s.part u) bytes (load_reads s) s b m t it (begun kind u n bytes s b takes begins) (waits takes) loses

works_for : (kind : Set) (u n most : ℕ) (bytes : List ℕ) (s b : ChipState) → LoadEndsWithin kind u n most s → BeginsLoad kind u n bytes s b → WorksFor most b
works_for kind u n most bytes s b ends begins =
    program_works_for kind (place s.part u) bytes (load_reads s) most s b (begun kind u n bytes s b ends.takes begins) ends.free ends.reads

pub all_work_for : (kind : Set) (u n most : ℕ) (words : List (List ℕ)) (old mid : BusState) → lanes_of mid ≡ lanes_of old → EachLoad words (BeginsLoad kind u n) old mid
    → AllLanes (LoadEndsWithin kind u n most) old → AllLanes (WorksFor most) mid
all_work_for kind u n most words old mid count begins ends = λ c there.
    let below = subst (λ (m : ℕ). c < m) count there in
    works_for kind u n most (load_of (lane old c).part.device c words) (lane old c) (lane mid c) (ends c below) (begins c below)

-- ---- how it is polled

load_length : (device : Device) (c : ℕ) (words : List (List ℕ)) → length (load_of device c words) ≡ unit_len device * length words
load_length X8 c [] = refl
load_length X16 c [] = refl
load_length X16Byte c [] = refl
load_length X8 c (word ∷ words) = let rest = load_length X8 c words in omega (arith, rest)
load_length X16 c (word ∷ words) = let rest = load_length X16 c words in omega (arith, rest)
load_length X16Byte c (word ∷ words) = let rest = load_length X16Byte c words in omega (arith, rest)

ends_last : (device : Device) (u n : ℕ) → 0 < n → (unit_len device * u ≤ unit_len device * last_of u n) × (unit_len device * last_of u n + unit_len device ≡ unit_len device * u + unit_len device * n)
ends_last X8 u n some = (omega arith, omega arith)
ends_last X16 u n some = (omega arith, omega arith)
ends_last X16Byte u n some = (omega arith, omega arith)

shows_last : (u n : ℕ) (bytes : List ℕ) (s : ChipState) → length bytes ≡ unit_len s.part.device * n → TakesLoad Amd u n s
    → ShowsToggle (last_of u n) (programming Amd (place s.part u) bytes (load_reads s) s)
shows_last u n bytes s long takes =
    let last = ends_last s.part.device u n takes.some in
    record {
      set = takes.takes.rest.set;
      fault = ap names_job takes.takes.fault;
      mode = λ none. refl;
      ends = (last.0, last.1 ∙ ap (λ (m : ℕ). unit_len s.part.device * u + m) (sym long), takes.outside refl);
    }

-- unit k of a load is lane c's part of word k
further : (device : Device) (k i : ℕ) → unit_len device * suc k + i ≡ unit_len device + (unit_len device * k + i)
further X8 k i = omega arith
further X16 k i = omega arith
further X16Byte k i = omega arith

at_first : (device : Device) (i : ℕ) → unit_len device * 0 + i ≡ i
at_first X8 i = omega arith
at_first X16 i = omega arith
at_first X16Byte i = omega arith

unit_of : (device : Device) (c : ℕ) (words : List (List ℕ)) (k i : ℕ) → k < length words → i < unit_len device
    → slice_index (load_of device c words) (unit_len device * k + i) ≡ slice_index (unit_bytes device (lane_of (unit_len device) (get_or words k []) c)) i
unit_of device c [] k i there below = absurd (omega arith)
unit_of device c (word ∷ words) zero i there below =
    let unit = unit_bytes device (lane_of (unit_len device) word c) in
    let long = length-unit_bytes device (lane_of (unit_len device) word c) in
    ap (slice_index (unit ++ load_of device c words)) (at_first device i) ∙ get_or_append_left unit (load_of device c words) 0 i (omega (arith, long, below))
unit_of device c (word ∷ words) (suc k) i there below =
    let unit = unit_bytes device (lane_of (unit_len device) word c) in
    let at = unit_len device * k + i in
    let long = length-unit_bytes device (lane_of (unit_len device) word c) in
    let e : unit_len device * suc k + i ≡ length unit + at = further device k i ∙ ap (λ (n : ℕ). n + at) (sym long) in
    ap (slice_index (unit ++ load_of device c words)) e ∙ (get_or-append-add unit (load_of device c words) at 0 ∙ unit_of device c words k i (omega (arith, there)) below)

gap : (device : Device) (u n : ℕ) → unit_len device * last_of u n - unit_len device * u ≡ unit_len device * (n - 1)
gap X8 u n = omega arith
gap X16 u n = omega arith
gap X16Byte u n = omega arith

-- a load ends with its last word
ends_with : (device : Device) (u n c : ℕ) (words : List (List ℕ)) → length words ≡ n → 0 < n
    → EndsWith (unit_len device * last_of u n) (unit_bytes device (lane_of (unit_len device) (get_or words (n - 1) []) c)) (unit_len device * u) (load_of device c words)
ends_with device u n c words count some =
    let last = ends_last device u n some in
    let end = last.1 in
    let long = length-unit_bytes device (lane_of (unit_len device) (get_or words (n - 1) []) c) in
    let all = load_length device c words ∙ ap (λ (m : ℕ). unit_len device * m) count in
    record {
      from = last.0;
      end = omega (arith, end, long, all);
      same = λ i below.
          ap (λ (m : ℕ). slice_index (load_of device c words) (m + i)) (gap device u n) ∙ unit_of device c words (n - 1) i (omega (arith, count, some)) (omega (arith, below, long));
    }

shows_datum : (u n c : ℕ) (words : List (List ℕ)) (word : List ℕ) (s : ChipState) → length words ≡ n → get_or words (n - 1) [] ≡ word → TakesLoad Amd u n s
    → ShowsDatum (last_of u n) (lane_of (wide s) word c) (programming Amd (place s.part u) (load_of s.part.device c words) (load_reads s) s)
shows_datum u n c words word s count is takes =
    let d = s.part.device in
    record {
      set = takes.takes.rest.set;
      mode = refl;
      free = takes.outside refl;
      job = subst (λ (w : List ℕ). EndsWith (place s.part (last_of u n)) (unit_bytes d (lane_of (unit_len d) w c)) (place s.part u) (load_of d c words)) is (ends_with d u n c words count takes.some);
      fault = subst (λ (f : Fault). IsProgramFault (place s.part (last_of u n)) (unit_bytes d (lane_of (unit_len d) word c)) f) (sym takes.takes.fault) tt;
    }

answers_amd : {W : Type 0} (bytes_of : W → List ℕ) (new : W) (one : Bool) (u n c : ℕ) (words : List (List ℕ)) (s b : ChipState) → length words ≡ n → get_or words (n - 1) [] ≡ bytes_of new
    → BeginsLoad Amd u n (load_of s.part.device c words) s b → TakesLoad Amd u n s → Answers bytes_of (if one then Data new else Toggle) (last_of u n) c b
answers_amd bytes_of new false u n c words s b count is begins takes =
    let long = load_length s.part.device c words ∙ ap (λ (m : ℕ). unit_len s.part.device * m) count in
    subst (ShowsToggle (last_of u n)) (sym (begins takes)) (shows_last u n (load_of s.part.device c words) s long takes)
answers_amd bytes_of new true u n c words s b count is begins takes =
    subst (λ (x : ChipState). ShowsDatum (last_of u n) (lane_of (wide x) (bytes_of new) c) x) (sym (begins takes)) (shows_datum u n c words (bytes_of new) s count is takes)

answers_own : {W : Type 0} (set : Set) (g : Geometry) (bytes_of : W → List ℕ) (new : W) (u n c : ℕ) (words : List (List ℕ)) (s b : ChipState) → length words ≡ n → get_or words (n - 1) [] ≡ bytes_of new
    → BeginsLoad set u n (load_of s.part.device c words) s b → TakesLoad set u n s → Answers bytes_of (polling_for set g new) (last_of u n) c b
answers_own Intel g bytes_of new u n c words s b count is begins takes =
    record { set = ap (λ (x : ChipState). x.part.set) (begins takes) ∙ takes.takes.rest.set; mode = ap (λ (x : ChipState). x.mode) (begins takes) }
answers_own Amd g bytes_of new u n c words s b count is begins takes = answers_amd bytes_of new (g.lanes == 1) u n c words s b count is begins takes

-- How a load of n words is polled.
pub record PollsLoad {W : Type 0} (set : Set) (g : Geometry) (bytes_of : W → List ℕ) (new : W) (how : Polling W) (n : ℕ) (words : List (List ℕ)) : Type 0 where
  pub how_is : how ≡ polling_for set g new
  pub count : length words ≡ n
  pub last : get_or words (n - 1) [] ≡ bytes_of new

-- a chip that programs a load answers them
pub answers_begun : {W : Type 0} (set : Set) (g : Geometry) (bytes_of : W → List ℕ) (new : W) (how : Polling W) (u n a c : ℕ) (words : List (List ℕ)) (s b : ChipState)
    → PollsLoad set g bytes_of new how n words → a ≡ last_of u n → BeginsLoad set u n (load_of s.part.device c words) s b → TakesLoad set u n s → Answers bytes_of how a c b
answers_begun {W = W} set g bytes_of new how u n a c words s b polls at begins takes =
    subst (λ (v : ℕ). Answers bytes_of how v c b) (sym at)
    (subst (λ (p : Polling W). Answers bytes_of p (last_of u n) c b) (sym polls.how_is) (answers_own set g bytes_of new u n c words s b polls.count polls.last begins takes))

-- the poll is of the last unit
pub polled : (width : ℕ) (g : Geometry) (u n a : ℕ) (old mid : BusState) → a ≡ (u + (n - 1)) % 2 ^ 32 → KeepsLanes old mid → units_of mid ≤ 134217728 → ReachesAll width g u n old
    → (a ≡ last_of u n) × (a < units_of mid)
polled width g u n a old mid is kept few reaches =
    let there = there_kept (last_of u n) old mid kept reaches.there in
    let small : u + (n - 1) < 2 ^ 32 = omega (arith, there, few) in
    let at : a ≡ last_of u n = is ∙ mod-eq_of_lt small in (at, subst (λ (v : ℕ). v < units_of mid) (sym at) there)

-- ---- how many cycles there are

-- with so many polls, to the last of them, and where no lane works for long
pub record LoadFits (set : Set) (n limit most stuck : ℕ) : Type 0 where
  pub begun : load_begin set n + most + length (cycles_of set ClearErrors) ≤ load_most set n limit
  pub shown : (bits : ℕ) → load_begin set n + most + (length (cycles_of set ShowArray) + min bits 1) ≤ load_most set n limit
  pub least : (bits : ℕ) → n + 6 ≤ load_begin set n + 1 + (length (cycles_of set ShowArray) + min bits 1)
  pub stuck_at : load_begin set n + stuck ≡ load_stuck set n limit
  pub reads : most ≤ program_reads set limit
  pub works : stuck ≡ working_at_each set limit

fits_amd : {W : Type 0} (new : W) (one : Bool) (n limit : ℕ) → LoadFits Amd n limit (wait_most (if one then Data new else Toggle) limit) (working_reads (if one then Data new else Toggle) * limit)
fits_amd new true n limit = record { begun = omega arith; shown = λ bits. omega arith; least = λ bits. omega arith; stuck_at = omega arith; reads = omega arith; works = omega arith }
fits_amd new false n limit = record { begun = omega arith; shown = λ bits. omega arith; least = λ bits. omega arith; stuck_at = omega arith; reads = omega arith; works = omega arith }

fits_own : {W : Type 0} (set : Set) (g : Geometry) (new : W) (n limit : ℕ) → LoadFits set n limit (wait_most (polling_for set g new) limit) (working_reads (polling_for set g new) * limit)
fits_own Intel g new n limit = record { begun = omega arith; shown = λ bits. omega arith; least = λ bits. omega arith; stuck_at = omega arith; reads = omega arith; works = omega arith }
fits_own Amd g new n limit = fits_amd new (g.lanes == 1) n limit

pub load_fits : {W : Type 0} (set : Set) (g : Geometry) (new : W) (how : Polling W) (n limit : ℕ) → how ≡ polling_for set g new → LoadFits set n limit (wait_most how limit) (working_reads how * limit)
load_fits {W = W} set g new how n limit is = subst (λ (p : Polling W). LoadFits set n limit (wait_most p limit) (working_reads p * limit)) (sym is) (fits_own set g new n limit)

prompt_amd : {W : Type 0} (new : W) (one : Bool) (n most bits : ℕ)
    → load_begin Amd n + wait_prompt (if one then Data new else Toggle) most + (length (cycles_of Amd ShowArray) + min bits 1) ≤ load_prompt Amd n most + min bits 1
prompt_amd new true n most bits = omega arith
prompt_amd new false n most bits = omega arith

prompt_own : {W : Type 0} (set : Set) (g : Geometry) (new : W) (n most bits : ℕ)
    → load_begin set n + wait_prompt (polling_for set g new) most + (length (cycles_of set ShowArray) + min bits 1) ≤ load_prompt set n most + min bits 1
prompt_own Intel g new n most bits = omega arith
prompt_own Amd g new n most bits = prompt_amd new (g.lanes == 1) n most bits

pub prompt_fits : {W : Type 0} (set : Set) (g : Geometry) (new : W) (how : Polling W) (n most bits : ℕ) → how ≡ polling_for set g new
    → load_begin set n + wait_prompt how most + (length (cycles_of set ShowArray) + min bits 1) ≤ load_prompt set n most + min bits 1
prompt_fits {W = W} set g new how n most bits is =
    subst (λ (p : Polling W). load_begin set n + wait_prompt p most + (length (cycles_of set ShowArray) + min bits 1) ≤ load_prompt set n most + min bits 1) (sym is) (prompt_own set g new n most bits)

-- ---- a wait that was given up

dark_load : (kind : Set) (u n reads : ℕ) (bytes : List ℕ) (s b t : ChipState) → BeginsLoad kind u n bytes s b → DarkAfter reads b t → LosesLoad kind u n bytes s t
dark_load kind u n reads bytes s b t begins dark takes = dark_begun kind (place s.part u) bytes (load_reads s) reads s b t (begun kind u n bytes s b takes begins) dark

tears_load : (kind : Set) (u n reads : ℕ) (bytes : List ℕ) (s b t : ChipState) → BeginsLoad kind u n bytes s b → AfterReads b reads t → TearsLoad kind u n bytes s t
tears_load kind u n reads bytes s b t begins after takes = tears_begun kind (place s.part u) bytes (load_reads s) reads s b t (begun kind u n bytes s b takes begins) after

stuck_load : (kind : Set) (u n polls limit : ℕ) (bytes : List ℕ) (s b : ChipState) → BeginsLoad kind u n bytes s b → limit ≤ polls + 1 → (TakesLoad kind u n s → 0 < limit → WorksAfter polls b)
    → IsStuckByLoad kind u n limit s
stuck_load kind u n polls limit bytes s b begins enough working takes few =
    stuck_begun kind (place s.part u) bytes (load_reads s) polls limit s b (begun kind u n bytes s b takes begins) enough (working takes (omega (arith, few))) few

pub load_halts : {W : Type 0} (bytes_of : W → List ℕ) (how : Polling W) (kind : Set) (width u a limit : ℕ) (g : Geometry) (words : List (List ℕ)) (old mid after : BusState) (halt : Halt)
    → load_begin kind (length words) + wait_most how limit ≤ load_most kind (length words) limit → load_begin kind (length words) + working_reads how * limit ≡ load_stuck kind (length words) limit
    → Went (load_begin kind (length words)) (load_begin kind (length words)) old mid
    → (ReachesAll width g u (length words) old → EachLoad words (BeginsLoad kind u (length words)) old mid)
    → (ReachesAll width g u (length words) old → (a ≡ last_of u (length words)) × (a < units_of mid))
    → (ReachesAll width g u (length words) old → (c : ℕ) → c < lanes_of old → TakesLoad kind u (length words) (lane old c) → Answers bytes_of how a c (lane mid c))
    → (ReachesAll width g u (length words) old → EachSent (load_sent kind u (length words) words) old mid) → wait_most how limit ≤ program_reads kind limit
    → working_reads how * limit ≡ working_at_each kind limit → WaitHalts width bytes_of g how a limit mid after halt → LoadHalts kind width g u words limit old after halt
load_halts bytes_of how kind width u a limit g words old mid after Off fits same went begins at answers sent most works h = (
  lost_then (load_begin kind (length words)) (wait_most how limit) (load_most kind (length words) limit) old mid after fits went h.lost,
  λ reaches k below.
      dark_load kind u (length words) h.lost.cycles (load_of (lane old k).part.device k words) (lane old k) (lane mid k) (lane after k) (begins reaches k below) (h.each k (lane_kept old mid k went.kept below)),
  λ reaches. inr (inl (dark_sent (load_sent kind u (length words) words) (load_begin kind (length words)) (wait_most how limit) (program_reads kind limit) old mid after most went (sent reaches) h)),
)
load_halts bytes_of how kind width u a limit g words old mid after (Stuck k) fits same went begins at answers sent most works h =
    let n = length words in
    let polls = working_reads how * limit in
    let reads = h.1 in (
      h.0,
      went_then (load_begin kind n) (load_begin kind n) polls polls (load_stuck kind n limit) (load_stuck kind n limit) old mid after (omega (arith, same)) (omega (arith, same)) went (went_by polls mid after reads),
      λ reaches c below.
          tears_load kind u n reads.reads (load_of (lane old c).part.device c words) (lane old c) (lane mid c) (lane after c) (begins reaches c below)
          (reads.each c (lane_kept old mid c went.kept below)),
      λ reaches.
          let below = subst (λ (m : ℕ). k < m) (sym reaches.own.count) h.0 in
          stuck_load kind u n (polls - working_reads how) limit (load_of (lane old k).part.device k words) (lane old k) (lane mid k) (begins reaches k below) (enough_polls how limit)
          (λ takes some. h.2 (own_kept width g old mid went.kept reaches.own) (at reaches).1 some (answers reaches k below takes)),
      λ reaches. read_sent (load_sent kind u n words) polls (working_at_each kind limit) old mid after works went.kept (sent reaches) reads,
    )
