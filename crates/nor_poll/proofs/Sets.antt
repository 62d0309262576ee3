-- What the command cycles of either set make of a chip.
use Rattle.std.proofs.Common.{◌≡◌, inl, inr, ◌+◌, ◌-◌, ◌*◌, ◌≤◌, ◌==◌, ℕ, List, length, slice_index, refl, sym, ap, subst, ◌∙◌, arith, Bool, true, false, if◌then◌else◌, min, []}
use Rattle.nor_cell.specs.Bits.{unit_bytes}
use Rattle.nor_cell.specs.Chip.{ChipState, ProgramNext, place}
use Rattle.nor_cell.specs.Amd.{goes_to}
use Rattle.nor_cell.specs.Steps.{written}
use Rattle.nor_cell.specs.declared.device.Set.{Set}
use Rattle.nor_cell.specs.declared.device.Set.TheVariants.{Intel, Amd}
use Rattle.nor_cell.specs.declared.geometry.Geometry.{Geometry}
use Rattle.nor_word.specs.Word.{lane_of}
use Rattle.nor_bus.specs.Bus.{BusState, lane, wide}
use Rattle.nor_poll.specs.Codes.{cycles_of, after_cycles, DarkensIn}
use Rattle.nor_bus.specs.Driven.{Darkens, EachPart}
use Rattle.nor_poll.specs.Polled.{Answers, polling_for, working_reads, viewed}
use Rattle.nor_poll.specs.Reads.{EachSent}
use Rattle.nor_poll.specs.Rest.{Resets, Settles, settled}
use Rattle.nor_cell.specs.Between.{AtRest, IsClear, reset}
use Rattle.nor_poll.specs.Losing.{LosesNone}
use Rattle.nor_poll.specs.Toggles.{ShowsToggle, ShowsDatum, IsProgramFault}
use Rattle.nor_poll.specs.Wait.{wait_most, wait_prompt}
use Rattle.nor_poll.specs.Word.{TakesProgram, BeginsWord, LosesWord, DarkensSending, programming, word_sent, word_begin, word_most, word_prompt, word_stuck, program_reads, working_at_each}
use Rattle.nor_poll.specs.Words.{word_reads}
use Rattle.nor_poll.specs.declared.polling.Polling.{Polling}
use Rattle.nor_poll.specs.declared.polling.Polling.TheVariants.{Toggle, Data}
use Rattle.nor_poll.specs.declared.codes.Command.TheVariants.{ProgramWord, ClearErrors, ShowArray, Reset}
use Rattle.nor_poll.proofs.Losing.{dark_idle}
use Rattle.nor_poll.proofs.Showing.{datum_toggles}
use Rattle.nor_poll.proofs.Leading.{IsTurned, at_step, Leads, Arrives, leads_to, leads_dark}
use Rattle.nor_poll.proofs.Codes1.{clears as clears_1, resets as resets_1, shows_array as shows_1, announces as announces_1, announced as announced_1, turned_announced as turned_1, takes_word as takes_1}
use Rattle.nor_poll.proofs.Codes2.{clears as clears_2, was_clear, announces as announces_2, takes_word as takes_2}

-- ---- what ends a command

clears : (set : Set) (u : ℕ) (s : ChipState) → AtRest set s → Leads u s (cycles_of set ClearErrors) s (settled set s)
clears Intel u s rest = clears_1 u s rest
clears Amd u s rest = clears_2 u s rest

shows : (set : Set) (u : ℕ) (s : ChipState) → AtRest set s → IsClear set s → Leads u s (cycles_of set ShowArray) s (settled set s)
shows Intel u s rest clear = shows_1 u s rest (clear.flags refl)
shows Amd u s rest clear = subst (λ (x : ChipState). Leads u s [] s x) (was_clear s clear) Arrives

pub settles : (set : Set) (u : ℕ) (s t : ChipState) → t ≡ after_cycles u (cycles_of set ClearErrors) s → Settles set s t
settles set u s t is rest = is ∙ leads_to u s (cycles_of set ClearErrors) s (settled set s) (clears set u s rest)

pub loses_settling : (set : Set) (u : ℕ) (s t : ChipState) → DarkensIn u (cycles_of set ClearErrors) s t → LosesNone (AtRest set) s t
loses_settling set u s t dark rest = leads_dark 0 [] u s (cycles_of set ClearErrors) s (settled set s) t rest.job (clears set u s rest) dark

resets_by : (set : Set) (u : ℕ) (s : ChipState) → AtRest set s → Leads u s (cycles_of set Reset) s (reset s)
resets_by Intel u s rest = resets_1 u s rest
resets_by Amd u s rest = clears_2 u s rest

pub resets : (set : Set) (u : ℕ) (s t : ChipState) → t ≡ after_cycles u (cycles_of set Reset) s → Resets set s t
resets set u s t is rest = is ∙ leads_to u s (cycles_of set Reset) s (reset s) (resets_by set u s rest)

pub loses_reset : (set : Set) (u : ℕ) (s t : ChipState) → DarkensIn u (cycles_of set Reset) s t → LosesNone (AtRest set) s t
loses_reset set u s t dark rest = leads_dark 0 [] u s (cycles_of set Reset) s (reset s) t rest.job (resets_by set u s rest) dark

-- the array is shown by one cycle, which is the first
loses_first : (set : Set) (u : ℕ) (s t : ChipState) → DarkensIn u (cycles_of set ShowArray) s t → Darkens s t
loses_first Intel u s t (inl dark) = dark
loses_first Intel u s t (inr later) = absurd later
loses_first Amd u s t dark = absurd dark

pub loses_showing : (set : Set) (u : ℕ) (s t : ChipState) → DarkensIn u (cycles_of set ShowArray) s t → LosesNone (AtRest set) s t
loses_showing set u s t dark rest = dark_idle 0 [] s s t s.mode s.step s.flags rest.job (λ h. h) refl (loses_first set u s t dark)

-- ---- a word

abbrev announced : Set → ChipState → ChipState
announced Intel s = announced_1 s
announced Amd s = goes_to ProgramNext s

announces : (set : Set) (u : ℕ) (s : ChipState) → TakesProgram set u s → Leads u s (cycles_of set ProgramWord) s (announced set s)
announces Intel u s takes = announces_1 u s takes
announces Amd u s takes = announces_2 u s takes

turned : (set : Set) (s : ChipState) → IsTurned s (announced set s)
turned Intel s = turned_1 s
turned Amd s = at_step s ProgramNext

takes_word : (set : Set) (word : List ℕ) (u c : ℕ) (s : ChipState) → TakesProgram set u s
    → written (announced set s) u (lane_of (wide (announced set s)) word c) ≡ programming set (place s.part u) (unit_bytes s.part.device (lane_of (wide s) word c)) (word_reads s) s
takes_word Intel word u c s takes = takes_1 u (lane_of (wide s) word c) s takes
takes_word Amd word u c s takes = takes_2 u (lane_of (wide s) word c) s takes

leads_word : (set : Set) (u : ℕ) (s : ChipState) → TakesProgram set u s → after_cycles u (cycles_of set ProgramWord) s ≡ announced set s
leads_word set u s takes = leads_to u s (cycles_of set ProgramWord) s (announced set s) (announces set u s takes)

pub begins_word : (set : Set) (u : ℕ) (word : List ℕ) (old new : BusState) → EachSent (word_sent set u word) old new → EachPart word (BeginsWord set u) old new
begins_word set u word old new sent = λ c below takes.
    let s = lane old c in
    sent c below ∙ (ap (λ (x : ChipState). written x u (lane_of (wide x) word c)) (leads_word set u s takes) ∙ takes_word set word u c s takes)

loses_announcing : (set : Set) (u v : ℕ) (s t : ChipState) → DarkensIn u (cycles_of set ProgramWord) s t → LosesWord set u v s t
loses_announcing set u v s t dark takes =
    leads_dark (place s.part u) (unit_bytes s.part.device v) u s (cycles_of set ProgramWord) s (announced set s) t takes.takes.rest.job (announces set u s takes) dark

loses_announced : (set : Set) (u v : ℕ) (s t : ChipState) → Darkens (after_cycles u (cycles_of set ProgramWord) s) t → LosesWord set u v s t
loses_announced set u v s t dark takes =
    let k = turned set s in
    dark_idle (place s.part u) (unit_bytes s.part.device v) s (after_cycles u (cycles_of set ProgramWord) s) t k.mode k.step k.flags takes.takes.rest.job k.no_error (leads_word set u s takes ∙ k.is) dark

-- power went up to the word
pub loses_sending : (set : Set) (u : ℕ) (word : List ℕ) (old new : BusState) → DarkensSending set u old new → EachPart word (LosesWord set u) old new
loses_sending set u word old new (inl dark) = λ c below. loses_announcing set u (lane_of (wide (lane old c)) word c) (lane old c) (lane new c) (dark c below)
loses_sending set u word old new (inr dark) = λ c below. loses_announced set u (lane_of (wide (lane old c)) word c) (lane old c) (lane new c) (dark c below)

-- ---- how it is polled

shows_datum : (u v : ℕ) (s : ChipState) → TakesProgram Amd u s → ShowsDatum u v (programming Amd (place s.part u) (unit_bytes s.part.device v) (word_reads s) s)
shows_datum u v s takes = record {
  set = takes.takes.rest.set;
  mode = refl;
  free = takes.outside refl;
  job = record {
    from = omega arith;
    end = refl;
    same = λ i below. let p = place s.part u in let e : p - p + i ≡ i = omega arith in ap (slice_index (unit_bytes s.part.device v)) e;
  };
  fault = subst (λ f. IsProgramFault (place s.part u) (unit_bytes s.part.device v) f) (sym takes.takes.fault) tt;
}

answers_amd : {W : Type 0} (bytes : W → List ℕ) (new : W) (one : Bool) (u c : ℕ) (s b : ChipState) → BeginsWord Amd u (lane_of (wide s) (bytes new) c) s b → TakesProgram Amd u s
    → Answers bytes (if one then Data new else Toggle) u c b
answers_amd bytes new false u c s b begins takes =
    let v = lane_of (wide s) (bytes new) c in subst (ShowsToggle u) (sym (begins takes)) (datum_toggles u v _ (shows_datum u v s takes))
answers_amd bytes new true u c s b begins takes =
    subst (λ (x : ChipState). ShowsDatum u (lane_of (wide x) (bytes new) c) x) (sym (begins takes)) (shows_datum u (lane_of (wide s) (bytes new) c) s takes)

-- a chip that programs answers its polls
answers_own : {W : Type 0} (set : Set) (g : Geometry) (bytes : W → List ℕ) (new : W) (u c : ℕ) (s b : ChipState) → BeginsWord set u (lane_of (wide s) (bytes new) c) s b → TakesProgram set u s
    → Answers bytes (polling_for set g new) u c b
answers_own Intel g bytes new u c s b begins takes = record { set = ap (λ (x : ChipState). x.part.set) (begins takes) ∙ takes.takes.rest.set; mode = ap (λ (x : ChipState). x.mode) (begins takes) }
answers_own Amd g bytes new u c s b begins takes = answers_amd bytes new (g.lanes == 1) u c s b begins takes

-- so it is with the polls that were chosen
pub answers_begun : {W : Type 0} (set : Set) (g : Geometry) (bytes : W → List ℕ) (new : W) (how : Polling W) (u c : ℕ) (s b : ChipState) → how ≡ polling_for set g new
    → BeginsWord set u (lane_of (wide s) (bytes new) c) s b → TakesProgram set u s → Answers bytes how u c b
answers_begun set g bytes new how u c s b is begins takes = subst (λ (p : Polling _). Answers bytes p u c b) (sym is) (answers_own set g bytes new u c s b begins takes)

-- such polls see all of the chip
views_amd : {W : Type 0} (new : W) (one : Bool) (t : ChipState) → viewed (if one then Data new else Toggle) t ≡ t
views_amd new true t = refl
views_amd new false t = refl

views_own : {W : Type 0} (set : Set) (g : Geometry) (new : W) (t : ChipState) → viewed (polling_for set g new) t ≡ t
views_own Intel g new t = refl
views_own Amd g new t = views_amd new (g.lanes == 1) t

pub views_all : {W : Type 0} (set : Set) (g : Geometry) (new : W) (how : Polling W) (t : ChipState) → how ≡ polling_for set g new → viewed how t ≡ t
views_all set g new how t is = ap (λ (p : Polling _). viewed p t) is ∙ views_own set g new t

-- ---- how many cycles there are

-- Those of a program: with so many polls, to the last of them, and where no lane works for long.
pub record WordFits (set : Set) (limit most stuck : ℕ) : Type 0 where
  pub begun : word_begin set + most + length (cycles_of set ClearErrors) ≤ word_most set limit
  pub shown : (bits : ℕ) → word_begin set + most + (length (cycles_of set ShowArray) + min bits 1) ≤ word_most set limit
  pub least : (bits : ℕ) → 5 ≤ word_begin set + 1 + (length (cycles_of set ShowArray) + min bits 1)
  pub stuck_at : word_begin set + stuck ≡ word_stuck set limit
  pub reads : most ≤ program_reads set limit
  pub works : stuck ≡ working_at_each set limit

fits_amd : {W : Type 0} (new : W) (one : Bool) (limit : ℕ) → WordFits Amd limit (wait_most (if one then Data new else Toggle) limit) (working_reads (if one then Data new else Toggle) * limit)
fits_amd new true limit = record { begun = omega arith; shown = λ bits. omega arith; least = λ bits. omega arith; stuck_at = omega arith; reads = omega arith; works = omega arith }
fits_amd new false limit = record { begun = omega arith; shown = λ bits. omega arith; least = λ bits. omega arith; stuck_at = omega arith; reads = omega arith; works = omega arith }

fits_own : {W : Type 0} (set : Set) (g : Geometry) (new : W) (limit : ℕ) → WordFits set limit (wait_most (polling_for set g new) limit) (working_reads (polling_for set g new) * limit)
fits_own Intel g new limit = record { begun = omega arith; shown = λ bits. omega arith; least = λ bits. omega arith; stuck_at = omega arith; reads = omega arith; works = omega arith }
fits_own Amd g new limit = fits_amd new (g.lanes == 1) limit

pub word_fits : {W : Type 0} (set : Set) (g : Geometry) (new : W) (how : Polling W) (limit : ℕ) → how ≡ polling_for set g new → WordFits set limit (wait_most how limit) (working_reads how * limit)
word_fits set g new how limit is = subst (λ (p : Polling _). WordFits set limit (wait_most p limit) (working_reads p * limit)) (sym is) (fits_own set g new limit)

-- where no lane works for long
prompt_amd : {W : Type 0} (new : W) (one : Bool) (most bits : ℕ)
    → word_begin Amd + wait_prompt (if one then Data new else Toggle) most + (length (cycles_of Amd ShowArray) + min bits 1) ≤ word_prompt Amd most + min bits 1
prompt_amd new true most bits = omega arith
prompt_amd new false most bits = omega arith

prompt_own : {W : Type 0} (set : Set) (g : Geometry) (new : W) (most bits : ℕ)
    → word_begin set + wait_prompt (polling_for set g new) most + (length (cycles_of set ShowArray) + min bits 1) ≤ word_prompt set most + min bits 1
prompt_own Intel g new most bits = omega arith
prompt_own Amd g new most bits = prompt_amd new (g.lanes == 1) most bits

pub prompt_fits : {W : Type 0} (set : Set) (g : Geometry) (new : W) (how : Polling W) (most bits : ℕ) → how ≡ polling_for set g new
    → word_begin set + wait_prompt how most + (length (cycles_of set ShowArray) + min bits 1) ≤ word_prompt set most + min bits 1
prompt_fits set g new how most bits is =
    subst (λ (p : Polling _). word_begin set + wait_prompt p most + (length (cycles_of set ShowArray) + min bits 1) ≤ word_prompt set most + min bits 1) (sym is)
    (prompt_own set g new most bits)
