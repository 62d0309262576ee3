-- Faults and want of memory, and the last text.
use Rattle.std.proofs.Common.{◌≡◌, ◌∙◌, ◌⊎◌, inl, inr, ℕ, List, refl, ap, subst, arith, Bool, Option, Result, Ok, Err}
use Rattle.nor_io.specs.Files.{ShelfState, SinkState, Rose}
use Rattle.nor_io.specs.Puts.{PutsText}
use Rattle.nor_io.specs.declared.sink.SinkError.{SinkError}
use Rattle.nor_io.specs.declared.sink.SinkError.TheVariants.{Fault, NoMemory as NoSinkMemory}
use Rattle.norbank.specs.Does.{FailsRead, RunsWhole, RunsPart, RunsScript, Answers, of_put}
use Rattle.norbank.specs.Done.{IsRun}
use Rattle.norbank.specs.Endings.{Says, Tells, status_of, text_of, done_of}
use Rattle.norbank.specs.Text.{no_memory}
use Rattle.norbank.specs.Words.{Asked, Read, Show, Script, Drill, Unknown}
use Rattle.norbank.specs.declared.stop.Done.{Done}
use Rattle.norbank.specs.declared.stop.Stop.{Stop}
use Rattle.norbank.specs.declared.stop.Stop.TheVariants.{WriteFault, NoMemory, Output}
use Rattle.norbank.proofs.Statuses.{apart, never_run}

-- ---- faults, and want of memory

-- the stop says that a count of faults has risen, or that memory ran out
abbrev pub Mishap : Stop → (was now : ShelfState) → (before after : SinkState) → Type 0
Mishap stop was now before after =
    ((status_of stop ≡ 7) × (Rose was.faults now.faults ⊎ Rose before.faults after.faults)) ⊎ (status_of stop ≡ 9)

pub read_mishap : (bank : Option (List ℕ)) (was now : ShelfState) (before after : SinkState) (stop : Stop) → FailsRead bank was now stop → Mishap stop was now before after
read_mishap bank was now before after stop (inl is, rose) = inl (ap status_of is, inl rose)
read_mishap bank was now before after stop (inr is, rose) = inl (ap status_of is.0, inl rose)

put_mishap : (put : Result (Unit {0}) SinkError) (text : List ℕ) (was now : ShelfState) (before after : SinkState) (stop : Stop) → PutsText text before after put → Err stop ≡ of_put put
    → Mishap stop was now before after
put_mishap (Ok u) text was now before after stop puts is = absurd (let x = is in cc)
put_mishap (Err Fault) text was now before after stop puts is = inl (let same : stop ≡ Output Fault = let x = is in cc in ap status_of same, inr puts.0)
put_mishap (Err NoSinkMemory) text was now before after stop puts is = inr (let same : stop ≡ Output NoSinkMemory = let x = is in cc in ap status_of same)

saved_mishap : (name saved : List ℕ) (result : Result Done Stop) (halted : Bool) (files : Type 0) (was now : ShelfState) (before after : SinkState) (stop : Stop) → Err stop ≡ result
    → (((result ≡ Ok (done_of halted)) × files) ⊎ ((now.files ≡ was.files) × (((result ≡ Err WriteFault) × Rose was.faults now.faults) ⊎ (result ≡ Err NoMemory))))
    → Mishap stop was now before after × (now.files ≡ was.files)
saved_mishap name saved result halted files was now before after stop is (inl done) = absurd (let x = is ∙ done.0 in cc)
saved_mishap name saved result halted files was now before after stop is (inr (kept, inl fault)) =
    let same : stop ≡ WriteFault = let x = is ∙ fault.0 in cc in
    (inl (ap status_of same, inl fault.1), kept)
saved_mishap name saved result halted files was now before after stop is (inr (kept, inr want)) =
    let same : stop ≡ NoMemory = let x = is ∙ want in cc in
    (inr (ap status_of same), kept)

part_mishap : (error : SinkError) (was now : ShelfState) (before after : SinkState) (stop : Stop) → stop ≡ Output error → (error ≡ Fault → Rose before.faults after.faults)
    → Mishap stop was now before after
part_mishap Fault was now before after stop is fault = inl (ap status_of is, inr (fault refl))
part_mishap NoSinkMemory was now before after stop is fault = inr (ap status_of is)

script_mishap : (race : Bool) (name file text : List ℕ) (was now : ShelfState) (before after : SinkState) (stop : Stop) → RunsScript race name file text was now before after (Err stop)
    → Mishap stop was now before after × (now.files ≡ was.files)
script_mishap race name file text was now before after stop runs = by runs.runs
  where
    by : RunsWhole race name file runs.lines was now before after (Err stop) ⊎ RunsPart race file runs.lines was now before after (Err stop)
        → Mishap stop was now before after × (now.files ≡ was.files)
    by (inl whole) = saved_mishap name whole.saved (Err stop) whole.ran.halted _ was now before after stop refl whole.saves
    by (inr part) = (part_mishap part.error was now before after stop (let x = part.is in cc) part.fault, part.kept)

pub works_mishap : (command : Asked) (file text : List ℕ) (was now : ShelfState) (before after : SinkState) (stop : Stop) → Answers command file text was now before after (Err stop)
    → Mishap stop was now before after × (now.files ≡ was.files)
works_mishap (Read name at len) file text was now before after stop answers = (put_mishap answers.put _ was now before after stop answers.puts answers.is, answers.kept)
works_mishap (Show name) file text was now before after stop answers =
    let prints = answers.2 in
    (put_mishap prints.put _ was now before after stop prints.puts prints.is, prints.kept)
works_mishap (Script race name script_name) file text was now before after stop answers = script_mishap race name file text was now before after stop answers
works_mishap (Drill n) file text was now before after stop answers =
    let prints = answers.2 in
    (put_mishap prints.put _ was now before after stop prints.puts prints.is, prints.kept)
works_mishap Unknown file text was now before after stop answers = absurd answers

-- ---- what the last text leaves

says_cases : (code : ℕ) (text : List ℕ) (before after : SinkState) (status : ℕ) → Says code text before after status
    → (status ≡ code) ⊎ (((status ≡ 7) × Rose before.faults after.faults) ⊎ (status ≡ 9))
says_cases code text before after status (inl whole) = inl whole.0
says_cases code text before after status (inr (inl fault)) = inr (inl (fault.0, fault.1))
says_cases code text before after status (inr (inr lacks)) = inr (inr lacks.0)

pub tells_cases : (command : Asked) (stop : Stop) (before after : SinkState) (status : ℕ) → Tells command (Err stop) before after status
    → (status ≡ status_of stop) ⊎ (((status ≡ 7) × Rose before.faults after.faults) ⊎ (status ≡ 9))
tells_cases command stop before after status (inl says) = says_cases (status_of stop) (text_of command stop) before after status says
tells_cases command stop before after status (inr lacks) = by (says_cases 9 no_memory before after status lacks.1)
  where
    by : (status ≡ 9) ⊎ (((status ≡ 7) × Rose before.faults after.faults) ⊎ (status ≡ 9)) → (status ≡ status_of stop) ⊎ (((status ≡ 7) × Rose before.faults after.faults) ⊎ (status ≡ 9))
    by (inl nine) = inr (inr nine)
    by (inr other) = inr other

pub tells_never_run : (command : Asked) (stop : Stop) (before after : SinkState) (status : ℕ) → Tells command (Err stop) before after status → IsRun status → ⊥
tells_never_run command stop before after status tells run = by (tells_cases command stop before after status tells)
  where
    at : (n : ℕ) → status ≡ n → IsRun n
    at n is = subst IsRun is run

    by : (status ≡ status_of stop) ⊎ (((status ≡ 7) × Rose before.faults after.faults) ⊎ (status ≡ 9)) → ⊥
    by (inl is) = never_run stop (at (status_of stop) is)
    by (inr (inl fault)) = apart 7 (omega arith) (λ x. omega arith) (at 7 fault.0)
    by (inr (inr nine)) = apart 9 (omega arith) (λ x. omega arith) (at 9 nine)
