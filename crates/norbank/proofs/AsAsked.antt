-- What the status of a command tells.
use Rattle.std.proofs.Common.{◌≡◌, ◌≢◌, ◌≤◌, ◌∙◌, ◌⊎◌, inl, inr, ℕ, List, refl, sym, ap, subst, arith, Bool, true, false, Option, Some, None, Result, Ok, Err}
use Rattle.nor_io.specs.Files.{ShelfState, SinkState, FileMap, Rose}
use Rattle.nor_io.proofs.Putting.{rose_later}
use Rattle.norbank.specs.AsAsked.{IsScript, IsDone, EndsAsAsked}
use Rattle.norbank.specs.Does.{IsFound, Names, FailsRead, IsWant, Works, Does, Answers, Ends, NamesFile, MayWant}
use Rattle.norbank.specs.Done.{RanImage, IsRun}
use Rattle.norbank.specs.Endings.{Says, Tells, TakesMemory, status_of, text_of, done_status}
use Rattle.norbank.specs.Stops.{stops_of, stop_of, bytes_in}
use Rattle.norbank.specs.Text.{usage}
use Rattle.norbank.specs.Words.{Asked, Read, Show, Script, Drill, Unknown, name_of, quietly}
use Rattle.norbank.specs.declared.stop.Done.{Done}
use Rattle.norbank.specs.declared.stop.Done.TheVariants.{All, Halted}
use Rattle.norbank.specs.declared.stop.File.TheVariants.{Bank, Script as ScriptFile}
use Rattle.norbank.specs.declared.stop.Stop.{Stop}
use Rattle.norbank.specs.declared.stop.Stop.TheVariants.{Usage}
use Rattle.norbank.proofs.Stopping.{none_first}
use Rattle.norbank.proofs.Statuses.{IsPlain, first_plain, all_plain, done_run, not_either}
use Rattle.norbank.proofs.Mishaps.{Mishap, read_mishap, works_mishap, tells_cases, tells_never_run}
use Rattle.norbank.proofs.WasDone.{printed_by, shown_by, drilled_by, ran_by, halt_caused, halts}
use Rattle.norbank.proofs.Parts.{part_by}

-- ---- all was done

record DoneSo (command : Asked) (was now : ShelfState) (before after : SinkState) (status : ℕ) : Type 0 where
  done : Done
  works : Works command was now before after (Ok done)
  code : status ≡ done_status done

done_so : (command : Asked) (was now : ShelfState) (before mid after : SinkState) (status : ℕ) (result : Result Done Stop) → Does command was now before mid result → Tells command result mid after status
    → IsRun status → DoneSo command was now before after status
done_so command was now before mid after status (Ok done) (inl stops) tells run = absurd stops
done_so command was now before mid after status (Ok done) (inr works) tells run = record {
  done = done;
  works = subst (λ (s : SinkState). Works command was now before s (Ok done)) (sym tells.1) works;
  code = tells.0;
}
done_so command was now before mid after status (Err stop) does tells run = absurd (tells_never_run command stop mid after status tells run)

-- the same of a command that is this one
done_as : (command other : Asked) (was now : ShelfState) (before after : SinkState) (status : ℕ) → command ≡ other → Ends command was now before after status → IsRun status
    → DoneSo other was now before after status
done_as command other was now before after status is ends run =
    subst (λ (c : Asked). DoneSo c was now before after status) is
    (done_so command was now before ends.mid after status ends.result ends.does ends.tells run)

-- ---- words that name no file

by_words : (command : Asked) (was now : ShelfState) (before mid after : SinkState) (status : ℕ) (result : Result Done Stop) (wanted : Stop)
    → ((bank script : Option (List ℕ)) → stop_of command bank script ≡ Some wanted) → (NamesFile command → ⊥) → (MayWant command → ⊥) → (TakesMemory wanted → ⊥)
    → Does command was now before mid result → Tells command result mid after status
    → Says (status_of wanted) (text_of command wanted) before after status
by_words command was now before mid after status (Ok done) wanted first none full small (inl stops) tells = absurd stops
by_words command was now before mid after status (Ok done) wanted first none full small (inr works) tells =
    absurd (let x = sym (first works.names.bank works.names.script) ∙ works.free in cc)
by_words command was now before mid after status (Err stop) wanted first none full small (inr works) tells =
    absurd (let x = sym (first works.names.bank works.names.script) ∙ works.free in cc)
by_words command was now before mid after status (Err stop) wanted first none full small (inl stops) tells = by stops.cause
  where
    told : stop ≡ wanted → Tells command (Err stop) mid after status → Says (status_of wanted) (text_of command wanted) before after status
    told same (inl says) =
        subst (λ (s : SinkState). Says (status_of wanted) (text_of command wanted) s after status) stops.silent
        (subst (λ (t : Stop). Says (status_of t) (text_of command t) mid after status) same says)
    told same (inr lacks) = absurd (small (subst TakesMemory same lacks.0))

    by : (stop_of command stops.names.bank stops.names.script ≡ Some stop) ⊎ ((NamesFile command × FailsRead stops.names.bank was now stop) ⊎ (MayWant command × IsWant command stop))
        → Says (status_of wanted) (text_of command wanted) before after status
    by (inl is) = told (let x = sym is ∙ first stops.names.bank stops.names.script in cc) tells
    by (inr (inl fails)) = absurd (none fails.0)
    by (inr (inr want)) = absurd (full want.0)

-- ---- what can be done

told_stop : (command : Asked) (told : Option FileMap) (files : FileMap) (n m : List ℕ) (bank script : Option (List ℕ)) → told ≡ Some files → IsFound told n bank → IsFound told m script
    → stop_of command (files n) (files m) ≡ stop_of command bank script
told_stop command None files n m bank script is is_bank is_script = absurd (let x = is in cc)
told_stop command (Some f) files n m bank script is is_bank is_script =
    let same : files ≡ f = let x = is in cc in
    ap (λ (g : FileMap). stop_of command (g n) (g m)) same
    ∙ (ap (λ (b : Option (List ℕ)). stop_of command b (f m)) is_bank ∙ ap (λ (t : Option (List ℕ)). stop_of command bank t) is_script)

rose_more : (f g h : ℕ) → Rose f g → g ≤ h → Rose f h
rose_more f g h rose le = omega arith

mishap_done : (command : Asked) (was now : ShelfState) (before mid after : SinkState) (status : ℕ) (stop : Stop) → before.faults ≤ mid.faults → mid.faults ≤ after.faults
    → Mishap stop was now before mid → Tells command (Err stop) mid after status → IsDone command was now before after status
mishap_done command was now before mid after status stop first last mishap tells = by mishap (tells_cases command stop mid after status tells)
  where
    more : Rose was.faults now.faults ⊎ Rose before.faults mid.faults → Rose was.faults now.faults ⊎ Rose before.faults after.faults
    more (inl rose) = inl rose
    more (inr rose) = inr (rose_more before.faults mid.faults after.faults rose last)

    by : Mishap stop was now before mid → (status ≡ status_of stop) ⊎ (((status ≡ 7) × Rose mid.faults after.faults) ⊎ (status ≡ 9)) → IsDone command was now before after status
    by (inl fault) (inl is) = inr (inl (is ∙ fault.0, more fault.1))
    by (inr nine) (inl is) = inr (inr (is ∙ nine))
    by mishaps (inr (inl fault)) = inr (inl (fault.0, inr (rose_later before.faults mid.faults after.faults first fault.1)))
    by mishaps (inr (inr nine)) = inr (inr nine)

complete_by : (command : Asked) (was now : ShelfState) (before mid after : SinkState) (status : ℕ) (result : Result Done Stop) → before.faults ≤ mid.faults → mid.faults ≤ after.faults
    → ((names : Names command was.files) → stop_of command names.bank names.script ≡ None)
    → Does command was now before mid result → Tells command result mid after status → IsDone command was now before after status
complete_by command was now before mid after status (Ok done) first last free (inl stops) tells = absurd stops
complete_by command was now before mid after status (Ok All) first last free (inr works) tells = inl (inl tells.0)
complete_by command was now before mid after status (Ok Halted) first last free (inr works) tells =
    inl (inr (tells.0, halts command (bytes_in works.names.bank) (bytes_in works.names.script) was now before mid works.answers))
complete_by command was now before mid after status (Err stop) first last free (inr works) tells =
    mishap_done command was now before mid after status stop first last
    (works_mishap command (bytes_in works.names.bank) (bytes_in works.names.script) was now before mid stop works.answers).0 tells
complete_by command was now before mid after status (Err stop) first last free (inl stops) tells = by stops.cause
  where
    by : (stop_of command stops.names.bank stops.names.script ≡ Some stop) ⊎ ((NamesFile command × FailsRead stops.names.bank was now stop) ⊎ (MayWant command × IsWant command stop))
        → IsDone command was now before after status
    by (inl is) = absurd (let x = sym (free stops.names) ∙ is in cc)
    by (inr (inl (file, fails))) = mishap_done command was now before mid after status stop first last (read_mishap stops.names.bank was now before mid stop fails) tells
    by (inr (inr (takes, want))) = mishap_done command was now before mid after status stop first last (inr want.status) tells

-- ---- status 7

not_seven : (done : Done) (status : ℕ) → status ≡ done_status done → status ≡ 7 → ⊥
not_seven All status is seven = omega arith
not_seven Halted status is seven = omega arith

-- all was done, or a count rose, or the status is 9
fault_by : (command : Asked) (was now : ShelfState) (before mid after : SinkState) (status : ℕ) (result : Result Done Stop) → before.faults ≤ mid.faults → mid.faults ≤ after.faults
    → Does command was now before mid result → Tells command result mid after status → status ≡ 7 → Rose was.faults now.faults ⊎ Rose before.faults after.faults
fault_by command was now before mid after status (Ok done) first last does tells seven = absurd (not_seven done status tells.0 seven)
fault_by command was now before mid after status (Err stop) first last does tells seven = by does
  where
    done : IsDone command was now before after status → Rose was.faults now.faults ⊎ Rose before.faults after.faults
    done (inl (inl zero)) = absurd (omega arith)
    done (inl (inr six)) = absurd (let x = six.0 in omega arith)
    done (inr (inl fault)) = fault.1
    done (inr (inr nine)) = absurd (omega arith)

    of_mishap : Mishap stop was now before mid → Rose was.faults now.faults ⊎ Rose before.faults after.faults
    of_mishap mishap = done (mishap_done command was now before mid after status stop first last mishap tells)

    of_told : IsPlain (Some stop) → (status ≡ status_of stop) ⊎ (((status ≡ 7) × Rose mid.faults after.faults) ⊎ (status ≡ 9)) → Rose was.faults now.faults ⊎ Rose before.faults after.faults
    of_told plain (inl is) = absurd (plain stop refl (sym is ∙ seven))
    of_told plain (inr (inl fault)) = inr (rose_later before.faults mid.faults after.faults first fault.1)
    of_told plain (inr (inr nine)) = absurd (omega arith)

    by_cause : (bank script : Option (List ℕ)) → (stop_of command bank script ≡ Some stop) ⊎ ((NamesFile command × FailsRead bank was now stop) ⊎ (MayWant command × IsWant command stop))
        → Rose was.faults now.faults ⊎ Rose before.faults after.faults
    by_cause bank script (inl is) =
        of_told (subst IsPlain is (first_plain (stops_of command bank script) (all_plain command bank script))) (tells_cases command stop mid after status tells)
    by_cause bank script (inr (inl (file, fails))) = of_mishap (read_mishap bank was now before mid stop fails)
    by_cause bank script (inr (inr (takes, want))) = of_mishap (inr want.status)

    by : Does command was now before mid (Err stop) → Rose was.faults now.faults ⊎ Rose before.faults after.faults
    by (inl stops) = by_cause stops.names.bank stops.names.script stops.cause
    by (inr works) = of_mishap (works_mishap command (bytes_in works.names.bank) (bytes_in works.names.script) was now before mid stop works.answers).0

-- ---- the files

stopped_kept : (command : Asked) (was now : ShelfState) (before mid : SinkState) (stop : Stop) → Does command was now before mid (Err stop) → now.files ≡ was.files
stopped_kept command was now before mid stop (inl stops) = stops.kept
stopped_kept command was now before mid stop (inr works) =
    (works_mishap command (bytes_in works.names.bank) (bytes_in works.names.script) was now before mid stop works.answers).1

kept_by : (command : Asked) (was now : ShelfState) (before mid after : SinkState) (status : ℕ) (result : Result Done Stop) → Does command was now before mid result
    → Tells command result mid after status → status ≢ 0 → status ≢ 6 → now.files ≡ was.files
kept_by command was now before mid after status (Ok done) does tells zero six = absurd (not_either status zero six (done_run done status tells.0))
kept_by command was now before mid after status (Err stop) does tells zero six = stopped_kept command was now before mid stop does

answers_kept : (command : Asked) (file text : List ℕ) (was now : ShelfState) (before after : SinkState) (result : Result Done Stop) → (IsScript command → ⊥)
    → Answers command file text was now before after result → now.files ≡ was.files
answers_kept (Read name at len) file text was now before after result quiet answers = answers.kept
answers_kept (Show name) file text was now before after result quiet answers = let prints = answers.2 in prints.kept
answers_kept (Script race name script_name) file text was now before after result quiet answers = absurd (quiet tt)
answers_kept (Drill n) file text was now before after result quiet answers = let prints = answers.2 in prints.kept
answers_kept Unknown file text was now before after result quiet answers = absurd answers

same_by : (command : Asked) (was now : ShelfState) (before mid : SinkState) (result : Result Done Stop) → Does command was now before mid result → (IsScript command → ⊥) → now.files ≡ was.files
same_by command was now before mid (Ok done) (inl stops) quiet = absurd stops
same_by command was now before mid (Err stop) (inl stops) quiet = stops.kept
same_by command was now before mid result (inr works) quiet =
    answers_kept command (bytes_in works.names.bank) (bytes_in works.names.script) was now before mid result quiet works.answers

-- ---- the whole

usage_of : (was now : ShelfState) (before after : SinkState) (status : ℕ) → Ends Unknown was now before after status → Says 2 usage before after status
usage_of was now before after status ends =
    by_words Unknown was now before ends.mid after status ends.result Usage (λ bank script. refl) (λ x. x) (λ x. x) (λ x. x) ends.does ends.tells

-- a script was run
ran_as : (command : Asked) (race : Bool) (image name : List ℕ) (was now : ShelfState) (before after : SinkState) (status : ℕ) → command ≡ Script race image name
    → Ends command was now before after status → IsRun status → RanImage race image name was now before after status
ran_as command race image name was now before after status is ends run =
    let so = done_as command (Script race image name) was now before after status is ends run in
    let names = so.works.names in
    ran_by race image name was now before after status so.done names.bank names.script names.is_bank names.is_script so.works.free
    (none_first (stops_of (Script race image name) names.bank names.script) so.works.free) so.code so.works.answers

pub as_asked : (command : Asked) (was now : ShelfState) (before after : SinkState) (status : ℕ) → Ends command was now before after status → EndsAsAsked command was now before after status
as_asked command was now before after status ends = record {
  ends = ends;
  usage = λ is. usage_of was now before after status (subst (λ (c : Asked). Ends c was now before after status) is ends);
  printed = λ image at len is zero.
      let so = done_as command (Read image at len) was now before after status is ends (inl zero) in
      let names = so.works.names in
      printed_by image at len was now before after so.done names.bank names.script names.is_bank
      (none_first (stops_of (Read image at len) names.bank names.script) so.works.free) so.works.answers;
  shown = λ image is zero.
      let so = done_as command (Show image) was now before after status is ends (inl zero) in
      let names = so.works.names in
      shown_by image was now before after so.done names.bank names.script names.is_bank
      (none_first (stops_of (Show image) names.bank names.script) so.works.free) so.works.answers;
  drilled = λ n is zero.
      let so = done_as command (Drill n) was now before after status is ends (inl zero) in
      drilled_by n (bytes_in so.works.names.bank) (bytes_in so.works.names.script) was now before after so.done so.works.answers;
  ran = λ race image name is run. ran_as command race image name was now before after status is ends run;
  halted = λ race image name is six.
      halt_caused race image name was now before after status (ran_as command race image name was now before after status is ends (inr six)) six;
  part = λ zero six. part_by command was now before ends.mid after status ends.result zero six ends.does ends.tells;
  complete = λ files told free.
      complete_by command was now before ends.mid after status ends.result ends.first ends.last
      (λ names. sym (told_stop command was.files files (name_of command Bank) (name_of command ScriptFile) names.bank names.script told names.is_bank names.is_script) ∙ free)
      ends.does ends.tells;
  fault = λ seven. fault_by command was now before ends.mid after status ends.result ends.first ends.last ends.does ends.tells seven;
  kept = λ zero six. kept_by command was now before ends.mid after status ends.result ends.does ends.tells zero six;
  same = λ quiet. same_by command was now before ends.mid ends.result ends.does quiet;
}

-- ---- where nobody races

-- the words of a race are no form there, and the text of that names no file
usage_tells : (command : Asked) (was now : ShelfState) (before mid after : SinkState) (status : ℕ) (result : Result Done Stop) → Does Unknown was now before mid result
    → Tells command result mid after status → Tells Unknown result mid after status
usage_tells command was now before mid after status (Ok done) does tells = tells
usage_tells command was now before mid after status (Err stop) (inr works) tells = absurd works.answers
usage_tells command was now before mid after status (Err stop) (inl stops) tells = by stops.cause
  where
    as_usage : (other : Stop) → other ≡ Usage → Tells command (Err other) mid after status → Tells Unknown (Err other) mid after status
    as_usage other same told =
        subst (λ (t : Stop). Tells Unknown (Err t) mid after status) (sym same) (subst (λ (t : Stop). Tells command (Err t) mid after status) same told)

    by : (stop_of Unknown stops.names.bank stops.names.script ≡ Some stop) ⊎ ((NamesFile Unknown × FailsRead stops.names.bank was now stop) ⊎ (MayWant Unknown × IsWant Unknown stop))
        → Tells Unknown (Err stop) mid after status
    by (inl is) = as_usage stop (let x : Some Usage ≡ Some stop = is in cc) tells
    by (inr (inl fails)) = absurd fails.0
    by (inr (inr want)) = absurd want.0

quiet_tells : (command : Asked) (was now : ShelfState) (before mid after : SinkState) (status : ℕ) (result : Result Done Stop) → Does (quietly command) was now before mid result
    → Tells command result mid after status → Tells (quietly command) result mid after status
quiet_tells (Read name at len) was now before mid after status result does tells = tells
quiet_tells (Show name) was now before mid after status result does tells = tells
quiet_tells (Script true name script_name) was now before mid after status result does tells =
    usage_tells (Script true name script_name) was now before mid after status result does tells
quiet_tells (Script false name script_name) was now before mid after status result does tells = tells
quiet_tells (Drill n) was now before mid after status result does tells = tells
quiet_tells Unknown was now before mid after status result does tells = tells

pub quiet_ends : (asks command : Asked) (was now : ShelfState) (before mid after : SinkState) (status : ℕ) (result : Result Done Stop) → asks ≡ command
    → Does (quietly asks) was now before mid result → Tells asks result mid after status → before.faults ≤ mid.faults → mid.faults ≤ after.faults
    → EndsAsAsked (quietly command) was now before after status
quiet_ends asks command was now before mid after status result same does tells first last =
    subst (λ (a : Asked). EndsAsAsked (quietly a) was now before after status) same
    (as_asked (quietly asks) was now before after status (record {
      result = result;
      mid = mid;
      does = does;
      tells = quiet_tells asks was now before mid after status result does tells;
      first = first;
      last = last;
    }))

pub all_ends : (asks command : Asked) (was now : ShelfState) (before mid after : SinkState) (status : ℕ) (result : Result Done Stop) → asks ≡ command
    → Does asks was now before mid result → Tells asks result mid after status → before.faults ≤ mid.faults → mid.faults ≤ after.faults
    → EndsAsAsked command was now before after status
all_ends asks command was now before mid after status result same does tells first last =
    subst (λ (a : Asked). EndsAsAsked a was now before after status) same
    (as_asked asks was now before after status (record { result = result; mid = mid; does = does; tells = tells; first = first; last = last }))
