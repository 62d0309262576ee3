-- From what is done on a bank to what a command does.
use Rattle.std.proofs.Common.{◌≡◌, ◌≤◌, ◌^◌, ◌∙◌, ◌⊎◌, inl, inr, ℕ, List, [], ◌∷◌, length, refl, sym, ap, subst, Bool, Option, Some, None, Result, Err}
use Rattle.std.specs.Result.{IsErrAnd}
use Rattle.nor_cell.specs.Chip.{ChipState}
use Rattle.nor_bus.specs.Bus.{BusState}
use Rattle.nor_drill.specs.Drilled.{Summarizes, Drills}
use Rattle.nor_drill.specs.declared.drilled.DrillError.{DrillError}
use Rattle.nor_drill.specs.declared.drilled.DrillError.TheVariants.{NoMemory as NoDrillMemory, Put as PutSummary}
use Rattle.nor_image.specs.Image.{width_of, device_of}
use Rattle.nor_image.specs.Loaded.{bus_of, loaded_width}
use Rattle.nor_image.specs.declared.loaded.Loaded.{Loaded}
use Rattle.nor_io.specs.Files.{ShelfState, SinkState, FileMap, Rose, Saves}
use Rattle.nor_io.specs.declared.sink.SinkError.{SinkError}
use Rattle.nor_io.specs.declared.sink.SinkError.TheVariants.{Fault, NoMemory as NoSinkMemory}
use Rattle.nor_io.proofs.Putting.{rose_later}
use Rattle.nor_probe.specs.Probed.{refusal}
use Rattle.nor_run.specs.Running.{Untouched}
use Rattle.nor_run.specs.Scripts.{IsRunnable, EndsRun, ReportsImage, RunsImage, RunsPartly}
use Rattle.nor_run.specs.declared.error.RunError.{RunError}
use Rattle.nor_run.specs.declared.error.RunError.TheVariants.{Probe, NoMemory as NoRunMemory, Put}
use Rattle.nor_script.specs.Script.{script_of}
use Rattle.norbank.specs.Does.{IsFound, Names, FailsRead, IsWant, Stops, Does, RunsWhole, RunsPart, IsCaused, Saved, fresh_bus, of_put}
use Rattle.norbank.specs.Endings.{run_failure, drill_failure}
use Rattle.norbank.specs.Opened.{IsOpened, FailsOpen, ReadEnds, ReadsBank, ShowEnds, ShowsBank, IsJob, FailsJob, IsRunWhole, RunsJob, opening_stops}
use Rattle.norbank.specs.Stops.{file_stop, image_stop, text_stop, probe_stop, range_stop, first_some, stops_of, stop_of, chips_of_file, bytes_in}
use Rattle.norbank.specs.Words.{Asked, Read, Show, Script, Drill, name_of, quietly}
use Rattle.norbank.specs.declared.jobs.Job.{Job}
use Rattle.norbank.specs.declared.stop.Done.{Done}
use Rattle.norbank.specs.declared.stop.File.TheVariants.{Bank, Script as ScriptFile}
use Rattle.norbank.specs.declared.stop.Stop.{Stop}
use Rattle.norbank.specs.declared.stop.Stop.TheVariants.{Unfound, ReadFault, NoMemory, Output}
use Rattle.norbank.proofs.FileChips.{found_any, at_file, chips_are, fresh_as}
use Rattle.norbank.proofs.Opening.{no_memory_is, image_free}
use Rattle.norbank.proofs.Stopping.{stopped_by, StopsAt, AreFree, stops_at, first_at, first_none, none_first, sooner, behind_free, both_free, file_free, map_some, text_free, probe_free}

-- ---- a result that is this

does_as : (command : Asked) (was now : ShelfState) (before after : SinkState) (result : Result Done Stop) (stop : Stop) → result ≡ Err stop
    → Stops command was now before after stop → Does command was now before after result
does_as command was now before after result stop is stops =
    subst (λ (r : Result Done Stop). Does command was now before after r) (sym is) (inl stops)

-- the same of the error that was given
pub does_given : (command : Asked) (was now : ShelfState) (before after : SinkState) (result : Result Done Stop) (stop : Stop) → IsErrAnd result (λ s. s ≡ stop)
    → Stops command was now before after stop → Does command was now before after result
does_given command was now before after result stop gave stops = does_as command was now before after result stop (stopped_by result stop gave) stops

-- ---- words that name no file

pub refused : (asks command : Asked) (shelf : ShelfState) (out : SinkState) (stop : Stop) → asks ≡ command → ((bank script : Option (List ℕ)) → stop_of command bank script ≡ Some stop)
    → Does asks shelf shelf out out (Err stop)
refused asks command shelf out stop is first =
    let bank = found_any shelf.files (name_of command Bank) in
    let script = found_any shelf.files (name_of command ScriptFile) in
    subst (λ (a : Asked). Does a shelf shelf out out (Err stop)) (sym is) (inl (record {
      names = record { bank = bank.0; is_bank = bank.1; script = script.0; is_script = script.1 };
      cause = inl (first bank.0 script.0);
      kept = refl;
      silent = refl;
    }))

-- a command that is no race, where nobody races
pub does_quietly : (asks command : Asked) (was now : ShelfState) (before after : SinkState) (result : Result Done Stop) → asks ≡ command → quietly command ≡ command
    → Does (quietly asks) was now before after result → Does asks was now before after result
does_quietly asks command was now before after result is quiet does =
    subst (λ (a : Asked). Does a was now before after result) (ap quietly is ∙ (quiet ∙ sym is)) does

-- ---- a drill

drill_names : (n : ℕ) (shelf : ShelfState) → Names (Drill n) shelf.files
drill_names n shelf =
    let none = found_any shelf.files [] in
    record { bank = none.0; is_bank = none.1; script = none.0; is_script = none.1 }

pub drill_put : (n : ℕ) (shelf : ShelfState) (before after : SinkState) (result : Result Done Stop) (put : Result (Unit {0}) SinkError) → result ≡ of_put put
    → Summarizes n before after put → Does (Drill n) shelf shelf before after result
drill_put n shelf before after result put is sums = inr (record {
  names = drill_names n shelf;
  free = refl;
  answers = (sums.text, sums.summary, record { put = put; puts = sums.puts; is = is; kept = refl });
})

pub drill_fails : (n : ℕ) (shelf : ShelfState) (before after : SinkState) (result : Result Done Stop) (error : DrillError) → result ≡ Err (drill_failure error)
    → Drills n before after (Err error) → Does (Drill n) shelf shelf before after result
drill_fails n shelf before after result NoDrillMemory is drills = does_as (Drill n) shelf shelf before after result NoMemory is (record {
  names = drill_names n shelf;
  cause = inr (inr (tt, no_memory_is (Drill n) NoMemory refl));
  kept = refl;
  silent = drills;
})
drill_fails n shelf before after result (PutSummary error) is drills = drill_put n shelf before after result (Err error) is drills

-- ---- a bank that wasn't opened

pub unread : (name : List ℕ) (at len : ℕ) (was now : ShelfState) (out : SinkState) (stop : Stop) → now.files ≡ was.files → FailsOpen name was now stop
    → Stops (Read name at len) was now out out stop
unread name at len was now out stop kept fails = record {
  names = record { bank = fails.found; is_bank = fails.is_found; script = (found_any was.files []).0; is_script = (found_any was.files []).1 };
  cause = by (found_any was.files []).0 fails.cause;
  kept = kept;
  silent = refl;
}
  where
    by : (script : Option (List ℕ)) → (first_some (opening_stops fails.found) ≡ Some stop) ⊎ (((stop ≡ ReadFault Bank) × Rose was.faults now.faults) ⊎ ((command : Asked) → IsWant command stop))
        → (stop_of (Read name at len) fails.found script ≡ Some stop) ⊎ ((Unit {0} × FailsRead fails.found was now stop) ⊎ (Unit {0} × IsWant (Read name at len) stop))
    by script (inl first) = inl (stops_at (stops_of (Read name at len) fails.found script) stop
        (sooner (opening_stops fails.found) (probe_stop (width_of (bytes_in fails.found)) (chips_of_file (bytes_in fails.found)) ∷ range_stop (chips_of_file (bytes_in fails.found)) at len ∷ []) stop
        (first_at (opening_stops fails.found) stop first)))
    by script (inr (inl fault)) = inr (inl (tt, (inl fault.0, fault.1)))
    by script (inr (inr want)) = inr (inr (tt, want (Read name at len)))

pub unshown : (name : List ℕ) (was now : ShelfState) (out : SinkState) (stop : Stop) → now.files ≡ was.files → FailsOpen name was now stop
    → Stops (Show name) was now out out stop
unshown name was now out stop kept fails = record {
  names = record { bank = fails.found; is_bank = fails.is_found; script = (found_any was.files []).0; is_script = (found_any was.files []).1 };
  cause = by (found_any was.files []).0 fails.cause;
  kept = kept;
  silent = refl;
}
  where
    by : (script : Option (List ℕ)) → (first_some (opening_stops fails.found) ≡ Some stop) ⊎ (((stop ≡ ReadFault Bank) × Rose was.faults now.faults) ⊎ ((command : Asked) → IsWant command stop))
        → (stop_of (Show name) fails.found script ≡ Some stop) ⊎ ((Unit {0} × FailsRead fails.found was now stop) ⊎ (Unit {0} × IsWant (Show name) stop))
    by script (inl first) = inl (stops_at (stops_of (Show name) fails.found script) stop
        (sooner (opening_stops fails.found) (probe_stop (width_of (bytes_in fails.found)) (chips_of_file (bytes_in fails.found)) ∷ []) stop
        (first_at (opening_stops fails.found) stop first)))
    by script (inr (inl fault)) = inr (inl (tt, (inl fault.0, fault.1)))
    by script (inr (inr want)) = inr (inr (tt, want (Show name)))

-- ---- a bank that was opened

opening_free : (file : List ℕ) → length file ≤ 2 ^ 30 → image_stop file ≡ None → AreFree (opening_stops (Some file))
opening_free file few image = (file_free Bank file few, (image, tt))

-- what was found under a name, and nothing else
abbrev of_file : (told : Option FileMap) (command : Asked) (file : List ℕ) → IsFound told (name_of command Bank) (Some file) → (script : (found : Option (List ℕ)) × IsFound told (name_of command ScriptFile) found) → Names command told
of_file told command file is script = record { bank = Some file; is_bank = is; script = script.0; is_script = script.1 }

abbrev read_stops : List ℕ → ℕ → ℕ → List (Option Stop)
read_stops file at len = probe_stop (width_of file) (chips_of_file file) ∷ range_stop (chips_of_file file) at len ∷ []

abbrev show_stops : List ℕ → List (Option Stop)
show_stops file = probe_stop (width_of file) (chips_of_file file) ∷ []

reads_file : (name file : List ℕ) (at len : ℕ) (was now : ShelfState) (before after : SinkState) (result : Result Done Stop) → now.files ≡ was.files → AreFree (opening_stops (Some file))
    → IsFound was.files name (Some file) → (script : (found : Option (List ℕ)) × IsFound was.files [] found)
    → ReadEnds (width_of file) (device_of file) (chips_of_file file) at len before after result → Does (Read name at len) was now before after result
reads_file name file at len was now before after result kept free is script (inl stops) = does_as (Read name at len) was now before after result stops.stop stops.is (record {
  names = of_file was.files (Read name at len) file is script;
  cause = inl (stops_at (stops_of (Read name at len) (Some file) script.0) stops.stop
      (behind_free (opening_stops (Some file)) (read_stops file at len) stops.stop free (first_at (read_stops file at len) stops.stop stops.first)));
  kept = kept;
  silent = stops.silent;
})
reads_file name file at len was now before after result kept free is script (inr puts) = inr (record {
  names = of_file was.files (Read name at len) file is script;
  free = first_none (stops_of (Read name at len) (Some file) script.0) (both_free (opening_stops (Some file)) (read_stops file at len) free (none_first (read_stops file at len) puts.free));
  answers = record { put = puts.put; puts = puts.puts; is = puts.is; kept = kept };
})

-- bytes of it
pub reads : (name : List ℕ) (at len : ℕ) (was now : ShelfState) (before after : SinkState) (result : Result Done Stop) (loaded : Loaded)
    → now.files ≡ was.files → (opened : IsOpened was.files name loaded)
    → ReadsBank (loaded_width loaded) (device_of opened.file) (bus_of loaded).lanes at len before after result
    → Does (Read name at len) was now before after result
reads name at len was now before after result loaded kept opened so =
    let free = opening_free opened.file opened.is_file.few (image_free opened.file loaded opened.is_bank) in
    reads_file name opened.file at len was now before after result kept free opened.is_file.is_found (found_any was.files [])
    ((at_file (λ w cs. ReadsBank w (device_of opened.file) cs at len before after result) opened.file (loaded_width loaded) (bus_of loaded).lanes opened.is_bank.image so).is)

shows_file : (name file : List ℕ) (was now : ShelfState) (before after : SinkState) (result : Result Done Stop) → now.files ≡ was.files → AreFree (opening_stops (Some file))
    → IsFound was.files name (Some file) → (script : (found : Option (List ℕ)) × IsFound was.files [] found)
    → ShowEnds (width_of file) (chips_of_file file) before after result → Does (Show name) was now before after result
shows_file name file was now before after result kept free is script (inl stops) = does_as (Show name) was now before after result stops.stop stops.is (record {
  names = of_file was.files (Show name) file is script;
  cause = inl (stops_at (stops_of (Show name) (Some file) script.0) stops.stop
      (behind_free (opening_stops (Some file)) (show_stops file) stops.stop free (first_at (show_stops file) stops.stop stops.first)));
  kept = kept;
  silent = stops.silent;
})
shows_file name file was now before after result kept free is script (inr (inl lacks)) = does_as (Show name) was now before after result NoMemory lacks.0 (record {
  names = of_file was.files (Show name) file is script;
  cause = inr (inr (tt, no_memory_is (Show name) NoMemory refl));
  kept = kept;
  silent = lacks.1;
})
shows_file name file was now before after result kept free is script (inr (inr shown)) = inr (record {
  names = of_file was.files (Show name) file is script;
  free = first_none (stops_of (Show name) (Some file) script.0) (both_free (opening_stops (Some file)) (show_stops file) free (none_first (show_stops file) shown.2.free));
  answers = (shown.0, shown.1, record { put = shown.2.put; puts = shown.2.puts; is = shown.2.is; kept = kept });
})

-- what it is
pub shows : (name : List ℕ) (was now : ShelfState) (before after : SinkState) (result : Result Done Stop) (loaded : Loaded)
    → now.files ≡ was.files → (opened : IsOpened was.files name loaded)
    → ShowsBank (loaded_width loaded) (bus_of loaded).lanes before after result
    → Does (Show name) was now before after result
shows name was now before after result loaded kept opened so =
    let free = opening_free opened.file opened.is_file.few (image_free opened.file loaded opened.is_bank) in
    shows_file name opened.file was now before after result kept free opened.is_file.is_found (found_any was.files [])
    ((at_file (λ w cs. ShowsBank w cs before after result) opened.file (loaded_width loaded) (bus_of loaded).lanes opened.is_bank.image so).is)

-- ---- a script

pub no_job : (race : Bool) (name script_name : List ℕ) (was now : ShelfState) (out : SinkState) (stop : Stop) → now.files ≡ was.files → FailsJob race name script_name was now stop
    → Stops (Script race name script_name) was now out out stop
no_job race name script_name was now out stop kept fails = record { names = fails.names; cause = by fails.cause; kept = kept; silent = refl }
  where
    by : (stop_of (Script race name script_name) fails.names.bank fails.names.script ≡ Some stop) ⊎ (FailsRead fails.names.bank was now stop ⊎ IsWant (Script race name script_name) stop)
        → (stop_of (Script race name script_name) fails.names.bank fails.names.script ≡ Some stop) ⊎ ((Unit {0} × FailsRead fails.names.bank was now stop) ⊎ (Unit {0} × IsWant (Script race name script_name) stop))
    by (inl is) = inl is
    by (inr (inl fails)) = inr (inl (tt, fails))
    by (inr (inr want)) = inr (inr (tt, want))

module _ (race : Bool) (name script_name : List ℕ) (was : ShelfState) (job : Job) (is : IsJob race was.files name script_name job) where
  abbrev width : ℕ
  width = loaded_width job.loaded

  abbrev chips : List ChipState
  chips = (bus_of job.loaded).lanes

  abbrev names : Names (Script race name script_name) was.files
  names = record { bank = Some is.file; is_bank = is.is_file.is_found; script = Some is.text; is_script = is.is_text.is_found }

  abbrev front : List (Option Stop)
  front =
      file_stop Bank (Some is.file)
      ∷ file_stop ScriptFile (Some is.text)
      ∷ image_stop is.file
      ∷ text_stop (script_of race is.text)
      ∷ []

  -- up to the first cycle nothing stops it
  front_free : AreFree front
  front_free = (
    file_free Bank is.file is.is_file.few,
    (
      file_free ScriptFile is.text is.is_text.few,
      (
        image_free is.file job.loaded is.is_bank,
        (text_free (script_of race is.text) job.script is.is_script, tt),
      ),
    ),
  )

  abbrev back : List (Option Stop)
  back = probe_stop (width_of is.file) (chips_of_file is.file) ∷ []

  stops_behind : (now : ShelfState) (before after : SinkState) (stop : Stop) → now.files ≡ was.files → Untouched before after → StopsAt back stop
      → Stops (Script race name script_name) was now before after stop
  stops_behind now before after stop kept silent at = record {
    names = names;
    cause = inl (stops_at (stops_of (Script race name script_name) (Some is.file) (Some is.text)) stop (behind_free front back stop front_free at));
    kept = kept;
    silent = silent;
  }

  runs_on_file : IsRunnable width chips → IsRunnable (width_of is.file) (chips_of_file is.file)
  runs_on_file has = at_file (λ w cs. IsRunnable w cs) is.file width chips is.is_bank.image has

  free : IsRunnable width chips → stop_of (Script race name script_name) (Some is.file) (Some is.text) ≡ None
  free has =
      let there = runs_on_file has in
      first_none (stops_of (Script race name script_name) (Some is.file) (Some is.text))
      (both_free front back front_free (probe_free (width_of is.file) (chips_of_file is.file) there.found there.is_found, tt))

  same_bus : bus_of job.loaded ≡ fresh_bus (chips_of_file is.file)
  same_bus = fresh_as (bus_of job.loaded) (chips_of_file is.file) is.is_bank.fresh (chips_are is.file width chips is.is_bank.image)

  -- of the bus that was loaded, and of the file's
  on_file : (P : ℕ → BusState → Type 0) → P width (bus_of job.loaded) → P (width_of is.file) (fresh_bus (chips_of_file is.file))
  on_file P p = subst (λ (w : ℕ). P w (fresh_bus (chips_of_file is.file))) (sym is.is_bank.image.bus) (subst (λ (b : BusState). P width b) same_bus p)

  works : (now : ShelfState) (before after : SinkState) (result : Result Done Stop) → IsRunnable width chips
      → RunsWhole race name is.file job.script was now before after result ⊎ RunsPart race is.file job.script was now before after result
      → Does (Script race name script_name) was now before after result
  works now before after result has runs = inr (record {
    names = names;
    free = free has;
    answers = record { lines = job.script; is_script = is.is_script; runnable = runs_on_file has; runs = runs };
  })

  -- all was run, and the bank was to be saved
  was_run : (between now : ShelfState) (before after : SinkState) (result : Result Done Stop) → between.files ≡ was.files → was.faults ≤ between.faults
      → IsRunWhole race width job.script (bus_of job.loaded) name between now before after result → Does (Script race name script_name) was now before after result
  was_run between now before after result same later whole =
      works now before after result whole.ends (inl (record {
        ran = whole.ran;
        saved = whole.saved;
        runs = on_file (λ w b. RunsImage race w job.script b before after whole.ran whole.saved) whole.reports;
        caused = on_file (λ w b. IsCaused job.script b whole.ran) whole.caused;
        saves = by whole.saves;
      }))
    where
      by : Saved name whole.saved whole.ran between now result → Saved name whole.saved whole.ran was now result
      by (inl done) = inl (done.0, subst (λ (files : Option FileMap). Saves files name whole.saved now.files) same done.1)
      by (inr (kept, inl fault)) = inr (kept ∙ same, inl (fault.0, rose_later was.faults between.faults now.faults later fault.1))
      by (inr (kept, inr want)) = inr (kept ∙ same, inr want)

  part : (now : ShelfState) (before after : SinkState) (result : Result Done Stop) (error : SinkError) (saved : List ℕ) → now.files ≡ was.files → result ≡ Err (Output error)
      → IsRunnable width chips → (error ≡ Fault → Rose before.faults after.faults)
      → ReportsImage race width job.script (bus_of job.loaded) before after saved (Err (Put error))
      → Does (Script race name script_name) was now before after result
  part now before after result error saved kept output has fault reports =
      let runs = on_file (λ w b. (new : BusState) × RunsPartly race w job.script b new before after) reports in
      works now before after result has (inr (record {
        error = error;
        is = output;
        new = runs.0;
        runs = runs.1;
        fault = fault;
        kept = kept;
      }))

  -- it wasn't run, or its report not put whole
  was_stopped : (now : ShelfState) (before after : SinkState) (result : Result Done Stop) (error : RunError) (saved : List ℕ) → now.files ≡ was.files → result ≡ Err (run_failure error)
      → EndsRun race width chips before after (Err error)
      → ReportsImage race width job.script (bus_of job.loaded) before after saved (Err error)
      → Does (Script race name script_name) was now before after result
  was_stopped now before after result (Probe error) saved kept stopped ends reports =
      does_as (Script race name script_name) was now before after result (Unfound error) stopped
      (stops_behind now before after (Unfound error) kept ends.1
      (inl (map_some Unfound (refusal (width_of is.file) (chips_of_file is.file)) error (at_file (λ w cs. refusal w cs ≡ Some error) is.file width chips is.is_bank.image ends.0.refused))))
  was_stopped now before after result NoRunMemory saved kept stopped ends reports =
      does_as (Script race name script_name) was now before after result NoMemory stopped (record {
        names = names;
        cause = inr (inr (tt, no_memory_is (Script race name script_name) NoMemory refl));
        kept = kept;
        silent = ends.2;
      })
  was_stopped now before after result (Put Fault) saved kept stopped ends reports =
      part now before after result Fault saved kept stopped ends.0 (λ _. ends.1) reports
  was_stopped now before after result (Put NoSinkMemory) saved kept stopped ends reports =
      part now before after result NoSinkMemory saved kept stopped ends (λ x. absurd (let y = x in cc)) reports

  pub job_does : (between now : ShelfState) (before after : SinkState) (result : Result Done Stop) → between.files ≡ was.files → was.faults ≤ between.faults
      → RunsJob race width job.script (bus_of job.loaded) name between now before after result → Does (Script race name script_name) was now before after result
  job_does between now before after result same later (inl whole) = was_run between now before after result same later whole
  job_does between now before after result same later (inr short) =
      was_stopped now before after result short.error short.saved (short.kept ∙ same) short.is short.ends short.reports
