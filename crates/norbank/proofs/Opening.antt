-- Files that were loaded, and what stops a command there.
use Rattle.std.proofs.Common.{◌≡◌, ◌≤◌, ◌∙◌, ◌⊎◌, inl, inr, ℕ, List, [], ◌∷◌, refl, sym, ap, subst, Bool, Option, Some, None, Result, Ok, Err, IfOk, IfErr}
use Rattle.nor_bus.specs.Driven.{AllLanes}
use Rattle.nor_image.specs.Image.{width_of, image_refusal, IsCause}
use Rattle.nor_image.specs.Loaded.{bus_of}
use Rattle.nor_image.specs.declared.error.ImageError.{ImageError}
use Rattle.nor_image.specs.declared.loaded.Loaded.{Loaded}
use Rattle.nor_io.specs.Files.{ShelfState, FileMap, Rose, IsAbsent, IsTooLarge}
use Rattle.nor_io.specs.declared.shelf.LoadError.{LoadError}
use Rattle.nor_io.specs.declared.shelf.LoadError.TheVariants.{Absent as NoFile, ReadFault as LoadFault, TooLarge as LargeFile, NoMemory as NoLoadMemory}
use Rattle.nor_io.proofs.Putting.{rose_later}
use Rattle.nor_script.specs.Script.{Reads, script_of}
use Rattle.nor_script.specs.declared.error.ScriptError.{ScriptError}
use Rattle.norbank.specs.Does.{IsFound, FailsRead, IsWant}
use Rattle.norbank.specs.Endings.{file_failure}
use Rattle.norbank.specs.Open.{IsIdleChip}
use Rattle.norbank.specs.Opened.{IsLoadedAs, IsBankOf, IsNoBank, IsOpened, FailsLoad, FailsOpen, FailsJob, opening_stops}
use Rattle.norbank.specs.Stops.{file_stop, image_stop, text_stop, probe_stop, first_some, stops_of, stop_of, chips_of_file}
use Rattle.norbank.specs.Words.{Asked, Script}
use Rattle.norbank.specs.declared.stop.File.{File}
use Rattle.norbank.specs.declared.stop.File.TheVariants.{Bank, Script as ScriptFile}
use Rattle.norbank.specs.declared.stop.Stop.{Stop}
use Rattle.norbank.specs.declared.stop.Stop.TheVariants.{BadImage, BadScript, Absent, TooLarge, ReadFault, NoMemory}
use Rattle.norbank.proofs.FileChips.{found_none, found_any, found_large}
use Rattle.norbank.proofs.Stopping.{StopsAt, stops_at, file_free, file_large, image_cause, script_cause, map_none}

-- ---- loading

fails_as : (which : File) (name : List ℕ) (was now : ShelfState) (stop other : Stop) → stop ≡ other → FailsLoad which name was now other → FailsLoad which name was now stop
fails_as which name was now stop other is fails = subst (λ (s : Stop). FailsLoad which name was now s) (sym is) fails

pub fails_load : (which : File) (error : LoadError) (stop : Stop) (name : List ℕ) (was now : ShelfState) → stop ≡ file_failure which error
    → (error ≡ NoFile → IsAbsent was.files name) → (error ≡ LargeFile → IsTooLarge was.files name) → (error ≡ LoadFault → Rose was.faults now.faults)
    → FailsLoad which name was now stop
fails_load which NoFile stop name was now is none large fault =
    fails_as which name was now stop (Absent which) is (record { found = None; is_found = found_none was.files name (none refl); cause = inl refl })
fails_load which LoadFault stop name was now is none large fault =
    let found = found_any was.files name in
    fails_as which name was now stop (ReadFault which) is (record { found = found.0; is_found = found.1; cause = inr (inl (refl, fault refl)) })
fails_load which LargeFile stop name was now is none large fault =
    let found = found_large was.files name (large refl) in
    fails_as which name was now stop (TooLarge which) is (record { found = Some found.file; is_found = found.is_found; cause = inl (file_large which found.file found.large) })
fails_load which NoLoadMemory stop name was now is none large fault =
    let found = found_any was.files name in
    fails_as which name was now stop NoMemory is (record { found = found.0; is_found = found.1; cause = inr (inr refl) })

-- ---- opening

pub want_of : (command : Asked) (stop other : Stop) → stop ≡ other → IsWant command other → IsWant command stop
want_of command stop other is want = subst (λ (s : Stop). IsWant command s) (sym is) want

pub no_memory_is : (command : Asked) (stop : Stop) → stop ≡ NoMemory → IsWant command stop
no_memory_is command stop is = want_of command stop NoMemory is (record { status = refl; text = refl })

-- the file wasn't loaded
pub unloaded_open : (name : List ℕ) (was now : ShelfState) (stop : Stop) → FailsLoad Bank name was now stop → FailsOpen name was now stop
unloaded_open name was now stop fails = record { found = fails.found; is_found = fails.is_found; cause = by fails.cause }
  where
    by : (file_stop Bank fails.found ≡ Some stop) ⊎ (((stop ≡ ReadFault Bank) × Rose was.faults now.faults) ⊎ (stop ≡ NoMemory))
        → (first_some (opening_stops fails.found) ≡ Some stop) ⊎ (((stop ≡ ReadFault Bank) × Rose was.faults now.faults) ⊎ ((command : Asked) → IsWant command stop))
    by (inl is) = inl (stops_at (opening_stops fails.found) stop (inl is))
    by (inr (inl fault)) = inr (inl fault)
    by (inr (inr want)) = inr (inr (λ command. no_memory_is command stop want))

pub no_bank_of : (file : List ℕ) (stop : Stop) (e : ImageError) → stop ≡ BadImage e → IsCause file e → IsNoBank file stop
no_bank_of file stop e is cause = by (image_cause file e cause)
  where
    by : (image_stop file ≡ Some (BadImage e)) ⊎ ((command : Asked) → IsWant command (BadImage e)) → IsNoBank file stop
    by (inl refused) = inl (refused ∙ ap (λ (s : Stop). Some s) (sym is))
    by (inr want) = inr (λ command. want_of command stop (BadImage e) is (want command))

-- no bank was made of it
pub refused_open : (name file : List ℕ) (was now : ShelfState) (stop : Stop) → IsLoadedAs was.files name file → IsNoBank file stop → FailsOpen name was now stop
refused_open name file was now stop loaded no_bank = record { found = Some file; is_found = loaded.is_found; cause = by no_bank }
  where
    by : IsNoBank file stop
        → (first_some (opening_stops (Some file)) ≡ Some stop) ⊎ (((stop ≡ ReadFault Bank) × Rose was.faults now.faults) ⊎ ((command : Asked) → IsWant command stop))
    by (inl refused) = inl (stops_at (opening_stops (Some file)) stop (inr (file_free Bank file loaded.few, inl refused)))
    by (inr want) = inr (inr want)

-- of the file that was loaded, what holds of the bank that is made of it
pub opened_by : (told : Option FileMap) (name file : List ℕ) (r : Result Loaded Stop) → IsLoadedAs told name file → IfOk r (IsBankOf file) → IfOk r (λ loaded. AllLanes IsIdleChip (bus_of loaded))
    → IfOk r (IsOpened told name)
opened_by told name file (Ok loaded) is bank idle = record { file = file; is_file = is; is_bank = bank; idle = idle }
opened_by told name file (Err stop) is bank idle = tt

pub unopened_by : (name file : List ℕ) (was now : ShelfState) (r : Result Loaded Stop) → IsLoadedAs was.files name file → IfErr r (IsNoBank file) → IfErr r (FailsOpen name was now)
unopened_by name file was now (Ok loaded) is none = tt
unopened_by name file was now (Err stop) is none = refused_open name file was now stop is none

-- ---- a bank that was opened

pub image_free : (file : List ℕ) (loaded : Loaded) → IsBankOf file loaded → image_stop file ≡ None
image_free file loaded is = map_none BadImage (image_refusal file) is.image.well_formed

-- the same files
pub loaded_as : (told other : Option FileMap) (name file : List ℕ) → told ≡ other → IsLoadedAs told name file → IsLoadedAs other name file
loaded_as told other name file same is = subst (λ (t : Option FileMap). IsLoadedAs t name file) same is

-- ---- the job of a script

module _ (race : Bool) (name script_name : List ℕ) where
  by_names : (was now : ShelfState) (stop : Stop) (bank script : Option (List ℕ)) → IsFound was.files name bank → IsFound was.files script_name script
      → (stop_of (Script race name script_name) bank script ≡ Some stop) ⊎ (FailsRead bank was now stop ⊎ IsWant (Script race name script_name) stop)
      → FailsJob race name script_name was now stop
  by_names was now stop bank script is_bank is_script cause = record {
    names = record { bank = bank; is_bank = is_bank; script = script; is_script = is_script };
    cause = cause;
  }

  -- what comes of the whole list
  at : (bank script : Option (List ℕ)) (stop : Stop) → StopsAt (stops_of (Script race name script_name) bank script) stop → stop_of (Script race name script_name) bank script ≡ Some stop
  at bank script stop so = stops_at (stops_of (Script race name script_name) bank script) stop so

  pub no_bank_file : (was now : ShelfState) (stop : Stop) → FailsLoad Bank name was now stop → FailsJob race name script_name was now stop
  no_bank_file was now stop fails =
      let text = found_any was.files script_name in
      by_names was now stop fails.found text.0 fails.is_found text.1 (by text.0 fails.cause)
    where
      by : (script : Option (List ℕ)) → (file_stop Bank fails.found ≡ Some stop) ⊎ (((stop ≡ ReadFault Bank) × Rose was.faults now.faults) ⊎ (stop ≡ NoMemory))
          → (stop_of (Script race name script_name) fails.found script ≡ Some stop) ⊎ (FailsRead fails.found was now stop ⊎ IsWant (Script race name script_name) stop)
      by script (inl is) = inl (at fails.found script stop (inl is))
      by script (inr (inl fault)) = inr (inl (inl fault.0, fault.1))
      by script (inr (inr want)) = inr (inr (no_memory_is (Script race name script_name) stop want))

  pub no_script_file : (file : List ℕ) (was between now : ShelfState) (stop : Stop) → IsLoadedAs was.files name file → between.files ≡ was.files → was.faults ≤ between.faults
      → FailsLoad ScriptFile script_name between now stop → FailsJob race name script_name was now stop
  no_script_file file was between now stop loaded same later fails =
      by_names was now stop (Some file) fails.found loaded.is_found (subst (λ (told : Option FileMap). IsFound told script_name fails.found) same fails.is_found) (by fails.cause)
    where
      by : (file_stop ScriptFile fails.found ≡ Some stop) ⊎ (((stop ≡ ReadFault ScriptFile) × Rose between.faults now.faults) ⊎ (stop ≡ NoMemory))
          → (stop_of (Script race name script_name) (Some file) fails.found ≡ Some stop) ⊎ (FailsRead (Some file) was now stop ⊎ IsWant (Script race name script_name) stop)
      by (inl is) = inl (at (Some file) fails.found stop (inr (file_free Bank file loaded.few, inl is)))
      by (inr (inl fault)) = inr (inl (inr (fault.0, file_free Bank file loaded.few), rose_later was.faults between.faults now.faults later fault.1))
      by (inr (inr want)) = inr (inr (no_memory_is (Script race name script_name) stop want))

  module _ (file text : List ℕ) (was now : ShelfState) (stop : Stop) (loaded : IsLoadedAs was.files name file) (there : IsLoadedAs was.files script_name text) where
    both : (stop_of (Script race name script_name) (Some file) (Some text) ≡ Some stop) ⊎ (FailsRead (Some file) was now stop ⊎ IsWant (Script race name script_name) stop)
        → FailsJob race name script_name was now stop
    both cause = by_names was now stop (Some file) (Some text) loaded.is_found there.is_found cause

    -- behind the files
    pub behind : StopsAt (image_stop file ∷ text_stop (script_of race text) ∷ probe_stop (width_of file) (chips_of_file file) ∷ []) stop
        → stop_of (Script race name script_name) (Some file) (Some text) ≡ Some stop
    behind so = at (Some file) (Some text) stop (inr (file_free Bank file loaded.few, inr (file_free ScriptFile text there.few, so)))

    pub no_bank : IsNoBank file stop → FailsJob race name script_name was now stop
    no_bank (inl refused) = both (inl (behind (inl refused)))
    no_bank (inr want) = both (inr (inr (want (Script race name script_name))))

    pub no_script : (e : ScriptError) → stop ≡ BadScript e → image_stop file ≡ None → Reads (script_of race text) (Err e)
        → FailsJob race name script_name was now stop
    no_script e is image reads = both (by (script_cause (script_of race text) e reads))
      where
        by : (text_stop (script_of race text) ≡ Some (BadScript e)) ⊎ ((c : Asked) → IsWant c (BadScript e))
            → (stop_of (Script race name script_name) (Some file) (Some text) ≡ Some stop) ⊎ (FailsRead (Some file) was now stop ⊎ IsWant (Script race name script_name) stop)
        by (inl bad) = inl (behind (inr (image, inl (bad ∙ ap (λ (s : Stop). Some s) (sym is)))))
        by (inr want) = inr (inr (want_of (Script race name script_name) stop (BadScript e) is (want (Script race name script_name))))
