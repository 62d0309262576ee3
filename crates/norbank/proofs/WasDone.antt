-- What a command that was done has printed and saved.
use Rattle.std.proofs.Common.{◌≡◌, ◌+◌, ◌∙◌, ◌⊎◌, inl, inr, ℕ, List, refl, ap, arith, Bool, true, false, nat_lt, Option, Some, None, Result, Ok, Err}
use Rattle.nor_bus.specs.Bus.{bank_size}
use Rattle.nor_drill.specs.Drilled.{Drills}
use Rattle.nor_image.specs.Image.{image_refusal, width_of}
use Rattle.nor_io.specs.Files.{ShelfState, SinkState, Appends}
use Rattle.nor_io.specs.Puts.{PutsText}
use Rattle.nor_io.specs.declared.sink.SinkError.{SinkError}
use Rattle.nor_probe.specs.Probed.{refusal}
use Rattle.norbank.specs.AsAsked.{IsScript}
use Rattle.norbank.specs.Does.{IsFound, Prints, RunsWhole, RunsPart, RunsScript, Saved, Answers, of_put}
use Rattle.norbank.specs.Done.{IsAccepted, PrintsImage, ShowsImage, RanImage, MayHaltImage}
use Rattle.norbank.specs.Endings.{done_status, done_of}
use Rattle.norbank.specs.Stops.{file_stop, image_stop, probe_stop, stops_of, stop_of, chips_of_file, bytes_in}
use Rattle.norbank.specs.Words.{Asked, Read, Show, Script, Drill, Unknown}
use Rattle.norbank.specs.declared.stop.Done.{Done}
use Rattle.norbank.specs.declared.stop.Done.TheVariants.{Halted}
use Rattle.norbank.specs.declared.stop.File.{File}
use Rattle.norbank.specs.declared.stop.File.TheVariants.{Bank, Script as ScriptFile}
use Rattle.norbank.specs.declared.stop.Stop.TheVariants.{BadImage, Unfound, OutOfRange}
use Rattle.norbank.proofs.Stopping.{AreFree, when_none, none_mapped}
use Rattle.nor_cell.proofs.Logic.{is_behind}

-- ---- what was done

put_whole : (put : Result (Unit {0}) SinkError) (text : List ℕ) (before after : SinkState) (done : Done) → PutsText text before after put → Ok done ≡ of_put put
    → Appends before.taken text after.taken
put_whole (Ok u) text before after done puts is = puts
put_whole (Err e) text before after done puts is = absurd (let x = is in cc)

prints_whole : (text : List ℕ) (was now : ShelfState) (before after : SinkState) (done : Done) → Prints text was now before after (Ok done) → Appends before.taken text after.taken
prints_whole text was now before after done prints = put_whole prints.put text before after done prints.puts prints.is

put_all : (put : Result (Unit {0}) SinkError) → Ok Halted ≡ of_put put → ⊥
put_all (Ok u) is = cc
put_all (Err e) is = cc

no_file : (which : File) → file_stop which None ≡ None → ⊥
no_file which is = cc

accepted_by : (file : List ℕ) → image_stop file ≡ None → probe_stop (width_of file) (chips_of_file file) ≡ None → IsAccepted file
accepted_by file image probe = record { formed = none_mapped BadImage (image_refusal file) image; accepted = none_mapped Unfound (refusal (width_of file) (chips_of_file file)) probe }

pub printed_by : (name : List ℕ) (at len : ℕ) (was now : ShelfState) (before after : SinkState) (done : Done) (bank script : Option (List ℕ)) → IsFound was.files name bank
    → AreFree (stops_of (Read name at len) bank script) → Answers (Read name at len) (bytes_in bank) (bytes_in script) was now before after (Ok done)
    → PrintsImage was.files name at len before after
printed_by name at len was now before after done None script is free answers = absurd (no_file Bank free.0)
printed_by name at len was now before after done (Some file) script is free answers = record {
  file = file;
  is_found = is;
  accepted = accepted_by file free.1.0 free.1.1.0;
  within = is_behind (bank_size (chips_of_file file)) (at + len) (when_none (nat_lt (bank_size (chips_of_file file)) (at + len)) OutOfRange free.1.1.1.0);
  text = prints_whole _ was now before after done answers;
}

pub shown_by : (name : List ℕ) (was now : ShelfState) (before after : SinkState) (done : Done) (bank script : Option (List ℕ)) → IsFound was.files name bank
    → AreFree (stops_of (Show name) bank script) → Answers (Show name) (bytes_in bank) (bytes_in script) was now before after (Ok done)
    → ShowsImage was.files name before after
shown_by name was now before after done None script is free answers = absurd (no_file Bank free.0)
shown_by name was now before after done (Some file) script is free answers = record {
  file = file;
  is_found = is;
  accepted = accepted_by file free.1.0 free.1.1.0;
  found = answers.0;
  is = answers.1;
  text = prints_whole _ was now before after done answers.2;
}

pub drilled_by : (n : ℕ) (file text : List ℕ) (was now : ShelfState) (before after : SinkState) (done : Done) → Answers (Drill n) file text was now before after (Ok done)
    → Drills n before after (Ok tt)
drilled_by n file text was now before after done answers =
    record { text = answers.0; summary = answers.1; puts = prints_whole _ was now before after done answers.2 }

pub ran_by : (race : Bool) (name script_name : List ℕ) (was now : ShelfState) (before after : SinkState) (status : ℕ) (done : Done) (bank script : Option (List ℕ)) → IsFound was.files name bank → IsFound was.files script_name script
    → stop_of (Script race name script_name) bank script ≡ None → AreFree (stops_of (Script race name script_name) bank script) → status ≡ done_status done
    → RunsScript race name (bytes_in bank) (bytes_in script) was now before after (Ok done)
    → RanImage race name script_name was now before after status
ran_by race name script_name was now before after status done None script is is_text none free code runs = absurd (no_file Bank free.0)
ran_by race name script_name was now before after status done (Some file) None is is_text none free code runs = absurd (no_file ScriptFile free.1.0)
ran_by race name script_name was now before after status done (Some file) (Some text) is is_text none free code runs = by runs.runs
  where
    saved_by : (whole : RunsWhole race name file runs.lines was now before after (Ok done)) → Saved name whole.saved whole.ran was now (Ok done)
        → RanImage race name script_name was now before after status
    saved_by whole (inl saves) = record {
      file = file;
      is_file = is;
      text = text;
      is_text = is_text;
      free = none;
      accepted = accepted_by file free.1.1.0 free.1.1.1.1.0;
      lines = runs.lines;
      is_script = runs.is_script;
      runnable = runs.runnable;
      ran = whole.ran;
      saved = whole.saved;
      code = code ∙ (let same : done ≡ done_of whole.ran.halted = let x = saves.0 in cc in ap done_status same);
      runs = whole.runs;
      caused = whole.caused;
      saves = saves.1;
    }
    saved_by whole (inr (kept, inl fault)) = absurd (let x = fault.0 in cc)
    saved_by whole (inr (kept, inr want)) = absurd (let x = want in cc)

    by : RunsWhole race name file runs.lines was now before after (Ok done) ⊎ RunsPart race file runs.lines was now before after (Ok done)
        → RanImage race name script_name was now before after status
    by (inl whole) = saved_by whole whole.saves
    by (inr part) = absurd (let x = part.is in cc)

-- a status of 6 tells that the bank halted
six_halted : (halted : Bool) (status : ℕ) → status ≡ done_status (done_of halted) → status ≡ 6 → halted ≡ true
six_halted true status is six = refl
six_halted false status is six = absurd (omega arith)

-- and then something may halt it
pub halt_caused : (race : Bool) (name script_name : List ℕ) (was now : ShelfState) (before after : SinkState) (status : ℕ) → RanImage race name script_name was now before after status → status ≡ 6
    → MayHaltImage race name script_name was.files
halt_caused race name script_name was now before after status ran six = record {
  file = ran.file;
  is_file = ran.is_file;
  text = ran.text;
  is_text = ran.is_text;
  lines = ran.lines;
  is_script = ran.is_script;
  cause = λ qry. ran.caused qry (six_halted ran.ran.halted status ran.code six);
}

-- only a script's bank halts
pub halts : (command : Asked) (file text : List ℕ) (was now : ShelfState) (before after : SinkState) → Answers command file text was now before after (Ok Halted) → IsScript command
halts (Read name at len) file text was now before after answers = absurd (put_all answers.put answers.is)
halts (Show name) file text was now before after answers = let prints = answers.2 in absurd (put_all prints.put prints.is)
halts (Script race name script_name) file text was now before after answers = tt
halts (Drill n) file text was now before after answers = let prints = answers.2 in absurd (put_all prints.put prints.is)
halts Unknown file text was now before after answers = answers
