-- What was put of a command that wasn't done.
use Rattle.std.proofs.Common.{◌≡◌, ◌≢◌, ◌⊎◌, inl, inr, ℕ, List, length, Bool, true, false, Result, Ok, Err, refl, sym, subst, arith}
use Rattle.std.proofs.lemmas.List.{take_all}
use Rattle.nor_image.specs.Image.{width_of}
use Rattle.nor_io.specs.Files.{ShelfState, SinkState, AppendsPart}
use Rattle.nor_io.specs.Puts.{PutsText}
use Rattle.nor_io.specs.declared.sink.SinkError.{SinkError}
use Rattle.nor_io.proofs.Pieces.{AppendsPart-whole}
use Rattle.nor_run.specs.Running.{IsCount, counters_of}
use Rattle.nor_run.specs.Scripts.{IsRunOf}
use Rattle.nor_run.proofs.Taking.{part_put}
use Rattle.nor_script.specs.Report.{report_text}
use Rattle.nor_script.specs.declared.line.Line.{Line}
use Rattle.norbank.specs.Does.{Names, Does, Prints, RunsWhole, RunsPart, RunsScript, Answers, bus_in, of_put}
use Rattle.norbank.specs.Endings.{Tells}
use Rattle.norbank.specs.Parts.{Begins, PutsPart}
use Rattle.norbank.specs.Stops.{bytes_in}
use Rattle.norbank.specs.Words.{Asked, Read, Show, Script, Drill, Unknown}
use Rattle.norbank.specs.declared.stop.Done.{Done}
use Rattle.norbank.specs.declared.stop.Stop.{Stop}
use Rattle.norbank.specs.declared.stop.Stop.TheVariants.{NoMemory}
use Rattle.norbank.proofs.Statuses.{done_run, not_either}

-- ---- what the command puts

put_part : (text : List ℕ) (before after : SinkState) (put : Result (Unit {0}) SinkError) (stop : Stop) → PutsText text before after put → Err stop ≡ of_put put
    → AppendsPart before.taken text after.taken
put_part text before after (Ok done) stop puts is = absurd (let x = is in cc)
put_part text before after (Err error) stop puts is = part_put text before after error puts

prints_part : (text : List ℕ) (was now : ShelfState) (before after : SinkState) (stop : Stop) → Prints text was now before after (Err stop)
    → AppendsPart before.taken text after.taken
prints_part text was now before after stop prints = put_part text before after prints.put stop prints.puts prints.is

pub every_count : (race : Bool) (lines : List Line) → IsCount race lines (length lines)
every_count false lines = tt
every_count true lines = refl

-- the report was put whole
whole_begins : (race : Bool) (image name file text : List ℕ) (was now : ShelfState) (before after : SinkState) (stop : Stop) (runs : RunsScript race image file text was now before after (Err stop))
    → RunsWhole race image file runs.lines was now before after (Err stop) → Begins (Script race image name) file text before after
whole_begins race image name file text was now before after stop runs whole =
    let script = whole.runs.runs in
    let report = report_text script.history (counters_of whole.runs.new.lanes) in
    record {
      whole = report;
      is = record {
        lines = runs.lines;
        is_script = runs.is_script;
        count = length runs.lines;
        all = every_count race runs.lines;
        history = script.history;
        new = whole.runs.new;
        runs = subst (λ (ls : List Line). IsRunOf race (width_of file) ls (bus_in file) whole.runs.new script.history)
            (sym (take_all (length runs.lines) runs.lines (omega arith))) script.runs;
        due = inr (omega arith, refl);
      };
      part = AppendsPart-whole before.taken after.taken report script.text;
    }

-- or a first part of it
part_begins : (race : Bool) (image name file text : List ℕ) (was now : ShelfState) (before after : SinkState) (stop : Stop) (runs : RunsScript race image file text was now before after (Err stop))
    → RunsPart race file runs.lines was now before after (Err stop) → Begins (Script race image name) file text before after
part_begins race image name file text was now before after stop runs part = record {
  whole = part.runs.whole;
  is = record {
    lines = runs.lines;
    is_script = runs.is_script;
    count = part.runs.count;
    all = part.runs.all;
    history = part.runs.history;
    new = part.new;
    runs = part.runs.runs;
    due = part.runs.due;
  };
  part = part.runs.text;
}

begins : (command : Asked) (file text : List ℕ) (was now : ShelfState) (before after : SinkState) (stop : Stop) → Answers command file text was now before after (Err stop)
    → Begins command file text before after
begins (Read image at len) file text was now before after stop answers =
    record { whole = _; is = refl; part = prints_part _ was now before after stop answers }
begins (Show image) file text was now before after stop answers =
    record { whole = _; is = (answers.0, answers.1, refl); part = prints_part _ was now before after stop answers.2 }
begins (Script race image name) file text was now before after stop answers = by answers.runs
  where
    by : RunsWhole race image file answers.lines was now before after (Err stop) ⊎ RunsPart race file answers.lines was now before after (Err stop)
        → Begins (Script race image name) file text before after
    by (inl whole) = whole_begins race image name file text was now before after stop answers whole
    by (inr part) = part_begins race image name file text was now before after stop answers part
begins (Drill n) file text was now before after stop answers =
    record { whole = _; is = answers.1; part = prints_part _ was now before after stop answers.2 }
begins Unknown file text was now before after stop answers = absurd answers

-- ---- and why it wasn't done

with_last : (command : Asked) (was : ShelfState) (before mid after : SinkState) (status : ℕ) (stop : Stop) (names : Names command was.files)
    → ((mid ≡ before) ⊎ Begins command (bytes_in names.bank) (bytes_in names.script) before mid)
    → Tells command (Err stop) mid after status → PutsPart command was.files before after status
with_last command was before mid after status stop names begun (inl says) = record { names = names; mid = mid; begun = begun; stop = stop; ended = says }
with_last command was before mid after status stop names begun (inr lacks) =
    record { names = names; mid = mid; begun = begun; stop = NoMemory; ended = lacks.1 }

pub part_by : (command : Asked) (was now : ShelfState) (before mid after : SinkState) (status : ℕ) (result : Result Done Stop) → status ≢ 0 → status ≢ 6
    → Does command was now before mid result → Tells command result mid after status → PutsPart command was.files before after status
part_by command was now before mid after status (Ok done) zero six does tells = absurd (not_either status zero six (done_run done status tells.0))
part_by command was now before mid after status (Err stop) zero six (inl stops) tells =
    with_last command was before mid after status stop stops.names (inl stops.silent) tells
part_by command was now before mid after status (Err stop) zero six (inr works) tells =
    with_last command was before mid after status stop works.names
    (inr (begins command (bytes_in works.names.bank) (bytes_in works.names.script) was now before mid stop works.answers)) tells
