-- From a bank that was started to the bank that was loaded.
use Rattle.std.proofs.Common.{Option, ◌≡◌, ◌≢◌, ◌<◌, ◌≤◌, ◌*◌, ◌∙◌, inl, inr, ℕ, List, [], ◌∷◌, length, take, map, Bool, true, false, Some, None, Result, Ok, Err, refl, sym, ap, subst, arith}
use Rattle.nor_io.specs.Files.{SinkState, Appends, AppendsPart}
use Rattle.nor_io.specs.declared.sink.SinkError.{SinkError}
use Rattle.nor_io.specs.declared.sink.SinkError.TheVariants.{Fault, NoMemory}
use Rattle.nor_io.proofs.Pieces.{Appends-append, AppendsPart-append}
use Rattle.nor_cell.specs.Chip.{ChipState}
use Rattle.nor_cell.specs.Ranges.{IsChip}
use Rattle.nor_cell.specs.declared.geometry.Geometry.{Geometry}
use Rattle.nor_bus.specs.Bus.{BusState, lane, chip_at, bank_byte, bank_bytes, bank_size}
use Rattle.nor_bus.specs.Cycles.{KeepsLanes}
use Rattle.nor_bus.specs.Driven.{AllLanes, EachLane, Lost, Counted}
use Rattle.nor_bus.proofs.Driving.{keeps_then, still_none, some_lane}
use Rattle.nor_cell.specs.Between.{IsIdle}
use Rattle.nor_lane.specs.Candidates.{wiring}
use Rattle.nor_probe.specs.Asking.{Resets}
use Rattle.nor_probe.specs.declared.error.ProbeError.{ProbeError}
use Rattle.nor_probe.specs.declared.error.ProbeError.TheVariants.{Off as LostPower}
use Rattle.nor_probe.specs.Probed.{refusal, IsFoundOn}
use Rattle.nor_probe.specs.declared.probing.Found.{Found}
use Rattle.nor_array.specs.declared.state.ArmedCut.{ArmedCut}
use Rattle.nor_history.specs.Histories.{words_read}
use Rattle.nor_array.specs.Array.{ArrayState}
use Rattle.nor_array.specs.After.{after_all}
use Rattle.nor_array.specs.Legal.{Facts, Legal}
use Rattle.nor_array.specs.declared.entry.Entry.{Entry}
use Rattle.nor_io.specs.Puts.{PutsText}
use Rattle.nor_script.specs.Report.{entry_lines, totals_text, report_text}
use Rattle.nor_script.specs.declared.line.Line.{Line}
use Rattle.nor_bank.specs.Calls.{facts_of}
use Rattle.nor_bank.specs.Stands.{Stands, IsKnown, CanStart, opening_array, constants_of, under_of, kept_power, cut_of}
use Rattle.nor_bank.specs.State.{BankState, word_bytes, size_of, bytes_of}
use Rattle.nor_bank.proofs.Known.{known_parts, known_some}
use Rattle.nor_image.specs.Image.{IsImageOf, device_of}
use Rattle.nor_image.specs.Loaded.{bus_of, loaded_width}
use Rattle.nor_image.specs.declared.loaded.Loaded.{Loaded}
use Rattle.nor_image.specs.Written.{file_of, Stores}
use Rattle.nor_cell.specs.Power.{powered}
use Rattle.nor_bus.specs.declared.bus.Armed.{Armed}
use Rattle.nor_history.specs.Bounds.{no_tally, Bounded, Fits, FitsArmed}
use Rattle.nor_history.proofs.Bounded.{bounded_last}
use Rattle.nor_run.specs.Steps.{GoesBy, StaysWithin}
use Rattle.nor_history.specs.Histories.{Leads, opened, risen}
use Rattle.nor_bank.specs.Work.{KeepsBank}
use Rattle.nor_run.specs.Running.{IsCount, IsHistoryOf, RunsWhole, RunsPart, RunsLines, EndsLines, ReportsWhole, ReportsPart, ReportsLines, counters_of}
use Rattle.nor_run.specs.Scripts.{IsJustLoaded, IsLoaded, HasRoom, HasLetters, RunsImage, started, opening_of, HoldsArray, StandsOn, RunsLegally, IsRunOf, RunsScript, IsRunnable, EndsRun, Reports}
use Rattle.nor_run.specs.Started.{IsStarted, Starts, Refuses}
use Rattle.nor_run.specs.declared.error.RunError.{RunError}
use Rattle.nor_run.specs.declared.error.RunError.TheVariants.{Probe, NoMemory as Memory, Put}
use Rattle.nor_run.specs.declared.lines.Ran.{Ran}
use Rattle.nor_run.specs.Taking.{PutsEntry}
use Rattle.nor_run.proofs.FileSizes.{still_storable, locks_agree, file_length}
use Rattle.nor_run.proofs.Taking.{took_text, stops_text}
use Rattle.nor_run.proofs.JustLoaded.{just_loaded, quiet_rests, same_lanes, can_start}
use Rattle.nor_run.proofs.Taking.{part_put}

-- ---- the report behind the lines

pub report_whole : (race : Bool) (lines : List Line) (old new : BankState) (before mid after : SinkState) (ran : Ran)
    → RunsWhole PutsEntry race lines old new before mid ran → Appends mid.taken (totals_text (counters_of new.bus.lanes) ran.entries) after.taken
    → ReportsWhole race lines old new before after ran
report_whole race lines old new before mid after ran runs totals = record {
  history = runs.history;
  is = runs.is;
  text = Appends-append before.taken mid.taken after.taken (entry_lines 0 runs.history) (totals_text (counters_of new.bus.lanes) (length runs.history)) (took_text 0 runs.history before mid runs.took)
      (subst (λ (n : ℕ). Appends mid.taken (totals_text (counters_of new.bus.lanes) n) after.taken) runs.entries totals);
  entries = runs.entries;
  halted = runs.halted;
}

pub report_part : (race : Bool) (lines : List Line) (old new : BankState) (before mid after : SinkState) (ran : Ran) (error : SinkError)
    → RunsWhole PutsEntry race lines old new before mid ran
    → PutsText (totals_text (counters_of new.bus.lanes) ran.entries) mid after (Err error)
    → ReportsPart race lines old new before after
report_part race lines old new before mid after ran error runs puts = record {
  history = runs.history;
  count = length lines;
  all = whole_count race;
  is = subst (λ (ls : List Line). IsHistoryOf race ls old new runs.history) (sym (whole_list lines)) runs.is;
  whole = report_text runs.history (counters_of new.bus.lanes);
  due = inr (omega arith, refl);
  text = AppendsPart-append before.taken mid.taken after.taken (entry_lines 0 runs.history) (totals_text (counters_of new.bus.lanes) (length runs.history)) (took_text 0 runs.history before mid runs.took)
      (subst (λ (n : ℕ). AppendsPart mid.taken (totals_text (counters_of new.bus.lanes) n) after.taken) runs.entries
      (part_put (totals_text (counters_of new.bus.lanes) ran.entries) mid after error puts));
}
  where
    whole_count : (b : Bool) → IsCount b lines (length lines)
    whole_count false = tt
    whole_count true = refl

    whole_list : (ls : List Line) → take (length ls) ls ≡ ls
    whole_list [] = refl
    whole_list (l ∷ ls) = ap (λ (rest : List Line). l ∷ rest) (whole_list ls)

pub report_stopped : (race : Bool) (lines : List Line) (old new : BankState) (before after : SinkState) (error : SinkError) → RunsPart PutsEntry race lines old new before after error
    → ReportsPart race lines old new before after
report_stopped race lines old new before after error runs = record {
  history = runs.history;
  count = runs.count;
  all = runs.all;
  is = runs.is;
  whole = entry_lines 0 runs.history;
  due = inl refl;
  text = stops_text runs.history before after error runs.stops;
}

-- the end of a report, put or not
pub end_whole : (race : Bool) (lines : List Line) (old new : BankState) (bus : BusState) (before mid after : SinkState) (why : Result Ran RunError) (ran : Ran)
    → why ≡ Ok ran → new.bus ≡ bus → RunsLines race lines old new before mid why
    → Appends mid.taken (totals_text (counters_of bus.lanes) ran.entries) after.taken → ReportsWhole race lines old new before after ran
end_whole race lines old new bus before mid after why ran is same runs totals =
    report_whole race lines old new before mid after ran
    (subst (λ (r : Result Ran RunError). RunsLines race lines old new before mid r) is runs)
    (subst (λ (b : BusState). Appends mid.taken (totals_text (counters_of b.lanes) ran.entries) after.taken) (sym same) totals)

pub end_part : (race : Bool) (lines : List Line) (old new : BankState) (bus : BusState) (before mid after : SinkState) (why : Result Ran RunError) (ran : Ran) (error : SinkError)
    → why ≡ Ok ran → new.bus ≡ bus → RunsLines race lines old new before mid why
    → PutsText (totals_text (counters_of bus.lanes) ran.entries) mid after (Err error)
    → ReportsPart race lines old new before after
end_part race lines old new bus before mid after why ran error is same runs totals =
    report_part race lines old new before mid after ran error
    (subst (λ (r : Result Ran RunError). RunsLines race lines old new before mid r) is runs)
    (subst (λ (b : BusState). PutsText (totals_text (counters_of b.lanes) ran.entries) mid after (Err error)) (sym same) totals)

pub end_fails : (race : Bool) (text : List ℕ) (before mid after : SinkState) (error : SinkError) → before.faults ≤ mid.faults
    → PutsText text mid after (Err error)
    → EndsLines race before after (Err (Put error))
end_fails race text before mid after Fault le puts = let rose = puts.0 in omega arith
end_fails race text before mid after NoMemory le puts = tt

-- what was put of the lines is a part of the report, or nothing
pub reports_failed : (race : Bool) (lines : List Line) (old new : BankState) (before after : SinkState) (error : RunError)
    → RunsLines race lines old new before after (Err error) → ReportsLines race lines old new before after (Err error)
reports_failed race lines old new before after (Probe e) runs = runs
reports_failed race lines old new before after Memory runs = runs
reports_failed race lines old new before after (Put e) runs = report_stopped race lines old new before after e runs

-- ---- a bank that was just started

size_is : (b : BankState) → IsKnown b.found b.bus → size_of b.found ≡ bank_size b.bus.lanes
size_is b known =
    let first = (known_parts b.found b.bus known 0 (known_some b.found b.bus known)).size in
    sym (ap (λ (n : ℕ). n * length (lane b.bus 0).cells) known.wired.own.count ∙ first)

-- the array that it stands for is the opening one
pub opens : (width : ℕ) (bus : BusState) (b : BankState) → IsStarted width bus b → opening_array b ≡ opening_of b.found bus
opens width bus b is =
    let size : size_of b.found ≡ bank_size bus.lanes = size_is b is.stands.known ∙ ap (λ (chips : List ChipState). bank_size chips) is.lanes in
    let locks : (lane b.bus 0).locks ≡ (lane bus 0).locks = ap (λ (chips : List ChipState). (chip_at chips 0).locks) is.lanes in
    let consts : constants_of b.found b.bus.lanes (lane b.bus 0).locks ≡ constants_of b.found bus.lanes (lane bus 0).locks = λ i. constants_of b.found (is.lanes i) (locks i) in
    let bytes : bytes_of b 0 (size_of b.found) ≡ bank_bytes b.found.geometry.device bus.lanes 0 (bank_size bus.lanes) =
    λ i. bank_bytes b.found.geometry.device (is.lanes i) 0 (size i) in
    let under = ap under_of is.erase in
    let power = ap kept_power is.halted in
    let armed = ap (cut_of b.after) is.unarmed in
    λ i. record { consts = consts i; bytes = bytes i; locks = locks i; under = under i; power = power i; armed = armed i }

-- ---- what was run

same_facts : (width : ℕ) (bus : BusState) (b : BankState) → IsStarted width bus b → facts_of b ≡ facts_of (started b.found bus)
same_facts width bus b is = ap (λ (chips : List ChipState). facts_of (started b.found (record bus { lanes = chips }))) is.lanes

holds_array : (b new : BankState) (a : ArrayState) → KeepsBank b new → Stands new a → HoldsArray b.found new.bus a
holds_array b new a keeps stands = record {
  size = stands.size ∙ size_is new stands.known;
  bytes = λ p below outside.
      stands.bytes p (let n = stands.size in omega (arith, below, n)) outside
      ∙ ap (λ (f : Found). bank_byte f.geometry.device new.bus.lanes p) keeps.found;
  locks = stands.locks;
}

runs_legally : (race : Bool) (width : ℕ) (bus : BusState) (b new : BankState) (es : List Entry) → IsStarted width bus b
    → KeepsBank b new → (race ≡ true → new.erase ≡ None)
    → (race ≡ true → (cut : ArmedCut) → (after_all (opening_array b) es).armed ≡ Some cut → words_read (word_bytes b.found) es ≤ cut.after)
    → Leads es b new (opening_array b) → RunsLegally race bus new.bus b.found es
runs_legally race width bus b new es is keeps closed reads leads =
    let open_ = opens width bus b is in
    record {
      legal = subst (λ (f : Facts). Legal f (opening_of b.found bus) es) (same_facts width bus b is)
          (subst (λ (a : ArrayState). Legal (facts_of b) a es) open_ leads.legal);
      stands = subst (λ (a : ArrayState). StandsOn b.found new.bus (after_all a es)) open_
          (record { bank = new; on = refl; is = keeps.found; stands = leads.stands });
      holds = subst (λ (a : ArrayState). HoldsArray b.found new.bus (after_all a es)) open_
          (holds_array b new (after_all (opening_array b) es) keeps leads.stands);
      erases = λ c below.
          subst (λ (chips : List ChipState). (lane new.bus c).erases ≡ risen (chip_at chips c).erases (opened es)) is.lanes
          (leads.erases c (subst (λ (chips : List ChipState). c < length chips) (sym is.lanes) below));
      closed = λ raced.
          subst (λ (a : ArrayState). (after_all a es).under ≡ None) open_ (leads.stands.under ∙ ap under_of (closed raced));
      reads = λ raced cut armed. reads raced cut (subst (λ (a : ArrayState). (after_all a es).armed ≡ Some cut) (sym open_) armed);
    }

-- the bounds, from a bank that was just started
stays_within : (width : ℕ) (bus : BusState) (lines : List Line) (b new : BankState) (es : List Entry) → IsStarted width bus b → KeepsLanes bus b.bus
    → GoesBy lines es b new (opening_array b) no_tally → StaysWithin lines es (started b.found bus) (opening_of b.found bus)
stays_within width bus lines b new es is kept so = record {
  steps = so.steps;
  entries = so.entries;
  of = so.of;
  bounded =
      bounded_last (started b.found bus) b (opening_of b.found bus) no_tally so.steps (record { found = refl; lanes = kept })
      (subst (λ (a : ArrayState). Bounded b a no_tally so.steps) (opens width bus b is) so.goes.bounded);
}

-- of which nothing was counted
fits_none : (b : BankState) → b.bus.armed ≡ None → Fits no_tally b
fits_none b unarmed = record { opened = tt; armed = subst (λ (x : Option Armed). FitsArmed None b.after x) (sym unarmed) tt }

pub is_run : (race : Bool) (width : ℕ) (bus : BusState) (lines : List Line) (b new : BankState) (es : List Entry) → Starts width bus b
    → KeepsBank b new → IsHistoryOf race lines b new es → IsRunOf race width lines bus new.bus es
is_run race width bus lines b new es starts keeps history = record {
  found = b.found;
  is_found = starts.is_found;
  answers = history.answers;
  kept = keeps_then bus b.bus new.bus starts.kept keeps.lanes;
  legal = λ qry.
      let is = starts.started qry in
      runs_legally race width bus b new es is keeps (λ raced. history.closed raced (opening_array b) is.stands starts.closed)
      (λ raced. history.reads raced (opening_array b) is.stands) (history.leads (opening_array b) is.stands);
  bounds = λ alone qry.
      let is = starts.started qry in
      stays_within width bus lines b new es is starts.kept (history.goes alone (opening_array b) is.stands no_tally (fits_none b is.unarmed));
}

-- ---- what was put

reports_as : (race : Bool) (width : ℕ) (bus : BusState) (lines : List Line) (b new : BankState) (before after : SinkState) (result : Result Ran RunError)
    → Starts width bus b → KeepsBank b new → ReportsLines race lines b new before after result
    → Reports race width lines bus new.bus before after result
reports_as race width bus lines b new before after (Ok ran) starts keeps told = record {
  history = told.history;
  runs = is_run race width bus lines b new told.history starts keeps told.is;
  text = told.text;
  entries = told.entries;
  halted = told.halted;
}
reports_as race width bus lines b new before after (Err (Probe error)) starts keeps told = tt
reports_as race width bus lines b new before after (Err Memory) starts keeps told = tt
reports_as race width bus lines b new before after (Err (Put error)) starts keeps told = record {
  history = told.history;
  count = told.count;
  all = told.all;
  runs = is_run race width bus (take told.count lines) b new told.history starts keeps told.is;
  whole = told.whole;
  due = told.due;
  text = told.text;
}

pub reports : (race : Bool) (width : ℕ) (bus : BusState) (lines : List Line) (b new : BankState) (stopped : BusState) (before after : SinkState) (result : Result Ran RunError)
    → Starts width bus b → stopped ≡ new.bus → KeepsBank b new → ReportsLines race lines b new before after result
    → Reports race width lines bus stopped before after result
reports race width bus lines b new stopped before after result starts same keeps told =
    subst (λ (x : BusState). Reports race width lines bus x before after result) (sym same)
    (reports_as race width bus lines b new before after result starts keeps told)

runnable : (width : ℕ) (bus : BusState) (b : BankState) → Starts width bus b → IsRunnable width bus.lanes
runnable width bus b starts = record { found = b.found; is_found = starts.is_found }

pub ends_run : (race : Bool) (width : ℕ) (bus : BusState) (b : BankState) (before after : SinkState) (result : Result Ran RunError) → Starts width bus b
    → EndsLines race before after result
    → EndsRun race width bus.lanes before after result
ends_run race width bus b before after (Ok ran) starts ends = runnable width bus b starts
ends_run race width bus b before after (Err (Probe error)) starts ends = absurd ends
ends_run race width bus b before after (Err Memory) starts ends = (runnable width bus b starts, ends.0, ends.1)
ends_run race width bus b before after (Err (Put Fault)) starts ends = (runnable width bus b starts, ends)
ends_run race width bus b before after (Err (Put NoMemory)) starts ends = runnable width bus b starts

-- a bank that wasn't started: nothing is put
pub refuses_run : (race : Bool) (width : ℕ) (chips : List ChipState) (before : SinkState) (error : RunError) → Refuses width chips error
    → EndsRun race width chips before before (Err error)
refuses_run race width chips before (Probe error) why = (why, refl)
refuses_run race width chips before Memory why = absurd why
refuses_run race width chips before (Put error) why = absurd why

pub refused_reports : (race : Bool) (width : ℕ) (lines : List Line) (chips : List ChipState) (old new : BusState) (before after : SinkState) (error : RunError) → Refuses width chips error
    → Reports race width lines old new before after (Err error)
refused_reports race width lines chips old new before after (Probe error) why = tt
refused_reports race width lines chips old new before after Memory why = tt
refused_reports race width lines chips old new before after (Put error) why = absurd why

pub keeps_lanes : (bus after : BusState) (width : ℕ) (b new : BankState) → Starts width bus b → KeepsBank b new → after ≡ new.bus → KeepsLanes bus after
keeps_lanes bus after width b new starts keeps same =
    subst (λ (x : BusState). KeepsLanes bus x) (sym same) (keeps_then bus b.bus new.bus starts.kept keeps.lanes)

-- what starting leaves of it
pub starts_so : (width : ℕ) (bus : BusState) (b : BankState) (loaded : IsJustLoaded width bus) → AllLanes IsChip bus → AllLanes HasLetters bus
    → IsFoundOn width bus.lanes b.found → (b.halted ≡ None) × (b.erase ≡ None) × (b.after ≡ 0)
    → EachLane Resets bus b.bus → Counted 1 524 bus b.bus → ((g : Geometry) → CanStart width g bus → Stands b (opening_array b)) → IsStarted width bus b
starts_so width bus b loaded ranges qry found fresh resets counted stands = record {
  is_found = found;
  lanes = same_lanes bus b.bus counted.went.kept.count (λ c below. (loaded.chips c below).quiet) resets;
  halted = fresh.0;
  erase = fresh.1;
  unarmed = still_none counted.cycles counted.cycles bus.armed b.bus.armed counted.went.armed loaded.fresh.armed;
  stands = stands (wiring (length bus.lanes) loaded.device) (can_start width bus loaded ranges qry b.found found);
}

-- each chip that was just loaded rests
pub all_rest : (width : ℕ) (bus : BusState) → IsJustLoaded width bus → AllLanes IsIdle bus
all_rest width bus loaded c below = quiet_rests (lane bus c) (loaded.chips c below).quiet

-- its power isn't lost
pub never_lost : (width : ℕ) (bus new : BusState) → IsJustLoaded width bus → Lost 524 bus new → ⊥
never_lost width bus new loaded lost = lost.was_armed loaded.fresh.power loaded.fresh.armed

pub refused_as : (width : ℕ) (bus new : BusState) (error : ProbeError) → IsJustLoaded width bus
    → (error ≢ LostPower → AllLanes IsIdle bus → refusal width bus.lanes ≡ Some error) → (error ≡ LostPower → Lost 524 bus new) → refusal width bus.lanes ≡ Some error
refused_as width bus new error loaded refused lost = refused (λ is. never_lost width bus new loaded (lost is)) (all_rest width bus loaded)

-- ---- the file of the bank

pub from_file : (loaded : Loaded) → IsLoaded loaded → IsJustLoaded (loaded_width loaded) (bus_of loaded)
from_file loaded is = record {
  device = device_of is.file;
  bank = is.bank;
  fresh = is.fresh;
  storable = is.storable;
  agree = is.agree;
  chips = λ k below. just_loaded is.file (loaded_width loaded) (bus_of loaded).lanes k is.image below;
}

-- as many bytes as its file
pub fits_file : (bytes : List ℕ) (loaded after : Loaded) → IsLoaded loaded → HasRoom bytes loaded → loaded_width after ≡ loaded_width loaded → KeepsLanes (bus_of loaded) (bus_of after)
    → HasRoom bytes after
fits_file bytes loaded after is room same keeps =
    room
    ∙ (sym (file_length (loaded_width loaded) (bus_of loaded) (bus_of after) (some_lane (loaded_width loaded) (device_of is.file) (bus_of loaded).lanes is.bank) keeps)
    ∙ ap (λ (w : ℕ). length (file_of w (bus_of after).lanes)) (sym same))

pub image_reports : (race : Bool) (lines : List Line) (loaded after : Loaded) (was now : SinkState) (ran : Ran) (result : Result Ran RunError) (file : List ℕ)
    → IsLoaded loaded → loaded_width after ≡ loaded_width loaded → result ≡ Ok ran
    → Reports race (loaded_width loaded) lines (bus_of loaded) (bus_of after) was now result
    → file ≡ file_of (loaded_width after) (bus_of after).lanes → Stores file (loaded_width after) (bus_of after).lanes
    → RunsImage race (loaded_width loaded) lines (bus_of loaded) was now ran file
image_reports race lines loaded after was now ran result file is same ok told spelled stores =
    let old = bus_of loaded in
    let new = bus_of after in
    let some = some_lane (loaded_width loaded) (device_of is.file) old.lanes is.bank in
    let runs : RunsScript race (loaded_width loaded) lines old new was now ran =
    subst (λ (r : Result Ran RunError). Reports race (loaded_width loaded) lines old new was now r) ok told in
    record {
      new = new;
      runs = runs;
      spelled = spelled ∙ ap (λ (n : ℕ). file_of n new.lanes) same;
      image = λ agree.
          subst (λ (n : ℕ). IsImageOf file n (map powered new.lanes)) same
          (stores (record { storable = still_storable old new some runs.runs.kept is.storable; agree = agree }));
      agree = λ qry. locks_agree new (after_all (opening_of runs.runs.found old) runs.history).locks (runs.runs.legal qry).holds.locks;
    }
