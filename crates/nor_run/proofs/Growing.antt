-- A history that grows, line by line.
use Rattle.std.proofs.Common.{◌≡◌, ◌<◌, ◌≤◌, ◌+◌, ◌*◌, ◌∙◌, ◌||◌, IfOk, IfErr, ◌++◌, ◌∷◌, ℕ, zero, suc, List, [], length, take, get_or, Bool, true, false, Result, Ok, Err, refl, sym, ap, subst, arith, append_assoc, append-nil}
use Rattle.std.specs.Prelude.{All}
use Rattle.std.proofs.lemmas.List.{length-append, take_all}
use Rattle.std.proofs.lemmas.List.Elements.{All-head, All-tail}
use Rattle.std.proofs.Math.Bool.{or-false}
use Rattle.std.proofs.Math.Seq.{take-suc}
use Rattle.nor_io.specs.Files.{SinkState}
use Rattle.nor_io.specs.declared.sink.SinkError.{SinkError}
use Rattle.nor_io.specs.declared.sink.SinkError.TheVariants.{Fault, NoMemory}
use Rattle.nor_array.specs.Array.{ArrayState}
use Rattle.nor_array.specs.After.{after_all}
use Rattle.nor_array.specs.declared.entry.Entry.{Entry}
use Rattle.nor_array.specs.Entries.{is_halt, has_halt}
use Rattle.nor_script.specs.Answering.{AnswersWord, AnswersRun}
use Rattle.nor_script.specs.Script.{IsScript, HasCaller}
use Rattle.nor_script.specs.declared.line.Line.{Line}
use Rattle.nor_script.specs.declared.line.Word.{Word}
use Rattle.nor_script.specs.declared.line.Word.TheVariants.{Call, Erase, EraseAll as EraseAllLine}
use Rattle.nor_script.proofs.Answered.{answers_line, answers_more}
use Rattle.nor_history.specs.Bounds.{Step, Tally, Fits, Goes, entries_of, steps_as, tally_all}
use Rattle.nor_history.specs.Histories.{Leads}
use Rattle.nor_bank.specs.Stands.{Stands}
use Rattle.nor_bank.specs.State.{BankState}
use Rattle.nor_bank.specs.Work.{KeepsBank}
use Rattle.nor_history.proofs.Bounded.{goes_none, goes_then}
use Rattle.nor_history.proofs.Histories.{leads_none, leads_then}
use Rattle.nor_run.specs.Running.{RunsTo, IsHistoryOf, RunsWhole, RunsPart, RunsLines, EndsLines}
use Rattle.nor_run.specs.Steps.{AreStepsOf, GoesBy, waits_for}
use Rattle.nor_run.specs.Started.{of_put}
use Rattle.nor_run.specs.Taking.{told, Takes, TakesAll, PutsBy}
use Rattle.nor_run.specs.declared.error.RunError.{RunError}
use Rattle.nor_run.specs.declared.error.RunError.TheVariants.{Put}
use Rattle.nor_run.specs.declared.lines.Ran.{Ran}
use Rattle.nor_run.proofs.Taking.{by_state, took_later, stops_later, stops_rose}

false_true : false ≡ true → ⊥
false_true is = cc

-- ---- lists

or_assoc : (x y z : Bool) → (x || (y || z)) ≡ ((x || y) || z)
or_assoc true y z = refl
or_assoc false y z = refl

pub halt_last : (es : List Entry) (e : Entry) → has_halt (es ++ e ∷ []) ≡ (has_halt es || is_halt e.reply)
halt_last [] e = or-false (is_halt e.reply)
halt_last (x ∷ es) e = ap (λ (b : Bool). is_halt x.reply || b) (halt_last es e) ∙ or_assoc (is_halt x.reply) (has_halt es) (is_halt e.reply)

-- how many halts of two lists
pub halt_then : (xs ys : List Entry) → has_halt (xs ++ ys) ≡ (has_halt xs || has_halt ys)
halt_then [] ys = refl
halt_then (x ∷ xs) ys = ap (λ (b : Bool). is_halt x.reply || b) (halt_then xs ys) ∙ or_assoc (is_halt x.reply) (has_halt xs) (has_halt ys)

-- a taker took some, and then others
took_then : {T E : Type 0} (takes : Takes T E) (position : ℕ) (xs ys : List Entry) (before mid after : T) → TakesAll takes position xs before mid
    → TakesAll takes (position + length xs) ys mid after → TakesAll takes position (xs ++ ys) before after
took_then {T = T} takes position [] ys before mid after took next =
    let here : position + 0 ≡ position = omega arith in
    subst (λ (n : ℕ). TakesAll takes n ys before after) here (subst (λ (x : T). TakesAll takes (position + 0) ys x after) took next)
took_then takes position (x ∷ xs) ys before mid after took next =
    let there : position + suc (length xs) ≡ position + 1 + length xs = omega arith in
    (took.0, took.1, took_then takes (position + 1) xs ys took.0 mid after took.2 (subst (λ (n : ℕ). TakesAll takes n ys mid after) there next))

-- the same where the place is a count of the entries before
took_more : {T E : Type 0} (takes : Takes T E) (xs ys : List Entry) (count : ℕ) (before mid after : T) → count ≡ length xs → TakesAll takes 0 xs before mid
    → TakesAll takes count ys mid after → TakesAll takes 0 (xs ++ ys) before after
took_more takes xs ys count before mid after is took next =
    let there : count ≡ 0 + length xs = omega (arith, is) in
    took_then takes 0 xs ys before mid after took (subst (λ (n : ℕ). TakesAll takes n ys mid after) there next)

-- ---- one more line

-- The first n lines were run, and more can be.
pub record RunsSoFar {T E : Type 0} (takes : Takes T E) (lines : List Line) (n : ℕ) (old now : BankState) (before after : T) (ran : Ran) : Type 0 where
  pub history : List Entry
  pub is : IsHistoryOf false (take n lines) old now history
  pub took : TakesAll takes 0 history before after
  pub entries : ran.entries ≡ length history
  pub halted : ran.halted ≡ has_halt history

-- ---- steps that grow

goes_none_by : (b : BankState) (a : ArrayState) (t : Tally) → Fits t b → GoesBy [] [] b b a t
goes_none_by b a t fits = record { steps = []; entries = refl; of = refl; goes = goes_none b a t fits }

entries_as : (waits : Bool) (es : List Entry) → entries_of (steps_as waits es) ≡ es
entries_as waits [] = refl
entries_as waits (e ∷ es) = ap (λ (later : List Entry). e ∷ later) (entries_as waits es)

entries_then : (xs ys : List Step) → entries_of (xs ++ ys) ≡ entries_of xs ++ entries_of ys
entries_then [] ys = refl
entries_then (x ∷ xs) ys = ap (λ (later : List Entry). x.entry ∷ later) (entries_then xs ys)

-- the steps of one line more
steps_more : (lines : List Line) (line : Line) (steps : List Step) (es : List Entry) → AreStepsOf lines steps → AnswersWord line.word line.caller es
    → AreStepsOf (lines ++ line ∷ []) (steps ++ steps_as (waits_for line.word) es)
steps_more [] line steps es none answers =
    subst (λ (ss : List Step). AreStepsOf (line ∷ []) (ss ++ steps_as (waits_for line.word) es)) (sym none)
    (es, [], sym (append-nil (steps_as (waits_for line.word) es)), answers, refl)
steps_more (x ∷ lines) line steps es of answers =
    let later = steps_as (waits_for line.word) es in
    (of.0, of.1 ++ later, ap (λ (ss : List Step). ss ++ later) of.2 ∙ append_assoc (steps_as (waits_for x.word) of.0) of.1 later, of.3, steps_more lines line of.1 es of.4 answers)

goes_more : (lines : List Line) (line : Line) (old now new : BankState) (es more : List Entry) (a : ArrayState) (t : Tally) → AnswersWord line.word line.caller more → KeepsBank old now
    → (so : GoesBy lines es old now a t)
    → Goes (steps_as (waits_for line.word) more) now new (after_all a (entries_of so.steps)) (tally_all old a t so.steps) → GoesBy (lines ++ line ∷ []) (es ++ more) old new a t
goes_more lines line old now new es more a t answers keeps so goes =
    let later = steps_as (waits_for line.word) more in
    record {
      steps = so.steps ++ later;
      entries = entries_then so.steps later ∙ (λ i. so.entries i ++ entries_as (waits_for line.word) more i);
      of = steps_more lines line so.steps more so.of answers;
      goes = goes_then so.steps later old now new a t keeps so.goes goes;
    }

pub no_line : {T E : Type 0} (takes : Takes T E) (lines : List Line) (b : BankState) (before : T)
    → RunsSoFar takes lines 0 b b before before (record { entries = 0; halted = false })
no_line takes lines b before = record {
  history = [];
  is = record { answers = refl; leads = λ a stands. leads_none b a stands; closed = λ race a stands closed. closed; reads = λ race. absurd (false_true race); goes = λ race a stands t fits. goes_none_by b a t fits };
  took = refl;
  entries = refl;
  halted = refl;
}

-- the entries of a line behind a history of those before
pub one_more : (lines : List Line) (n : ℕ) (line : Line) (old now new : BankState) (es more : List Entry)
    → n < length lines → get_or lines n line ≡ line → AnswersWord line.word line.caller more
    → KeepsBank old now → IsHistoryOf false (take n lines) old now es
    → ((a : ArrayState) → Stands now a → Leads more now new a)
    → ((a : ArrayState) → Stands now a → (t : Tally) → Fits t now → Goes (steps_as (waits_for line.word) more) now new a t)
    → IsHistoryOf false (take (suc n) lines) old new (es ++ more)
one_more lines n line old now new es more below at answers keeps is leads goes = record {
  answers =
      let all : AnswersRun (take n lines ++ line ∷ []) (es ++ more) =
      answers_more (take n lines) (line ∷ []) es more is.answers (answers_line line more answers) in
      subst (λ (ls : List Line). AnswersRun ls (es ++ more)) (sym (take-suc lines n line below ∙ ap (λ (l : Line). take n lines ++ l ∷ []) at)) all;
  leads = λ a first.
      let so = is.leads a first in
      leads_then es more old now new a keeps so (leads (after_all a es) so.stands);
  closed = λ race a stands closed. absurd (false_true race);
  reads = λ race. absurd (false_true race);
  goes = λ race a first t fits.
      let so = is.goes refl a first t fits in
      let led = is.leads a first in
      subst (λ (ls : List Line). GoesBy ls (es ++ more) old new a t) (sym (take-suc lines n line below ∙ ap (λ (l : Line). take n lines ++ l ∷ []) at))
      (goes_more (take n lines) line old now new es more a t answers keeps so
      (goes (after_all a (entries_of so.steps)) (subst (λ (xs : List Entry). Stands now (after_all a xs)) (sym so.entries) led.stands) (tally_all old a t so.steps) so.goes.fits));
}

-- a line has one entry or two
pub few_entries : (word : Word) (caller : ℕ) (es : List Entry) → AnswersWord word caller es → length es ≤ 2
few_entries word caller [] answers = omega arith
few_entries word caller (e ∷ []) answers = omega arith
few_entries word caller (e ∷ f ∷ []) answers = omega arith
few_entries (Call op) caller (e ∷ f ∷ g ∷ es) answers = absurd answers
few_entries (Erase b) caller (e ∷ f ∷ g ∷ es) answers = absurd answers
few_entries EraseAllLine caller (e ∷ f ∷ g ∷ es) answers = absurd answers

pub few_more : {T E : Type 0} (takes : Takes T E) (word : Word) (caller n m : ℕ) (old new : BankState) (before after : T) (ran now : Ran)
    → RunsTo takes (waits_for word) (AnswersWord word caller) ran old new before after (Ok now) → ran.entries ≤ 2 * n → m ≡ n + 1 → now.entries ≤ 2 * m
few_more takes word caller n m old new before after ran now runs so next =
    let few = few_entries word caller runs.entries runs.answers in
    let count : now.entries ≡ ran.entries + length runs.entries = ap (λ (r : Ran). r.entries) runs.gives.1 in
    omega (arith, few, count, so, next)

-- the line after the first n was run
pub line_more : {T E : Type 0} (takes : Takes T E) (lines : List Line) (n : ℕ) (line : Line) (old now new : BankState) (before mid after : T) (ran next : Ran)
    → n < length lines → get_or lines n line ≡ line
    → KeepsBank old now → RunsSoFar takes lines n old now before mid ran
    → RunsTo takes (waits_for line.word) (AnswersWord line.word line.caller) ran now new mid after (Ok next)
    → RunsSoFar takes lines (n + 1) old new before after next
line_more takes lines n line old now new before mid after ran next below at keeps so runs =
    let es = runs.entries in
    let more : suc n ≡ n + 1 = omega arith in
    record {
      history = so.history ++ es;
      is = subst (λ (m : ℕ). IsHistoryOf false (take m lines) old new (so.history ++ es)) more
          (one_more lines n line old now new so.history es below at runs.answers keeps so.is runs.leads runs.goes);
      took = took_more takes so.history es ran.entries before mid after so.entries so.took runs.gives.0;
      entries = ap (λ (r : Ran). r.entries) runs.gives.1 ∙ (ap (λ (k : ℕ). k + length es) so.entries ∙ sym (length-append so.history es));
      halted = ap (λ (r : Ran). r.halted) runs.gives.1 ∙ (ap (λ (b : Bool). b || has_halt es) so.halted ∙ sym (halt_then so.history es));
    }

-- one of its entries wasn't taken
pub line_stopped : {T E : Type 0} (takes : Takes T E) (lines : List Line) (n : ℕ) (line : Line) (old now new : BankState) (before mid after : T) (ran : Ran) (stop : E)
    → n < length lines → get_or lines n line ≡ line
    → KeepsBank old now → RunsSoFar takes lines n old now before mid ran
    → RunsTo takes (waits_for line.word) (AnswersWord line.word line.caller) ran now new mid after (Err stop)
    → RunsPart takes false lines old new before after stop
line_stopped takes lines n line old now new before mid after ran stop below at keeps so runs =
    let es = runs.entries in
    let at_stop = runs.gives in
    let place : ran.entries + length at_stop.taken ≡ length (so.history ++ at_stop.taken) =
    ap (λ (k : ℕ). k + length at_stop.taken) so.entries ∙ sym (length-append so.history at_stop.taken) in
    record {
      history = so.history ++ es;
      count = suc n;
      all = tt;
      is = one_more lines n line old now new so.history es below at runs.answers keeps so.is runs.leads runs.goes;
      stops = record {
        taken = so.history ++ at_stop.taken;
        entry = at_stop.entry;
        rest = at_stop.rest;
        parts = ap (λ (xs : List Entry). so.history ++ xs) at_stop.parts ∙ sym (append_assoc so.history at_stop.taken (at_stop.entry ∷ at_stop.rest));
        mid = at_stop.mid;
        took = took_more takes so.history at_stop.taken ran.entries before mid at_stop.mid so.entries so.took at_stop.took;
        stops = subst (λ (k : ℕ). takes k (told at_stop.entry) at_stop.mid after (Err stop)) place at_stop.stops;
      };
      last = λ _. at_stop.last;
    }

-- all lines were
pub all_run : {T E : Type 0} (takes : Takes T E) (lines : List Line) (n : ℕ) (old new : BankState) (before after : T) (ran : Ran)
    → length lines ≤ n → RunsSoFar takes lines n old new before after ran → RunsWhole takes false lines old new before after ran
all_run takes lines n old new before after ran over so = record {
  history = so.history;
  is = subst (λ (ls : List Line). IsHistoryOf false ls old new so.history) (take_all n lines over) so.is;
  took = so.took;
  entries = so.entries;
  halted = so.halted;
}

-- each line of a script has its caller
callers_at : (lines : List Line) (n : ℕ) (line : Line) → n < length lines → get_or lines n line ≡ line → All (λ l. HasCaller l.word l.caller) lines → HasCaller line.word line.caller
callers_at [] n line below at all = absurd (omega arith)
callers_at (x ∷ lines) zero line below at all = subst (λ (l : Line). HasCaller l.word l.caller) at (All-head (λ (l : Line). HasCaller l.word l.caller) x lines all)
callers_at (x ∷ lines) (suc n) line below at all = callers_at lines n line (omega arith) at (All-tail (λ (l : Line). HasCaller l.word l.caller) x lines all)

pub caller_at : (lines : List Line) (n : ℕ) (line : Line) → n < length lines → get_or lines n line ≡ line → IsScript lines → HasCaller line.word line.caller
caller_at lines n line below at script = callers_at lines n line below at script.callers

-- ---- what a sink was given

whole_by_state : {K : Type 0} (state : K → SinkState) (race : Bool) (lines : List Line) (old new : BankState) (before after : K) (ran : Ran)
    → RunsWhole (PutsBy state) race lines old new before after ran → RunsLines race lines old new (state before) (state after) (Ok ran)
whole_by_state state race lines old new before after ran runs = record {
  history = runs.history;
  is = runs.is;
  took = by_state state 0 runs.history before after runs.took;
  entries = runs.entries;
  halted = runs.halted;
}

part_by_state : {K : Type 0} (state : K → SinkState) (race : Bool) (lines : List Line) (old new : BankState) (before after : K) (stop : SinkError)
    → RunsPart (PutsBy state) race lines old new before after stop → RunsLines race lines old new (state before) (state after) (Err (Put stop))
part_by_state state race lines old new before after stop runs = record {
  history = runs.history;
  count = runs.count;
  all = runs.all;
  is = runs.is;
  stops = record {
    taken = runs.stops.taken;
    entry = runs.stops.entry;
    rest = runs.stops.rest;
    parts = runs.stops.parts;
    mid = state runs.stops.mid;
    took = by_state state 0 runs.stops.taken before runs.stops.mid runs.stops.took;
    stops = runs.stops.stops;
  };
  last = runs.last;
}

put_runs_as : {K : Type 0} (state : K → SinkState) (race : Bool) (lines : List Line) (old new : BankState) (before after : K) (ran : Result Ran SinkError)
    → IfOk ran (RunsWhole (PutsBy state) race lines old new before after) → IfErr ran (RunsPart (PutsBy state) race lines old new before after)
    → RunsLines race lines old new (state before) (state after) (of_put ran)
put_runs_as state race lines old new before after (Ok r) whole part = whole_by_state state race lines old new before after r whole
put_runs_as state race lines old new before after (Err e) whole part = part_by_state state race lines old new before after e part

pub put_runs : {K : Type 0} (state : K → SinkState) (race : Bool) (lines : List Line) (old new : BankState) (before after : K) (ran : Result Ran SinkError) (result : Result Ran RunError)
    → result ≡ of_put ran → IfOk ran (RunsWhole (PutsBy state) race lines old new before after) → IfErr ran (RunsPart (PutsBy state) race lines old new before after)
    → RunsLines race lines old new (state before) (state after) result
put_runs state race lines old new before after ran result put whole part =
    subst (λ (r : Result Ran RunError). RunsLines race lines old new (state before) (state after) r) (sym put) (put_runs_as state race lines old new before after ran whole part)

-- it stops for want of nothing but the sink
put_ends_as : (race : Bool) (lines : List Line) (old new : BankState) (before after : SinkState) (ran : Result Ran SinkError) → RunsLines race lines old new before after (of_put ran)
    → EndsLines race before after (of_put ran)
put_ends_as race lines old new before after (Ok r) runs = tt
put_ends_as race lines old new before after (Err Fault) runs = stops_rose runs.history before after runs.stops
put_ends_as race lines old new before after (Err NoMemory) runs = tt

pub put_ends : (race : Bool) (lines : List Line) (old new : BankState) (before after : SinkState) (ran : Result Ran SinkError) (result : Result Ran RunError) → result ≡ of_put ran
    → RunsLines race lines old new before after result → EndsLines race before after result
put_ends race lines old new before after ran result put runs =
    subst (λ (r : Result Ran RunError). EndsLines race before after r) (sym put)
    (put_ends_as race lines old new before after ran (subst (λ (r : Result Ran RunError). RunsLines race lines old new before after r) put runs))

-- its count of faults never falls
put_later_as : (race : Bool) (lines : List Line) (old new : BankState) (before after : SinkState) (ran : Result Ran SinkError) → RunsLines race lines old new before after (of_put ran)
    → before.faults ≤ after.faults
put_later_as race lines old new before after (Ok r) runs = took_later 0 runs.history before after runs.took
put_later_as race lines old new before after (Err e) runs = stops_later runs.history before after e runs.stops

pub put_later : (race : Bool) (lines : List Line) (old new : BankState) (before after : SinkState) (ran : Result Ran SinkError) (result : Result Ran RunError) → result ≡ of_put ran
    → RunsLines race lines old new before after result → before.faults ≤ after.faults
put_later race lines old new before after ran result put runs =
    put_later_as race lines old new before after ran (subst (λ (r : Result Ran RunError). RunsLines race lines old new before after r) put runs)
