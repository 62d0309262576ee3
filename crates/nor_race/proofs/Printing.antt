-- What is handed over of notes is what they tell.
use Rattle.std.proofs.Common.{◌≡◌, ◌<◌, ◌≤◌, ◌+◌, ◌∙◌, ◌||◌, ℕ, zero, suc, List, [], ◌∷◌, ◌++◌, length, take, drop, slice_get, true, false, Option, Some, None, IsSome, Result, Ok, Err, IfOk, IfErr, refl, sym, ap, subst, arith, get_or}
use Rattle.std.specs.Prelude.{All}
use Rattle.std.specs.Option.{option_map}
use Rattle.std.proofs.lemmas.List.{length-append, take_all}
use Rattle.std.proofs.lemmas.Option.{slice_get_within, slice_get-get_or}
use Rattle.nor_io.specs.Files.{SinkState}
use Rattle.nor_io.specs.declared.sink.SinkError.{SinkError}
use Rattle.nor_array.specs.Array.{ArrayState}
use Rattle.nor_array.specs.After.{after_all}
use Rattle.nor_array.specs.Entries.{is_halt}
use Rattle.nor_array.specs.declared.state.ArmedCut.{ArmedCut}
use Rattle.nor_array.specs.declared.entry.Entry.{Entry}
use Rattle.nor_array.specs.declared.entry.Op.{Op}
use Rattle.nor_array.specs.declared.entry.Op.TheVariants.{Read}
use Rattle.nor_array.specs.declared.entry.Reply.{Reply}
use Rattle.nor_array.specs.declared.entry.Reply.TheVariants.{Done}
use Rattle.nor_bank.specs.Calls.{facts_of}
use Rattle.nor_bank.specs.Stands.{Stands}
use Rattle.nor_bank.specs.State.{BankState, word_bytes}
use Rattle.nor_history.specs.Histories.{words_read}
use Rattle.nor_history.proofs.Histories.{after_then, words_then}
use Rattle.nor_bank.specs.declared.kept.Erasing.{Erasing}
use Rattle.nor_script.specs.Racing.{IsRaceScript}
use Rattle.nor_script.specs.declared.line.Line.{Line}
use Rattle.nor_driver.specs.Callers.{Gives}
use Rattle.nor_driver.specs.Fronts.{Opener, opener_of, entries_of}
use Rattle.nor_run.specs.Running.{IsHistoryOf, RunsWhole, RunsPart, RunsLines}
use Rattle.nor_run.specs.Started.{of_put}
use Rattle.nor_run.specs.Taking.{told_bytes, told, Takes, Hands, StopsIn, PutsBy}
use Rattle.nor_run.specs.declared.error.RunError.{RunError}
use Rattle.nor_run.specs.declared.lines.Ran.{Ran}
use Rattle.nor_run.proofs.Growing.{halt_last, put_runs}
use Rattle.nor_run.proofs.Taking.{hands_as, takes_more}
use Rattle.nor_race.specs.Noted.{NoteView}
use Rattle.nor_race.specs.Races.{Races}
use Rattle.nor_race.specs.Ran.{Tells, op_of}
use Rattle.nor_race.specs.Told.{AreTold, HasHistory, HandsAll, HandsTold}
use Rattle.nor_race.proofs.Closing.{none_opened}
use Rattle.nor_race.proofs.Joining.{one_some, some_there, take_next}

-- the data of a read that is done is what the note has, and nothing else of the bytes is told
same_told : (op : Op) (reply : Reply) (given bytes : List ℕ) → Gives reply op given bytes → told_bytes op reply given ≡ told_bytes op reply bytes
same_told (Read at len) Done given bytes gives = sym gives
same_told op reply given bytes gives = refl

-- the entry of a note, with its line's caller and call
abbrev pub entry_of_note : ℕ → Op → NoteView → Entry
entry_of_note caller op note = record { caller = caller; op = op; reply = note.reply; bytes = note.bytes }

told_note : (lines : List Line) (note : NoteView) (e : Entry) (line : Line) (op : Op) → Tells lines note e → slice_get lines note.line ≡ Some line → op_of line.word note.closes ≡ Some op
    → told (entry_of_note line.caller op note) ≡ told e
told_note lines note e line op tells at calls =
    let line_is : line ≡ tells.line = one_some line tells.line (slice_get lines note.line) at tells.at in
    let op_is : op ≡ e.op = one_some op e.op (op_of line.word note.closes) calls (ap (λ (l : Line). op_of l.word note.closes) line_is ∙ tells.op) in
    let caller_is : line.caller ≡ e.caller = ap (λ (l : Line). l.caller) line_is ∙ sym tells.by in
    let bytes_are = same_told e.op e.reply note.bytes e.bytes (subst (λ (r : Reply). Gives r e.op note.bytes e.bytes) (sym tells.reply) tells.bytes) in
    (λ i. told (record { caller = caller_is i; op = op_is i; reply = sym tells.reply i; bytes = note.bytes }))
    ∙ ap (λ (bytes : List ℕ). record e { bytes = bytes }) bytes_are

-- ---- the entry that a note tells

-- what the note at a place tells
tells_at : (lines : List Line) (notes : List NoteView) (es : List Entry) (k : ℕ) (note : NoteView) → AreTold lines notes es → slice_get notes k ≡ Some note → (e : Entry) × Tells lines note e
tells_at lines notes es k note told at =
    let below : k < length es = let here = slice_get_within notes k note at in let count = told.count in omega (arith, here, count) in
    let e = some_there es k below in
    (e.0, told.told k note e.0 at e.1)

-- the line at the place that the note names
line_below : (lines : List Line) (notes : List NoteView) (k place : ℕ) (note : NoteView) → HasHistory lines notes → slice_get notes k ≡ Some note → place ≡ note.line → place < length lines
line_below lines notes k place note history at same =
    let tells = (tells_at lines notes history.entries k note history.are at).1 in
    let below = slice_get_within lines note.line tells.line tells.at in
    omega (arith, below, same)

pub line_there : (lines : List Line) (notes : List NoteView) (k place : ℕ) → HasHistory lines notes → k < length notes → ((note : NoteView) → slice_get notes k ≡ Some note → place ≡ note.line) → place < length lines
line_there lines notes k place history below named =
    let note = some_there notes k below in
    line_below lines notes k place note.0 history note.1 (named note.0 note.1)

at_index : (lines : List Line) (place k : ℕ) (line : Line) → place < length lines → line ≡ get_or lines place line → place ≡ k → slice_get lines k ≡ Some line
at_index lines place k line below is same = ap (slice_get lines) (sym same) ∙ (slice_get-get_or lines place line below ∙ ap (λ (l : Line). Some l) (sym is))

some_is : {X : Type 0} (o : Option X) (x : X) → o ≡ Some x → IsSome o
some_is (Some y) x is = refl
some_is None x is = absurd (let both : None ≡ Some x = is in cc)

-- a note tells a call of its line
pub note_calls : (lines : List Line) (notes : List NoteView) (k place : ℕ) (note : NoteView) (line : Line) → HasHistory lines notes → slice_get notes k ≡ Some note → place ≡ note.line → line ≡ get_or lines place line
    → IsSome (op_of line.word note.closes)
note_calls lines notes k place note line history at named is =
    let told = tells_at lines notes history.entries k note history.are at in
    let there = at_index lines place note.line line (line_below lines notes k place note history at named) is named in
    let same : line ≡ told.1.line = one_some line told.1.line (slice_get lines note.line) there told.1.at in
    some_is (op_of line.word note.closes) told.0.op (ap (λ (l : Line). op_of l.word note.closes) same ∙ told.1.op)

-- what is handed over of a note is handed over of its entry
pub note_handed : {T E : Type 0} (takes : Takes T E) (lines : List Line) (notes : List NoteView) (k place : ℕ) (note : NoteView) (line : Line) (before after : T) (result : Result Reply E) (es : List Entry) (e : Entry)
    → HasHistory lines notes → slice_get notes k ≡ Some note → place ≡ note.line → line ≡ get_or lines place line → HandsTold takes k line note before after result
    → AreTold lines notes es → slice_get es k ≡ Some e → Hands takes k e before after result
note_handed takes lines notes k place note line before after result es e history at named is hands are entry =
    let tells = are.told k note e at entry in
    let there = at_index lines place note.line line (line_below lines notes k place note history at named) is named in
    let same : line ≡ tells.line = one_some line tells.line (slice_get lines note.line) there tells.at in
    let calls : op_of line.word note.closes ≡ Some e.op = ap (λ (l : Line). op_of l.word note.closes) same ∙ tells.op in
    hands_as takes k e (entry_of_note line.caller e.op note) before after result (sym tells.reply) (told_note lines note e line e.op tells there calls) (hands e.op calls)

-- ---- one entry more

count_taken : (es : List Entry) (k : ℕ) → k ≤ length es → length (take k es) ≡ k
count_taken es zero below = refl
count_taken [] (suc k) below = absurd (omega arith)
count_taken (x ∷ es) (suc k) below = let rest = count_taken es k (omega arith) in omega arith

pub none_handed : {T E : Type 0} (takes : Takes T E) (es : List Entry) (before : T) → HandsAll takes (take 0 es) before before (record { entries = 0; halted = false })
none_handed takes es before = record { took = refl; entries = refl; halted = refl }

pub entry_handed : {T E : Type 0} (takes : Takes T E) (es : List Entry) (k : ℕ) (e : Entry) (before mid after : T) (ran : Ran) (reply : Reply) → slice_get es k ≡ Some e → HandsAll takes (take k es) before mid ran
    → Hands takes k e mid after (Ok reply)
    → HandsAll takes (take (k + 1) es) before after (record { entries = ran.entries + 1; halted = ran.halted || is_halt reply })
entry_handed takes es k e before mid after ran reply at so hands =
    let within : k < length es = slice_get_within es k e at in
    let count : length (take k es) ≡ k = count_taken es k (omega arith) in
    let next : take (k + 1) es ≡ take k es ++ e ∷ [] = (let one : k + 1 ≡ suc k = omega arith in ap (λ (n : ℕ). take n es) one) ∙ take_next es k e at in
    subst (λ (ys : List Entry). HandsAll takes ys before after (record { entries = ran.entries + 1; halted = ran.halted || is_halt reply })) (sym next) (record {
      took = takes_more takes (take k es) e k before mid after (sym count) so.took hands.1;
      entries = ap (λ (n : ℕ). n + 1) so.entries ∙ sym (length-append (take k es) (e ∷ []));
      halted = (λ i. so.halted i || is_halt (hands.0 i)) ∙ sym (halt_last (take k es) e);
    })

-- the entries before one, and those behind it
parts_at : (es : List Entry) (k : ℕ) (e : Entry) → slice_get es k ≡ Some e → es ≡ take k es ++ e ∷ drop (suc k) es
parts_at [] k e at = absurd (let none : None ≡ Some e = at in cc)
parts_at (x ∷ es) zero e at = ap (λ (y : Entry). y ∷ es) (one_some x e (Some x) refl at)
parts_at (x ∷ es) (suc k) e at = ap (λ (ys : List Entry). x ∷ ys) (parts_at es k e at)

pub stops_in_entries : {T E : Type 0} (takes : Takes T E) (es : List Entry) (k : ℕ) (e : Entry) (before mid after : T) (ran : Ran) (stop : E) → slice_get es k ≡ Some e → HandsAll takes (take k es) before mid ran
    → Hands takes k e mid after (Err stop) → StopsIn takes es before after stop
stops_in_entries takes es k e before mid after ran stop at so hands =
    let within : k < length es = slice_get_within es k e at in
    let count : length (take k es) ≡ k = count_taken es k (omega arith) in
    record {
      taken = take k es;
      entry = e;
      rest = drop (suc k) es;
      parts = parts_at es k e at;
      mid = mid;
      took = so.took;
      stops = subst (λ (n : ℕ). takes n (told e) mid after (Err stop)) (sym count) hands;
    }

pub all_handed : {T E : Type 0} (takes : Takes T E) (es : List Entry) (n : ℕ) (before after : T) (ran : Ran) → length es ≤ n → HandsAll takes (take n es) before after ran → HandsAll takes es before after ran
all_handed takes es n before after ran all so = subst (λ (ys : List Entry). HandsAll takes ys before after ran) (take_all n es all) so

true_false : true ≡ false → ⊥
true_false is = cc

-- ---- the whole race

-- the callers of a race are counted from 1
callers_some : (lines : List Line) (old new : BankState) (notes : List NoteView) (races : Races lines old new notes) → All (λ (e : Entry). 0 < e.caller) (entries_of races.races.front)
callers_some lines old new notes races = λ k d below.
    let on = races.races in
    let es = entries_of on.front in
    let here : slice_get es k ≡ Some (get_or es k d) = slice_get-get_or es k d below in
    let note = some_there races.raced k (let count = on.told.count in omega (arith, count, below)) in
    let tells = on.told.told k note.0 (get_or es k d) note.1 here in
    let some = on.some k note.0 tells.line note.1 tells.at in
    let by = tells.by in
    omega (arith, some, by)

none_kept : (o : Option Erasing) → None ≡ option_map (λ (e : Erasing). e.caller) o → o ≡ None
none_kept None is = refl
none_kept (Some e) is = absurd (let both : None ≡ Some e.caller = is in cc)

race_closed : (lines : List Line) (old new : BankState) (notes : List NoteView) (races : Races lines old new notes) (a : ArrayState) → IsRaceScript lines → Stands old a → new.erase ≡ None
race_closed lines old new notes races a script stands =
    let before = races.arms.leads a stands in
    let on = races.races.stands.each (after_all a races.arms.entries) before.stands in
    let none : opener_of None races.races.front ≡ None =
    none_opened lines races.arms.entries races.races.front (facts_of races.armed) (after_all a races.arms.entries) script races.answers (callers_some lines old new notes races) on.legal in
    none_kept new.erase (sym (ap (λ (o : Option Opener). option_map (λ (x : Opener). x.caller) o) none) ∙ races.races.stands.erase.opener)

-- no cut of it reads, and what the workers read is no more than the last of them has
race_reads : (lines : List Line) (old new : BankState) (notes : List NoteView) (races : Races lines old new notes) (a : ArrayState) → Stands old a → (cut : ArmedCut)
    → (after_all a (races.arms.entries ++ entries_of races.races.front)).armed ≡ Some cut
    → words_read (word_bytes old.found) (races.arms.entries ++ entries_of races.races.front) ≤ cut.after
race_reads lines old new notes races a stands cut armed =
    let cuts = races.arms.entries in
    let raced = entries_of races.races.front in
    let before = races.arms.leads a stands in
    let w = word_bytes old.found in
    let later = (races.races.stands.each (after_all a cuts) before.stands).reads cut (ap (λ (x : ArrayState). x.armed) (sym (after_then a cuts raced)) ∙ armed) in
    let same : word_bytes races.armed.found ≡ w = ap (λ (b : BankState). word_bytes b.found) races.arms.armed.is in
    let within : words_read (word_bytes races.armed.found) raced ≤ cut.after = omega (arith, later) in
    let here = subst (λ (k : ℕ). words_read k raced ≤ cut.after) same within in
    let none = races.arms.unread w in
    let all = words_then w cuts raced in
    omega (arith, here, none, all)

abbrev history : (lines : List Line) (old new : BankState) (notes : List NoteView) → Races lines old new notes → List Entry
history lines old new notes races = races.arms.entries ++ entries_of races.races.front

history_of : (lines : List Line) (old new : BankState) (notes : List NoteView) (races : Races lines old new notes) → IsRaceScript lines → IsHistoryOf true lines old new (history lines old new notes races)
history_of lines old new notes races script = record {
  answers = races.answers;
  leads = races.leads;
  closed = λ raced a stands free. race_closed lines old new notes races a script stands;
  reads = λ raced a stands. race_reads lines old new notes races a stands;
  goes = λ alone. absurd (true_false alone);
}

-- all was handed over, or a part
whole_raced : {T E : Type 0} (takes : Takes T E) (lines : List Line) (old new : BankState) (notes : List NoteView) (before after : T) (ran : Result Ran E) → IsRaceScript lines → Races lines old new notes
    → IfOk ran (λ r. (es : List Entry) → AreTold lines notes es → HandsAll takes es before after r)
    → IfOk ran (RunsWhole takes true lines old new before after)
whole_raced takes lines old new notes before after (Ok r) script races whole =
    let handed = whole (history lines old new notes races) races.told in
    record {
      history = history lines old new notes races;
      is = history_of lines old new notes races script;
      took = handed.took;
      entries = handed.entries;
      halted = handed.halted;
    }
whole_raced takes lines old new notes before after (Err e) script races whole = tt

part_raced : {T E : Type 0} (takes : Takes T E) (lines : List Line) (old new : BankState) (notes : List NoteView) (before after : T) (ran : Result Ran E) → IsRaceScript lines → Races lines old new notes
    → IfErr ran (λ stop. (es : List Entry) → AreTold lines notes es → StopsIn takes es before after stop)
    → IfErr ran (RunsPart takes true lines old new before after)
part_raced takes lines old new notes before after (Ok r) script races part = tt
part_raced takes lines old new notes before after (Err stop) script races part = record {
  history = history lines old new notes races;
  count = length lines;
  all = refl;
  is = subst (λ (ls : List Line). IsHistoryOf true ls old new (history lines old new notes races)) (sym (take_all (length lines) lines (omega arith))) (history_of lines old new notes races script);
  stops = part (history lines old new notes races) races.told;
  last = λ is. absurd (true_false is);
}

pub raced_runs : {K : Type 0} (state : K → SinkState) (lines ls : List Line) (old new : BankState) (notes : List NoteView) (before after : K) (ran : Result Ran SinkError) (result : Result Ran RunError)
    → ls ≡ lines → IsRaceScript lines → Races lines old new notes → result ≡ of_put ran
    → IfOk ran (λ r. (es : List Entry) → AreTold ls notes es → HandsAll (PutsBy state) es before after r)
    → IfErr ran (λ stop. (es : List Entry) → AreTold ls notes es → StopsIn (PutsBy state) es before after stop)
    → RunsLines true lines old new (state before) (state after) result
raced_runs state lines ls old new notes before after ran result same script races put whole part =
    put_runs state true lines old new before after ran result put
    (whole_raced (PutsBy state) lines old new notes before after ran script races
    (subst (λ (xs : List Line). IfOk ran (λ r. (es : List Entry) → AreTold xs notes es → HandsAll (PutsBy state) es before after r)) same whole))
    (part_raced (PutsBy state) lines old new notes before after ran script races
    (subst (λ (xs : List Line). IfErr ran (λ stop. (es : List Entry) → AreTold xs notes es → StopsIn (PutsBy state) es before after stop)) same part))
