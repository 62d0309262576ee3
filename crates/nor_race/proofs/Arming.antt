-- The cuts of a script, armed one after the other.
use Rattle.std.proofs.Common.{◌≡◌, ◌<◌, ◌≤◌, ◌+◌, ◌∙◌, inl, inr, ⊎_elim, ◌++◌, ◌∷◌, ℕ, zero, suc, List, [], length, map, take, false, Option, Some, None, refl, sym, ap, subst, arith, slice_set, get_or}
use Rattle.std.specs.Prelude.{slice_get, All}
use Rattle.std.specs.Option.{option_map}
use Rattle.std.proofs.lemmas.Bool.{cases_lt}
use Rattle.std.proofs.lemmas.List.{length-append, take_all}
use Rattle.std.proofs.lemmas.List.Elements.{All-push}
use Rattle.std.proofs.lemmas.Option.{slice_get_within, slice_get-get_or}
use Rattle.nor_array.specs.Array.{ArrayState}
use Rattle.nor_array.specs.After.{after_all}
use Rattle.nor_array.specs.Legal.{Facts, Agrees}
use Rattle.nor_array.specs.declared.entry.Entry.{Entry}
use Rattle.nor_array.specs.declared.entry.Halted.{Halted as HaltCause}
use Rattle.nor_array.specs.declared.entry.Op.{Op}
use Rattle.nor_array.specs.declared.entry.Op.TheVariants.{Arm}
use Rattle.nor_array.specs.declared.entry.Reply.{Reply}
use Rattle.nor_array.specs.declared.entry.Reply.TheVariants.{Done, Halted}
use Rattle.nor_array.proofs.Histories.{after_last, legal_more}
use Rattle.nor_history.specs.Histories.{words_of, words_read}
use Rattle.nor_history.proofs.Histories.{words_then}
use Rattle.nor_bank.specs.Calls.{entry_of, facts_of, MakesEntry}
use Rattle.nor_bank.specs.Refused.{bank_refusal}
use Rattle.nor_bank.specs.Stands.{Stands}
use Rattle.nor_bank.specs.State.{BankState}
use Rattle.nor_bank.specs.Whole.{Arms}
use Rattle.nor_bank.proofs.Arming.{arm_refusal}
use Rattle.nor_script.specs.Answering.{AnswersWord, AnswersLines, lines_by}
use Rattle.nor_script.specs.declared.line.Line.{Line}
use Rattle.nor_script.specs.declared.line.Word.{Word}
use Rattle.nor_script.specs.declared.line.Word.TheVariants.{Call}
use Rattle.nor_script.proofs.Answered.{answers_line, answers_more}
use Rattle.nor_driver.specs.Callers.{Gives}
use Rattle.nor_race.specs.Cuts.{IsCut, IsOfCut, AreCuts, IsArmed, ArmsCut, ArmsFrom, ArmsAll}
use Rattle.nor_race.specs.Noted.{NoteView}
use Rattle.nor_race.specs.Ran.{op_of, Tells}
use Rattle.nor_race.specs.Tasks.{AreLinesBy}
use Rattle.nor_race.proofs.Joining.{none_some, one_some, some_there, map_get, map_size, take_next}
use Rattle.nor_race.proofs.Working.{set_same, set_other, size_set, last_get}

-- ---- one cut

pub cut_armed : (line : Line) (n m : ℕ) (old new : BankState) (reply : Reply) → IsCut line → line.word ≡ Call (Arm n m) → old.halted ≡ None → Arms n m old new reply → ArmsCut line old new reply
cut_armed line n m old new reply cut word running arms =
    let none : bank_refusal old 0 (Arm n m) ≡ None = arm_refusal old n m ∙ ap (λ (h : Option HaltCause). option_map Halted h) running in
    let done = arms.done none in
    record {
      entry = entry_of old new 0 (Arm n m) Done [];
      cut = record { after = n; mask = m; word = word; caller = cut.caller };
      op = refl;
      by = refl;
      done = done.0;
      reply_is = refl;
      none = refl;
      armed = record { armed = Some (record { after = n; mask = m }); after = n; is = done.1 };
      makes = λ a stands. subst (λ (r : Reply). MakesEntry old new (entry_of old new 0 (Arm n m) r []) a) done.0 (arms.makes a stands);
    }

-- it reads nothing
no_words : (w : ℕ) (e : Entry) (n m : ℕ) → e.reply ≡ Done → e.op ≡ Arm n m → words_of w e.reply e.op ≡ 0
no_words w e n m done arms = ap (λ (r : Reply). words_of w r e.op) done ∙ ap (λ (o : Op). words_of w Done o) arms

-- ---- a bank in which cuts are armed

pub armed_none : (b : BankState) → IsArmed b b
armed_none b = record { armed = b.bus.armed; after = b.after; is = refl }

armed_then : (a b c : BankState) → IsArmed a b → IsArmed b c → IsArmed a c
armed_then a b c one two = record {
  armed = two.armed;
  after = two.after;
  is = two.is ∙ ap (λ (x : BankState). record x { bus = record x.bus { armed = two.armed }; after = two.after }) one.is;
}

pub still_running : (old new : BankState) → IsArmed old new → new.halted ≡ old.halted
still_running old new is = ap (λ (b : BankState). b.halted) is.is

same_facts : (old new : BankState) → IsArmed old new → facts_of new ≡ facts_of old
same_facts old new is = ap facts_of is.is

-- ---- the loop

-- the first i cuts were armed
pub record ArmedTo (lines : List Line) (start notes : List NoteView) (old now : BankState) (i : ℕ) : Type 0 where
  pub size : length notes ≡ length start
  pub rest : (j : ℕ) (note : NoteView) → i ≤ j → slice_get notes j ≡ Some note → slice_get start j ≡ Some note
  pub places : map (λ (n : NoteView). n.line) notes ≡ map (λ (n : NoteView). n.line) start
  pub each : (j : ℕ) (note : NoteView) → slice_get notes j ≡ Some note → IsOfCut lines note
  pub entries : List Entry
  pub count : length entries ≡ i
  pub told : (k : ℕ) (note : NoteView) (e : Entry) → slice_get notes k ≡ Some note → slice_get entries k ≡ Some e → Tells lines note e
  pub answers : AnswersLines (take i (lines_by 0 lines)) entries
  pub done : All (λ (e : Entry). e.reply ≡ Done) entries
  pub unread : (w : ℕ) → words_read w entries ≡ 0
  pub armed : IsArmed old now
  pub leads : (a : ArrayState) → Stands old a → ArmsFrom old now entries a

pub armed_first : (lines : List Line) (start : List NoteView) (b : BankState) → AreCuts lines start → ArmedTo lines start start b b 0
armed_first lines start b are = record {
  size = refl;
  rest = λ j note long at. at;
  places = refl;
  each = are.each;
  entries = [];
  count = refl;
  told = λ k note e at there. none_some e there;
  answers = refl;
  done = λ k d below. absurd (omega (arith, below));
  unread = λ w. refl;
  armed = armed_none b;
  leads = λ a stands. record { legal = tt; stands = stands };
}

-- what the next one needs
pub record CanArm (lines : List Line) (now : BankState) (note : NoteView) (line : Line) : Type 0 where
  pub below : note.line < length lines
  pub cut : IsCut line
  pub running : now.halted ≡ None

line_is : (lines : List Line) (note : NoteView) (line : Line) → (of : IsOfCut lines note) → line ≡ get_or lines note.line line → line ≡ of.line
line_is lines note line of is =
    one_some line of.line (slice_get lines note.line) (slice_get-get_or lines note.line line (slice_get_within lines note.line of.line of.at) ∙ ap (λ (l : Line). Some l) (sym is)) of.at

pub cut_below : (lines : List Line) (start notes : List NoteView) (old now : BankState) (i : ℕ) (note other : NoteView) → ArmedTo lines start notes old now i → i < length notes → note ≡ get_or notes i other → note.line < length lines
cut_below lines start notes old now i note other so below is =
    let of = so.each i note (slice_get-get_or notes i other below ∙ ap (λ (n : NoteView). Some n) (sym is)) in
    slice_get_within lines note.line of.line of.at

pub cut_there : (lines : List Line) (start notes : List NoteView) (old now : BankState) (i : ℕ) (note other : NoteView) (line : Line) → ArmedTo lines start notes old now i → i < length notes → note ≡ get_or notes i other
    → line ≡ get_or lines note.line line → IsCut line
cut_there lines start notes old now i note other line so below is line_at =
    let of = so.each i note (slice_get-get_or notes i other below ∙ ap (λ (n : NoteView). Some n) (sym is)) in
    subst IsCut (sym (line_is lines note line of line_at)) of.cut

pub armed_more : (lines : List Line) (start notes : List NoteView) (old now next : BankState) (i : ℕ) (note other new : NoteView) (line : Line) (reply : Reply) → AreCuts lines start → ArmedTo lines start notes old now i → i < length notes
    → note ≡ get_or notes i other → line ≡ get_or lines note.line line → new ≡ record note { reply = reply } → ArmsCut line now next reply → ArmedTo lines start (slice_set notes i new) old next (i + 1)
armed_more lines start notes old now next i note other new line reply are so below is line_at new_is arms =
    let here : slice_get notes i ≡ Some note = slice_get-get_or notes i other below ∙ ap (λ (n : NoteView). Some n) (sym is) in
    let of = so.each i note here in
    let line_of : line ≡ of.line = line_is lines note line of line_at in
    let same_line : new.line ≡ note.line = ap (λ (n : NoteView). n.line) new_is in
    let is_of : IsOfCut lines new = record { line = of.line; at = ap (slice_get lines) same_line ∙ of.at; cut = of.cut; closes = ap (λ (n : NoteView). n.closes) new_is ∙ of.closes } in
    let tells : Tells lines new arms.entry = record {
      line = of.line;
      at = ap (slice_get lines) same_line ∙ of.at;
      op = ap (op_of of.line.word) is_of.closes ∙ (ap (λ (w : Word). op_of w false) (ap (λ (l : Line). l.word) (sym line_of) ∙ arms.cut.word) ∙ ap (λ (o : Op). Some o) (sym arms.op));
      by = arms.by ∙ sym of.cut.caller;
      reply = arms.reply_is ∙ (sym arms.done ∙ ap (λ (n : NoteView). n.reply) (sym new_is));
      bytes = gives_cut new.reply arms.entry.op new.bytes arms.entry.bytes (ap (λ (n : NoteView). n.reply) new_is ∙ arms.done) arms.op arms.none;
    } in
    let mine : i < length (lines_by 0 lines) = let h = are.places.count in let k = map_size (λ (n : NoteView). n.line) start in let s = so.size in omega (arith, h, k, s, below) in
    let told = some_there (lines_by 0 lines) i mine in
    let was : slice_get start i ≡ Some note = so.rest i note (omega arith) here in
    let mine_is : told.0 ≡ of.line = one_some told.0 of.line (slice_get lines note.line) (are.places.told i note.line told.0 (map_get (λ (n : NoteView). n.line) start i note was) told.1) of.at in
    let own : take (i + 1) (lines_by 0 lines) ≡ take i (lines_by 0 lines) ++ of.line ∷ [] =
    (let step : i + 1 ≡ suc i = omega arith in ap (λ (k : ℕ). take k (lines_by 0 lines)) step)
    ∙ (take_next (lines_by 0 lines) i told.0 told.1 ∙ ap (λ (l : Line). take i (lines_by 0 lines) ++ l ∷ []) mine_is) in
    record {
      size = size_set notes i new ∙ so.size;
      rest = λ j n long at. so.rest j n (omega (arith, long)) (sym (set_other notes i j new (inr (omega (arith, long)))) ∙ at);
      places = same_places notes i note other new is same_line below ∙ so.places;
      each = λ j n at. by_place (λ (x : NoteView). IsOfCut lines x) j n at is_of (λ at_old. so.each j n at_old);
      entries = so.entries ++ arms.entry ∷ [];
      count = length-append so.entries (arms.entry ∷ []) ∙ ap (λ (k : ℕ). k + 1) so.count;
      told = λ k n e at there. ⊎_elim
          (λ (old_e : slice_get so.entries k ≡ Some e).
          let early : k < i = let h = slice_get_within so.entries k e old_e in let c = so.count in omega (arith, h, c) in
          so.told k n e (sym (set_other notes i k new (inl early)) ∙ at) old_e)
          (λ (new_e : (k ≡ length so.entries) × (arms.entry ≡ e)).
          let last : k ≡ i = new_e.0 ∙ so.count in
          let n_is : new ≡ n = one_some new n (slice_get (slice_set notes i new) i) (set_same notes i new below) (ap (slice_get (slice_set notes i new)) (sym last) ∙ at) in
          subst (λ (x : NoteView). Tells lines x e) n_is (subst (λ (f : Entry). Tells lines new f) new_e.1 tells))
          (last_get so.entries arms.entry e k there);
      answers = subst (λ (ls : List Line). AnswersLines ls (so.entries ++ arms.entry ∷ [])) (sym own)
          (answers_more (take i (lines_by 0 lines)) (of.line ∷ []) so.entries (arms.entry ∷ []) so.answers (answers_line of.line (arms.entry ∷ [])
          (subst (λ (w : Word). AnswersWord w of.line.caller (arms.entry ∷ [])) (sym (ap (λ (l : Line). l.word) (sym line_of) ∙ arms.cut.word))
          (record { called_by = arms.by ∙ sym of.cut.caller; calls = arms.op }))));
      done = All-push (λ (e : Entry). e.reply ≡ Done) so.entries arms.entry so.done arms.reply_is;
      unread = λ w.
          let before = so.unread w in
          let mine = no_words w arms.entry arms.cut.after arms.cut.mask arms.reply_is arms.op in
          words_then w so.entries (arms.entry ∷ []) ∙ omega (arith, before, mine);
      armed = armed_then old now next so.armed arms.armed;
      leads = λ a stands.
          let before = so.leads a stands in
          let made = arms.makes (after_all a so.entries) before.stands in
          record {
            legal = legal_more (facts_of old) a so.entries arms.entry before.legal made.admitted (subst (λ (f : Facts). Agrees f (after_all a so.entries) arms.entry) (same_facts old now so.armed) made.agrees);
            stands = subst (Stands next) (sym (after_last a so.entries arms.entry)) made.stands;
          };
    }
  where
    gives_cut : (r : Reply) (op : Op) (given bytes : List ℕ) → r ≡ Done → op ≡ Arm arms.cut.after arms.cut.mask → bytes ≡ [] → Gives r op given bytes
    gives_cut r op given bytes done calls none =
        subst (λ (q : Reply). Gives q op given bytes) (sym done) (subst (λ (o : Op). Gives Done o given bytes) (sym calls) none)

    by_place : (P : NoteView → Type 0) (j : ℕ) (n : NoteView) → slice_get (slice_set notes i new) j ≡ Some n → P new → (slice_get notes j ≡ Some n → P n) → P n
    by_place P j n at one other = ⊎_elim
        (λ (early : j < i). other (sym (set_other notes i j new (inl early)) ∙ at))
        (λ (late : i ≤ j). ⊎_elim
        (λ (more : i < j). other (sym (set_other notes i j new (inr more)) ∙ at))
        (λ (back : j ≤ i).
        let same : j ≡ i = omega (arith, late, back) in
        subst P (one_some new n (slice_get (slice_set notes i new) i) (set_same notes i new below) (ap (slice_get (slice_set notes i new)) (sym same) ∙ at)) one)
        (cases_lt i j))
        (cases_lt j i)

    same_places : (ns : List NoteView) (k : ℕ) (x d y : NoteView) → x ≡ get_or ns k d → y.line ≡ x.line → k < length ns → map (λ (n : NoteView). n.line) (slice_set ns k y) ≡ map (λ (n : NoteView). n.line) ns
    same_places [] k x d y at same short = absurd (omega (arith, short))
    same_places (z ∷ ns) zero x d y at same short = ap (λ (n : ℕ). n ∷ map (λ (v : NoteView). v.line) ns) (same ∙ ap (λ (v : NoteView). v.line) at)
    same_places (z ∷ ns) (suc k) x d y at same short = ap (λ (l : List ℕ). z.line ∷ l) (same_places ns k x d y at same (omega (arith, short)))

pub all_armed : (lines : List Line) (start notes : List NoteView) (old now : BankState) (i : ℕ) → AreCuts lines start → ArmedTo lines start notes old now i → length notes ≤ i → i ≤ length notes → ArmsAll lines notes old now
all_armed lines start notes old now i are so long least = record {
  entries = so.entries;
  count = let h = so.count in omega (arith, h, long, least);
  told = so.told;
  cuts = record { places = subst (λ (ps : List ℕ). AreLinesBy lines 0 ps) (sym so.places) are.places; each = so.each };
  answers = subst (λ (ls : List Line). AnswersLines ls so.entries)
      (take_all i (lines_by 0 lines) (let h = are.places.count in let k = map_size (λ (n : NoteView). n.line) start in let s = so.size in omega (arith, h, k, s, long))) so.answers;
  done = so.done;
  unread = so.unread;
  armed = so.armed;
  leads = so.leads;
}
