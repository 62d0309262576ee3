-- The entries of each caller are those of its lines.
use Rattle.std.proofs.Common.{◌≡◌, ◌<◌, ◌≤◌, ◌+◌, ◌-◌, ◌∙◌, ◌==◌, ⊎_elim, ◌++◌, ◌∷◌, ℕ, zero, suc, List, [], length, Bool, true, false, cond, Some, refl, sym, ap, subst, arith, slice_index_or}
use Rattle.std.specs.Prelude.{slice_get, All}
use Rattle.std.proofs.lemmas.Bool.{cases_lt}
use Rattle.std.proofs.lemmas.List.Elements.{filter_passes}
use Rattle.std.proofs.lemmas.Option.{slice_get_within, slice_get-get_or}
use Rattle.nor_cell.proofs.Logic.{same_number}
use Rattle.nor_array.specs.declared.entry.Entry.{Entry}
use Rattle.nor_bank.specs.State.{BankState}
use Rattle.nor_turn.specs.Fronts.{Name, Front}
use Rattle.nor_turn.specs.Passes.{PassView, Owns}
use Rattle.nor_array.specs.Entries.{IsAwaited}
use Rattle.nor_script.specs.Answering.{AnswersWord, AnswersLines, AnswersRace, lines_by, entries_by}
use Rattle.nor_script.specs.declared.line.Line.{Line}
use Rattle.nor_script.specs.declared.line.Word.{Word}
use Rattle.nor_script.specs.declared.line.Word.TheVariants.{Call, Erase, EraseAll}
use Rattle.nor_driver.specs.Fronts.{entries_of}
use Rattle.nor_race.specs.Noted.{Noted}
use Rattle.nor_race.specs.Ran.{rank, TellsIn, HasNote, Team, Ran}
use Rattle.nor_race.specs.Laws.{AreCallers, callers_of}
use Rattle.nor_race.proofs.Joining.{none_some, some_there, all_get, short_get, rest_get}

-- the note has, in a front that begins at place k, this entry, of caller n
record Fits (n k : ℕ) (x : Noted) (e : Entry) (front : Front Entry) : Type 0 where
  late : k ≤ x.position
  name : Name
  at : slice_get front (x.position - k) ≡ Some (name, e)
  by : e.caller ≡ n

record FitAll (n k : ℕ) (notes : List Noted) (es : List Entry) (front : Front Entry) : Type 0 where
  count : length es ≡ length notes
  each : (j : ℕ) (x : Noted) (e : Entry) → slice_get notes j ≡ Some x → slice_get es j ≡ Some e → Fits n k x e front
  order : (i j : ℕ) (x y : Noted) → i < j → slice_get notes i ≡ Some x → slice_get notes j ≡ Some y → x.position < y.position
  whole : (i : ℕ) (pair : Name × Entry) → slice_get front i ≡ Some pair → pair.1.caller ≡ n → HasNote notes (k + i)

some_is : {A : Type 0} (x y : A) → Some x ≡ Some y → x ≡ y
some_is x y e = cc

other_number : (x y : ℕ) → (x == y) ≡ false → x ≡ y → ⊥
other_number x y e same = grind (arith, e, same)

-- a front behind its first entry, which isn't told
skip : (n k : ℕ) (notes : List Noted) (es : List Entry) (pair : Name × Entry) (front : Front Entry) → FitAll n k notes es (pair ∷ front)
    → ((j : ℕ) (x : Noted) → slice_get notes j ≡ Some x → k < x.position) → FitAll n (k + 1) notes es front
skip n k notes es pair front fit past = record {
  count = fit.count;
  each = λ j x e at at_e.
      let f = fit.each j x e at at_e in
      let later : k < x.position = past j x at in
      let place : x.position - k ≡ suc (x.position - (k + 1)) = omega (arith, later) in
      record { late = omega (arith, later); name = f.name; at = ap (slice_get (pair ∷ front)) (sym place) ∙ f.at; by = f.by };
  order = fit.order;
  whole = λ i p at by. let place : k + suc i ≡ k + 1 + i = omega arith in subst (HasNote notes) place (fit.whole (suc i) p at by);
}

-- the notes behind the first
rest_fit : (n k : ℕ) (x : Noted) (notes : List Noted) (e : Entry) (es : List Entry) (pair : Name × Entry) (front : Front Entry) → FitAll n k (x ∷ notes) (e ∷ es) (pair ∷ front) → x.position ≡ k
    → FitAll n (k + 1) notes es front
rest_fit n k x notes e es pair front fit first = record {
  count = let h = fit.count in omega (arith, h);
  each = λ j y g at at_g.
      let f = fit.each (suc j) y g at at_g in
      let later : x.position < y.position = fit.order 0 (suc j) x y (omega arith) refl at in
      let place : y.position - k ≡ suc (y.position - (k + 1)) = omega (arith, later, first) in
      record { late = omega (arith, later, first); name = f.name; at = ap (slice_get (pair ∷ front)) (sym place) ∙ f.at; by = f.by };
  order = λ i j a b less at_a at_b. fit.order (suc i) (suc j) a b (omega arith) at_a at_b;
  whole = λ i p at by.
      let place : k + suc i ≡ k + 1 + i = omega arith in
      let has = fit.whole (suc i) p at by in
      by_index (k + 1 + i) has.index has.note has.at (has.position ∙ place) (omega arith);
}
  where
    by_index : (at j : ℕ) (y : Noted) → slice_get (x ∷ notes) j ≡ Some y → y.position ≡ at → k < at → HasNote notes at
    by_index at zero y there is late =
        let same : x ≡ y = some_is x y there in
        let here : x.position ≡ y.position = ap (λ (z : Noted). z.position) same in
        absurd (omega (arith, here, is, late, first))
    by_index at (suc j) y there is late = record { index = j; note = y; at = there; position = is }

by_step : (n : ℕ) (es : List Entry) (e : Entry) (b : Bool) → (e.caller == n) ≡ b → entries_by n (e ∷ es) ≡ cond b (e ∷ entries_by n es) (entries_by n es)
by_step n es e b is = ap (λ (t : Bool). cond t (e ∷ entries_by n es) (entries_by n es)) is

-- the first note is at the place of the first entry
first_place : (n k : ℕ) (x : Noted) (notes : List Noted) (e : Entry) (es : List Entry) (pair : Name × Entry) (front : Front Entry) → FitAll n k (x ∷ notes) (e ∷ es) (pair ∷ front)
    → HasNote (x ∷ notes) (k + 0) → x.position ≡ k
first_place n k x notes e es pair front fit has = by_index has.index has.note has.at has.position
  where
    late : k ≤ x.position
    late = (fit.each 0 x e refl refl).late

    by_index : (j : ℕ) (y : Noted) → slice_get (x ∷ notes) j ≡ Some y → y.position ≡ k + 0 → x.position ≡ k
    by_index zero y there is = let same : x.position ≡ y.position = ap (λ (z : Noted). z.position) (some_is x y there) in omega (arith, same, is)
    by_index (suc j) y there is = let less : x.position < y.position = fit.order 0 (suc j) x y (omega arith) refl there in absurd (omega (arith, less, is, late))

-- one entry more in front
one_entry : (n : ℕ) (pair : Name × Entry) (front : Front Entry) (k : ℕ) (notes : List Noted) (es : List Entry) → FitAll n k notes es (pair ∷ front)
    → ((xs : List Noted) (gs : List Entry) → FitAll n (k + 1) xs gs front → entries_by n (entries_of front) ≡ gs)
    → entries_by n (entries_of (pair ∷ front)) ≡ es
one_entry n pair front k notes es fit go = by_test (pair.1.caller == n) refl
  where
    told_some : (xs : List Noted) (gs : List Entry) → FitAll n k xs gs (pair ∷ front) → pair.1.caller ≡ n → pair.1 ∷ entries_by n (entries_of front) ≡ gs
    told_some [] [] fits by = let has = fits.whole 0 pair refl by in none_some has.note has.at
    told_some [] (g ∷ gs) fits by = absurd (let h = fits.count in omega (arith, h))
    told_some (x ∷ xs) [] fits by = absurd (let h = fits.count in omega (arith, h))
    told_some (x ∷ xs) (g ∷ gs) fits by =
        let first : x.position ≡ k = first_place n k x xs g gs pair front fits (fits.whole 0 pair refl by) in
        let f = fits.each 0 x g refl refl in
        let here : x.position - k ≡ 0 = omega (arith, first) in
        let same : pair ≡ (f.name, g) = some_is pair (f.name, g) (ap (slice_get (pair ∷ front)) (sym here) ∙ f.at) in
        ap (λ (e : Entry). e ∷ entries_by n (entries_of front)) (ap (λ (q : Name × Entry). q.1) same) ∙ ap (λ (l : List Entry). g ∷ l) (go xs gs (rest_fit n k x xs g gs pair front fits first))

    past_all : (pair.1.caller ≡ n → ⊥) → (j : ℕ) (x : Noted) → slice_get notes j ≡ Some x → k < x.position
    past_all other j x at =
        let e = some_there es j (let h = fit.count in let i = slice_get_within notes j x at in omega (arith, h, i)) in
        let f = fit.each j x e.0 at e.1 in
        ⊎_elim (λ (less : k < x.position). less)
        (λ (least : x.position ≤ k).
        let late = f.late in
        let here : x.position - k ≡ 0 = omega (arith, least, late) in
        let same : pair ≡ (f.name, e.0) = some_is pair (f.name, e.0) (ap (slice_get (pair ∷ front)) (sym here) ∙ f.at) in
        absurd (other (ap (λ (q : Name × Entry). q.1.caller) same ∙ f.by)))
        (cases_lt k x.position)

    by_test : (b : Bool) → (pair.1.caller == n) ≡ b → entries_by n (entries_of (pair ∷ front)) ≡ es
    by_test true is = by_step n (entries_of front) pair.1 true is ∙ told_some notes es fit (same_number pair.1.caller n is)
    by_test false is = by_step n (entries_of front) pair.1 false is ∙ go notes es (skip n k notes es pair front fit (past_all (other_number pair.1.caller n is)))

-- the entries of caller n are those that its notes tell
theirs : (n : ℕ) (front : Front Entry) (k : ℕ) (notes : List Noted) (es : List Entry) → FitAll n k notes es front → entries_by n (entries_of front) ≡ es
theirs n [] k [] [] fit = refl
theirs n [] k [] (e ∷ es) fit = absurd (let h = fit.count in omega (arith, h))
theirs n [] k (x ∷ notes) [] fit = absurd (let h = fit.count in omega (arith, h))
theirs n [] k (x ∷ notes) (e ∷ es) fit = none_some _ (fit.each 0 x e refl refl).at
theirs n (pair ∷ front) k notes es fit = one_entry n pair front k notes es fit (λ xs gs fits. theirs n front (k + 1) xs gs fits)

-- ---- the history of a team

caller_at : (teams : List Team) (w : ℕ) (t : Team) → slice_get teams w ≡ Some t → slice_get (callers_of teams) w ≡ Some t.caller
caller_at [] w t at = none_some t at
caller_at (z ∷ teams) zero t at = ap (λ (q : Team). Some q.caller) (some_is z t at)
caller_at (z ∷ teams) (suc w) t at = caller_at teams w t at

team_at : (teams : List Team) (w n : ℕ) → slice_get (callers_of teams) w ≡ Some n → (t : Team) × (slice_get teams w ≡ Some t) × (t.caller ≡ n)
team_at [] w n at = none_some n at
team_at (z ∷ teams) zero n at = (z, refl, some_is z.caller n at)
team_at (z ∷ teams) (suc w) n at = team_at teams w n at

-- The lines that a worker has run are of its number, and so are the entries of each note.
pub answered_by : (n : ℕ) (lines : List Line) (es : List Entry) → ((j : ℕ) (line : Line) → slice_get lines j ≡ Some line → line.caller ≡ n) → AnswersLines lines es → (j : ℕ) (e : Entry) → slice_get es j ≡ Some e → e.caller ≡ n
answered_by n [] es by answers j e at = none_some e (ap (λ (l : List Entry). slice_get l j) (sym answers) ∙ at)
answered_by n (line ∷ lines) es by answers j e at = ⊎_elim
    (λ (short : j < length answers.0). word_by line.word answers.0 answers.3 j e (short_get answers.0 answers.1 j e there short) ∙ by 0 line refl)
    (λ (long : length answers.0 ≤ j). answered_by n lines answers.1 (λ k l h. by (suc k) l h) answers.4 (j - length answers.0) e (rest_get answers.0 answers.1 j e there long))
    (cases_lt j (length answers.0))
  where
    only : (x : Entry) (j : ℕ) (e : Entry) → slice_get (x ∷ []) j ≡ Some e → e ≡ x
    only x zero e at = sym (some_is x e at)
    only x (suc j) e at = none_some e at

    both : (x y : Entry) (j : ℕ) (e : Entry) → slice_get (x ∷ y ∷ []) j ≡ Some e → x.caller ≡ line.caller → y.caller ≡ line.caller → e.caller ≡ line.caller
    both x y zero e at one two = ap (λ (z : Entry). z.caller) (sym (some_is x e at)) ∙ one
    both x y (suc zero) e at one two = ap (λ (z : Entry). z.caller) (sym (some_is y e at)) ∙ two
    both x y (suc (suc j)) e at one two = none_some e at

    there : slice_get (answers.0 ++ answers.1) j ≡ Some e
    there = ap (λ (l : List Entry). slice_get l j) (sym answers.2) ∙ at

    word_by : (word : Word) (entries : List Entry) → AnswersWord word line.caller entries → (j : ℕ) (e : Entry) → slice_get entries j ≡ Some e → e.caller ≡ line.caller
    word_by (Call op) [] answers j e at = absurd answers
    word_by (Call op) (x ∷ []) answers j e at = ap (λ (y : Entry). y.caller) (only x j e at) ∙ answers.called_by
    word_by (Call op) (x ∷ y ∷ []) answers j e at = absurd answers
    word_by (Call op) (x ∷ y ∷ z ∷ entries) answers j e at = absurd answers
    word_by (Erase b) [] answers j e at = absurd answers
    word_by (Erase b) (x ∷ []) answers j e at = ap (λ (y : Entry). y.caller) (only x j e at) ∙ answers.opening.called_by
    word_by (Erase b) (x ∷ y ∷ []) answers j e at = both x y j e at answers.opening.called_by answers.polling.called_by
    word_by (Erase b) (x ∷ y ∷ z ∷ entries) answers j e at = absurd answers
    word_by EraseAll [] answers j e at = absurd answers
    word_by EraseAll (x ∷ []) answers j e at = ap (λ (y : Entry). y.caller) (only x j e at) ∙ answers.opening.called_by
    word_by EraseAll (x ∷ y ∷ []) answers j e at = both x y j e at answers.opening.called_by answers.polling.called_by
    word_by EraseAll (x ∷ y ∷ z ∷ entries) answers j e at = absurd answers

module _ (lines : List Line) (teams : List Team) (p : PassView BankState Entry) (callers : AreCallers lines (callers_of teams)) (ran : Ran lines teams p) (owned : All (λ pair. Owns p pair.0) p.seen) where
  record IsTold (place : ℕ) (pair : Name × Entry) : Type 0 where
    worker : ℕ
    team : Team
    index : ℕ
    note : Noted
    at : slice_get teams worker ≡ Some team
    there : slice_get team.notes index ≡ Some note
    position : note.position ≡ place
    called : pair.1.caller ≡ team.caller
    awaited : IsAwaited pair.1.reply

  by_team : (w : ℕ) (t : Team) (at : slice_get teams w ≡ Some t) (j : ℕ) (e : Entry) → slice_get (ran.told w t at).entries j ≡ Some e → e.caller ≡ t.caller
  by_team w t at j e there =
      answered_by t.caller (lines_by t.caller lines) (ran.told w t at).entries
      (λ k line is. same_number line.caller t.caller (all_get (λ (l : Line). (l.caller == t.caller) ≡ true) (lines_by t.caller lines) (filter_passes (λ (l : Line). l.caller == t.caller) lines) k line is))
      (ran.told w t at).answers j e there

  -- the entry that a note tells
  record TellsEntry (w : ℕ) (t : Team) (j : ℕ) (x : Noted) : Type 0 where
    entry : Entry
    tells : TellsIn lines x entry p.seen
    by : entry.caller ≡ t.caller

  tells_entry : (w : ℕ) (t : Team) (j : ℕ) (x : Noted) → slice_get teams w ≡ Some t → slice_get t.notes j ≡ Some x → TellsEntry w t j x
  tells_entry w t j x at there =
      let run = ran.told w t at in
      let e = some_there run.entries j (let h = run.tell.count in let i = slice_get_within t.notes j x there in omega (arith, h, i)) in
      record { entry = e.0; tells = run.tell.each j x e.0 there e.1; by = by_team w t at j e.0 e.1 }

  told_at : (place : ℕ) (pair : Name × Entry) → slice_get p.seen place ≡ Some pair → IsTold place pair
  told_at place pair at =
      let has = ran.own place pair at (all_get (λ (q : Name × Entry). Owns p q.0) p.seen owned place pair at) in
      let told = tells_entry has.worker has.team has.has.index has.has.note has.at has.has.at in
      let same : (told.tells.name, told.entry) ≡ pair = some_is (told.tells.name, told.entry) pair (sym told.tells.at ∙ (ap (slice_get p.seen) has.has.position ∙ at)) in
      record {
        worker = has.worker;
        team = has.team;
        index = has.has.index;
        note = has.has.note;
        at = has.at;
        there = has.has.at;
        position = has.has.position;
        called = ap (λ (q : Name × Entry). q.1.caller) (sym same) ∙ told.by;
        awaited = subst (λ (q : Name × Entry). IsAwaited q.1.reply) same told.tells.awaited;
      }

  team_some : (w : ℕ) (t : Team) → slice_get teams w ≡ Some t → 0 < t.caller
  team_some w t at = callers.some w t.caller (caller_at teams w t at)

  one_team : (v w : ℕ) (s t : Team) → slice_get teams v ≡ Some s → slice_get teams w ≡ Some t → s.caller ≡ t.caller → v ≡ w
  one_team v w s t at_v at_w same = callers.apart v w t.caller (caller_at teams v s at_v ∙ ap (λ (n : ℕ). Some n) same) (caller_at teams w t at_w)

  -- Of two notes for lines of one caller, the one with the lower position has the lower rank.
  pub note_order : (v w i j : ℕ) (s t : Team) (x y : Noted) (a b : Line) → slice_get teams v ≡ Some s → slice_get teams w ≡ Some t → slice_get s.notes i ≡ Some x → slice_get t.notes j ≡ Some y
      → x.position < y.position → slice_get lines x.note.line ≡ Some a → slice_get lines y.note.line ≡ Some b → a.caller ≡ b.caller → rank x.note < rank y.note
  note_order v w i j s t x y a b at_v at_w at_x at_y less is_a is_b one =
      let first = tells_entry v s i x at_v at_x in
      let later = tells_entry w t j y at_w at_y in
      let of_a : a.caller ≡ s.caller = ap (λ (z : Line). z.caller) (some_is a first.tells.tells.line (sym is_a ∙ first.tells.tells.at)) ∙ (sym first.tells.tells.by ∙ first.by) in
      let of_b : b.caller ≡ t.caller = ap (λ (z : Line). z.caller) (some_is b later.tells.tells.line (sym is_b ∙ later.tells.tells.at)) ∙ (sym later.tells.tells.by ∙ later.by) in
      let mine : w ≡ v = one_team w v t s at_w at_v (sym of_b ∙ (sym one ∙ of_a)) in
      let whose : t ≡ s = some_is t s (sym at_w ∙ (ap (slice_get teams) mine ∙ at_v)) in
      in_team (ran.told v s at_v).tell.order (ap (λ (q : Team). slice_get q.notes j) (sym whose) ∙ at_y)
    where
      in_team : ((j k : ℕ) (x y : Noted) → j < k → slice_get s.notes j ≡ Some x → slice_get s.notes k ≡ Some y → (x.position < y.position) × (rank x.note < rank y.note)) → slice_get s.notes j ≡ Some y → rank x.note < rank y.note
      in_team order there = ⊎_elim
          (λ (early : i < j). (order i j x y early at_x there).1)
          (λ (late : j ≤ i). ⊎_elim
          (λ (before : j < i). absurd (let h = (order j i y x before there at_x).0 in omega (arith, h, less)))
          (λ (back : i ≤ j).
          let here : j ≡ i = omega (arith, late, back) in
          let same : x ≡ y = some_is x y (sym at_x ∙ (ap (slice_get s.notes) (sym here) ∙ there)) in
          let equal : x.position ≡ y.position = ap (λ (n : Noted). n.position) same in
          absurd (omega (arith, equal, less)))
          (cases_lt j i))
          (cases_lt i j)

  -- the line of a note is of a caller that is there
  pub note_caller : (w j : ℕ) (t : Team) (x : Noted) (line : Line) → slice_get teams w ≡ Some t → slice_get t.notes j ≡ Some x → slice_get lines x.note.line ≡ Some line → 0 < line.caller
  note_caller w j t x line at there is =
      let told = tells_entry w t j x at there in
      let same : line.caller ≡ t.caller = ap (λ (z : Line). z.caller) (some_is line told.tells.tells.line (sym is ∙ told.tells.tells.at)) ∙ (sym told.tells.tells.by ∙ told.by) in
      let some = team_some w t at in
      omega (arith, same, some)

  of_team : (n w : ℕ) (t : Team) (at : slice_get teams w ≡ Some t) → t.caller ≡ n → FitAll n 0 t.notes (ran.told w t at).entries p.seen
  of_team n w t at number = record {
    count = (ran.told w t at).tell.count;
    each = λ j x e there is.
        let tells = (ran.told w t at).tell.each j x e there is in
        let place : x.position - 0 ≡ x.position = omega arith in
        record { late = omega arith; name = tells.name; at = ap (slice_get p.seen) place ∙ tells.at; by = by_team w t at j e is ∙ number };
    order = λ i j x y less at_x at_y. ((ran.told w t at).tell.order i j x y less at_x at_y).0;
    whole = λ i pair there called.
        let told = told_at i pair there in
        let mine : told.worker ≡ w = one_team told.worker w told.team t told.at at (sym told.called ∙ (called ∙ sym number)) in
        let team_is : told.team ≡ t = some_is told.team t (sym told.at ∙ (ap (slice_get teams) mine ∙ at)) in
        let place : 0 + i ≡ i = omega arith in
        record { index = told.index; note = told.note; at = ap (λ (q : Team). slice_get q.notes told.index) (sym team_is) ∙ told.there; position = told.position ∙ sym place };
  }

  -- no entry is of a caller that has no lines
  of_none : (n : ℕ) → lines_by n lines ≡ [] → FitAll n 0 [] [] p.seen
  of_none n none = record {
    count = refl;
    each = λ j x e there is. none_some x there;
    order = λ i j x y less at_x at_y. none_some x at_x;
    whole = λ i pair there called.
        let told = told_at i pair there in
        let run = ran.told told.worker told.team told.at in
        let number : told.team.caller ≡ n = sym told.called ∙ called in
        let no_lines : lines_by told.team.caller lines ≡ [] = ap (λ (k : ℕ). lines_by k lines) number ∙ none in
        let no_entries : run.entries ≡ [] = subst (λ (ls : List Line). AnswersLines ls run.entries) no_lines run.answers in
        let few : length told.team.notes ≡ 0 = sym run.tell.count ∙ ap length no_entries in
        absurd (let h = slice_get_within told.team.notes told.index told.note told.there in omega (arith, few, h));
  }

  each_entry : (P : Entry → Type 0) → ((place : ℕ) (pair : Name × Entry) → slice_get p.seen place ≡ Some pair → P pair.1) → All P (entries_of p.seen)
  each_entry P each k d below =
      let pairs : k < length p.seen = let h = length_map p.seen in omega (arith, h, below) in
      let pair : Name × Entry = slice_index_or p.seen k ([], d) in
      let at = slice_get-get_or p.seen k ([], d) pairs in
      subst P (sym (entry_at p.seen k d pairs)) (each k pair at)
    where
      length_map : (front : Front Entry) → length (entries_of front) ≡ length front
      length_map [] = refl
      length_map (q ∷ front) = ap suc (length_map front)

      entry_at : (front : Front Entry) (k : ℕ) (d : Entry) → k < length front → slice_index_or (entries_of front) k d ≡ (slice_index_or front k ([], d)).1
      entry_at [] k d below = absurd (omega arith)
      entry_at (q ∷ front) zero d below = refl
      entry_at (q ∷ front) (suc k) d below = entry_at front k d (omega arith)

  answers_each : (n : ℕ) → 0 < n → AnswersLines (lines_by n lines) (entries_by n (entries_of p.seen))
  answers_each n some = ⊎_elim
      (λ (has : (w : ℕ) × (slice_get (callers_of teams) w ≡ Some n)).
      let t = team_at teams has.0 n has.1 in
      subst (AnswersLines (lines_by n lines)) (sym (theirs n p.seen 0 t.0.notes (ran.told has.0 t.0 t.1).entries (of_team n has.0 t.0 t.1 t.2)))
      (subst (λ (k : ℕ). AnswersLines (lines_by k lines) (ran.told has.0 t.0 t.1).entries) t.2 (ran.told has.0 t.0 t.1).answers))
      (λ (none : lines_by n lines ≡ []).
      subst (AnswersLines (lines_by n lines)) (sym (theirs n p.seen 0 [] [] (of_none n none))) (subst (λ (ls : List Line). AnswersLines ls []) (sym none) refl))
      (callers.all n some)

  pub team_answers : (cuts : List Entry) → AnswersLines (lines_by 0 lines) cuts → AnswersRace lines (cuts ++ entries_of p.seen)
  team_answers cuts armed = record {
    cuts = cuts;
    raced = entries_of p.seen;
    parts = refl;
    armed = armed;
    callers = each_entry (λ (e : Entry). 0 < e.caller) (λ place pair at. let t = told_at place pair at in subst (λ (k : ℕ). 0 < k) (sym t.called) (team_some t.worker t.team t.at));
    each = answers_each;
    awaited = each_entry (λ (e : Entry). IsAwaited e.reply) (λ place pair at. (told_at place pair at).awaited);
  }

pub teams_answer : (lines : List Line) (teams : List Team) (cuts : List Entry) (p : PassView BankState Entry) → AreCallers lines (callers_of teams) → AnswersLines (lines_by 0 lines) cuts → Ran lines teams p
    → All (λ pair. Owns p pair.0) p.seen → AnswersRace lines (cuts ++ entries_of p.seen)
teams_answer lines teams cuts p callers armed ran owned = team_answers lines teams p callers ran owned cuts armed
