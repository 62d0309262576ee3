-- Notes put at their places.
use Rattle.std.proofs.Common.{◌≡◌, ◌<◌, ◌≤◌, ◌+◌, ◌-◌, ◌∙◌, ◌⊎◌, inl, inr, ⊎_elim, ◌++◌, ◌∷◌, ℕ, zero, suc, List, [], length, min, true, Option, Some, refl, sym, ap, subst, arith, append_assoc, append-nil, slice_set, slice_index_or}
use Rattle.std.specs.Prelude.{slice_get, All}
use Rattle.std.proofs.lemmas.Bool.{cases_lt}
use Rattle.std.proofs.lemmas.Option.{slice_get_within, slice_get-get_or}
use Rattle.nor_array.specs.declared.entry.Entry.{Entry}
use Rattle.nor_bank.specs.State.{BankState}
use Rattle.nor_turn.specs.Fronts.{Name}
use Rattle.nor_turn.specs.Passes.{PassView, Owns}
use Rattle.nor_script.specs.declared.line.Line.{Line}
use Rattle.nor_driver.specs.declared.caller.Answer.{Answer}
use Rattle.nor_race.specs.Noted.{NoteView, Noted, call_of, closes_of, noted_of, told_of}
use Rattle.nor_race.specs.Places.{all_of, IsOneOf, IsAt, Placed}
use Rattle.nor_race.specs.Ran.{Team, Ran, HasNote, TellsIn}
use Rattle.nor_race.specs.Teams.{team_of, teams_of}
use Rattle.nor_race.specs.declared.task.Task.{Task}
use Rattle.nor_race.specs.declared.team.Racer.{Racer}
use Rattle.nor_race.proofs.Joining.{none_some, one_some, some_there, prefix_get, short_get, rest_get, later_get, all_get}
use Rattle.nor_race.proofs.Working.{last_there, set_same, set_other, size_set}

-- ---- one of several lists

in_left : (xs ys : List Noted) (x : Noted) → IsOneOf xs x → IsOneOf (xs ++ ys) x
in_left xs ys x one = (one.0, prefix_get xs ys one.0 x one.1)

in_right : (xs ys : List Noted) (x : Noted) → IsOneOf ys x → IsOneOf (xs ++ ys) x
in_right xs ys x one = (length xs + one.0, later_get xs ys one.0 x one.1)

in_either : (xs ys : List Noted) (x : Noted) → IsOneOf (xs ++ ys) x → IsOneOf xs x ⊎ IsOneOf ys x
in_either xs ys x one = ⊎_elim
    (λ (short : one.0 < length xs). inl (one.0, short_get xs ys one.0 x one.1 short))
    (λ (long : length xs ≤ one.0). inr (one.0 - length xs, rest_get xs ys one.0 x one.1 long))
    (cases_lt one.0 (length xs))

pub in_all : (teams : List Team) (w : ℕ) (team : Team) (x : Noted) → slice_get teams w ≡ Some team → IsOneOf team.notes x → IsOneOf (all_of teams) x
in_all [] w team x at one = none_some team at
in_all (t ∷ teams) zero team x at one = let same : t ≡ team = one_some t team (Some t) refl at in in_left t.notes (all_of teams) x (subst (λ (q : Team). IsOneOf q.notes x) (sym same) one)
in_all (t ∷ teams) (suc w) team x at one = in_right t.notes (all_of teams) x (in_all teams w team x at one)

-- a worker that has the note
pub record IsWorkersOf (teams : List Team) (x : Noted) : Type 0 where
  pub worker : ℕ
  pub team : Team
  pub at : slice_get teams worker ≡ Some team
  pub one : IsOneOf team.notes x

of_all : (teams : List Team) (x : Noted) → IsOneOf (all_of teams) x → IsWorkersOf teams x
of_all [] x one = none_some x one.1
of_all (t ∷ teams) x one = ⊎_elim
    (λ (here : IsOneOf t.notes x). record { worker = 0; team = t; at = refl; one = here })
    (λ (later : IsOneOf (all_of teams) x). let has = of_all teams x later in record { worker = suc has.worker; team = has.team; at = has.at; one = has.one })
    (in_either t.notes (all_of teams) x one)

-- ---- notes put at their places

at_left : (xs ys : List Noted) (place : ℕ) (note : NoteView) → IsAt xs place note → IsAt (xs ++ ys) place note
at_left xs ys place note is = record { noted = is.noted; one = in_left xs ys is.noted is.one; position = is.position; is = is.is }

at_right : (xs ys : List Noted) (place : ℕ) (note : NoteView) → IsAt ys place note → IsAt (xs ++ ys) place note
at_right xs ys place note is = record { noted = is.noted; one = in_right xs ys is.noted is.one; position = is.position; is = is.is }

pub placed_none : (table : List NoteView) → Placed [] table table
placed_none table = record { size = refl; put = λ x one. none_some x one.1; each = λ place note at. inl at }

only_one : (x y : Noted) → IsOneOf (x ∷ []) y → x ≡ y
only_one x y one = by_place one.0 one.1
  where
    by_place : (j : ℕ) → slice_get (x ∷ []) j ≡ Some y → x ≡ y
    by_place zero at = one_some x y (Some x) refl at
    by_place (suc j) at = none_some y at

pub placed_one : (table : List NoteView) (x : Noted) → x.position < length table → Placed (x ∷ []) table (slice_set table x.position x.note)
placed_one table x within = record {
  size = size_set table x.position x.note;
  put = λ y one.
      let same : x ≡ y = only_one x y one in
      subst (λ (n : Noted). (there : NoteView) × (slice_get (slice_set table x.position x.note) n.position ≡ Some there) × IsAt (x ∷ []) n.position there) same
      (x.note, set_same table x.position x.note within, record { noted = x; one = (0, refl); position = refl; is = refl });
  each = λ place note at. ⊎_elim
      (λ (less : place < x.position). inl (sym (set_other table x.position place x.note (inl less)) ∙ at))
      (λ (long : x.position ≤ place). ⊎_elim
      (λ (more : x.position < place). inl (sym (set_other table x.position place x.note (inr more)) ∙ at))
      (λ (short : place ≤ x.position).
      let here : place ≡ x.position = omega (arith, long, short) in
      let same : x.note ≡ note = one_some x.note note (slice_get (slice_set table x.position x.note) x.position) (set_same table x.position x.note within) (ap (slice_get (slice_set table x.position x.note)) (sym here) ∙ at) in
      inr (record { noted = x; one = (0, refl); position = sym here; is = same }))
      (cases_lt x.position place))
      (cases_lt place x.position);
}

pub placed_then : (xs ys : List Noted) (t u v : List NoteView) → Placed xs t u → Placed ys u v → Placed (ys ++ xs) t v
placed_then xs ys t u v one two = record {
  size = two.size ∙ one.size;
  put = λ x is. ⊎_elim
      (λ (new : IsOneOf ys x). let p = two.put x new in (p.0, p.1, at_left ys xs x.position p.0 p.2))
      (λ (old : IsOneOf xs x). after x (one.put x old))
      (in_either ys xs x is);
  each = λ place note at. ⊎_elim
      (λ (same : slice_get u place ≡ Some note). ⊎_elim
      (λ (first : slice_get t place ≡ Some note). inl first)
      (λ (put : IsAt xs place note). inr (at_right ys xs place note put))
      (one.each place note same))
      (λ (put : IsAt ys place note). inr (at_left ys xs place note put))
      (two.each place note at);
}
  where
    after : (x : Noted) → (there : NoteView) × (slice_get u x.position ≡ Some there) × IsAt xs x.position there
        → (there : NoteView) × (slice_get v x.position ≡ Some there) × IsAt (ys ++ xs) x.position there
    after x p =
        let now = some_there v x.position (let h = slice_get_within u x.position p.0 p.1 in let s = two.size in omega (arith, h, s)) in
        ⊎_elim
        (λ (same : slice_get u x.position ≡ Some now.0).
        let equal : p.0 ≡ now.0 = one_some p.0 now.0 (slice_get u x.position) p.1 same in
        (now.0, now.1, subst (λ (n : NoteView). IsAt (ys ++ xs) x.position n) equal (at_right ys xs x.position p.0 p.2)))
        (λ (put : IsAt ys x.position now.0). (now.0, now.1, at_left ys xs x.position now.0 put))
        (two.each x.position now.0 now.1)

pub close_there : (line n : ℕ) (close : Option Answer) (answer : Answer) → close ≡ Some answer → All (λ (x : Noted). x.position < n) (closes_of line close) → answer.position < n
close_there line n close answer is within = (subst (λ (o : Option Answer). All (λ (x : Noted). x.position < n) (closes_of line o)) is within) 0 (record { position = 0; note = record { line = 0; closes = true; reply = answer.reply; bytes = [] } }) (omega arith)

pub close_put : (line : ℕ) (close : Option Answer) (answer : Answer) (table : List NoteView) → close ≡ Some answer → answer.position < length table
    → Placed (closes_of line close) table (slice_set table answer.position (record { line = line; closes = true; reply = answer.reply; bytes = [] }))
close_put line close answer table is within =
    subst (λ (o : Option Answer). Placed (closes_of line o) table (slice_set table answer.position (record { line = line; closes = true; reply = answer.reply; bytes = [] }))) (sym is)
    (placed_one table (record { position = answer.position; note = record { line = line; closes = true; reply = answer.reply; bytes = [] } }) within)

-- ---- the notes of one worker, taken from the end

pub record PutTo (start left : List Task) (old now : List NoteView) : Type 0 where
  pub done : List Task
  pub parts : start ≡ left ++ done
  pub placed : Placed (told_of done) old now

pub put_none : (start : List Task) (table : List NoteView) → PutTo start start table table
put_none start table = record { done = []; parts = sym (append-nil start); placed = placed_none table }

-- the notes of one of the tasks are among all
in_told : (tasks : List Task) (j : ℕ) (task : Task) (x : Noted) → slice_get tasks j ≡ Some task → IsOneOf (noted_of task) x → IsOneOf (told_of tasks) x
in_told [] j task x at one = none_some task at
in_told (t ∷ tasks) zero task x at one = let same : t ≡ task = one_some t task (Some t) refl at in in_left (noted_of t) (told_of tasks) x (subst (λ (q : Task). IsOneOf (noted_of q) x) (sym same) one)
in_told (t ∷ tasks) (suc j) task x at one = in_right (noted_of t) (told_of tasks) x (in_told tasks j task x at one)

all_one : (notes : List Noted) (n : ℕ) → All (λ (x : Noted). x.position < n) notes → (x : Noted) → IsOneOf notes x → x.position < n
all_one notes n all x one = all_get (λ (y : Noted). y.position < n) notes all one.0 x one.1

one_all : (notes : List Noted) (n : ℕ) → ((x : Noted) → IsOneOf notes x → x.position < n) → All (λ (x : Noted). x.position < n) notes
one_all notes n each k d below = each (slice_index_or notes k d) (k, slice_get-get_or notes k d below)

pub task_within : (start left rest : List Task) (old now : List NoteView) (task : Task) → PutTo start left old now → left ≡ rest ++ task ∷ [] → All (λ (x : Noted). x.position < length old) (told_of start)
    → All (λ (x : Noted). x.position < length now) (noted_of task)
task_within start left rest old now task so is within =
    let there : slice_get start (length rest) ≡ Some task =
    ap (λ (l : List Task). slice_get l (length rest)) so.parts ∙ prefix_get left so.done (length rest) task (ap (λ (l : List Task). slice_get l (length rest)) is ∙ last_there rest task) in
    one_all (noted_of task) (length now) (λ x one. let below = all_one (told_of start) (length old) within x (in_told start (length rest) task x there one) in let size = so.placed.size in omega (arith, below, size))

-- of a task, the close is put first
pub close_within : (task : Task) (n : ℕ) → All (λ (x : Noted). x.position < n) (noted_of task) → All (λ (x : Noted). x.position < n) (closes_of task.line task.close)
close_within task n all = one_all (closes_of task.line task.close) n (λ x one. all_one (noted_of task) n all x (in_right (call_of task ∷ []) (closes_of task.line task.close) x one))

pub call_within : (task : Task) (n m : ℕ) → All (λ (x : Noted). x.position < n) (noted_of task) → m ≡ n → task.answer.position < m
call_within task n m all same = let h = all_one (noted_of task) n all (call_of task) (0, refl) in omega (arith, h, same)

pub put_more : (start left rest : List Task) (old now closed : List NoteView) (task : Task) → PutTo start left old now → left ≡ rest ++ task ∷ [] → Placed (closes_of task.line task.close) now closed → task.answer.position < length closed
    → PutTo start rest old (slice_set closed task.answer.position (call_of task).note)
put_more start left rest old now closed task so is close within = record {
  done = task ∷ so.done;
  parts = so.parts ∙ (ap (λ (l : List Task). l ++ so.done) is ∙ append_assoc rest (task ∷ []) so.done);
  placed = placed_then (told_of so.done) (noted_of task) old now (slice_set closed task.answer.position (call_of task).note) so.placed
      (placed_then (closes_of task.line task.close) (call_of task ∷ []) now closed (slice_set closed task.answer.position (call_of task).note) close (placed_one closed (call_of task) within));
}

pub put_all : (start left : List Task) (old now : List NoteView) → left ≡ [] → PutTo start left old now → Placed (told_of start) old now
put_all start left old now none so = subst (λ (l : List Task). Placed (told_of l) old now) (sym (so.parts ∙ ap (λ (l : List Task). l ++ so.done) none)) so.placed

-- ---- the notes of all workers

module _ {W B : Type 0} where
  pub record PutAllTo (start left : List (Racer W B)) (old now : List NoteView) : Type 0 where
    pub done : List (Racer W B)
    pub parts : start ≡ left ++ done
    pub placed : Placed (all_of (teams_of done)) old now

  pub put_no_racer : (start : List (Racer W B)) (table : List NoteView) → PutAllTo start start table table
  put_no_racer start table = record { done = []; parts = sym (append-nil start); placed = placed_none table }

  team_there : (racers : List (Racer W B)) (w : ℕ) (r : Racer W B) → slice_get racers w ≡ Some r → slice_get (teams_of racers) w ≡ Some (team_of r)
  team_there [] w r at = none_some r at
  team_there (z ∷ racers) zero r at = let same : z ≡ r = one_some z r (Some z) refl at in ap (λ (q : Racer W B). Some (team_of q)) same
  team_there (z ∷ racers) (suc w) r at = team_there racers w r at

  pub racer_within : (start left rest : List (Racer W B)) (old now : List NoteView) (r : Racer W B) → PutAllTo start left old now → left ≡ rest ++ r ∷ []
      → All (λ (x : Noted). x.position < length old) (all_of (teams_of start)) → All (λ (x : Noted). x.position < length now) (told_of r.tasks.items)
  racer_within start left rest old now r so is within =
      let there : slice_get start (length rest) ≡ Some r =
      ap (λ (l : List (Racer W B)). slice_get l (length rest)) so.parts ∙ prefix_get left so.done (length rest) r (ap (λ (l : List (Racer W B)). slice_get l (length rest)) is ∙ last_there rest r) in
      one_all (told_of r.tasks.items) (length now) (λ x one.
      let place = all_one (all_of (teams_of start)) (length old) within x (in_all (teams_of start) (length rest) (team_of r) x (team_there start (length rest) r there) one) in
      let size = so.placed.size in
      omega (arith, place, size))

  pub put_racer : (start left rest : List (Racer W B)) (old now next : List NoteView) (r : Racer W B) → PutAllTo start left old now → left ≡ rest ++ r ∷ [] → Placed (told_of r.tasks.items) now next
      → PutAllTo start rest old next
  put_racer start left rest old now next r so is placed = record {
    done = r ∷ so.done;
    parts = so.parts ∙ (ap (λ (l : List (Racer W B)). l ++ so.done) is ∙ append_assoc rest (r ∷ []) so.done);
    placed = placed_then (all_of (teams_of so.done)) (told_of r.tasks.items) old now next so.placed placed;
  }

  pub put_racers : (start left : List (Racer W B)) (old now : List NoteView) → left ≡ [] → PutAllTo start left old now → Placed (all_of (teams_of start)) old now
  put_racers start left old now none so =
      subst (λ (l : List (Racer W B)). Placed (all_of (teams_of l)) old now) (sym (so.parts ∙ ap (λ (l : List (Racer W B)). l ++ so.done) none)) so.placed

-- ---- no more entries than notes

-- how many of the notes have a position below n
abbrev below : ℕ → List Noted → ℕ
below n [] = 0
below n (x ∷ notes) = min 1 (n - x.position) + below n notes

below_most : (n : ℕ) (notes : List Noted) → below n notes ≤ length notes
below_most n [] = omega arith
below_most n (x ∷ notes) = let h = below_most n notes in omega (arith, h)

below_up : (n : ℕ) (notes : List Noted) → below n notes ≤ below (suc n) notes
below_up n [] = omega arith
below_up n (x ∷ notes) = let h = below_up n notes in omega (arith, h)

below_more : (n : ℕ) (notes : List Noted) (j : ℕ) (x : Noted) → slice_get notes j ≡ Some x → x.position ≡ n → below n notes + 1 ≤ below (suc n) notes
below_more n [] j x at is = none_some x at
below_more n (z ∷ notes) zero x at is =
    let same : z.position ≡ x.position = ap (λ (y : Noted). y.position) (one_some z x (Some z) refl at) in
    let h = below_up n notes in
    omega (arith, same, is, h)
below_more n (z ∷ notes) (suc j) x at is = let h = below_more n notes j x at is in omega (arith, h)

all_below : (n : ℕ) (notes : List Noted) → ((k : ℕ) → k < n → HasNote notes k) → n ≤ below n notes
all_below zero notes has = omega arith
all_below (suc n) notes has =
    let before = all_below n notes (λ k less. has k (omega arith)) in
    let last = has n (omega arith) in
    let more = below_more n notes last.index last.note last.at last.position in
    omega (arith, before, more)

pub few_entries : (lines : List Line) (teams : List Team) (p : PassView BankState Entry) → Ran lines teams p → All (λ pair. Owns p pair.0) p.seen → length p.seen ≤ length (all_of teams)
few_entries lines teams p ran owned =
    let all = all_below (length p.seen) (all_of teams) (λ k less. has k less) in
    let most = below_most (length p.seen) (all_of teams) in
    omega (arith, all, most)
  where
    has : (k : ℕ) → k < length p.seen → HasNote (all_of teams) k
    has k less =
        let pair = some_there p.seen k less in
        let one = ran.own k pair.0 pair.1 (all_get (λ (q : Name × Entry). Owns p q.0) p.seen owned k pair.0 pair.1) in
        let there = in_all teams one.worker one.team one.has.note one.at (one.has.index, one.has.at) in
        record { index = there.0; note = one.has.note; at = there.1; position = one.has.position }

-- what a note tells in the front
pub told_of_one : (lines : List Line) (teams : List Team) (p : PassView BankState Entry) (x : Noted) → Ran lines teams p → IsWorkersOf teams x → (e : Entry) × TellsIn lines x e p.seen
told_of_one lines teams p x ran whose =
    let run = ran.told whose.worker whose.team whose.at in
    let e = some_there run.entries whose.one.0 (let h = run.tell.count in let i = slice_get_within whose.team.notes whose.one.0 x whose.one.1 in omega (arith, h, i)) in
    (e.0, run.tell.each whose.one.0 x e.0 whose.one.1 e.1)

pub all_within : (lines : List Line) (teams : List Team) (p : PassView BankState Entry) (n : ℕ) → Ran lines teams p → length p.seen ≤ n → All (λ (x : Noted). x.position < n) (all_of teams)
all_within lines teams p n ran few = one_all (all_of teams) n (λ x one.
    let told = told_of_one lines teams p x ran (of_all teams x one) in
    let place = slice_get_within p.seen x.position (told.1.name, told.0) told.1.at in
    omega (arith, place, few))

-- The note at this place is one of a worker's, and tells the entry there.
pub record IsPut (lines : List Line) (teams : List Team) (p : PassView BankState Entry) (k : ℕ) (note : NoteView) : Type 0 where
  pub noted : Noted
  pub whose : IsWorkersOf teams noted
  pub position : noted.position ≡ k
  pub is : noted.note ≡ note
  pub entry : Entry
  pub tells : TellsIn lines noted entry p.seen

pub is_put : (lines : List Line) (teams : List Team) (p : PassView BankState Entry) (old new : List NoteView) (k : ℕ) (note : NoteView) → Ran lines teams p → All (λ pair. Owns p pair.0) p.seen
    → Placed (all_of teams) old new → slice_get new k ≡ Some note → k < length p.seen → IsPut lines teams p k note
is_put lines teams p old new k note ran owned placed at below =
    let pair = some_there p.seen k below in
    let has = ran.own k pair.0 pair.1 (all_get (λ (q : Name × Entry). Owns p q.0) p.seen owned k pair.0 pair.1) in
    let mine : IsOneOf (all_of teams) has.has.note = in_all teams has.worker has.team has.has.note has.at (has.has.index, has.has.at) in
    let put = placed.put has.has.note mine in
    let same : put.0 ≡ note = one_some put.0 note (slice_get new k) (ap (slice_get new) (sym has.has.position) ∙ put.1) at in
    let whose = of_all teams put.2.noted put.2.one in
    let told = told_of_one lines teams p put.2.noted ran whose in
    record {
      noted = put.2.noted;
      whose = whose;
      position = put.2.position ∙ has.has.position;
      is = put.2.is ∙ same;
      entry = told.0;
      tells = told.1;
    }
