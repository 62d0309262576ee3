-- Tasks, notes and racers, before the race.
use Rattle.std.proofs.Common.{◌≡◌, ◌<◌, ◌≤◌, ◌+◌, ◌*◌, ◌^◌, ◌∙◌, ◌⊎◌, ◌==◌, inl, inr, ⊎_elim, ◌++◌, ◌∷◌, ℕ, zero, suc, List, [], length, map, take, cond, Bool, true, false, Some, None, refl, sym, ap, subst, arith, get_or, slice_index_or, append-nil}
use Rattle.std.specs.Prelude.{slice_get, All}
use Rattle.std.proofs.lemmas.Bool.{cases_lt}
use Rattle.std.proofs.lemmas.List.{length-append, take_all}
use Rattle.std.proofs.lemmas.List.Elements.{filter-append, All-head, All-tail}
use Rattle.std.proofs.lemmas.Option.{slice_get_within, slice_get-get_or, get_or_from_slice_get}
use Rattle.std.proofs.Math.Seq.{take-suc}
use Rattle.nor_cell.proofs.Logic.{same_number}
use Rattle.nor_array.specs.declared.entry.Op.{Op}
use Rattle.nor_array.specs.declared.entry.Op.TheVariants.{Read, Program, EraseOpen, EraseAll as EraseAllOp, Poll, Lock, Unlock, IsLocked, Arm, PowerOn}
use Rattle.nor_script.specs.Answering.{lines_by}
use Rattle.nor_script.specs.Racing.{may_race, IsRaceScript}
use Rattle.nor_script.specs.Script.{HasCaller}
use Rattle.nor_script.specs.declared.line.Line.{Line}
use Rattle.nor_script.specs.declared.line.Word.{Word}
use Rattle.nor_script.specs.declared.line.Word.TheVariants.{Call, Erase, EraseAll}
use Rattle.nor_race.specs.Cuts.{IsCut, IsOfCut, AreCuts}
use Rattle.nor_race.specs.Laws.{AreCallers}
use Rattle.nor_race.specs.Noted.{NoteView}
use Rattle.nor_race.specs.Tasks.{room_for, CanRun, IsFor, AreLinesBy, AreFor}
use Rattle.nor_race.specs.Teams.{CanStart, numbers_of, task_count}
use Rattle.nor_race.specs.declared.task.Task.{Task}
use Rattle.nor_race.specs.declared.team.Racer.{Racer}
use Rattle.nor_race.proofs.Joining.{none_some, one_some, all_get, map_get, map_size, prefix_get, short_get}
use Rattle.nor_race.proofs.Working.{last_get, last_there}

-- ---- what a line of a race is

false_true : {A : Type 0} → false ≡ true → A
false_true is = absurd (let no : ⊥ = cc in no)

zero_some : {A : Type 0} (n : ℕ) → n ≡ 0 → 1 ≤ n → A
zero_some n none some = absurd (omega (arith, none, some))

-- a line of a caller can be run
pub can_run : (word : Word) (caller : ℕ) (bytes : List ℕ) → HasCaller word caller → may_race word ≡ true → 1 ≤ caller → ((op : Op) → word ≡ Call op → length bytes ≡ room_for op) → CanRun word bytes
can_run (Call (Read at len)) caller bytes has may some room = (refl, room (Read at len) refl)
can_run (Call (Program at new)) caller bytes has may some room = (refl, room (Program at new) refl)
can_run (Call (EraseOpen b)) caller bytes has may some room = false_true may
can_run (Call EraseAllOp) caller bytes has may some room = false_true may
can_run (Call Poll) caller bytes has may some room = false_true may
can_run (Call (Lock b)) caller bytes has may some room = (refl, room (Lock b) refl)
can_run (Call (Unlock b)) caller bytes has may some room = (refl, room (Unlock b) refl)
can_run (Call (IsLocked b)) caller bytes has may some room = (refl, room (IsLocked b) refl)
can_run (Call (Arm cut mask)) caller bytes has may some room = zero_some caller has some
can_run (Call PowerOn) caller bytes has may some room = false_true may
can_run (Erase b) caller bytes has may some room = tt
can_run EraseAll caller bytes has may some room = tt

-- a line without one is a cut
is_cut : (line : Line) (word : Word) → line.word ≡ word → HasCaller word line.caller → may_race word ≡ true → line.caller ≡ 0 → IsCut line
is_cut line (Call (Read at len)) is has may none = zero_some line.caller none has.0
is_cut line (Call (Program at new)) is has may none = zero_some line.caller none has.0
is_cut line (Call (EraseOpen b)) is has may none = false_true may
is_cut line (Call EraseAllOp) is has may none = false_true may
is_cut line (Call Poll) is has may none = false_true may
is_cut line (Call (Lock b)) is has may none = zero_some line.caller none has.0
is_cut line (Call (Unlock b)) is has may none = zero_some line.caller none has.0
is_cut line (Call (IsLocked b)) is has may none = zero_some line.caller none has.0
is_cut line (Call (Arm cut mask)) is has may none = record { after = cut; mask = mask; word = is; caller = none }
is_cut line (Call PowerOn) is has may none = false_true may
is_cut line (Erase b) is has may none = zero_some line.caller none has.0
is_cut line EraseAll is has may none = zero_some line.caller none has.0

caller_few : (word : Word) (caller : ℕ) → HasCaller word caller → caller ≤ 8
caller_few (Call (Read at len)) caller has = has.1
caller_few (Call (Program at new)) caller has = has.1
caller_few (Call (EraseOpen b)) caller has = has.1
caller_few (Call EraseAllOp) caller has = has.1
caller_few (Call Poll) caller has = has.1
caller_few (Call (Lock b)) caller has = has.1
caller_few (Call (Unlock b)) caller has = has.1
caller_few (Call (IsLocked b)) caller has = has.1
caller_few (Call (Arm cut mask)) caller has = let h : caller ≡ 0 = has in omega (arith, h)
caller_few (Call PowerOn) caller has = let h : caller ≡ 0 = has in omega (arith, h)
caller_few (Erase b) caller has = has.1
caller_few EraseAll caller has = has.1

-- ---- the lines of a caller

one_more : (lines : List Line) (i : ℕ) (line : Line) → i < length lines → line ≡ get_or lines i line → take (i + 1) lines ≡ take i lines ++ line ∷ []
one_more lines i line below is =
    let next : i + 1 ≡ suc i = omega arith in
    ap (λ (k : ℕ). take k lines) next ∙ (take-suc lines i line below ∙ ap (λ (l : Line). take i lines ++ l ∷ []) (sym is))

of_last : (caller : ℕ) (line : Line) (b : Bool) → (line.caller == caller) ≡ b → lines_by caller (line ∷ []) ≡ cond b (line ∷ []) []
of_last caller line b is = ap (λ (t : Bool). cond t (line ∷ []) []) is

by_more : (lines : List Line) (caller i : ℕ) (line : Line) (b : Bool) → i < length lines → line ≡ get_or lines i line → (line.caller == caller) ≡ b
    → lines_by caller (take (i + 1) lines) ≡ lines_by caller (take i lines) ++ cond b (line ∷ []) []
by_more lines caller i line b below is test =
    ap (lines_by caller) (one_more lines i line below is)
    ∙ (filter-append (λ (l : Line). l.caller == caller) (take i lines) (line ∷ []) ∙ ap (λ (l : List Line). lines_by caller (take i lines) ++ l) (of_last caller line b test))

-- the places of those of the first i lines
pub record PlacesTo (lines : List Line) (caller : ℕ) (places : List ℕ) (i : ℕ) : Type 0 where
  pub count : length (lines_by caller (take i lines)) ≡ length places
  pub told : (j place : ℕ) (line : Line) → slice_get places j ≡ Some place → slice_get (lines_by caller (take i lines)) j ≡ Some line → slice_get lines place ≡ Some line
  pub order : (j k x y : ℕ) → j < k → slice_get places j ≡ Some x → slice_get places k ≡ Some y → x < y
  pub below : (j place : ℕ) → slice_get places j ≡ Some place → place < i
  pub few : length places ≤ i

pub places_none : (lines : List Line) (caller : ℕ) → PlacesTo lines caller [] 0
places_none lines caller = record {
  count = refl;
  told = λ j place line at is. none_some place at;
  order = λ j k x y less at_x at_y. none_some x at_x;
  below = λ j place at. none_some place at;
  few = omega arith;
}

pub places_skip : (lines : List Line) (caller i : ℕ) (line : Line) (places : List ℕ) → PlacesTo lines caller places i → i < length lines → line ≡ get_or lines i line → (line.caller == caller) ≡ false
    → PlacesTo lines caller places (i + 1)
places_skip lines caller i line places so below is test =
    let same : lines_by caller (take (i + 1) lines) ≡ lines_by caller (take i lines) = by_more lines caller i line false below is test ∙ append-nil (lines_by caller (take i lines)) in
    record {
      count = ap length same ∙ so.count;
      told = λ j place l at at_l. so.told j place l at (ap (λ (ls : List Line). slice_get ls j) (sym same) ∙ at_l);
      order = so.order;
      below = λ j place at. let h = so.below j place at in omega (arith, h);
      few = let h = so.few in omega (arith, h);
    }

pub places_more : (lines : List Line) (caller i : ℕ) (line : Line) (places : List ℕ) → PlacesTo lines caller places i → i < length lines → line ≡ get_or lines i line → (line.caller == caller) ≡ true
    → PlacesTo lines caller (places ++ i ∷ []) (i + 1)
places_more lines caller i line places so below is test = record {
  count = ap length more ∙ (length-append (lines_by caller (take i lines)) (line ∷ []) ∙ ((let h = so.count in let sum : length (lines_by caller (take i lines)) + 1 ≡ length places + 1 = omega (arith, h) in sum) ∙ sym (length-append places (i ∷ []))));
  told = λ j place l at at_l. ⊎_elim
      (λ (old : slice_get places j ≡ Some place). ⊎_elim
      (λ (old_l : slice_get (lines_by caller (take i lines)) j ≡ Some l). so.told j place l old old_l)
      (λ (new_l : (j ≡ length (lines_by caller (take i lines))) × (line ≡ l)). absurd (let a = slice_get_within places j place old in let h = so.count in let p = new_l.0 in omega (arith, a, h, p)))
      (last_get (lines_by caller (take i lines)) line l j (there j l at_l)))
      (λ (new : (j ≡ length places) × (i ≡ place)). ⊎_elim
      (λ (old_l : slice_get (lines_by caller (take i lines)) j ≡ Some l). absurd (let a = slice_get_within (lines_by caller (take i lines)) j l old_l in let h = so.count in let p = new.0 in omega (arith, a, h, p)))
      (λ (new_l : (j ≡ length (lines_by caller (take i lines))) × (line ≡ l)). ap (slice_get lines) (sym new.1) ∙ (here ∙ ap (λ (z : Line). Some z) new_l.1))
      (last_get (lines_by caller (take i lines)) line l j (there j l at_l)))
      (last_get places i place j at);
  order = λ j k x y less at_x at_y. ⊎_elim
      (λ (old_y : slice_get places k ≡ Some y). so.order j k x y less (before j x (let h = slice_get_within places k y old_y in omega (arith, h, less)) at_x) old_y)
      (λ (new_y : (k ≡ length places) × (i ≡ y)). let h = so.below j x (before j x (let p = new_y.0 in omega (arith, p, less)) at_x) in let q = new_y.1 in omega (arith, h, q))
      (last_get places i y k at_y);
  below = λ j place at. ⊎_elim
      (λ (old : slice_get places j ≡ Some place). let h = so.below j place old in omega (arith, h))
      (λ (new : (j ≡ length places) × (i ≡ place)). let q = new.1 in omega (arith, q))
      (last_get places i place j at);
  few = let h = so.few in let sum = length-append places (i ∷ []) in omega (arith, h, sum);
}
  where
    more : lines_by caller (take (i + 1) lines) ≡ lines_by caller (take i lines) ++ line ∷ []
    more = by_more lines caller i line true below is test

    there : (j : ℕ) (l : Line) → slice_get (lines_by caller (take (i + 1) lines)) j ≡ Some l → slice_get (lines_by caller (take i lines) ++ line ∷ []) j ≡ Some l
    there j l at = ap (λ (ls : List Line). slice_get ls j) (sym more) ∙ at

    before : (j x : ℕ) → j < length places → slice_get (places ++ i ∷ []) j ≡ Some x → slice_get places j ≡ Some x
    before j x less at = short_get places (i ∷ []) j x at less

    here : slice_get lines i ≡ Some line
    here = slice_get-get_or lines i line below ∙ ap (λ (l : Line). Some l) (sym is)

pub all_places : (lines : List Line) (caller i : ℕ) (places : List ℕ) → PlacesTo lines caller places i → length lines ≤ i → AreLinesBy lines caller places
all_places lines caller i places so long =
    let whole : take i lines ≡ lines = take_all i lines long in
    record {
      count = ap (λ (ls : List Line). length (lines_by caller ls)) (sym whole) ∙ so.count;
      told = λ j place line at is. so.told j place line at (ap (λ (ls : List Line). slice_get (lines_by caller ls) j) whole ∙ is);
      order = so.order;
    }

map_last : {A X : Type 0} (f : A → X) (xs : List A) (x : A) → map f (xs ++ x ∷ []) ≡ map f xs ++ f x ∷ []
map_last f [] x = refl
map_last {A} {X} f (y ∷ xs) x = ap (λ (l : List X). f y ∷ l) (map_last f xs x)

-- ---- the tasks of a caller

pub record TasksTo (lines : List Line) (caller : ℕ) (tasks : List Task) (i : ℕ) : Type 0 where
  pub places : PlacesTo lines caller (map (λ (t : Task). t.line) tasks) i
  pub each : (j : ℕ) (task : Task) → slice_get tasks j ≡ Some task → IsFor lines caller task

pub tasks_none : (lines : List Line) (caller : ℕ) → TasksTo lines caller [] 0
tasks_none lines caller = record { places = places_none lines caller; each = λ j task at. none_some task at }

pub tasks_skip : (lines : List Line) (caller i : ℕ) (line : Line) (tasks : List Task) → TasksTo lines caller tasks i → i < length lines → line ≡ get_or lines i line → (line.caller == caller) ≡ false → TasksTo lines caller tasks (i + 1)
tasks_skip lines caller i line tasks so below is test = record { places = places_skip lines caller i line (map (λ (t : Task). t.line) tasks) so.places below is test; each = so.each }

pub tasks_more : (lines : List Line) (caller i : ℕ) (line : Line) (tasks more : List Task) (task : Task) → IsRaceScript lines → 1 ≤ caller → TasksTo lines caller tasks i → i < length lines → line ≡ get_or lines i line
    → (line.caller == caller) ≡ true → task.line ≡ i → task.close ≡ None → ((op : Op) → line.word ≡ Call op → length task.bytes.items ≡ room_for op) → more ≡ tasks ++ task ∷ [] → TasksTo lines caller more (i + 1)
tasks_more lines caller i line tasks more task script some so below is test at none room whole = subst (λ (ts : List Task). TasksTo lines caller ts (i + 1)) (sym whole) (record {
  places = subst (λ (ps : List ℕ). PlacesTo lines caller ps (i + 1)) (sym (map_last (λ (t : Task). t.line) tasks task ∙ ap (λ (n : ℕ). map (λ (t : Task). t.line) tasks ++ n ∷ []) at))
      (places_more lines caller i line (map (λ (t : Task). t.line) tasks) so.places below is test);
  each = λ j x there. ⊎_elim
      (λ (old : slice_get tasks j ≡ Some x). so.each j x old)
      (λ (new : (j ≡ length tasks) × (task ≡ x)). subst (IsFor lines caller) new.1 (record {
        line = line;
        at = ap (slice_get lines) at ∙ here;
        by = same_number line.caller caller test;
        can = can_run line.word line.caller task.bytes.items (all_get (λ (l : Line). HasCaller l.word l.caller) lines script.script.callers i line here) (all_get (λ (l : Line). may_race l.word ≡ true) lines script.words i line here)
            (let h = same_number line.caller caller test in omega (arith, h, some)) room;
        none = none;
      }))
      (last_get tasks task x j there);
})
  where
    here : slice_get lines i ≡ Some line
    here = slice_get-get_or lines i line below ∙ ap (λ (l : Line). Some l) (sym is)

pub all_tasks : (lines : List Line) (caller i : ℕ) (tasks : List Task) → TasksTo lines caller tasks i → length lines ≤ i → AreFor lines caller tasks
all_tasks lines caller i tasks so long = record { places = all_places lines caller i (map (λ (t : Task). t.line) tasks) so.places long; each = so.each }

pub few_tasks : (lines : List Line) (caller i : ℕ) (tasks : List Task) → IsRaceScript lines → TasksTo lines caller tasks i → i ≤ length lines → length tasks ≤ 2 ^ 16
few_tasks lines caller i tasks script so most = let few = so.places.few in let size = map_size (λ (t : Task). t.line) tasks in let all = script.script.few in omega (arith, few, size, all, most)

-- ---- the cuts

pub record CutsTo (lines : List Line) (notes : List NoteView) (i : ℕ) : Type 0 where
  pub places : PlacesTo lines 0 (map (λ (n : NoteView). n.line) notes) i
  pub each : (j : ℕ) (note : NoteView) → slice_get notes j ≡ Some note → IsOfCut lines note

pub cuts_none : (lines : List Line) → CutsTo lines [] 0
cuts_none lines = record { places = places_none lines 0; each = λ j note at. none_some note at }

pub cuts_skip : (lines : List Line) (i : ℕ) (line : Line) (notes : List NoteView) → CutsTo lines notes i → i < length lines → line ≡ get_or lines i line → (line.caller == 0) ≡ false → CutsTo lines notes (i + 1)
cuts_skip lines i line notes so below is test = record { places = places_skip lines 0 i line (map (λ (n : NoteView). n.line) notes) so.places below is test; each = so.each }

pub cuts_more : (lines : List Line) (i : ℕ) (line : Line) (notes more : List NoteView) (note : NoteView) → IsRaceScript lines → CutsTo lines notes i → i < length lines → line ≡ get_or lines i line
    → (line.caller == 0) ≡ true → note.line ≡ i → note.closes ≡ false → more ≡ notes ++ note ∷ [] → CutsTo lines more (i + 1)
cuts_more lines i line notes more note script so below is test at closes whole = subst (λ (ns : List NoteView). CutsTo lines ns (i + 1)) (sym whole) (record {
  places = subst (λ (ps : List ℕ). PlacesTo lines 0 ps (i + 1)) (sym (map_last (λ (n : NoteView). n.line) notes note ∙ ap (λ (k : ℕ). map (λ (n : NoteView). n.line) notes ++ k ∷ []) at))
      (places_more lines 0 i line (map (λ (n : NoteView). n.line) notes) so.places below is test);
  each = λ j x there. ⊎_elim
      (λ (old : slice_get notes j ≡ Some x). so.each j x old)
      (λ (new : (j ≡ length notes) × (note ≡ x)). subst (IsOfCut lines) new.1 (record {
        line = line;
        at = ap (slice_get lines) at ∙ here;
        cut = is_cut line line.word refl (all_get (λ (l : Line). HasCaller l.word l.caller) lines script.script.callers i line here) (all_get (λ (l : Line). may_race l.word ≡ true) lines script.words i line here)
            (same_number line.caller 0 test);
        closes = closes;
      }))
      (last_get notes note x j there);
})
  where
    here : slice_get lines i ≡ Some line
    here = slice_get-get_or lines i line below ∙ ap (λ (l : Line). Some l) (sym is)

pub all_cuts : (lines : List Line) (i : ℕ) (notes : List NoteView) → CutsTo lines notes i → length lines ≤ i → AreCuts lines notes
all_cuts lines i notes so long = record { places = all_places lines 0 i (map (λ (n : NoteView). n.line) notes) so.places long; each = so.each }

-- ---- racers

-- no line is of this caller
none_by : (lines : List Line) (caller : ℕ) → All (λ (l : Line). HasCaller l.word l.caller) lines → 8 < caller → lines_by caller lines ≡ []
none_by [] caller has more = refl
none_by (line ∷ lines) caller has more =
    ap (λ (b : Bool). cond b (line ∷ lines_by caller lines) (lines_by caller lines)) (other line.caller (caller_few line.word line.caller (All-head (λ (l : Line). HasCaller l.word l.caller) line lines has)))
    ∙ none_by lines caller (All-tail (λ (l : Line). HasCaller l.word l.caller) line lines has) more
  where
    other : (n : ℕ) → n ≤ 8 → (n == caller) ≡ false
    other n few = grind (arith, few, more)

last_number : (n i : ℕ) → n ≤ i + 1 → i < n → n ≡ i + 1
last_number n i few more = omega (arith, few, more)

module _ {W B : Type 0} where
  pub record HasRacer (racers : List (Racer W B)) (n : ℕ) : Type 0 where
    pub place : ℕ
    pub racer : Racer W B
    pub at : slice_get racers place ≡ Some racer
    pub number : racer.number ≡ n

  -- the racers of the first i numbers were made, where they have lines
  pub record TeamTo (lines : List Line) (racers : List (Racer W B)) (i : ℕ) : Type 0 where
    pub few : length racers ≤ i
    pub each : (w : ℕ) (r : Racer W B) → slice_get racers w ≡ Some r → (r.number ≤ i) × CanStart lines r
    pub apart : (v w : ℕ) (x y : Racer W B) → slice_get racers v ≡ Some x → slice_get racers w ≡ Some y → x.number ≡ y.number → v ≡ w
    pub all : (n : ℕ) → 0 < n → n ≤ i → HasRacer racers n ⊎ (lines_by n lines ≡ [])

  pub team_none : (lines : List Line) → (none : List (Racer W B)) → none ≡ [] → TeamTo lines none 0
  team_none lines none is = subst (λ (l : List (Racer W B)). TeamTo lines l 0) (sym is)
      (record { few = omega arith; each = λ w r at. none_some r at; apart = λ v w x y at_x at_y same. none_some x at_x; all = λ n some few. absurd (omega (arith, some, few)) })

  -- a number without lines
  pub team_skip : (lines : List Line) (racers : List (Racer W B)) (i : ℕ) (tasks : List Task) → TeamTo lines racers i → AreFor lines (i + 1) tasks → length tasks ≡ 0 → TeamTo lines racers (i + 1)
  team_skip lines racers i tasks so are none = record {
    few = let h = so.few in omega (arith, h);
    each = λ w r at. let is = so.each w r at in let n = is.0 in (omega (arith, n), is.1);
    apart = so.apart;
    all = λ n some few. ⊎_elim
        (λ (more : i < n).
        let last : n ≡ i + 1 = last_number n i few more in
        inr (ap (λ (k : ℕ). lines_by k lines) last ∙ empty (lines_by (i + 1) lines) (are.places.count ∙ (map_size (λ (t : Task). t.line) tasks ∙ none))))
        (λ (old : n ≤ i). so.all n some old)
        (cases_lt i n);
  }
    where
      empty : (ls : List Line) → length ls ≡ 0 → ls ≡ []
      empty [] e = refl
      empty (l ∷ ls) e = absurd (omega (arith, e))

  pub team_more : (lines : List Line) (racers more : List (Racer W B)) (i : ℕ) (r : Racer W B) → TeamTo lines racers i → i < 8 → more ≡ racers ++ r ∷ [] → r.number ≡ i + 1 → r.caller ≡ None
      → AreFor lines r.number r.tasks.items → length r.tasks.items ≤ 2 ^ 16 → TeamTo lines more (i + 1)
  team_more lines racers more i r so below is number none fit few = subst (λ (l : List (Racer W B)). TeamTo lines l (i + 1)) (sym is) (record {
    few = let h = length-append racers (r ∷ []) in let c = so.few in omega (arith, h, c);
    each = λ w x at. ⊎_elim (λ (old : slice_get racers w ≡ Some x). let p = so.each w x old in let n = p.0 in (omega (arith, n), p.1))
        (λ (new : (w ≡ length racers) × (r ≡ x)).
        subst (λ (y : Racer W B). (y.number ≤ i + 1) × CanStart lines y) new.1
        (omega (arith, number), record { least = omega (arith, number); most = omega (arith, number, below); none = none; few = few; fit = fit }))
        (last_get racers r x w at);
    apart = λ v w x y at_x at_y same. ⊎_elim
        (λ (old_x : slice_get racers v ≡ Some x). ⊎_elim
        (λ (old_y : slice_get racers w ≡ Some y). so.apart v w x y old_x old_y same)
        (λ (new_y : (w ≡ length racers) × (r ≡ y)). absurd (let p = (so.each v x old_x).0 in let q = ap (λ (z : Racer W B). z.number) new_y.1 in omega (arith, p, q, number, same)))
        (last_get racers r y w at_y))
        (λ (new_x : (v ≡ length racers) × (r ≡ x)). ⊎_elim
        (λ (old_y : slice_get racers w ≡ Some y). absurd (let p = (so.each w y old_y).0 in let q = ap (λ (z : Racer W B). z.number) new_x.1 in omega (arith, p, q, number, same)))
        (λ (new_y : (w ≡ length racers) × (r ≡ y)). new_x.0 ∙ sym new_y.0)
        (last_get racers r y w at_y))
        (last_get racers r x v at_x);
    all = λ n some few_n. ⊎_elim
        (λ (over : i < n). let last : n ≡ i + 1 = last_number n i few_n over in inl (record { place = length racers; racer = r; at = last_there racers r; number = number ∙ sym last }))
        (λ (old : n ≤ i). ⊎_elim
        (λ (has : HasRacer racers n). inl (record { place = has.place; racer = has.racer; at = prefix_get racers (r ∷ []) has.place has.racer has.at; number = has.number }))
        (λ (no : lines_by n lines ≡ []). inr no)
        (so.all n some old))
        (cases_lt i n);
  })

  pub all_start : (lines : List Line) (racers : List (Racer W B)) (i : ℕ) → TeamTo lines racers i → All (CanStart lines) racers
  all_start lines racers i so = λ k d below. (so.each k (slice_index_or racers k d) (slice_get-get_or racers k d below)).1

  number_at : (racers : List (Racer W B)) (w n : ℕ) → slice_get (numbers_of racers) w ≡ Some n → (r : Racer W B) × (slice_get racers w ≡ Some r) × (r.number ≡ n)
  number_at [] w n at = none_some n at
  number_at (r ∷ racers) zero n at = (r, refl, one_some r.number n (Some r.number) refl at)
  number_at (r ∷ racers) (suc w) n at = number_at racers w n at

  pub is_team : (lines : List Line) (racers : List (Racer W B)) (i : ℕ) → IsRaceScript lines → TeamTo lines racers i → i ≡ 8 → AreCallers lines (numbers_of racers)
  is_team lines racers i script so full = record {
    some = λ w caller by.
        let y = number_at racers w caller by in
        let p = (so.each w y.0 y.1).1.least in
        let q = y.2 in
        omega (arith, p, q);
    apart = λ v w caller at_v at_w.
        let x = number_at racers v caller at_v in
        let y = number_at racers w caller at_w in
        so.apart v w x.0 y.0 x.1 y.1 (x.2 ∙ sym y.2);
    all = λ caller some. ⊎_elim
        (λ (more : 8 < caller). inr (none_by lines caller script.script.callers more))
        (λ (few : caller ≤ 8). ⊎_elim
        (λ (has : HasRacer racers caller). inl (has.place, map_get (λ (r : Racer W B). r.number) racers has.place has.racer has.at ∙ ap (λ (n : ℕ). Some n) has.number))
        (λ (no : lines_by caller lines ≡ []). inr no)
        (so.all caller some (omega (arith, few, full))))
        (cases_lt 8 caller);
  }

-- a line that is read twice
pub one_line : (lines : List Line) (i : ℕ) (a b : Line) → i < length lines → a ≡ get_or lines i a → b ≡ get_or lines i b → a ≡ b
one_line lines i a b below is_a is_b = is_a ∙ (get_or_from_slice_get lines i (get_or lines i b) a (slice_get-get_or lines i b below) ∙ sym is_b)

-- ---- places for the notes

module _ {W B : Type 0} where
  count_more : (racers : List (Racer W B)) (i : ℕ) (r : Racer W B) → i < length racers → r ≡ get_or racers i r → task_count (take (suc i) racers) ≡ task_count (take i racers) + length r.tasks.items
  count_more [] i r below is = absurd (omega (arith, below))
  count_more (z ∷ racers) zero r below is = let same : length r.tasks.items ≡ length z.tasks.items = ap (λ (q : Racer W B). length q.tasks.items) is in omega (arith, same)
  count_more (z ∷ racers) (suc i) r below is = let rest = count_more racers i r (omega (arith, below)) is in omega (arith, rest)

  -- the table has two places for each task of the first i racers
  abbrev pub TableTo : List (Racer W B) → List NoteView → ℕ → Type 0
  TableTo racers table i = length table ≡ 2 * task_count (take i racers)

  pub table_more : (racers : List (Racer W B)) (table more : List NoteView) (i count : ℕ) (r : Racer W B) → TableTo racers table i → i < length racers → r ≡ get_or racers i r → count ≡ 2 * length r.tasks.items
      → length more ≡ length table + count → TableTo racers more (i + 1)
  table_more racers table more i count r so below is same size =
      let next : i + 1 ≡ suc i = omega arith in
      let more_is = count_more racers i r below is in
      let sum : length more ≡ 2 * task_count (take (suc i) racers) = omega (arith, so, same, size, more_is) in
      sum ∙ ap (λ (k : ℕ). 2 * task_count (take k racers)) (sym next)

  pub table_all : (racers : List (Racer W B)) (table : List NoteView) (i : ℕ) → TableTo racers table i → length racers ≤ i → length table ≡ 2 * task_count racers
  table_all racers table i so long = so ∙ ap (λ (l : List (Racer W B)). 2 * task_count l) (take_all i racers long)

-- ---- the first lines of a script

-- what holds of the first i elements
abbrev pub OfFirst : {A : Type 0} → (A → Type 0) → List A → ℕ → Type 0
OfFirst {A} P xs i = (k : ℕ) (x : A) → k < i → slice_get xs k ≡ Some x → P x

pub first_more : {A : Type 0} (P : A → Type 0) (xs : List A) (i : ℕ) (x : A) → OfFirst P xs i → i < length xs → x ≡ get_or xs i x → P x → OfFirst P xs (i + 1)
first_more P xs i x so below is one k y less at = ⊎_elim
    (λ (early : k < i). so k y early at)
    (λ (late : i ≤ k).
    let here : k ≡ i = omega (arith, late, less) in
    subst P (is ∙ get_or_from_slice_get xs i y x (ap (slice_get xs) (sym here) ∙ at)) one)
    (cases_lt k i)

pub first_all : {A : Type 0} (P : A → Type 0) (xs : List A) (i : ℕ) → OfFirst P xs i → length xs ≤ i → All P xs
first_all P xs i so long k d below = so k (slice_index_or xs k d) (omega (arith, long, below)) (slice_get-get_or xs k d below)
