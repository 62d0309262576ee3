-- A team that has run its lines.
use Rattle.std.proofs.Common.{◌≡◌, ◌<◌, ◌≤◌, ◌+◌, ◌-◌, ◌*◌, ◌^◌, ◌∙◌, ⊎_elim, ◌++◌, ◌∷◌, ℕ, zero, suc, List, [], length, take, Bool, Option, Some, refl, sym, ap, subst, arith, slice_index_or}
use Rattle.std.specs.Prelude.{slice_get, All}
use Rattle.std.specs.Option.{option_map_or}
use Rattle.std.proofs.lemmas.Bool.{cases_lt}
use Rattle.std.proofs.lemmas.List.{length-append}
use Rattle.std.proofs.lemmas.List.Elements.{All-head, All-tail}
use Rattle.std.proofs.lemmas.Option.{slice_get_within, slice_get-get_or}
use Rattle.nor_bus.specs.Bus.{lane}
use Rattle.nor_array.specs.Array.{ArrayState}
use Rattle.nor_array.specs.After.{after_all}
use Rattle.nor_array.specs.declared.entry.Entry.{Entry}
use Rattle.nor_array.specs.declared.entry.Reply.TheVariants.{Done}
use Rattle.nor_bank.specs.Stands.{Stands}
use Rattle.nor_bank.specs.Work.{KeepsBank}
use Rattle.nor_bank.proofs.RefusedCalls.{keeps_chips}
use Rattle.nor_history.specs.Histories.{Leads, opens, opened, risen}
use Rattle.nor_history.proofs.Histories.{leads_then}
use Rattle.nor_bank.specs.State.{BankState}
use Rattle.nor_turn.specs.Fronts.{Name, Front}
use Rattle.nor_turn.specs.Passes.{PassView, Owns}
use Rattle.nor_script.specs.Answering.{lines_by}
use Rattle.nor_script.specs.declared.line.Line.{Line}
use Rattle.nor_driver.specs.Callers.{CallerView, DriverView, IsCallerOf}
use Rattle.nor_driver.specs.Fronts.{StandsFor, entries_of}
use Rattle.nor_race.specs.Noted.{NoteView, told_of}
use Rattle.nor_race.specs.Ran.{closing, rank, Tells, HasRun, Works, Team, Ran}
use Rattle.nor_race.specs.Places.{all_of, Placed}
use Rattle.nor_race.specs.Laws.{AreCallers, callers_of}
use Rattle.nor_race.specs.Teams.{CanRace, HasRaced, EachRaced, CanFold, team_of, teams_of, numbers_of, tasks_of, task_count, share_of, total_share}
use Rattle.nor_race.specs.Cuts.{IsArmed, ArmsAll}
use Rattle.nor_race.specs.Races.{RacesOn, Races}
use Rattle.nor_race.specs.declared.task.Task.{Task}
use Rattle.nor_race.specs.declared.team.Racer.{Racer}
use Rattle.nor_race.proofs.Joining.{none_some, one_some, all_get, map_get, short_get, rest_get}
use Rattle.nor_race.proofs.Answering.{teams_answer, note_order, note_caller}
use Rattle.nor_race.proofs.Putting.{is_put, IsPut}

-- one worker that ran all its lines
pub one_ran : (lines : List Line) (team : Team) (p : PassView BankState Entry) → Works lines (lines_by team.caller lines) team.notes p → Ran lines (team ∷ []) p
one_ran lines team p works = record {
  told = λ w t at. by_place w t at;
  own = λ i pair at own. record { worker = 0; team = team; at = refl; has = works.owned i pair at own };
}
  where
    by_place : (w : ℕ) (t : Team) → slice_get (team ∷ []) w ≡ Some t → HasRun lines (lines_by t.caller lines) t.notes p.seen
    by_place zero t at = subst (λ (q : Team). HasRun lines (lines_by q.caller lines) q.notes p.seen) (one_some team t (Some team) refl at) works.run
    by_place (suc w) t at = none_some t at

module _ {W B : Type 0} where
  pub can_fold : (lines : List Line) (driver : DriverView) (old new : List (Racer W B)) → All (CanRace lines driver) old → EachRaced lines old new → All (CanFold lines driver) new
  can_fold lines driver old new can raced = λ k d below.
      let y : Racer W B = slice_index_or new k d in
      let at_y = slice_get-get_or new k d below in
      let there : k < length old = let h = raced.count in omega (arith, h, below) in
      let x : Racer W B = slice_index_or old k d in
      let at_x = slice_get-get_or old k d there in
      let has = raced.each k x y at_x at_y in
      let was = all_get (CanRace lines driver) old can k x at_x in
      let who : was.who ≡ has.was = one_some was.who has.was x.caller was.is has.was_is in
      let own : IsCallerOf driver has.was = subst (IsCallerOf driver) who was.own in
      let number : has.was.number ≡ y.number = ap (λ (c : CallerView). c.number) (sym who) ∙ (was.number ∙ sym has.number) in
      record {
        who = has.who;
        is = has.who_is;
        own = (has.went.table ∙ own.0, has.went.opening ∙ own.1);
        idle = has.idle;
        ran = one_ran lines (team_of y) has.who.pass (subst (λ (n : ℕ). Works lines (lines_by n lines) (told_of y.tasks.items) has.who.pass) number has.works);
      }

  same_total : (old new : List (Racer W B)) → length new ≡ length old → ((k : ℕ) (x y : Racer W B) → slice_get old k ≡ Some x → slice_get new k ≡ Some y → share_of y ≡ share_of x) → total_share new ≡ total_share old
  same_total [] [] count each = refl
  same_total [] (y ∷ new) count each = absurd (omega (arith, count))
  same_total (x ∷ old) [] count each = absurd (omega (arith, count))
  same_total (x ∷ old) (y ∷ new) count each =
      let first = each 0 x y refl refl in
      let rest = same_total old new (omega (arith, count)) (λ k a b at_a at_b. each (suc k) a b at_a at_b) in
      omega (arith, first, rest)

  pub shares_stay : (lines : List Line) (old new : List (Racer W B)) → EachRaced lines old new → total_share new ≡ total_share old
  shares_stay lines old new raced = same_total old new raced.count (λ k x y at_x at_y.
      let has = raced.each k x y at_x at_y in
      let of_old : share_of x ≡ has.was.pass.share = ap (λ (o : Option CallerView). option_map_or (λ (c : CallerView). c.pass.share) o 0) has.was_is in
      let of_new : share_of y ≡ has.who.pass.share = ap (λ (o : Option CallerView). option_map_or (λ (c : CallerView). c.pass.share) o 0) has.who_is in
      of_new ∙ (has.went.share ∙ sym of_old))

  pub all_shares : (lines : List Line) (first last : CallerView) (handed raced : List (Racer W B)) → first.pass.share + total_share handed ≡ 2 ^ 20 → EachRaced lines handed raced
      → last.pass.share ≡ first.pass.share + total_share raced → last.pass.share ≡ 2 ^ 20
  all_shares lines first last handed raced whole two sum = let same = shares_stay lines handed raced two in omega (arith, whole, sum, same)

  -- ---- the numbers, and how much was noted

  pub numbers_are : (racers : List (Racer W B)) → callers_of (teams_of racers) ≡ numbers_of racers
  numbers_are [] = refl
  numbers_are (r ∷ racers) = ap (λ (l : List ℕ). r.number ∷ l) (numbers_are racers)

  raced_numbers : (lines : List Line) (old new : List (Racer W B)) → length new ≡ length old
      → ((k : ℕ) (x y : Racer W B) → slice_get old k ≡ Some x → slice_get new k ≡ Some y → HasRaced lines x y) → numbers_of new ≡ numbers_of old
  raced_numbers lines [] [] count each = refl
  raced_numbers lines [] (y ∷ new) count each = absurd (omega (arith, count))
  raced_numbers lines (x ∷ old) [] count each = absurd (omega (arith, count))
  raced_numbers lines (x ∷ old) (y ∷ new) count each =
      ap (λ (n : ℕ). n ∷ numbers_of new) (each 0 x y refl refl).number
      ∙ ap (λ (l : List ℕ). x.number ∷ l) (raced_numbers lines old new (omega (arith, count)) (λ k a b at_a at_b. each (suc k) a b at_a at_b))

  pub keeps_numbers : (lines : List Line) (start handed raced folded : List (Racer W B)) → numbers_of handed ≡ numbers_of start → EachRaced lines handed raced → teams_of folded ≡ teams_of raced
      → numbers_of folded ≡ numbers_of start
  keeps_numbers lines start handed raced folded one two three =
      sym (numbers_are folded) ∙ (ap callers_of three ∙ (numbers_are raced ∙ (raced_numbers lines handed raced two.count two.each ∙ one)))

  few_told : (lines : List Line) (old new : List (Racer W B)) → length new ≡ length old
      → ((k : ℕ) (x y : Racer W B) → slice_get old k ≡ Some x → slice_get new k ≡ Some y → HasRaced lines x y) → length (all_of (teams_of new)) ≤ 2 * task_count old
  few_told lines [] [] count each = omega arith
  few_told lines [] (y ∷ new) count each = absurd (omega (arith, count))
  few_told lines (x ∷ old) [] count each = absurd (omega (arith, count))
  few_told lines (x ∷ old) (y ∷ new) count each =
      let first = (each 0 x y refl refl).few in
      let rest = few_told lines old new (omega (arith, count)) (λ k a b at_a at_b. each (suc k) a b at_a at_b) in
      let sum = length-append (told_of y.tasks.items) (all_of (teams_of new)) in
      omega (arith, first, rest, sum)

  same_count : (xs ys : List (Racer W B)) → tasks_of xs ≡ tasks_of ys → task_count xs ≡ task_count ys
  same_count xs ys same = counted xs ∙ (ap sizes same ∙ sym (counted ys))
    where
      sizes : List (List Task) → ℕ
      sizes [] = 0
      sizes (l ∷ ls) = length l + sizes ls

      counted : (rs : List (Racer W B)) → task_count rs ≡ sizes (tasks_of rs)
      counted [] = refl
      counted (r ∷ rs) = ap (λ (n : ℕ). length r.tasks.items + n) (counted rs)

  pub few_notes : (lines : List Line) (start handed raced folded : List (Racer W B)) → tasks_of handed ≡ tasks_of start → EachRaced lines handed raced → teams_of folded ≡ teams_of raced
      → length (all_of (teams_of folded)) ≤ 2 * task_count start
  few_notes lines start handed raced folded one two three =
      let few = few_told lines handed raced two.count two.each in
      let size : length (all_of (teams_of folded)) ≡ length (all_of (teams_of raced)) = ap (λ (l : List Team). length (all_of l)) three in
      let same = same_count handed start one in
      omega (arith, few, size, same)

-- the whole race, behind the cuts
pub races : (lines : List Line) (old new : BankState) (teams : List Team) (p : PassView BankState Entry) (start table : List NoteView) (entries : ℕ) → AreCallers lines (callers_of teams)
    → Ran lines teams p → StandsFor old p.seen new → entries ≡ length p.seen → All (λ pair. Owns p pair.0) p.seen → Placed (all_of teams) start table → entries ≤ length start
    → RacesOn lines old new (take entries table)
races lines old new teams p start table entries callers ran stands count owned placed enough = record {
  front = p.seen;
  stands = stands;
  answers = λ cuts armed. teams_answer lines teams cuts p callers armed ran owned;
  told = record {
    count = size_take entries table (let s = placed.size in omega (arith, enough, s)) ∙ (count ∙ sym (size_entries p.seen));
    told = λ k note e at there.
        let one = put k note at in
        let pair = pair_at p.seen k e there in
        let same : one.entry ≡ e =
        ap (λ (q : Name × Entry). q.1) (one_some (one.tells.name, one.entry) pair.0 (slice_get p.seen k) (ap (slice_get p.seen) (sym one.position) ∙ one.tells.at) pair.1) ∙ pair.2 in
        subst (λ (f : Entry). Tells lines note f) same (subst (λ (n : NoteView). Tells lines n one.entry) one.is one.tells.tells);
  };
  some = λ k note line at is.
      let one = put k note at in
      note_caller lines teams p callers ran owned one.whose.worker one.whose.one.0 one.whose.team one.noted line one.whose.at one.whose.one.1 (ap (λ (n : NoteView). slice_get lines n.line) one.is ∙ is);
  order = λ i j x y a b less at_x at_y is_a is_b one.
      let first = put i x at_x in
      let later = put j y at_y in
      let low = first.position in
      let high = later.position in
      let ranks = note_order lines teams p callers ran owned first.whose.worker later.whose.worker first.whose.one.0 later.whose.one.0 first.whose.team later.whose.team first.noted later.noted a b
      first.whose.at later.whose.at first.whose.one.1 later.whose.one.1 (omega (arith, low, high, less))
      (ap (λ (n : NoteView). slice_get lines n.line) first.is ∙ is_a) (ap (λ (n : NoteView). slice_get lines n.line) later.is ∙ is_b) one in
      let of_x : rank first.noted.note ≡ rank x = ap rank first.is in
      let of_y : rank later.noted.note ≡ rank y = ap rank later.is in
      omega (arith, ranks, of_x, of_y);
}
  where
    size_take : {A : Type 0} (n : ℕ) (xs : List A) → n ≤ length xs → length (take n xs) ≡ n
    size_take zero xs few = refl
    size_take (suc n) [] few = absurd (omega (arith, few))
    size_take (suc n) (x ∷ xs) few = ap suc (size_take n xs (omega (arith, few)))

    take_get : {A : Type 0} (n : ℕ) (xs : List A) (k : ℕ) (x : A) → slice_get (take n xs) k ≡ Some x → slice_get xs k ≡ Some x
    take_get zero xs k x at = none_some x at
    take_get (suc n) [] k x at = none_some x at
    take_get (suc n) (y ∷ xs) zero x at = at
    take_get (suc n) (y ∷ xs) (suc k) x at = take_get n xs k x at

    put : (k : ℕ) (note : NoteView) → slice_get (take entries table) k ≡ Some note → IsPut lines teams p k note
    put k note at =
        let below : k < length p.seen =
        let h = slice_get_within (take entries table) k note at in
        let s = size_take entries table (let z = placed.size in omega (arith, enough, z)) in
        omega (arith, h, s, count) in
        is_put lines teams p start table k note ran owned placed (take_get entries table k note at) below

    size_entries : (front : Front Entry) → length (entries_of front) ≡ length front
    size_entries [] = refl
    size_entries (q ∷ front) = ap suc (size_entries front)

    pair_at : (front : Front Entry) (k : ℕ) (e : Entry) → slice_get (entries_of front) k ≡ Some e → (pair : Name × Entry) × (slice_get front k ≡ Some pair) × (pair.1 ≡ e)
    pair_at [] k e at = none_some e at
    pair_at (q ∷ front) zero e at = (q, refl, one_some q.1 e (Some q.1) refl at)
    pair_at (q ∷ front) (suc k) e at = pair_at front k e at

-- ---- the cuts, and then the race

-- where cuts were armed, the chips are as they were
armed_keeps : (old new : BankState) → IsArmed old new → KeepsBank old new
armed_keeps old new is = record {
  found = ap (λ (b : BankState). b.found) is.is;
  lanes = keeps_chips old.bus new.bus (ap (λ (b : BankState). b.bus.lanes) is.is);
}

done_opens : (es : List Entry) → All (λ (e : Entry). e.reply ≡ Done) es → opened es ≡ 0
done_opens [] done = refl
done_opens (e ∷ es) done =
    let one : opens e.reply ≡ 0 = ap opens (All-head (λ (x : Entry). x.reply ≡ Done) e es done) in
    let rest = done_opens es (All-tail (λ (x : Entry). x.reply ≡ Done) e es done) in
    omega (arith, one, rest)

-- the entries of the cuts and those of the workers lead from old to new
race_leads : (lines : List Line) (old armed new : BankState) (cuts raced : List NoteView) (arms : ArmsAll lines cuts old armed) (on : RacesOn lines armed new raced) (a : ArrayState) → Stands old a
    → Leads (arms.entries ++ entries_of on.front) old new a
race_leads lines old armed new cuts raced arms on a stands =
    let es = arms.entries in
    let before = arms.leads a stands in
    let behind = on.stands.each (after_all a es) before.stands in
    leads_then es (entries_of on.front) old armed new a (armed_keeps old armed arms.armed)
    (record {
      legal = before.legal;
      stands = before.stands;
      erases = λ c below. ap (λ (b : BankState). (lane b.bus c).erases) arms.armed.is ∙ sym (ap (λ (n : ℕ). risen (lane old.bus c).erases n) (done_opens es arms.done));
    })
    (record { legal = behind.legal; stands = behind.stands; erases = behind.erases })

pub races_whole : (lines : List Line) (old armed new : BankState) (cuts raced : List NoteView) → ArmsAll lines cuts old armed → RacesOn lines armed new raced → Races lines old new (cuts ++ raced)
races_whole lines old armed new cuts raced arms on = record {
  cuts = cuts;
  raced = raced;
  parts = refl;
  armed = armed;
  arms = arms;
  races = on;
  answers = on.answers arms.entries arms.answers;
  leads = race_leads lines old armed new cuts raced arms on;
  told = record {
    count = length-append cuts raced ∙ ((let a = arms.count in let b = on.told.count in let sum : length cuts + length raced ≡ length arms.entries + length (entries_of on.front) = omega (arith, a, b) in sum) ∙ sym (length-append arms.entries (entries_of on.front)));
    told = λ k note e at there. ⊎_elim
        (λ (short : k < length cuts). arms.told k note e (short_get cuts raced k note at short) (short_get arms.entries (entries_of on.front) k e there (let a = arms.count in omega (arith, a, short))))
        (λ (long : length cuts ≤ k).
        let same : k - length arms.entries ≡ k - length cuts = (let a = arms.count in omega (arith, a)) in
        on.told.told (k - length cuts) note e (rest_get cuts raced k note at long)
        (ap (slice_get (entries_of on.front)) (sym same) ∙ rest_get arms.entries (entries_of on.front) k e there (let a = arms.count in omega (arith, a, long))))
        (cases_lt k (length cuts));
  };
  order = λ i j x y a b less at_x at_y is_a is_b one. ⊎_elim
      (λ (short : j < length cuts).
      let before : i < length cuts = omega (arith, less, short) in
      cut_order i j x y less (short_get cuts raced i x at_x before) (short_get cuts raced j y at_y short))
      (λ (long : length cuts ≤ j). ⊎_elim
      (λ (early : i < length cuts).
      let cut = arms.cuts.each i x (short_get cuts raced i x at_x early) in
      let none : a.caller ≡ 0 = ap (λ (l : Line). l.caller) (one_some a cut.line (slice_get lines x.line) is_a cut.at) ∙ cut.cut.caller in
      let some = on.some (j - length cuts) y b (rest_get cuts raced j y at_y long) is_b in
      absurd (omega (arith, none, some, one)))
      (λ (late : length cuts ≤ i).
      on.order (i - length cuts) (j - length cuts) x y a b (omega (arith, less, late)) (rest_get cuts raced i x at_x late) (rest_get cuts raced j y at_y long) is_a is_b one)
      (cases_lt i (length cuts)))
      (cases_lt j (length cuts));
}
  where
    cut_order : (i j : ℕ) (x y : NoteView) → i < j → slice_get cuts i ≡ Some x → slice_get cuts j ≡ Some y → rank x < rank y
    cut_order i j x y less at_x at_y =
        let lines_rise = arms.cuts.places.order i j x.line y.line less (map_get (λ (n : NoteView). n.line) cuts i x at_x) (map_get (λ (n : NoteView). n.line) cuts j y at_y) in
        let of_x : rank x ≡ x.line + x.line + 0 = ap (λ (c : Bool). x.line + x.line + closing c) (arms.cuts.each i x at_x).closes in
        let of_y : rank y ≡ y.line + y.line + 0 = ap (λ (c : Bool). y.line + y.line + closing c) (arms.cuts.each j y at_y).closes in
        omega (arith, lines_rise, of_x, of_y)
