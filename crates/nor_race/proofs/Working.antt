-- One line more of a worker.
use Rattle.std.proofs.Common.{◌≡◌, ◌<◌, ◌≤◌, ◌+◌, ◌*◌, ◌-◌, ◌∙◌, ◌⊎◌, inl, inr, ⊎_elim, ◌++◌, ◌∷◌, ℕ, zero, suc, List, [], length, take, true, false, Option, Some, None, refl, sym, ap, subst, arith, slice_set, get_or, append_assoc, append-nil}
use Rattle.std.specs.Prelude.{slice_get, Contains}
use Rattle.std.proofs.lemmas.Bool.{cases_lt}
use Rattle.std.proofs.lemmas.Option.{slice_get_within, slice_get-get_or}
use Rattle.std.proofs.lemmas.List.{length-append, take_all}
use Rattle.nor_array.specs.declared.entry.Entry.{Entry}
use Rattle.nor_array.specs.declared.entry.Op.{Op}
use Rattle.nor_array.specs.declared.entry.Op.TheVariants.{EraseOpen, EraseAll as EraseAllOp, Poll}
use Rattle.nor_array.specs.declared.entry.Reply.{Reply}
use Rattle.nor_array.specs.declared.entry.Reply.TheVariants.{Done, Opened, Erased, Bit, OutOfRange, TooLong, Busy, Occupied, Locked, NoLocks, NoChipErase, Nothing, NotYet, Failed, Halted}
use Rattle.nor_array.specs.Entries.{IsOf, IsAwaited}
use Rattle.nor_bank.specs.Calls.{given_by}
use Rattle.nor_bank.specs.State.{BankState}
use Rattle.nor_turn.specs.Fronts.{Name, Front}
use Rattle.nor_turn.specs.Passes.{PassView, Owns}
use Rattle.nor_script.specs.Answering.{AnswersWord, AnswersLines, NotOpened, OpenedAndClosed, lines_by}
use Rattle.nor_script.specs.declared.line.Line.{Line}
use Rattle.nor_script.specs.declared.line.Word.{Word}
use Rattle.nor_script.specs.declared.line.Word.TheVariants.{Call, Erase, EraseAll}
use Rattle.nor_script.proofs.Answered.{answers_line, answers_more}
use Rattle.nor_driver.specs.Callers.{DriverView, IsCallerOf, CallerView, Called, Gives, Adds, WentOn}
use Rattle.nor_driver.specs.declared.caller.Answer.{Answer}
use Rattle.nor_race.specs.Noted.{NoteView, Noted, call_of, closes_of, noted_of, told_of}
use Rattle.nor_race.specs.Ran.{op_of, rank, Tells, TellsIn, HasNote, AllTell, AreOwn, Works}
use Rattle.nor_race.specs.Tasks.{IsFor, AreFor, Closes, RunsErase, RunsWord, RunsLine}
use Rattle.nor_race.specs.declared.task.Task.{Task}
use Rattle.nor_race.proofs.Joining.{one_some, none_some, some_there, map_get, map_size, take_next, prefix_get, short_get, rest_get, all_get}

-- ---- a list with one element set

pub set_same : {A : Type 0} (xs : List A) (i : ℕ) (x : A) → i < length xs → slice_get (slice_set xs i x) i ≡ Some x
set_same [] i x below = absurd (omega arith)
set_same (z ∷ xs) zero x below = refl
set_same (z ∷ xs) (suc i) x below = set_same xs i x (omega arith)

pub set_other : {A : Type 0} (xs : List A) (i j : ℕ) (x : A) → (j < i) ⊎ (i < j) → slice_get (slice_set xs i x) j ≡ slice_get xs j
set_other [] i j x apart = refl
set_other (z ∷ xs) zero zero x apart = absurd (⊎_elim (λ (h : 0 < 0). omega arith) (λ (h : 0 < 0). omega arith) apart)
set_other (z ∷ xs) zero (suc j) x apart = refl
set_other (z ∷ xs) (suc i) zero x apart = refl
set_other (z ∷ xs) (suc i) (suc j) x apart = set_other xs i j x (⊎_elim (λ (h : suc j < suc i). inl (omega arith)) (λ (h : suc i < suc j). inr (omega arith)) apart)

pub size_set : {A : Type 0} (xs : List A) (i : ℕ) (x : A) → length (slice_set xs i x) ≡ length xs
size_set [] i x = refl
size_set (z ∷ xs) zero x = refl
size_set (z ∷ xs) (suc i) x = ap suc (size_set xs i x)

pub last_get : {A : Type 0} (xs : List A) (z x : A) (i : ℕ) → slice_get (xs ++ z ∷ []) i ≡ Some x → (slice_get xs i ≡ Some x) ⊎ ((i ≡ length xs) × (z ≡ x))
last_get [] z x zero at = inr (refl, cc)
last_get [] z x (suc i) at = absurd (cc)
last_get (y ∷ xs) z x zero at = inl at
last_get (y ∷ xs) z x (suc i) at = ⊎_elim (λ h. inl h) (λ h. inr (ap suc h.0, h.1)) (last_get xs z x i at)

pub last_there : {A : Type 0} (xs : List A) (z : A) → slice_get (xs ++ z ∷ []) (length xs) ≡ Some z
last_there [] z = refl
last_there (y ∷ xs) z = last_there xs z

one_get : {A : Type 0} (z : A) (i : ℕ) (x : A) → slice_get (z ∷ []) i ≡ Some x → (i ≡ 0) × (z ≡ x)
one_get z zero x at = (refl, cc)
one_get z (suc i) x at = absurd (cc)

-- ---- one entry more

owns_back : (p q : PassView BankState Entry) (n : Name) (m : ℕ) → WentOn m p q → Owns q n → Owns p n
owns_back p q n m went = ⊎_elim (λ (e : n ≡ q.name). inl (e ∙ went.name)) (λ (has : Contains q.taken n). inr (subst (λ (ns : List Name). Contains ns n) went.taken has))

-- what has been made, entry by entry
pub record Made (lines : List Line) (notes : List Noted) (entries : List Entry) (p : PassView BankState Entry) : Type 0 where
  pub tell : AllTell lines notes entries p.seen
  pub own : AreOwn notes p

seen_more : (p q : PassView BankState Entry) (e : Entry) (place i : ℕ) (pair : Name × Entry) → Adds p e place q.seen → slice_get p.seen i ≡ Some pair → slice_get q.seen i ≡ Some pair
seen_more p q e place i pair adds at =
    ap (λ (f : Front Entry). slice_get f i) adds.whole
    ∙ prefix_get (p.seen ++ adds.between) ((p.name, e) ∷ []) i pair (prefix_get p.seen adds.between i pair at)

-- an entry at the end of a front
last_seen : (p q : PassView BankState Entry) (e : Entry) (place : ℕ) → Adds p e place q.seen → slice_get q.seen place ≡ Some (p.name, e)
last_seen p q e place adds =
    ap (λ (f : Front Entry). slice_get f place) adds.whole
    ∙ (ap (slice_get ((p.seen ++ adds.between) ++ (p.name, e) ∷ [])) adds.place ∙ last_there (p.seen ++ adds.between) (p.name, e))

-- One entry more was made, which this note tells, behind the others.
pub made_more : (lines : List Line) (notes : List Noted) (es : List Entry) (p q : PassView BankState Entry) (x : Noted) (e : Entry)
    → Made lines notes es p → Adds p e x.position q.seen → WentOn 1 p q → Tells lines x.note e → IsAwaited e.reply
    → ((j : ℕ) (y : Noted) → slice_get notes j ≡ Some y → rank y.note < rank x.note)
    → Made lines (notes ++ x ∷ []) (es ++ e ∷ []) q
made_more lines notes es p q x e so adds went tells awaited behind = record {
  tell = record {
    count = length-append es (e ∷ []) ∙ (let h = so.tell.count in let sum : length es + 1 ≡ length notes + 1 = omega (arith, h) in sum) ∙ sym (length-append notes (x ∷ []));
    each = λ j y f at_y at_f. ⊎_elim
        (λ (old : slice_get notes j ≡ Some y). ⊎_elim
        (λ (old_f : slice_get es j ≡ Some f). let t = so.tell.each j y f old old_f in record { name = t.name; at = seen_more p q e x.position y.position (t.name, f) adds t.at; tells = t.tells; awaited = t.awaited })
        (λ (new_f : (j ≡ length es) × (e ≡ f)). absurd (let h = slice_get_within notes j y old in let k = so.tell.count in let l = new_f.0 in omega (arith, h, k, l)))
        (last_get es e f j at_f))
        (λ (new : (j ≡ length notes) × (x ≡ y)). ⊎_elim
        (λ (old_f : slice_get es j ≡ Some f). absurd (let h = slice_get_within es j f old_f in let k = so.tell.count in let l = new.0 in omega (arith, h, k, l)))
        (λ (new_f : (j ≡ length es) × (e ≡ f)).
        subst (λ (z : Noted). TellsIn lines z f q.seen) new.1 (subst (λ (g : Entry). TellsIn lines x g q.seen) new_f.1 (record { name = p.name; at = last_seen p q e x.position adds; tells = tells; awaited = awaited })))
        (last_get es e f j at_f))
        (last_get notes x y j at_y);
    order = λ j k y z less at_y at_z. ⊎_elim
        (λ (old : slice_get notes k ≡ Some z). so.tell.order j k y z less (before j k y z less at_y old) old)
        (λ (new : (k ≡ length notes) × (x ≡ z)).
        let there : slice_get notes j ≡ Some y = short_get notes (x ∷ []) j y at_y (let h = new.0 in omega (arith, h, less)) in
        subst (λ (w : Noted). (y.position < w.position) × (rank y.note < rank w.note)) new.1 (position j y there, behind j y there))
        (last_get notes x z k at_z);
  };
  own = λ i pair at own. in_front i pair (ap (λ (f : Front Entry). slice_get f i) (sym adds.whole) ∙ at) (owns_back p q pair.0 1 went own);
}
  where
    before : (j k : ℕ) (y z : Noted) → j < k → slice_get (notes ++ x ∷ []) j ≡ Some y → slice_get notes k ≡ Some z → slice_get notes j ≡ Some y
    before j k y z less at_y old = short_get notes (x ∷ []) j y at_y (let h = slice_get_within notes k z old in omega (arith, h, less))

    position : (j : ℕ) (y : Noted) → slice_get notes j ≡ Some y → y.position < x.position
    position j y at =
        let f = some_there es j (let h = slice_get_within notes j y at in let k = so.tell.count in omega (arith, h, k)) in
        let t = so.tell.each j y f.0 at f.1 in
        let within : y.position < length p.seen = slice_get_within p.seen y.position (t.name, f.0) t.at in
        let place : x.position ≡ length p.seen + length adds.between = adds.place ∙ length-append p.seen adds.between in
        omega (arith, within, place)

    in_front : (i : ℕ) (pair : Name × Entry) → slice_get ((p.seen ++ adds.between) ++ (p.name, e) ∷ []) i ≡ Some pair → Owns p pair.0 → HasNote (notes ++ x ∷ []) i
    in_front i pair at own = ⊎_elim
        (λ (short : i < length (p.seen ++ adds.between)).
        let there = short_get (p.seen ++ adds.between) ((p.name, e) ∷ []) i pair at short in
        ⊎_elim
        (λ (early : i < length p.seen).
        let has = so.own i pair (short_get p.seen adds.between i pair there early) own in
        record { index = has.index; note = has.note; at = prefix_get notes (x ∷ []) has.index has.note has.at; position = has.position })
        (λ (late : length p.seen ≤ i). absurd (all_get (λ (q : Name × Entry). ¬ Owns p q.0) adds.between adds.others (i - length p.seen) pair (rest_get p.seen adds.between i pair there late) own))
        (cases_lt i (length p.seen)))
        (λ (long : length (p.seen ++ adds.between) ≤ i).
        let last = one_get (p.name, e) (i - length (p.seen ++ adds.between)) pair (rest_get (p.seen ++ adds.between) ((p.name, e) ∷ []) i pair at long) in
        record { index = length notes; note = x; at = last_there notes x; position = let h = adds.place in let z = last.0 in omega (arith, h, z, long) })
        (cases_lt i (length (p.seen ++ adds.between)))

-- ---- a call

-- what a note of it tells
called_tells : (lines : List Line) (first : BankState) (op : Op) (given : List ℕ) (c d : CallerView) (answer : Answer) (note : NoteView) (line : Line) (called : Called first op given c d answer)
    → slice_get lines note.line ≡ Some line → op_of line.word note.closes ≡ Some op → line.caller ≡ c.number → note.reply ≡ answer.reply
    → Gives answer.reply op note.bytes called.entry.bytes → Tells lines note called.entry
called_tells lines first op given c d answer note line called at op_is by reply gives = record {
  line = line;
  at = at;
  op = op_is ∙ ap (λ (o : Op). Some o) (sym called.is.calls);
  by = called.is.called_by ∙ sym by;
  reply = called.reply ∙ sym reply;
  bytes = subst (λ (r : Reply). Gives r called.entry.op note.bytes called.entry.bytes) (sym reply)
      (subst (λ (o : Op). Gives answer.reply o note.bytes called.entry.bytes) (sym called.is.calls) gives);
}

-- the data of a call that gives none
gives_none : (reply : Reply) (op : Op) (bytes given : List ℕ) → given_by op given ≡ given_by op [] → Gives reply op [] bytes → Gives reply op given bytes
gives_none Done op bytes given none gives = gives ∙ sym none
gives_none Opened op bytes given none gives = tt
gives_none Erased op bytes given none gives = tt
gives_none (Bit locked) op bytes given none gives = tt
gives_none OutOfRange op bytes given none gives = tt
gives_none TooLong op bytes given none gives = tt
gives_none (Busy b) op bytes given none gives = tt
gives_none (Occupied b) op bytes given none gives = tt
gives_none (Locked b) op bytes given none gives = tt
gives_none NoLocks op bytes given none gives = tt
gives_none NoChipErase op bytes given none gives = tt
gives_none Nothing op bytes given none gives = tt
gives_none NotYet op bytes given none gives = tt
gives_none (Failed from to lanes) op bytes given none gives = tt
gives_none (Halted cause) op bytes given none gives = tt

-- the notes that stand before those of a line
abbrev pub AreBefore : List Noted → ℕ → Type 0
AreBefore notes line = (j : ℕ) (x : Noted) → slice_get notes j ≡ Some x → rank x.note < line + line

first_made : (lines : List Line) (first : BankState) (op : Op) (given : List ℕ) (c d : CallerView) (task : Task) (line : Line) (notes : List Noted) (es : List Entry) (called : Called first op given c d task.answer)
    → Made lines notes es c.pass → AreBefore notes task.line → slice_get lines task.line ≡ Some line → op_of line.word false ≡ Some op → line.caller ≡ c.number
    → Gives task.answer.reply op task.bytes.items called.entry.bytes → Made lines (notes ++ call_of task ∷ []) (es ++ called.entry ∷ []) d.pass
first_made lines first op given c d task line notes es called so before at op_is by gives =
    made_more lines notes es c.pass d.pass (call_of task) called.entry so called.adds called.pass
    (called_tells lines first op given c d task.answer (call_of task).note line called at op_is by refl gives) called.awaited
    (λ j y there. let h = before j y there in omega (arith, h))

abbrev close_of : ℕ → Answer → Noted
close_of line answer = record { position = answer.position; note = record { line = line; closes = true; reply = answer.reply; bytes = [] } }

pub went_none : (p : PassView BankState Entry) → WentOn 0 p p
went_none p = record { table = refl; opening = refl; name = refl; splits = refl; taken = refl; share = refl; room = omega arith }

pub went_more : (m n : ℕ) (p q r : PassView BankState Entry) → WentOn m p q → WentOn n q r → WentOn (m + n) p r
went_more m n p q r one two = record {
  table = two.table ∙ one.table;
  opening = two.opening ∙ one.opening;
  name = two.name ∙ one.name;
  splits = two.splits ∙ one.splits;
  taken = two.taken ∙ one.taken;
  share = two.share ∙ one.share;
  room = let a = one.room in let b = two.room in omega (arith, a, b);
}

-- ---- a line

-- What a line adds: entries that answer it, of which its notes tell.
pub record LineMade (lines : List Line) (line : Line) (notes more : List Noted) (es : List Entry) (c d : CallerView) : Type 0 where
  pub entries : List Entry
  pub made : Made lines (notes ++ more) (es ++ entries) d.pass
  pub answers : AnswersWord line.word line.caller entries
  pub went : WentOn (length more) c.pass d.pass
  pub number : d.number ≡ c.number

is_by : (n m : ℕ) (op : Op) (e : Entry) → n ≡ m → IsOf m op e → IsOf n op e
is_by n m op e same is = record { called_by = is.called_by ∙ sym same; calls = is.calls }

call_line : (lines : List Line) (first : BankState) (op : Op) (c d : CallerView) (task : Task) (line : Line) (notes : List Noted) (es : List Entry) → Called first op task.bytes.items c d task.answer → line.word ≡ Call op
    → Made lines notes es c.pass → AreBefore notes task.line → slice_get lines task.line ≡ Some line → line.caller ≡ c.number → LineMade lines line notes (call_of task ∷ []) es c d
call_line lines first op c d task line notes es called word so before at by = record {
  entries = called.entry ∷ [];
  made = first_made lines first op task.bytes.items c d task line notes es called so before at (ap (λ (w : Word). op_of w false) word) by called.bytes;
  answers = subst (λ (w : Word). AnswersWord w line.caller (called.entry ∷ [])) (sym word) (is_by line.caller c.number op called.entry by called.is);
  went = called.pass;
  number = called.number;
}

-- an erase, by its opening and its close
record IsErase (word : Word) (op : Op) : Type 0 where
  opens : op_of word false ≡ Some op
  polls : op_of word true ≡ Some Poll
  gives : (given : List ℕ) → given_by op given ≡ given_by op []
  one : (caller : ℕ) (e : Entry) → NotOpened caller op e → AnswersWord word caller (e ∷ [])
  two : (caller : ℕ) (e close : Entry) → OpenedAndClosed caller op e close → AnswersWord word caller (e ∷ close ∷ [])

block_erase : (block : ℕ) → IsErase (Erase block) (EraseOpen block)
block_erase block = record { opens = refl; polls = refl; gives = λ given. refl; one = λ caller e is. is; two = λ caller e close is. is }

whole_erase : IsErase EraseAll EraseAllOp
whole_erase = record { opens = refl; polls = refl; gives = λ given. refl; one = λ caller e is. is; two = λ caller e close is. is }

erase_line : (lines : List Line) (first : BankState) (op : Op) (c mid d : CallerView) (task : Task) (line : Line) (notes : List Noted) (es : List Entry) (close : Option Answer) → IsErase line.word op
    → Called first op [] c mid task.answer → Closes first task.answer.reply mid d close
    → Made lines notes es c.pass → AreBefore notes task.line → slice_get lines task.line ≡ Some line → line.caller ≡ c.number → LineMade lines line notes (call_of task ∷ closes_of task.line close) es c d
erase_line lines first op c mid d task line notes es None is called closes so before at by = record {
  entries = called.entry ∷ [];
  made = subst (λ (v : CallerView). Made lines (notes ++ call_of task ∷ []) (es ++ called.entry ∷ []) v.pass) (sym closes.1)
      (first_made lines first op [] c mid task line notes es called so before at is.opens by (gives_none task.answer.reply op called.entry.bytes task.bytes.items (is.gives task.bytes.items) called.bytes));
  answers = is.one line.caller called.entry (record { opening = is_by line.caller c.number op called.entry by called.is; reply = λ e. closes.0 (sym called.reply ∙ e) });
  went = subst (λ (v : CallerView). WentOn 1 c.pass v.pass) (sym closes.1) called.pass;
  number = ap (λ (v : CallerView). v.number) closes.1 ∙ called.number;
}
erase_line lines first op c mid d task line notes es (Some answer) is called closes so before at by =
    let opening = first_made lines first op [] c mid task line notes es called so before at is.opens by (gives_none task.answer.reply op called.entry.bytes task.bytes.items (is.gives task.bytes.items) called.bytes) in
    let poll = closes.1 in
    let mine : line.caller ≡ mid.number = by ∙ sym called.number in
    let both : Made lines ((notes ++ call_of task ∷ []) ++ close_of task.line answer ∷ []) ((es ++ called.entry ∷ []) ++ poll.entry ∷ []) d.pass =
    made_more lines (notes ++ call_of task ∷ []) (es ++ called.entry ∷ []) mid.pass d.pass (close_of task.line answer) poll.entry opening poll.adds poll.pass
    (called_tells lines first Poll [] mid d answer (close_of task.line answer).note line poll at is.polls mine refl poll.bytes) poll.awaited
    (λ j y there. ⊎_elim
    (λ (old : slice_get notes j ≡ Some y). let h = before j y old in omega (arith, h))
    (λ (new : (j ≡ length notes) × (call_of task ≡ y)). let h : rank (call_of task).note ≡ rank y.note = ap (λ (z : Noted). rank z.note) new.1 in omega (arith, h))
    (last_get notes (call_of task) y j there)) in
    record {
      entries = called.entry ∷ poll.entry ∷ [];
      made = subst (λ (ns : List Noted). Made lines ns (es ++ called.entry ∷ poll.entry ∷ []) d.pass) (append_assoc notes (call_of task ∷ []) (close_of task.line answer ∷ []))
          (subst (λ (xs : List Entry). Made lines ((notes ++ call_of task ∷ []) ++ close_of task.line answer ∷ []) xs d.pass) (append_assoc es (called.entry ∷ []) (poll.entry ∷ [])) both);
      answers = is.two line.caller called.entry poll.entry (record {
        opening = is_by line.caller c.number op called.entry by called.is;
        opened = called.reply ∙ closes.0;
        polling = is_by line.caller mid.number Poll poll.entry mine poll.is;
        closed = poll.awaited.yet;
      });
      went = went_more 1 1 c.pass mid.pass d.pass called.pass poll.pass;
      number = poll.number ∙ called.number;
    }

by_word : (lines : List Line) (first : BankState) (c d : CallerView) (task : Task) (line : Line) (notes : List Noted) (es : List Entry) (word : Word) → line.word ≡ word → RunsWord word first c d task
    → Made lines notes es c.pass → AreBefore notes task.line → slice_get lines task.line ≡ Some line → line.caller ≡ c.number → LineMade lines line notes (noted_of task) es c d
by_word lines first c d task line notes es (Call op) is runs so before at by =
    subst (λ (close : Option Answer). LineMade lines line notes (call_of task ∷ closes_of task.line close) es c d) (sym runs.1) (call_line lines first op c d task line notes es runs.0 is so before at by)
by_word lines first c d task line notes es (Erase block) is runs so before at by =
    erase_line lines first (EraseOpen block) c runs.mid d task line notes es task.close (subst (λ (w : Word). IsErase w (EraseOpen block)) (sym is) (block_erase block)) runs.called runs.closes so before at by
by_word lines first c d task line notes es EraseAll is runs so before at by =
    erase_line lines first EraseAllOp c runs.mid d task line notes es task.close (subst (λ (w : Word). IsErase w EraseAllOp) (sym is) whole_erase) runs.called runs.closes so before at by

pub line_made : (lines : List Line) (first : BankState) (c d : CallerView) (task : Task) (notes : List Noted) (es : List Entry) (runs : RunsLine lines first c d task)
    → Made lines notes es c.pass → AreBefore notes task.line → LineMade lines runs.line notes (noted_of task) es c d
line_made lines first c d task notes es runs so before = by_word lines first c d task runs.line notes es runs.line.word refl runs.runs so before runs.at runs.by

-- ---- the loop over a worker's tasks

-- the first i tasks were run
pub record RunTo (lines : List Line) (driver : DriverView) (first now : CallerView) (start tasks : List Task) (i : ℕ) : Type 0 where
  pub caller : IsCallerOf driver now
  pub number : now.number ≡ first.number
  pub idle : now.erasing ≡ false
  pub size : length tasks ≡ length start
  pub rest : (j : ℕ) (task : Task) → i ≤ j → slice_get tasks j ≡ Some task → slice_get start j ≡ Some task
  pub entries : List Entry
  pub made : Made lines (told_of (take i tasks)) entries now.pass
  pub answers : AnswersLines (take i (lines_by first.number lines)) entries
  pub went : WentOn (length (told_of (take i tasks))) first.pass now.pass
  pub few : length (told_of (take i tasks)) ≤ i + i
  pub before : (line : ℕ) → ((j : ℕ) (task : Task) → j < i → slice_get start j ≡ Some task → task.line < line) → AreBefore (told_of (take i tasks)) line

told_append : (xs ys : List Task) → told_of (xs ++ ys) ≡ told_of xs ++ told_of ys
told_append [] ys = refl
told_append (x ∷ xs) ys = ap (λ (l : List Noted). noted_of x ++ l) (told_append xs ys) ∙ sym (append_assoc (noted_of x) (told_of xs) (told_of ys))

told_last : (xs : List Task) (x : Task) → told_of (xs ++ x ∷ []) ≡ told_of xs ++ noted_of x
told_last xs x = told_append xs (x ∷ []) ∙ ap (λ (l : List Noted). told_of xs ++ l) (append-nil (noted_of x))

take_before : {A : Type 0} (xs : List A) (i : ℕ) (x : A) → take i (slice_set xs i x) ≡ take i xs
take_before [] i x = refl
take_before (z ∷ xs) zero x = refl
take_before {A} (z ∷ xs) (suc i) x = ap (λ (l : List A). z ∷ l) (take_before xs i x)

take_set : {A : Type 0} (xs : List A) (i : ℕ) (x : A) → i < length xs → take (i + 1) (slice_set xs i x) ≡ take i xs ++ x ∷ []
take_set {A} xs i x below =
    let next : i + 1 ≡ suc i = omega arith in
    ap (λ (k : ℕ). take k (slice_set xs i x)) next
    ∙ (take_next (slice_set xs i x) i x (set_same xs i x below) ∙ ap (λ (l : List A). l ++ x ∷ []) (take_before xs i x))

few_closes : (line : ℕ) (close : Option Answer) → length (closes_of line close) ≤ 1
few_closes line None = omega arith
few_closes line (Some answer) = omega arith

-- the notes of a task have its line
noted_rank : (task : Task) (line : ℕ) → task.line < line → AreBefore (noted_of task) line
noted_rank task line less zero x at =
    let h : rank (call_of task).note ≡ rank x.note = ap (λ (z : Noted). rank z.note) (one_some (call_of task) x (Some (call_of task)) refl at) in
    omega (arith, h, less)
noted_rank task line less (suc j) x at = in_close task.close j at
  where
    in_close : (close : Option Answer) (j : ℕ) → slice_get (closes_of task.line close) j ≡ Some x → rank x.note < line + line
    in_close None j at = none_some x at
    in_close (Some answer) zero at =
        let h : rank (close_of task.line answer).note ≡ rank x.note = ap (λ (z : Noted). rank z.note) (one_some (close_of task.line answer) x (Some (close_of task.line answer)) refl at) in
        omega (arith, h, less)
    in_close (Some answer) (suc j) at = none_some x at

before_both : (xs ys : List Noted) (line : ℕ) → AreBefore xs line → AreBefore ys line → AreBefore (xs ++ ys) line
before_both xs ys line one two j x at = ⊎_elim
    (λ (short : j < length xs). one j x (short_get xs ys j x at short))
    (λ (long : length xs ≤ j). two (j - length xs) x (rest_get xs ys j x at long))
    (cases_lt j (length xs))

pub run_none : (lines : List Line) (driver : DriverView) (first : CallerView) (start : List Task) → IsCallerOf driver first → first.erasing ≡ false → first.pass.seen ≡ [] → RunTo lines driver first first start start 0
run_none lines driver first start own idle fresh = record {
  caller = own;
  number = refl;
  idle = idle;
  size = refl;
  rest = λ j task long at. at;
  entries = [];
  made = record {
    tell = record { count = refl; each = λ j x e at is. none_some x at; order = λ j k x y less at_x at_y. none_some x at_x };
    own = λ i pair at own. none_some pair (ap (λ (f : Front Entry). slice_get f i) (sym fresh) ∙ at);
  };
  answers = refl;
  went = went_none first.pass;
  few = omega arith;
  before = λ line all j x at. none_some x at;
}

pub run_more : (lines : List Line) (driver : DriverView) (first now next : CallerView) (start tasks : List Task) (i : ℕ) (old new : Task) → RunTo lines driver first now start tasks i → i < length start
    → AreFor lines first.number start → old ≡ get_or tasks i old → new.line ≡ old.line → RunsLine lines driver.opening now next new → next.erasing ≡ false → RunTo lines driver first next start (slice_set tasks i new) (i + 1)
run_more lines driver first now next start tasks i old new so below are is same runs idle =
    let there : i < length tasks = let h = so.size in omega (arith, h, below) in
    let was : slice_get start i ≡ Some old = so.rest i old (omega arith) (slice_get-get_or tasks i old there ∙ ap (λ (t : Task). Some t) (sym is)) in
    let before : AreBefore (told_of (take i tasks)) new.line = so.before new.line (λ j task less at. let h = are.places.order j i task.line old.line less (map_get (λ (t : Task). t.line) start j task at) (map_get (λ (t : Task). t.line) start i old was) in omega (arith, h, same)) in
    let line = line_made lines driver.opening now next new (told_of (take i tasks)) so.entries runs so.made before in
    let whole : told_of (take (i + 1) (slice_set tasks i new)) ≡ told_of (take i tasks) ++ noted_of new = ap told_of (take_set tasks i new there) ∙ told_last (take i tasks) new in
    let mine : i < length (lines_by first.number lines) = let h = are.places.count in let k = map_size (λ (t : Task). t.line) start in omega (arith, h, k, below) in
    let told = some_there (lines_by first.number lines) i mine in
    let line_is : told.0 ≡ runs.line = one_some told.0 runs.line (slice_get lines old.line) (are.places.told i old.line told.0 (map_get (λ (t : Task). t.line) start i old was) told.1) (ap (slice_get lines) (sym same) ∙ runs.at) in
    let own : take (i + 1) (lines_by first.number lines) ≡ take i (lines_by first.number lines) ++ runs.line ∷ [] =
    (let next : i + 1 ≡ suc i = omega arith in ap (λ (k : ℕ). take k (lines_by first.number lines)) next)
    ∙ (take_next (lines_by first.number lines) i told.0 told.1 ∙ ap (λ (l : Line). take i (lines_by first.number lines) ++ l ∷ []) line_is) in
    record {
      caller = (line.went.table ∙ so.caller.0, line.went.opening ∙ so.caller.1);
      number = line.number ∙ so.number;
      idle = idle;
      size = size_set tasks i new ∙ so.size;
      rest = λ j task long at. so.rest j task (omega (arith, long)) (sym (set_other tasks i j new (inr (omega (arith, long)))) ∙ at);
      entries = so.entries ++ line.entries;
      made = subst (λ (ns : List Noted). Made lines ns (so.entries ++ line.entries) next.pass) (sym whole) line.made;
      answers = subst (λ (ls : List Line). AnswersLines ls (so.entries ++ line.entries)) (sym own)
          (answers_more (take i (lines_by first.number lines)) (runs.line ∷ []) so.entries line.entries so.answers (answers_line runs.line line.entries line.answers));
      went = subst (λ (k : ℕ). WentOn k first.pass next.pass) (sym (ap length whole ∙ length-append (told_of (take i tasks)) (noted_of new)))
          (went_more (length (told_of (take i tasks))) (length (noted_of new)) first.pass now.pass next.pass so.went line.went);
      few = let h = so.few in let k = few_closes new.line new.close in let sum = ap length whole ∙ length-append (told_of (take i tasks)) (noted_of new) in omega (arith, h, k, sum);
      before = λ l all. subst (λ (ns : List Noted). AreBefore ns l) (sym whole)
          (before_both (told_of (take i tasks)) (noted_of new) l (so.before l (λ j task less at. all j task (omega (arith, less)) at)) (noted_rank new l (let h = all i old (omega arith) was in omega (arith, h, same))));
    }

pub all_run : (lines : List Line) (driver : DriverView) (first now : CallerView) (start tasks : List Task) (i : ℕ) → RunTo lines driver first now start tasks i → length start ≤ i → i ≤ length start → AreFor lines first.number start
    → Works lines (lines_by first.number lines) (told_of tasks) now.pass × WentOn (length (told_of tasks)) first.pass now.pass × (length (told_of tasks) ≤ 2 * length start)
all_run lines driver first now start tasks i so long least are =
    let size = so.size in
    let all : take i tasks ≡ tasks = take_all i tasks (omega (arith, size, long)) in
    let own : take i (lines_by first.number lines) ≡ lines_by first.number lines = take_all i (lines_by first.number lines) (let h = are.places.count in let k = map_size (λ (t : Task). t.line) start in omega (arith, h, k, long)) in
    let made = subst (λ (ts : List Task). Made lines (told_of ts) so.entries now.pass) all so.made in
    let few = so.few in
    let sum : length (told_of (take i tasks)) ≡ length (told_of tasks) = ap (λ (ts : List Task). length (told_of ts)) all in (
      record {
        run = record { entries = so.entries; tell = made.tell; answers = subst (λ (ls : List Line). AnswersLines ls so.entries) own so.answers };
        owned = made.own;
      },
      subst (λ (k : ℕ). WentOn k first.pass now.pass) sum so.went,
      omega (arith, few, sum, least),
    )

-- what the next line needs
pub record CanGo (lines : List Line) (now : CallerView) (task : Task) : Type 0 where
  pub room : 2 ≤ now.pass.room
  pub for_line : IsFor lines now.number task

pub can_go : (lines : List Line) (driver : DriverView) (first now : CallerView) (start tasks : List Task) (i : ℕ) (old : Task) → RunTo lines driver first now start tasks i → i < length start → AreFor lines first.number start
    → 2 * length start + 2 ≤ first.pass.room → old ≡ get_or tasks i old → CanGo lines now old
can_go lines driver first now start tasks i old so below are room is =
    let there : i < length tasks = let h = so.size in omega (arith, h, below) in
    let was : slice_get start i ≡ Some old = so.rest i old (omega arith) (slice_get-get_or tasks i old there ∙ ap (λ (t : Task). Some t) (sym is)) in
    record {
      room = let left = so.went.room in let few = so.few in omega (arith, left, few, room, below);
      for_line = subst (λ (n : ℕ). IsFor lines n old) (sym so.number) (are.each i old was);
    }

-- the calls of a line's word are those of the line
pub ran_word : (lines : List Line) (first : BankState) (c d : CallerView) (old new : Task) (line : Line) → IsFor lines c.number old → line ≡ get_or lines old.line line → new.line ≡ old.line → RunsWord line.word first c d new
    → RunsLine lines first c d new
ran_word lines first c d old new line is at same runs =
    let there : slice_get lines old.line ≡ Some line = slice_get-get_or lines old.line line (slice_get_within lines old.line is.line is.at) ∙ ap (λ (l : Line). Some l) (sym at) in
    let one : line ≡ is.line = one_some line is.line (slice_get lines old.line) there is.at in
    record { line = line; at = ap (slice_get lines) same ∙ there; by = ap (λ (l : Line). l.caller) one ∙ is.by; runs = runs }

pub ran_call : (first : BankState) (op : Op) (given : List ℕ) (c d e : CallerView) (task : Task) (answer : Answer) → d ≡ e → task.bytes.items ≡ given → task.answer ≡ answer → task.close ≡ None
    → Called first op given c e answer → RunsWord (Call op) first c d task
ran_call first op given c d e task answer caller bytes same none called = (
  subst (λ (v : CallerView). Called first op task.bytes.items c v task.answer) (sym caller)
      (subst (λ (g : List ℕ). Called first op g c e task.answer) (sym bytes) (subst (λ (a : Answer). Called first op given c e a) (sym same) called)),
  none,
)

pub ran_erase : (first : BankState) (op : Op) (c mid d e : CallerView) (task : Task) (answer : Answer) (close : Option Answer) → d ≡ e → task.answer ≡ answer → task.close ≡ close
    → Called first op [] c mid answer → Closes first answer.reply mid e close → RunsErase first op c d task
ran_erase first op c mid d e task answer close caller same closed called closes = record {
  mid = mid;
  called = subst (λ (a : Answer). Called first op [] c mid a) (sym same) called;
  closes = subst (λ (v : CallerView). Closes first task.answer.reply mid v task.close) (sym caller)
      (subst (λ (o : Option Answer). Closes first task.answer.reply mid e o) (sym closed) (subst (λ (a : Answer). Closes first a.reply mid e close) (sym same) closes));
}
