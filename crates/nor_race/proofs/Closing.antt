-- A race leaves nothing under erase: a caller that opened an erase closes it by its next call.
use Rattle.std.proofs.Common.{◌≡◌, ◌<◌, ◌∙◌, ◌==◌, ◌⊎◌, inl, inr, ⊎_elim, ◌++◌, ◌∷◌, ℕ, suc, List, [], Bool, true, false, cond, Option, Some, None, refl, sym, ap, subst, arith}
use Rattle.std.specs.Prelude.{slice_get, All, not}
use Rattle.std.proofs.lemmas.List.Elements.{All-cons, All-head, All-tail, All-same, All-filter, filter-append, filter_passes}
use Rattle.nor_cell.proofs.Logic.{same_number}
use Rattle.nor_array.specs.Array.{ArrayState}
use Rattle.nor_array.specs.After.{after}
use Rattle.nor_array.specs.Admits.{Admits, Unrefused, AsksChips, EndsUnlocked, Ends, first_locked}
use Rattle.nor_array.specs.Entries.{IsAwaited}
use Rattle.nor_array.specs.Legal.{Facts, Legal}
use Rattle.nor_array.specs.Needs.{needs_of}
use Rattle.nor_array.specs.Refusals.{refusal, first_some, when, kept_halt, while_open, busy_or_occupied, owns}
use Rattle.nor_array.specs.declared.entry.Entry.{Entry}
use Rattle.nor_array.specs.declared.entry.Halted.TheVariants.{Off as OffHalt, Stuck as StuckHalt}
use Rattle.nor_array.specs.declared.entry.Op.{Op}
use Rattle.nor_array.specs.declared.entry.Op.TheVariants.{Read, Program, EraseOpen, EraseAll as EraseAllOp, Poll, Lock, Unlock, IsLocked, Arm, PowerOn}
use Rattle.nor_array.specs.declared.entry.Reply.{Reply}
use Rattle.nor_array.specs.declared.entry.Reply.TheVariants.{Opened, Erased, Failed, Nothing, NotYet, Halted}
use Rattle.nor_array.specs.declared.state.ArmedCut.{ArmedCut}
use Rattle.nor_array.specs.declared.state.OpenErase.{OpenErase}
use Rattle.nor_array.specs.declared.state.Power.{Power}
use Rattle.nor_array.specs.declared.state.Power.TheVariants.{On, Off, Stuck}
use Rattle.nor_array.proofs.Admitted.{admitted}
use Rattle.nor_array.proofs.Refused.{refusal_is}
use Rattle.nor_bank.proofs.Meeting.{open_nowhere}
use Rattle.nor_turn.specs.Fronts.{Name, Front}
use Rattle.nor_script.specs.Answering.{AnswersWord, AnswersLines, AnswersRace, lines_by, entries_by}
use Rattle.nor_script.specs.Racing.{IsRaceScript, may_race}
use Rattle.nor_script.specs.declared.line.Line.{Line}
use Rattle.nor_script.specs.declared.line.Word.{Word}
use Rattle.nor_script.specs.declared.line.Word.TheVariants.{Call, Erase, EraseAll}
use Rattle.nor_driver.specs.Fronts.{Opener, opener_after, opener_of, entries_of}
use Rattle.nor_race.proofs.Joining.{none_some, all_get}
use Rattle.nor_race.proofs.Answering.{answered_by}

-- ---- what a poll may be answered

-- it ends the erase, or the bank halts
abbrev EndsPoll : Reply → Type 0
EndsPoll Erased = Unit {0}
EndsPoll (Failed from to lanes) = Unit {0}
EndsPoll (Halted cause) = Unit {0}
EndsPoll _ = ⊥

ended : (o : Option Opener) (name : Name) (caller : ℕ) (r : Reply) → EndsPoll r → opener_after o name caller r Poll ≡ None
ended o name caller Erased ends = refl
ended o name caller (Failed from to lanes) ends = refl
ended o name caller (Halted cause) ends = refl
ended o name caller r ends = absurd ends

poll_asked : (r : Reply) (a : ArrayState) (bytes : List ℕ) → IsAwaited r → AsksChips r Poll a bytes → EndsPoll r
poll_asked NotYet a bytes awaited asks = absurd (awaited.yet refl)
poll_asked Erased a bytes awaited asks = tt
poll_asked (Failed from to lanes) a bytes awaited asks = tt
poll_asked (Halted (OffHalt n)) a bytes awaited asks = tt
poll_asked (Halted (StuckHalt lane)) a bytes awaited asks = tt
poll_asked r a bytes awaited asks = absurd asks

some_reply : (x y : Reply) → Some x ≡ Some y → x ≡ y
some_reply x y is = cc

poll_kept : (power : Power) (armed : Option ArmedCut) (nothing : Bool) (r : Reply) → IsAwaited r → first_some (kept_halt power armed Poll ∷ when nothing Nothing ∷ None ∷ None ∷ None ∷ []) ≡ Some r → EndsPoll r
poll_kept On armed true r awaited is = absurd (awaited.nothing (sym (some_reply Nothing r is)))
poll_kept On armed false r awaited is = none_some r is
poll_kept Off armed nothing r awaited is = subst EndsPoll (some_reply _ r is) tt
poll_kept (Stuck lane) armed nothing r awaited is = subst EndsPoll (some_reply _ r is) tt

poll_beside : (under : Option OpenErase) (a : ArrayState) → while_open under a (needs_of Poll) ≡ None
poll_beside None a = refl
poll_beside (Some e) a = ap (λ (k : Option ℕ). busy_or_occupied k e false) (open_nowhere e.target a)

poll_refused : (a : ArrayState) (caller : ℕ) (r : Reply) → IsAwaited r → refusal a caller Poll ≡ Some r → EndsPoll r
poll_refused a caller r awaited is =
    let nothing = not (owns a.under caller) in
    poll_kept a.power a.armed nothing r awaited
    (sym (ap (λ (busy : Option Reply). first_some (kept_halt a.power a.armed Poll ∷ when nothing Nothing ∷ busy ∷ None ∷ None ∷ [])) (poll_beside a.under a)) ∙ is)

poll_ends : (a : ArrayState) (e : Entry) (o : Option Opener) (name : Name) → Admits a e → e.op ≡ Poll → IsAwaited e.reply → opener_after o name e.caller e.reply e.op ≡ None
poll_ends a e o name admits polls awaited =
    ap (opener_after o name e.caller e.reply) polls
    ∙ ended o name e.caller e.reply
    (⊎_elim
    (λ refused. poll_refused a e.caller e.reply awaited (ap (refusal a e.caller) (sym polls) ∙ refused.0))
    (λ free. poll_asked e.reply a e.bytes awaited (subst (λ (op : Op). Unrefused (needs_of op).idle (record e { op = op }) a) polls free.1))
    (admitted a e admits))

-- ---- what may be opened

-- no other call opens an erase
ends_opened : (op : Op) (a : ArrayState) (bytes : List ℕ) → Ends op a Opened bytes → (needs_of op).opens ≡ true
ends_opened (Read at len) a bytes ends = absurd (let no = ends.0 in cc)
ends_opened (Program at new) a bytes ends = absurd ends
ends_opened (EraseOpen b) a bytes ends = refl
ends_opened EraseAllOp a bytes ends = refl
ends_opened Poll a bytes ends = absurd ends
ends_opened (Lock b) a bytes ends = absurd (let no = ends.0 in cc)
ends_opened (Unlock b) a bytes ends = absurd (let no = ends.0 in cc)
ends_opened (IsLocked b) a bytes ends = absurd (let no = ends.0 in cc)
ends_opened (Arm cut mask) a bytes ends = absurd ends
ends_opened PowerOn a bytes ends = absurd ends

locked_opened : (locked : Option ℕ) (op : Op) (a : ArrayState) (bytes : List ℕ) → EndsUnlocked locked op a Opened bytes → (needs_of op).opens ≡ true
locked_opened None op a bytes ends = ends_opened op a bytes ends
locked_opened (Some b) op a bytes ends = absurd (let no = ends.0 in cc)

unrefused_opened : (idle : Bool) (e : Entry) (a : ArrayState) → e.reply ≡ Opened → Unrefused idle e a → (needs_of e.op).opens ≡ true
unrefused_opened true e a opened free = absurd (let no = sym opened ∙ free.0 in cc)
unrefused_opened false e a opened free =
    locked_opened (first_locked a e.op) e.op a e.bytes (subst (λ (r : Reply). AsksChips r e.op a e.bytes) opened free)

opened_opens : (a : ArrayState) (e : Entry) → Admits a e → e.reply ≡ Opened → (needs_of e.op).opens ≡ true
opened_opens a e admits opened = ⊎_elim
    (λ refused. refusal_is (λ (r : Reply). r ≡ Opened → (needs_of e.op).opens ≡ true) a e.caller e.op (record {
      out_of_range = λ is. absurd (cc);
      too_long = λ is. absurd (cc);
      halted = λ cause off is. absurd (cc);
      nothing = λ is. absurd (cc);
      busy = λ b is. absurd (cc);
      occupied = λ b is. absurd (cc);
      no_locks = λ is. absurd (cc);
      no_chip_erase = λ is. absurd (cc);
    }) e.reply refused.0 opened)
    (λ free. unrefused_opened (needs_of e.op).idle e a opened free.1)
    (admitted a e admits)

-- ---- the entries of one caller

-- the first is a poll that wasn't told to wait
abbrev ClosesFirst : List Entry → Type 0
ClosesFirst [] = ⊥
ClosesFirst (e ∷ es) = (e.op ≡ Poll) × IsAwaited e.reply

-- such a poll stands behind each that opens an erase
abbrev ClosesEach : List Entry → Type 0
ClosesEach [] = Unit {0}
ClosesEach (e ∷ es) = ((needs_of e.op).opens ≡ true → e.reply ≡ Opened → ClosesFirst es) × ClosesEach es

first_then : (xs ys : List Entry) → ClosesFirst xs → ClosesFirst (xs ++ ys)
first_then [] ys closes = absurd closes
first_then (x ∷ xs) ys closes = closes

closes_then : (xs ys : List Entry) → ClosesEach xs → ClosesEach ys → ClosesEach (xs ++ ys)
closes_then [] ys one two = two
closes_then (x ∷ xs) ys one two = (λ opens opened. first_then xs ys (one.0 opens opened), closes_then xs ys one.1 two)

closes_behind : (xs ys : List Entry) → ClosesEach (xs ++ ys) → ClosesEach ys
closes_behind [] ys closes = closes
closes_behind (x ∷ xs) ys closes = closes_behind xs ys closes.1

false_true : false ≡ true → ⊥
false_true is = cc

opens_no : (op : Op) (e : Entry) → e.op ≡ op → (needs_of op).opens ≡ false → (needs_of e.op).opens ≡ true → ⊥
opens_no op e is none opens = false_true (sym none ∙ (ap (λ (o : Op). (needs_of o).opens) (sym is) ∙ opens))

raced_none : (op : Op) → may_race (Call op) ≡ true → (needs_of op).opens ≡ false
raced_none (EraseOpen b) may = absurd (false_true may)
raced_none EraseAllOp may = absurd (false_true may)
raced_none op may = refl

word_closes : (word : Word) (caller : ℕ) (es : List Entry) → may_race word ≡ true → AnswersWord word caller es → All (λ (e : Entry). IsAwaited e.reply) es → ClosesEach es
word_closes word caller [] may answers awaited = tt
word_closes (Call op) caller (e ∷ []) may answers awaited = (λ opens opened. absurd (opens_no op e answers.calls (raced_none op may) opens), tt)
word_closes (Erase b) caller (e ∷ []) may answers awaited = (λ opens opened. absurd (answers.reply opened), tt)
word_closes EraseAll caller (e ∷ []) may answers awaited = (λ opens opened. absurd (answers.reply opened), tt)
word_closes (Call op) caller (e ∷ close ∷ []) may answers awaited = absurd answers
word_closes (Erase b) caller (e ∷ close ∷ []) may answers awaited =
    let last = All-head (λ (x : Entry). IsAwaited x.reply) close [] (All-tail (λ (x : Entry). IsAwaited x.reply) e (close ∷ []) awaited) in
    (λ opens opened. (answers.polling.calls, last), (λ opens opened. absurd (opens_no Poll close answers.polling.calls refl opens), tt))
word_closes EraseAll caller (e ∷ close ∷ []) may answers awaited =
    let last = All-head (λ (x : Entry). IsAwaited x.reply) close [] (All-tail (λ (x : Entry). IsAwaited x.reply) e (close ∷ []) awaited) in
    (λ opens opened. (answers.polling.calls, last), (λ opens opened. absurd (opens_no Poll close answers.polling.calls refl opens), tt))
word_closes word caller (e ∷ close ∷ more ∷ es) may answers awaited = absurd (three word answers)
  where
    three : (w : Word) → AnswersWord w caller (e ∷ close ∷ more ∷ es) → ⊥
    three (Call op) is = is
    three (Erase b) is = is
    three EraseAll is = is

all_parts : (xs ys : List Entry) → All (λ (e : Entry). IsAwaited e.reply) (xs ++ ys) → All (λ (e : Entry). IsAwaited e.reply) xs × All (λ (e : Entry). IsAwaited e.reply) ys
all_parts [] ys all = (λ k d below. absurd (omega (arith, below)), all)
all_parts (x ∷ xs) ys all =
    let rest = all_parts xs ys (All-tail (λ (e : Entry). IsAwaited e.reply) x (xs ++ ys) all) in
    (All-cons (λ (e : Entry). IsAwaited e.reply) x xs (All-head (λ (e : Entry). IsAwaited e.reply) x (xs ++ ys) all) rest.0, rest.1)

lines_close : (lines : List Line) (es : List Entry) → All (λ (l : Line). may_race l.word ≡ true) lines → AnswersLines lines es → All (λ (e : Entry). IsAwaited e.reply) es → ClosesEach es
lines_close [] es may answers awaited = subst ClosesEach (sym answers) tt
lines_close (line ∷ lines) es may answers awaited =
    let parts = all_parts answers.0 answers.1 (All-same (λ (e : Entry). IsAwaited e.reply) (answers.0 ++ answers.1) es (sym answers.2) awaited) in
    subst ClosesEach (sym answers.2)
    (closes_then answers.0 answers.1
    (word_closes line.word line.caller answers.0 (All-head (λ (l : Line). may_race l.word ≡ true) line lines may) answers.3 parts.0)
    (lines_close lines answers.1 (All-tail (λ (l : Line). may_race l.word ≡ true) line lines may) answers.4 parts.1))

-- ---- an erase that is under way

own_first : (n : ℕ) (e : Entry) (es : List Entry) → (e.caller == n) ≡ true → entries_by n (e ∷ es) ≡ e ∷ entries_by n es
own_first n e es is = ap (λ (b : Bool). cond b (e ∷ entries_by n es) (entries_by n es)) is

other_first : (n : ℕ) (e : Entry) (es : List Entry) → (e.caller == n) ≡ false → entries_by n (e ∷ es) ≡ entries_by n es
other_first n e es is = ap (λ (b : Bool). cond b (e ∷ entries_by n es) (entries_by n es)) is

-- it was opened by this entry, or was before
under_way : (o : Option Opener) (name : Name) (caller : ℕ) (r : Reply) (op : Op) (x : Opener) → opener_after o name caller r op ≡ Some x → ((r ≡ Opened) × (x.caller ≡ caller)) ⊎ (o ≡ Some x)
under_way o name caller Opened op x is = inl (refl, ap (λ (w : Opener). w.caller) (some_opener x _ (sym is)))
  where
    some_opener : (y z : Opener) → Some y ≡ Some z → y ≡ z
    some_opener y z same = cc
under_way o name caller Erased Poll x is = none_some x is
under_way o name caller (Failed from to lanes) Poll x is = none_some x is
under_way o name caller (Halted cause) op x is = none_some x is
under_way o name caller r op x is = inr is

-- its caller closes it by its next entry
abbrev IsClosedIn : List Entry → Opener → Type 0
IsClosedIn es x = (0 < x.caller) × ClosesFirst (entries_by x.caller es)

one_on : (facts : Facts) (a : ArrayState) (o : Option Opener) (name : Name) (e : Entry) (es : List Entry) → Admits a e → 0 < e.caller
    → ClosesEach (entries_by e.caller (e ∷ es)) → ((x : Opener) → o ≡ Some x → IsClosedIn (e ∷ es) x)
    → (x : Opener) → opener_after o name e.caller e.reply e.op ≡ Some x → IsClosedIn es x
one_on facts a o name e es admits some closes before x is = by_test (e.caller == x.caller) refl
  where
    mine : (e.caller == e.caller) ≡ true
    mine = grind arith

    own : ClosesEach (e ∷ entries_by e.caller es)
    own = subst ClosesEach (own_first e.caller e es mine) closes

    newly : (e.reply ≡ Opened) × (x.caller ≡ e.caller) → IsClosedIn es x
    newly new =
        let here : ClosesFirst (entries_by e.caller es) = own.0 (opened_opens a e admits new.0) new.0 in
        let number = new.1 in
        (omega (arith, number, some), subst (λ (n : ℕ). ClosesFirst (entries_by n es)) (sym new.1) here)

    by_test : (b : Bool) → (e.caller == x.caller) ≡ b → IsClosedIn es x
    by_test true same = ⊎_elim newly
        (λ (old : o ≡ Some x).
        let first : ClosesFirst (e ∷ entries_by x.caller es) = subst ClosesFirst (own_first x.caller e es same) (before x old).1 in
        none_some x (sym (poll_ends a e o name admits first.0 first.1) ∙ is))
        (under_way o name e.caller e.reply e.op x is)
    by_test false other = ⊎_elim newly
        (λ (old : o ≡ Some x). ((before x old).0, subst ClosesFirst (other_first x.caller e es other) (before x old).1))
        (under_way o name e.caller e.reply e.op x is)

closed_from : (facts : Facts) (a : ArrayState) (o : Option Opener) (front : Front Entry) → Legal facts a (entries_of front) → All (λ (e : Entry). 0 < e.caller) (entries_of front)
    → ((n : ℕ) → 0 < n → ClosesEach (entries_by n (entries_of front))) → ((x : Opener) → o ≡ Some x → IsClosedIn (entries_of front) x) → opener_of o front ≡ None
closed_from facts a None [] legal some closes before = refl
closed_from facts a (Some x) [] legal some closes before = absurd (before x refl).1
closed_from facts a o (pair ∷ front) legal some closes before =
    let e = pair.1 in
    let positive = All-head (λ (x : Entry). 0 < x.caller) e (entries_of front) some in
    closed_from facts (after a e) (opener_after o pair.0 e.caller e.reply e.op) front legal.2
    (All-tail (λ (x : Entry). 0 < x.caller) e (entries_of front) some)
    (λ n less. one_less n (e.caller == n) refl (closes n less))
    (one_on facts a o pair.0 e (entries_of front) legal.0 positive (closes e.caller positive) before)
  where
    one_less : (n : ℕ) (b : Bool) → (pair.1.caller == n) ≡ b → ClosesEach (entries_by n (entries_of (pair ∷ front))) → ClosesEach (entries_by n (entries_of front))
    one_less n true is all = (subst ClosesEach (own_first n pair.1 (entries_of front) is) all).1
    one_less n false is all = subst ClosesEach (other_first n pair.1 (entries_of front) is) all

-- ---- a whole race

none_by : (n : ℕ) (es : List Entry) → 0 < n → ((j : ℕ) (e : Entry) → slice_get es j ≡ Some e → e.caller ≡ 0) → entries_by n es ≡ []
none_by n [] less zero_all = refl
none_by n (e ∷ es) less zero_all =
    other_first n e es (let none : e.caller ≡ 0 = zero_all 0 e refl in grind (arith, none, less))
    ∙ none_by n es less (λ j x at. zero_all (suc j) x at)

may_by : (n : ℕ) (lines : List Line) → IsRaceScript lines → All (λ (l : Line). may_race l.word ≡ true) (lines_by n lines)
may_by n lines script = All-filter (λ (l : Line). l.caller == n) (λ (l : Line). may_race l.word ≡ true) lines script.words

-- behind the entries of the cuts, each caller closes what it opens
each_closes : (lines : List Line) (cuts es : List Entry) → IsRaceScript lines → AnswersRace lines (cuts ++ es) → (n : ℕ) → 0 < n → ClosesEach (entries_by n es)
each_closes lines cuts es script answers n less =
    let own : Entry → Bool = λ e. e.caller == n in
    let none : entries_by n answers.cuts ≡ [] =
    none_by n answers.cuts less
    (answered_by 0 (lines_by 0 lines) answers.cuts
    (λ k line is. same_number line.caller 0 (all_get (λ (l : Line). (l.caller == 0) ≡ true) (lines_by 0 lines) (filter_passes (λ (l : Line). l.caller == 0) lines) k line is)) answers.armed) in
    let same : entries_by n answers.raced ≡ entries_by n cuts ++ entries_by n es =
    sym (ap (λ (xs : List Entry). xs ++ entries_by n answers.raced) none)
    ∙ (sym (filter-append own answers.cuts answers.raced) ∙ (sym (ap (entries_by n) answers.parts) ∙ filter-append own cuts es)) in
    closes_behind (entries_by n cuts) (entries_by n es)
    (subst ClosesEach same
    (lines_close (lines_by n lines) (entries_by n answers.raced) (may_by n lines script) (answers.each n less)
    (All-filter own (λ (e : Entry). IsAwaited e.reply) answers.raced answers.awaited)))

-- nothing is left under erase
pub none_opened : (lines : List Line) (cuts : List Entry) (front : Front Entry) (facts : Facts) (a : ArrayState) → IsRaceScript lines → AnswersRace lines (cuts ++ entries_of front)
    → All (λ (e : Entry). 0 < e.caller) (entries_of front) → Legal facts a (entries_of front) → opener_of None front ≡ None
none_opened lines cuts front facts a script answers some legal =
    closed_from facts a None front legal some (each_closes lines cuts (entries_of front) script answers) (λ x is. none_some x is)
