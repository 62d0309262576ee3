-- What any call of a bank makes is what the driver needs of it.
use Rattle.std.proofs.Common.{◌≡◌, ◌≢◌, ◌≤◌, ◌+◌, ◌∙◌, ◌++◌, ◌∷◌, ℕ, List, [], Bool, true, false, not, ◌==◌, ◌⊎◌, inl, inr, ⊎_elim, Option, Some, None, refl, sym, ap, subst}
use Rattle.std.proofs.lemmas.Bool.{cases_Bool}
use Rattle.std.proofs.lemmas.List.Elements.{All-push}
use Rattle.nor_bus.specs.Bus.{lane, more}
use Rattle.nor_bus.specs.Cycles.{KeepsLanes}
use Rattle.nor_bus.specs.Driven.{EachLane}
use Rattle.nor_array.specs.Array.{ArrayState}
use Rattle.nor_array.specs.Admits.{Admits}
use Rattle.nor_array.specs.After.{after, after_reply}
use Rattle.nor_array.specs.Entries.{is_halt}
use Rattle.nor_array.specs.Legal.{Agrees}
use Rattle.nor_array.specs.Needs.{needs_of}
use Rattle.nor_array.specs.Refusals.{owns}
use Rattle.nor_array.specs.declared.needs.Reach.TheVariants.{Range}
use Rattle.nor_array.specs.declared.entry.Entry.{Entry}
use Rattle.nor_array.specs.declared.entry.Halted.{Halted as HaltCause}
use Rattle.nor_array.specs.declared.entry.Op.{Op}
use Rattle.nor_array.specs.declared.entry.Op.TheVariants.{Read, Poll}
use Rattle.nor_array.specs.declared.entry.Reply.{Reply}
use Rattle.nor_array.specs.declared.entry.Reply.TheVariants.{Done, Opened, Erased, OutOfRange, TooLong, Occupied, Nothing, NotYet, Failed, Halted}
use Rattle.nor_array.specs.declared.state.ArmedCut.{ArmedCut}
use Rattle.nor_bank.specs.Calls.{MakesEntry, entry_of, entry_bytes, facts_of, given_by}
use Rattle.nor_bank.specs.Ranges.{words_met}
use Rattle.nor_bank.specs.Refused.{bank_refusal, outline, Refuses, Works}
use Rattle.nor_bank.specs.Stands.{Stands, under_of}
use Rattle.nor_bank.specs.State.{BankState, size_of, word_bytes}
use Rattle.nor_bank.specs.Whole.{IsCallOf, MakesCall, MayAnswer}
use Rattle.nor_bank.specs.Work.{range_refusal, words_in, kept_after}
use Rattle.nor_bank.specs.declared.kept.Erasing.{Erasing}
use Rattle.nor_poll.proofs.SuspendEnd.{pauses_idle}
use Rattle.nor_bank.proofs.RangeCalls.{refused_counts, same_counts, counts_none, closed_quiet, uses}
use Rattle.nor_bank.proofs.RefusalOrder.{kept_first}
use Rattle.nor_bank.proofs.RefusedCalls.{MayRefuse, may_refuse}
use Rattle.nor_bank.proofs.Refusing.{refusal_is}
use Rattle.nor_bank.proofs.Using.{UsesBus}
use Rattle.nor_cell.proofs.Logic.{same_self}
use Rattle.nor_turn.specs.Fronts.{Name, Front}
use Rattle.nor_driver.specs.Callers.{HasOpened}
use Rattle.nor_driver.specs.Fronts.{Opener, TellsErase, IsOpener, ErasesOwn, closes, opener_after, opener_of, is_call, risen, opens, loses, words_of, cycles_left}
use Rattle.nor_driver.specs.Made.{ReadsWords, is_poll, is_waited_out}
use Rattle.nor_driver.proofs.Cuts.{on_bus, left_less, words_none, words_some}
use Rattle.nor_driver.proofs.Owning.{opener_last, own_last, opener_is, keeper_after, number_of, keeper_of, no_number}
use Rattle.nor_driver.proofs.Refusing.{poll_is, unrefused_runs, opening_closed, refusal_tells, other_something}
use Rattle.nor_driver.proofs.Replies.{false_true, loses_failed}
use Rattle.nor_history.proofs.Histories.{risen_once}

-- A call of a bank was made, and gave these bytes.
pub record Makes (caller : ℕ) (op : Op) (old new : BankState) (r : Reply) (given : List ℕ) : Type 0 where
  pub call : IsCallOf caller op old new r (given_by op given)
  pub reads : ReadsWords op r old new
  pub kind : is_call op ≡ true

-- ---- how it came to its reply

data Came (caller : ℕ) (op : Op) (old new : BankState) (r : Reply) : Type 0 where
  IsRefused : bank_refusal old caller op ≡ Some r → Refuses r old new → Came caller op old new r
  IsIdle : r ≡ Done → new ≡ old → bank_refusal old caller op ≡ None → Came caller op old new r
  DidWork : Works caller op old → MayAnswer op old r → Came caller op old new r

came : (caller : ℕ) (op : Op) (old new : BankState) (r : Reply) (given : List ℕ) → IsCallOf caller op old new r given → Came caller op old new r
came caller op old new r given call = by_refusal (bank_refusal old caller op) refl
  where
    by_idle : (idle : Bool) → (needs_of op).idle ≡ idle → bank_refusal old caller op ≡ None → Came caller op old new r
    by_idle true idle none = (let done = call.idle none idle in IsIdle done.0 done.1 none)
    by_idle false busy none = (let works : Works caller op old = record { unrefused = none; busy = busy } in DidWork works (call.answers works))

    by_refusal : (o : Option Reply) → bank_refusal old caller op ≡ o → Came caller op old new r
    by_refusal None none = by_idle (needs_of op).idle refl none
    by_refusal (Some x) some =
        let both = call.refused x some in
        IsRefused (some ∙ ap (λ (y : Reply). Some y) (sym both.0)) (subst (λ (y : Reply). Refuses y old new) (sym both.0) both.1)

-- a reply that refuses nothing comes of a call that nothing refuses
not_refused : (caller : ℕ) (op : Op) (old new : BankState) (r : Reply) → Came caller op old new r → (MayRefuse old.halted r → ⊥) → bank_refusal old caller op ≡ None
not_refused caller op old new r (IsRefused is refuses) other = absurd (other (may_refuse old caller op r is))
not_refused caller op old new r (IsIdle done same none) other = none
not_refused caller op old new r (DidWork works may) other = works.unrefused

may_not : (kept : Option HaltCause) (r s : Reply) → r ≡ s → (MayRefuse kept s → ⊥) → MayRefuse kept r → ⊥
may_not kept r s is other may = other (subst (MayRefuse kept) is may)

-- ---- whose erase it opens or closes

opened_may : (caller : ℕ) (op : Op) (old new : BankState) (r : Reply) → Came caller op old new r → r ≡ Opened → (needs_of op).opens ≡ true
opened_may caller op old new r (IsRefused is refuses) opened = absurd (may_not old.halted r Opened opened (λ may. may) (may_refuse old caller op r is))
opened_may caller op old new r (IsIdle done same none) opened = absurd (let both : Done ≡ Opened = sym done ∙ opened in cc)
opened_may caller op old new r (DidWork works may) opened = subst (MayAnswer op old) opened may

opened_closed : (caller : ℕ) (op : Op) (old new : BankState) (r : Reply) → Came caller op old new r → r ≡ Opened → old.erase ≡ None
opened_closed caller op old new r way opened =
    opening_closed old caller op (opened_may caller op old new r way opened) (not_refused caller op old new r way (may_not old.halted r Opened opened (λ may. may)))

closing_refuses : (kept : Option HaltCause) (r : Reply) (op : Op) → closes r op ≡ true → MayRefuse kept r → ⊥
closing_refuses kept Erased op closing may = may
closing_refuses kept (Failed from to lanes) op closing may = may
closing_refuses kept r op closing may = false_true closing

pub closes_poll : (r : Reply) (op : Op) → closes r op ≡ true → is_poll op ≡ true
closes_poll Erased Poll closing = refl
closes_poll (Failed from to lanes) Poll closing = refl
closes_poll r op closing = absurd (false_true closing)

own_of : (o : Option Opener) (name : Name) (r : Reply) (op : Op) → (r ≡ Opened → o ≡ None) → (closes r op ≡ true → IsOpener name o) → ErasesOwn o name r op
own_of o name Opened op opening closing = opening refl
own_of o name Erased Poll opening closing = closing refl
own_of o name (Failed from to lanes) Poll opening closing = closing refl
own_of o name r op opening closing = tt

running_before : (kept : Option HaltCause) (r : Reply) → kept_after kept r ≡ None → (kept ≡ None) × (is_halt r ≡ false)
running_before kept (Halted cause) is = absurd (cc)
running_before kept r is = (is, refl)

-- the number of who has the erase under way that the caller opened, while no halt is kept
opener_now : (caller : ℕ) (old : BankState) (front : Front Entry) (name : Name) → TellsErase front old → HasOpened name caller front → old.halted ≡ None
    → opener_of None front ≡ Some (record { name = name; caller = caller })
opener_now caller old front name so has run = opener_is name caller front has so.own (so.running run)

-- the bank tells whose erase is under way also after the call
pub tells_more : (caller : ℕ) (op : Op) (old new : BankState) (r : Reply) (given : List ℕ) (front : Front Entry) (name : Name) → Makes caller op old new r given
    → TellsErase front old → (is_poll op ≡ true → HasOpened name caller front) → TellsErase (front ++ (name, entry_of old new caller op r given) ∷ []) new
tells_more caller op old new r given front name makes so polls = record {
  own = own_last None front name e so.own (own_of before name r op
      (λ opened. no_number before (so.opener ∙ ap keeper_of (opened_closed caller op old new r way opened)))
      (λ closing.
      let none = not_refused caller op old new r way (closing_refuses old.halted r op closing) in
      subst (IsOpener name) (sym (opener_now caller old front name so (polls (closes_poll r op closing)) (unrefused_runs old caller op makes.kind none))) refl));
  opener = ap number_of (opener_last None front name e) ∙ keeper_after before old.erase new.erase name caller r op so.opener makes.call.leaves.erase;
  running = λ run.
      let was = running_before old.halted r (sym makes.call.leaves.halted ∙ run) in
      All-push (λ (pair : Name × Entry). is_halt pair.1.reply ≡ false) front (name, e) (so.running was.0) was.1;
}
  where
    e : Entry
    e = entry_of old new caller op r given

    before : Option Opener
    before = opener_of None front

    way : Came caller op old new r
    way = came caller op old new r (given_by op given) makes.call

waited_halts : (kept : Option HaltCause) (r : Reply) → is_waited_out r ≡ true → kept_after kept r ≡ kept
waited_halts kept NotYet waits = refl
waited_halts kept (Occupied b) waits = refl
waited_halts kept r waits = absurd (false_true waits)

waited_opener : (o : Option Opener) (name : Name) (caller : ℕ) (r : Reply) (op : Op) → is_waited_out r ≡ true → opener_after o name caller r op ≡ o
waited_opener o name caller NotYet op waits = refl
waited_opener o name caller (Occupied b) op waits = refl
waited_opener o name caller r op waits = absurd (false_true waits)

-- what is waited out leaves what the bank tells
pub tells_still : (caller : ℕ) (op : Op) (old new : BankState) (r : Reply) (given : List ℕ) (front : Front Entry) → Makes caller op old new r given
    → TellsErase front old → is_waited_out r ≡ true → TellsErase front new
tells_still caller op old new r given front makes so waits = record {
  own = so.own;
  opener = ap number_of (sym (waited_opener (opener_of None front) [] caller r op waits))
      ∙ keeper_after (opener_of None front) old.erase new.erase [] caller r op so.opener makes.call.leaves.erase;
  running = λ run. so.running (sym (waited_halts old.halted r waits) ∙ (sym makes.call.leaves.halted ∙ run));
}

-- ---- it tells something

owns_by : (erase : Option Erasing) (caller : ℕ) → Some caller ≡ keeper_of erase → owns (under_of erase) caller ≡ true
owns_by None caller is = absurd (cc)
owns_by (Some e) caller is = let same : e.caller ≡ caller = (let h : Some caller ≡ Some e.caller = is in cc) in subst (λ (n : ℕ). (e.caller == n) ≡ true) same (same_self e.caller)

-- no poll of who opened the erase is refused as one of nothing
poll_tells : (caller : ℕ) (old : BankState) (front : Front Entry) (name : Name) → TellsErase front old → HasOpened name caller front → bank_refusal old caller Poll ≡ Some Nothing → ⊥
poll_tells caller old front name so has is = by_halt old.halted refl
  where
    by_halt : (kept : Option HaltCause) → old.halted ≡ kept → ⊥
    by_halt (Some cause) kept = let both : Some (Halted cause) ≡ Some Nothing = sym (kept_first old caller Poll cause refl refl kept) ∙ is in cc
    by_halt None run =
        let keeper : Some caller ≡ keeper_of old.erase = sym (ap number_of (opener_now caller old front name so has run)) ∙ so.opener in
        refusal_tells old caller Poll (ap not (owns_by old.erase caller keeper)) is

pub tells_some : (caller : ℕ) (op : Op) (old new : BankState) (r : Reply) (given : List ℕ) (front : Front Entry) (name : Name) → Makes caller op old new r given
    → TellsErase front old → (is_poll op ≡ true → HasOpened name caller front) → r ≢ Nothing
tells_some caller op old new r given front name makes so polls nothing = by_way (came caller op old new r (given_by op given) makes.call)
  where
    never : MayAnswer op old Nothing → ⊥
    never may = may

    refused : bank_refusal old caller op ≡ Some Nothing → ⊥
    refused is = ⊎_elim
        (λ (poll : is_poll op ≡ true).
        let same = poll_is op poll in
        poll_tells caller old front name so (polls poll) (subst (λ (o : Op). bank_refusal old caller o ≡ Some Nothing) same is))
        (λ (other : is_poll op ≡ false). refusal_tells old caller op (other_something (outline old) caller op makes.kind other) is)
        (cases_Bool (is_poll op))

    by_way : Came caller op old new r → ⊥
    by_way (IsRefused is refuses) = refused (is ∙ ap (λ (x : Reply). Some x) nothing)
    by_way (IsIdle done same none) = let both : Done ≡ Nothing = sym done ∙ nothing in cc
    by_way (DidWork works may) = never (subst (MayAnswer op old) nothing may)

-- ---- one entry more, or none

-- One entry more: the array admits it, and the bank stands for the array after it. What else a front counts goes on by it.
pub record GoesOn (old new : BankState) (e : Entry) (a : ArrayState) : Type 0 where
  pub admitted : Admits a e
  pub agrees : Agrees (facts_of old) a e
  pub stands : Stands new (after a e)
  pub call : is_call e.op ≡ true
  pub found : new.found ≡ old.found
  pub lanes : KeepsLanes old.bus new.bus
  pub erases : EachLane (λ s t. t.erases ≡ risen s.erases (opens e.reply)) old.bus new.bus
  pub suspends : old.erase ≡ None → EachLane (λ s t. t.suspends ≡ s.suspends) old.bus new.bus
  pub failed : more (loses e.reply) old.bus.failed ≤ new.bus.failed
  pub reads : (cut : ArmedCut) → a.armed ≡ Some cut
      → words_of (word_bytes old.found) e.reply e.op + cycles_left (after a e).power new.bus.armed ≤ cycles_left a.power old.bus.armed

-- No entry: the bank stands for the same array. All that a front counts is as it was, an armed cut no further away.
pub record Rests (old new : BankState) (a : ArrayState) : Type 0 where
  pub stands : Stands new a
  pub found : new.found ≡ old.found
  pub lanes : KeepsLanes old.bus new.bus
  pub erases : EachLane (λ s t. t.erases ≡ s.erases) old.bus new.bus
  pub suspends : old.erase ≡ None → EachLane (λ s t. t.suspends ≡ s.suspends) old.bus new.bus
  pub failed : more 0 old.bus.failed ≤ new.bus.failed
  pub reads : cycles_left a.power new.bus.armed ≤ cycles_left a.power old.bus.armed

-- the bytes of an entry hang on what is given in a read alone that is done
given_again : (op : Op) (given : List ℕ) → given_by op (given_by op given) ≡ given_by op given
given_again (Read at len) given = refl
given_again op given = refl

given_bytes : (r : Reply) (op : Op) (given told : List ℕ) (old new : BankState) → given_by op given ≡ given_by op told → entry_bytes r op given old new ≡ entry_bytes r op told old new
given_bytes Done op given told old new same = same
given_bytes r op given told old new same = refl

made_entry : (caller : ℕ) (op : Op) (old new : BankState) (r : Reply) (given : List ℕ) (a : ArrayState) → MakesEntry old new (entry_of old new caller op r (given_by op given)) a
    → MakesEntry old new (entry_of old new caller op r given) a
made_entry caller op old new r given a makes =
    subst (λ (bytes : List ℕ). MakesEntry old new (record { caller = caller; op = op; reply = r; bytes = bytes }) a)
    (given_bytes r op (given_by op given) given old new (given_again op given)) makes

refused_opens : (kept : Option HaltCause) (r : Reply) → MayRefuse kept r → opens r ≡ 0
refused_opens kept Opened may = absurd may
refused_opens kept r may = refl

waited_opens : (r : Reply) → is_waited_out r ≡ true → opens r ≡ 0
waited_opens Opened waits = absurd (false_true waits)
waited_opens r waits = refl

erases_rise : (caller : ℕ) (op : Op) (old new : BankState) (r : Reply) (given : List ℕ) (a : ArrayState) → Came caller op old new r → MakesCall caller op old new r given a
    → EachLane (λ s t. t.erases ≡ risen s.erases (opens r)) old.bus new.bus
erases_rise caller op old new r given a (IsRefused is refuses) made =
    λ c below. (refused_counts old new r refuses c below).erases ∙ sym (ap (risen _) (refused_opens old.halted r (may_refuse old caller op r is)))
erases_rise caller op old new r given a (IsIdle done same none) made =
    λ c below. (same_counts old new same c below).erases ∙ sym (ap (λ (x : Reply). risen (lane old.bus c).erases (opens x)) done)
erases_rise caller op old new r given a (DidWork works may) made = λ c below. (made.counts works c below).erases ∙ risen_once r (lane old.bus c).erases

suspends_stay : (caller : ℕ) (op : Op) (old new : BankState) (r : Reply) (given : List ℕ) (a : ArrayState) → is_call op ≡ true → Came caller op old new r → MakesCall caller op old new r given a
    → Stands old a → old.erase ≡ None → EachLane (λ s t. t.suspends ≡ s.suspends) old.bus new.bus
suspends_stay caller op old new r given a call (IsRefused is refuses) made stands closed = λ c below. (refused_counts old new r refuses c below).suspends
suspends_stay caller op old new r given a call (IsIdle done same none) made stands closed = λ c below. (same_counts old new same c below).suspends
suspends_stay caller op old new r given a call (DidWork works may) made stands closed =
    λ c below.
    let quiet = closed_quiet old a stands (unrefused_runs old caller op call works.unrefused) closed c below in
    counts_none r _ (lane old.bus c) (lane new.bus c) (pauses_idle (lane old.bus c) quiet.shown.job) (made.counts works c below).suspends

words_zero : (w : ℕ) (r : Reply) (op : Op) → ((at len : ℕ) → op ≡ Read at len → r ≢ Done) → words_of w r op ≡ 0
words_zero w Done (Read at len) other = absurd (other at len refl refl)
words_zero w Done op other = refl
words_zero w r op other = refl

-- the words that a read reads come off the cycles that are left
reads_words : (op : Op) (r : Reply) (old new : BankState) (a : ArrayState) (caller : ℕ) (bytes : List ℕ) (cut : ArmedCut) → is_call op ≡ true
    → Stands old a → Stands new (after a (record { caller = caller; op = op; reply = r; bytes = bytes })) → UsesBus old.bus new.bus → (r ≡ Done → old.halted ≡ None) → ReadsWords op r old new
    → a.armed ≡ Some cut
    → words_of (word_bytes old.found) r op + cycles_left (after a (record { caller = caller; op = op; reply = r; bytes = bytes })).power new.bus.armed ≤ cycles_left a.power old.bus.armed
reads_words (Read at len) Done old new a caller bytes cut call stands there used runs went armed =
    words_some (words_met at len (word_bytes old.found)) (60 + words_in old at len) old new a cut stands (runs refl) armed went
reads_words op r old new a caller bytes cut call stands there used runs went armed =
    words_none (word_bytes old.found) old new a (record { caller = caller; op = op; reply = r; bytes = bytes }) call there used
    (words_zero (word_bytes old.found) r op (λ at len is done. cc))

done_runs : (caller : ℕ) (op : Op) (old new : BankState) (r : Reply) → is_call op ≡ true → Came caller op old new r → r ≡ Done → old.halted ≡ None
done_runs caller op old new r call way done =
    unrefused_runs old caller op call (not_refused caller op old new r way (may_not old.halted r Done done (λ may. may)))

pub goes : (caller : ℕ) (op : Op) (old new : BankState) (r : Reply) (given : List ℕ) (a : ArrayState) → Makes caller op old new r given → Stands old a
    → GoesOn old new (entry_of old new caller op r given) a
goes caller op old new r given a makes stands =
    let call = makes.call in
    let way : Came caller op old new r = came caller op old new r (given_by op given) call in
    let all : MakesCall caller op old new r (given_by op given) a = call.makes a stands in
    let made : MakesEntry old new (entry_of old new caller op r given) a = made_entry caller op old new r given a all.entry in
    let used : UsesBus old.bus new.bus = uses op r old new call.spends in
    record {
      admitted = made.admitted;
      agrees = made.agrees;
      stands = made.stands;
      call = makes.kind;
      found = call.leaves.found;
      lanes = call.leaves.lanes;
      erases = erases_rise caller op old new r (given_by op given) a way all;
      suspends = suspends_stay caller op old new r (given_by op given) a makes.kind way all stands;
      failed = loses_failed r old.bus.failed new.bus.failed used.failed call.off;
      reads = λ cut armed. reads_words op r old new a caller (entry_bytes r op given old new) cut makes.kind stands made.stands used (done_runs caller op old new r makes.kind way) makes.reads armed;
    }

waits_same : (r : Reply) (e : Entry) (a : ArrayState) → is_waited_out r ≡ true → after_reply r e a ≡ a
waits_same NotYet e a waits = refl
waits_same (Occupied b) e a waits = refl
waits_same r e a waits = absurd (false_true waits)

pub rests : (caller : ℕ) (op : Op) (old new : BankState) (r : Reply) (given : List ℕ) (a : ArrayState) → Makes caller op old new r given → is_waited_out r ≡ true → Stands old a → Rests old new a
rests caller op old new r given a makes waits stands =
    let call = makes.call in
    let way : Came caller op old new r = came caller op old new r (given_by op given) call in
    let all : MakesCall caller op old new r (given_by op given) a = call.makes a stands in
    let now : Stands new a = subst (Stands new) (waits_same r (entry_of old new caller op r (given_by op given)) a waits) all.entry.stands in
    let used : UsesBus old.bus new.bus = uses op r old new call.spends in
    record {
      stands = now;
      found = call.leaves.found;
      lanes = call.leaves.lanes;
      erases = λ c below. erases_rise caller op old new r (given_by op given) a way all c below ∙ ap (risen _) (waited_opens r waits);
      suspends = suspends_stay caller op old new r (given_by op given) a makes.kind way all stands;
      failed = used.failed;
      reads = left_less a.power a.power old.bus.armed new.bus.armed (λ on. (on, used.armed (on_bus new a now on)));
    }

-- ---- a read of too many bytes

pub long_reads : (b : BankState) (at len : ℕ) (r : Reply) → Some r ≡ range_refusal (size_of b.found) at len → ReadsWords (Read at len) r b b
long_reads b at len r is = by_reply r (refusal_is b.found (Range at len) r (sym is))
  where
    by_reply : (r : Reply) → (r ≡ OutOfRange) ⊎ (r ≡ TooLong) → ReadsWords (Read at len) r b b
    by_reply Done (inl is) = absurd (cc)
    by_reply Done (inr is) = absurd (cc)
    by_reply r which = tt
