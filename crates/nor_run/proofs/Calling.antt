-- Calls of a bank, and their entries.
use Rattle.std.proofs.Common.{◌≡◌, ◌≢◌, ◌<◌, ◌≤◌, ◌+◌, ◌-◌, ◌*◌, ◌∙◌, ◌||◌, ◌∷◌, ℕ, List, [], Bool, true, false, Option, Some, None, Result, Ok, Err, IsErrAnd, refl, sym, ap, subst, arith}
use Rattle.std.specs.Prelude.{nat_lt}
use Rattle.std.proofs.Math.Bool.{or-false}
use Rattle.nor_array.specs.Admits.{HasItsCaller}
use Rattle.nor_array.specs.After.{after}
use Rattle.nor_array.specs.Array.{ArrayState}
use Rattle.nor_array.specs.declared.state.OpenErase.{OpenErase}
use Rattle.nor_array.specs.Entries.{is_halt}
use Rattle.nor_array.specs.Needs.{needs_of}
use Rattle.nor_array.specs.Refusals.{first_some, when}
use Rattle.nor_array.specs.declared.entry.Entry.{Entry}
use Rattle.nor_array.specs.declared.entry.Op.{Op}
use Rattle.nor_array.specs.declared.entry.Op.TheVariants.{Read, EraseOpen, EraseAll, Poll, Arm, PowerOn}
use Rattle.nor_array.specs.declared.entry.Reply.{Reply}
use Rattle.nor_array.specs.declared.entry.Reply.TheVariants.{Done, Opened, OutOfRange, TooLong, NotYet}
use Rattle.nor_script.specs.Answering.{AnswersWord}
use Rattle.nor_script.specs.Script.{CallHasCaller, HasCaller}
use Rattle.nor_script.specs.declared.line.Word.{Word}
use Rattle.nor_script.specs.declared.line.Word.TheVariants.{Call, Erase, EraseAll as EraseAllLine}
use Rattle.nor_bank.specs.Calls.{entry_of, entry_bytes}
use Rattle.nor_bank.specs.Counts.{GoesOn, IsNew, KeepsErase}
use Rattle.nor_history.specs.Histories.{IsMadeBy, Makes, Leads}
use Rattle.nor_bus.specs.Driven.{Nearer, Went}
use Rattle.nor_bank.specs.Stands.{Stands, under_of}
use Rattle.nor_bank.specs.State.{BankState, erase_limit}
use Rattle.nor_bank.specs.Whole.{IsCallOf}
use Rattle.nor_bank.specs.Work.{range_refusal, words_in, KeepsBank}
use Rattle.nor_bank.specs.declared.kept.Erasing.{Erasing}
use Rattle.nor_history.specs.Bounds.{ReadsWords, Tally, Fits, Goes, polls_most, steps_as, tally_after}
use Rattle.nor_history.proofs.Bounded.{goes_one, goes_then, goes_waited}
use Rattle.nor_history.proofs.Bounds.{asked_near, near_same, near_then, near_within}
use Rattle.nor_history.proofs.Histories.{leads_one, leads_then, leads_waiting}
use Rattle.nor_bank.proofs.Keeping.{keeps_call, keeps_bank_then}
use Rattle.nor_probe.specs.declared.probing.Found.{Found}
use Rattle.nor_run.specs.Running.{ran_over, StopsFrom, Gives, HandsOn, RunsCall, RunsTo, AnswersErase, IsPolled, PollsOn, is_read}
use Rattle.nor_run.specs.Steps.{waits_for}
use Rattle.nor_run.specs.Taking.{told_bytes, told, Takes}
use Rattle.nor_run.specs.declared.lines.Ran.{Ran}

true_false : true ≡ false → ⊥
true_false is = cc

-- ---- an entry that is handed over

pub counted_one : (ran : Ran) (e : Entry) (now : Ran) → now ≡ record { entries = ran.entries + 1; halted = ran.halted || is_halt e.reply } → now ≡ ran_over ran (e ∷ [])
counted_one ran e now is = is ∙ ap (λ (b : Bool). record { entries = ran.entries + 1; halted = ran.halted || b }) (sym (or-false (is_halt e.reply)))

-- the same of an entry of which as much is told
pub hands_on_as : {T E : Type 0} (takes : Takes T E) (ran : Ran) (f e : Entry) (before after : T) (result : Result Ran E) → told f ≡ told e → f.reply ≡ e.reply
    → HandsOn takes ran f before after result → HandsOn takes ran e before after result
hands_on_as takes ran f e before after (Ok now) same reply hands = (
  subst (λ (x : Entry). takes ran.entries x before after (Ok tt)) same hands.0,
  hands.1 ∙ ap (λ (r : Reply). record { entries = ran.entries + 1; halted = ran.halted || (is_halt r || false) }) reply,
)
hands_on_as takes ran f e before after (Err stop) same reply hands = subst (λ (x : Entry). takes ran.entries x before after (Err stop)) same hands

pub gives_one : {T E : Type 0} (takes : Takes T E) (ran : Ran) (e : Entry) (before after : T) (result : Result Ran E) → HandsOn takes ran e before after result
    → Gives takes ran (e ∷ []) before after result
gives_one takes ran e before after (Ok now) hands = ((after, hands.0, refl), hands.1)
gives_one {T} {E} takes ran e before after (Err stop) hands =
    let here : ran.entries ≡ ran.entries + 0 = omega arith in
    record {
      taken = [];
      entry = e;
      rest = [];
      parts = refl;
      mid = before;
      took = refl;
      stops = subst (λ (n : ℕ). takes n (told e) before after (Err stop)) here hands;
      last = omega arith;
    }

-- the first of two wasn't taken
pub stops_first : {T E : Type 0} (takes : Takes T E) (ran : Ran) (e f : Entry) (before after : T) (stop : E) → takes ran.entries (told e) before after (Err stop)
    → StopsFrom takes ran.entries (e ∷ f ∷ []) before after stop
stops_first takes ran e f before after stop hands =
    let here : ran.entries ≡ ran.entries + 0 = omega arith in
    record {
      taken = [];
      entry = e;
      rest = f ∷ [];
      parts = refl;
      mid = before;
      took = refl;
      stops = subst (λ (n : ℕ). takes n (told e) before after (Err stop)) here hands;
      last = omega arith;
    }

-- the first was, and then the second or not
pub gives_two : {T E : Type 0} (takes : Takes T E) (ran next : Ran) (e f : Entry) (before mid after : T) (result : Result Ran E)
    → HandsOn takes ran e before mid (Ok next) → HandsOn takes next f mid after result → Gives takes ran (e ∷ f ∷ []) before after result
gives_two takes ran next e f before mid after (Ok now) first second =
    let count : next.entries ≡ ran.entries + 1 = ap (λ (r : Ran). r.entries) first.1 in
    let halts : next.halted ≡ ran.halted || (is_halt e.reply || false) = ap (λ (r : Ran). r.halted) first.1 in (
      (mid, first.0, (after, subst (λ (n : ℕ). takes n (told f) mid after (Ok tt)) count second.0, refl)),
      second.1 ∙ both count halts,
    )
  where
    or_twice : (x y z : Bool) → ((x || (y || false)) || z) ≡ (x || (y || z))
    or_twice true y z = refl
    or_twice false true z = refl
    or_twice false false z = refl

    both : next.entries ≡ ran.entries + 1 → next.halted ≡ ran.halted || (is_halt e.reply || false) → ran_over next (f ∷ []) ≡ ran_over ran (e ∷ f ∷ [])
    both count halts =
        let more : next.entries + 1 ≡ ran.entries + 2 = omega (arith, count) in
        let rest : (next.halted || (is_halt f.reply || false)) ≡ (ran.halted || (is_halt e.reply || (is_halt f.reply || false))) =
        ap (λ (b : Bool). b || (is_halt f.reply || false)) halts ∙ or_twice ran.halted (is_halt e.reply) (is_halt f.reply || false) in
        λ i. record { entries = more i; halted = rest i }
gives_two takes ran next e f before mid after (Err stop) first second =
    let count : next.entries ≡ ran.entries + 1 = ap (λ (r : Ran). r.entries) first.1 in
    record {
      taken = e ∷ [];
      entry = f;
      rest = [];
      parts = refl;
      mid = mid;
      took = (mid, first.0, refl);
      stops = subst (λ (n : ℕ). takes n (told f) mid after (Err stop)) count second;
      last = omega arith;
    }

-- ---- what is told of a call

told_read : (old new : BankState) (caller at len : ℕ) (reply : Reply) (given : List ℕ)
    → told (record { caller = caller; op = Read at len; reply = reply; bytes = given }) ≡ told (entry_of old new caller (Read at len) reply given)
told_read old new caller at len Done given = refl
told_read old new caller at len reply given = refl

told_none : (op : Op) (reply : Reply) (old new : BankState) → told_bytes op reply [] ≡ told_bytes op reply (entry_bytes reply op [] old new)
told_none (Read at len) Done old new = refl
told_none op reply old new = refl

pub told_made : (old new : BankState) (caller : ℕ) (op : Op) (reply : Reply)
    → told (record { caller = caller; op = op; reply = reply; bytes = [] }) ≡ told (entry_of old new caller op reply [])
told_made old new caller op reply = ap (λ (bytes : List ℕ). record { caller = caller; op = op; reply = reply; bytes = bytes }) (told_none op reply old new)

-- ---- calls

-- a read
pub read_runs : {T E : Type 0} (takes : Takes T E) (old new : BankState) (caller at len n : ℕ) (ran : Ran) (given : List ℕ) (reply : Reply) (before after : T) (result : Result Ran E)
    → n ≡ len → IsCallOf caller (Read at n) old new reply given → ReadsWords (Read at n) reply old new
    → HandsOn takes ran (record { caller = caller; op = Read at len; reply = reply; bytes = given }) before after result
    → RunsCall takes caller (Read at len) ran old new before after result
read_runs takes old new caller at len n ran given reply before after result is call reads hands =
    let made = subst (λ (m : ℕ). IsCallOf caller (Read at m) old new reply given) is call in
    record {
      reply = reply;
      given = given;
      makes = record { call = made; keeps = keeps_call caller (Read at len) old new reply made.leaves };
      reads = subst (λ (m : ℕ). ReadsWords (Read at m) reply old new) is reads;
      hands = hands_on_as takes ran _ (entry_of old new caller (Read at len) reply given) before after result (told_read old new caller at len reply given) refl hands;
    }

-- a read that is done
pub done_reads : (at len : ℕ) (reply : Reply) (old new : BankState) → (reply ≡ Done → Went (words_in old at len) (60 + words_in old at len) old.bus new.bus) → ReadsWords (Read at len) reply old new
done_reads at len Done old new went = went refl
done_reads at len reply old new went = tt

-- and one that is refused
range_reads : (far long : Bool) (at len : ℕ) (reply : Reply) (old new : BankState) → Some reply ≡ first_some (when far OutOfRange ∷ when long TooLong ∷ [])
    → ReadsWords (Read at len) reply old new
range_reads far long at len Done old new is = absurd (done_not far long is)
  where
    done_not : (far long : Bool) → Some Done ≡ first_some (when far OutOfRange ∷ when long TooLong ∷ []) → ⊥
    done_not true long is = cc
    done_not false true is = cc
    done_not false false is = cc
range_reads far long at len reply old new is = tt

pub refused_reads : (size at len : ℕ) (reply : Reply) (old new : BankState) → Some reply ≡ range_refusal size at len → ReadsWords (Read at len) reply old new
refused_reads size at len reply old new is = range_reads (nat_lt size (at + len)) (nat_lt 4096 len) at len reply old new is

-- any other
pub other_reads : (op : Op) (reply : Reply) (old new : BankState) → is_read op ≡ false → ReadsWords op reply old new
other_reads (Read at len) reply old new other = absurd (true_false other)
other_reads op reply old new other = tt

pub made_runs : {T E : Type 0} (takes : Takes T E) (old new : BankState) (caller : ℕ) (op : Op) (ran : Ran) (reply : Reply) (before after : T) (result : Result Ran E)
    → is_read op ≡ false → Makes caller op old new reply [] → HandsOn takes ran (record { caller = caller; op = op; reply = reply; bytes = [] }) before after result
    → RunsCall takes caller op ran old new before after result
made_runs takes old new caller op ran reply before after result other makes hands = record {
  reply = reply;
  given = [];
  makes = makes;
  reads = other_reads op reply old new other;
  hands = hands_on_as takes ran _ (entry_of old new caller op reply []) before after result (told_made old new caller op reply) refl hands;
}

-- as the line has it
pub of_call : {T E : Type 0} {takes : Takes T E} {caller : ℕ} {ran : Ran} {old new : BankState} {before after : T} {result : Result Ran E} (o p : Op)
    → p ≡ o → RunsCall takes caller o ran old new before after result → RunsCall takes caller p ran old new before after result
of_call {takes = takes} {caller = caller} {ran = ran} {old = old} {new = new} {before = before} {after = after} {result = result} o p is runs =
    subst (λ (x : Op). RunsCall takes caller x ran old new before after result) (sym is) runs

false_true : false ≡ true → ⊥
false_true is = cc

pub reads_not : (op : Op) → ((at len : ℕ) → op ≡ Read at len → ⊥) → is_read op ≡ false
reads_not (Read at len) other = absurd (other at len refl)
reads_not op other = refl

-- a call of the chips is made so
pub makes_call : (caller : ℕ) (op o : Op) (old new : BankState) (reply : Reply) → op ≡ o → IsMadeBy caller o old new reply [] → KeepsBank old new → Makes caller op old new reply []
makes_call caller op o old new reply is call keeps =
    subst (λ (x : Op). Makes caller x old new reply []) (sym is) (record { call = call; keeps = keeps })

pub own_caller : (caller : ℕ) (op o : Op) → op ≡ o → HasItsCaller op caller → HasItsCaller o caller
own_caller caller op o is own = subst (λ (x : Op). HasItsCaller x caller) is own

-- a line's caller may make its call
pub called_so : (op : Op) (caller : ℕ) → CallHasCaller op caller → HasItsCaller op caller
called_so (Arm cut mask) caller has = has
called_so PowerOn caller has = has
called_so op caller has = tt

pub caller_of : (word : Word) (op : Op) (caller : ℕ) → word ≡ Call op → HasCaller word caller → HasItsCaller op caller
caller_of word op caller is has = called_so op caller (subst (λ (w : Word). HasCaller w caller) is has)

-- ---- an erase

pub opening_own : (op : Op) (caller : ℕ) → (needs_of op).opens ≡ true → HasItsCaller op caller
opening_own (Arm cut mask) caller opening = absurd (false_true opening)
opening_own PowerOn caller opening = absurd (false_true opening)
opening_own op caller opening = tt

pub opening_reads : (op : Op) → (needs_of op).opens ≡ true → is_read op ≡ false
opening_reads (Read at len) opening = absurd (false_true opening)
opening_reads op opening = refl

new_polled : (caller : ℕ) (op : Op) (kept : Option Erasing) (b : BankState) → b.erase ≡ kept → IsNew caller op kept → (needs_of op).opens ≡ true → IsPolled caller b
new_polled caller op None b is new opening = absurd new
new_polled caller (EraseOpen k) (Some e) b is new opening = record { erase = e; is = is; own = new.1 }
new_polled caller EraseAll (Some e) b is new opening = record { erase = e; is = is; own = new.1 }
new_polled caller op (Some e) b is new opening = absurd new

-- what was opened is the caller's
pub polled_opened : (caller : ℕ) (op : Op) (old new : BankState) (reply : Reply) → (needs_of op).opens ≡ true → reply ≡ Opened → Makes caller op old new reply [] → IsPolled caller new
polled_opened caller (EraseOpen b) old new reply opening is makes =
    new_polled caller (EraseOpen b) new.erase new refl (subst (λ (r : Reply). KeepsErase caller (EraseOpen b) r old.erase new.erase) is makes.call.leaves.erase) opening
polled_opened caller EraseAll old new reply opening is makes =
    new_polled caller EraseAll new.erase new refl (subst (λ (r : Reply). KeepsErase caller EraseAll r old.erase new.erase) is makes.call.leaves.erase) opening
polled_opened caller op old new reply opening is makes = absurd (false_true opening)

-- ---- polls

-- how many more an erase may have
abbrev pub polls_in : Found → Option Erasing → ℕ
polls_in f None = 0
polls_in f (Some e) = erase_limit f e.target - e.polls

abbrev pub polls_left : BankState → ℕ
polls_left b = polls_in b.found b.erase

-- It is polled on, and fewer are left.
pub record GoesOnPolled (caller : ℕ) (old new : BankState) : Type 0 where
  pub polled : IsPolled caller new
  pub fewer : polls_left new < polls_left old

still_polled : (caller : ℕ) (old new : BankState) (e : Erasing) (kept : Option Erasing) → old.erase ≡ Some e → e.caller ≡ caller → new.erase ≡ kept → new.found ≡ old.found
    → GoesOn 1 (Some e) kept → ((now : Erasing) → kept ≡ Some now → now.polls < erase_limit new.found now.target) → GoesOnPolled caller old new
still_polled caller old new e None was own is found goes limit = absurd goes
still_polled caller old new e (Some now) was own is found goes limit =
    let below = limit now refl in
    let more = goes.2 in
    let same : erase_limit new.found now.target ≡ erase_limit old.found e.target = λ i. erase_limit (found i) (goes.0 i) in
    let new_left : polls_left new ≡ erase_limit new.found now.target - now.polls = ap (polls_in new.found) is in
    let old_left : polls_left old ≡ erase_limit old.found e.target - e.polls = ap (polls_in old.found) was in
    record {
      polled = record { erase = now; is = is; own = goes.1 ∙ own };
      fewer = omega (arith, below, more, same, new_left, old_left);
    }

pub polls_on : (caller : ℕ) (old new : BankState) (reply : Reply) → reply ≡ NotYet → IsPolled caller old → Makes caller Poll old new reply [] → GoesOnPolled caller old new
polls_on caller old new reply waits polled makes =
    let goes : GoesOn 1 old.erase new.erase = subst (λ (r : Reply). KeepsErase caller Poll r old.erase new.erase) waits makes.call.leaves.erase in
    still_polled caller old new polled.erase new.erase polled.is polled.own refl makes.call.leaves.found (subst (λ (o : Option Erasing). GoesOn 1 o new.erase) polled.is goes) (makes.call.leaves.limit waits)

pub waits_more : (caller : ℕ) (first old new : BankState) (reply : Reply) → reply ≡ NotYet → KeepsBank first old → ((a : ArrayState) → Stands first a → Leads [] first old a)
    → Makes caller Poll old new reply [] → (a : ArrayState) → Stands first a → Leads [] first new a
waits_more caller first old new reply waits keeps so makes a stands =
    let here = so a stands in
    leads_then [] [] first old new a keeps here (leads_waiting caller old new reply a makes.call waits here.stands)

-- They asked for no more cycles than the polls that are left by now allow.
pub record PollsNear (first now : BankState) : Type 0 where
  pub spent : ℕ
  pub few : spent + 12 * polls_left now ≤ 12 * polls_left first
  pub near : Nearer 0 spent first.bus.armed now.bus.armed
  pub after : now.after ≡ first.after

pub near_none : (b : BankState) → PollsNear b b
near_none b = record { spent = 0; few = omega arith; near = near_same 0 b.bus.armed b.bus.armed refl; after = refl }

pub near_more : (caller : ℕ) (first old new : BankState) (reply : Reply) → PollsNear first old → Makes caller Poll old new reply [] → polls_left new < polls_left old → PollsNear first new
near_more caller first old new reply so makes fewer =
    let spends = makes.call.spends in
    let some = spends.few in
    let before = so.few in
    let one = near_within 0 spends.cycles 12 old.bus.armed new.bus.armed some (asked_near spends.cycles old.bus new.bus spends.asked) in
    record {
      spent = 12 + so.spent;
      few = omega (arith, before, fewer);
      near = near_then 0 so.spent 12 first.bus.armed old.bus.armed new.bus.armed so.near one;
      after = makes.call.leaves.after ∙ so.after;
    }

left_most : (f : Found) (e : Option Erasing) (b : BankState) → b.found ≡ f → 12 * polls_in f e ≤ polls_most b (under_of e)
left_most f None b is = omega arith
left_most f (Some e) b is = let same : erase_limit b.found e.target ≡ erase_limit f e.target = ap (λ (g : Found). erase_limit g e.target) is in omega (arith, same)

pub near_all : (first now : BankState) → PollsNear first now → Nearer 0 (polls_most first (under_of first.erase)) first.bus.armed now.bus.armed
near_all first now so =
    let few = so.few in
    let most = left_most first.found first.erase first refl in
    near_within 0 so.spent (polls_most first (under_of first.erase)) first.bus.armed now.bus.armed (omega (arith, few, most)) so.near

-- ---- what was run of an erase

-- a fact of the error that was given
pub of_error : {T E : Type 0} (r : Result T E) (e : E) (P : Result T E → Type 0) → IsErrAnd r (λ x. x ≡ e) → P (Err e) → P r
of_error (Ok x) e P gave p = absurd gave
of_error {T} {E} (Err x) e P gave p = subst (λ (y : E). P (Err y)) (sym gave) p

-- what opens an erase polls none
opens_not : (op : Op) → (needs_of op).opens ≡ true → op ≡ Poll → ⊥
opens_not op opening is = false_true (ap (λ (o : Op). (needs_of o).opens) (sym is) ∙ opening)

pub erase_unopened : {T E : Type 0} (takes : Takes T E) (caller : ℕ) (op : Op) (ran : Ran) (old new : BankState) (reply : Reply) (before after : T) (result : Result Ran E)
    → (needs_of op).opens ≡ true → reply ≢ Opened → Makes caller op old new reply [] → HandsOn takes ran (record { caller = caller; op = op; reply = reply; bytes = [] }) before after result
    → RunsTo takes true (AnswersErase caller op) ran old new before after result
unfolding made_runs
erase_unopened takes caller op ran old new reply before after result opening unopened makes hands =
    let runs = made_runs takes old new caller op ran reply before after result (opening_reads op opening) makes hands in
    record {
      entries = entry_of old new caller op reply [] ∷ [];
      answers = record { opening = record { called_by = refl; calls = refl }; reply = unopened };
      leads = λ a stands. leads_one caller op old new reply [] a makes stands;
      goes = λ a stands t fits. goes_one caller op old new reply [] a t true (λ w is. opens_not op opening is) makes stands runs.reads fits;
      gives = gives_one takes ran (entry_of old new caller op reply []) before after result runs.hands;
    }

both_lead : (caller : ℕ) (op : Op) (old mid new : BankState) (opening reply : Reply) → Makes caller op old mid opening [] → (polls : PollsOn caller mid new reply) → (a : ArrayState) → Stands old a
    → Leads (entry_of old mid caller op opening [] ∷ entry_of polls.mid new caller Poll reply [] ∷ []) old new a
both_lead caller op old mid new opening reply makes polls a stands =
    let e = entry_of old mid caller op opening [] in
    let first = leads_one caller op old mid opening [] a makes stands in
    let waited = leads_then (e ∷ []) [] old mid polls.mid a makes.keeps first (polls.waits _ first.stands) in
    leads_then (e ∷ []) (entry_of polls.mid new caller Poll reply [] ∷ []) old polls.mid new a (keeps_bank_then old mid polls.mid makes.keeps polls.keeps) waited
    (leads_one caller Poll polls.mid new reply [] _ polls.last waited.stands)

both_go : (caller : ℕ) (op : Op) (old mid new : BankState) (reply : Reply) → (needs_of op).opens ≡ true → Makes caller op old mid Opened [] → (polls : PollsOn caller mid new reply) → (a : ArrayState) → Stands old a
    → (t : Tally) → Fits t old → Goes (steps_as true (entry_of old mid caller op Opened [] ∷ entry_of polls.mid new caller Poll reply [] ∷ [])) old new a t
both_go caller op old mid new reply opening makes polls a stands t fits =
    let e = entry_of old mid caller op Opened [] in
    let close = entry_of polls.mid new caller Poll reply [] in
    let first = leads_one caller op old mid Opened [] a makes stands in
    let goes = goes_one caller op old mid Opened [] a t true (λ w is. opens_not op opening is) makes stands (other_reads op Opened old mid (opening_reads op opening)) fits in
    let under : (after a e).under ≡ under_of mid.erase = first.stands.under in
    goes_then (steps_as true (e ∷ [])) (steps_as true (close ∷ [])) old mid new a t makes.keeps goes
    (goes_waited caller mid polls.mid new reply (after a e) (tally_after old a t (record { entry = e; waits = true })) refl polls.keeps polls.after
    (subst (λ (u : Option OpenErase). Nearer 0 (polls_most mid u) mid.bus.armed polls.mid.bus.armed) (sym under) polls.near)
    (polls.waits (after a e) first.stands).stands polls.last goes.fits)

both_answer : (caller : ℕ) (op : Op) (old mid new : BankState) (reply : Reply) (polls : PollsOn caller mid new reply)
    → AnswersErase caller op (entry_of old mid caller op Opened [] ∷ entry_of polls.mid new caller Poll reply [] ∷ [])
both_answer caller op old mid new reply polls = record {
  opening = record { called_by = refl; calls = refl };
  opened = refl;
  polling = record { called_by = refl; calls = refl };
  closed = polls.ended;
}

-- neither entry was taken
pub erase_stopped : {T E : Type 0} (takes : Takes T E) (caller : ℕ) (op : Op) (ran : Ran) (old mid new : BankState) (reply : Reply) (before after : T) (stop : E)
    → (needs_of op).opens ≡ true → Makes caller op old mid Opened [] → PollsOn caller mid new reply
    → HandsOn takes ran (record { caller = caller; op = op; reply = Opened; bytes = [] }) before after (Err stop)
    → RunsTo takes true (AnswersErase caller op) ran old new before after (Err stop)
unfolding made_runs
erase_stopped takes caller op ran old mid new reply before after stop opening makes polls hands =
    let runs = made_runs takes old mid caller op ran Opened before after (Err stop) (opening_reads op opening) makes hands in
    record {
      entries = entry_of old mid caller op Opened [] ∷ entry_of polls.mid new caller Poll reply [] ∷ [];
      answers = both_answer caller op old mid new reply polls;
      leads = both_lead caller op old mid new Opened reply makes polls;
      goes = both_go caller op old mid new reply opening makes polls;
      gives = stops_first takes ran (entry_of old mid caller op Opened []) (entry_of polls.mid new caller Poll reply []) before after stop runs.hands;
    }

-- the first was
pub erase_closed : {T E : Type 0} (takes : Takes T E) (caller : ℕ) (op : Op) (ran next : Ran) (old mid new : BankState) (reply : Reply) (before between after : T) (result : Result Ran E)
    → (needs_of op).opens ≡ true → Makes caller op old mid Opened [] → PollsOn caller mid new reply
    → HandsOn takes ran (record { caller = caller; op = op; reply = Opened; bytes = [] }) before between (Ok next)
    → HandsOn takes next (record { caller = caller; op = Poll; reply = reply; bytes = [] }) between after result
    → RunsTo takes true (AnswersErase caller op) ran old new before after result
unfolding made_runs
erase_closed takes caller op ran next old mid new reply before between after result opening makes polls first second =
    let one = made_runs takes old mid caller op ran Opened before between (Ok next) (opening_reads op opening) makes first in
    let two = made_runs takes polls.mid new caller Poll next reply between after result refl polls.last second in
    record {
      entries = entry_of old mid caller op Opened [] ∷ entry_of polls.mid new caller Poll reply [] ∷ [];
      answers = both_answer caller op old mid new reply polls;
      leads = both_lead caller op old mid new Opened reply makes polls;
      goes = both_go caller op old mid new reply opening makes polls;
      gives = gives_two takes ran next (entry_of old mid caller op Opened []) (entry_of polls.mid new caller Poll reply []) before between after result one.hands two.hands;
    }

-- ---- by the word of a line

pub call_word : {T E : Type 0} (takes : Takes T E) (word : Word) (op : Op) (caller : ℕ) (ran : Ran) (old new : BankState) (before after : T) (result : Result Ran E)
    → word ≡ Call op → RunsCall takes caller op ran old new before after result → RunsTo takes (waits_for word) (AnswersWord word caller) ran old new before after result
call_word takes word op caller ran old new before after result is runs =
    subst (λ (w : Word). RunsTo takes (waits_for w) (AnswersWord w caller) ran old new before after result) (sym is) (record {
      entries = entry_of old new caller op runs.reply runs.given ∷ [];
      answers = record { called_by = refl; calls = refl };
      leads = λ a stands. leads_one caller op old new runs.reply runs.given a runs.makes stands;
      goes = λ a stands t fits. goes_one caller op old new runs.reply runs.given a t false (λ w polls. false_true w) runs.makes stands runs.reads fits;
      gives = gives_one takes ran (entry_of old new caller op runs.reply runs.given) before after result runs.hands;
    })

word_answers : (b caller : ℕ) (es : List Entry) → AnswersErase caller (EraseOpen b) es → AnswersWord (Erase b) caller es
word_answers b caller [] answers = answers
word_answers b caller (e ∷ []) answers = answers
word_answers b caller (e ∷ close ∷ []) answers = answers
word_answers b caller (e ∷ close ∷ more ∷ es) answers = answers

all_answers : (caller : ℕ) (es : List Entry) → AnswersErase caller EraseAll es → AnswersWord EraseAllLine caller es
all_answers caller [] answers = answers
all_answers caller (e ∷ []) answers = answers
all_answers caller (e ∷ close ∷ []) answers = answers
all_answers caller (e ∷ close ∷ more ∷ es) answers = answers

pub erase_word : {T E : Type 0} (takes : Takes T E) (word : Word) (b caller : ℕ) (ran : Ran) (old new : BankState) (before after : T) (result : Result Ran E)
    → word ≡ Erase b → RunsTo takes true (AnswersErase caller (EraseOpen b)) ran old new before after result → RunsTo takes (waits_for word) (AnswersWord word caller) ran old new before after result
erase_word takes word b caller ran old new before after result is runs =
    subst (λ (w : Word). RunsTo takes (waits_for w) (AnswersWord w caller) ran old new before after result) (sym is) (record {
      entries = runs.entries;
      answers = word_answers b caller runs.entries runs.answers;
      leads = runs.leads;
      goes = runs.goes;
      gives = runs.gives;
    })

pub erase_all_word : {T E : Type 0} (takes : Takes T E) (word : Word) (caller : ℕ) (ran : Ran) (old new : BankState) (before after : T) (result : Result Ran E)
    → word ≡ EraseAllLine → RunsTo takes true (AnswersErase caller EraseAll) ran old new before after result → RunsTo takes (waits_for word) (AnswersWord word caller) ran old new before after result
erase_all_word takes word caller ran old new before after result is runs =
    subst (λ (w : Word). RunsTo takes (waits_for w) (AnswersWord w caller) ran old new before after result) (sym is) (record {
      entries = runs.entries;
      answers = all_answers caller runs.entries runs.answers;
      leads = runs.leads;
      goes = runs.goes;
      gives = runs.gives;
    })
