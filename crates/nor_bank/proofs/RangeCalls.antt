-- What a read or a program of a bank is answered, and what it leaves as it was.
use Rattle.std.proofs.Common.{◌≡◌, ◌<◌, ◌∙◌, ◌⊎◌, inl, inr, ℕ, List, Bool, true, false, ◌&&◌, Option, Some, None, if◌then◌else◌, refl, sym, ap, subst}
use Rattle.nor_cell.specs.Between.{IsQuiet}
use Rattle.nor_cell.specs.Chip.{ChipState, counted}
use Rattle.nor_bus.specs.Bus.{BusState, lane, lanes_of, chip_at}
use Rattle.nor_bus.specs.Cycles.{BusFails}
use Rattle.nor_bus.specs.Driven.{AllLanes, EachLane}
use Rattle.nor_poll.specs.Suspend.{pauses}
use Rattle.nor_array.specs.Array.{ArrayState}
use Rattle.nor_array.specs.Needs.{needs_of}
use Rattle.nor_array.specs.declared.entry.Entry.{Entry}
use Rattle.nor_array.specs.declared.entry.Halted.{Halted as HaltCause}
use Rattle.nor_array.specs.declared.entry.Halted.TheVariants.{Off as OffHalt}
use Rattle.nor_array.specs.declared.entry.Op.{Op}
use Rattle.nor_array.specs.declared.entry.Op.TheVariants.{Read, Program, Poll}
use Rattle.nor_array.specs.declared.entry.Reply.{Reply}
use Rattle.nor_array.specs.declared.entry.Reply.TheVariants.{Done, Opened, Erased, OutOfRange, TooLong, Busy, Locked, NotYet, Failed, Halted}
use Rattle.nor_array.specs.declared.state.Power.TheVariants.{On}
use Rattle.nor_array.proofs.Unlocked.{is_range, range_locks}
use Rattle.nor_bank.specs.Calls.{entry_of}
use Rattle.nor_bank.specs.Counts.{Spends, Asked, KeepsErase, CountsSuspend, erases_after, suspends_after}
use Rattle.nor_bank.specs.Refused.{bank_refusal, outline, Refuses, Works}
use Rattle.nor_bank.specs.Stands.{Stands, PowerIs, EraseIs, kept_power}
use Rattle.nor_bank.specs.State.{BankState}
use Rattle.nor_bank.specs.Whole.{IsCallOf, MakesCall, MayAnswer}
use Rattle.nor_bank.specs.Work.{StaysFiled}
use Rattle.nor_bank.specs.declared.kept.Erasing.{Erasing}
use Rattle.nor_poll.proofs.SuspendEnd.{pauses_idle}
use Rattle.nor_bank.proofs.RangeRefusals.{is_refused, refused_other, range_on, range_refused}
use Rattle.nor_bank.proofs.Using.{UsesBus, uses_went, uses_lost}

false_true : false ≡ true → ⊥
false_true is = cc

pub on_runs : (kept : Option HaltCause) → kept_power kept ≡ On → kept ≡ None
on_runs None on = refl
on_runs (Some (OffHalt n)) on = absurd (cc)
on_runs (Some kept) on = absurd (cc)

-- an opening reply
abbrev opens : Reply → Bool
opens Opened = true
opens _ = false

-- ---- what a read or a program is answered

-- none that opens or ends an erase, or waits for one
abbrev pub is_plain : Reply → Bool
is_plain Done = true
is_plain OutOfRange = true
is_plain TooLong = true
is_plain (Busy b) = true
is_plain (Locked b) = true
is_plain (Failed from to lanes) = true
is_plain (Halted cause) = true
is_plain _ = false

pub refused_plain : (r : Reply) → is_refused r ≡ true → is_plain r ≡ true
refused_plain OutOfRange refused = refl
refused_plain TooLong refused = refl
refused_plain (Busy b) refused = refl
refused_plain (Halted cause) refused = refl
refused_plain r refused = absurd (false_true refused)

plain_opens : (r : Reply) → is_plain r ≡ true → opens r ≡ false
plain_opens Opened plain = absurd (false_true plain)
plain_opens r plain = refl

-- it has a plain reply, or has to wait
abbrev pub IsAnswer : Reply → Type 0
IsAnswer r = (is_plain r ≡ true) ⊎ (r ≡ NotYet)

may_be_plain : (op : Op) (b : BankState) (r : Reply) → is_range op ≡ true → MayAnswer op b r → IsAnswer r
may_be_plain op b NotYet range may = inr refl
may_be_plain op b (Halted cause) range may = inl refl
may_be_plain op b (Locked k) range may = inl refl
may_be_plain (Read at len) b Opened range may = absurd (false_true may)
may_be_plain (Program at new) b Opened range may = absurd (false_true may)
may_be_plain (Read at len) b Done range may = inl refl
may_be_plain (Program at new) b Done range may = inl refl
may_be_plain (Program at new) b (Failed from to lanes) range may = inl refl
may_be_plain (Read at len) b r range may = absurd may
may_be_plain (Program at new) b r range may = absurd may
may_be_plain op b r range may = absurd (false_true range)

-- How a call came to its reply: it was refused, it asked nothing of the chips, or it worked.
pub data Way (caller : ℕ) (op : Op) (old new : BankState) (r : Reply) : Type 0 where
  IsRefused : is_refused r ≡ true → Refuses r old new → Way caller op old new r
  IsIdle : r ≡ Done → new ≡ old → old.halted ≡ None → Way caller op old new r
  DoesWork : Works caller op old → old.halted ≡ None → Way caller op old new r

runs : (b : BankState) (caller : ℕ) (op : Op) → is_range op ≡ true → bank_refusal b caller op ≡ None → b.halted ≡ None
runs b caller op range none = on_runs b.halted (range_on (outline b) caller op range none)

pub way_of : (old new : BankState) (caller : ℕ) (op : Op) (r : Reply) (given : List ℕ) → is_range op ≡ true → IsCallOf caller op old new r given → Way caller op old new r
way_of old new caller op r given range call = by_refusal (bank_refusal old caller op) refl
  where
    by_idle : (idle : Bool) → (needs_of op).idle ≡ idle → bank_refusal old caller op ≡ None → Way caller op old new r
    by_idle true idle none = (let done = call.idle none idle in IsIdle done.0 done.1 (runs old caller op range none))
    by_idle false busy none = DoesWork (record { unrefused = none; busy = busy }) (runs old caller op range none)

    by_refusal : (o : Option Reply) → bank_refusal old caller op ≡ o → Way caller op old new r
    by_refusal None none = by_idle (needs_of op).idle refl none
    by_refusal (Some x) some =
        let both = call.refused x some in
        IsRefused (subst (λ (y : Reply). is_refused y ≡ true) (sym both.0) (range_refused (outline old) caller op x range some))
        (subst (λ (y : Reply). Refuses y old new) (sym both.0) both.1)

pub answer : (old new : BankState) (caller : ℕ) (op : Op) (r : Reply) (given : List ℕ) → is_range op ≡ true → IsCallOf caller op old new r given → Way caller op old new r → IsAnswer r
answer old new caller op r given range call (IsRefused refused same) = inl (refused_plain r refused)
answer old new caller op r given range call (IsIdle done same run) = inl (ap is_plain done)
answer old new caller op r given range call (DoesWork works run) = may_be_plain op old r range (call.answers works)

pub done_runs : (old new : BankState) (caller : ℕ) (op : Op) (r : Reply) → Way caller op old new r → r ≡ Done → old.halted ≡ None
done_runs old new caller op r (IsRefused refused same) done = absurd (refused_other r Done refused refl done)
done_runs old new caller op r (IsIdle is same run) done = run
done_runs old new caller op r (DoesWork works run) done = run

-- ---- what stays of a chip

-- its counters
pub record SameCounts (s t : ChipState) : Type 0 where
  pub erases : t.erases ≡ s.erases
  pub suspends : t.suspends ≡ s.suspends

fails_counts : (power : Bool) (old new : BusState) → old.power ≡ power → BusFails old new → EachLane SameCounts old new
fails_counts true old new is fails c below =
    let rest = (fails.cut_now is c below).rest in
    record { erases = ap (λ (t : ChipState). t.erases) rest; suspends = ap (λ (t : ChipState). t.suspends) rest }
fails_counts false old new is fails c below =
    let same = fails.off_before is in
    record {
      erases = ap (λ (chips : List ChipState). (chip_at chips c).erases) same;
      suspends = ap (λ (chips : List ChipState). (chip_at chips c).suspends) same;
    }

pub same_counts : (old new : BankState) → new ≡ old → EachLane SameCounts old.bus new.bus
same_counts old new same c below = record {
  erases = ap (λ (b : BankState). (lane b.bus c).erases) same;
  suspends = ap (λ (b : BankState). (lane b.bus c).suspends) same;
}

pub refused_counts : (old new : BankState) (r : Reply) → Refuses r old new → EachLane SameCounts old.bus new.bus
refused_counts old new (Halted (OffHalt n)) refuses = fails_counts old.bus.power old.bus new.bus refl refuses.1
refused_counts old new r refuses = same_counts old new refuses

opens_none : (r : Reply) (n : ℕ) → opens r ≡ false → erases_after r n ≡ n
opens_none Opened n none = absurd (cc)
opens_none r n none = refl

pub erases_stay : (caller : ℕ) (op : Op) (r : Reply) (old new : BankState) (given : List ℕ) (a : ArrayState) → opens r ≡ false → Way caller op old new r
    → MakesCall caller op old new r given a → EachLane (λ s t. t.erases ≡ s.erases) old.bus new.bus
erases_stay caller op r old new given a none (IsRefused refused refuses) made = λ c below. (refused_counts old new r refuses c below).erases
erases_stay caller op r old new given a none (IsIdle done same run) made = λ c below. (same_counts old new same c below).erases
erases_stay caller op r old new given a none (DoesWork works run) made =
    λ c below. (made.counts works c below).erases ∙ opens_none r (lane old.bus c).erases none

suspends_same : (may : Bool) (s : ChipState) → pauses s ≡ false → suspends_after may s ≡ s.suspends
suspends_same may s none = ap (λ (p : Bool). if may && p then counted s.suspends else s.suspends) none ∙ by_may may
  where
    by_may : (may : Bool) → (if may && false then counted s.suspends else s.suspends) ≡ s.suspends
    by_may true = refl
    by_may false = refl

pub counts_none : (r : Reply) (may : Bool) (s t : ChipState) → pauses s ≡ false → CountsSuspend r may s t → t.suspends ≡ s.suspends
counts_none (Halted cause) may s t none (inl same) = same
counts_none (Halted cause) may s t none (inr counts) = counts ∙ suspends_same may s none
counts_none r may s t none counts = counts ∙ suspends_same may s none

pub closed_quiet : (b : BankState) (a : ArrayState) → Stands b a → b.halted ≡ None → b.erase ≡ None → AllLanes IsQuiet b.bus
closed_quiet b a stands run closed =
    let now : PowerIs None b a = subst (λ (k : Option HaltCause). PowerIs k b a) run stands.now in
    subst (λ (e : Option Erasing). EraseIs e b.found b.bus) closed now.erase

suspends_stay : (caller : ℕ) (op : Op) (r : Reply) (old new : BankState) (given : List ℕ) (a : ArrayState) → Stands old a → old.erase ≡ None → Way caller op old new r
    → MakesCall caller op old new r given a → EachLane (λ s t. t.suspends ≡ s.suspends) old.bus new.bus
suspends_stay caller op r old new given a stands closed (IsRefused refused refuses) made = λ c below. (refused_counts old new r refuses c below).suspends
suspends_stay caller op r old new given a stands closed (IsIdle done same run) made = λ c below. (same_counts old new same c below).suspends
suspends_stay caller op r old new given a stands closed (DoesWork works run) made =
    λ c below.
    let quiet = closed_quiet old a stands run closed c below in
    counts_none r _ (lane old.bus c) (lane new.bus c) (pauses_idle (lane old.bus c) quiet.shown.job) (made.counts works c below).suspends

pub uses : (op : Op) (r : Reply) (old new : BankState) → Spends op r old new → UsesBus old.bus new.bus
uses op r old new spends = by_end spends.asked
  where
    by_end : Asked spends.cycles old.bus new.bus → UsesBus old.bus new.bus
    by_end (inl went) = uses_went spends.cycles spends.cycles old.bus new.bus went
    by_end (inr lost) = uses_lost spends.cycles old.bus new.bus lost

-- where nothing was under erase nothing is, but by a reply that opens one
closed_stays : (caller : ℕ) (op : Op) (r : Reply) (new : Option Erasing) → opens r ≡ false → KeepsErase caller op r None new → new ≡ None
closed_stays caller op Opened new none keeps = absurd (cc)
closed_stays caller Poll NotYet new none keeps = keeps
closed_stays caller Poll Erased new none keeps = keeps
closed_stays caller Poll (Failed from to lanes) new none keeps = keeps
closed_stays caller op r new none keeps = keeps

pub answer_opens : (r : Reply) → IsAnswer r → opens r ≡ false
answer_opens r (inl plain) = plain_opens r plain
answer_opens r (inr waits) = ap opens waits

pub range_closed : (old new : BankState) (caller : ℕ) (op : Op) (r : Reply) (given : List ℕ) → is_range op ≡ true → IsCallOf caller op old new r given
    → old.erase ≡ None → new.erase ≡ None
range_closed old new caller op r given range call closed =
    closed_stays caller op r new.erase (answer_opens r (answer old new caller op r given range call (way_of old new caller op r given range call)))
    (subst (λ (o : Option Erasing). KeepsErase caller op r o new.erase) closed call.leaves.erase)

-- Of a bank with nothing under erase all that a file keeps of a chip stays, but its bytes.
pub range_stays : (old new : BankState) (caller : ℕ) (op : Op) (r : Reply) (given : List ℕ) (a : ArrayState) → is_range op ≡ true → IsCallOf caller op old new r given
    → Stands old a → old.erase ≡ None → EachLane StaysFiled old.bus new.bus
range_stays old new caller op r given a range call stands closed c below =
    let way = way_of old new caller op r given range call in
    let made = call.makes a stands in
    let e : Entry = entry_of old new caller op r given in
    let there : c < lanes_of new.bus = subst (λ (n : ℕ). c < n) (sym call.leaves.lanes.count) below in
    record {
      part = (call.leaves.lanes.each c below).part;
      locks = made.entry.stands.locks c there ∙ (range_locks r caller op e.bytes a range ∙ sym (stands.locks c below));
      suspends = suspends_stay caller op r old new given a stands closed way made c below;
      erases = erases_stay caller op r old new given a (answer_opens r (answer old new caller op r given range call way)) way made c below;
      size = (call.leaves.lanes.each c below).size;
    }
