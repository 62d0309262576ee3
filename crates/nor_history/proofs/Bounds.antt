-- The bounds of a history, call by call.
use Rattle.std.proofs.Common.{◌≡◌, ◌<◌, ◌≤◌, ◌+◌, ◌*◌, ◌⊎◌, inl, inr, ◌∙◌, ℕ, List, length, Bool, true, false, Option, Some, None, refl, sym, ap, subst, arith}
use Rattle.std.specs.Option.{option_map}
use Rattle.nor_cell.specs.Chip.{ChipState, Part}
use Rattle.nor_cell.specs.declared.device.Work.TheVariants.{Block, Chip}
use Rattle.nor_query.specs.Derived.{limit_of}
use Rattle.nor_bus.specs.declared.bus.Armed.{Armed}
use Rattle.nor_bus.specs.Bus.{BusState, lane, lanes_of}
use Rattle.nor_bus.specs.Driven.{EachLane, AllLanes, Nearer, IsDue}
use Rattle.nor_probe.specs.declared.probing.Found.{Found}
use Rattle.nor_poll.specs.UnderErase.{LaneIs, erase_left, held_left, state_at}
use Rattle.nor_poll.specs.declared.lanes.LaneState.{LaneState}
use Rattle.nor_poll.specs.declared.lanes.LaneState.TheVariants.{Running, Suspended, Finished, Broken}
use Rattle.nor_cell.specs.Chip.{reads_left}
use Rattle.nor_array.specs.Array.{ArrayState, chip_target}
use Rattle.nor_array.specs.After.{after}
use Rattle.nor_array.specs.declared.entry.Halted.{Halted as HaltCause}
use Rattle.nor_array.specs.declared.entry.Halted.TheVariants.{Off, Stuck}
use Rattle.nor_array.specs.declared.entry.Op.{Op}
use Rattle.nor_array.specs.declared.entry.Op.TheVariants.{Read, Program, EraseOpen, EraseAll, Poll, Lock, Unlock, IsLocked, Arm, PowerOn}
use Rattle.nor_array.specs.declared.entry.Reply.{Reply}
use Rattle.nor_array.specs.declared.entry.Reply.TheVariants.{Done, Opened, Erased, NotYet, Failed, Halted}
use Rattle.nor_bank.specs.Counts.{call_most, start_left, Asked, LeftFalls, LeftIn, Ends, GoesOn, IsNew, KeepsErase, Waits, IsBelowLimit, ReadsStuck}
use Rattle.nor_bank.specs.Refused.{bank_refusal, is_own, Refuses}
use Rattle.nor_bank.specs.UnderErase.{IsUnderErase}
use Rattle.nor_bank.specs.Stands.{Stands, PowerIs, EraseIs}
use Rattle.nor_bank.specs.State.{BankState, word_bytes, blocks_of, erase_limit}
use Rattle.nor_bank.specs.Whole.{IsCallOf}
use Rattle.nor_bank.specs.Work.{KeepsBank, words_in}
use Rattle.nor_bank.specs.Ranges.{words_met}
use Rattle.nor_bank.specs.Runs.{most_limit}
use Rattle.nor_bank.specs.declared.kept.Erasing.{Erasing}
use Rattle.nor_history.specs.Histories.{words_of}
use Rattle.nor_history.specs.Bounds.{refused_most, asked_most, words_given, ReadsWords, SinceOpened, SinceArmed, opened_more, newly_opened, opened_after, armed_more, armed_after, IsWithinSlowest, opens_limit, IsDueBy, ReadsWithin, IsAhead, HasOpened, FitsOpened, FitsArmed}
use Rattle.nor_history.proofs.Histories.{is_refusal, refused_is}

pub false_true : false ≡ true → ⊥
false_true is = cc

-- ---- what a bank of the same kind may be asked

pub most_lasts : (b c : BankState) (op : Op) → c.found ≡ b.found → call_most op c ≡ call_most op b
most_lasts b c (Read at len) same = ap (λ (f : Found). 60 + words_met at len (word_bytes f)) same
most_lasts b c (Program at new) same = ap (λ (f : Found). 80 + words_met at (length new) (word_bytes f) * (10 + 2 * most_limit f)) same
most_lasts b c (EraseOpen k) same = refl
most_lasts b c EraseAll same = ap (λ (f : Found). 80 + 8 * length (blocks_of f)) same
most_lasts b c Poll same = refl
most_lasts b c (Lock k) same = refl
most_lasts b c (Unlock k) same = refl
most_lasts b c (IsLocked k) same = refl
most_lasts b c (Arm n m) same = refl
most_lasts b c PowerOn same = refl

pub asked_lasts : (o : Option Reply) (b c : BankState) (op : Op) → c.found ≡ b.found → asked_most o c op ≡ asked_most o b op
asked_lasts None b c op same = most_lasts b c op same
asked_lasts (Some r) b c op same = refl

pub words_last : (b c : BankState) (op : Op) (reply : Reply) → c.found ≡ b.found → words_given c op reply ≡ words_given b op reply
words_last b c op reply same = ap (λ (f : Found). words_of (word_bytes f) reply op) same

pub limits_last : (b c : BankState) (op : Op) → c.found ≡ b.found → opens_limit b op ≡ opens_limit c op
limits_last b c EraseAll same = ap (λ (f : Found). limit_of f.query.times Chip) (sym same)
limits_last b c op same = ap (λ (f : Found). limit_of f.query.times Block) (sym same)

-- ---- a cut that comes nearer

pub near_same : (m : ℕ) (x y : Option Armed) → y ≡ x → Nearer 0 m x y
near_same m x y same = subst (λ (z : Option Armed). Nearer 0 m x z) (sym same) (by_armed x)
  where
    by_armed : (z : Option Armed) → Nearer 0 m z z
    by_armed None = tt
    by_armed (Some z) = (omega arith, omega arith, refl)

pub near_within : (l m n : ℕ) (x y : Option Armed) → m ≤ n → Nearer l m x y → Nearer 0 n x y
near_within l m n None None few near = tt
near_within l m n (Some x) (Some y) few near = let low = near.0 in let high = near.1 in (omega (arith, low), omega (arith, high, few), near.2)
near_within l m n None (Some y) few near = absurd near
near_within l m n (Some x) None few near = absurd near

near_both : (w k m : ℕ) (x y : Option Armed) → Nearer w k x y → Nearer 0 m x y → Nearer w m x y
near_both w k m None None read near = tt
near_both w k m (Some x) (Some y) read near = (read.0, near.1, near.2)
near_both w k m None (Some y) read near = absurd near
near_both w k m (Some x) None read near = absurd near

pub near_then : (w m n : ℕ) (x y z : Option Armed) → Nearer 0 m x y → Nearer w n y z → Nearer w (n + m) x z
near_then w m n None None None first next = tt
near_then w m n (Some x) (Some y) (Some z) first next =
    let a = first.0 in let b = first.1 in let c = next.0 in let d = next.1 in
    (omega (arith, a, c), omega (arith, b, d), next.2 ∙ first.2)
near_then w m n None None (Some z) first next = absurd next
near_then w m n None (Some y) z first next = absurd first
near_then w m n (Some x) None z first next = absurd first
near_then w m n (Some x) (Some y) None first next = absurd next

pub asked_near : (n : ℕ) (old new : BusState) → Asked n old new → Nearer 0 n old.armed new.armed
asked_near n old new (inl went) = near_within n n n old.armed new.armed (omega arith) went.armed
asked_near n old new (inr lost) = let few = lost.before in near_within lost.cycles lost.cycles n old.armed new.armed (omega (arith, few)) lost.armed

pub words_near : (op : Op) (reply : Reply) (m : ℕ) (old new : BankState) → ReadsWords op reply old new → Nearer 0 m old.bus.armed new.bus.armed
    → Nearer (words_given old op reply) m old.bus.armed new.bus.armed
words_near op reply m old new reads near = by_reply reply op reads
  where
    by_reply : (r : Reply) (o : Op) → ReadsWords o r old new → Nearer (words_given old o r) m old.bus.armed new.bus.armed
    by_reply Done (Read at len) reads = near_both (words_in old at len) (60 + words_in old at len) m old.bus.armed new.bus.armed reads.armed near
    by_reply r o reads = near

-- ---- what a call spends

-- the cycles of a call that may ask for so many, and what they leave of an erase and of a cut
pub record Spent (op : Op) (reply : Reply) (most : ℕ) (old new : BankState) : Type 0 where
  pub cycles : ℕ
  pub few : cycles ≤ most
  pub left : EachLane (LeftIn cycles op reply) old.bus new.bus
  pub near : Nearer 0 most old.bus.armed new.bus.armed
  pub after : new.after ≡ old.after

pub falls_same : (old new : BankState) → new ≡ old → EachLane (LeftFalls 0) old.bus new.bus
falls_same old new same c below =
    let left : erase_left (lane new.bus c) ≡ erase_left (lane old.bus c) = ap (λ (b : BankState). erase_left (lane b.bus c)) same in
    (omega (arith, left), omega (arith, left))

refused_left : (op : Op) (r : Reply) (old new : BankState) → is_refusal r ≡ true → Refuses r old new → EachLane (LeftIn 0 op r) old.bus new.bus
refused_left op (Halted cause) old new is refuses = λ c below. tt
refused_left op Opened old new is refuses = absurd (false_true is)
refused_left op r old new is refuses = falls_same old new refuses

pub refused_armed : (r : Reply) (old new : BankState) → Refuses r old new → (new.bus.armed ≡ old.bus.armed) × (new.after ≡ old.after)
refused_armed (Halted (Off n)) old new refuses = (refuses.1.armed, ap (λ (b : BankState). b.after) refuses.0)
refused_armed r old new refuses = (ap (λ (b : BankState). b.bus.armed) refuses, ap (λ (b : BankState). b.after) refuses)

pub refused_spent : (op : Op) (r : Reply) (old new : BankState) → is_refusal r ≡ true → Refuses r old new → Spent op r (refused_most r) old new
refused_spent op r old new is refuses =
    let same = refused_armed r old new refuses in
    record {
      cycles = 0;
      few = omega arith;
      left = refused_left op r old new is refuses;
      near = near_same (refused_most r) old.bus.armed new.bus.armed same.0;
      after = same.1;
    }

pub call_spent : (caller : ℕ) (op : Op) (old new : BankState) (reply : Reply) (given : List ℕ) (a : ArrayState) → IsCallOf caller op old new reply given → Stands old a
    → Spent op reply (asked_most (bank_refusal old caller op) old op) old new
call_spent caller op old new reply given a call stands = by_refusal (bank_refusal old caller op) refl
  where
    by_refusal : (o : Option Reply) → bank_refusal old caller op ≡ o → Spent op reply (asked_most o old op) old new
    by_refusal None none =
        let spends = call.spends in
        record {
          cycles = spends.cycles;
          few = spends.few;
          left = spends.left a stands;
          near = near_within 0 spends.cycles (call_most op old) old.bus.armed new.bus.armed spends.few (asked_near spends.cycles old.bus new.bus spends.asked);
          after = call.leaves.after;
        }
    by_refusal (Some r) some =
        let both = call.refused r some in
        subst (λ (x : Reply). Spent op x (refused_most r) old new) (sym both.0) (refused_spent op r old new (refused_is old caller op r some) both.1)

-- ---- an erase that is counted

pub erase_on : (b : BankState) (a : ArrayState) (e : Erasing) → Stands b a → b.erase ≡ Some e → b.halted ≡ None
erase_on b a e stands is = by_halted b.halted stands.now
  where
    none_some : None ≡ Some e → ⊥
    none_some both = cc

    by_halted : (h : Option HaltCause) → PowerIs h b a → h ≡ None
    by_halted None now = refl
    by_halted (Some (Off n)) now = absurd (none_some (sym now.2 ∙ is))
    by_halted (Some (Stuck k)) now = absurd (none_some (sym now.1 ∙ is))

-- a call goes on
pub opened_goes : (o : SinceOpened) (old new : BankState) (n most waited polls : ℕ) → HasOpened o old → KeepsBank old new → GoesOn polls old.erase new.erase
    → EachLane (LeftFalls n) old.bus new.bus → n ≤ most → (waited ≡ 0) ⊎ ((waited ≡ 1) × Waits old new) → HasOpened (opened_more most waited polls o) new
opened_goes o old new n most waited polls has keeps goes falls few waits = by_erase new.erase refl (subst (λ (e : Option Erasing). GoesOn polls e new.erase) has.is goes)
  where
    there : (c : ℕ) → c < lanes_of new.bus → c < lanes_of old.bus
    there c below = subst (λ (k : ℕ). c < k) keeps.lanes.count below

    part : (c : ℕ) → c < lanes_of new.bus → (lane new.bus c).part ≡ (lane old.bus c).part
    part c below = (keeps.lanes.each c (there c below)).part

    start : (c : ℕ) → c < lanes_of new.bus → start_left o.op (lane new.bus c).part ≡ start_left o.op (lane old.bus c).part
    start c below = ap (λ (p : Part). start_left o.op p) (part c below)

    left_now : AllLanes (λ s. start_left o.op s.part ≤ erase_left s + (o.asked + most)) new.bus
    left_now c below =
        let was = has.left c (there c below) in
        let fall = (falls c (there c below)).1 in
        let same = start c below in
        omega (arith, was, fall, same, few)

    sound_then : AllLanes (λ s. s.part.stuck ≡ false) new.bus → AllLanes (λ s. s.part.stuck ≡ false) old.bus
    sound_then sound c below =
        let now : c < lanes_of new.bus = subst (λ (k : ℕ). c < k) (sym keeps.lanes.count) below in
        ap (λ (p : Part). p.stuck) (sym (part c now)) ∙ sound c now

    slow_then : (slowest : ℕ) → AllLanes (λ s. start_left o.op s.part ≤ slowest) new.bus → AllLanes (λ s. start_left o.op s.part ≤ slowest) old.bus
    slow_then slowest slow c below =
        let now : c < lanes_of new.bus = subst (λ (k : ℕ). c < k) (sym keeps.lanes.count) below in
        subst (λ (k : ℕ). k ≤ slowest) (start c now) (slow c now)

    ahead : (slowest : ℕ) (s t : ChipState) → IsAhead o.waits slowest s → erase_left t ≤ erase_left s → (waited ≡ 0) ⊎ ((waited ≡ 1) × ((erase_left t ≡ 0) ⊎ (erase_left t < erase_left s)))
        → IsAhead (o.waits + waited) slowest t
    ahead slowest s t (inl ended) fall how = inl (omega (arith, ended, fall))
    ahead slowest s t (inr far) fall (inl none) = inr (omega (arith, far, fall, none))
    ahead slowest s t (inr far) fall (inr (one, inl ended)) = inl ended
    ahead slowest s t (inr far) fall (inr (one, inr less)) = inr (omega (arith, far, less, one))

    nears : (c : ℕ) → c < lanes_of old.bus → (lane old.bus c).part.stuck ≡ false → (waited ≡ 0) ⊎ ((waited ≡ 1) × Waits old new)
        → (waited ≡ 0) ⊎ ((waited ≡ 1) × ((erase_left (lane new.bus c) ≡ 0) ⊎ (erase_left (lane new.bus c) < erase_left (lane old.bus c))))
    nears c below sound (inl none) = inl none
    nears c below sound (inr some) = inr (some.0, some.1.nears c below sound)

    few_now : AllLanes (λ s. s.part.stuck ≡ false) new.bus → (slowest : ℕ) → AllLanes (λ s. start_left o.op s.part ≤ slowest) new.bus → AllLanes (IsAhead (o.waits + waited) slowest) new.bus
    few_now sound slowest slow c below =
        let was = there c below in
        ahead slowest (lane old.bus c) (lane new.bus c) (has.few (sound_then sound) slowest (slow_then slowest slow) c was) (falls c was).0
        (nears c was (sound_then sound c was) waits)

    by_erase : (e : Option Erasing) → new.erase ≡ e → GoesOn polls (Some has.erase) e → HasOpened (opened_more most waited polls o) new
    by_erase None is goes = absurd goes
    by_erase (Some e) is goes = record {
      erase = e;
      is = is;
      limit =
          (λ i. erase_limit (keeps.found i) (goes.0 i)) ∙ (has.limit ∙ limit_lasts o.op);
      polls = goes.2 ∙ ap (λ (k : ℕ). k + polls) has.polls;
      left = left_now;
      few = few_now;
    }
      where
        limit_lasts : (op : Op) → opens_limit old op ≡ opens_limit new op
        limit_lasts op = limits_last old new op keeps.found

-- one is opened
opened_newly : (caller : ℕ) (op : Op) (old new : BankState) → KeepsBank old new → IsNew caller op new.erase → EachLane (λ s t. erase_left t ≡ start_left op s.part) old.bus new.bus
    → HasOpened (record { op = op; asked = 0; waits = 0; polls = 0 }) new
opened_newly caller op old new keeps is_new begins = by_op op refl new.erase refl is_new
  where
    there : (c : ℕ) → c < lanes_of new.bus → c < lanes_of old.bus
    there c below = subst (λ (k : ℕ). c < k) keeps.lanes.count below

    begun : (c : ℕ) → c < lanes_of new.bus → erase_left (lane new.bus c) ≡ start_left op (lane new.bus c).part
    begun c below = begins c (there c below) ∙ ap (λ (p : Part). start_left op p) (sym (keeps.lanes.each c (there c below)).part)

    opened : (e : Erasing) → new.erase ≡ Some e → erase_limit new.found e.target ≡ opens_limit new op → e.polls ≡ 0 → HasOpened (record { op = op; asked = 0; waits = 0; polls = 0 }) new
    opened e is limit none = record {
      erase = e;
      is = is;
      limit = limit;
      polls = none;
      left = λ c below. let h = begun c below in omega (arith, h);
      few = λ sound slowest slow c below. let h = begun c below in let s = slow c below in inr (omega (arith, h, s));
    }

    by_op : (o : Op) → o ≡ op → (erase : Option Erasing) → new.erase ≡ erase → IsNew caller o erase → HasOpened (record { op = op; asked = 0; waits = 0; polls = 0 }) new
    by_op o same None is it = absurd it
    by_op (EraseOpen k) same (Some e) is it = opened e is (ap (erase_limit new.found) it.0 ∙ ap (opens_limit new) same) it.2
    by_op EraseAll same (Some e) is it = opened e is (ap (erase_limit new.found) it.0 ∙ ap (opens_limit new) same) it.2
    by_op o same (Some e) is it = absurd it

-- what becomes of it in any call
pub call_opened : (caller : ℕ) (op : Op) (reply : Reply) (old new : BankState) (n most : ℕ) (waits : Bool) (o : Option SinceOpened) → FitsOpened o old → KeepsBank old new
    → KeepsErase caller op reply old.erase new.erase → EachLane (LeftIn n op reply) old.bus new.bus → n ≤ most → (reply ≡ NotYet → Waits old new)
    → FitsOpened (opened_after most waits op reply o) new
call_opened caller op reply old new n most waits o fits keeps erase left few waiting = by_reply op reply erase left waiting
  where
    one : (waited polls : ℕ) (o : Option SinceOpened) → FitsOpened o old → GoesOn polls old.erase new.erase → EachLane (LeftFalls n) old.bus new.bus
        → (waited ≡ 0) ⊎ ((waited ≡ 1) × Waits old new) → FitsOpened (option_map (opened_more most waited polls) o) new
    one waited polls None fits goes falls how = tt
    one waited polls (Some x) fits goes falls how = opened_goes x old new n most waited polls fits keeps goes falls few how

    begins : (waits : Bool) (op : Op) → IsNew caller op new.erase → EachLane (LeftIn n op Opened) old.bus new.bus → FitsOpened (newly_opened waits op) new
    begins true op is_new left = tt
    begins false op is_new left = opened_newly caller op old new keeps is_new left

    by_reply : (op : Op) (reply : Reply) → KeepsErase caller op reply old.erase new.erase → EachLane (LeftIn n op reply) old.bus new.bus → (reply ≡ NotYet → Waits old new)
        → FitsOpened (opened_after most waits op reply o) new
    by_reply op Opened erase left waiting = begins waits op erase left
    by_reply Poll NotYet erase left waiting = one 1 1 o fits erase left (inr (refl, waiting refl))
    by_reply op NotYet erase left waiting = one 1 0 o fits erase left (inr (refl, waiting refl))
    by_reply Poll Erased erase left waiting = tt
    by_reply Poll (Failed from to lanes) erase left waiting = tt
    by_reply op (Halted cause) erase left waiting = tt
    by_reply PowerOn Done erase left waiting = tt
    by_reply op reply erase left waiting = one 0 0 o fits erase left (inl refl)

-- ---- a cut that is counted

pub armed_goes : (c : Option SinceArmed) (after words most : ℕ) (x y : Option Armed) → FitsArmed c after x → Nearer words most x y → FitsArmed (option_map (armed_more most words) c) after y
armed_goes None after words most None None fits near = tt
armed_goes None after words most (Some x) y fits near = absurd fits
armed_goes None after words most None (Some y) fits near = absurd near
armed_goes (Some c) after words most None y fits near = absurd fits
armed_goes (Some c) after words most (Some x) None fits near = absurd near
armed_goes (Some c) after words most (Some x) (Some y) fits near =
    let asked = fits.1 in let read = fits.2 in let low = near.0 in let high = near.1 in
    (fits.0, omega (arith, asked, high), omega (arith, read, low))

-- a call that neither arms a cut nor brings power back
pub call_armed : (op : Op) (reply : Reply) (c : Option SinceArmed) (after words most : ℕ) (x y : Option Armed) → (reply ≡ Done → is_own op ≡ false)
    → FitsArmed c after x → Nearer words most x y → FitsArmed (armed_after most words op reply c) after y
call_armed (Arm n m) Done c after words most x y others fits near = absurd (false_true (sym (others refl)))
call_armed PowerOn Done c after words most x y others fits near = absurd (false_true (sym (others refl)))
call_armed op reply c after words most x y others fits near = armed_goes c after words most x y fits near

-- ---- the bounds of one call

-- what a poll that closes the erase has read
ended_left : (state : LaneState) (e : Erasing) (s : ChipState) → LaneIs state (chip_target e.target) s → (state ≡ Running) ⊎ (state ≡ Suspended) ⊎ (erase_left s ≡ 0)
ended_left Running e s is = inl refl
ended_left Suspended e s is = inr (inl refl)
ended_left Finished e s is = inr (inr ((λ i. reads_left (is.1.job i) + held_left (is.1.held i))))
ended_left Broken e s is = inr (inr ((λ i. reads_left (is.1.job i) + held_left (is.1.held i))))

under_now : (b : BankState) (a : ArrayState) (e : Erasing) → Stands b a → b.erase ≡ Some e → IsUnderErase b.found e b.bus
under_now b a e stands is = subst (λ (x : Option Erasing). EraseIs x b.found b.bus) is (subst (λ (h : Option HaltCause). PowerIs h b a) (erase_on b a e stands is) stands.now).erase

pub closes_late : (o : SinceOpened) (old : BankState) (a : ArrayState) (n most : ℕ) → HasOpened o old → Stands old a → Ends n old.erase old.bus → n ≤ most → 0 < most
    → AllLanes (λ s. start_left o.op s.part < o.asked + most) old.bus
closes_late o old a n most has stands ends few some c below =
    by_state (ended_left (state_at has.erase.lanes c) has.erase (lane old.bus c) ((under_now old a has.erase stands has.is).each c below))
  where
    all : Ends n (Some has.erase) old.bus
    all = subst (λ (e : Option Erasing). Ends n e old.bus) has.is ends

    less : erase_left (lane old.bus c) < most → start_left o.op (lane old.bus c).part < o.asked + most
    less under = let was = has.left c below in omega (arith, was, under)

    by_state : (state_at has.erase.lanes c ≡ Running) ⊎ (state_at has.erase.lanes c ≡ Suspended) ⊎ (erase_left (lane old.bus c) ≡ 0)
        → start_left o.op (lane old.bus c).part < o.asked + most
    by_state (inl runs) = let h = all c below (inl runs) in less (omega (arith, h, few))
    by_state (inr (inl held)) = let h = all c below (inr held) in less (omega (arith, h, few))
    by_state (inr (inr ended)) = less (omega (arith, ended, some))

pub waits_few : (o : SinceOpened) (old new : BankState) → HasOpened o old → Waits old new → IsWithinSlowest old o.op (o.waits + 1)
waits_few o old new has waits sound slowest slow = by_lane (has.few sound slowest slow waits.works.number waits.works.there) waits.works.works
  where
    at_work : ChipState
    at_work = lane old.bus waits.works.number

    by_lane : IsAhead o.waits slowest at_work → (0 < erase_left at_work) ⊎ (at_work.part.stuck ≡ true) → o.waits + 1 ≤ slowest
    by_lane ahead (inr stuck) = absurd (false_true (sym (sound waits.works.number waits.works.there) ∙ stuck))
    by_lane (inl ended) (inl some) = absurd (omega (arith, ended, some))
    by_lane (inr far) (inl some) = omega (arith, far, some)

pub polls_below : (o : SinceOpened) (old new : BankState) → HasOpened o old → KeepsBank old new → GoesOn 1 old.erase new.erase → IsBelowLimit Poll new → o.polls + 1 < opens_limit old o.op
polls_below o old new has keeps goes limit = by_erase new.erase refl (subst (λ (e : Option Erasing). GoesOn 1 e new.erase) has.is goes)
  where
    by_erase : (e : Option Erasing) → new.erase ≡ e → GoesOn 1 (Some has.erase) e → o.polls + 1 < opens_limit old o.op
    by_erase None is goes = absurd goes
    by_erase (Some e) is goes =
        let below = limit e is in
        let now = goes.2 in
        let was = has.polls in
        let same : erase_limit new.found e.target ≡ erase_limit old.found has.erase.target = λ i. erase_limit (keeps.found i) (goes.0 i) in
        let right = has.limit in
        omega (arith, below, now, was, same, right)

pub polls_stuck : (o : SinceOpened) (old new : BankState) → HasOpened o old → ReadsStuck Poll old new → o.polls + 1 ≡ opens_limit old o.op
polls_stuck o old new has reads = let at = reads has.erase has.is in let was = has.polls in let right = has.limit in omega (arith, at, was, right)

-- power is lost by the cut that is counted
pub cut_due : (c : Option SinceArmed) (after n besides most m : ℕ) (x y : Option Armed) → FitsArmed c after x → Nearer 0 besides x y → IsDue n y → n ≤ most → m ≡ after → IsDueBy m (most + besides) c
cut_due None after n besides most m None None fits near due few is = absurd due
cut_due None after n besides most m None (Some y) fits near due few is = absurd near
cut_due None after n besides most m (Some x) y fits near due few is = absurd fits
cut_due (Some c) after n besides most m None y fits near due few is = absurd fits
cut_due (Some c) after n besides most m (Some x) None fits near due few is = absurd near
cut_due (Some c) after n besides most m (Some x) (Some y) fits near due few is =
    let named = fits.0 in let asked = fits.1 in let high = near.1 in (is ∙ sym named, omega (arith, is, named, asked, high, due, few))

pub reads_within : (op : Op) (reply : Reply) (c : Option SinceArmed) (after words most : ℕ) (x y : Option Armed) → FitsArmed c after x → Nearer words most x y → ReadsWithin words op reply c
reads_within (Read at len) Done (Some c) after words most (Some x) (Some y) fits near = let read = fits.2 in let low = near.0 in omega (arith, read, low)
reads_within (Read at len) Done (Some c) after words most (Some x) None fits near = absurd near
reads_within (Read at len) Done (Some c) after words most None y fits near = absurd fits
reads_within op reply c after words most x y fits near = tt
