-- The bounds of a history: one call, and one history behind another.
use Rattle.std.proofs.Common.{◌≡◌, ◌<◌, ◌≤◌, ◌+◌, ◌*◌, inl, inr, ◌∙◌, ◌++◌, ◌∷◌, ℕ, List, [], Bool, true, false, Option, Some, None, refl, sym, ap, subst, arith}
use Rattle.std.specs.Option.{option_map}
use Rattle.nor_cell.specs.Chip.{Part}
use Rattle.nor_bus.specs.Bus.{BusState, lane, lanes_of}
use Rattle.nor_bus.specs.Cycles.{KeepsLanes}
use Rattle.nor_bus.specs.Driven.{AllLanes, Nearer, IsDue}
use Rattle.nor_bus.specs.declared.bus.Armed.{Armed}
use Rattle.nor_probe.specs.declared.probing.Found.{Found}
use Rattle.nor_poll.specs.UnderErase.{erase_left}
use Rattle.nor_array.specs.Array.{ArrayState}
use Rattle.nor_array.specs.After.{after, after_all}
use Rattle.nor_array.specs.Refusals.{refusal}
use Rattle.nor_array.specs.Entries.{is_halt}
use Rattle.nor_array.specs.declared.entry.Halted.{Halted as HaltCause}
use Rattle.nor_array.specs.declared.entry.Halted.TheVariants.{Off, Stuck}
use Rattle.nor_array.specs.declared.entry.Op.{Op}
use Rattle.nor_array.specs.declared.entry.Op.TheVariants.{Read, Program, EraseOpen, EraseAll, Poll, Lock, Unlock, IsLocked, Arm, PowerOn}
use Rattle.nor_array.specs.declared.entry.Reply.{Reply}
use Rattle.nor_array.specs.declared.entry.Reply.TheVariants.{Done, Opened, Erased, NotYet, Failed, Halted}
use Rattle.nor_array.specs.declared.state.OpenErase.{OpenErase}
use Rattle.nor_array.specs.declared.state.Power.{Power}
use Rattle.nor_array.specs.declared.state.Power.TheVariants.{On}
use Rattle.nor_bank.specs.Calls.{entry_of}
use Rattle.nor_bank.specs.Counts.{call_most, start_left, Asked, EndsErase, GoesOn, KeepsErase, Waits}
use Rattle.nor_bank.specs.Refused.{bank_refusal, is_own, Refuses}
use Rattle.nor_bank.specs.Stands.{Stands, PowerIs, kept_power}
use Rattle.nor_bank.specs.State.{BankState, erase_limit}
use Rattle.nor_bank.specs.Whole.{IsCallOf, Arms, PowersBank, armed_with}
use Rattle.nor_bank.specs.Work.{KeepsBank}
use Rattle.nor_bank.specs.declared.kept.Erasing.{Erasing}
use Rattle.nor_bank.proofs.Keeping.{keeps_self}
use Rattle.nor_bank.proofs.Outlines.{refuses_as_array}
use Rattle.nor_bank.proofs.RefusedCalls.{goes_on_self}
use Rattle.nor_history.specs.Histories.{IsMadeBy, Makes}
use Rattle.nor_history.specs.Bounds.{Step, entries_of, refused_most, asked_most, polls_most, waited_most, step_most, words_given, ReadsWords, SinceOpened, SinceArmed, Tally, opened_more, opened_after, armed_after, tally_after, tally_all, ClosesLate, WaitsFew, PollsToLimit, LosesLate, ReadsWithin, FitsOpened, FitsArmed, Fits, IsBounded, Bounded, Goes}
use Rattle.nor_history.proofs.Bounds.{false_true, Spent, asked_lasts, words_last, limits_last, near_same, near_then, words_near, refused_spent, call_spent, call_opened, call_armed, opened_goes, erase_on, closes_late, waits_few, polls_below, polls_stuck, cut_due, reads_within}
use Rattle.nor_history.proofs.Histories.{is_refusal, refused_is, refused_goes_on}

true_false : true ≡ false → ⊥
true_false is = cc

none_some : {A : Type 0} {x : A} → None ≡ Some x → ⊥
none_some both = cc

-- ---- a call that asks for at most so many cycles

-- what a step needs, where so many were asked for
record KeepsBounds (most : ℕ) (waits : Bool) (op : Op) (reply : Reply) (old new : BankState) (a : ArrayState) (t : Tally) : Type 0 where
  pub closes : ClosesLate old op reply most t.opened
  pub waiting : WaitsFew old reply t.opened
  pub polls : PollsToLimit old op reply t.opened
  pub loses : LosesLate a.power reply most t.armed
  pub reads : ReadsWithin (words_given old op reply) op reply t.armed
  pub opened : FitsOpened (opened_after most waits op reply t.opened) new
  pub armed : FitsArmed (armed_after most (words_given old op reply) op reply t.armed) new.after new.bus.armed

-- ---- a refused call

refused_closes : (b : BankState) (op : Op) (reply : Reply) (most : ℕ) (o : Option SinceOpened) → is_refusal reply ≡ true → ClosesLate b op reply most o
refused_closes b Poll Erased most (Some o) is = absurd (false_true is)
refused_closes b Poll (Failed from to lanes) most (Some o) is = absurd (false_true is)
refused_closes b op reply most o is = tt

refused_waits : (b : BankState) (reply : Reply) (o : Option SinceOpened) → is_refusal reply ≡ true → WaitsFew b reply o
refused_waits b NotYet (Some o) is = absurd (false_true is)
refused_waits b reply o is = tt

-- a halt gives the erase up, and a refusal leaves it
refused_polls : (b : BankState) (op : Op) (reply : Reply) (o : Option SinceOpened) → is_refusal reply ≡ true → FitsOpened o b
    → ((k : ℕ) → op ≡ Poll → reply ≡ Halted (Stuck k) → b.erase ≡ None) → PollsToLimit b op reply o
refused_polls b Poll NotYet (Some o) is fits gone = absurd (false_true is)
refused_polls b Poll (Halted (Stuck k)) (Some o) is fits gone = absurd (none_some (sym (gone k refl refl) ∙ fits.is))
refused_polls b op reply o is fits gone = tt

on_loses : (power : Power) (reply : Reply) (most : ℕ) (c : Option SinceArmed) → (power ≡ On → is_halt reply ≡ false) → LosesLate power reply most c
on_loses On (Halted (Off n)) most c goes = absurd (true_false (goes refl))
on_loses power reply most c goes = tt

refused_reads : (words : ℕ) (op : Op) (reply : Reply) (c : Option SinceArmed) → is_refusal reply ≡ true → ReadsWithin words op reply c
refused_reads words (Read at len) Done (Some c) is = absurd (false_true is)
refused_reads words op reply c is = tt

-- ---- any call of the chips

call_closes : (op : Op) (reply : Reply) (old : BankState) (a : ArrayState) (o : Option SinceOpened) (n w : ℕ) → FitsOpened o old → Stands old a → EndsErase op reply n old → n ≤ call_most op old
    → ClosesLate old op reply (call_most op old + w) o
call_closes Poll Erased old a (Some o) n w fits stands ends few =
    let within : n ≤ 12 + w = omega (arith, few) in
    let some : 0 < 12 + w = omega arith in
    closes_late o old a n (12 + w) fits stands ends within some
call_closes Poll (Failed from to lanes) old a (Some o) n w fits stands ends few =
    let within : n ≤ 12 + w = omega (arith, few) in
    let some : 0 < 12 + w = omega arith in
    closes_late o old a n (12 + w) fits stands ends within some
call_closes op reply old a o n w fits stands ends few = tt

call_waits : (reply : Reply) (old new : BankState) (o : Option SinceOpened) → FitsOpened o old → (reply ≡ NotYet → Waits old new) → WaitsFew old reply o
call_waits NotYet old new (Some o) fits waits = waits_few o old new fits (waits refl)
call_waits reply old new o fits waits = tt

-- on a bank that keeps no halt
on_halted : (b : BankState) (a : ArrayState) (o : SinceOpened) → Stands b a → FitsOpened (Some o) b → b.halted ≡ None
on_halted b a o stands fits = erase_on b a fits.erase stands fits.is

call_polls : (caller : ℕ) (op : Op) (reply : Reply) (old new : BankState) (given : List ℕ) (a : ArrayState) (o : Option SinceOpened) → IsCallOf caller op old new reply given → KeepsBank old new
    → Stands old a → FitsOpened o old → PollsToLimit old op reply o
call_polls caller Poll NotYet old new given a (Some o) call keeps stands fits = polls_below o old new fits keeps call.leaves.erase (call.leaves.limit refl)
call_polls caller Poll (Halted (Stuck k)) old new given a (Some o) call keeps stands fits = polls_stuck o old new fits (call.stuck k refl (on_halted old a o stands fits))
call_polls caller op reply old new given a o call keeps stands fits = tt

-- while power is on no halt is kept
power_none : (b : BankState) (a : ArrayState) → Stands b a → a.power ≡ On → b.halted ≡ None
power_none b a stands on = by_halted b.halted (sym stands.power ∙ on)
  where
    by_halted : (h : Option HaltCause) → kept_power h ≡ On → h ≡ None
    by_halted None is = refl
    by_halted (Some (Off n)) is = absurd cc
    by_halted (Some (Stuck k)) is = absurd cc

-- power was lost in the call, and so by the armed cut
call_due : (caller : ℕ) (op : Op) (old new : BankState) (given : List ℕ) (a : ArrayState) (n : ℕ) → IsCallOf caller op old new (Halted (Off n)) given → Stands old a → old.halted ≡ None
    → (spends : ℕ) → Asked spends old.bus new.bus → IsDue spends old.bus.armed
call_due caller op old new given a n call stands none spent asked = by_asked asked
  where
    was_on : old.bus.power ≡ true
    was_on = (subst (λ (h : Option HaltCause). PowerIs h old a) none stands.now).power

    kept : new.halted ≡ Some (Off n)
    kept = call.leaves.halted

    is_off : new.bus.power ≡ false
    is_off = (subst (λ (h : Option HaltCause). PowerIs h new (after a (entry_of old new caller op (Halted (Off n)) given))) kept (call.makes a stands).entry.stands.now).0

    by_asked : Asked spent old.bus new.bus → IsDue spent old.bus.armed
    by_asked (inl went) = absurd (true_false (sym (went.power was_on) ∙ is_off))
    by_asked (inr lost) = lost.due was_on

call_loses : (power : Power) (reply : Reply) (caller : ℕ) (op : Op) (old new : BankState) (given : List ℕ) (a : ArrayState) (c : Option SinceArmed) (first : ℕ) (x : Option Armed) (w : ℕ)
    → IsCallOf caller op old new reply given → Stands old a → FitsArmed c first x → Nearer 0 w x old.bus.armed → old.after ≡ first
    → a.power ≡ power → LosesLate power reply (call_most op old + w) c
call_loses On (Halted (Off n)) caller op old new given a c first x w call stands fits near is on =
    let none = power_none old a stands on in
    cut_due c first call.spends.cycles w (call_most op old) n x old.bus.armed fits near (call_due caller op old new given a n call stands none call.spends.cycles call.spends.asked) call.spends.few
    (call.after n refl none ∙ is)
call_loses power reply caller op old new given a c first x w call stands fits near is on = tt

-- a halt of a refused poll: it gives the erase up, which a refusal leaves
gone_erase : (caller : ℕ) (op : Op) (reply : Reply) (old new : BankState) (k : ℕ) → op ≡ Poll → reply ≡ Halted (Stuck k) → KeepsErase caller op reply old.erase new.erase
    → Refuses reply old new → old.erase ≡ None
gone_erase caller op reply old new k polls halts erase refuses =
    let halted : KeepsErase caller op (Halted (Stuck k)) old.erase new.erase = subst (λ (r : Reply). KeepsErase caller op r old.erase new.erase) halts erase in
    let gone : KeepsErase caller Poll (Halted (Stuck k)) old.erase new.erase = subst (λ (o : Op). KeepsErase caller o (Halted (Stuck k)) old.erase new.erase) polls halted in
    let same : new ≡ old = subst (λ (r : Reply). Refuses r old new) halts refuses in
    ap (λ (b : BankState). b.erase) (sym same) ∙ gone

-- Behind `w` cycles that were asked for since it was counted.
call_bounds : (caller : ℕ) (op : Op) (reply : Reply) (old new : BankState) (given : List ℕ) (a : ArrayState) (t : Tally) (waits : Bool) (w first : ℕ) (x : Option Armed) → is_own op ≡ false
    → IsCallOf caller op old new reply given → KeepsBank old new → Stands old a → ReadsWords op reply old new
    → FitsOpened t.opened old → FitsArmed t.armed first x → Nearer 0 w x old.bus.armed → old.after ≡ first
    → KeepsBounds (asked_most (bank_refusal old caller op) old op + w) waits op reply old new a t
call_bounds caller op reply old new given a t waits w first x others call keeps stands reads opened armed before is =
    by_refusal (bank_refusal old caller op) refl (call_spent caller op old new reply given a call stands)
  where
    words : ℕ
    words = words_given old op reply

    armed_now : (m : ℕ) → Spent op reply m old new → FitsArmed (armed_after (m + w) words op reply t.armed) new.after new.bus.armed
    armed_now m spent =
        let near = near_then words w m x old.bus.armed new.bus.armed before (words_near op reply m old new reads spent.near) in
        subst (λ (k : ℕ). FitsArmed (armed_after (m + w) words op reply t.armed) k new.bus.armed) (sym (spent.after ∙ is))
        (call_armed op reply t.armed first words (m + w) x new.bus.armed (λ done. others) armed near)

    opened_now : (m : ℕ) → Spent op reply m old new → FitsOpened (opened_after (m + w) waits op reply t.opened) new
    opened_now m spent =
        let few = spent.few in
        let within : spent.cycles ≤ m + w = omega (arith, few) in
        call_opened caller op reply old new spent.cycles (m + w) waits t.opened opened keeps call.leaves.erase spent.left within (call.makes a stands).waits

    reads_now : (m : ℕ) → Spent op reply m old new → ReadsWithin words op reply t.armed
    reads_now m spent =
        reads_within op reply t.armed first words (m + w) x new.bus.armed armed
        (near_then words w m x old.bus.armed new.bus.armed before (words_near op reply m old new reads spent.near))

    by_refusal : (o : Option Reply) → bank_refusal old caller op ≡ o → Spent op reply (asked_most o old op) old new → KeepsBounds (asked_most o old op + w) waits op reply old new a t
    by_refusal None none spent = record {
      closes = call_closes op reply old a t.opened call.spends.cycles w opened stands (call.spends.ends a stands) call.spends.few;
      waiting = call_waits reply old new t.opened opened (call.makes a stands).waits;
      polls = call_polls caller op reply old new given a t.opened call keeps stands opened;
      loses = call_loses a.power reply caller op old new given a t.armed first x w call stands armed before is refl;
      reads = reads_now (call_most op old) spent;
      opened = opened_now (call_most op old) spent;
      armed = armed_now (call_most op old) spent;
    }
    by_refusal (Some r) some spent =
        let both = call.refused r some in
        let refuses : Refuses reply old new = subst (λ (x : Reply). Refuses x old new) (sym both.0) both.1 in
        let refusing : is_refusal reply ≡ true = ap is_refusal both.0 ∙ refused_is old caller op r some in
        record {
          closes = refused_closes old op reply (refused_most r + w) t.opened refusing;
          waiting = refused_waits old reply t.opened refusing;
          polls = refused_polls old op reply t.opened refusing opened (λ k polls halts. gone_erase caller op reply old new k polls halts call.leaves.erase refuses);
          loses =
              on_loses a.power reply (refused_most r + w) t.armed
              (λ on. ap is_halt both.0 ∙ refused_goes_on a caller op r on (refuses_as_array old a caller op stands ∙ some));
          reads = refused_reads words op reply t.armed refusing;
          opened = opened_now (refused_most r) spent;
          armed = armed_now (refused_most r) spent;
        }

-- ---- arm, and power-on

-- a call that leaves the lanes and the erase
same_goes : (o : Option SinceOpened) (old new : BankState) (most : ℕ) → FitsOpened o old → KeepsBank old new → new.erase ≡ old.erase
    → ((c : ℕ) → erase_left (lane new.bus c) ≡ erase_left (lane old.bus c)) → FitsOpened (option_map (opened_more most 0 0) o) new
same_goes None old new most fits keeps same left = tt
same_goes (Some o) old new most fits keeps same left =
    opened_goes o old new 0 most 0 0 fits keeps (subst (λ (e : Option Erasing). GoesOn 0 old.erase e) (sym same) (goes_on_self old.erase))
    (λ c below. let l = left c in (omega (arith, l), omega (arith, l))) (omega arith) (inl refl)

own_opened : (op : Op) (reply : Reply) (old new : BankState) (most : ℕ) (waits : Bool) (o : Option SinceOpened) → is_own op ≡ true → is_refusal reply ≡ true → FitsOpened o old → KeepsBank old new
    → (is_halt reply ≡ false → new ≡ old) → FitsOpened (opened_after most waits op reply o) new
own_opened op Opened old new most waits o own refuses fits keeps same = absurd (false_true refuses)
own_opened Poll NotYet old new most waits o own refuses fits keeps same = absurd (false_true refuses)
own_opened op NotYet old new most waits o own refuses fits keeps same = absurd (false_true refuses)
own_opened Poll Erased old new most waits o own refuses fits keeps same = absurd (false_true refuses)
own_opened Poll (Failed from to lanes) old new most waits o own refuses fits keeps same = absurd (false_true refuses)
own_opened op (Halted cause) old new most waits o own refuses fits keeps same = tt
own_opened PowerOn Done old new most waits o own refuses fits keeps same = absurd (false_true refuses)
own_opened op reply old new most waits o own refuses fits keeps same =
    let is : new ≡ old = same refl in
    same_goes o old new most fits keeps (ap (λ (b : BankState). b.erase) is) (λ c. ap (λ (b : BankState). erase_left (lane b.bus c)) is)

not_done : (op : Op) (reply : Reply) → is_refusal reply ≡ true → reply ≡ Done → is_own op ≡ false
not_done op reply refuses done = absurd (true_false (sym refuses ∙ ap is_refusal done))

-- one that is refused
own_refused : (op : Op) (reply : Reply) (old new : BankState) (a : ArrayState) (t : Tally) (waits : Bool) → is_own op ≡ true → is_refusal reply ≡ true → (a.power ≡ On → is_halt reply ≡ false)
    → KeepsBank old new → ReadsWords op reply old new → Fits t old → Nearer 0 (refused_most reply) old.bus.armed new.bus.armed → new.after ≡ old.after → (is_halt reply ≡ false → new ≡ old)
    → KeepsBounds (refused_most reply) waits op reply old new a t
own_refused op reply old new a t waits own refuses goes keeps reads fits near after same = record {
  closes = refused_closes old op reply (refused_most reply) t.opened refuses;
  waiting = refused_waits old reply t.opened refuses;
  polls = refused_polls old op reply t.opened refuses fits.opened (λ k polls halts. absurd (true_false (sym own ∙ ap is_own polls)));
  loses = on_loses a.power reply (refused_most reply) t.armed goes;
  reads = refused_reads (words_given old op reply) op reply t.armed refuses;
  opened = own_opened op reply old new (refused_most reply) waits t.opened own refuses fits.opened keeps same;
  armed =
      subst (λ (k : ℕ). FitsArmed (armed_after (refused_most reply) (words_given old op reply) op reply t.armed) k new.bus.armed) (sym after)
      (call_armed op reply t.armed old.after (words_given old op reply) (refused_most reply) old.bus.armed new.bus.armed (not_done op reply refuses) fits.armed
      (words_near op reply (refused_most reply) old new reads near));
}

refuses_same : (r : Reply) (old new : BankState) → is_halt r ≡ false → Refuses r old new → new ≡ old
refuses_same (Halted cause) old new goes refuses = absurd (true_false goes)
refuses_same r old new goes refuses = refuses

arms_bounds : (n m : ℕ) (reply : Reply) (old new : BankState) (a : ArrayState) (t : Tally) (waits : Bool) → Arms n m old new reply → KeepsBank old new → Stands old a → Fits t old
    → KeepsBounds (asked_most (bank_refusal old 0 (Arm n m)) old (Arm n m)) waits (Arm n m) reply old new a t
arms_bounds n m reply old new a t waits arms keeps stands fits = by_refusal (bank_refusal old 0 (Arm n m)) refl
  where
    is_done : new ≡ armed_with n m old → KeepsBounds 0 waits (Arm n m) Done old new a t
    is_done is = record {
      closes = tt;
      waiting = tt;
      polls = tt;
      loses = on_loses a.power Done 0 t.armed (λ on. refl);
      reads = tt;
      opened =
          same_goes t.opened old new 0 fits.opened keeps (ap (λ (b : BankState). b.erase) is)
          (λ c. ap (λ (b : BankState). erase_left (lane b.bus c)) is);
      armed =
          subst (λ (b : BankState). FitsArmed (Some (record { after = n; asked = 0; words = 0 })) b.after b.bus.armed) (sym is)
          (refl, omega arith, omega arith);
    }

    by_refusal : (o : Option Reply) → bank_refusal old 0 (Arm n m) ≡ o → KeepsBounds (asked_most o old (Arm n m)) waits (Arm n m) reply old new a t
    by_refusal None none =
        let done = arms.done none in
        subst (λ (r : Reply). KeepsBounds 0 waits (Arm n m) r old new a t) (sym done.0) (is_done done.1)
    by_refusal (Some r) some =
        let both = arms.refused r some in
        let refuses = refused_is old 0 (Arm n m) r some in
        let spent = refused_spent (Arm n m) r old new refuses both.1 in
        subst (λ (x : Reply). KeepsBounds (refused_most r) waits (Arm n m) x old new a t) (sym both.0)
        (own_refused (Arm n m) r old new a t waits refl refuses (λ on. refused_goes_on a 0 (Arm n m) r on (refuses_as_array old a 0 (Arm n m) stands ∙ some))
        keeps tt fits spent.near spent.after (λ goes. refuses_same r old new goes both.1))

powers_bounds : (reply : Reply) (old new : BankState) (a : ArrayState) (t : Tally) (waits : Bool) → PowersBank old new reply → KeepsBank old new → Stands old a → Fits t old
    → KeepsBounds (asked_most (bank_refusal old 0 PowerOn) old PowerOn) waits PowerOn reply old new a t
powers_bounds reply old new a t waits powers keeps stands fits = by_refusal (bank_refusal old 0 PowerOn) refl
  where
    by_refusal : (o : Option Reply) → bank_refusal old 0 PowerOn ≡ o → KeepsBounds (asked_most o old PowerOn) waits PowerOn reply old new a t
    by_refusal None none =
        let done = powers.done none in
        subst (λ (r : Reply). KeepsBounds 0 waits PowerOn r old new a t) (sym done.0)
        (record {
          closes = tt;
          waiting = tt;
          polls = tt;
          loses = on_loses a.power Done 0 t.armed (λ on. refl);
          reads = tt;
          opened = tt;
          armed = subst (λ (x : Option Armed). FitsArmed None new.after x) (sym done.2.armed) tt;
        })
    by_refusal (Some r) some =
        let both = powers.refused r some in
        let refuses = refused_is old 0 PowerOn r some in
        subst (λ (x : Reply). KeepsBounds (refused_most r) waits PowerOn x old new a t) (sym both.0)
        (own_refused PowerOn r old new a t waits refl refuses (λ on. refused_goes_on a 0 PowerOn r on (refuses_as_array old a 0 PowerOn stands ∙ some))
        keeps tt fits (near_same (refused_most r) old.bus.armed new.bus.armed (ap (λ (b : BankState). b.bus.armed) both.1)) (ap (λ (b : BankState). b.after) both.1) (λ goes. both.1))

-- ---- a bank that calls were made of is bounded as it was before

all_back : (P : Part → Type 0) (x y : BusState) → KeepsLanes x y → AllLanes (λ s. P s.part) y → AllLanes (λ s. P s.part) x
all_back P x y keeps all c below = subst P (keeps.each c below).part (all c (subst (λ (n : ℕ). c < n) (sym keeps.count) below))

all_forth : (P : Part → Type 0) (x y : BusState) → KeepsLanes x y → AllLanes (λ s. P s.part) x → AllLanes (λ s. P s.part) y
all_forth P x y keeps all c below =
    let there : c < lanes_of x = subst (λ (n : ℕ). c < n) keeps.count below in
    subst P (sym (keeps.each c there).part) (all c there)

closes_last : (b c : BankState) (op : Op) (reply : Reply) (most : ℕ) (o : Option SinceOpened) → KeepsBank b c → ClosesLate c op reply most o → ClosesLate b op reply most o
closes_last b c Poll Erased most (Some o) keeps late = all_back (λ p. start_left o.op p < o.asked + most) b.bus c.bus keeps.lanes late
closes_last b c Poll (Failed from to lanes) most (Some o) keeps late = all_back (λ p. start_left o.op p < o.asked + most) b.bus c.bus keeps.lanes late
closes_last b c op reply most o keeps late = tt

waits_last : (b c : BankState) (reply : Reply) (o : Option SinceOpened) → KeepsBank b c → WaitsFew c reply o → WaitsFew b reply o
waits_last b c NotYet (Some o) keeps few = λ sound slowest slow.
    few (all_forth (λ p. p.stuck ≡ false) b.bus c.bus keeps.lanes sound) slowest
    (all_forth (λ p. start_left o.op p ≤ slowest) b.bus c.bus keeps.lanes slow)
waits_last b c reply o keeps few = tt

polls_last : (b c : BankState) (op : Op) (reply : Reply) (o : Option SinceOpened) → c.found ≡ b.found → PollsToLimit c op reply o → PollsToLimit b op reply o
polls_last b c Poll NotYet (Some o) same polls = subst (λ (n : ℕ). o.polls + 1 < n) (sym (limits_last b c o.op same)) polls
polls_last b c Poll (Halted (Stuck k)) (Some o) same polls = polls ∙ sym (limits_last b c o.op same)
polls_last b c op reply o same polls = tt

limit_lasts : (b c : BankState) (under : Option OpenErase) → c.found ≡ b.found → polls_most c under ≡ polls_most b under
limit_lasts b c None same = refl
limit_lasts b c (Some e) same = ap (λ (f : Found). 12 * erase_limit f e.target) same

waited_lasts : (b c : BankState) (a : ArrayState) (waits : Bool) (op : Op) → c.found ≡ b.found → waited_most waits op c a ≡ waited_most waits op b a
waited_lasts b c a true Poll same = limit_lasts b c a.under same
waited_lasts b c a waits op same = refl

step_lasts : (b c : BankState) (a : ArrayState) (s : Step) → c.found ≡ b.found → step_most c a s ≡ step_most b a s
step_lasts b c a s same = λ i.
    asked_lasts (refusal a s.entry.caller s.entry.op) b c s.entry.op same i + waited_lasts b c a s.waits s.entry.op same i

tally_lasts : (b c : BankState) (a : ArrayState) (t : Tally) (s : Step) → c.found ≡ b.found → tally_after c a t s ≡ tally_after b a t s
tally_lasts b c a t s same = λ i. record {
  opened = opened_after (step_lasts b c a s same i) s.waits s.entry.op s.entry.reply t.opened;
  armed = armed_after (step_lasts b c a s same i) (words_last b c s.entry.op s.entry.reply same i) s.entry.op s.entry.reply t.armed;
}

is_bounded_last : (b c : BankState) (a : ArrayState) (t : Tally) (s : Step) → KeepsBank b c → IsBounded c a t s → IsBounded b a t s
is_bounded_last b c a t s keeps is = record {
  closes =
      closes_last b c s.entry.op s.entry.reply (step_most b a s) t.opened keeps
      (subst (λ (m : ℕ). ClosesLate c s.entry.op s.entry.reply m t.opened) (step_lasts b c a s keeps.found) is.closes);
  waits = waits_last b c s.entry.reply t.opened keeps is.waits;
  polls = polls_last b c s.entry.op s.entry.reply t.opened keeps.found is.polls;
  loses = subst (λ (m : ℕ). LosesLate a.power s.entry.reply m t.armed) (step_lasts b c a s keeps.found) is.loses;
  reads = subst (λ (words : ℕ). ReadsWithin words s.entry.op s.entry.reply t.armed) (words_last b c s.entry.op s.entry.reply keeps.found) is.reads;
}

pub bounded_last : (b c : BankState) (a : ArrayState) (t : Tally) (ss : List Step) → KeepsBank b c → Bounded c a t ss → Bounded b a t ss
bounded_last b c a t [] keeps is = tt
bounded_last b c a t (s ∷ ss) keeps is = (
  is_bounded_last b c a t s keeps is.0,
  bounded_last b c (after a s.entry) (tally_after b a t s) ss keeps
      (subst (λ (u : Tally). Bounded c (after a s.entry) u ss) (tally_lasts b c a t s keeps.found) is.1),
)

tally_all_lasts : (b c : BankState) (a : ArrayState) (t : Tally) (ss : List Step) → c.found ≡ b.found → tally_all c a t ss ≡ tally_all b a t ss
tally_all_lasts b c a t [] same = refl
tally_all_lasts b c a t (s ∷ ss) same =
    ap (λ (u : Tally). tally_all c (after a s.entry) u ss) (tally_lasts b c a t s same) ∙ tally_all_lasts b c (after a s.entry) (tally_after b a t s) ss same

-- ---- histories

-- one step, of a bank that may have been polled before
goes_step : (first old new : BankState) (a : ArrayState) (t : Tally) (s : Step) (most : ℕ) → KeepsBank first old → most ≡ step_most first a s
    → KeepsBounds most s.waits s.entry.op s.entry.reply old new a t → Goes (s ∷ []) first new a t
goes_step first old new a t s most keeps is so = record {
  bounded = (is_bounded_last first old a t s keeps bounded, tt);
  fits = record {
    opened = subst (λ (m : ℕ). FitsOpened (opened_after m s.waits s.entry.op s.entry.reply t.opened) new) is so.opened;
    armed = armed;
  };
}
  where
    here : most ≡ step_most old a s
    here = is ∙ sym (step_lasts first old a s keeps.found)

    bounded : IsBounded old a t s
    bounded = record {
      closes = subst (λ (m : ℕ). ClosesLate old s.entry.op s.entry.reply m t.opened) here so.closes;
      waits = so.waiting;
      polls = so.polls;
      loses = subst (λ (m : ℕ). LosesLate a.power s.entry.reply m t.armed) here so.loses;
      reads = so.reads;
    }

    armed : FitsArmed (armed_after (step_most first a s) (words_given first s.entry.op s.entry.reply) s.entry.op s.entry.reply t.armed) new.after new.bus.armed
    armed =
        subst (λ (words : ℕ). FitsArmed (armed_after (step_most first a s) words s.entry.op s.entry.reply t.armed) new.after new.bus.armed) (words_last first old s.entry.op s.entry.reply keeps.found)
        (subst (λ (m : ℕ). FitsArmed (armed_after m (words_given old s.entry.op s.entry.reply) s.entry.op s.entry.reply t.armed) new.after new.bus.armed) is so.armed)

bounded_then : (b mid : BankState) (a : ArrayState) (t : Tally) (xs ys : List Step) → KeepsBank b mid → Bounded b a t xs
    → Bounded mid (after_all a (entries_of xs)) (tally_all b a t xs) ys → Bounded b a t (xs ++ ys)
bounded_then b mid a t [] ys keeps first next = bounded_last b mid a t ys keeps next
bounded_then b mid a t (x ∷ xs) ys keeps first next = (first.0, bounded_then b mid (after a x.entry) (tally_after b a t x) xs ys keeps first.1 next)

tally_then : (b : BankState) (a : ArrayState) (t : Tally) (xs ys : List Step)
    → tally_all b a t (xs ++ ys) ≡ tally_all b (after_all a (entries_of xs)) (tally_all b a t xs) ys
tally_then b a t [] ys = refl
tally_then b a t (x ∷ xs) ys = tally_then b (after a x.entry) (tally_after b a t x) xs ys

-- steps behind others
pub goes_then : (xs ys : List Step) (old mid new : BankState) (a : ArrayState) (t : Tally) → KeepsBank old mid → Goes xs old mid a t
    → Goes ys mid new (after_all a (entries_of xs)) (tally_all old a t xs) → Goes (xs ++ ys) old new a t
goes_then xs ys old mid new a t keeps first next = record {
  bounded = bounded_then old mid a t xs ys keeps first.bounded next.bounded;
  fits =
      subst (λ (u : Tally). Fits u new)
      (tally_all_lasts old mid (after_all a (entries_of xs)) (tally_all old a t xs) ys keeps.found ∙ sym (tally_then old a t xs ys)) next.fits;
}

-- none
pub goes_none : (b : BankState) (a : ArrayState) (t : Tally) → Fits t b → Goes [] b b a t
goes_none b a t fits = record { bounded = tt; fits = fits }

-- one call
pub goes_one : (caller : ℕ) (op : Op) (old new : BankState) (reply : Reply) (given : List ℕ) (a : ArrayState) (t : Tally) (waits : Bool) → (waits ≡ true → op ≡ Poll → ⊥)
    → Makes caller op old new reply given → Stands old a → ReadsWords op reply old new → Fits t old
    → Goes (record { entry = entry_of old new caller op reply given; waits = waits } ∷ []) old new a t
goes_one caller op old new reply given a t waits polls makes stands reads fits =
    goes_step old old new a t step (asked_most (bank_refusal old caller op) old op + 0) (keeps_self old) most (by_op op makes.call reads)
  where
    step : Step
    step = record { entry = entry_of old new caller op reply given; waits = waits }

    none_waited : (w : Bool) (o : Op) → (w ≡ true → o ≡ Poll → ⊥) → waited_most w o old a ≡ 0
    none_waited true Poll not = absurd (not refl refl)
    none_waited w o not = refl

    most : asked_most (bank_refusal old caller op) old op + 0 ≡ step_most old a step
    most =
        let refused = sym (refuses_as_array old a caller op stands) in
        let none = sym (none_waited waits op polls) in
        λ i. asked_most (refused i) old op + none i

    goal : Op → Type 0
    goal o = KeepsBounds (asked_most (bank_refusal old caller o) old o + 0) waits o reply old new a t

    own : (o : Op) → caller ≡ 0 → KeepsBounds (asked_most (bank_refusal old 0 o) old o) waits o reply old new a t → goal o
    own o is bounds =
        let m = asked_most (bank_refusal old 0 o) old o in
        let more : m ≡ m + 0 = omega arith in
        subst (λ (k : ℕ). KeepsBounds (asked_most (bank_refusal old k o) old o + 0) waits o reply old new a t) (sym is)
        (subst (λ (k : ℕ). KeepsBounds k waits o reply old new a t) more bounds)

    other : (o : Op) → is_own o ≡ false → IsCallOf caller o old new reply given → ReadsWords o reply old new → goal o
    other o others call reads =
        call_bounds caller o reply old new given a t waits 0 old.after old.bus.armed others call makes.keeps stands reads fits.opened fits.armed (near_same 0 old.bus.armed old.bus.armed refl) refl

    by_op : (o : Op) → IsMadeBy caller o old new reply given → ReadsWords o reply old new → goal o
    by_op (Arm n m) call reads = own (Arm n m) call.0 (arms_bounds n m reply old new a t waits call.1 makes.keeps stands fits)
    by_op PowerOn call reads = own PowerOn call.0 (powers_bounds reply old new a t waits call.1 makes.keeps stands fits)
    by_op (Read at len) call reads = other (Read at len) refl call reads
    by_op (Program at bytes) call reads = other (Program at bytes) refl call reads
    by_op (EraseOpen b) call reads = other (EraseOpen b) refl call reads
    by_op EraseAll call reads = other EraseAll refl call reads
    by_op Poll call reads = other Poll refl call reads
    by_op (Lock b) call reads = other (Lock b) refl call reads
    by_op (Unlock b) call reads = other (Unlock b) refl call reads
    by_op (IsLocked b) call reads = other (IsLocked b) refl call reads

-- the last poll of an erase that a line waits for, behind the polls that had to wait
pub goes_waited : (caller : ℕ) (old mid new : BankState) (reply : Reply) (a : ArrayState) (t : Tally) → t.opened ≡ None → KeepsBank old mid → mid.after ≡ old.after
    → Nearer 0 (polls_most old a.under) old.bus.armed mid.bus.armed → Stands mid a → Makes caller Poll mid new reply [] → Fits t old
    → Goes (record { entry = entry_of mid new caller Poll reply []; waits = true } ∷ []) old new a t
goes_waited caller old mid new reply a t none keeps after near stands makes fits =
    goes_step old mid new a t (record { entry = entry_of mid new caller Poll reply []; waits = true }) (asked_most (bank_refusal mid caller Poll) mid Poll + polls_most old a.under) keeps most
    (call_bounds caller Poll reply mid new [] a t true (polls_most old a.under) old.after old.bus.armed refl makes.call makes.keeps stands tt
    (subst (λ (o : Option SinceOpened). FitsOpened o mid) (sym none) tt) fits.armed near after)
  where
    asked : asked_most (bank_refusal mid caller Poll) mid Poll ≡ asked_most (refusal a caller Poll) old Poll
    asked =
        ap (λ (o : Option Reply). asked_most o mid Poll) (sym (refuses_as_array mid a caller Poll stands))
        ∙ asked_lasts (refusal a caller Poll) old mid Poll keeps.found

    most : asked_most (bank_refusal mid caller Poll) mid Poll + polls_most old a.under ≡ asked_most (refusal a caller Poll) old Poll + polls_most old a.under
    most = ap (λ (n : ℕ). n + polls_most old a.under) asked
