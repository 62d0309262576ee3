-- Each way out of a poll of the caller's own erase.
use Rattle.std.proofs.Common.{◌≡◌, ◌≢◌, ◌<◌, ◌≤◌, ◌+◌, ◌-◌, inl, inr, ℕ, [], length, replicate, slice_index, refl, sym, ◌∙◌, ap, subst, arith, Bool, true, false, Option, Some, None}
use Rattle.std.specs.Prelude.{◌==◌, not, if◌then◌else◌}
use Rattle.std.specs.Option.{option_or, option_map}
use Rattle.std.proofs.lemmas.Bool.{eqb-false, le-leb, lt-ltb, and_from}
use Rattle.std.proofs.lemmas.List.{length-replicate, get_or-replicate}
use Rattle.nor_cell.specs.Chip.{ChipState, is_within, span_end}
use Rattle.nor_cell.specs.declared.device.Span.{Span}
use Rattle.nor_cell.proofs.Logic.{not_passed, same_self, same_number}
use Rattle.nor_bus.specs.Bus.{BusState, lane, lanes_of}
use Rattle.nor_poll.specs.UnderErase.{state_at}
use Rattle.nor_poll.specs.declared.lanes.LaneState.TheVariants.{Running}
use Rattle.nor_poll.specs.declared.lanes.Lanes.{Lanes}
use Rattle.nor_array.specs.Array.{ArrayState, meets, open_span}
use Rattle.nor_array.specs.After.{after}
use Rattle.nor_array.specs.Admits.{AsksChips}
use Rattle.nor_array.specs.Legal.{AreLanes, OthersAre, ReplyAgrees}
use Rattle.nor_array.specs.Refusals.{owns, when}
use Rattle.nor_array.specs.declared.entry.Halted.{Halted as HaltCause}
use Rattle.nor_array.specs.declared.entry.Halted.TheVariants.{Off, Stuck}
use Rattle.nor_array.specs.declared.entry.Op.TheVariants.{Poll}
use Rattle.nor_array.specs.declared.entry.Reply.{Reply}
use Rattle.nor_array.specs.declared.entry.Reply.TheVariants.{Done, Opened, Erased, Bit, OutOfRange, TooLong, Busy, Occupied, Locked, NoLocks, NoChipErase, Nothing, NotYet, Failed, Halted}
use Rattle.nor_bank.specs.Calls.{facts_of, entry_bytes, entry_of}
use Rattle.nor_bank.specs.Counts.{Ends, EndsErase, GoesOn, KeepsErase, CountsSuspend, erases_after}
use Rattle.nor_bank.specs.Erases.{AreTorn, EndsWith, erased_span}
use Rattle.nor_bank.specs.Looks.{WorksOn}
use Rattle.nor_bank.specs.Refused.{Works}
use Rattle.nor_bank.specs.Stands.{Stands, EraseIs, under_of}
use Rattle.nor_bank.specs.State.{BankState, byte_of, bytes_of, erase_limit}
use Rattle.nor_bank.specs.UnderErase.{IsUnderErase}
use Rattle.nor_bank.specs.Way.{Looks, LosesLook, looked, halting}
use Rattle.nor_bank.specs.Whole.{IsCallOf, IsErasedPart, MayAnswer, leaves_quiet}
use Rattle.nor_bank.specs.Work.{with_bus, kept_after}
use Rattle.nor_bank.specs.declared.kept.Erasing.{Erasing}
use Rattle.nor_bank.proofs.BankBytes.{length-bank_bytes, bank_bytes-at}
use Rattle.nor_bank.proofs.ClosingStands.{HasEndedIn, span_is, none_breaks, whole_at, some_breaks, named, others, stands_closed}
use Rattle.nor_bank.proofs.Ending.{worked_call, HaltsFirst, first_lost, first_stuck, falls_in}
use Rattle.nor_bank.proofs.Holding.{bytes_small}
use Rattle.nor_bank.proofs.Known.{known_own}
use Rattle.nor_bank.proofs.RefusalOrder.{poll_refusal}
use Rattle.nor_bank.proofs.Standing.{is_on_now}

some_same : {A : Type 0} (x y : A) → Some x ≡ Some y → y ≡ x
some_same x y same = cc

quiets_none : (reply : Reply) → leaves_quiet Poll reply ≡ true → ⊥
quiets_none Done quiet = cc
quiets_none Opened quiet = cc
quiets_none Erased quiet = cc
quiets_none (Bit locked) quiet = cc
quiets_none OutOfRange quiet = cc
quiets_none TooLong quiet = cc
quiets_none (Busy k) quiet = cc
quiets_none (Occupied k) quiet = cc
quiets_none (Locked k) quiet = cc
quiets_none NoLocks quiet = cc
quiets_none NoChipErase quiet = cc
quiets_none Nothing quiet = cc
quiets_none NotYet quiet = cc
quiets_none (Failed from to lanes) quiet = cc
quiets_none (Halted cause) quiet = cc

-- ---- a poll that nothing refuses

owned : (e : Erasing) (erase : Option Erasing) → erase ≡ Some e → owns (under_of erase) e.caller ≡ true
owned e erase is = ap (λ (x : Option Erasing). owns (under_of x) e.caller) is ∙ same_self e.caller

pub not_owned : (b : BankState) (caller : ℕ) → b.erase ≡ None → owns (under_of b.erase) caller ≡ false
not_owned b caller none = ap (λ (x : Option Erasing). owns (under_of x) caller) none

pub other_owned : (b : BankState) (caller : ℕ) (e : Erasing) → b.erase ≡ Some e → (e.caller ≡ caller → ⊥) → owns (under_of b.erase) caller ≡ false
other_owned b caller e is apart =
    ap (λ (x : Option Erasing). owns (under_of x) caller) is ∙ not_passed (e.caller == caller) (λ same. apart (same_number e.caller caller same))

-- the caller's own erase is open, and no halt is kept
pub record IsOwnPoll (e : Erasing) (old : BankState) : Type 0 where
  pub running : old.halted ≡ None
  pub is : old.erase ≡ Some e

works_poll : (e : Erasing) (old : BankState) → IsOwnPoll e old → Works e.caller Poll old
works_poll e old own = record {
  unrefused =
      poll_refusal old e.caller
      ∙ (ap (λ (h : Option HaltCause). option_or (option_map Halted h) (when (not (owns (under_of old.erase) e.caller)) Nothing)) own.running
      ∙ ap (λ (b : Bool). when (not b) Nothing) (owned e old.erase own.is));
  busy = refl;
}

-- ---- a loss of power

pub lost_poll : (e : Erasing) (old new : BankState) (reply : Reply) → IsOwnPoll e old → LosesLook old new reply → IsCallOf e.caller Poll old new reply []
lost_poll e old new reply own loses =
    subst (λ (r : Reply). IsCallOf e.caller Poll old new r []) (sym loses.answer)
    (first_lost 5 e.caller Poll old (with_bus old new.bus) new [] (works_poll e old own) own.running refl refl loses.kept loses.lost (omega arith) (λ a stands.
    let breaks = loses.breaks a stands in
    record {
      holds = breaks.holds;
      leaves = refl;
      erases = λ c below. (breaks.remains c below).erases;
      suspends = λ c below. inl (breaks.suspends c below);
    }))

-- ---- a look that came to its end

-- a reply of a poll that ends the erase
record IsEnd (reply : Reply) : Type 0 where
  erases : (n : ℕ) → erases_after reply n ≡ n
  suspends : (s t : ChipState) → t.suspends ≡ s.suspends → CountsSuspend reply false s t
  halted : (h : Option HaltCause) → kept_after h reply ≡ h
  erase : (caller : ℕ) (x : Option Erasing) → KeepsErase caller Poll reply x None
  waits : reply ≡ NotYet → ⊥
  opens : reply ≡ Opened → ⊥
  ends : (n : ℕ) (old : BankState) → Ends n old.erase old.bus → EndsErase Poll reply n old
  halts : (cause : HaltCause) → reply ≡ Halted cause → ⊥

erased_end : IsEnd Erased
erased_end = record {
  erases = λ n. refl;
  suspends = λ s t same. same;
  halted = λ h. refl;
  erase = λ caller x. refl;
  waits = λ is. cc;
  opens = λ is. cc;
  ends = λ n old ends. ends;
  halts = λ cause is. cc;
}

failed_end : (from to lanes : ℕ) → IsEnd (Failed from to lanes)
failed_end from to lanes = record {
  erases = λ n. refl;
  suspends = λ s t same. same;
  halted = λ h. refl;
  erase = λ caller x. refl;
  waits = λ is. cc;
  opens = λ is. cc;
  ends = λ n old ends. ends;
  halts = λ cause is. cc;
}

module _ (e : Erasing) (old : BankState) (bus : BusState) (now : Lanes) (own : IsOwnPoll e old) (looks : Looks e old (with_bus old bus) now) where
  few : looks.cycles ≤ 12
  few = let most = looks.few in omega (arith, most)

  lanes_are : (a : ArrayState) → Stands old a → lanes_of old.bus ≡ old.found.geometry.lanes
  lanes_are a stands = (known_own old.found old.bus stands.known).count

  -- ---- all lanes have ended

  module _ (none : (c : ℕ) → c < old.found.geometry.lanes → state_at now c ≢ Running) where
    ended : (a : ArrayState) → Stands old a → HasEndedIn (looked e now (with_bus old bus)) a (record e { polls = e.polls + 1; lanes = now })
    ended a stands =
        let over = looks.stands a stands in
        record {
          stands = over.stands;
          running = own.running;
          is = refl;
          stopped = λ c below.
              let mine : c < lanes_of old.bus = subst (λ (n : ℕ). c < n) looks.went.kept.count below in
              record { runs = none c (subst (λ (n : ℕ). c < n) (lanes_are a stands) mine); held = over.awake c mine };
        }

    closed_call : (reply : Reply) → IsEnd reply → MayAnswer Poll old reply
        → ((a : ArrayState) → Stands old a → AsksChips reply Poll a (entry_bytes reply Poll [] old (record old { bus = bus; erase = None })))
        → ((a : ArrayState) → Stands old a → ReplyAgrees reply (facts_of old) a Poll (entry_bytes reply Poll [] old (record old { bus = bus; erase = None })))
        → ((a : ArrayState) → Stands old a → Stands (record old { bus = bus; erase = None }) (after a (entry_of old (record old { bus = bus; erase = None }) e.caller Poll reply [])))
        → IsCallOf e.caller Poll old (record old { bus = bus; erase = None }) reply []
    closed_call reply end answers asks agrees stands_now =
        worked_call e.caller Poll old (record old { bus = bus; erase = None }) reply [] (record {
          works = works_poll e old own;
          running = own.running;
          answers = answers;
          makes = λ a stands.
              let over = looks.stands a stands in
              record {
                asks = asks a stands;
                agrees = agrees a stands;
                stands = stands_now a stands;
                counts = λ c below. record {
                  erases = (over.each c below).remains.erases ∙ sym (end.erases (lane old.bus c).erases);
                  suspends = end.suspends (lane old.bus c) (lane bus c) (over.each c below).suspends;
                };
                waits = λ is. absurd (end.waits is);
                rests = λ quiet. absurd (quiets_none reply quiet);
              };
          leaves = record {
            found = refl;
            after = refl;
            halted = sym (end.halted old.halted);
            lanes = looks.went.kept;
            erase = end.erase e.caller old.erase;
            limit = λ is. absurd (end.waits is);
          };
          spends = record {
            cycles = looks.cycles;
            few = few;
            asked = inl looks.went;
            left = λ a stands c below.
                falls_in looks.cycles Poll reply (lane old.bus c) (lane bus c) end.opens ((looks.stands a stands).each c below).left;
            ends = λ a stands.
                let over = looks.stands a stands in
                end.ends looks.cycles old (subst (λ (x : Option Erasing). Ends looks.cycles x old.bus) (sym own.is) (λ c below awaited.
                over.ends c below awaited (none c (subst (λ (n : ℕ). c < n) (lanes_are a stands) below))));
          };
          off = λ n is. absurd (end.halts (Off n) is);
          after = λ n is. absurd (end.halts (Off n) is);
          stuck = λ k is. absurd (end.halts (Stuck k) is);
        })

    erased_call : (bits : ℕ) → AreTorn old.found.geometry.lanes now bits → bits ≡ 0 → IsCallOf e.caller Poll old (record old { bus = bus; erase = None }) Erased []
    erased_call bits torn zero =
        closed_call Erased erased_end tt
        (λ a stands. (none_breaks (looked e now (with_bus old bus)) a (record e { polls = e.polls + 1; lanes = now }) (ended a stands) bits torn zero, refl))
        (λ a stands. tt)
        (λ a stands.
        let b = looked e now (with_bus old bus) in
        let e_now : Erasing = record e { polls = e.polls + 1; lanes = now } in
        let span = erased_span old.found e.target in
        let is = span_is b a e_now (ended a stands) in
        let xs = replicate (open_span a).len 0xFF in
        let len : (open_span a).len ≡ span.len = ap (λ (s : Span). s.len) is in
        stands_closed b a e_now (ended a stands) xs (length-replicate (open_span a).len 0xFF ∙ len) (λ k less.
        let p : ℕ = span.from + k in
        let inside : is_within span p ≡ true = and_from _ _ (le-leb span.from p (omega arith)) (lt-ltb p (span_end span) (omega (arith, less))) in
        get_or-replicate (open_span a).len k 0xFF 0 (omega (arith, less, len)) ∙ sym (whole_at b a e_now (ended a stands) bits torn zero p inside)))

    failed_call : (bits : ℕ) → AreTorn old.found.geometry.lanes now bits → bits ≢ 0
        → IsCallOf e.caller Poll old (record old { bus = bus; erase = None }) (Failed (erased_span old.found e.target).from (span_end (erased_span old.found e.target)) bits) []
    failed_call bits torn some =
        closed_call (Failed (erased_span old.found e.target).from (span_end (erased_span old.found e.target)) bits) (failed_end _ _ bits)
        (subst (λ (x : Option Erasing). IsErasedPart x old.found span.from (span_end span)) (sym own.is) (refl, refl), (some, torn.few))
        (λ a stands. (
          some_breaks (b) a e_now (ended a stands) bits torn some,
          record {
            begins = ap (λ (s : Span). s.from) (sym (is a stands));
            ends = ap span_end (sym (is a stands));
            left = record {
              size = count ∙ ap (λ (s : Span). s.len) (sym (is a stands));
              values = bytes_small (record old { bus = bus; erase = None }) (looks.stands a stands).stands.known span.from (span_end span - span.from);
            };
          },
        ))
        (λ a stands. record {
          named = subst (λ (n : ℕ). AreLanes (facts_of old) (meets span.from n) a.consts.weak bits) (sym len) (named b a e_now (ended a stands) bits torn (facts_of old) refl);
          others = subst (λ (n : ℕ). OthersAre (facts_of old) bits span.from (λ p. 0xFF) (bytes_of b span.from n)) (sym len) (others b a e_now (ended a stands) bits torn (facts_of old) refl);
        })
        (λ a stands.
        stands_closed b a e_now (ended a stands) (bytes_of b span.from (span_end span - span.from)) count (λ k less.
        subst (λ (n : ℕ). slice_index (bytes_of b span.from n) k ≡ byte_of b (span.from + k)) (sym len) (bank_bytes-at old.found.geometry.device bus.lanes span.from span.len k less)))
      where
        b : BankState
        b = looked e now (with_bus old bus)

        e_now : Erasing
        e_now = record e { polls = e.polls + 1; lanes = now }

        span : Span
        span = erased_span old.found e.target

        len : span_end span - span.from ≡ span.len
        len = omega arith

        count : length (bytes_of b span.from (span_end span - span.from)) ≡ span.len
        count = length-bank_bytes old.found.geometry.device bus.lanes span.from (span_end span - span.from) ∙ len

        is : (a : ArrayState) → Stands old a → open_span a ≡ span
        is a stands = span_is b a e_now (ended a stands)

    -- The reply of the end, by which lanes broke off.
    pub ended_call : (new : BankState) (reply : Reply) → new ≡ record old { bus = bus; erase = None } → EndsWith old.found e.target now reply
        → IsCallOf e.caller Poll old new reply []
    ended_call new reply kept ends =
        subst (λ (x : BankState). IsCallOf e.caller Poll old x reply []) (sym kept)
        (subst (λ (r : Reply). IsCallOf e.caller Poll old (record old { bus = bus; erase = None }) r []) (sym ends.reply_is) (by_bits (ends.bits == 0) refl))
      where
        by_bits : (zero : Bool) → (ends.bits == 0) ≡ zero
            → IsCallOf e.caller Poll old (record old { bus = bus; erase = None })
            (if zero then Erased else Failed (erased_span old.found e.target).from (span_end (erased_span old.found e.target)) ends.bits) []
        by_bits true is = erased_call ends.bits ends.torn (same_number ends.bits 0 is)
        by_bits false is = failed_call ends.bits ends.torn (eqb-false ends.bits 0 is)

  -- ---- a lane runs on

  module _ (k : ℕ) (low : k < old.found.geometry.lanes) (runs : state_at now k ≡ Running) where
    works_on : (a : ArrayState) → Stands old a → WorksOn (lane old.bus k)
    works_on a stands = (looks.stands a stands).works k (subst (λ (n : ℕ). k < n) (sym (lanes_are a stands)) low) runs

    -- The caller polls again.
    pub waiting_call : e.polls + 1 < erase_limit old.found e.target → IsCallOf e.caller Poll old (looked e now (with_bus old bus)) NotYet []
    waiting_call below =
        worked_call e.caller Poll old (looked e now (with_bus old bus)) NotYet [] (record {
          works = works_poll e old own;
          running = own.running;
          answers = refl;
          makes = λ a stands.
              let over = looks.stands a stands in
              record {
                asks = (refl, refl);
                agrees = tt;
                stands = over.stands;
                counts = λ c less. record { erases = (over.each c less).remains.erases; suspends = (over.each c less).suspends };
                waits = λ is. record {
                  works = record { number = k; there = subst (λ (n : ℕ). k < n) (sym (lanes_are a stands)) low; works = works_on a stands };
                  nears = λ c less. (over.each c less).nears;
                };
                rests = λ quiet. absurd (cc);
              };
          leaves = record {
            found = refl;
            after = refl;
            halted = refl;
            lanes = looks.went.kept;
            erase = subst (λ (x : Option Erasing). GoesOn 1 x (Some (record e { polls = e.polls + 1; lanes = now }))) (sym own.is) (refl, refl, refl);
            limit = λ is x same.
                let here : x ≡ record e { polls = e.polls + 1; lanes = now } = some_same (record e { polls = e.polls + 1; lanes = now }) x same in
                subst (λ (y : Erasing). y.polls < erase_limit old.found y.target) (sym here) below;
          };
          spends = record {
            cycles = looks.cycles;
            few = few;
            asked = inl looks.went;
            left = λ a stands c less. ((looks.stands a stands).each c less).left;
            ends = λ a stands. tt;
          };
          off = λ n is. absurd (let both : NotYet ≡ Halted (Off n) = is in cc);
          after = λ n is. absurd (let both : NotYet ≡ Halted (Off n) = is in cc);
          stuck = λ n is. absurd (let both : NotYet ≡ Halted (Stuck n) = is in cc);
        })

    stuck_by : (stuck : Bool) → (lane old.bus k).part.stuck ≡ stuck → (a : ArrayState) → Stands old a → e.polls + 1 ≡ erase_limit old.found e.target
        → WorksOn (lane old.bus k) → stuck ≡ true
    stuck_by true is a stands last works = refl
    stuck_by false is a stands last (inr stuck) = absurd (let both : true ≡ false = sym stuck ∙ is in cc)
    stuck_by false is a stands last (inl some) =
        let on = is_on_now old a stands own.running in
        let under : IsUnderErase old.found e old.bus = subst (λ (x : Option Erasing). EraseIs x old.found old.bus) own.is on.erase in
        let most = under.enough k (subst (λ (n : ℕ). k < n) (sym (lanes_are a stands)) low) is some in
        absurd (omega (arith, most, last))

    -- At the last poll it is stuck.
    pub stuck_poll : (new : BankState) → new ≡ halting (with_bus old bus) (Stuck k) → e.polls + 1 ≡ erase_limit old.found e.target
        → IsCallOf e.caller Poll old new (Halted (Stuck k)) []
    stuck_poll new halts last =
        first_stuck 0 12 k e.caller Poll old (with_bus old bus) new [] (works_poll e old own) own.running refl refl halts
        (record { cycles = looks.cycles; enough = omega arith; few = few; went = looks.went }) (omega arith) low
        (λ x is. let here : x ≡ e = some_same e x (sym own.is ∙ is) in subst (λ (y : Erasing). y.polls + 1 ≡ erase_limit old.found y.target) (sym here) last)
        refl (λ a stands.
        let over = looks.stands a stands in (
          subst (λ (b : BankState). HaltsFirst Poll (Stuck k) old b a) (sym halts) (record {
            holds = record {
              known = over.stands.known;
              consts = over.stands.consts;
              bytes = λ p below outside spared. over.stands.bytes p below outside;
              locks = over.stands.locks;
            };
            leaves = refl;
            erases = λ c less. (over.each c less).remains.erases;
            suspends = λ c less. inl (over.each c less).suspends;
          }),
          stuck_by (lane old.bus k).part.stuck refl a stands last (works_on a stands),
          tt,
        ))
