-- A look at the erase that a bank keeps open.
use Rattle.std.proofs.Common.{◌≡◌, ◌<◌, ◌≤◌, ◌+◌, ◌⊎◌, inl, inr, ℕ, List, [], ◌∷◌, length, slice_index, refl, sym, ◌∙◌, ap, subst, arith, true, false, Option, Some, None}
use Rattle.std.proofs.lemmas.List.{length-map}
use Rattle.nor_cell.specs.Bits.{unit_len}
use Rattle.nor_cell.specs.Between.{Waits}
use Rattle.nor_cell.specs.Chip.{Part, has_blocks, is_within}
use Rattle.nor_cell.specs.Wiring.{is_wiring, lane_at, place_at}
use Rattle.nor_cell.specs.declared.device.Set.{Set}
use Rattle.nor_cell.specs.declared.device.Span.{Span}
use Rattle.nor_region.specs.Map.{scaled_span}
use Rattle.nor_lane.proofs.Places.{lane_at_below}
use Rattle.nor_bus.specs.Bus.{BusState, lane, lanes_of, chip_at, bank_byte}
use Rattle.nor_bus.specs.Cycles.{KeepsLanes}
use Rattle.nor_bus.specs.Driven.{EachLane, Reaches}
use Rattle.nor_poll.specs.UnderErase.{erase_left, part_of, state_at}
use Rattle.nor_poll.specs.declared.lanes.Lanes.{Lanes}
use Rattle.nor_probe.specs.declared.probing.Found.{Found}
use Rattle.nor_array.specs.Array.{ArrayState, IsThere, chip_target}
use Rattle.nor_array.specs.declared.entry.Halted.TheVariants.{Off}
use Rattle.nor_array.specs.declared.entry.Halted.{Halted as HaltCause}
use Rattle.nor_array.specs.declared.entry.Reply.{Reply}
use Rattle.nor_array.specs.declared.entry.Reply.TheVariants.{Halted}
use Rattle.nor_array.specs.declared.state.Target.{Target}
use Rattle.nor_array.specs.declared.state.Target.TheVariants.{OneBlock, AllBlocks}
use Rattle.nor_bank.specs.Looks.{CanLook, StaysOutside, LaneLooks, LooksBy, LosesBy}
use Rattle.nor_bank.specs.Stands.{Stands, IsKnown, IsOn, EraseIs, PowerIs, is_under, under_of}
use Rattle.nor_bank.specs.State.{BankState, IsBankOf, word_bytes, size_of, blocks_of}
use Rattle.nor_bank.specs.UnderErase.{IsUnderErase}
use Rattle.nor_bank.specs.Way.{HoldsAll, Looks, LooksOver, LosesLook, erased_at, looked, halting}
use Rattle.nor_bank.specs.Work.{with_bus}
use Rattle.nor_bank.specs.declared.kept.Erasing.{Erasing}
use Rattle.nor_bank.proofs.ClosingSpans.{open_at}
use Rattle.nor_bank.proofs.Holding.{fits, stands_by, under_kept}
use Rattle.nor_bank.proofs.Known.{known_own, known_parts, known_some}
use Rattle.nor_bank.proofs.Lasting.{known_lasts, constants_last, stays_locked}
use Rattle.nor_bank.proofs.LocksBlocks.{block_reached}
use Rattle.nor_bank.proofs.LocksLosing.{kept_halt}
use Rattle.nor_bank.proofs.LookingLanes.{looks_at}
use Rattle.nor_bank.proofs.Served.{wide_is}
use Rattle.nor_bank.proofs.Standing.{is_on_now, bytes_known, cut_nearer}

-- ---- chips that have changed in what is under erase alone

pub holds_open : (b new : BankState) (a : ArrayState) (e : Erasing) → Stands b a → b.erase ≡ Some e → new.found ≡ b.found → KeepsLanes b.bus new.bus
    → EachLane (StaysOutside (chip_target e.target)) b.bus new.bus → HoldsAll new a
holds_open b new a e stands opened found kept each =
    let f = b.found in
    let count = kept.count in
    let own = known_own f b.bus stands.known in
    let small = bytes_known f b.bus stands.known in
    let there = λ (c : ℕ) (below : c < lanes_of new.bus). subst (λ (n : ℕ). c < n) count below in
    let stays = λ (c : ℕ) (below : c < lanes_of b.bus).
    let it = (each c below).remains in
    stays_locked (lane b.bus c) (lane new.bus c) it.part it.locks it.size ((kept.each c below).bytes (small c below)) in
    let known : IsKnown f new.bus = known_lasts f b.bus new.bus count stays stands.known in
    let consts = stands.consts ∙ sym (constants_last f b.bus new.bus a.consts.locked count (λ c below. (each c below).remains.part)) in
    let byte : (p : ℕ) → p < size_of f → is_under a.under a.consts p ≡ false → slice_index a.bytes p ≡ bank_byte f.geometry.device new.bus.lanes p = λ p below outside.
    let d = unit_len f.geometry.device in
    let some = known_some f b.bus stands.known in
    let c = lane_at (lanes_of b.bus) d p in
    let mine : c < lanes_of b.bus = lane_at_below (lanes_of b.bus) d p some in
    let part = known_parts f b.bus stands.known c mine in
    let out : is_within (part_of (chip_target e.target) (lane b.bus c)) (place_at (lanes_of b.bus) d p) ≡ false =
    ap (λ (n : ℕ). is_within (part_of (chip_target e.target) (lane b.bus c)) (place_at n d p)) own.count
    ∙ (sym (open_at f (lane b.bus c) e.target part p (subst (λ (n : ℕ). 0 < n) own.count some)) ∙ (sym (under_kept b a stands e opened p) ∙ outside)) in
    stands.bytes p below outside
    ∙ sym (ap (λ (n : ℕ). slice_index (chip_at new.bus.lanes (lane_at n d p)).cells (place_at n d p)) count ∙ (each c mine).outside (place_at (lanes_of b.bus) d p) out) in
    subst (λ (x : Found). HoldsAll (record new { found = x }) a) (sym found) (record {
      known = known;
      consts = consts;
      bytes = λ p below outside spared. byte p below outside;
      locks = λ c below. (each c (there c below)).remains.locks ∙ stands.locks c (there c below);
    })

-- ---- what every bank keeps of it

pub kept_there : (width : ℕ) (b : BankState) (e : Erasing) → IsBankOf width b.bus b.found b.halted b.erase → b.erase ≡ Some e → IsThere e.target (blocks_of b.found)
kept_there width b e is opened = (is.kept e opened).there

-- ---- the bus word at which it begins

some_blocks : (bs : List Span) → has_blocks bs ≡ true → 0 < length bs
some_blocks [] some = absurd (cc)
some_blocks (span ∷ bs) some = omega arith

pub erased_reached : (f : Found) (bus : BusState) (target : Target) → IsKnown f bus → IsThere target (blocks_of f)
    → Reaches (word_bytes f) f.geometry (erased_at (word_bytes f) f target) bus
erased_reached f bus (OneBlock k) known there = block_reached f bus known k there
erased_reached f bus AllBlocks known there =
    let part = known_parts f bus known 0 (known_some f bus known) in
    let count : length (lane bus 0).part.blocks ≡ length (blocks_of f) =
    sym (length-map (lane bus 0).part.blocks (scaled_span f.geometry.lanes)) ∙ ap (λ (bs : List Span). length bs) part.blocks in
    let some = some_blocks (lane bus 0).part.blocks part.some in
    let first = block_reached f bus known 0 (omega (arith, count, some)) in
    let less = first.there in
    record { own = first.own; there = omega (arith, less) }

module _ (width : ℕ) (b : BankState) (e : Erasing) (wiring : is_wiring width b.found.geometry.lanes b.found.geometry.device ≡ true)
    (there : IsThere e.target (blocks_of b.found)) (running : b.halted ≡ None) (opened : b.erase ≡ Some e) where
  pub under_now : (a : ArrayState) → Stands b a → IsUnderErase b.found e b.bus
  under_now a stands = subst (λ (o : Option Erasing). EraseIs o b.found b.bus) opened (is_on_now b a stands running).erase

  pub reached_now : (a : ArrayState) → Stands b a → Reaches width b.found.geometry (erased_at width b.found e.target) b.bus
  reached_now a stands =
      subst (λ (w : ℕ). Reaches w b.found.geometry (erased_at w b.found e.target) b.bus) (wide_is width b.found wiring)
      (erased_reached b.found b.bus e.target stands.known there)

  pub can_now : (a : ArrayState) → Stands b a → CanLook b.found.query.set (chip_target e.target) e.lanes b.bus
  can_now a stands =
      let under = under_now a stands in
      let parts = known_parts b.found b.bus stands.known in
      record {
        waits = λ c below. subst (λ (k : Set). Waits k (lane b.bus c)) (parts c below).set ((is_on_now b a stands running).waits c below);
        named = under.named;
        blocks = λ c below. (parts c below).some;
        each = under.each;
        not_mixed = under.not_mixed;
        shown = under.shown;
      }

  module _ (bus : BusState) where
    fewer_polls : (limit polls left now : ℕ) → (0 < left → left + polls + 16 ≤ limit) → (now ≡ 0) ⊎ (now < left) → 0 < now → now + (polls + 1) + 16 ≤ limit
    fewer_polls limit polls left now enough (inl none) some = absurd (omega (arith, none, some))
    fewer_polls limit polls left now enough (inr less) some = let room = enough (omega (arith, less)) in omega (arith, room, less)

    module _ (now : Lanes)
        (it : LooksBy (λ target. CanLook b.found.query.set target e.lanes b.bus) 5 b.found.query.set width b.found.geometry (erased_at width b.found e.target) e.lanes b.bus bus now)
        (a : ArrayState) (stands : Stands b a) where
      looks : (c : ℕ) → c < lanes_of b.bus → LaneLooks b.found.query.set (chip_target e.target) (state_at e.lanes c) (state_at now c) it.cycles (lane b.bus c) (lane bus c)
      looks c below = it.each (reached_now a stands) (chip_target e.target) (can_now a stands) c below

      before : (c : ℕ) → c < lanes_of bus → c < lanes_of b.bus
      before c below = subst (λ (n : ℕ). c < n) it.went.kept.count below

      under_after : IsUnderErase b.found (record e { polls = e.polls + 1; lanes = now }) bus
      under_after = record {
        there = there;
        each = λ c below. (looks c (before c below)).takes.is;
        not_mixed = λ c k below other runs held. absurd ((looks k (before k other)).takes.awake held);
        enough = λ c below sound.
            let one = looks c (before c below) in
            let same : (lane b.bus c).part.stuck ≡ false = ap (λ (p : Part). p.stuck) (sym one.stays.remains.part) ∙ sound in
            fewer_polls _ e.polls (erase_left (lane b.bus c)) (erase_left (lane bus c)) ((under_now a stands).enough c (before c below) same) (one.nears same);
        named = λ c below. (looks c (before c below)).takes.names;
        shown = λ none.
            it.shown (reached_now a stands) (chip_target e.target) (can_now a stands)
            (λ c below. none c (subst (λ (n : ℕ). c < n) (sym it.went.kept.count) below));
      }

      on_after : IsOn (looked e now (with_bus b bus)) a
      on_after =
          let on = is_on_now b a stands running in
          record {
            power = it.went.power on.power;
            waits = λ c below.
                let waits = (looks c (before c below)).takes.waits in
                subst (λ (k : Set). Waits k (lane bus c)) (sym waits.set) waits;
            cut = cut_nearer it.cycles it.cycles b.after b.bus.armed bus.armed a.armed it.went.armed on.cut;
            erase = under_after;
          }

      looks_over : LooksOver e it.cycles b (with_bus b bus) a now
      looks_over = record {
        stands =
            let fit = fits b a stands in
            stands_by (looked e now (with_bus b bus)) a
            (record { opened = fit.opened; size = fit.size; lock_count = fit.lock_count; power = fit.power; under = fit.under ∙ ap under_of opened })
            (holds_open b (looked e now (with_bus b bus)) a e stands opened refl it.went.kept (λ c below. (looks c below).stays))
            (subst (λ h. PowerIs h (looked e now (with_bus b bus)) a) (sym running) on_after);
        each = λ c below. looks_at b.found.query.set (chip_target e.target) (state_at e.lanes c) (state_at now c) it.cycles (lane b.bus c) (lane bus c) (looks c below);
        awake = λ c below. (looks c below).takes.awake;
        works = λ c below. (looks c below).works;
        ends = λ c below. (looks c below).ends;
      }

    -- It is open still, and the bank stands for its array.
    pub look_over : (now : Lanes)
        → LooksBy (λ target. CanLook b.found.query.set target e.lanes b.bus) 5 b.found.query.set width b.found.geometry (erased_at width b.found e.target) e.lanes b.bus bus now
        → Looks e b (with_bus b bus) now
    look_over now it = record {
      cycles = it.cycles;
      few = it.few;
      went = it.went;
      kept = refl;
      stands = looks_over now it;
    }

    -- Power went, and the halt is kept.
    pub look_lost : LosesBy (λ target. CanLook b.found.query.set target e.lanes b.bus) 5 width b.found.geometry (erased_at width b.found e.target) b.bus bus
        → LosesLook b (halting (with_bus b bus) (Off b.after)) (Halted (Off b.after))
    look_lost it = record {
      answer = refl;
      kept = refl;
      lost = it.lost;
      breaks = λ a stands.
          let each = λ (c : ℕ) (below : c < lanes_of b.bus). it.each (reached_now a stands) (chip_target e.target) (can_now a stands) c below in
          record {
            holds = holds_open b (halting (with_bus b bus) (Off b.after)) a e stands opened refl it.lost.kept (λ c below. (each c below).stays);
            remains = λ c below. (each c below).stays.remains;
            suspends = λ c below. (each c below).suspends;
          };
    }

-- ---- the same, of a bank and the parts that its call took

module _ (width : ℕ) (x now : BankState) (e : Erasing) (at : ℕ) (bus : BusState) (view : x ≡ now) (bank : IsBankOf width x.bus x.found x.halted x.erase)
    (running : now.halted ≡ None) (opened : now.erase ≡ Some e) (unit : at ≡ erased_at width now.found e.target) where
  pub look_kept : (lanes : Lanes) → LooksBy (λ target. CanLook x.found.query.set target e.lanes x.bus) 5 x.found.query.set width x.found.geometry at e.lanes x.bus bus lanes
      → Looks e now (with_bus x bus) lanes
  look_kept lanes looks =
      let P : BankState → Type 0 = λ y. IsBankOf width y.bus y.found y.halted y.erase
      → LooksBy (λ target. CanLook y.found.query.set target e.lanes y.bus) 5 y.found.query.set width y.found.geometry at e.lanes y.bus bus lanes
      → Looks e now (with_bus y bus) lanes in
      subst P (sym view) (λ is it.
      look_over width now e is.wiring (kept_there width now e is opened) running opened bus lanes
      (subst (λ (u : ℕ). LooksBy (λ target. CanLook now.found.query.set target e.lanes now.bus) 5 now.found.query.set width now.found.geometry u e.lanes now.bus bus lanes) unit it)) bank looks

  pub look_halted : (halted : Option HaltCause) (erase : Option Erasing) (reply : Reply) → halted ≡ Some (Off x.after) → erase ≡ None → reply ≡ Halted (Off x.after)
      → LosesBy (λ target. CanLook x.found.query.set target e.lanes x.bus) 5 width x.found.geometry at x.bus bus
      → LosesLook now (record x { bus = bus; halted = halted; erase = erase }) reply
  look_halted halted erase reply kept closed answer loses =
      let P : BankState → Type 0 = λ y. IsBankOf width y.bus y.found y.halted y.erase
      → LosesBy (λ target. CanLook y.found.query.set target e.lanes y.bus) 5 width y.found.geometry at y.bus bus
      → LosesLook now (halting (with_bus y bus) (Off y.after)) (Halted (Off y.after)) in
      kept_halt (λ (b : BankState) (r : Reply). LosesLook now b r) x bus (Off x.after) halted erase reply kept closed answer
      (subst P (sym view) (λ is it.
      look_lost width now e is.wiring (kept_there width now e is opened) running opened bus
      (subst (λ (u : ℕ). LosesBy (λ target. CanLook now.found.query.set target e.lanes now.bus) 5 width now.found.geometry u now.bus bus) unit it)) bank loses)
