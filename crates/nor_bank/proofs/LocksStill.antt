-- A bank whose chips stay as they are goes on to show its array.
use Rattle.std.proofs.Common.{◌≡◌, ◌≢◌, ◌<◌, ℕ, List, length, sym, ◌∙◌, ap, subst, Option, Some, None, true}
use Rattle.std.proofs.lemmas.List.{ext_get_or}
use Rattle.nor_cell.specs.Chip.{ChipState}
use Rattle.nor_cell.specs.Between.{IsQuiet, IsShown, Waits}
use Rattle.nor_bus.specs.Bus.{BusState, lane, lanes_of, chip_at, no_chip, bank_byte}
use Rattle.nor_bus.specs.Driven.{AllLanes, EachLane, Went}
use Rattle.nor_poll.specs.Toggles.{names_job}
use Rattle.nor_poll.specs.UnderErase.{LaneIs, state_at}
use Rattle.nor_poll.specs.declared.lanes.LaneState.TheVariants.{Running, Suspended}
use Rattle.nor_probe.specs.declared.probing.Found.{Found}
use Rattle.nor_array.specs.Array.{ArrayState, chip_target}
use Rattle.nor_array.specs.declared.entry.Halted.{Halted as HaltCause}
use Rattle.nor_bank.specs.Locks.{ShowsArray}
use Rattle.nor_bank.specs.Stands.{IsOn, EraseIs, PowerIs, constants_of}
use Rattle.nor_bank.specs.State.{BankState}
use Rattle.nor_bank.specs.UnderErase.{HasPollsLeft}
use Rattle.nor_bank.specs.Work.{with_bus}
use Rattle.nor_bank.specs.declared.kept.Erasing.{Erasing}
use Rattle.nor_bank.proofs.Standing.{bytes_known, cut_nearer, is_on_now, known_last, lasts_same}

-- chips that are each as they were are the same chips
pub chips_same : (old new : BusState) → lanes_of new ≡ lanes_of old → EachLane (λ s t. t ≡ s) old new → new.lanes ≡ old.lanes
chips_same old new count each =
    ext_get_or no_chip new.lanes old.lanes count (λ c below. each c (subst (λ (n : ℕ). c < n) count below))

module _ (old new : BusState) (same : new.lanes ≡ old.lanes) where
  -- what holds of the chips goes on to hold
  pub each_same : (P : ℕ → ChipState → Type 0) → ((c : ℕ) → c < lanes_of old → P c (lane old c)) → (c : ℕ) → c < lanes_of new → P c (lane new c)
  each_same P all = subst (λ (ls : List ChipState). (c : ℕ) → c < length ls → P c (chip_at ls c)) (sym same) all

  pub all_same : (P : ChipState → Type 0) → AllLanes P old → AllLanes P new
  all_same P all = each_same (λ c s. P s) all

  pub count_same : lanes_of new ≡ lanes_of old
  count_same = ap (λ (ls : List ChipState). length ls) same

  pub erase_same : (e : Option Erasing) (f : Found) → EraseIs e f old → EraseIs e f new
  erase_same None f is = all_same IsQuiet is
  erase_same (Some e) f is = record {
    there = is.there;
    each = each_same (λ c s. LaneIs (state_at e.lanes c) (chip_target e.target) s) is.each;
    not_mixed = subst (λ (n : ℕ). (c k : ℕ) → c < n → k < n → state_at e.lanes c ≡ Running → state_at e.lanes k ≡ Suspended → ⊥) (sym count_same) is.not_mixed;
    enough = all_same (HasPollsLeft f e) is.enough;
    named = all_same (λ s. names_job s.fault ≡ true) is.named;
    shown = λ none. all_same IsShown (is.shown (subst (λ (n : ℕ). (c : ℕ) → c < n → state_at e.lanes c ≢ Running) count_same none));
  }

-- The bank goes on to show its array where only cycles were counted.
pub shows_still : (b : BankState) (bus : BusState) (a : ArrayState) (least most : ℕ) → bus.lanes ≡ b.bus.lanes → Went least most b.bus bus → ShowsArray b a
    → ShowsArray (with_bus b bus) a
shows_still b bus a least most same went shows =
    let stands = shows.stands in
    let on = is_on_now b a stands shows.running in
    let count = count_same b.bus bus same in
    let now : IsOn (with_bus b bus) a = record {
      power = went.power on.power;
      waits = all_same b.bus bus same (λ s. Waits s.part.set s) on.waits;
      cut = cut_nearer least most b.after b.bus.armed bus.armed a.armed went.armed on.cut;
      erase = erase_same b.bus bus same b.erase b.found on.erase;
    } in
    let lasts = lasts_same b.bus bus same (bytes_known b.found b.bus stands.known) in
    record {
      running = shows.running;
      stands = record {
        known = known_last b.found b.bus bus count lasts stands.known;
        consts = stands.consts ∙ ap (λ (ls : List ChipState). constants_of b.found ls a.consts.locked) (sym same);
        opened = stands.opened;
        size = stands.size;
        bytes = λ p below shut. stands.bytes p below shut ∙ ap (λ (ls : List ChipState). bank_byte b.found.geometry.device ls p) (sym same);
        locks = all_same b.bus bus same (λ s. s.locks ≡ a.locks) stands.locks;
        lock_count = stands.lock_count;
        power = stands.power;
        under = stands.under;
        now = subst (λ (h : Option HaltCause). PowerIs h (with_bus b bus) a) (sym shows.running) now;
      };
      shown = all_same b.bus bus same IsShown shows.shown;
    }
