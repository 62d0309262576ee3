-- A bank that lost power, with power back.
use Rattle.std.proofs.Common.{◌≡◌, ◌<◌, ◌+◌, ℕ, List, length, slice_index, refl, sym, ◌∙◌, ap, subst, arith, Bool, true, false, Option, Some, None}
use Rattle.std.specs.Prelude.{replicate, if◌then◌else◌}
use Rattle.std.proofs.lemmas.List.{ext_get_or}
use Rattle.nor_cell.specs.Bits.{unit_len}
use Rattle.nor_cell.specs.Between.{IsShown, IsQuiet, IsIdle}
use Rattle.nor_cell.specs.Chip.{ChipState}
use Rattle.nor_cell.specs.Power.{powered, locks_after}
use Rattle.nor_cell.specs.Table.{has_locks}
use Rattle.nor_cell.specs.Wiring.{lane_at, place_at}
use Rattle.nor_cell.specs.declared.device.Set.{Set}
use Rattle.nor_cell.specs.declared.device.Set.TheVariants.{Intel, Amd}
use Rattle.nor_cell.proofs.Between.{shown_takes}
use Rattle.nor_lane.proofs.Places.{lane_at_below}
use Rattle.nor_query.specs.Derived.{keeps_locks, locks_of}
use Rattle.nor_bus.specs.declared.bus.Armed.{Armed}
use Rattle.nor_bus.specs.Bus.{BusState, lane, lanes_of, chip_at, bank_byte}
use Rattle.nor_bus.specs.Cycles.{PowersOn, KeepsLanes}
use Rattle.nor_bus.specs.Driven.{AllLanes, EachLane}
use Rattle.nor_probe.specs.declared.probing.Found.{Found}
use Rattle.nor_array.specs.Array.{ArrayState, Constants, powered_locks}
use Rattle.nor_array.specs.declared.entry.Halted.{Halted as HaltCause}
use Rattle.nor_array.specs.declared.entry.Halted.TheVariants.{Off}
use Rattle.nor_array.specs.declared.state.Power.TheVariants.{On}
use Rattle.nor_bank.specs.Laws.{CanStartAnew}
use Rattle.nor_bank.specs.Stands.{IsKnown, Stands, EraseIs, CutIs, PowerIs, under_of}
use Rattle.nor_bank.specs.State.{BankState, size_of, blocks_of, bytes_of}
use Rattle.nor_bank.specs.Work.{with_bus}
use Rattle.nor_bank.specs.declared.kept.Erasing.{Erasing}
use Rattle.nor_bank.proofs.BankBytes.{length-bank_bytes, bank_bytes-at}
use Rattle.nor_bank.proofs.Known.{IsPartOf, known_parts, known_some}
use Rattle.nor_bank.proofs.Lasting.{StaysKnown, powered_stays, known_lasts, constants_last}
use Rattle.nor_bank.proofs.Standing.{shown_waits, bytes_known, byte_now}

-- ---- one chip

powered_shown : (s : ChipState) → IsShown (powered s)
powered_shown s = record { mode = refl; step = refl; job = refl; fault = refl }

powered_quiet : (s : ChipState) → IsQuiet (powered s)
powered_quiet s = record { shown = powered_shown s; held = refl }

powered_idle : (s : ChipState) → IsIdle (powered s)
powered_idle s = record { rest = (shown_takes s.part.set (powered s) refl (powered_shown s)).rest; held = refl }

after_by_offer : (set : Set) (table : List ℕ) (locks : List Bool) (offered : Bool) → has_locks table ≡ offered
    → locks_after set table locks ≡ (if keeps_locks set offered then locks else replicate (length locks) offered)
after_by_offer Intel table locks offered is = ap (λ (b : Bool). replicate (length locks) b) is
after_by_offer Amd table locks true is = ap (λ (b : Bool). if b then locks else replicate (length locks) false) is
after_by_offer Amd table locks false is = ap (λ (b : Bool). if b then locks else replicate (length locks) false) is

-- its locks are the array's
powered_locks_are : (f : Found) (s : ChipState) (a : ArrayState) (constants : Constants) → IsPartOf f s → s.locks ≡ a.locks → length a.locks ≡ length (blocks_of f)
    → a.consts ≡ constants → constants.blocks ≡ blocks_of f → constants.has_locks ≡ locks_of f.query.extended
    → constants.keeps ≡ keeps_locks f.query.set (locks_of f.query.extended) → (powered s).locks ≡ powered_locks a.consts a.locks
powered_locks_are f s a constants part locks count consts blocks offers keeps =
    let offered = locks_of f.query.extended in
    after_by_offer s.part.set s.part.table s.locks offered part.offers
    ∙ (ap (λ (set : Set). if keeps_locks set offered then s.locks else replicate (length s.locks) offered) part.set
    ∙ (ap (λ (ls : List Bool). if keeps_locks f.query.set offered then ls else replicate (length ls) offered) locks
    ∙ (ap (λ (n : ℕ). if keeps_locks f.query.set offered then a.locks else replicate n offered) (count ∙ sym blocks_length)
    ∙ (ap (λ (b : Bool). if keeps_locks f.query.set offered then a.locks else replicate (length constants.blocks) b) (sym offers)
    ∙ (ap (λ (b : Bool). if b then a.locks else replicate (length constants.blocks) constants.has_locks) (sym keeps)
    ∙ ap (λ (c : Constants). powered_locks c a.locks) (sym consts))))))
  where
    blocks_length : length constants.blocks ≡ length (blocks_of f)
    blocks_length = ap (λ bs. length bs) blocks

-- ---- the bank

gone : (after : ℕ) (armed : Option Armed) → armed ≡ None → CutIs after armed None
gone after None none = tt
gone after (Some armed) none = absurd (cc)

module _ (b : BankState) (a : ArrayState) (n : ℕ) (bus : BusState) (stands : Stands b a) (halted : b.halted ≡ Some (Off n)) (powers : PowersOn b.bus bus) (kept : KeepsLanes b.bus bus) where
  was : PowerIs (Some (Off n)) b a
  was = subst (λ (h : Option HaltCause). PowerIs h b a) halted stands.now

  closed : b.erase ≡ None
  closed = was.2

  there : (c : ℕ) → c < lanes_of bus → c < lanes_of b.bus
  there c below = subst (λ (m : ℕ). c < m) kept.count below

  -- what holds of each chip with power back
  each_is : (P : ChipState → Type 0) → ((s : ChipState) → P (powered s)) → AllLanes P bus
  each_is P all c below = subst P (sym (powers.each c (there c below))) (all (lane b.bus c))

  stays : EachLane StaysKnown b.bus bus
  stays c below =
      subst (λ (t : ChipState). StaysKnown (lane b.bus c) t) (sym (powers.each c below)) (powered_stays (lane b.bus c) (bytes_known b.found b.bus stands.known c below))

  known : IsKnown b.found bus
  known = known_lasts b.found b.bus bus kept.count stays stands.known

  same_byte : (p : ℕ) → bank_byte b.found.geometry.device bus.lanes p ≡ bank_byte b.found.geometry.device b.bus.lanes p
  same_byte p =
      let d = unit_len b.found.geometry.device in
      let c = lane_at (lanes_of b.bus) d p in
      let below : c < lanes_of b.bus = lane_at_below (lanes_of b.bus) d p (known_some b.found b.bus stands.known) in
      ap (λ (m : ℕ). slice_index (chip_at bus.lanes (lane_at m d p)).cells (place_at m d p)) kept.count
      ∙ ap (λ (t : ChipState). slice_index t.cells (place_at (lanes_of b.bus) d p)) (powers.each c below)

  locks_are : AllLanes (λ s. s.locks ≡ powered_locks a.consts a.locks) bus
  locks_are c below =
      let before = there c below in
      ap (λ (t : ChipState). t.locks) (powers.each c before)
      ∙ powered_locks_are b.found (lane b.bus c) a _ (known_parts b.found b.bus stands.known c before) (stands.locks c before) stands.lock_count stands.consts refl refl refl

  -- It stands for the array with power back.
  pub stands_powered : Stands (record b { bus = bus; halted = None }) (record a { power = On; locks = powered_locks a.consts a.locks; under = None; armed = None })
  stands_powered = record {
    known = known;
    consts = stands.consts ∙ sym (constants_last b.found b.bus bus a.consts.locked kept.count (λ c below. (stays c below).part));
    opened = stands.opened;
    size = stands.size;
    bytes = λ p below _. byte_now b a p stands closed below ∙ sym (same_byte p);
    locks = locks_are;
    lock_count = ap (λ (ls : List Bool). length ls) (sym (locks_are 0 (known_some b.found bus known))) ∙ (known_parts b.found bus known 0 (known_some b.found bus known)).locks;
    power = refl;
    under = sym (ap under_of closed);
    now = record {
      power = powers.power;
      waits = λ c below. shown_waits (lane bus c) (each_is IsShown powered_shown c below);
      cut = gone b.after bus.armed powers.armed;
      erase = subst (λ (e : Option Erasing). EraseIs e b.found bus) (sym closed) (each_is IsQuiet powered_quiet);
    };
  }

  -- And a bank can be started on it.
  pub can_start_anew : CanStartAnew b a bus
  can_start_anew =
      let some = known_some b.found bus known in
      let all = bytes_of (with_bus b bus) 0 (size_of b.found) in
      let long : length all ≡ size_of b.found = length-bank_bytes b.found.geometry.device bus.lanes 0 (size_of b.found) in
      record {
        can = record {
          wired = known.wired;
          blocks = known.blocks;
          resting = each_is IsIdle powered_idle;
          locks = λ c below. locks_are c below ∙ sym (locks_are 0 some);
          power = powers.power;
          unarmed = powers.armed;
        };
        bytes = ext_get_or 0 all a.bytes (long ∙ sym stands.size) (λ i less.
            let below : i < size_of b.found = subst (λ (m : ℕ). i < m) long less in
            let first : 0 + i ≡ i = omega arith in
            bank_bytes-at b.found.geometry.device bus.lanes 0 (size_of b.found) i below
            ∙ (ap (λ (p : ℕ). bank_byte b.found.geometry.device bus.lanes p) first ∙ (same_byte i ∙ sym (byte_now b a i stands closed below))));
        locks = locks_are 0 some;
      }
