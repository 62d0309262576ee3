-- A lock that is set or cleared, in every chip of a bank that shows its array.
use Rattle.std.proofs.Common.{◌≡◌, ◌<◌, ◌⊎◌, inl, inr, ℕ, List, [], length, slice_index, slice_set, refl, sym, ◌∙◌, ap, subst, arith, Bool, true, false}
use Rattle.std.specs.Prelude.{slice_index_or}
use Rattle.std.proofs.lemmas.List.{length-set, set-get_or, get_or-set_same}
use Rattle.nor_cell.specs.Bits.{unit_len}
use Rattle.nor_cell.specs.Chip.{ChipState, block_of, is_locked, set_lock}
use Rattle.nor_cell.specs.Between.{IsShown, reset}
use Rattle.nor_cell.specs.Wiring.{lane_at, place_at}
use Rattle.nor_cell.specs.declared.device.Device.{Device}
use Rattle.nor_lane.proofs.Places.{lane_at_below}
use Rattle.nor_bus.specs.Bus.{BusState, lane, lanes_of, chip_at, bank_byte}
use Rattle.nor_bus.specs.Driven.{AllLanes, EachLane, Reaches, Went, Lost}
use Rattle.nor_poll.specs.Lock.{OffersLocks, SetsLock, LosesLock}
use Rattle.nor_poll.specs.Losing.{Loses}
use Rattle.nor_poll.specs.UnderErase.{KeepsOutside}
use Rattle.nor_array.specs.Array.{ArrayState, is_locked as is_locked_in}
use Rattle.nor_bank.specs.Calls.{stands_locked}
use Rattle.nor_bank.specs.Locks.{ShowsArray}
use Rattle.nor_bank.specs.Stands.{Stands}
use Rattle.nor_bank.specs.State.{BankState, byte_of}
use Rattle.nor_bank.specs.Way.{Holds}
use Rattle.nor_bank.specs.Work.{with_bus}
use Rattle.nor_bank.proofs.Holding.{holds_kept, stands_served}
use Rattle.nor_bank.proofs.HoldingLanes.{Serves}
use Rattle.nor_bank.proofs.Known.{known_parts, known_some}
use Rattle.nor_bank.proofs.Lasting.{StaysKnown}
use Rattle.nor_bank.proofs.LocksBlocks.{block_begins}
use Rattle.nor_bank.proofs.LocksReading.{ReadsAt, lock_offered, read_reached, read_unit, read_wide}
use Rattle.nor_bank.proofs.Standing.{bytes_known}

-- ---- one chip

-- The lock of block k has become this. No more has, but in what is under erase.
record BecomesLocked (value : Bool) (k : ℕ) (s t : ChipState) : Type 0 where
  part : t.part ≡ s.part
  size : length t.cells ≡ length s.cells
  locks : t.locks ≡ slice_set s.locks k value
  erases : t.erases ≡ s.erases
  suspends : t.suspends ≡ s.suspends
  outside : KeepsOutside s t

left_locked : (s t : ChipState) (k u : ℕ) (value : Bool) → block_of s u ≡ k → Loses 0 [] (set_lock (block_of s u) value s) t → BecomesLocked value k s t
left_locked s t k u value is loses =
    let remains = loses.keeps.remains in
    record {
      part = remains.part;
      size = remains.size;
      locks = remains.locks ∙ ap (λ (b : ℕ). slice_set s.locks b value) is;
      erases = remains.erases;
      suspends = loses.keeps.suspends;
      outside = λ p out. loses.above p out (omega arith);
    }

left_alone : (s t : ChipState) (k : ℕ) → Loses 0 [] s t → BecomesLocked (is_locked s k) k s t
left_alone s t k loses =
    let remains = loses.keeps.remains in
    record {
      part = remains.part;
      size = remains.size;
      locks = remains.locks ∙ sym (set-get_or s.locks k false);
      erases = remains.erases;
      suspends = loses.keeps.suspends;
      outside = λ p out. loses.above p out (omega arith);
    }

set_serves : (s t : ChipState) (k : ℕ) (value : Bool) → IsShown s → t ≡ set_lock k value (reset s) → Serves s t
set_serves s t k value shown is = record {
  held = ap (λ (x : ChipState). x.held) is;
  suspends = ap (λ (x : ChipState). x.suspends) is;
  erases = ap (λ (x : ChipState). x.erases) is;
  no_error = λ error. sym (ap (λ (x : ChipState). x.flags.erase) is) ∙ error;
  shown = record {
    mode = ap (λ (x : ChipState). x.mode) is;
    step = ap (λ (x : ChipState). x.step) is;
    job = ap (λ (x : ChipState). x.job) is ∙ shown.job;
    fault = ap (λ (x : ChipState). x.fault) is;
  };
}

-- ---- the bytes of the bank

byte_still : (device : Device) (old new : BusState) (p : ℕ) → lanes_of new ≡ lanes_of old → 0 < lanes_of old → EachLane (λ s t. t.cells ≡ s.cells) old new
    → bank_byte device new.lanes p ≡ bank_byte device old.lanes p
byte_still device old new p count some same =
    let d = unit_len device in
    let c = lane_at (lanes_of old) d p in
    let below : c < lanes_of old = lane_at_below (lanes_of old) d p some in
    ap (λ (n : ℕ). slice_index (chip_at new.lanes (lane_at n d p)).cells (place_at n d p)) count
    ∙ ap (λ (cells : List ℕ). slice_index cells (place_at (lanes_of old) d p)) (same c below)

-- ---- the bank

-- A lock call was given up: the lock is in every chip as it was, or as was asked for.
pub record HaltsLock (k : ℕ) (asked : Bool) (b : BankState) (bus : BusState) (a : ArrayState) : Type 0 where
  pub value : Bool
  pub was : (value ≡ is_locked_in a k) ⊎ (value ≡ asked)
  pub erases : EachLane (λ s t. t.erases ≡ s.erases) b.bus bus
  pub suspends : EachLane (λ s t. t.suspends ≡ s.suspends) b.bus bus
  pub locks : AllLanes (λ s. s.locks ≡ slice_set a.locks k value) bus
  pub holds : (new : BankState) → new.found ≡ b.found → new.bus ≡ bus → Holds (λ p. false) (slice_set a.locks k value) new a

module _ (width k at : ℕ) (b : BankState) (is : ReadsAt width k at b) (bus : BusState) (a : ArrayState) (shows : ShowsArray b a) where
  stands : Stands b a
  stands = shows.stands

  has_lock : k < length a.locks
  has_lock = let count = stands.lock_count in let there = is.there in omega (arith, count, there)

  offered : AllLanes (OffersLocks b.found.query.set) b.bus
  offered = lock_offered width b bus k (read_wide width k at b is) is.there is.offers a shows

  block_is : AllLanes (λ s. block_of s at ≡ k) b.bus
  block_is c below =
      ap (λ (u : ℕ). block_of (lane b.bus c) u) (read_unit width k at b is) ∙ (block_begins b.found b.bus stands.known k c is.there below).is

  -- The lock is this in every chip, and with it the bank shows the array of which it is that.
  pub set_chips : (value : Bool) → (Reaches width b.found.geometry at b.bus → EachLane (SetsLock b.found.query.set at value) b.bus bus)
      → EachLane (λ s t. t ≡ set_lock k value (reset s)) b.bus bus
  set_chips value sets c below =
      sets (read_reached width k at b is a shows) c below (offered c below)
      ∙ ap (λ (n : ℕ). set_lock n value (reset (lane b.bus c))) (block_is c below)

  pub set_each : (value : Bool) → EachLane (λ s t. t ≡ set_lock k value (reset s)) b.bus bus → EachLane Serves b.bus bus
  set_each value each c below = set_serves (lane b.bus c) (lane bus c) k value (shows.shown c below) (each c below)

  pub set_stands : (value : Bool) (n : ℕ) → EachLane (λ s t. t ≡ set_lock k value (reset s)) b.bus bus → Went n n b.bus bus
      → Stands (with_bus b bus) (record a { locks = slice_set a.locks k value })
  set_stands value n each went =
      let some = known_some b.found b.bus stands.known in
      let same : (p : ℕ) → bank_byte b.found.geometry.device bus.lanes p ≡ byte_of b p = λ p.
      byte_still b.found.geometry.device b.bus bus p went.kept.count some (λ c below. ap (λ (x : ChipState). x.cells) (each c below)) in
      stands_served b bus a a.bytes (slice_set a.locks k value) n n stands shows.running shows.shown went (set_each value each)
      (λ none. absurd (let both : true ≡ false = sym is.offers ∙ none in cc))
      (length-set a.locks k value)
      (λ c below.
      let there : c < lanes_of b.bus = subst (λ (m : ℕ). c < m) went.kept.count below in
      ap (λ (x : ChipState). x.locks) (each c there) ∙ ap (λ (ls : List Bool). slice_set ls k value) (stands.locks c there))
      stands.size
      (λ p below under. same p)
      (λ p below out. stands.bytes p below out ∙ sym (same p))

  -- ---- given up

  halts_lock : (asked value : Bool) (n : ℕ) → (value ≡ is_locked_in a k) ⊎ (value ≡ asked) → Lost n b.bus bus → EachLane (BecomesLocked value k) b.bus bus
      → HaltsLock k asked b bus a
  halts_lock asked value n was lost each =
      let there = λ (c : ℕ) (below : c < lanes_of bus). subst (λ (m : ℕ). c < m) lost.kept.count below in
      let locks : AllLanes (λ s. s.locks ≡ slice_set a.locks k value) bus = λ c below.
      (each c (there c below)).locks ∙ ap (λ (ls : List Bool). slice_set ls k value) (stands.locks c (there c below)) in
      let stays : EachLane StaysKnown b.bus bus = λ c below. record {
        part = (each c below).part;
        size = (each c below).size;
        bytes = (lost.kept.each c below).bytes (bytes_known b.found b.bus stands.known c below);
        locks = (lost.kept.each c below).locks;
        unlocked = λ none was. absurd (let both : true ≡ false = sym ((known_parts b.found b.bus stands.known c below).offers ∙ is.offers) ∙ none in cc);
      } in
      record {
        value = value;
        was = was;
        erases = λ c below. (each c below).erases;
        suspends = λ c below. (each c below).suspends;
        locks = locks;
        holds = λ new found same.
            subst (λ (x : BusState). EachLane StaysKnown b.bus x → lanes_of x ≡ lanes_of b.bus → EachLane (λ s t. KeepsOutside s t) b.bus x
            → AllLanes (λ s. s.locks ≡ slice_set a.locks k value) x → Holds (λ p. false) (slice_set a.locks k value) new a) same
            (λ each count outside locks.
            holds_kept (λ p. false) (slice_set a.locks k value) b new a stands shows.running found count each (λ c p below out free. outside c below p out) locks)
            stays lost.kept.count (λ c below. (each c below).outside) locks;
      }

  pub lock_given_up : (asked : Bool) (n : ℕ) → (Reaches width b.found.geometry at b.bus → LosesLock b.found.query.set at asked b.bus bus) → Lost n b.bus bus
      → HaltsLock k asked b bus a
  lock_given_up asked n loses lost = elim (loses (read_reached width k at b is a shows)) [
    | inl before ↦ halts_lock asked (is_locked_in a k) n (inl refl) lost (λ c below.
        subst (λ (v : Bool). BecomesLocked v k (lane b.bus c) (lane bus c)) (ap (λ (ls : List Bool). slice_index_or ls k false) (stands.locks c below))
        (left_alone (lane b.bus c) (lane bus c) k (before c below (offered c below))))
    | inr behind ↦ halts_lock asked asked n (inr refl) lost (λ c below.
        left_locked (lane b.bus c) (lane bus c) k at asked (block_is c below) (behind c below (offered c below)))
  ]

  -- The chips tell which.
  pub told_value : (asked : Bool) (new : BankState) (halts : HaltsLock k asked b bus a) → new.bus ≡ bus → lanes_of bus ≡ lanes_of b.bus → stands_locked new k ≡ halts.value
  told_value asked new halts same count =
      let some : 0 < lanes_of bus = subst (λ (m : ℕ). 0 < m) (sym count) (known_some b.found b.bus stands.known) in
      ap (λ (x : BusState). slice_index_or (lane x 0).locks k false) same
      ∙ (ap (λ (ls : List Bool). slice_index_or ls k false) (halts.locks 0 some) ∙ get_or-set_same a.locks k halts.value false has_lock)
