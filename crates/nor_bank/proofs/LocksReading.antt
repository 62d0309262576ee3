-- The lock of a block, as the chips of a bank show it.
use Rattle.std.proofs.Common.{◌≡◌, ◌<◌, ◌≤◌, ◌+◌, ◌/◌, ℕ, List, length, refl, sym, ◌∙◌, ap, subst, arith, Bool, true, false}
use Rattle.std.specs.Prelude.{slice_index_or}
use Rattle.nor_cell.specs.Chip.{ChipState, block, block_of, place, span_end}
use Rattle.nor_cell.specs.Between.{IsShown}
use Rattle.nor_cell.specs.Wiring.{is_wiring}
use Rattle.nor_cell.specs.declared.device.Set.{Set}
use Rattle.nor_cell.specs.declared.device.Set.TheVariants.{Intel, Amd}
use Rattle.nor_cell.proofs.Between.{is_reset, shown_takes}
use Rattle.nor_cell.proofs.Logic.{both_pass, same_number}
use Rattle.nor_query.specs.Derived.{locks_of}
use Rattle.nor_bus.specs.Bus.{BusState, lane}
use Rattle.nor_bus.specs.Driven.{AllLanes, Reaches, Went}
use Rattle.nor_bus.proofs.Driving.{went_none, went_then}
use Rattle.nor_poll.specs.Codes.{cycle_count}
use Rattle.nor_poll.specs.Lock.{OffersLocks, ShowsLock, TellsLock, lock_of}
use Rattle.nor_poll.specs.declared.codes.Command.TheVariants.{ShowLocks, LeaveLocks}
use Rattle.nor_probe.specs.declared.probing.Found.{Found}
use Rattle.nor_array.specs.Array.{ArrayState, is_locked as is_locked_in}
use Rattle.nor_bank.specs.Locks.{ShowsArray, ReadsLocks}
use Rattle.nor_bank.specs.State.{BankState, word_bytes, blocks_of}
use Rattle.nor_bank.specs.Work.{with_bus}
use Rattle.nor_bank.proofs.Known.{IsPartOf, known_parts}
use Rattle.nor_bank.proofs.LocksBlocks.{BeginsAt, unit_at, block_begins, block_reached}
use Rattle.nor_bank.proofs.LocksStill.{chips_same, shows_still}

-- ---- a chip that shows its array takes a lock command

pub offers_lock : (f : Found) (s : ChipState) → IsPartOf f s → IsShown s → locks_of f.query.extended ≡ true → OffersLocks f.query.set s
offers_lock f s part shown offers = record { takes = shown_takes f.query.set s part.set shown; blocks = part.some; offers = part.offers ∙ offers }

pub shows_lock : (f : Found) (k u : ℕ) (s : ChipState) → IsPartOf f s → BeginsAt f k u s → IsShown s → locks_of f.query.extended ≡ true → ShowsLock f.query.set u s
shows_lock f k u s part at shown offers =
    let same = sym at.is in
    record {
      locks = offers_lock f s part shown offers;
      first = subst (λ (b : ℕ). (block s.part.blocks b).from ≡ place s.part u) same at.first;
      least = subst (λ (b : ℕ). 128 ≤ (block s.part.blocks b).len) same at.least;
      inside = subst (λ (b : ℕ). span_end (block s.part.blocks b) ≤ length s.cells) same at.inside;
    }

-- ---- one read

-- how many cycles it takes
abbrev pub read_cycles : Set → ℕ
read_cycles set = cycle_count set ShowLocks + 1 + cycle_count set LeaveLocks

pub read_few : (set : Set) → read_cycles set ≤ 6
read_few Intel = omega arith
read_few Amd = omega arith

module _ (width : ℕ) (b : BankState) (bus : BusState) (k : ℕ) (wide : word_bytes b.found ≡ width) (there : k < length (blocks_of b.found))
    (offers : locks_of b.found.query.extended ≡ true) where
  u : ℕ
  u = unit_at b.found k

  pub lock_reached : (a : ArrayState) → ShowsArray b a → Reaches width b.found.geometry (unit_at b.found k) b.bus
  lock_reached a shows = subst (λ (w : ℕ). Reaches w b.found.geometry (unit_at b.found k) b.bus) wide (block_reached b.found b.bus shows.stands.known k there)

  pub lock_offered : (a : ArrayState) → ShowsArray b a → AllLanes (OffersLocks b.found.query.set) b.bus
  lock_offered a shows c below = offers_lock b.found (lane b.bus c) (known_parts b.found b.bus shows.stands.known c below) (shows.shown c below) offers

  pub lock_shown : (a : ArrayState) → ShowsArray b a → AllLanes (ShowsLock b.found.query.set (unit_at b.found k)) b.bus
  lock_shown a shows c below =
      shows_lock b.found k (unit_at b.found k) (lane b.bus c) (known_parts b.found b.bus shows.stands.known c below)
      (block_begins b.found b.bus shows.stands.known k c there below) (shows.shown c below) offers

  -- each lane has the array's lock
  pub lock_agreed : (a : ArrayState) → ShowsArray b a → AllLanes (λ s. lock_of (unit_at b.found k) s ≡ is_locked_in a k) b.bus
  lock_agreed a shows c below =
      let s = lane b.bus c in
      ap (λ (ls : List Bool). slice_index_or ls (block_of s (unit_at b.found k)) false) (shows.stands.locks c below)
      ∙ ap (λ (n : ℕ). slice_index_or a.locks n false) (block_begins b.found b.bus shows.stands.known k c there below).is

  module _ (locked : Bool) (tells : TellsLock b.found.query.set width b.found.geometry (unit_at b.found k) b.bus bus locked) where
    -- it is what is told
    pub lock_told : (a : ArrayState) → ShowsArray b a → locked ≡ is_locked_in a k
    lock_told a shows = tells.agreed (lock_reached a shows) (lock_shown a shows) (is_locked_in a k) (lock_agreed a shows)

    still : (a : ArrayState) → Went (read_cycles b.found.query.set) (read_cycles b.found.query.set) b.bus bus → ShowsArray b a → bus.lanes ≡ b.bus.lanes
    still a went shows =
        chips_same b.bus bus went.kept.count (λ c below.
        let is = shows.shown c below in
        tells.shows (lock_reached a shows) c below (lock_offered a shows c below) ∙ sym (is_reset (lane b.bus c) is.mode is.fault))

    -- and nothing has changed
    pub lock_read : Went (read_cycles b.found.query.set) (read_cycles b.found.query.set) b.bus bus → ReadsLocks 6 b (with_bus b bus)
    lock_read went = record {
      kept = refl;
      cycles = read_cycles b.found.query.set;
      few = read_few b.found.query.set;
      went = went;
      same = λ a shows. still a went shows;
      shows = λ a shows. shows_still b bus a (read_cycles b.found.query.set) (read_cycles b.found.query.set) (still a went shows) went shows;
    }

-- ---- several reads

pub reads_none : (b : BankState) → ReadsLocks 0 b b
reads_none b = record { kept = refl; cycles = 0; few = omega arith; went = went_none b.bus; same = λ a shows. refl; shows = λ a shows. shows }

-- the same bank but for its bus, twice
pub kept_then : (a b c : BankState) → b ≡ with_bus a b.bus → c ≡ with_bus b c.bus → c ≡ with_bus a c.bus
kept_then a b c first second = second ∙ ap (λ (x : BankState). with_bus x c.bus) first

pub reads_then : (m n q : ℕ) (a b c : BankState) → m + n ≤ q → ReadsLocks m a b → ReadsLocks n b c → ReadsLocks q a c
reads_then m n q a b c most first second =
    let k = first.cycles in
    let l = second.cycles in
    let few = first.few in
    let later = second.few in
    record {
      kept = kept_then a b c first.kept second.kept;
      cycles = k + l;
      few = omega arith;
      went = went_then k k l l (k + l) (k + l) a.bus b.bus c.bus (omega arith) (omega arith) first.went second.went;
      same = λ x shows. second.same x (first.shows x shows) ∙ first.same x shows;
      shows = λ x shows. second.shows x (first.shows x shows);
    }

pub reads_within : (m n : ℕ) (a b : BankState) → m ≤ n → ReadsLocks m a b → ReadsLocks n a b
reads_within m n a b most reads =
    let few = reads.few in
    record { kept = reads.kept; cycles = reads.cycles; few = omega arith; went = reads.went; same = reads.same; shows = reads.shows }

-- ---- one read, by the bank that it begins with

-- the block that is read is one of the bank's, which begins at this bus word
pub record ReadsAt (width k at : ℕ) (b : BankState) : Type 0 where
  pub wiring : is_wiring width b.found.geometry.lanes b.found.geometry.device ≡ true
  pub there : k < length (blocks_of b.found)
  pub offers : locks_of b.found.query.extended ≡ true
  pub unit : at ≡ (block (blocks_of b.found) k).from / width

module _ (width k at : ℕ) (b : BankState) (is : ReadsAt width k at b) where
  pub read_wide : word_bytes b.found ≡ width
  read_wide = sym (same_number width (word_bytes b.found) (both_pass _ _ is.wiring).1)

  pub read_unit : at ≡ unit_at b.found k
  read_unit = is.unit ∙ ap (λ (w : ℕ). (block (blocks_of b.found) k).from / w) (sym read_wide)

  pub read_reached : (a : ArrayState) → ShowsArray b a → Reaches width b.found.geometry at b.bus
  read_reached a shows =
      subst (λ (u : ℕ). Reaches width b.found.geometry u b.bus) (sym read_unit) (lock_reached width b b.bus k read_wide is.there is.offers a shows)

  module _ (bus : BusState) (locked : Bool) (tells : TellsLock b.found.query.set width b.found.geometry at b.bus bus locked) where
    tells_there : TellsLock b.found.query.set width b.found.geometry (unit_at b.found k) b.bus bus locked
    tells_there = subst (λ (u : ℕ). TellsLock b.found.query.set width b.found.geometry u b.bus bus locked) read_unit tells

    pub read_told : (a : ArrayState) → ShowsArray b a → locked ≡ is_locked_in a k
    read_told = lock_told width b bus k read_wide is.there is.offers locked tells_there

    pub read_reads : Went (read_cycles b.found.query.set) (read_cycles b.found.query.set) b.bus bus → ReadsLocks 6 b (with_bus b bus)
    read_reads = lock_read width b bus k read_wide is.there is.offers locked tells_there
