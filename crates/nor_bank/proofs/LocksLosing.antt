-- What is left where power went as a lock was read.
use Rattle.std.proofs.Common.{◌≡◌, ◌<◌, ◌≤◌, ◌+◌, ℕ, [], length, refl, sym, ◌∙◌, ap, subst, arith, true, List, Option, Some, None}
use Rattle.nor_cell.specs.Chip.{ChipState}
use Rattle.nor_query.specs.Derived.{locks_of}
use Rattle.nor_bus.specs.Bus.{BusState, lane, chip_at}
use Rattle.nor_bus.specs.Driven.{EachLane, Reaches, Lost}
use Rattle.nor_bus.proofs.Driving.{lost_then}
use Rattle.nor_poll.specs.Lock.{OffersLocks}
use Rattle.nor_poll.specs.Losing.{IsUnmoved, Loses, LosesNone}
use Rattle.nor_poll.specs.UnderErase.{KeepsOutside}
use Rattle.nor_array.specs.Array.{ArrayState}
use Rattle.nor_array.specs.declared.entry.Halted.{Halted as HaltCause}
use Rattle.nor_array.specs.declared.entry.Halted.TheVariants.{Off}
use Rattle.nor_array.specs.declared.entry.Reply.{Reply}
use Rattle.nor_array.specs.declared.entry.Reply.TheVariants.{Halted}
use Rattle.nor_bank.specs.Locks.{ShowsArray, ReadsLocks, LosesLocks}
use Rattle.nor_bank.specs.State.{BankState, word_bytes, blocks_of}
use Rattle.nor_bank.specs.Way.{halting}
use Rattle.nor_bank.specs.Work.{with_bus}
use Rattle.nor_bank.specs.declared.kept.Erasing.{Erasing}
use Rattle.nor_bank.proofs.Holding.{holds_outside}
use Rattle.nor_bank.proofs.LocksReading.{ReadsAt, lock_offered, read_cycles, read_few, read_reached, read_wide}
use Rattle.nor_bank.proofs.Using.{lost_within}

-- ---- a chip of which nothing is lost

pub lost_outside : (s t : ChipState) → Loses 0 [] s t → KeepsOutside s t
lost_outside s t loses p out = loses.above p out (omega arith)

-- ---- the bank

-- Power went in the reads, and nothing is lost of a chip that shows its array.
pub loses_of : (n most : ℕ) (b : BankState) (bus : BusState) → n ≤ most → Lost n b.bus bus
    → ((a : ArrayState) → ShowsArray b a → EachLane (Loses 0 []) b.bus bus)
    → LosesLocks most b (halting (with_bus b bus) (Off b.after)) (Halted (Off b.after))
loses_of n most b bus few lost leaves =
    let new = halting (with_bus b bus) (Off b.after) in
    record {
      answer = refl;
      kept = refl;
      lost = lost_within n most b.bus bus few lost;
      holds = λ a shows.
          let left = leaves a shows in
          holds_outside b new a shows.stands shows.running refl lost.kept (λ c below. (left c below).keeps.remains)
          (λ c below. lost_outside (lane b.bus c) (lane bus c) (left c below));
      unmoved = λ a shows c below. (leaves a shows c below).keeps;
    }

-- one read
pub lock_lost : (width : ℕ) (b : BankState) (bus : BusState) (k : ℕ) (wide : word_bytes b.found ≡ width) (there : k < length (blocks_of b.found))
    (offers : locks_of b.found.query.extended ≡ true) (u : ℕ) → (Reaches width b.found.geometry u b.bus → EachLane (LosesNone (OffersLocks b.found.query.set)) b.bus bus)
    → ((a : ArrayState) → ShowsArray b a → Reaches width b.found.geometry u b.bus) → Lost (read_cycles b.found.query.set) b.bus bus
    → LosesLocks 6 b (halting (with_bus b bus) (Off b.after)) (Halted (Off b.after))
lock_lost width b bus k wide there offers u leaves reaches lost =
    loses_of (read_cycles b.found.query.set) 6 b bus (read_few b.found.query.set) lost
    (λ a shows c below. leaves (reaches a shows) c below (lock_offered width b bus k wide there offers a shows c below))

-- after others that were made
pub loses_then : (m n q : ℕ) (a b c : BankState) (reply : Reply) → m + n ≤ q → ReadsLocks m a b → LosesLocks n b c reply → LosesLocks q a c reply
loses_then m n q a b c reply most first second =
    let k = first.cycles in
    let few = first.few in
    let number : b.after ≡ a.after = ap (λ (x : BankState). x.after) first.kept in
    record {
      answer = second.answer ∙ ap (λ (x : ℕ). Halted (Off x)) number;
      kept = second.kept ∙ ap (λ (x : BankState). halting (with_bus x c.bus) (Off x.after)) first.kept;
      lost = lost_then k n q a.bus b.bus c.bus (omega arith) first.went second.lost;
      holds = λ x shows. second.holds x (first.shows x shows);
      unmoved = λ x shows.
          subst (λ (ls : List ChipState). (l : ℕ) → l < length ls → IsUnmoved (chip_at ls l) (lane c.bus l)) (first.same x shows) (second.unmoved x (first.shows x shows));
    }

-- ---- by the bank that it begins with

module _ (width k at : ℕ) (b : BankState) (is : ReadsAt width k at b) where
  pub read_lost : (bus : BusState) → (Reaches width b.found.geometry at b.bus → EachLane (LosesNone (OffersLocks b.found.query.set)) b.bus bus)
      → Lost (read_cycles b.found.query.set) b.bus bus → LosesLocks 6 b (halting (with_bus b bus) (Off b.after)) (Halted (Off b.after))
  read_lost bus leaves lost =
      lock_lost width b bus k (read_wide width k at b is) is.there is.offers at leaves (read_reached width k at b is) lost

-- the halt that a bank keeps
pub kept_halt : (P : BankState → Reply → Type 0) (b : BankState) (bus : BusState) (cause : HaltCause) (halted : Option HaltCause) (erase : Option Erasing) (reply : Reply)
    → halted ≡ Some cause → erase ≡ None → reply ≡ Halted cause → P (halting (with_bus b bus) cause) (Halted cause)
    → P (record b { bus = bus; halted = halted; erase = erase }) reply
kept_halt P b bus cause halted erase reply kept closed answer holds =
    subst (λ (h : Option HaltCause). P (record b { bus = bus; halted = h; erase = erase }) reply) (sym kept)
    (subst (λ (e : Option Erasing). P (record b { bus = bus; halted = Some cause; erase = e }) reply) (sym closed)
    (subst (P (halting (with_bus b bus) cause)) (sym answer) holds))
