-- Reads of locks: what a call that needs its blocks unlocked does behind the way to the chips.
use Rattle.std.specs.Prelude.{◌≡◌, ◌<◌, ◌≤◌, ◌+◌, ◌-◌, ◌*◌, ℕ, zero, suc, length, Bool, true, false, None, if◌then◌else◌}
use Rattle.nor_cell.specs.Between.{IsShown}
use Rattle.nor_cell.specs.Chip.{block_at}
use Rattle.nor_query.specs.Derived.{locks_of}
use Rattle.nor_bus.specs.Driven.{AllLanes, EachLane, Went, Lost}
use Rattle.nor_probe.specs.declared.probing.Found.{Found}
use Rattle.nor_array.specs.Array.{ArrayState}
use Rattle.nor_array.specs.Refusals.{touches}
use Rattle.nor_array.specs.declared.entry.Halted.TheVariants.{Off}
use Rattle.nor_array.specs.declared.entry.Op.{Op}
use Rattle.nor_array.specs.declared.entry.Op.TheVariants.{Lock, Unlock}
use Rattle.nor_array.specs.declared.entry.Reply.{Reply}
use Rattle.nor_array.specs.declared.entry.Reply.TheVariants.{Halted as HaltedReply}
use Rattle.nor_array.specs.declared.needs.Reach.{Reach}
use Rattle.nor_array.specs.declared.needs.Reach.TheVariants.{Nowhere, Range, Block, Everywhere}
use Rattle.nor_poll.specs.Losing.{IsUnmoved}
use Rattle.nor_bank.specs.Refused.{outline}
use Rattle.nor_bank.specs.Stands.{Stands}
use Rattle.nor_bank.specs.State.{BankState, blocks_of}
use Rattle.nor_bank.specs.Way.{HoldsAll, halting}
use Rattle.nor_bank.specs.Work.{with_bus}

-- how many blocks are touched
abbrev pub blocks_met : Found → Reach → ℕ
blocks_met f Nowhere = 0
blocks_met f (Range at zero) = 0
blocks_met f (Range at (suc n)) = block_at (blocks_of f) (at + n) + 1 - block_at (blocks_of f) at
blocks_met f (Block k) = 1
blocks_met f Everywhere = length (blocks_of f)

-- a touched block of the bank, where locks are offered: its lock is read
pub record HasReadLock (b : BankState) (reach : Reach) (k : ℕ) : Type 0 where
  pub offers : locks_of b.found.query.extended ≡ true
  pub there : k < length (blocks_of b.found)
  pub touched : touches (outline b) reach k ≡ true

-- how many cycles the reads of their locks take at most
abbrev pub locks_most : Found → Reach → ℕ
locks_most f reach = if locks_of f.query.extended then 6 * blocks_met f reach else 0

-- A bank without a halt stands for the array, and each chip shows it.
pub record ShowsArray (b : BankState) (a : ArrayState) : Type 0 where
  pub running : b.halted ≡ None
  pub stands : Stands b a
  pub shown : AllLanes IsShown b.bus

-- Locks were read, by at most so many cycles. A bank that showed its array still does, and each
-- chip is as it was.
pub record ReadsLocks (most : ℕ) (old new : BankState) : Type 0 where
  pub kept : new ≡ with_bus old new.bus
  pub cycles : ℕ
  pub few : cycles ≤ most
  pub went : Went cycles cycles old.bus new.bus
  pub same : (a : ArrayState) → ShowsArray old a → new.bus.lanes ≡ old.bus.lanes
  pub shows : (a : ArrayState) → ShowsArray old a → ShowsArray new a

-- A cycle of them failed, and the halt is kept. The chips of a bank that showed its array hold it.
pub record LosesLocks (most : ℕ) (old new : BankState) (reply : Reply) : Type 0 where
  pub answer : reply ≡ HaltedReply (Off old.after)
  pub kept : new ≡ halting (with_bus old new.bus) (Off old.after)
  pub lost : Lost most old.bus new.bus
  pub holds : (a : ArrayState) → ShowsArray old a → HoldsAll new a
  pub unmoved : (a : ArrayState) → ShowsArray old a → EachLane IsUnmoved old.bus new.bus

-- the call that sets a lock, or clears it
abbrev pub lock_op : (locked : Bool) (block : ℕ) → Op
lock_op true k = Lock k
lock_op false k = Unlock k
