-- Block locks, by the calls of either set.
use Rattle.std.specs.Prelude.{◌≡◌, ◌<◌, ◌≤◌, ◌==◌, ◌⊎◌, ℕ, Bool, true, false, [], length}
use Rattle.nor_cell.specs.Chip.{ChipState, Mode, Ident, Locks, has_blocks, block, block_of, span_end, is_locked, set_lock, place}
use Rattle.nor_cell.specs.Between.{TakesCommands, reset}
use Rattle.nor_cell.specs.Table.{has_locks}
use Rattle.nor_cell.specs.declared.device.Device.{Device}
use Rattle.nor_cell.specs.declared.device.Device.TheVariants.{X8, X16, X16Byte}
use Rattle.nor_cell.specs.declared.device.Set.{Set}
use Rattle.nor_cell.specs.declared.device.Set.TheVariants.{Intel, Amd}
use Rattle.nor_cell.specs.declared.geometry.Geometry.{Geometry}
use Rattle.nor_bus.specs.Bus.{BusState, lane, lanes_of}
use Rattle.nor_bus.specs.Driven.{Reaches, EachLane, AllLanes}
use Rattle.nor_poll.specs.Losing.{Loses, LosesNone}
use Rattle.nor_poll.specs.declared.codes.Command.{Command}
use Rattle.nor_poll.specs.declared.codes.Command.TheVariants.{LockBlock, UnlockBlock}

-- A chip of the set whose blocks can be locked.
pub record OffersLocks (set : Set) (s : ChipState) : Type 0 where
  pub takes : TakesCommands set s
  pub blocks : has_blocks s.part.blocks ≡ true
  pub offers : has_locks s.part.table ≡ true

-- ---- a lock is set or cleared

abbrev pub lock_command : Bool → Command
lock_command true = LockBlock
lock_command false = UnlockBlock

-- The lock of the block of unit u is set or cleared. All else is as before, and the array is shown.
abbrev pub SetsLock : Set → ℕ → Bool → ChipState → ChipState → Type 0
SetsLock set u locked s t = OffersLocks set s → t ≡ set_lock (block_of s u) locked (reset s)

-- so it is, and power went: nothing else was lost
abbrev pub LosesLocked : Set → ℕ → Bool → ChipState → ChipState → Type 0
LosesLocked set u locked s t = OffersLocks set s → Loses 0 [] (set_lock (block_of s u) locked s) t

-- Power went: the lock is as it was in every lane, or as was asked for in every lane.
abbrev pub LosesLock : Set → ℕ → Bool → BusState → BusState → Type 0
LosesLock set u locked old new =
    EachLane (LosesNone (OffersLocks set)) old new ⊎ EachLane (LosesLocked set u locked) old new

-- ---- a lock is read

-- in what mode the set shows locks
abbrev pub lock_mode : Set → Mode
lock_mode Intel = Ident
lock_mode Amd = Locks

-- at which unit of a block: set 0001 in register 2
abbrev pub lock_unit : Set → Device → ℕ
lock_unit Intel X8 = 2
lock_unit Intel X16 = 2
lock_unit Intel X16Byte = 4
lock_unit Amd device = 0

abbrev pub shows_locked : Set → ℕ → Bool
shows_locked Intel answer = answer == 1
shows_locked Amd answer = answer == 0

abbrev pub lock_of : ℕ → ChipState → Bool
lock_of u s = is_locked s (block_of s u)

-- Such a chip, with a block that begins at unit u. A block has at least 128 bytes, all in the chip.
pub record ShowsLock (set : Set) (u : ℕ) (s : ChipState) : Type 0 where
  pub locks : OffersLocks set s
  pub first : (block s.part.blocks (block_of s u)).from ≡ place s.part u
  pub least : 128 ≤ (block s.part.blocks (block_of s u)).len
  pub inside : span_end (block s.part.blocks (block_of s u)) ≤ length s.cells

-- one of so many lanes passes the test
pub record SomeLane (lanes : ℕ) (passes : ℕ → Bool) : Type 0 where
  pub number : ℕ
  pub there : number < lanes
  pub is : passes number ≡ true

-- It was told whether the block that begins at unit u is locked in some lane; where the lanes agree, in all of them.
-- Nothing has changed, and the array is shown.
pub record TellsLock (set : Set) (width : ℕ) (g : Geometry) (u : ℕ) (old new : BusState) (locked : Bool) : Type 0 where
  pub shows : Reaches width g u old → EachLane (λ s t. OffersLocks set s → t ≡ reset s) old new
  pub none : Reaches width g u old → locked ≡ false → AllLanes (λ s. ShowsLock set u s → lock_of u s ≡ false) old
  pub some : Reaches width g u old → locked ≡ true → AllLanes (ShowsLock set u) old
      → SomeLane (lanes_of old) (λ c. lock_of u (lane old c))
  pub agreed : Reaches width g u old → AllLanes (ShowsLock set u) old → (bit : Bool)
      → AllLanes (λ s. lock_of u s ≡ bit) old → locked ≡ bit
