-- The way to the chips: what a call does before its work where something is under erase.
use Rattle.std.specs.Prelude.{◌≡◌, ◌≢◌, ◌<◌, ◌≤◌, ◌+◌, ◌*◌, ◌/◌, ◌⊎◌, ℕ, List, length, slice_index, Bool, true, false, Option, Some, None, if◌then◌else◌}
use Rattle.nor_cell.specs.Between.{IsShown}
use Rattle.nor_cell.specs.Chip.{ChipState, NotHeld, block, counted}
use Rattle.nor_cell.specs.Steps.{Remains}
use Rattle.nor_cell.specs.Table.{suspend_kind, can_program_suspended}
use Rattle.nor_probe.specs.declared.probing.Found.{Found}
use Rattle.nor_query.specs.Derived.{suspend_of, locks_of}
use Rattle.nor_bus.specs.Bus.{lane, lanes_of}
use Rattle.nor_bus.specs.Driven.{AllLanes, EachLane, Went, Lost, Counted}
use Rattle.nor_array.specs.Array.{ArrayState}
use Rattle.nor_array.specs.Needs.{needs_of}
use Rattle.nor_array.specs.Admits.{first_locked}
use Rattle.nor_array.specs.declared.needs.CallNeeds.{CallNeeds}
use Rattle.nor_array.specs.declared.state.Target.{Target}
use Rattle.nor_array.specs.declared.state.Target.TheVariants.{OneBlock, AllBlocks}
use Rattle.nor_array.specs.declared.entry.Halted.{Halted as HaltCause}
use Rattle.nor_array.specs.declared.entry.Halted.TheVariants.{Off as LostPower, Stuck as StuckLane}
use Rattle.nor_array.specs.declared.entry.Op.{Op}
use Rattle.nor_array.specs.declared.entry.Reply.{Reply}
use Rattle.nor_array.specs.declared.entry.Reply.TheVariants.{Halted as HaltedReply}
use Rattle.nor_array.specs.declared.entry.Op.TheVariants.{Program, EraseAll, Poll, Arm, PowerOn}
use Rattle.nor_poll.specs.UnderErase.{erase_left, state_at}
use Rattle.nor_poll.specs.declared.lanes.LaneState.TheVariants.{Running, Suspended}
use Rattle.nor_poll.specs.declared.lanes.Lanes.{Lanes}
use Rattle.nor_poll.specs.declared.lanes.Halt.{Halt}
use Rattle.nor_poll.specs.declared.lanes.Halt.TheVariants.{Off, Stuck}
use Rattle.nor_bank.specs.State.{BankState, size_of, blocks_of, byte_of}
use Rattle.nor_bank.specs.Stands.{Stands, IsKnown, constants_of, is_under}
use Rattle.nor_bank.specs.Counts.{is_open, can_beside, suspends_after, GoesOn, LeftFalls, Nears, Waits}
use Rattle.nor_bank.specs.Looks.{IsAwaited, WorksOn}
use Rattle.nor_bank.specs.Refused.{Works}
use Rattle.nor_bank.specs.Work.{with_bus, words_in}
use Rattle.nor_bank.specs.declared.kept.Erasing.{Erasing}

-- ---- what the chips hold

-- The chips are what was found; outside what is under erase, and but for places that are spared, they hold the array's
-- bytes, and these locks.
pub record Holds (spared : ℕ → Bool) (locked : List Bool) (b : BankState) (a : ArrayState) : Type 0 where
  pub known : IsKnown b.found b.bus
  pub consts : a.consts ≡ constants_of b.found b.bus.lanes a.consts.locked
  pub bytes : (p : ℕ) → p < size_of b.found → is_under a.under a.consts p ≡ false → spared p ≡ false
      → slice_index a.bytes p ≡ byte_of b p
  pub locks : AllLanes (λ s. s.locks ≡ locked) b.bus

-- all of the array
abbrev pub HoldsAll : BankState → ArrayState → Type 0
HoldsAll b a = Holds (λ p. false) a.locks b a

-- ---- chips that are ready

-- no held erase is in a program's way
abbrev pub LetsProgram : (programs : Bool) → ChipState → Type 0
LetsProgram false s = Unit {0}
LetsProgram true s = (s.held ≡ NotHeld) ⊎ (can_program_suspended (suspend_kind s.part.table) ≡ true)

-- Each chip shows its array outside what is under erase, and takes every command.
pub record IsReady (programs : Bool) (b : BankState) : Type 0 where
  pub shown : AllLanes IsShown b.bus
  pub lets : AllLanes (LetsProgram programs) b.bus

-- ---- a first halt

-- its cause: a loss of power tells the number of the armed cut
abbrev pub cause_of : (after : ℕ) → Halt → HaltCause
cause_of after Off = LostPower after
cause_of after (Stuck k) = StuckLane k

-- the bank keeps it, and gives up what is under erase
abbrev pub halting : BankState → HaltCause → BankState
halting b cause = record b { halted = Some cause; erase = None }

-- ---- a look at the erase that is open

-- the bus word at which what is under erase begins
abbrev pub erased_at : (width : ℕ) → Found → Target → ℕ
erased_at width f (OneBlock b) = (block (blocks_of f) b).from / width
erased_at width f AllBlocks = 0

-- how many cycles it takes at most: held lanes are resumed, a poll is made, and the array is shown
abbrev pub look_most : ℕ
look_most = 5

-- The bank that has counted it as a poll, with where each lane is then.
abbrev pub looked : Erasing → Lanes → BankState → BankState
looked e now b = record b { erase = Some (record e { polls = e.polls + 1; lanes = now }) }

-- what it does to a chip
pub record LooksAt (cycles : ℕ) (s t : ChipState) : Type 0 where
  pub remains : Remains s t
  pub suspends : t.suspends ≡ s.suspends
  pub left : LeftFalls cycles s t
  pub nears : Nears s t

-- The bank goes on to stand for its array, and counts a poll. Then no lane is suspended; one that
-- runs was read working, and one that has ended, as wasn't known before, had fewer reads left than
-- there were cycles.
pub record LooksOver (e : Erasing) (cycles : ℕ) (old new : BankState) (a : ArrayState) (now : Lanes)
    : Type 0 where
  pub stands : Stands (looked e now new) a
  pub each : EachLane (LooksAt cycles) old.bus new.bus
  pub awake : (c : ℕ) → c < lanes_of old.bus → state_at now c ≢ Suspended
  pub works : (c : ℕ) → c < lanes_of old.bus → state_at now c ≡ Running → WorksOn (lane old.bus c)
  pub ends : (c : ℕ) → c < lanes_of old.bus → IsAwaited (state_at e.lanes c)
      → state_at now c ≢ Running → erase_left (lane old.bus c) < cycles

pub record Looks (e : Erasing) (old new : BankState) (now : Lanes) : Type 0 where
  pub cycles : ℕ
  pub few : cycles ≤ look_most
  pub went : Went cycles cycles old.bus new.bus
  pub kept : new ≡ with_bus old new.bus
  pub stands : (a : ArrayState) → Stands old a → LooksOver e cycles old new a now

-- A cycle of it failed, and the halt is kept. The chips hold the array.
pub record BreaksLook (old new : BankState) (a : ArrayState) : Type 0 where
  pub holds : HoldsAll new a
  pub remains : EachLane Remains old.bus new.bus
  pub suspends : EachLane (λ s t. t.suspends ≡ s.suspends) old.bus new.bus

pub record LosesLook (old new : BankState) (reply : Reply) : Type 0 where
  pub answer : reply ≡ HaltedReply (LostPower old.after)
  pub kept : new ≡ halting (with_bus old new.bus) (LostPower old.after)
  pub lost : Lost look_most old.bus new.bus
  pub breaks : (a : ArrayState) → Stands old a → BreaksLook old new a

-- ---- the way

-- The erase that is open is of one block: no other comes in the way of a call that works.
abbrev pub IsOfBlock : Option Erasing → Type 0
IsOfBlock None = Unit {0}
IsOfBlock (Some e) = (b : ℕ) × (e.target ≡ OneBlock b)

-- how many cycles it takes at most: those of a suspend
abbrev pub way_most : ℕ
way_most = 43

-- What it does to a chip: one that can be suspended counts that, and reads of it near its end.
pub record PassesBy (may : Bool) (cycles : ℕ) (s t : ChipState) : Type 0 where
  pub remains : Remains s t
  pub suspends : t.suspends ≡ suspends_after may s
  pub left : LeftFalls cycles s t

-- The bank goes on to stand for its array. Where the way is clear the chips are ready; else a lane worked.
pub record StandsOn (programs clear : Bool) (cycles : ℕ) (old new : BankState) (a : ArrayState) : Type 0 where
  pub stands : Stands new a
  pub ready : clear ≡ true → IsReady programs new
  pub waits : clear ≡ false → Waits old new
  pub each : EachLane (PassesBy (can_beside (suspend_of old.found.query.extended) programs) cycles) old.bus new.bus

pub record ClearsWay (programs : Bool) (old new : BankState) (clear : Bool) : Type 0 where
  pub cycles : ℕ
  pub few : cycles ≤ way_most
  pub went : Went cycles cycles old.bus new.bus
  pub kept : new ≡ record old { bus = new.bus; erase = new.erase }
  pub goes_on : GoesOn 0 old.erase new.erase
  pub lacks : clear ≡ false → can_beside (suspend_of old.found.query.extended) programs ≡ false
  pub stands : IsOfBlock old.erase → (a : ArrayState) → Stands old a
      → StandsOn programs clear cycles old new a

-- Given up: a cycle failed, or a lane was read working by each poll of a suspend. The chips hold the array.
abbrev pub CountsOnce : ChipState → ChipState → Type 0
CountsOnce s t = (t.suspends ≡ s.suspends) ⊎ (t.suspends ≡ counted s.suspends)

pub record BreaksWay (old new : BankState) (a : ArrayState) : Type 0 where
  pub holds : HoldsAll new a
  pub remains : EachLane Remains old.bus new.bus
  pub suspends : EachLane CountsOnce old.bus new.bus

abbrev pub LosesWay : (most : ℕ) → BankState → BankState → Halt → Type 0
LosesWay most old new Off =
    Lost most old.bus new.bus
    × (IsOfBlock old.erase → (a : ArrayState) → Stands old a → BreaksWay old new a)
LosesWay most old new (Stuck k) =
    ((k < old.found.geometry.lanes) × Counted 20 most old.bus new.bus)
    × (IsOfBlock old.erase → (a : ArrayState) → Stands old a
    → BreaksWay old new a × ((lane old.bus k).part.stuck ≡ true))

-- The halt is kept.
pub record HaltsWay (most : ℕ) (old new : BankState) (reply : Reply) : Type 0 where
  pub halt : Halt
  pub answer : reply ≡ HaltedReply (cause_of old.after halt)
  pub kept : new ≡ halting (with_bus old new.bus) (cause_of old.after halt)
  pub loses : LosesWay most old new halt

-- a lane counts a suspend, where one may be made, or none
abbrev pub MayCountSuspend : Bool → ChipState → ChipState → Type 0
MayCountSuspend may s t = (t.suspends ≡ s.suspends) ⊎ (t.suspends ≡ suspends_after may s)

-- ---- up to the work

-- a call that has these needs, and isn't one of the bank's own, nor a poll
pub record HasNeeds (needs : CallNeeds) (op : Op) : Type 0 where
  pub are : needs_of op ≡ needs
  pub unpolled : op ≡ Poll → ⊥
  pub arms : (after mask : ℕ) → op ≡ Arm after mask → ⊥
  pub powers : op ≡ PowerOn → ⊥

-- The call can work: nothing refuses it, and the chips are ready.
pub record BeginsWork (programs : Bool) (most : ℕ) (caller : ℕ) (op : Op) (old new : BankState) : Type 0 where
  pub works : Works caller op old
  pub running : old.halted ≡ None
  pub kept : new ≡ record old { bus = new.bus; erase = new.erase }
  pub goes_on : GoesOn 0 old.erase new.erase
  pub cycles : ℕ
  pub few : cycles ≤ most
  pub went : Went cycles cycles old.bus new.bus
  pub stands : (a : ArrayState) → Stands old a → StandsOn programs true cycles old new a

-- how many blocks a call touches at most
abbrev pub blocks_touched : BankState → Op → ℕ
blocks_touched b (Program at new) = words_in b at (length new) / 16 + 2
blocks_touched b EraseAll = length (blocks_of b.found)
blocks_touched b op = 1

-- six for each lock that is read
abbrev pub lock_most : BankState → Op → ℕ
lock_most b op = if locks_of b.found.query.extended then 6 * blocks_touched b op else 0

-- up to the work of a call whose blocks must be unlocked: the way, where an erase is open, and the locks
abbrev pub change_most : BankState → Op → ℕ
change_most b op = (if is_open b.erase then way_most else 0) + lock_most b op

-- and no block that it touches is locked
pub record BeginsChange (most : ℕ) (caller : ℕ) (op : Op) (old new : BankState) : Type 0 where
  pub begins : BeginsWork true most caller op old new
  pub unlocked : (a : ArrayState) → Stands old a → first_locked a op ≡ None
