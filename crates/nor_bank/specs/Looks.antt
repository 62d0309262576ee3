-- A look at an erase over the bus alone, lane by lane.
use Rattle.std.specs.Prelude.{◌≡◌, ◌≢◌, ◌<◌, ◌≤◌, ◌+◌, ◌⊎◌, ℕ, true, false, slice_index}
use Rattle.nor_cell.specs.Between.{Waits, IsShown}
use Rattle.nor_cell.specs.Chip.{ChipState, Target, has_blocks, is_within}
use Rattle.nor_cell.specs.Steps.{Remains}
use Rattle.nor_cell.specs.declared.device.Set.{Set}
use Rattle.nor_cell.specs.declared.geometry.Geometry.{Geometry}
use Rattle.nor_bus.specs.Bus.{BusState, lane, lanes_of}
use Rattle.nor_bus.specs.Driven.{AllLanes, Went, Lost, Reaches}
use Rattle.nor_poll.specs.Erase.{TakesLook}
use Rattle.nor_poll.specs.Toggles.{names_job}
use Rattle.nor_poll.specs.UnderErase.{LaneIs, erase_left, part_of, state_at}
use Rattle.nor_poll.specs.declared.lanes.LaneState.{LaneState}
use Rattle.nor_poll.specs.declared.lanes.LaneState.TheVariants.{Running, Suspended}
use Rattle.nor_poll.specs.declared.lanes.Lanes.{Lanes}
use Rattle.nor_bank.specs.Counts.{Nears}

-- ---- where lanes are

-- one of so many lanes is in this state
pub record SomeLaneIs (count : ℕ) (lanes : Lanes) (state : LaneState) : Type 0 where
  pub number : ℕ
  pub there : number < count
  pub is : state_at lanes number ≡ state

abbrev pub NoLaneIs : (count : ℕ) → Lanes → LaneState → Type 0
NoLaneIs count lanes state = (c : ℕ) → c < count → state_at lanes c ≢ state

-- a lane that hadn't ended, as far as was known
abbrev pub IsAwaited : LaneState → Type 0
IsAwaited state = (state ≡ Running) ⊎ (state ≡ Suspended)

-- a lane had reads left, or is stuck
abbrev pub WorksOn : ChipState → Type 0
WorksOn s = (0 < erase_left s) ⊎ (s.part.stuck ≡ true)

-- ---- what it asks

-- Each lane is where it is told to be in the erase, none running while another is suspended. Where
-- none runs each shows its array.
pub record CanLook (set : Set) (target : Target) (lanes : Lanes) (bus : BusState) : Type 0 where
  pub waits : AllLanes (Waits set) bus
  pub named : AllLanes (λ s. names_job s.fault ≡ true) bus
  pub blocks : AllLanes (λ s. has_blocks s.part.blocks ≡ true) bus
  pub each : (c : ℕ) → c < lanes_of bus → LaneIs (state_at lanes c) target (lane bus c)
  pub not_mixed : (c k : ℕ) → c < lanes_of bus → k < lanes_of bus → state_at lanes c ≡ Running
      → state_at lanes k ≡ Suspended → ⊥
  pub shown : NoLaneIs (lanes_of bus) lanes Running → AllLanes IsShown bus

-- and none is suspended
pub record CanPoll (set : Set) (target : Target) (lanes : Lanes) (bus : BusState) : Type 0 where
  pub takes : (c : ℕ) → c < lanes_of bus → TakesLook set target (state_at lanes c) (lane bus c)
  pub shown : NoLaneIs (lanes_of bus) lanes Running → AllLanes IsShown bus

-- ---- what it makes of a lane

-- The chip is what it was, and no byte has changed but of what is under erase.
pub record StaysOutside (target : Target) (s t : ChipState) : Type 0 where
  pub remains : Remains s t
  pub outside : (p : ℕ) → is_within (part_of target s) p ≡ false
      → slice_index t.cells p ≡ slice_index s.cells p

-- The lane went from one state to another in so many cycles, and its chip from s to t. It runs on
-- only where it had reads left, or is stuck; and has ended only where it had fewer than there were
-- cycles.
pub record LaneLooks (set : Set) (target : Target) (before after : LaneState) (cycles : ℕ)
    (s t : ChipState) : Type 0 where
  pub takes : TakesLook set target after t
  pub stays : StaysOutside target s t
  pub suspends : t.suspends ≡ s.suspends
  pub most : erase_left t ≤ erase_left s
  pub left : erase_left s ≤ erase_left t + cycles
  pub nears : Nears s t
  pub works : after ≡ Running → WorksOn s
  pub ends : IsAwaited before → after ≢ Running → erase_left s < cycles

-- So it is with each lane, and where none runs then each shows its array.
pub record LooksBy (Can : Target → Type 0) (most : ℕ) (set : Set) (width : ℕ) (g : Geometry)
    (at : ℕ) (lanes : Lanes) (old new : BusState) (now : Lanes) : Type 0 where
  pub cycles : ℕ
  pub few : cycles ≤ most
  pub went : Went cycles cycles old new
  pub each : Reaches width g at old → (target : Target) → Can target → (c : ℕ) → c < lanes_of old
      → LaneLooks set target (state_at lanes c) (state_at now c) cycles (lane old c) (lane new c)
  pub shown : Reaches width g at old → (target : Target) → Can target
      → NoLaneIs (lanes_of old) now Running → AllLanes IsShown new

-- what is left of a lane where a cycle failed
pub record LaneLoses (target : Target) (s t : ChipState) : Type 0 where
  pub stays : StaysOutside target s t
  pub suspends : t.suspends ≡ s.suspends

pub record LosesBy (Can : Target → Type 0) (most : ℕ) (width : ℕ) (g : Geometry) (at : ℕ)
    (old new : BusState) : Type 0 where
  pub lost : Lost most old new
  pub each : Reaches width g at old → (target : Target) → Can target → (c : ℕ) → c < lanes_of old
      → LaneLoses target (lane old c) (lane new c)
