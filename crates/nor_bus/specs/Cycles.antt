-- What a cycle of the bus does.
use Rattle.std.specs.Prelude.{◌≡◌, ◌<◌, ◌≤◌, ℕ, true, false, List, Some, None}
use Rattle.nor_cell.specs.Chip.{ChipState}
use Rattle.nor_cell.specs.Steps.{Reads, Keeps, written}
use Rattle.nor_cell.specs.Power.{Cuts, powered}
use Rattle.nor_word.specs.Word.{lane_of}
use Rattle.nor_bus.specs.declared.bus.Armed.{Armed}
use Rattle.nor_bus.specs.Bus.{BusState, lane, lanes_of, wide, nearer, more, fails}

-- what no cycle changes, of each lane
pub record KeepsLanes (old new : BusState) : Type 0 where
  pub count : lanes_of new ≡ lanes_of old
  pub each : (c : ℕ) → c < lanes_of old → Keeps (lane old c) (lane new c)

-- A cycle reached the chips: what becomes of all but them.
pub record Passes (old new : BusState) : Type 0 where
  pub allowed : fails old ≡ false
  pub power : new.power ≡ true
  pub armed : new.armed ≡ nearer 1 old.armed
  pub cycles : new.cycles ≡ more 1 old.cycles
  pub failed : new.failed ≡ old.failed

-- Each lane's part of the word is its chip's answer.
pub record BusReads (old : BusState) (u : ℕ) (word : List ℕ) (new : BusState) : Type 0 where
  pub passes : Passes old new
  pub each : (c : ℕ) → c < lanes_of old → Reads (lane old c) u (lane_of (wide (lane old c)) word c) (lane new c)

-- Each lane's part of the word is written to its chip.
pub record BusWrites (old : BusState) (u : ℕ) (word : List ℕ) (new : BusState) : Type 0 where
  pub passes : Passes old new
  pub each : (c : ℕ) → c < lanes_of old → lane new c ≡ written (lane old c) u (lane_of (wide (lane old c)) word c)

-- A cycle failed: power is off. Where it went just now, each chip was cut.
pub record BusFails (old new : BusState) : Type 0 where
  pub power : new.power ≡ false
  pub off_before : old.power ≡ false → new.lanes ≡ old.lanes
  pub cut_now : old.power ≡ true → (c : ℕ) → c < lanes_of old → Cuts (lane old c) (lane new c)
  pub armed : new.armed ≡ old.armed
  pub cycles : new.cycles ≡ old.cycles
  pub failed : more 1 old.failed ≤ new.failed

-- Where power went just now, each chip has left of its work what the armed mask says.
abbrev pub LeavesByMask : (leaves : ℕ → ChipState → ChipState → Type 0) → BusState → BusState → Type 0
LeavesByMask leaves old new =
    old.power ≡ true → (cut : Armed) → old.armed ≡ Some cut → (c : ℕ) → c < lanes_of old
    → leaves cut.mask (lane old c) (lane new c)

-- Power comes back.
pub record PowersOn (old new : BusState) : Type 0 where
  pub power : new.power ≡ true
  pub armed : new.armed ≡ None
  pub cycles : new.cycles ≡ old.cycles
  pub failed : new.failed ≡ old.failed
  pub each : (c : ℕ) → c < lanes_of old → lane new c ≡ powered (lane old c)
