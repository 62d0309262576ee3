-- What a driver's call does to a bus.
use Rattle.std.specs.Prelude.{◌≡◌, ◌<◌, ◌≤◌, ◌+◌, ◌*◌, ◌%◌, ◌==◌, ◌⊎◌, ℕ, List, true, false, if◌then◌else◌, Option, Some, None, Result, MatchResult}
use Rattle.nor_bus.specs.declared.bus.Armed.{Armed}
use Rattle.nor_cell.specs.Chip.{ChipState}
use Rattle.nor_cell.specs.Power.{Cuts}
use Rattle.nor_cell.specs.Steps.{Reads, written}
use Rattle.nor_cell.specs.declared.geometry.Geometry.{Geometry}
use Rattle.nor_word.specs.Word.{lane_of}
use Rattle.nor_bus.specs.Bus.{BusState, lane, lanes_of, units_of, wide, more, IsBank}
use Rattle.nor_bus.specs.Cycles.{KeepsLanes}

-- The geometry is the bus's own.
pub record IsOwn (width : ℕ) (g : Geometry) (bus : BusState) : Type 0 where
  pub bank : IsBank width g.device bus.lanes
  pub count : lanes_of bus ≡ g.lanes

-- So it is, and the bus has the address.
pub record Reaches (width : ℕ) (g : Geometry) (at : ℕ) (bus : BusState) : Type 0 where
  pub own : IsOwn width g bus
  pub there : at < units_of bus

-- the bus word that a call at an address reaches: the bus takes it modulo its own
abbrev pub reached : ℕ → BusState → ℕ
reached at bus = at % units_of bus

-- an armed cut that is from `least` to `most` cycles nearer
abbrev pub Nearer : (least most : ℕ) → Option Armed → Option Armed → Type 0
Nearer least most None None = Unit {0}
Nearer least most (Some old) (Some new) = (new.after + least ≤ old.after)
    × (old.after ≤ new.after + most) × (new.mask ≡ old.mask)
Nearer least most None (Some new) = ⊥
Nearer least most (Some old) None = ⊥

-- All cycles of a call reached the chips: from `least` to `most` of them.
pub record Went (least most : ℕ) (old new : BusState) : Type 0 where
  -- power stays on, and none of them brings it back
  pub power : old.power ≡ true → new.power ≡ true
  pub was_on : new.power ≡ true → old.power ≡ true
  -- a cycle that reached the chips shows that power is on
  pub on : 0 < least → new.power ≡ true
  pub armed : Nearer least most old.armed new.armed
  pub enough : more least old.cycles ≤ new.cycles
  pub few : new.cycles ≤ old.cycles + most
  pub failed : new.failed ≡ old.failed
  pub kept : KeepsLanes old new

-- an armed cut that comes within so many cycles
abbrev pub IsDue : ℕ → Option Armed → Type 0
IsDue most None = ⊥
IsDue most (Some cut) = cut.after < most

-- A cycle of a call failed, as power went or was off. Together with those before it there were at most `most`.
pub record Lost (most : ℕ) (old new : BusState) : Type 0 where
  -- how many reached the chips before it
  pub cycles : ℕ
  pub before : cycles < most
  pub power : new.power ≡ false
  pub was_armed : old.power ≡ true → old.armed ≡ None → ⊥
  -- power went by the armed cut, which came within the call; it stays armed
  pub due : old.power ≡ true → IsDue most old.armed
  pub armed : Nearer cycles cycles old.armed new.armed
  pub rose : more cycles old.cycles ≤ new.cycles
  pub few : new.cycles ≤ old.cycles + cycles
  pub failed : more 1 old.failed ≤ new.failed
  pub kept : KeepsLanes old new

-- All cycles of a call reached the chips: from `least` to `most` of them. The count of cycles rose by as many as an armed
-- cut came nearer.
pub record Counted (least most : ℕ) (old new : BusState) : Type 0 where
  pub cycles : ℕ
  pub enough : least ≤ cycles
  pub few : cycles ≤ most
  pub went : Went cycles cycles old new

-- A call asked for so many cycles: all reached the chips, or one of them failed.
abbrev pub Asks : {T E : Type 0} → ℕ → Result T E → BusState → BusState → Type 0
Asks n result old new = MatchResult result (λ v. Went n n old new) (λ e. Lost n old new)

-- a cycle failed: the chip was cut, or had no power before
abbrev pub Darkens : ChipState → ChipState → Type 0
Darkens s t = (t ≡ s) ⊎ Cuts s t

-- a code in every byte of a lane
abbrev pub spread : ℕ → ℕ → ℕ
spread d code = if d == 1 then code else code + 256 * code

-- each lane went from old to new as P says
abbrev pub EachLane : (ChipState → ChipState → Type 0) → BusState → BusState → Type 0
EachLane P old new = (c : ℕ) → c < lanes_of old → P (lane old c) (lane new c)

-- of each lane P holds
abbrev pub AllLanes : (ChipState → Type 0) → BusState → Type 0
AllLanes P bus = (c : ℕ) → c < lanes_of bus → P (lane bus c)

-- the lane took a code, in each of its bytes
abbrev pub TakesCode : ℕ → ℕ → ChipState → ChipState → Type 0
TakesCode u code s t = t ≡ written s u (spread (wide s) code)

-- each lane went from old to new as P says of its part of a word
abbrev pub EachPart : List ℕ → (ℕ → ChipState → ChipState → Type 0) → BusState → BusState → Type 0
EachPart word P old new = (c : ℕ) → c < lanes_of old → P (lane_of (wide (lane old c)) word c) (lane old c) (lane new c)

-- the lane took its part of a word, or answered it
abbrev pub TakesPart : ℕ → ℕ → ChipState → ChipState → Type 0
TakesPart u part s t = t ≡ written s u part

abbrev pub AnswersPart : ℕ → ℕ → ChipState → ChipState → Type 0
AnswersPart u part s t = Reads s u part t
