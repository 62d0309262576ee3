-- Any number of reads of a chip, one after another.
use Rattle.std.specs.Prelude.{◌≡◌, ◌<◌, ◌≤◌, ◌+◌, ◌⊎◌, ℕ, zero, suc}
use Rattle.nor_cell.specs.Chip.{ChipState}
use Rattle.nor_bus.specs.Bus.{BusState, lane, lanes_of}
use Rattle.nor_bus.specs.Driven.{Went, Lost, EachLane, Darkens}
use Rattle.nor_poll.specs.Told.{IsLooked, HasLeft}

-- the chip after n reads
pub data AfterReads (s : ChipState) : ℕ → ChipState → Type 0 where
  NoReads : AfterReads s zero s
  OneMore : {n : ℕ} {m t : ChipState} → AfterReads s n m → IsLooked m t → AfterReads s (suc n) t

-- after n reads the job has reads left, or the chip is stuck
pub record WorksAfter (n : ℕ) (s : ChipState) : Type 0 where
  pub mid : ChipState
  pub reads : AfterReads s n mid
  pub left : HasLeft mid

-- power went after n reads
pub record DarkAfter (n : ℕ) (s t : ChipState) : Type 0 where
  pub mid : ChipState
  pub reads : AfterReads s n mid
  pub dark : Darkens mid t

-- ---- after what was sent, which may go by the lane's number

-- each lane went from old to new as P says of its number
abbrev pub EachNumbered : (ℕ → ChipState → ChipState → Type 0) → BusState → BusState → Type 0
EachNumbered P old new = (c : ℕ) → c < lanes_of old → P c (lane old c) (lane new c)

-- it was sent to each lane's chip
abbrev pub EachSent : (sent : ℕ → ChipState → ChipState) → BusState → BusState → Type 0
EachSent sent old new = EachNumbered (λ c s t. t ≡ sent c s) old new

-- and then each was read n times
abbrev pub EachRead : (sent : ℕ → ChipState → ChipState) → ℕ → BusState → BusState → Type 0
EachRead sent n old new = EachNumbered (λ c s t. AfterReads (sent c s) n t) old new

-- Power went in the reads after it. It took `before` cycles; fewer than `most` reads reached the chips, of each lane as
-- many, and the bus's own count tells how many.
pub record DarkensAfter (sent : ℕ → ChipState → ChipState) (before most : ℕ) (old new : BusState) : Type 0 where
  pub lost : Lost (before + most) old new
  pub reads : ℕ
  pub counted : lost.cycles ≡ before + reads
  pub each : EachNumbered (λ c s t. DarkAfter reads (sent c s) t) old new

-- ---- calls of reads alone

-- Power went in the reads of a call: each lane was read as often as cycles reached the chips.
pub record DarkensReading (most : ℕ) (old new : BusState) : Type 0 where
  pub lost : Lost most old new
  pub each : EachLane (DarkAfter lost.cycles) old new

-- All cycles of a call were reads that reached the chips: from `least` to `most` of them, and each lane was read as
-- often.
pub record ReadBy (least most : ℕ) (old new : BusState) : Type 0 where
  pub reads : ℕ
  pub enough : least ≤ reads
  pub few : reads ≤ most
  pub went : Went reads reads old new
  pub each : EachLane (λ s t. AfterReads s reads t) old new

-- in some lane the job has reads left, or the chip is stuck
pub record SomeLeft (bus : BusState) : Type 0 where
  pub number : ℕ
  pub there : number < lanes_of bus
  pub left : HasLeft (lane bus number)

-- Of two reads, or of three where a job had reads left at the first.
abbrev pub TwoOrLate : BusState → BusState → Type 0
TwoOrLate old new = ReadBy 2 2 old new ⊎ (ReadBy 3 3 old new × SomeLeft old)
