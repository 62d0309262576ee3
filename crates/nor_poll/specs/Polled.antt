-- Polls of either set: what they ask of a chip, and how many reads they make.
use Rattle.std.specs.Prelude.{◌⊎◌, ◌==◌, ℕ, List, if◌then◌else◌}
use Rattle.nor_cell.specs.Chip.{ChipState}
use Rattle.nor_cell.specs.declared.device.Set.{Set}
use Rattle.nor_cell.specs.declared.device.Set.TheVariants.{Intel, Amd}
use Rattle.nor_cell.specs.declared.geometry.Geometry.{Geometry}
use Rattle.nor_word.specs.Word.{lane_of}
use Rattle.nor_bus.specs.Bus.{BusState, wide}
use Rattle.nor_poll.specs.Told.{ShowsStatus, past_program}
use Rattle.nor_poll.specs.Toggles.{ShowsToggle, ShowsDatum}
use Rattle.nor_poll.specs.Reads.{ReadBy, SomeLeft}
use Rattle.nor_poll.specs.declared.polling.Polling.{Polling}
use Rattle.nor_poll.specs.declared.polling.Polling.TheVariants.{Status, EraseStatus, Toggle, Data}

-- the poll tells of the chip in lane c
abbrev pub Answers : {W : Type 0} (bytes : W → List ℕ) → Polling W → ℕ → ℕ → ChipState → Type 0
Answers bytes Status u c s = ShowsStatus s
Answers bytes EraseStatus u c s = ShowsStatus s
Answers bytes Toggle u c s = ShowsToggle u s
Answers bytes (Data datum) u c s = ShowsDatum u (lane_of (wide s) (bytes datum) c) s

-- the chip as the poll sees it
abbrev pub viewed : {W : Type 0} → Polling W → ChipState → ChipState
viewed Status s = s
viewed EraseStatus s = past_program s
viewed Toggle s = s
viewed (Data datum) s = s

-- how many reads a poll makes that tells a lane to work
abbrev pub working_reads : {W : Type 0} → Polling W → ℕ
working_reads Status = 1
working_reads EraseStatus = 1
working_reads Toggle = 2
working_reads (Data datum) = 2

-- how many any poll makes at most
abbrev pub most_reads : {W : Type 0} → Polling W → ℕ
most_reads Status = 1
most_reads EraseStatus = 1
most_reads Toggle = 3
most_reads (Data datum) = 2

-- as many as one that tells a lane to work; or the most, where a job had reads left at the first
abbrev pub InTime : {W : Type 0} → Polling W → BusState → BusState → Type 0
InTime how old new = ReadBy 1 (working_reads how) old new ⊎ (ReadBy 1 (most_reads how) old new × SomeLeft old)

-- set 0001 is polled by its status, and set 0002 by what toggles
abbrev pub set_polling : {W : Type 0} → Set → Polling W
set_polling Intel = Status
set_polling Amd = Toggle

-- So is a program, but that of set 0002 on a bank of one lane by its word.
abbrev pub polling_for : {W : Type 0} → Set → Geometry → W → Polling W
polling_for Intel g word = Status
polling_for Amd g word = if g.lanes == 1 then Data word else Toggle
