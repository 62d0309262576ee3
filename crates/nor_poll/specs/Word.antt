-- Programming a word, by the calls of either set.
use Rattle.std.specs.Prelude.{◌≡◌, ◌<◌, ◌≤◌, ◌+◌, ◌*◌, ◌⊎◌, min, ℕ, List, Bool, true, false}
use Rattle.nor_cell.specs.Bits.{unit_bytes, has_bit}
use Rattle.nor_cell.specs.Chip.{ChipState, Mode, Array, Status, Rest, Program, has_blocks, block_of, is_locked, place, holds_at}
use Rattle.nor_cell.specs.Between.{TakesCommands}
use Rattle.nor_cell.specs.Look.{held_off}
use Rattle.nor_cell.specs.Steps.{written}
use Rattle.nor_cell.specs.declared.device.Set.{Set}
use Rattle.nor_cell.specs.declared.device.Set.TheVariants.{Intel, Amd}
use Rattle.nor_cell.specs.declared.geometry.Geometry.{Geometry}
use Rattle.nor_word.specs.Word.{lane_of}
use Rattle.nor_bus.specs.Bus.{BusState, lane, lanes_of, wide}
use Rattle.nor_bus.specs.Driven.{Reaches, Went, Lost, AllLanes, Counted, EachLane, EachPart, Darkens}
use Rattle.nor_poll.specs.Codes.{after_cycles, cycles_of, cycle_count, DarkensIn}
use Rattle.nor_poll.specs.Losing.{Tears, Loses, DarkensPolling}
use Rattle.nor_poll.specs.Reads.{EachRead}
use Rattle.nor_poll.specs.declared.codes.Command.TheVariants.{ProgramWord}
use Rattle.nor_poll.specs.Rest.{settled, cleared_flags}
use Rattle.nor_poll.specs.Words.{word_reads, breaks, unit_breaks, Stores, ClearsBits, HoldsBytes}
use Rattle.nor_poll.specs.declared.lanes.LaneSet.{LaneSet}
use Rattle.nor_poll.specs.declared.lanes.Halt.{Halt}
use Rattle.nor_poll.specs.declared.lanes.Halt.TheVariants.{Off, Stuck}
use Rattle.nor_poll.specs.declared.watch.Seen.{Seen}
use Rattle.nor_poll.specs.declared.watch.Seen.TheVariants.{Working, Ready, Suspended, Broken}

-- A chip of the set that would program unit u: the unit's block not locked, and no held erase in the way.
pub record TakesProgram (kind : Set) (u : ℕ) (s : ChipState) : Type 0 where
  pub takes : TakesCommands kind s
  pub blocks : has_blocks s.part.blocks ≡ true
  pub unlocked : is_locked s (block_of s u) ≡ false
  pub free : held_off s (block_of s u) ≡ false
  -- so it is where the blocks follow each other; set 0002 shows it in what it answers
  pub outside : kind ≡ Amd → holds_at s.held s.part.blocks (place s.part u) ≡ false

-- what the set shows after a program
abbrev pub work_mode : Set → Mode
work_mode Intel = Status
work_mode Amd = Array

-- the chip programs these bytes from place p on
abbrev pub programming : Set → ℕ → List ℕ → ℕ → ChipState → ChipState
programming kind p bytes left s =
    record s { mode = work_mode kind; step = Rest; flags = cleared_flags kind s.flags; job = Program p bytes left }

-- the chip began to program v at unit u
abbrev pub BeginsWord : Set → ℕ → ℕ → ChipState → ChipState → Type 0
BeginsWord kind u v s t =
    TakesProgram kind u s → t ≡ programming kind (place s.part u) (unit_bytes s.part.device v) (word_reads s) s

-- These bytes were programmed from place p on: the cells have become old AND new, which is new where new has no bit that old
-- lacked; or bits between, from where the program broke off. All else is as before, but for the toggle bits of set 0002; the
-- array is shown, and no error stands.
pub record ProgramDone (kind : Set) (p : ℕ) (bytes : List ℕ) (s t : ChipState) : Type 0 where
  pub cells : Stores p bytes s t.cells
  pub holds : breaks p bytes s ≡ false → ClearsBits p bytes s.cells → HoldsBytes p bytes t.cells
  pub rest : t ≡ record (settled kind s) { cells = t.cells; toggle_6 = t.toggle_6; toggle_2 = t.toggle_2 }
  pub still : kind ≡ Intel → (t.toggle_6 ≡ s.toggle_6) × (t.toggle_2 ≡ s.toggle_2)

-- so it is with v at unit u
abbrev pub WordDone : Set → ℕ → ℕ → ChipState → ChipState → Type 0
WordDone kind u v s t = ProgramDone kind (place s.part u) (unit_bytes s.part.device v) s t

abbrev pub ProgramsWord : Set → ℕ → ℕ → ChipState → ChipState → Type 0
ProgramsWord kind u v s t = TakesProgram kind u s → WordDone kind u v s t

-- a bit tells whether the chip broke off
abbrev pub TellsBroken : Set → ℕ → Bool → ℕ → ChipState → Type 0
TellsBroken kind u bit v s = TakesProgram kind u s → bit ≡ unit_breaks u v s

-- the chip isn't stuck, and shows a word working for so many reads at most
pub record EndsWithin (kind : Set) (u most : ℕ) (s : ChipState) : Type 0 where
  pub takes : TakesProgram kind u s
  pub free : s.part.stuck ≡ false
  pub reads : word_reads s ≤ most

-- power went: unit u has bits between
abbrev pub LosesWord : Set → ℕ → ℕ → ChipState → ChipState → Type 0
LosesWord kind u v s t = TakesProgram kind u s → Loses (place s.part u) (unit_bytes s.part.device v) s t

-- another lane was stuck, or this one: unit u has bits between
abbrev pub TearsWord : Set → ℕ → ℕ → ChipState → ChipState → Type 0
TearsWord kind u v s t = TakesProgram kind u s → Tears (place s.part u) (unit_bytes s.part.device v) s t

-- a lane that is read working so often is stuck
abbrev pub IsStuckBy : Set → ℕ → ℕ → ChipState → Type 0
IsStuckBy kind u limit s = TakesProgram kind u s → word_reads s < limit → s.part.stuck ≡ true

-- ---- how many cycles a call makes

-- up to the word itself
abbrev pub word_begin : Set → ℕ
word_begin set = cycle_count set ProgramWord + 1

-- at most, with so many polls
abbrev pub word_most : Set → ℕ → ℕ
word_most Intel limit = limit + 5
word_most Amd limit = 2 * limit + 6

-- at most, where no lane breaks off or works for more reads than `most`
abbrev pub word_prompt : Set → ℕ → ℕ
word_prompt Intel most = most + 5
word_prompt Amd most = most + 7

-- up to the last poll that a stuck lane is given
abbrev pub word_stuck : Set → ℕ → ℕ
word_stuck Intel limit = limit + 3
word_stuck Amd limit = 2 * limit + 4

-- how many reads the polls make at most, and how many where a lane works at each
abbrev pub program_reads : Set → ℕ → ℕ
program_reads Intel limit = limit
program_reads Amd limit = 2 * limit + 1

abbrev pub working_at_each : Set → ℕ → ℕ
working_at_each Intel limit = limit
working_at_each Amd limit = 2 * limit

-- ---- which cycles had reached the chips

-- lane c's chip as its part of the word was sent
abbrev pub word_to : ℕ → List ℕ → ℕ → ChipState → ChipState
word_to u word c s = written s u (lane_of (wide s) word c)

-- the command before it
abbrev pub word_sent : Set → ℕ → List ℕ → ℕ → ChipState → ChipState
word_sent set u word c s = word_to u word c (after_cycles u (cycles_of set ProgramWord) s)

-- power went while the command was written, or the word
abbrev pub DarkensSending : Set → ℕ → BusState → BusState → Type 0
DarkensSending set u old new =
    EachLane (DarkensIn u (cycles_of set ProgramWord)) old new
    ⊎ EachLane (λ s t. Darkens (after_cycles u (cycles_of set ProgramWord) s) t) old new

-- or after that
abbrev pub DarkensWord : Set → ℕ → List ℕ → ℕ → BusState → BusState → Type 0
DarkensWord set u word limit old new =
    DarkensSending set u old new
    ⊎ DarkensPolling (word_sent set u word) (word_begin set) (program_reads set limit) set u old new

-- ---- all lanes

-- The set has the lanes that broke off, and no lane that isn't there.
pub record AreBroken (set : Set) (width : ℕ) (g : Geometry) (u : ℕ) (word : List ℕ) (old : BusState) (broken : LaneSet)
    : Type 0 where
  pub told : Reaches width g u old → (c : ℕ) → c < lanes_of old
      → TellsBroken set u (has_bit broken.bits c) (lane_of (wide (lane old c)) word c) (lane old c)
  pub past : (c : ℕ) → g.lanes ≤ c → has_bit broken.bits c ≡ false

-- Where no lane works for more than `most` reads, there were few more cycles; one more where a lane broke off.
abbrev pub IsPrompt : Set → ℕ → Geometry → ℕ → BusState → BusState → LaneSet → Type 0
IsPrompt set width g u old new broken =
    Reaches width g u old → (most : ℕ) → AllLanes (EndsWithin set u most) old
    → Counted 5 (word_prompt set most + min broken.bits 1) old new

-- The call was given up: a cycle failed, or lane k was told to work by `limit` polls.
abbrev pub WordHalts : Set → ℕ → Geometry → ℕ → List ℕ → ℕ → BusState → BusState → Halt → Type 0
WordHalts set width g u word limit old new Off =
    Lost (word_most set limit) old new × (Reaches width g u old → EachPart word (LosesWord set u) old new)
    × (Reaches width g u old → DarkensWord set u word limit old new)
WordHalts set width g u word limit old new (Stuck k) =
    (k < g.lanes) × Went (word_stuck set limit) (word_stuck set limit) old new
    × (Reaches width g u old → EachPart word (TearsWord set u) old new)
    × (Reaches width g u old → IsStuckBy set u limit (lane old k))
    × (Reaches width g u old → EachRead (word_sent set u word) (working_at_each set limit) old new)

-- what is told of a lane that broke off
abbrev pub is_broken : Seen → Bool
is_broken Working = false
is_broken Ready = false
is_broken Suspended = false
is_broken (Broken how) = true
