-- Programming a buffer of bus words, by the calls of either set.
use Rattle.std.specs.Prelude.{◌≡◌, ◌<◌, ◌≤◌, ◌+◌, ◌-◌, ◌*◌, ◌/◌, ◌⊎◌, min, ℕ, List, [], ◌∷◌, ◌++◌, length, Bool, true, false}
use Rattle.nor_cell.specs.Bits.{unit_len, unit_bytes, has_bit}
use Rattle.nor_cell.specs.Chip.{ChipState, has_blocks, block_of, is_locked, place, holds_at}
use Rattle.nor_cell.specs.Between.{TakesCommands}
use Rattle.nor_cell.specs.Loads.{room}
use Rattle.nor_cell.specs.Look.{held_off}
use Rattle.nor_cell.specs.Steps.{written}
use Rattle.nor_cell.specs.Table.{left_at_start}
use Rattle.nor_cell.specs.declared.device.Device.{Device}
use Rattle.nor_cell.specs.declared.device.Set.{Set}
use Rattle.nor_cell.specs.declared.device.Set.TheVariants.{Intel, Amd}
use Rattle.nor_cell.specs.declared.device.Work.TheVariants.{Buffer}
use Rattle.nor_cell.specs.declared.geometry.Geometry.{Geometry}
use Rattle.nor_word.specs.Word.{lane_of}
use Rattle.nor_bus.specs.Bus.{BusState, lane, lanes_of, wide}
use Rattle.nor_bus.specs.Driven.{Reaches, Went, Lost, AllLanes, Counted, EachLane, Darkens}
use Rattle.nor_poll.specs.Codes.{cycle_count, cycles_of, code, after_cycle, after_cycles, DarkensIn}
use Rattle.nor_poll.specs.Losing.{Tears, Loses, DarkensPolling}
use Rattle.nor_poll.specs.Reads.{EachNumbered, EachRead}
use Rattle.nor_poll.specs.Word.{ProgramDone, programming, program_reads, working_at_each}
use Rattle.nor_poll.specs.Words.{breaks}
use Rattle.nor_poll.specs.declared.codes.To.TheVariants.{Here}
use Rattle.nor_poll.specs.declared.codes.Command.TheVariants.{LoadBuffer, ConfirmLoad}
use Rattle.nor_poll.specs.declared.lanes.LaneSet.{LaneSet}
use Rattle.nor_poll.specs.declared.lanes.Halt.{Halt}
use Rattle.nor_poll.specs.declared.lanes.Halt.TheVariants.{Off, Stuck}

-- ---- bus words, one after another

-- lane c's part of the words, as bytes
abbrev pub load_of : Device → ℕ → List (List ℕ) → List ℕ
load_of device c [] = []
load_of device c (word ∷ words) = unit_bytes device (lane_of (unit_len device) word c) ++ load_of device c words

-- each lane went from old to new as P says of its part of the words
abbrev pub EachLoad : List (List ℕ) → (List ℕ → ChipState → ChipState → Type 0) → BusState → BusState → Type 0
EachLoad words P old new =
    (c : ℕ) → c < lanes_of old → P (load_of (lane old c).part.device c words) (lane old c) (lane new c)

-- the last of n units from u on
abbrev pub last_of : ℕ → ℕ → ℕ
last_of u n = u + (n - 1)

-- lane c's chip after its parts of the words were written to it, from unit u on
abbrev pub after_words : ℕ → ℕ → List (List ℕ) → ChipState → ChipState
after_words c u [] s = s
after_words c u (word ∷ words) s = after_words c (u + 1) words (written s u (lane_of (wide s) word c))

-- one of them failed: the chip was cut after those before it, or had no power
abbrev pub DarkensInWords : ℕ → ℕ → List (List ℕ) → ChipState → ChipState → Type 0
DarkensInWords c u [] s t = ⊥
DarkensInWords c u (word ∷ words) s t =
    Darkens s t ⊎ DarkensInWords c (u + 1) words (written s u (lane_of (wide s) word c)) t

-- ---- one chip

-- how many reads a load shows working
abbrev pub load_reads : ChipState → ℕ
load_reads s = left_at_start Buffer s.part.pace_program s.part.table

-- A chip of the set that would program n units from u on: they have room in its buffer, and lie in one buffer page
-- and in one block, the block isn't locked, and no held erase is in the way.
pub record TakesLoad (kind : Set) (u n : ℕ) (s : ChipState) : Type 0 where
  pub takes : TakesCommands kind s
  pub blocks : has_blocks s.part.blocks ≡ true
  pub some : 0 < n
  pub few : n ≤ room s
  pub page : last_of u n / room s ≡ u / room s
  pub block : block_of s (last_of u n) ≡ block_of s u
  pub unlocked : is_locked s (block_of s u) ≡ false
  pub free : held_off s (block_of s u) ≡ false
  -- so it is where the blocks follow each other; set 0002 shows it in what it answers
  pub outside : kind ≡ Amd → holds_at s.held s.part.blocks (place s.part (last_of u n)) ≡ false

-- the chip began to program these bytes from unit u on
abbrev pub BeginsLoad : Set → ℕ → ℕ → List ℕ → ChipState → ChipState → Type 0
BeginsLoad kind u n bytes s t = TakesLoad kind u n s → t ≡ programming kind (place s.part u) bytes (load_reads s) s

abbrev pub ProgramsLoad : Set → ℕ → ℕ → List ℕ → ChipState → ChipState → Type 0
ProgramsLoad kind u n bytes s t = TakesLoad kind u n s → ProgramDone kind (place s.part u) bytes s t

-- a bit tells whether the chip broke off
abbrev pub TellsLoadBroken : Set → ℕ → ℕ → List ℕ → Bool → ChipState → Type 0
TellsLoadBroken kind u n bytes bit s = TakesLoad kind u n s → bit ≡ breaks (place s.part u) bytes s

-- the chip isn't stuck, and shows a load working for so many reads at most
pub record LoadEndsWithin (kind : Set) (u n most : ℕ) (s : ChipState) : Type 0 where
  pub takes : TakesLoad kind u n s
  pub free : s.part.stuck ≡ false
  pub reads : load_reads s ≤ most

-- power went: each unit of the load has bits between
abbrev pub LosesLoad : Set → ℕ → ℕ → List ℕ → ChipState → ChipState → Type 0
LosesLoad kind u n bytes s t = TakesLoad kind u n s → Loses (place s.part u) bytes s t

-- another lane was stuck, or this one: the same
abbrev pub TearsLoad : Set → ℕ → ℕ → List ℕ → ChipState → ChipState → Type 0
TearsLoad kind u n bytes s t = TakesLoad kind u n s → Tears (place s.part u) bytes s t

-- a lane that is read working so often is stuck
abbrev pub IsStuckByLoad : Set → ℕ → ℕ → ℕ → ChipState → Type 0
IsStuckByLoad kind u n limit s = TakesLoad kind u n s → load_reads s < limit → s.part.stuck ≡ true

-- ---- how many cycles a load of n words makes

-- up to the confirm
abbrev pub load_begin : Set → ℕ → ℕ
load_begin set n = cycle_count set LoadBuffer + 1 + n + cycle_count set ConfirmLoad

-- at most, with so many polls
abbrev pub load_most : Set → ℕ → ℕ → ℕ
load_most Intel n limit = n + limit + 6
load_most Amd n limit = n + 2 * limit + 7

-- at most, where no lane breaks off or works for more reads than `most`
abbrev pub load_prompt : Set → ℕ → ℕ → ℕ
load_prompt Intel n most = n + most + 6
load_prompt Amd n most = n + most + 8

-- up to the last poll that a stuck lane is given
abbrev pub load_stuck : Set → ℕ → ℕ → ℕ
load_stuck Intel n limit = n + limit + 4
load_stuck Amd n limit = n + 2 * limit + 5

-- ---- which cycles had reached the chips

-- the chip as its count was written, behind the command
abbrev pub load_opened : Set → (u n : ℕ) → ChipState → ChipState
load_opened set u n s = after_cycle u (code (n - 1) Here) (after_cycles u (cycles_of set LoadBuffer) s)

-- lane c's chip as its parts of the words were sent too
abbrev pub load_filled : Set → (u n : ℕ) → List (List ℕ) → ℕ → ChipState → ChipState
load_filled set u n words c s = after_words c u words (load_opened set u n s)

-- and as it was confirmed
abbrev pub load_sent : Set → (u n : ℕ) → List (List ℕ) → ℕ → ChipState → ChipState
load_sent set u n words c s = after_cycles u (cycles_of set ConfirmLoad) (load_filled set u n words c s)

-- power went while the command was written, the count, a word, or the confirm
abbrev pub DarkensLoading : Set → (u n : ℕ) → List (List ℕ) → BusState → BusState → Type 0
DarkensLoading set u n words old new =
    EachLane (DarkensIn u (cycles_of set LoadBuffer)) old new
    ⊎ (EachLane (λ s t. Darkens (after_cycles u (cycles_of set LoadBuffer) s) t) old new
    ⊎ (EachNumbered (λ c s t. DarkensInWords c u words (load_opened set u n s) t) old new
    ⊎ EachNumbered (λ c s t. DarkensIn u (cycles_of set ConfirmLoad) (load_filled set u n words c s) t) old new))

-- or after that
abbrev pub DarkensLoad : Set → (u n : ℕ) → List (List ℕ) → ℕ → BusState → BusState → Type 0
DarkensLoad set u n words limit old new =
    DarkensLoading set u n words old new
    ⊎ DarkensPolling (load_sent set u n words) (load_begin set n) (program_reads set limit) set u old new

-- ---- all lanes

-- the bus has all the units
abbrev pub ReachesAll : ℕ → Geometry → ℕ → ℕ → BusState → Type 0
ReachesAll width g u n bus = Reaches width g (last_of u n) bus

-- The set has the lanes that broke off, and no lane that isn't there.
pub record AreLoadsBroken (set : Set) (width : ℕ) (g : Geometry) (u : ℕ) (words : List (List ℕ)) (old : BusState)
    (broken : LaneSet) : Type 0 where
  pub told : ReachesAll width g u (length words) old → (c : ℕ) → c < lanes_of old
      → TellsLoadBroken set u (length words) (load_of (lane old c).part.device c words) (has_bit broken.bits c)
      (lane old c)
  pub past : (c : ℕ) → g.lanes ≤ c → has_bit broken.bits c ≡ false

-- Where no lane works for more than `most` reads, there were few more cycles; one more where a lane broke off.
abbrev pub IsLoadPrompt : Set → ℕ → Geometry → ℕ → ℕ → BusState → BusState → LaneSet → Type 0
IsLoadPrompt set width g u n old new broken =
    ReachesAll width g u n old → (most : ℕ) → AllLanes (LoadEndsWithin set u n most) old
    → Counted (n + 6) (load_prompt set n most + min broken.bits 1) old new

-- The call was given up: a cycle failed, or lane k was told to work by `limit` polls.
abbrev pub LoadHalts : Set → ℕ → Geometry → ℕ → List (List ℕ) → ℕ → BusState → BusState → Halt → Type 0
LoadHalts set width g u words limit old new Off =
    Lost (load_most set (length words) limit) old new
    × (ReachesAll width g u (length words) old → EachLoad words (LosesLoad set u (length words)) old new)
    × (ReachesAll width g u (length words) old → DarkensLoad set u (length words) words limit old new)
LoadHalts set width g u words limit old new (Stuck k) =
    (k < g.lanes) × Went (load_stuck set (length words) limit) (load_stuck set (length words) limit) old new
    × (ReachesAll width g u (length words) old → EachLoad words (TearsLoad set u (length words)) old new)
    × (ReachesAll width g u (length words) old → IsStuckByLoad set u (length words) limit (lane old k))
    × (ReachesAll width g u (length words) old
    → EachRead (load_sent set u (length words) words) (working_at_each set limit) old new)
