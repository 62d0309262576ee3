-- How much the calls of a history ask for together, since an erase was opened and since a cut was armed.
use Rattle.std.specs.Prelude.{◌≡◌, ◌<◌, ◌≤◌, ◌+◌, ◌*◌, ◌⊎◌, ℕ, List, [], ◌∷◌, map, Bool, true, false, Option, Some, None}
use Rattle.std.specs.Option.{option_map}
use Rattle.nor_cell.specs.Chip.{ChipState}
use Rattle.nor_cell.specs.declared.device.Work.TheVariants.{Block, Chip}
use Rattle.nor_query.specs.Derived.{limit_of}
use Rattle.nor_bus.specs.Driven.{AllLanes, Went}
use Rattle.nor_bus.specs.declared.bus.Armed.{Armed}
use Rattle.nor_poll.specs.UnderErase.{erase_left}
use Rattle.nor_array.specs.Array.{ArrayState}
use Rattle.nor_array.specs.After.{after}
use Rattle.nor_array.specs.Refusals.{refusal}
use Rattle.nor_array.specs.declared.entry.Entry.{Entry}
use Rattle.nor_array.specs.declared.entry.Halted.TheVariants.{Off, Stuck}
use Rattle.nor_array.specs.declared.entry.Op.{Op}
use Rattle.nor_array.specs.declared.entry.Op.TheVariants.{Read, EraseAll, Poll, Arm, PowerOn}
use Rattle.nor_array.specs.declared.entry.Reply.{Reply}
use Rattle.nor_array.specs.declared.entry.Reply.TheVariants.{Done, Opened, Erased, NotYet, Failed, Halted}
use Rattle.nor_array.specs.declared.state.OpenErase.{OpenErase}
use Rattle.nor_array.specs.declared.state.Power.{Power}
use Rattle.nor_array.specs.declared.state.Power.TheVariants.{On}
use Rattle.nor_bank.specs.Counts.{call_most, start_left}
use Rattle.nor_bank.specs.State.{BankState, erase_limit, word_bytes}
use Rattle.nor_bank.specs.Work.{words_in}
use Rattle.nor_history.specs.Histories.{words_of}
use Rattle.nor_bank.specs.declared.kept.Erasing.{Erasing}

-- ---- what one entry may ask for

-- An entry, and whether its line waits for the end of the erase that it opens: then the polls that had to wait make no
-- entries.
pub record Step : Type 0 where
  pub entry : Entry
  pub waits : Bool

abbrev pub entries_of : List Step → List Entry
entries_of steps = map (λ (s : Step). s.entry) steps

-- entries as steps of a line that waits, or doesn't
abbrev pub steps_as : Bool → List Entry → List Step
steps_as waits es = map (λ (e : Entry). record { entry = e; waits = waits }) es

-- a refused call asks for no cycle, and for one where power stays lost
abbrev pub refused_most : Reply → ℕ
refused_most (Halted (Off n)) = 1
refused_most r = 0

abbrev pub asked_most : Option Reply → BankState → Op → ℕ
asked_most None b op = call_most op b
asked_most (Some r) b op = refused_most r

-- 12 cycles for each poll that the limit of the erase allows
abbrev pub polls_most : BankState → Option OpenErase → ℕ
polls_most b None = 0
polls_most b (Some open_erase) = 12 * erase_limit b.found open_erase.target

-- what a line that waits asks for besides, with its erase's last poll
abbrev pub waited_most : Bool → Op → BankState → ArrayState → ℕ
waited_most true Poll b a = polls_most b a.under
waited_most waits op b a = 0

-- the most bus cycles that the entry may ask for
abbrev pub step_most : BankState → ArrayState → Step → ℕ
step_most b a s = asked_most (refusal a s.entry.caller s.entry.op) b s.entry.op + waited_most s.waits s.entry.op b a

-- how many bus words it gives, as a read that is done
abbrev pub words_given : BankState → Op → Reply → ℕ
words_given b op reply = words_of (word_bytes b.found) reply op

-- A read that is done has made a cycle at least for each bus word.
abbrev pub ReadsWords : Op → Reply → (old new : BankState) → Type 0
ReadsWords (Read at len) Done old new = Went (words_in old at len) (60 + words_in old at len) old.bus new.bus
ReadsWords op reply old new = Unit {0}

-- ---- what is counted

-- since an erase was opened that no line waits for: which call opened it; the cycles that the entries since may have
-- asked for; how many of them had to wait, and how many of these were polls
pub record SinceOpened : Type 0 where
  pub op : Op
  pub asked : ℕ
  pub waits : ℕ
  pub polls : ℕ

-- since a cut was armed: with which number; the cycles; and the bus words of the reads that are done
pub record SinceArmed : Type 0 where
  pub after : ℕ
  pub asked : ℕ
  pub words : ℕ

pub record Tally : Type 0 where
  pub opened : Option SinceOpened
  pub armed : Option SinceArmed

-- with nothing open and no cut armed
abbrev pub no_tally : Tally
no_tally = record { opened = None; armed = None }

abbrev pub opened_more : (asked waits polls : ℕ) → SinceOpened → SinceOpened
opened_more asked waits polls o =
    record { op = o.op; asked = o.asked + asked; waits = o.waits + waits; polls = o.polls + polls }

abbrev pub newly_opened : Bool → Op → Option SinceOpened
newly_opened true op = None
newly_opened false op = Some (record { op = op; asked = 0; waits = 0; polls = 0 })

-- An erase is counted from its opening until it is closed or given up.
abbrev pub opened_after : ℕ → Bool → Op → Reply → Option SinceOpened → Option SinceOpened
opened_after most waits op Opened o = newly_opened waits op
opened_after most waits Poll NotYet o = option_map (opened_more most 1 1) o
opened_after most waits op NotYet o = option_map (opened_more most 1 0) o
opened_after most waits Poll Erased o = None
opened_after most waits Poll (Failed from to lanes) o = None
opened_after most waits op (Halted cause) o = None
opened_after most waits PowerOn Done o = None
opened_after most waits op reply o = option_map (opened_more most 0 0) o

abbrev pub armed_more : (asked words : ℕ) → SinceArmed → SinceArmed
armed_more asked words c = record { after = c.after; asked = c.asked + asked; words = c.words + words }

-- A cut is counted from when it was armed until another is, or power comes back.
abbrev pub armed_after : (most words : ℕ) → Op → Reply → Option SinceArmed → Option SinceArmed
armed_after most words (Arm cut mask) Done c = Some (record { after = cut; asked = 0; words = 0 })
armed_after most words PowerOn Done c = None
armed_after most words op reply c = option_map (armed_more most words) c

abbrev pub tally_after : BankState → ArrayState → Tally → Step → Tally
tally_after b a t s = record {
  opened = opened_after (step_most b a s) s.waits s.entry.op s.entry.reply t.opened;
  armed = armed_after (step_most b a s) (words_given b s.entry.op s.entry.reply) s.entry.op s.entry.reply t.armed;
}

abbrev pub tally_all : BankState → ArrayState → Tally → List Step → Tally
tally_all b a t [] = t
tally_all b a t (s ∷ ss) = tally_all b (after a s.entry) (tally_after b a t s) ss

-- ---- the bounds

-- A poll closes an erase only where the calls since its opening may have read each chip as often as its work takes.
abbrev pub ClosesLate : BankState → Op → Reply → ℕ → Option SinceOpened → Type 0
ClosesLate b Poll Erased most (Some o) = AllLanes (λ s. start_left o.op s.part < o.asked + most) b.bus
ClosesLate b Poll (Failed from to lanes) most (Some o) =
    AllLanes (λ s. start_left o.op s.part < o.asked + most) b.bus
ClosesLate b op reply most o = Unit {0}

-- so many are at most what the slowest chip begins that erase with, where no chip is stuck
abbrev pub IsWithinSlowest : BankState → Op → ℕ → Type 0
IsWithinSlowest b op n =
    AllLanes (λ s. s.part.stuck ≡ false) b.bus → (slowest : ℕ)
    → AllLanes (λ s. start_left op s.part ≤ slowest) b.bus → n ≤ slowest

-- While an erase is open so many entries at most have to wait.
abbrev pub WaitsFew : BankState → Reply → Option SinceOpened → Type 0
WaitsFew b NotYet (Some o) = IsWithinSlowest b o.op (o.waits + 1)
WaitsFew b reply o = Unit {0}

abbrev pub opens_limit : BankState → Op → ℕ
opens_limit b EraseAll = limit_of b.found.query.times Chip
opens_limit b op = limit_of b.found.query.times Block

-- A poll has to wait only where its number is below the limit, and tells a stuck lane only where it is the limit.
abbrev pub PollsToLimit : BankState → Op → Reply → Option SinceOpened → Type 0
PollsToLimit b Poll NotYet (Some o) = o.polls + 1 < opens_limit b o.op
PollsToLimit b Poll (Halted (Stuck k)) (Some o) = o.polls + 1 ≡ opens_limit b o.op
PollsToLimit b op reply o = Unit {0}

-- the calls since a cut was armed with this number may have asked for more cycles
abbrev pub IsDueBy : ℕ → ℕ → Option SinceArmed → Type 0
IsDueBy n most None = ⊥
IsDueBy n most (Some c) = (n ≡ c.after) × (n < c.asked + most)

-- Power is lost, for the first time, only so.
abbrev pub LosesLate : Power → Reply → ℕ → Option SinceArmed → Type 0
LosesLate On (Halted (Off n)) most c = IsDueBy n most c
LosesLate power reply most c = Unit {0}

-- Since a cut was armed, the reads that are done have no more bus words than its number.
abbrev pub ReadsWithin : (words : ℕ) → Op → Reply → Option SinceArmed → Type 0
ReadsWithin words (Read at len) Done (Some c) = c.words + words ≤ c.after
ReadsWithin words op reply c = Unit {0}

-- ---- what was counted fits the bank

-- a lane has ended, or has so many reads left at most less than the slowest began with
abbrev pub IsAhead : (waits slowest : ℕ) → ChipState → Type 0
IsAhead waits slowest s = (erase_left s ≡ 0) ⊎ (erase_left s + waits ≤ slowest)

-- The erase that is counted is the one that the bank keeps.
pub record HasOpened (o : SinceOpened) (b : BankState) : Type 0 where
  pub erase : Erasing
  pub is : b.erase ≡ Some erase
  pub limit : erase_limit b.found erase.target ≡ opens_limit b o.op
  pub polls : erase.polls ≡ o.polls
  pub left : AllLanes (λ s. start_left o.op s.part ≤ erase_left s + o.asked) b.bus
  pub few : AllLanes (λ s. s.part.stuck ≡ false) b.bus → (slowest : ℕ)
      → AllLanes (λ s. start_left o.op s.part ≤ slowest) b.bus → AllLanes (IsAhead o.waits slowest) b.bus

abbrev pub FitsOpened : Option SinceOpened → BankState → Type 0
FitsOpened None b = Unit {0}
FitsOpened (Some o) b = HasOpened o b

-- The cut that is counted is the bus's, which has come nearer by the cycles made: no more than were asked for, and no
-- less than the words that were read.
abbrev pub FitsArmed : Option SinceArmed → ℕ → Option Armed → Type 0
FitsArmed None after None = Unit {0}
FitsArmed (Some c) after (Some cut) =
    (c.after ≡ after) × (c.after ≤ cut.after + c.asked) × (cut.after + c.words ≤ c.after)
FitsArmed None after (Some cut) = ⊥
FitsArmed (Some c) after None = ⊥

pub record Fits (t : Tally) (b : BankState) : Type 0 where
  pub opened : FitsOpened t.opened b
  pub armed : FitsArmed t.armed b.after b.bus.armed

-- ---- histories

-- What holds of an entry, behind those that were counted.
pub record IsBounded (b : BankState) (a : ArrayState) (t : Tally) (s : Step) : Type 0 where
  pub closes : ClosesLate b s.entry.op s.entry.reply (step_most b a s) t.opened
  pub waits : WaitsFew b s.entry.reply t.opened
  pub polls : PollsToLimit b s.entry.op s.entry.reply t.opened
  pub loses : LosesLate a.power s.entry.reply (step_most b a s) t.armed
  pub reads : ReadsWithin (words_given b s.entry.op s.entry.reply) s.entry.op s.entry.reply t.armed

-- and of each entry of a history from an array
abbrev pub Bounded : BankState → ArrayState → Tally → List Step → Type 0
Bounded b a t [] = Unit {0}
Bounded b a t (s ∷ ss) = IsBounded b a t s × Bounded b (after a s.entry) (tally_after b a t s) ss

-- The entries keep the bounds, and what is counted of them fits the bank that they led to.
pub record Goes (ss : List Step) (b new : BankState) (a : ArrayState) (t : Tally) : Type 0 where
  pub bounded : Bounded b a t ss
  pub fits : Fits (tally_all b a t ss) new
