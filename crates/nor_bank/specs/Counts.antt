-- What the calls of a bank count: cycles, reads left, erases, suspends and polls.
use Rattle.std.specs.Prelude.{◌≡◌, ◌≢◌, ◌<◌, ◌≤◌, ◌+◌, ◌*◌, ◌⊎◌, ◌&&◌, ℕ, length, Bool, true, false, Option, Some, None, if◌then◌else◌}
use Rattle.nor_cell.specs.Chip.{ChipState, Part, counted}
use Rattle.nor_cell.specs.Table.{can_suspend, can_program_suspended, left_at_start}
use Rattle.nor_cell.specs.declared.device.SuspendKind.{SuspendKind}
use Rattle.nor_cell.specs.declared.device.Work.TheVariants.{Block, Chip}
use Rattle.nor_query.specs.Derived.{suspend_of}
use Rattle.nor_bus.specs.Bus.{BusState, lane, lanes_of, more}
use Rattle.nor_bus.specs.Driven.{EachLane, Went, Lost}
use Rattle.nor_array.specs.declared.entry.Op.{Op}
use Rattle.nor_array.specs.declared.entry.Op.TheVariants.{Read, Program, EraseOpen, EraseAll, Poll, Lock, Unlock, IsLocked, Arm, PowerOn}
use Rattle.nor_array.specs.declared.entry.Reply.{Reply}
use Rattle.nor_array.specs.declared.entry.Reply.TheVariants.{Opened, Erased, NotYet, Failed, Halted}
use Rattle.nor_array.specs.declared.state.Target.TheVariants.{OneBlock, AllBlocks}
use Rattle.nor_array.specs.Array.{ArrayState}
use Rattle.nor_poll.specs.Suspend.{pauses}
use Rattle.nor_poll.specs.UnderErase.{FallsBy, erase_left, state_at}
use Rattle.nor_poll.specs.declared.lanes.LaneState.TheVariants.{Running, Suspended}
use Rattle.nor_bank.specs.Runs.{least_limit, most_limit}
use Rattle.nor_bank.specs.Stands.{Stands}
use Rattle.nor_bank.specs.State.{BankState, blocks_of, erase_limit}
use Rattle.nor_bank.specs.Work.{words_in}
use Rattle.nor_bank.specs.declared.kept.Erasing.{Erasing}

-- ---- bus cycles

-- how often a lane may be read working in a program, at most
abbrev pub program_limit : BankState → ℕ
program_limit b = most_limit b.found

-- how many cycles a call asks for at most, a failed one among them
abbrev pub call_most : Op → BankState → ℕ
call_most (Read at len) b = 60 + words_in b at len
call_most (Program at new) b = 80 + words_in b at (length new) * (10 + 2 * program_limit b)
call_most (EraseOpen k) b = 80
call_most EraseAll b = 80 + 8 * length (blocks_of b.found)
call_most Poll b = 12
call_most (Lock k) b = 80
call_most (Unlock k) b = 80
call_most (IsLocked k) b = 80
call_most (Arm after mask) b = 0
call_most PowerOn b = 0

-- So many cycles were asked for: all reached the chips, or the last of them failed.
abbrev pub Asked : ℕ → BusState → BusState → Type 0
Asked n old new = Went n n old new ⊎ Lost n old new

-- ---- reads left

abbrev pub is_open : Option Erasing → Bool
is_open None = false
is_open (Some e) = true

-- how many reads an erase begins with that the call opens: by the chip's own pace
abbrev pub start_left : Op → Part → ℕ
start_left EraseAll part = left_at_start Chip part.pace_erase part.table
start_left op part = left_at_start Block part.pace_erase part.table

-- A lane has no more reads left than it had, and at most n less.
abbrev pub LeftFalls : ℕ → ChipState → ChipState → Type 0
LeftFalls n s t = (erase_left t ≤ erase_left s) × FallsBy n s t

-- What becomes of a lane's reads left in a call that asked for n cycles. A halt gives the erase up.
abbrev pub LeftIn : ℕ → Op → Reply → ChipState → ChipState → Type 0
LeftIn n op Opened s t = erase_left t ≡ start_left op s.part
LeftIn n op (Halted cause) s t = Unit {0}
LeftIn n op reply s t = LeftFalls n s t

-- A poll that closes it asked for more cycles than any lane had reads left that wasn't known to have ended.
abbrev pub Ends : ℕ → Option Erasing → BusState → Type 0
Ends n None old = ⊥
Ends n (Some e) old =
    (c : ℕ) → c < lanes_of old → (state_at e.lanes c ≡ Running) ⊎ (state_at e.lanes c ≡ Suspended)
    → erase_left (lane old c) < n

abbrev pub EndsErase : Op → Reply → ℕ → BankState → Type 0
EndsErase Poll Erased n old = Ends n old.erase old.bus
EndsErase Poll (Failed from to lanes) n old = Ends n old.erase old.bus
EndsErase op reply n old = Unit {0}

-- The call's cycles, on any bus; and the reads that they leave of an erase, where the bank stands for an array.
pub record Spends (op : Op) (reply : Reply) (old new : BankState) : Type 0 where
  pub cycles : ℕ
  pub few : cycles ≤ call_most op old
  pub asked : Asked cycles old.bus new.bus
  pub left : (a : ArrayState) → Stands old a → EachLane (LeftIn cycles op reply) old.bus new.bus
  pub ends : (a : ArrayState) → Stands old a → EndsErase op reply cycles old

-- ---- erases, and suspends

-- a call that opens an erase begins one in each lane
abbrev pub erases_after : Reply → ℕ → ℕ
erases_after Opened n = counted n
erases_after reply n = n

-- whether an erase can be suspended for a program, or else for a read
abbrev pub can_beside : SuspendKind → (programs : Bool) → Bool
can_beside kind true = can_program_suspended kind
can_beside kind false = can_suspend kind

-- and for the call
abbrev pub may_suspend : SuspendKind → Op → Bool
may_suspend kind (Read at len) = can_beside kind false
may_suspend kind (Program at new) = can_beside kind true
may_suspend kind (Lock b) = can_beside kind false
may_suspend kind (Unlock b) = can_beside kind false
may_suspend kind (IsLocked b) = can_beside kind false
may_suspend kind op = false

abbrev pub suspends_after : Bool → ChipState → ℕ
suspends_after may s = if may && pauses s then counted s.suspends else s.suspends

abbrev pub CountsSuspend : Reply → Bool → ChipState → ChipState → Type 0
CountsSuspend (Halted cause) may s t = (t.suspends ≡ s.suspends) ⊎ (t.suspends ≡ suspends_after may s)
CountsSuspend reply may s t = t.suspends ≡ suspends_after may s

-- A lane's erases rise where one is opened, its suspends where the call suspends its erase: for certain, unless it is
-- halted.
pub record Counts (op : Op) (reply : Reply) (old new : BankState) (s t : ChipState) : Type 0 where
  pub erases : t.erases ≡ erases_after reply s.erases
  pub suspends : CountsSuspend reply (may_suspend (suspend_of old.found.query.extended) op) s t

-- an erase is open that can be suspended for a read, and no lane of it runs
pub record IsPaused (b : BankState) : Type 0 where
  pub erase : Erasing
  pub is : b.erase ≡ Some erase
  pub none : (c : ℕ) → c < b.found.geometry.lanes → state_at erase.lanes c ≢ Running
  pub may : can_suspend (suspend_of b.found.query.extended) ≡ true

-- ---- polls

-- the erase stays open, as it was but for so many polls more and where its lanes are
abbrev pub GoesOn : ℕ → Option Erasing → Option Erasing → Type 0
GoesOn polls None new = new ≡ None
GoesOn polls (Some e) None = ⊥
GoesOn polls (Some e) (Some now) = (now.target ≡ e.target) × (now.caller ≡ e.caller) × (now.polls ≡ e.polls + polls)

-- it opened one, which no poll has seen
abbrev pub IsNew : ℕ → Op → Option Erasing → Type 0
IsNew caller op None = ⊥
IsNew caller (EraseOpen b) (Some now) = (now.target ≡ OneBlock b) × (now.caller ≡ caller) × (now.polls ≡ 0)
IsNew caller EraseAll (Some now) = (now.target ≡ AllBlocks) × (now.caller ≡ caller) × (now.polls ≡ 0)
IsNew caller op (Some now) = ⊥

-- What the bank keeps of an erase after a call.
abbrev pub KeepsErase : ℕ → Op → Reply → Option Erasing → Option Erasing → Type 0
KeepsErase caller op Opened old new = IsNew caller op new
KeepsErase caller Poll NotYet old new = GoesOn 1 old new
KeepsErase caller Poll Erased old new = new ≡ None
KeepsErase caller Poll (Failed from to lanes) old new = new ≡ None
KeepsErase caller op (Halted cause) old new = new ≡ None
KeepsErase caller op reply old new = GoesOn 0 old new

-- ---- a call that has to wait

-- a lane that works on: it had reads left, or is stuck
pub record SomeWorks (bus : BusState) : Type 0 where
  pub number : ℕ
  pub there : number < lanes_of bus
  pub works : (0 < erase_left (lane bus number)) ⊎ ((lane bus number).part.stuck ≡ true)

-- each lane that isn't stuck has ended, or has fewer reads left
abbrev pub Nears : ChipState → ChipState → Type 0
Nears s t = s.part.stuck ≡ false → (erase_left t ≡ 0) ⊎ (erase_left t < erase_left s)

pub record Waits (old new : BankState) : Type 0 where
  pub works : SomeWorks old.bus
  pub nears : EachLane Nears old.bus new.bus

-- the polls that a limit still allows
abbrev pub IsBelowLimit : Op → BankState → Type 0
IsBelowLimit Poll b = (e : Erasing) → b.erase ≡ Some e → e.polls < erase_limit b.found e.target
IsBelowLimit op b = Unit {0}

-- ---- a call that a stuck lane halts

-- so many cycles were made, or more
abbrev pub MakesMany : ℕ → BankState → BankState → Type 0
MakesMany n old new = more n old.bus.cycles ≤ new.bus.cycles

-- how often the lane was read working: by each poll of the erase; in a suspend of an open one; or in a program
abbrev pub ReadsStuck : Op → BankState → BankState → Type 0
ReadsStuck Poll old new = (e : Erasing) → old.erase ≡ Some e → e.polls + 1 ≡ erase_limit old.found e.target
ReadsStuck (Program at new) old now =
    ((is_open old.erase ≡ true) × MakesMany 20 old now) ⊎ MakesMany (least_limit old.found) old now
ReadsStuck op old new = (is_open old.erase ≡ true) × MakesMany 20 old new
