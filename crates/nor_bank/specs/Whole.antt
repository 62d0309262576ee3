-- What every call of a bank promises.
use Rattle.std.specs.Prelude.{◌≡◌, ◌<◌, ◌≤◌, ◌+◌, ℕ, List, [], length, Bool, true, false, Option, Some, None}
use Rattle.nor_cell.specs.Chip.{Idle, span_end}
use Rattle.nor_bus.specs.Bus.{more}
use Rattle.nor_bus.specs.Cycles.{KeepsLanes, PowersOn}
use Rattle.nor_bus.specs.Driven.{AllLanes, EachLane}
use Rattle.nor_probe.specs.declared.probing.Found.{Found}
use Rattle.nor_array.specs.Array.{ArrayState}
use Rattle.nor_array.specs.Admits.{may_come}
use Rattle.nor_array.specs.Needs.{needs_of}
use Rattle.nor_array.specs.declared.entry.Halted.TheVariants.{Off, Stuck}
use Rattle.nor_array.specs.declared.entry.Op.{Op}
use Rattle.nor_array.specs.declared.entry.Op.TheVariants.{Read, Program, Poll, Lock, Unlock, IsLocked, Arm, PowerOn}
use Rattle.nor_array.specs.declared.entry.Reply.{Reply}
use Rattle.nor_array.specs.declared.entry.Reply.TheVariants.{Done, Opened, Erased, Bit, Locked, NotYet, Failed, Halted}
use Rattle.nor_bank.specs.Calls.{MakesEntry, entry_of}
use Rattle.nor_bank.specs.Counts.{is_open, Spends, Counts, KeepsErase, Waits, IsBelowLimit, ReadsStuck}
use Rattle.nor_bank.specs.Erases.{erased_span}
use Rattle.nor_bank.specs.Locks.{HasReadLock}
use Rattle.nor_bank.specs.Programs.{AreSome}
use Rattle.nor_bank.specs.Refused.{bank_refusal, Refuses, Works}
use Rattle.nor_bank.specs.Stands.{Stands, under_of}
use Rattle.nor_bank.specs.State.{BankState}
use Rattle.nor_bank.specs.Work.{kept_after}
use Rattle.nor_bank.specs.declared.kept.Erasing.{Erasing}

-- ---- what a call leaves, whatever bus it is on

-- What was found stays, and of each chip what it is. A halt is kept, and what the bank keeps of an
-- erase is as the reply says.
pub record LeavesBank (caller : ℕ) (op : Op) (old new : BankState) (reply : Reply) : Type 0 where
  pub found : new.found ≡ old.found
  pub after : new.after ≡ old.after
  pub halted : new.halted ≡ kept_after old.halted reply
  pub lanes : KeepsLanes old.bus new.bus
  pub erase : KeepsErase caller op reply old.erase new.erase
  pub limit : reply ≡ NotYet → IsBelowLimit op new

-- ---- what it makes of a bank that stands for an array

-- a call that leaves the chips at rest, though something is under erase
abbrev pub quiets : Op → Bool
quiets (Read at len) = true
quiets (Program at new) = true
quiets (Lock b) = true
quiets (Unlock b) = true
quiets (IsLocked b) = true
quiets op = false

abbrev pub leaves_quiet : Op → Reply → Bool
leaves_quiet op NotYet = false
leaves_quiet op (Halted cause) = false
leaves_quiet op reply = quiets op

-- One entry, legal for the array, after which the bank stands for the array. In a call that nothing refuses the lanes
-- count their erases and suspends; where it has to wait a lane worked; beside an open erase it leaves no chip at work.
pub record MakesCall (caller : ℕ) (op : Op) (old new : BankState) (reply : Reply) (given : List ℕ) (a : ArrayState)
    : Type 0 where
  pub entry : MakesEntry old new (entry_of old new caller op reply given) a
  pub counts : Works caller op old → EachLane (Counts op reply old new) old.bus new.bus
  pub waits : reply ≡ NotYet → Waits old new
  pub rests : leaves_quiet op reply ≡ true → Works caller op old → is_open old.erase ≡ true
      → AllLanes (λ s. s.job ≡ Idle) new.bus

-- ---- a call

-- from here up to there is all that was under erase
abbrev pub IsErasedPart : Option Erasing → Found → (from to : ℕ) → Type 0
IsErasedPart None f from to = ⊥
IsErasedPart (Some e) f from to =
    (from ≡ (erased_span f e.target).from) × (to ≡ span_end (erased_span f e.target))

-- What a call may answer that nothing refuses, on any bus: some of it as the call's needs say.
abbrev pub MayAnswer : Op → BankState → Reply → Type 0
MayAnswer op b NotYet = may_come (needs_of op).waits (under_of b.erase) ≡ true
MayAnswer op b (Halted (Off n)) = Unit {0}
MayAnswer op b (Halted (Stuck k)) =
    (k < b.found.geometry.lanes) × (may_come (needs_of op).sticks (under_of b.erase) ≡ true)
MayAnswer op b (Locked k) = ((needs_of op).unlocked ≡ true) × HasReadLock b (needs_of op).reach k
MayAnswer op b Opened = (needs_of op).opens ≡ true
MayAnswer (Read at len) b Done = Unit {0}
MayAnswer (Program at new) b Done = Unit {0}
MayAnswer (Program at new) b (Failed from to lanes) =
    (at ≤ from) × (from < to) × (to ≤ at + length new) × AreSome b.found.geometry.lanes lanes
MayAnswer Poll b Erased = Unit {0}
MayAnswer Poll b (Failed from to lanes) =
    IsErasedPart b.erase b.found from to × AreSome b.found.geometry.lanes lanes
MayAnswer (Lock k) b Done = Unit {0}
MayAnswer (Unlock k) b Done = Unit {0}
MayAnswer (IsLocked k) b (Bit locked) = Unit {0}
MayAnswer op b reply = ⊥

-- a call of the chips; the others are arm and power-on
pub record IsCallOf (caller : ℕ) (op : Op) (old new : BankState) (reply : Reply) (given : List ℕ) : Type 0 where
  -- What is refused leaves all as it was.
  pub refused : (r : Reply) → bank_refusal old caller op ≡ Some r → (reply ≡ r) × Refuses r old new
  -- A call that asks nothing of the chips is done, and leaves all as it was.
  pub idle : bank_refusal old caller op ≡ None → (needs_of op).idle ≡ true → (reply ≡ Done) × (new ≡ old)
  -- Any other call gives an answer of its kind, and makes one entry.
  pub answers : Works caller op old → MayAnswer op old reply
  pub makes : (a : ArrayState) → Stands old a → MakesCall caller op old new reply given a
  pub leaves : LeavesBank caller op old new reply
  pub spends : Spends op reply old new
  -- Power is told to be lost only where a cycle failed, with the number of the cut; a lane to be stuck where it was
  -- read often.
  pub off : (n : ℕ) → reply ≡ Halted (Off n) → more 1 old.bus.failed ≤ new.bus.failed
  pub after : (n : ℕ) → reply ≡ Halted (Off n) → old.halted ≡ None → n ≡ old.after
  pub stuck : (k : ℕ) → reply ≡ Halted (Stuck k) → old.halted ≡ None → ReadsStuck op old new

-- ---- arm, and power-on

abbrev pub armed_with : (after mask : ℕ) → BankState → BankState
armed_with after mask b =
    record b { bus = record b.bus { armed = Some (record { after = after; mask = mask }) }; after = after }

-- A cut is armed, without a cycle, where no halt is kept.
pub record Arms (after mask : ℕ) (old new : BankState) (reply : Reply) : Type 0 where
  pub refused : (r : Reply) → bank_refusal old 0 (Arm after mask) ≡ Some r → (reply ≡ r) × Refuses r old new
  pub done : bank_refusal old 0 (Arm after mask) ≡ None → (reply ≡ Done) × (new ≡ armed_with after mask old)
  pub makes : (a : ArrayState) → Stands old a → MakesEntry old new (entry_of old new 0 (Arm after mask) reply []) a

-- Power comes back to the chips, without a cycle, and no halt is kept any more.
pub record PowersBank (old new : BankState) (reply : Reply) : Type 0 where
  pub refused : (r : Reply) → bank_refusal old 0 PowerOn ≡ Some r → (reply ≡ r) × (new ≡ old)
  pub done : bank_refusal old 0 PowerOn ≡ None → (reply ≡ Done)
      × (new ≡ record old { bus = new.bus; halted = None }) × PowersOn old.bus new.bus
  pub makes : (a : ArrayState) → Stands old a → MakesEntry old new (entry_of old new 0 PowerOn reply []) a
