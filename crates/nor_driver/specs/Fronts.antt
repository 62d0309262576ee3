-- When a bank under the lock stands for a front of the history.
use Rattle.std.specs.Prelude.{◌≡◌, ◌≤◌, ◌+◌, ℕ, List, [], ◌∷◌, map, Bool, true, false, Option, Some, None, All}
use Rattle.std.specs.Option.{option_map}
use Rattle.nor_bus.specs.Bus.{more}
use Rattle.nor_bus.specs.Cycles.{KeepsLanes}
use Rattle.nor_bus.specs.Driven.{EachLane}
use Rattle.nor_bus.specs.declared.bus.Armed.{Armed}
use Rattle.nor_array.specs.Array.{ArrayState}
use Rattle.nor_array.specs.After.{after_all}
use Rattle.nor_array.specs.Entries.{is_halt}
use Rattle.nor_array.specs.Legal.{Legal}
use Rattle.nor_array.specs.declared.entry.Entry.{Entry}
use Rattle.nor_array.specs.declared.entry.Halted.TheVariants.{Off as OffHalt}
use Rattle.nor_array.specs.declared.entry.Op.{Op}
use Rattle.nor_array.specs.declared.entry.Op.TheVariants.{Read, Program, EraseOpen, EraseAll, Poll, Lock, Unlock, IsLocked, Arm, PowerOn}
use Rattle.nor_array.specs.declared.entry.Reply.{Reply}
use Rattle.nor_array.specs.declared.entry.Reply.TheVariants.{Opened, Erased, Failed, Halted as HaltedReply}
use Rattle.nor_array.specs.declared.state.ArmedCut.{ArmedCut}
use Rattle.nor_array.specs.declared.state.Power.{Power}
use Rattle.nor_array.specs.declared.state.Power.TheVariants.{On, Off, Stuck}
use Rattle.nor_bank.specs.Calls.{facts_of}
pub use Rattle.nor_history.specs.Histories.{opens, opened, risen, words_of, words_read}
use Rattle.nor_bank.specs.Stands.{Stands}
use Rattle.nor_bank.specs.State.{BankState, word_bytes}
use Rattle.nor_bank.specs.Work.{KeepsBank}
use Rattle.nor_bank.specs.declared.kept.Erasing.{Erasing}
use Rattle.nor_turn.specs.Fronts.{Name, Front}

-- ---- what is told of entries

-- the entries of a front, in their order
abbrev pub entries_of : Front Entry → List Entry
entries_of front = map (λ pair. pair.1) front

-- a call of a caller: neither arms a cut nor powers on
abbrev pub is_call : Op → Bool
is_call (Read at len) = true
is_call (Program at new) = true
is_call (EraseOpen b) = true
is_call EraseAll = true
is_call Poll = true
is_call (Lock b) = true
is_call (Unlock b) = true
is_call (IsLocked b) = true
is_call (Arm cut mask) = false
is_call PowerOn = false

-- 1 for a reply that tells a loss of power
abbrev pub loses : Reply → ℕ
loses (HaltedReply (OffHalt n)) = 1
loses _ = 0

-- the same of all entries
abbrev pub lost : List Entry → ℕ
lost [] = 0
lost (e ∷ es) = loses e.reply + lost es

-- ---- who has an erase under way

-- the name and the number under which it was opened
pub record Opener : Type 0 where
  pub name : Name
  pub caller : ℕ

-- the reply ends the erase that was polled
abbrev pub closes : Reply → Op → Bool
closes Erased Poll = true
closes (Failed from to lanes) Poll = true
closes _ op = false

-- whose erase is under way after an entry: a halt gives it up
abbrev pub opener_after : Option Opener → Name → (caller : ℕ) → Reply → Op → Option Opener
opener_after opener name caller Opened op = Some (record { name = name; caller = caller })
opener_after opener name caller Erased Poll = None
opener_after opener name caller (Failed from to lanes) Poll = None
opener_after opener name caller (HaltedReply cause) op = None
opener_after opener name caller _ op = opener

-- and after a front
abbrev pub opener_of : Option Opener → Front Entry → Option Opener
opener_of opener [] = opener
opener_of opener (pair ∷ front) =
    opener_of (opener_after opener pair.0 pair.1.caller pair.1.reply pair.1.op) front

abbrev pub IsOpener : Name → Option Opener → Type 0
IsOpener name None = ⊥
IsOpener name (Some opener) = opener.name ≡ name

-- An erase is opened where none is under way, and closed under the name under which it was opened.
abbrev pub ErasesOwn : Option Opener → Name → Reply → Op → Type 0
ErasesOwn opener name Opened op = opener ≡ None
ErasesOwn opener name Erased Poll = IsOpener name opener
ErasesOwn opener name (Failed from to lanes) Poll = IsOpener name opener
ErasesOwn opener name _ op = Unit {0}

abbrev pub AllEraseOwn : Option Opener → Front Entry → Type 0
AllEraseOwn opener [] = Unit {0}
AllEraseOwn opener (pair ∷ front) =
    ErasesOwn opener pair.0 pair.1.reply pair.1.op
    × AllEraseOwn (opener_after opener pair.0 pair.1.caller pair.1.reply pair.1.op) front

-- What a bank keeps of an erase, and of a halt, is what the front tells of them.
pub record TellsErase (front : Front Entry) (now : BankState) : Type 0 where
  pub own : AllEraseOwn None front
  pub opener : option_map (λ (o : Opener). o.caller) (opener_of None front)
      ≡ option_map (λ (e : Erasing). e.caller) now.erase
  pub running : now.halted ≡ None → All (λ pair. is_halt pair.1.reply ≡ false) front

-- ---- an armed cut

-- how many cycles are left of it, while power is on
abbrev pub cycles_left : Power → Option Armed → ℕ
cycles_left On (Some armed) = armed.after
cycles_left On None = 0
cycles_left Off armed = 0
cycles_left (Stuck lane) armed = 0

-- ---- the whole

-- The bank went from one that stands for this array to one that stands for the array after the front. Its entries are
-- legal calls. The chips are what they were, but that each erase that was opened is counted; where none was, no lane was
-- suspended. A cycle failed for each loss of power that was told. While a cut is armed, the words that were read and the
-- cycles that are left of it are no more than it was armed with.
pub record StandsFrom (first : BankState) (a : ArrayState) (front : Front Entry) (now : BankState) : Type 0 where
  pub stands : Stands now (after_all a (entries_of front))
  pub legal : Legal (facts_of first) a (entries_of front)
  pub calls : All (λ e. is_call e.op ≡ true) (entries_of front)
  pub found : now.found ≡ first.found
  pub lanes : KeepsLanes first.bus now.bus
  pub erases : EachLane (λ s t. t.erases ≡ risen s.erases (opened (entries_of front))) first.bus now.bus
  pub suspends : opened (entries_of front) ≡ 0 → EachLane (λ s t. t.suspends ≡ s.suspends) first.bus now.bus
  pub failed : more (lost (entries_of front)) first.bus.failed ≤ now.bus.failed
  pub reads : (cut : ArmedCut) → (after_all a (entries_of front)).armed ≡ Some cut
      → words_read (word_bytes first.found) (entries_of front)
      + cycles_left (after_all a (entries_of front)).power now.bus.armed ≤ cut.after

-- A bank stands for a front of what was made of the first one, which had nothing under erase. Each erase was closed by
-- who opened it. Of a first bank that stood for no array it says, beside that, only what no call changes.
pub record StandsFor (first : BankState) (front : Front Entry) (now : BankState) : Type 0 where
  pub keeps : KeepsBank first now
  pub erase : TellsErase front now
  pub each : (a : ArrayState) → Stands first a → StandsFrom first a front now
