-- What a call meets before it works, and what it keeps.
use Rattle.std.specs.Prelude.{◌≡◌, ◌+◌, ◌/◌, ℕ, List, [], ◌∷◌, length, nat_lt, nat_le, Option, Some, None}
use Rattle.nor_cell.specs.Chip.{ChipState}
use Rattle.nor_bus.specs.Bus.{BusState}
use Rattle.nor_bus.specs.Cycles.{BusFails, KeepsLanes}
use Rattle.nor_array.specs.Array.{ArrayState}
use Rattle.nor_array.specs.Admits.{would_change}
use Rattle.nor_array.specs.Needs.{needs_of}
use Rattle.nor_array.specs.Refusals.{when, first_some}
use Rattle.nor_array.specs.declared.needs.Reach.{Reach}
use Rattle.nor_array.specs.declared.needs.Reach.TheVariants.{Nowhere, Range, Block, Everywhere}
use Rattle.nor_array.specs.declared.entry.Op.{Op}
use Rattle.nor_array.specs.declared.entry.Halted.{Halted as HaltCause}
use Rattle.nor_array.specs.declared.entry.Halted.TheVariants.{Off, Stuck}
use Rattle.nor_array.specs.declared.entry.Reply.{Reply}
use Rattle.nor_array.specs.declared.entry.Reply.TheVariants.{OutOfRange, TooLong, Halted}
use Rattle.nor_bank.specs.Programs.{words_passing}
use Rattle.nor_bank.specs.Ranges.{words_met}
use Rattle.nor_bank.specs.Stands.{Stands}
use Rattle.nor_bank.specs.State.{BankState, size_of, blocks_of, word_bytes}
use Rattle.nor_probe.specs.declared.probing.Found.{Found}

-- ---- what a bank answers without asking its chips

-- a range that the bank doesn't have, or that is longer than a call may be
abbrev pub range_refusal : (size at len : ℕ) → Option Reply
range_refusal size at len = first_some (when (nat_lt size (at + len)) OutOfRange ∷ when (nat_lt 4096 len) TooLong ∷ [])

-- what a call is refused with by what it touches alone
abbrev pub reach_refusal : Found → Reach → Option Reply
reach_refusal f Nowhere = None
reach_refusal f (Range at len) = range_refusal (size_of f) at len
reach_refusal f (Block k) = when (nat_le (length (blocks_of f)) k) OutOfRange
reach_refusal f Everywhere = None

abbrev pub refusal_of : BankState → Op → Option Reply
refusal_of b op = reach_refusal b.found (needs_of op).reach

-- the bank with its bus as it is now
abbrev pub with_bus : BankState → BusState → BankState
with_bus b bus = record b { bus = bus }

-- Where power was lost a cycle failed; else the bus is as it was.
abbrev pub Stays : Option HaltCause → BusState → BusState → Type 0
Stays None old new = new ≡ old
Stays (Some (Off after)) old new = BusFails old new
Stays (Some (Stuck k)) old new = new ≡ old

-- a halt is kept; else what was kept stays
abbrev pub kept_after : Option HaltCause → Reply → Option HaltCause
kept_after kept (Halted cause) = Some cause
kept_after kept _ = kept

-- What calls leave of a bank: what was found, and of each chip what it is.
pub record KeepsBank (old new : BankState) : Type 0 where
  pub found : new.found ≡ old.found
  pub lanes : KeepsLanes old.bus new.bus

-- All stays of a chip that a file keeps, but its bytes.
pub record StaysFiled (s t : ChipState) : Type 0 where
  pub part : t.part ≡ s.part
  pub locks : t.locks ≡ s.locks
  pub suspends : t.suspends ≡ s.suspends
  pub erases : t.erases ≡ s.erases
  pub size : length t.cells ≡ length s.cells

-- The bank stands for the array, with nothing under erase.
pub record StandsClosed (b : BankState) (a : ArrayState) : Type 0 where
  pub stands : Stands b a
  pub closed : b.erase ≡ None

-- how many bus words a range meets
abbrev pub words_in : BankState → (at len : ℕ) → ℕ
words_in b at len = words_met at len (word_bytes b.found)

-- how many bus words of a range would lose a bit
abbrev pub words_changed : BankState → ArrayState → (at : ℕ) (new : List ℕ) → ℕ
words_changed b a at new =
    words_passing (word_bytes b.found) (would_change a.bytes at new) (at / word_bytes b.found)
    (words_in b at (length new))

-- ---- programs of a bank whose chips can be programmed
