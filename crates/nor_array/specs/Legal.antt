-- Legal histories: what a bank of these facts may have answered, call after call.
use Rattle.std.specs.Prelude.{◌≡◌, ◌<◌, ◌+◌, ◌-◌, ◌*◌, ◌/◌, ◌^◌, ℕ, min, max, List, [], ◌∷◌, length, slice_index, slice_index_or, bit_and, Bool, true, false, not, ◌==◌, ◌&&◌, None, is_some}
use Rattle.std.specs.List.{list_any}
use Rattle.nor_cell.specs.Bits.{has_bit, unit_len}
use Rattle.nor_cell.specs.Chip.{block_at}
use Rattle.nor_cell.specs.Table.{can_suspend, can_program_suspended}
use Rattle.nor_cell.specs.Wiring.{lane_at}
use Rattle.nor_cell.specs.declared.device.Span.{Span}
use Rattle.nor_cell.specs.declared.device.SuspendKind.{SuspendKind}
use Rattle.nor_cell.specs.declared.geometry.Geometry.{Geometry}
use Rattle.nor_array.specs.Array.{ArrayState, is_on, is_open, meets, lowest}
use Rattle.nor_array.specs.After.{after}
use Rattle.nor_array.specs.Admits.{Admits, first_locked, would_change, span_changes}
use Rattle.nor_array.specs.declared.entry.Op.{Op}
use Rattle.nor_array.specs.declared.entry.Op.TheVariants.{Read, Program, Poll, Lock, Unlock, IsLocked}
use Rattle.nor_array.specs.declared.entry.Reply.{Reply}
use Rattle.nor_array.specs.declared.entry.Reply.TheVariants.{NotYet, Failed, Halted as HaltedReply}
use Rattle.nor_array.specs.declared.entry.Halted.TheVariants.{Stuck as StuckHalt}
use Rattle.nor_array.specs.declared.entry.Entry.{Entry}

-- what is known of a bank beside its array
pub record Facts : Type 0 where
  pub geometry : Geometry
  -- how many device words a buffer load may have; 0 where words are programmed one by one
  pub buffer_units : ℕ
  pub suspend : SuspendKind
  -- for each lane, whether its chip never ends its work
  pub stuck : List Bool

-- the lane of a byte of the bank
abbrev pub lane_of : Facts → ℕ → ℕ
lane_of facts p = lane_at facts.geometry.lanes (unit_len facts.geometry.device) p

-- how many bytes a bus word has
abbrev pub word_len : Facts → ℕ
word_len facts = facts.geometry.lanes * unit_len facts.geometry.device

abbrev pub is_stuck : Facts → ℕ → Bool
is_stuck facts lane = slice_index_or facts.stuck lane false

-- NotYet of a call that could suspend the erase comes only where the table lacks the suspend that the call needs.
abbrev pub LacksSuspend : Op → SuspendKind → Type 0
LacksSuspend (Read at len) kind = can_suspend kind ≡ false
LacksSuspend (Program at new) kind = can_program_suspended kind ≡ false
LacksSuspend (Lock b) kind = can_suspend kind ≡ false
LacksSuspend (Unlock b) kind = can_suspend kind ≡ false
LacksSuspend (IsLocked b) kind = can_suspend kind ≡ false
LacksSuspend _ kind = Unit {0}

-- a byte of the range would change
abbrev pub range_changes : ArrayState → ℕ → List ℕ → Bool
range_changes a at new = is_some (lowest (would_change a.bytes at new) at (length new))

-- A program that is halted by a stuck lane, with power on and nothing under erase, had something to do in unlocked
-- blocks.
abbrev pub SticksAtWork : Op → ArrayState → Type 0
SticksAtWork (Program at new) a =
    (is_on a.power && not (is_open a.under)) ≡ true → (first_locked a (Program at new) ≡ None) × (range_changes a at new ≡ true)
SticksAtWork _ a = Unit {0}

-- A piece that is programmed at once, so many bus words from word `first` on: one word, or with buffers several of one
-- buffer page and one block.
pub record IsPiece (facts : Facts) (blocks : List Span) (first words : ℕ) : Type 0 where
  pub some : 0 < words
  pub alone : facts.buffer_units ≡ 0 → words ≡ 1
  pub page : 0 < facts.buffer_units → first / facts.buffer_units ≡ (first + words - 1) / facts.buffer_units
  pub block : block_at blocks (first * word_len facts) ≡ block_at blocks ((first + words - 1) * word_len facts)

-- the lanes, as bits, are exactly those with a weak span that passes the test
pub record AreLanes (facts : Facts) (test : Span → Bool) (weak : List Span) (lanes : ℕ) : Type 0 where
  pub few : lanes < 2 ^ facts.geometry.lanes
  pub each : (lane : ℕ) → lane < facts.geometry.lanes
      → has_bit lanes lane ≡ list_any (λ span. lane_of facts span.from == lane && test span) weak

-- each byte of a lane that isn't among these is as told, by its place
abbrev pub OthersAre : Facts → (lanes from : ℕ) → (ℕ → ℕ) → List ℕ → Type 0
OthersAre facts lanes from told bytes =
    (k : ℕ) → k < length bytes → has_bit lanes (lane_of facts (from + k)) ≡ false
    → slice_index bytes k ≡ told (from + k)

-- A program fails in the part of its range that lies in one piece. It names the lanes with a weak span there that would
-- change; the bytes of the others are old AND new.
pub record FailsInPiece (facts : Facts) (a : ArrayState) (at : ℕ) (new : List ℕ) (from to lanes : ℕ) (bytes : List ℕ)
    : Type 0 where
  pub first : ℕ
  pub words : ℕ
  pub piece : IsPiece facts a.consts.blocks first words
  pub begins : from ≡ max at (first * word_len facts)
  pub ends : to ≡ min (at + length new) ((first + words) * word_len facts)
  pub named : AreLanes facts (λ span. meets from (to - from) span && span_changes a.bytes at new span) a.consts.weak
      lanes
  pub others : OthersAre facts lanes from
      (λ p. bit_and (slice_index a.bytes p) (slice_index new (p - at))) bytes

-- An erase fails in all that was under erase. It names the lanes with a weak span there; the bytes of the others are
-- 0xFF.
pub record FailsInErase (facts : Facts) (a : ArrayState) (from to lanes : ℕ) (bytes : List ℕ) : Type 0 where
  pub named : AreLanes facts (meets from (to - from)) a.consts.weak lanes
  pub others : OthersAre facts lanes from (λ p. 0xFF) bytes

abbrev pub FailureAgrees : Op → Facts → ArrayState → (from to lanes : ℕ) → List ℕ → Type 0
FailureAgrees (Program at new) facts a from to lanes bytes = FailsInPiece facts a at new from to lanes bytes
FailureAgrees Poll facts a from to lanes bytes = FailsInErase facts a from to lanes bytes
FailureAgrees _ facts a from to lanes bytes = Unit {0}

-- a reply agrees with the facts
abbrev pub ReplyAgrees : Reply → Facts → ArrayState → Op → List ℕ → Type 0
ReplyAgrees NotYet facts a op bytes = LacksSuspend op facts.suspend
ReplyAgrees (HaltedReply (StuckHalt lane)) facts a op bytes = (is_stuck facts lane ≡ true) × SticksAtWork op a
ReplyAgrees (Failed from to lanes) facts a op bytes = FailureAgrees op facts a from to lanes bytes
ReplyAgrees _ facts a op bytes = Unit {0}

abbrev pub Agrees : Facts → ArrayState → Entry → Type 0
Agrees facts a e = ReplyAgrees e.reply facts a e.op e.bytes

-- Each entry is admitted by the array after its predecessors, and agrees with the facts.
abbrev pub Legal : Facts → ArrayState → List Entry → Type 0
Legal facts a [] = Unit {0}
Legal facts a (e ∷ es) = Admits a e × Agrees facts a e × Legal facts (after a e) es
