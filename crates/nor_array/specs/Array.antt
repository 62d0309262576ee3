-- The plain array: what a bank of chips is to its callers.
use Rattle.std.specs.Prelude.{◌≡◌, ◌<◌, ◌+◌, ℕ, List, ◌++◌, length, take, drop, replicate, slice_range, slice_index_or, Bool, true, false, ◌&&◌, nat_lt, nat_le, if◌then◌else◌, zero, suc, Option, Some, None, IsTrue}
use Rattle.std.specs.List.{list_all}
use Rattle.std.specs.Option.{ForSome}
use Rattle.nor_cell.specs.Bits.{AreBytes}
use Rattle.nor_cell.specs.Chip.{block, covered, no_span, span_end, Target as ChipTarget, OneBlock as OneOfChip, AllBlocks as AllOfChip}
use Rattle.nor_cell.specs.Ranges.{follow_to}
use Rattle.nor_cell.specs.declared.device.Span.{Span}
use Rattle.nor_array.specs.declared.state.OpenErase.{OpenErase}
use Rattle.nor_array.specs.declared.state.Target.{Target}
use Rattle.nor_array.specs.declared.state.Target.TheVariants.{OneBlock, AllBlocks}
use Rattle.nor_array.specs.declared.state.Power.{Power}
use Rattle.nor_array.specs.declared.state.Power.TheVariants.{On, Off, Stuck}
use Rattle.nor_array.specs.declared.state.ArmedCut.{ArmedCut}

-- what no call changes
pub record Constants : Type 0 where
  -- the blocks, which follow each other from address 0 to the end
  pub blocks : List Span
  -- whether locks are offered, how each stands at the opening, and whether power-on leaves them
  pub has_locks : Bool
  pub locked : List Bool
  pub keeps : Bool
  -- whether the erase of all blocks at once is offered
  pub has_chip_erase : Bool
  -- each weak place of each chip, as bytes of the bank
  pub weak : List Span

pub record ArrayState : Type 0 where
  pub consts : Constants
  pub bytes : List ℕ
  -- one for each block
  pub locks : List Bool
  -- what is under erase, with its caller
  pub under : Option OpenErase
  pub power : Power
  -- the cut that was armed; it is kept while power is off
  pub armed : Option ArmedCut

-- every span lies within so many bytes
abbrev pub lie_within : ℕ → List Span → Bool
lie_within size spans = list_all (λ span. nat_le (span_end span) size) spans

-- the target of an open erase, as the chips have it
abbrev pub chip_target : Target → ChipTarget
chip_target (OneBlock b) = OneOfChip b
chip_target AllBlocks = AllOfChip

-- one block is among these
abbrev pub IsThere : Target → List Span → Type 0
IsThere (OneBlock b) blocks = b < length blocks
IsThere AllBlocks blocks = Unit {0}

-- What holds of every plain array: its blocks and weak spans lie in its bytes, each block has a lock, and a block under
-- erase is one of them.
pub record IsArray (a : ArrayState) : Type 0 where
  pub bytes : AreBytes a.bytes
  pub blocks : IsTrue (follow_to (length a.bytes) 0 a.consts.blocks)
  pub weak : IsTrue (lie_within (length a.bytes) a.consts.weak)
  pub locked : length a.consts.locked ≡ length a.consts.blocks
  pub locks : length a.locks ≡ length a.consts.blocks
  pub under : ForSome a.under (λ open_erase. IsThere open_erase.target a.consts.blocks)

-- The locks after power-on: as they were where they are kept, else all set where locks are offered.
abbrev pub powered_locks : Constants → List Bool → List Bool
powered_locks consts locks = if consts.keeps then locks else replicate (length consts.blocks) consts.has_locks

-- The opening: no erase is under way, power is on and no cut is armed.
abbrev pub opening : Constants → List ℕ → ArrayState
opening consts bytes =
    record { consts = consts; bytes = bytes; locks = consts.locked; under = None; power = On; armed = None }

-- so many bytes from a place on
abbrev pub range : List ℕ → ℕ → ℕ → List ℕ
range bytes at len = slice_range bytes at (at + len)

-- the bytes with others in their place, from a place on
abbrev pub put : List ℕ → ℕ → List ℕ → List ℕ
put bytes at new = take at bytes ++ new ++ drop (at + length new) bytes

-- so it is of any array that has these blocks
abbrev pub OfBlocks : List Span → (ArrayState → Type 0) → Type 0
OfBlocks blocks P = (a : ArrayState) → a.consts.blocks ≡ blocks → P a

-- the bytes of a block; a block that isn't there has none
abbrev pub span_of : ArrayState → ℕ → Span
span_of a b = block a.consts.blocks b

abbrev pub is_locked : ArrayState → ℕ → Bool
is_locked a b = slice_index_or a.locks b false

-- the bytes under erase: none where nothing is
abbrev pub erase_span : Option OpenErase → Constants → Span
erase_span None consts = no_span
erase_span (Some open_erase) consts = covered (chip_target open_erase.target) consts.blocks

abbrev pub open_span : ArrayState → Span
open_span a = erase_span a.under a.consts

abbrev pub is_open : Option OpenErase → Bool
is_open None = false
is_open (Some open_erase) = true

abbrev pub is_on : Power → Bool
is_on On = true
is_on Off = false
is_on (Stuck lane) = false

-- so many bytes from a place on touch the span
abbrev pub meets : ℕ → ℕ → Span → Bool
meets at len span = nat_lt 0 len && nat_lt at (span_end span) && nat_lt span.from (at + len)

-- the lowest of the n numbers from k on that passes the test
abbrev pub lowest : (ℕ → Bool) → (k n : ℕ) → Option ℕ
lowest test k zero = None
lowest test k (suc n) = if test k then Some k else lowest test (k + 1) n
