-- What an entry's bytes fit into.
use Rattle.std.specs.Prelude.{◌≡◌, ◌<◌, ◌≤◌, ◌+◌, ℕ, List, length, drop}
use Rattle.nor_array.specs.Array.{ArrayState, open_span}
use Rattle.nor_array.specs.declared.state.Power.{Power}
use Rattle.nor_array.specs.declared.state.Power.TheVariants.{On, Off, Stuck}
use Rattle.nor_array.specs.declared.entry.Op.{Op}
use Rattle.nor_array.specs.declared.entry.Op.TheVariants.{Program, Poll, Lock, Unlock}

-- the part of a program's range that failed
pub record FailsInside (size at len from : ℕ) (bytes : List ℕ) : Type 0 where
  pub begins : at ≤ from
  pub part : from ≤ at + len
  pub inside : at + len ≤ size
  pub fits : from + length bytes ≤ at + len

abbrev pub FailFits : Op → ArrayState → ℕ → List ℕ → Type 0
FailFits (Program at new) a from bytes = FailsInside (length a.bytes) at (length new) from bytes
FailFits Poll a from bytes = length bytes ≡ (open_span a).len
FailFits _ a from bytes = Unit {0}

-- the bytes lie in the array from the place of a program on, and the block of a lock call is there
abbrev pub LeftFits : Op → ArrayState → List ℕ → Type 0
LeftFits (Program at new) a left = at + length left ≤ length a.bytes
LeftFits (Lock b) a left = b < length a.consts.blocks
LeftFits (Unlock b) a left = b < length a.consts.blocks
LeftFits _ a left = Unit {0}

-- The bytes of a halt reach over what is under erase, and the rest fits.
pub record HaltIsWhole (op : Op) (a : ArrayState) (bytes : List ℕ) : Type 0 where
  pub block : (open_span a).len ≤ length bytes
  pub rest : LeftFits op a (drop (open_span a).len bytes)

abbrev pub HaltFits : Power → Op → ArrayState → List ℕ → Type 0
HaltFits On op a bytes = HaltIsWhole op a bytes
HaltFits Off op a bytes = Unit {0}
HaltFits (Stuck lane) op a bytes = Unit {0}
