-- What a script says that callers race.
use Rattle.std.specs.Prelude.{◌≡◌, ◌||◌, ℕ, List, Bool, true, false, All, Ok}
use Rattle.nor_array.specs.Entries.{is_arming}
use Rattle.nor_array.specs.declared.entry.Op.{Op}
use Rattle.nor_array.specs.declared.entry.Op.TheVariants.{Read, Program, EraseOpen, EraseAll as EraseAllOp, Poll, Lock, Unlock, IsLocked, Arm, PowerOn}
use Rattle.nor_script.specs.Script.{script_of, IsScript}
use Rattle.nor_script.specs.declared.line.Line.{Line}
use Rattle.nor_script.specs.declared.line.Word.{Word}
use Rattle.nor_script.specs.declared.line.Word.TheVariants.{Call, Erase, EraseAll}

-- a call that a caller makes in a race, in one line of its own
abbrev pub is_raced : Op → Bool
is_raced (Read at len) = true
is_raced (Program at new) = true
is_raced (EraseOpen b) = false
is_raced EraseAllOp = false
is_raced Poll = false
is_raced (Lock b) = true
is_raced (Unlock b) = true
is_raced (IsLocked b) = true
is_raced (Arm cut mask) = false
is_raced PowerOn = false

-- such a call, a whole erase, or a cut
abbrev pub may_race : Word → Bool
may_race (Call op) = is_raced op || is_arming op
may_race (Erase b) = true
may_race EraseAll = true

-- Each line has its caller, there are at most 65,536, and each is one of a race.
pub record IsRaceScript (lines : List Line) : Type 0 where
  pub script : IsScript lines
  pub words : All (λ line. may_race line.word ≡ true) lines

-- What a text says that is to be raced is a script of a race.
abbrev pub TextsSayRaces : Type 0
TextsSayRaces = (text : List ℕ) (lines : List Line) → script_of true text ≡ Ok lines → IsRaceScript lines
