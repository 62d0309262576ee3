-- What each call needs: the one table that refusals, replies and choices go by.
use Rattle.std.specs.Prelude.{ℕ, length, true, false, ◌==◌}
use Rattle.nor_array.specs.declared.needs.CallNeeds.{CallNeeds}
use Rattle.nor_array.specs.declared.needs.Reach.TheVariants.{Nowhere, Range, Block, Everywhere}
use Rattle.nor_array.specs.declared.needs.Chance.TheVariants.{Never, BesideErase, Always}
use Rattle.nor_array.specs.declared.entry.Op.{Op}
use Rattle.nor_array.specs.declared.entry.Op.TheVariants.{Read, Program, EraseOpen, EraseAll, Poll, Lock, Unlock, IsLocked, Arm, PowerOn}

-- a call of the chips that touches nothing and isn't waited for
abbrev pub bare_call : CallNeeds
bare_call = record {
  reach = Nowhere;
  idle = false;
  waits = Never;
  sticks = Never;
  opens = false;
  unlocked = false;
  locks = false;
  chip_erase = false;
}

-- a lock call
abbrev pub lock_call : ℕ → CallNeeds
lock_call b = record bare_call { reach = Block b; waits = BesideErase; sticks = BesideErase; locks = true }

abbrev pub needs_of : Op → CallNeeds
needs_of (Read at len) =
    record bare_call { reach = Range at len; idle = len == 0; waits = BesideErase; sticks = BesideErase }
needs_of (Program at new) =
    record bare_call {
      reach = Range at (length new);
      idle = length new == 0;
      waits = BesideErase;
      sticks = Always;
      unlocked = true;
    }
needs_of (EraseOpen b) = record bare_call { reach = Block b; opens = true; unlocked = true }
needs_of EraseAll = record bare_call { reach = Everywhere; opens = true; unlocked = true; chip_erase = true }
needs_of Poll = record bare_call { waits = Always; sticks = Always }
needs_of (Lock b) = lock_call b
needs_of (Unlock b) = lock_call b
needs_of (IsLocked b) = lock_call b
needs_of (Arm cut mask) = record bare_call { idle = true }
needs_of PowerOn = record bare_call { idle = true }
