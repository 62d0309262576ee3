-- What an entry changes. All that isn't named stays.
use Rattle.std.specs.Prelude.{◌-◌, ℕ, List, [], ◌∷◌, take, drop, length, replicate, slice_index, slice_set, bit_and, Bool, true, false, ◌==◌, Some, None}
use Rattle.nor_array.specs.Array.{ArrayState, put, range, open_span, powered_locks}
use Rattle.nor_array.specs.declared.state.Target.TheVariants.{OneBlock, AllBlocks}
use Rattle.nor_array.specs.declared.state.Power.{Power}
use Rattle.nor_array.specs.declared.state.Power.TheVariants.{On, Off, Stuck}
use Rattle.nor_array.specs.declared.entry.Op.{Op}
use Rattle.nor_array.specs.declared.entry.Op.TheVariants.{Program, EraseOpen, EraseAll, Poll, Lock, Unlock, Arm, PowerOn}
use Rattle.nor_array.specs.declared.entry.Reply.{Reply}
use Rattle.nor_array.specs.declared.entry.Reply.TheVariants.{Done, Opened, Erased, Bit, OutOfRange, TooLong, Busy, Occupied, Locked, NoLocks, NoChipErase, Nothing, NotYet, Failed, Halted as HaltedReply}
use Rattle.nor_array.specs.declared.entry.Halted.{Halted}
use Rattle.nor_array.specs.declared.entry.Halted.TheVariants.{Off as OffHalt, Stuck as StuckHalt}
use Rattle.nor_array.specs.declared.entry.Entry.{Entry}

-- old AND new, byte by byte
abbrev pub all_and : List ℕ → List ℕ → List ℕ
all_and [] new = []
all_and (x ∷ old) [] = []
all_and (x ∷ old) (y ∷ new) = bit_and x y ∷ all_and old new

-- the bytes after a program: each byte of the range becomes old AND new
abbrev pub programmed : List ℕ → ℕ → List ℕ → List ℕ
programmed bytes at new = put bytes at (all_and (range bytes at (length new)) new)

abbrev pub with_lock : ℕ → Bool → ArrayState → ArrayState
with_lock b locked a = record a { locks = slice_set a.locks b locked }

-- Done. A program stores its bytes, a lock bit is set or cleared, a cut is armed. Power-on leaves the locks or sets
-- them all, and ends the erase and the armed cut.
abbrev pub after_done : Op → ArrayState → ArrayState
after_done (Program at new) a = record a { bytes = programmed a.bytes at new }
after_done (Lock b) a = with_lock b true a
after_done (Unlock b) a = with_lock b false a
after_done (Arm cut mask) a = record a { armed = Some (record { after = cut; mask = mask }) }
after_done PowerOn a = record a { power = On; locks = powered_locks a.consts a.locks; under = None; armed = None }
after_done _ a = a

-- Opened. The block, or all of them, are under erase for the entry's caller.
abbrev pub after_opened : Op → ℕ → ArrayState → ArrayState
after_opened (EraseOpen b) caller a = record a { under = Some (record { target = OneBlock b; caller = caller }) }
after_opened EraseAll caller a = record a { under = Some (record { target = AllBlocks; caller = caller }) }
after_opened _ caller a = a

-- What is under erase gets these bytes, and nothing is under erase any more.
abbrev pub closed : List ℕ → ArrayState → ArrayState
closed bytes a = record a { bytes = put a.bytes (open_span a).from bytes; under = None }

-- Erased. What is under erase becomes 0xFF.
abbrev pub after_erased : Op → ArrayState → ArrayState
after_erased Poll a = closed (replicate (open_span a).len 0xFF) a
after_erased _ a = a

-- Failed. A program stores its bytes up to `from`, and what it names from there on gets the entry's bytes; an erase
-- leaves them in what it had under erase.
abbrev pub after_failed : Op → ℕ → List ℕ → ArrayState → ArrayState
after_failed (Program at new) from bytes a =
    record a { bytes = put (programmed a.bytes at (take (from - at) new)) from bytes }
after_failed Poll from bytes a = closed bytes a
after_failed _ from bytes a = a

abbrev pub power_of : Halted → Power
power_of (OffHalt cut) = Off
power_of (StuckHalt lane) = Stuck lane

-- the byte says that the block stands locked
abbrev pub names_locked : List ℕ → Bool
names_locked left = slice_index left 0 == 1

-- What a halt leaves of the call's own work: the range of a program gets the bytes, the lock of a lock call the bit
-- that the byte names.
abbrev pub left_by : Op → List ℕ → ArrayState → ArrayState
left_by (Program at new) left a = record a { bytes = put a.bytes at left }
left_by (Lock b) left a = with_lock b (names_locked left) a
left_by (Unlock b) left a = with_lock b (names_locked left) a
left_by _ left a = a

-- Halted for the first time, power being on. What is under erase gets the first part of the entry's bytes, and the
-- call's own work the rest; the erase is given up, and the halt is kept. A halt that is kept already changes nothing.
abbrev pub after_halted : Power → Halted → Op → List ℕ → ArrayState → ArrayState
after_halted On cause op bytes a =
    let gone = closed (take (open_span a).len bytes) a in
    record (left_by op (drop (open_span a).len bytes) gone) { power = power_of cause }
after_halted Off cause op bytes a = a
after_halted (Stuck lane) cause op bytes a = a

abbrev pub after_reply : Reply → Entry → ArrayState → ArrayState
after_reply Done e a = after_done e.op a
after_reply Opened e a = after_opened e.op e.caller a
after_reply Erased e a = after_erased e.op a
after_reply (Bit locked) e a = a
after_reply OutOfRange e a = a
after_reply TooLong e a = a
after_reply (Busy b) e a = a
after_reply (Occupied b) e a = a
after_reply (Locked b) e a = a
after_reply NoLocks e a = a
after_reply NoChipErase e a = a
after_reply Nothing e a = a
after_reply NotYet e a = a
after_reply (Failed from to lanes) e a = after_failed e.op from e.bytes a
after_reply (HaltedReply cause) e a = after_halted a.power cause e.op e.bytes a

-- the array after an entry
abbrev pub after : ArrayState → Entry → ArrayState
after a e = after_reply e.reply e a

-- and after a history
abbrev pub after_all : ArrayState → List Entry → ArrayState
after_all a [] = a
after_all a (e ∷ es) = after_all (after a e) es
