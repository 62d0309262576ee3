-- The text of a history and of the chips' counters.
use Rattle.std.specs.Prelude.{ℕ, ◌+◌, Bool, true, false, List, [], ◌∷◌, ◌++◌, length, codes, decimal}
use Rattle.std.specs.Fmt.{digits}
use Rattle.hex.specs.Hex.{encode_lower}
use Rattle.nor_array.specs.declared.entry.Entry.{Entry}
use Rattle.nor_array.specs.declared.entry.Halted.{Halted}
use Rattle.nor_array.specs.declared.entry.Halted.TheVariants.{Off, Stuck}
use Rattle.nor_array.specs.declared.entry.Op.{Op}
use Rattle.nor_array.specs.declared.entry.Op.TheVariants.{Read, Program, EraseOpen, EraseAll, Poll, Lock, Unlock, IsLocked, Arm, PowerOn}
use Rattle.nor_array.specs.declared.entry.Reply.{Reply}
use Rattle.nor_array.specs.declared.entry.Reply.TheVariants.{Done, Opened, Erased, Bit, OutOfRange, TooLong, Busy, Occupied, Locked as LockedReply, NoLocks, NoChipErase, Nothing, NotYet, Failed, Halted as HaltedReply}

-- an address: lower-case hex without zeros in front
abbrev pub address : ℕ → List ℕ
address n = codes "0x" ++ digits 16 false n

-- lower-case hex, a dash for no bytes
abbrev pub data_text : List ℕ → List ℕ
data_text [] = codes "-"
data_text (byte ∷ bytes) = encode_lower (byte ∷ bytes)

-- a call without its data
abbrev pub op_front : Op → List ℕ
op_front (Read at len) = codes "read " ++ address at ++ codes " " ++ decimal len
op_front (Program at new) = codes "program " ++ address at ++ codes " "
op_front (EraseOpen b) = codes "open " ++ decimal b
op_front EraseAll = codes "open-all"
op_front Poll = codes "poll"
op_front (Lock b) = codes "lock " ++ decimal b
op_front (Unlock b) = codes "unlock " ++ decimal b
op_front (IsLocked b) = codes "locked " ++ decimal b
op_front (Arm cycles mask) = codes "cut " ++ decimal cycles ++ codes " 0x" ++ encode_lower (mask ∷ [])
op_front PowerOn = codes "reboot"

abbrev pub op_data : Op → List ℕ
op_data (Program at new) = data_text new
op_data _ = []

abbrev pub yes_or_no : Bool → List ℕ
yes_or_no true = codes "yes"
yes_or_no false = codes "no"

-- why the bank halted
abbrev pub halt_text : Halted → List ℕ
halt_text (Off cycles) = codes "off " ++ decimal cycles
halt_text (Stuck lane) = codes "stuck " ++ decimal lane

-- a reply, but for a read that is done
abbrev pub plain_reply : Reply → List ℕ
plain_reply Done = codes "done"
plain_reply Opened = codes "opened"
plain_reply Erased = codes "erased"
plain_reply (Bit locked) = yes_or_no locked
plain_reply OutOfRange = codes "out-of-range"
plain_reply TooLong = codes "too-long"
plain_reply (Busy b) = codes "busy " ++ decimal b
plain_reply (Occupied b) = codes "occupied " ++ decimal b
plain_reply (LockedReply b) = codes "locked " ++ decimal b
plain_reply NoLocks = codes "no-locks"
plain_reply NoChipErase = codes "no-chip-erase"
plain_reply Nothing = codes "nothing"
plain_reply NotYet = codes "not-yet"
plain_reply (Failed from to lanes) =
    codes "failed " ++ address from ++ codes " " ++ address to ++ codes " lanes " ++ decimal lanes
plain_reply (HaltedReply halted) = halt_text halted

-- A read that is done gives its data. What stands in uncertain spans isn't told.
abbrev pub reply_text : Op → Reply → List ℕ → List ℕ
reply_text (Read at len) Done bytes = data_text bytes
reply_text _ reply bytes = plain_reply reply

-- the place in the history, who calls, and what
abbrev pub call_front : ℕ → ℕ → Op → List ℕ
call_front position caller op = decimal position ++ codes " " ++ decimal caller ++ codes " " ++ op_front op

abbrev pub call_text : ℕ → ℕ → Op → List ℕ
call_text position caller op = call_front position caller op ++ op_data op

abbrev pub reply_end : Op → Reply → List ℕ → List ℕ
reply_end op reply bytes = reply_text op reply bytes ++ codes "\n"

abbrev pub reply_part : Op → Reply → List ℕ → List ℕ
reply_part op reply bytes = codes " -> " ++ reply_end op reply bytes

-- the line of an entry
abbrev pub entry_line : ℕ → ℕ → Op → Reply → List ℕ → List ℕ
entry_line position caller op reply bytes = call_text position caller op ++ reply_part op reply bytes

-- the line of a lane: how often an erase was suspended, and how many erases there were
abbrev pub lane_line : ℕ → ℕ × ℕ → List ℕ
lane_line lane counters =
    codes "lane " ++ decimal lane ++ codes " suspends " ++ decimal counters.0
    ++ codes " erases " ++ decimal counters.1 ++ codes "\n"

-- the lines of the lanes from one on
abbrev pub lane_lines : ℕ → List (ℕ × ℕ) → List ℕ
lane_lines lane [] = []
lane_lines lane (counters ∷ lanes) = lane_line lane counters ++ lane_lines (lane + 1) lanes

-- how long the history is
abbrev pub count_line : ℕ → List ℕ
count_line entries = codes "history " ++ decimal entries ++ codes "\n"

abbrev pub totals_text : List (ℕ × ℕ) → ℕ → List ℕ
totals_text lanes entries = lane_lines 0 lanes ++ count_line entries

-- the lines of the entries from a place on
abbrev pub entry_lines : ℕ → List Entry → List ℕ
entry_lines position [] = []
entry_lines position (e ∷ entries) = entry_line position e.caller e.op e.reply e.bytes
    ++ entry_lines (position + 1) entries

-- the report of a history, with each lane's counters
abbrev pub report_text : List Entry → List (ℕ × ℕ) → List ℕ
report_text entries lanes = entry_lines 0 entries ++ totals_text lanes (length entries)
