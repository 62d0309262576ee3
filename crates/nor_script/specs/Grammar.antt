-- What one line of a script says.
use Rattle.std.specs.Prelude.{ℕ, ◌==◌, nat_le, ◌&&◌, Bool, true, false, not, if◌then◌else◌, List, [], length, slice_index_or, codes, Option, Some, None, Result, Ok, Err}
use Rattle.std.specs.List.{slice_split, list_all}
use Rattle.std.specs.Str.{bytes_eq}
use Rattle.hex.specs.Hex.{decode_of}
use Rattle.hex.specs.declared.error.FromHexError.{FromHexError}
use Rattle.nor_array.specs.declared.entry.Op.TheVariants.{Read as ReadOp, Program as ProgramOp, EraseOpen, EraseAll as EraseAllOp, Poll as PollOp, Lock as LockOp, Unlock as UnlockOp, IsLocked, Arm, PowerOn}
use Rattle.nor_script.specs.Numbers.{number_of}
use Rattle.nor_script.specs.declared.line.Line.{Line}
use Rattle.nor_script.specs.declared.line.Word.{Word as CommandWord}
use Rattle.nor_script.specs.declared.line.Word.TheVariants.{Call, Erase as EraseWord, EraseAll as EraseAllWord}
use Rattle.nor_script.specs.declared.error.LineKind.{LineKind}
use Rattle.nor_script.specs.declared.error.LineKind.TheVariants.{Bytes, Word, Count, Number, Hex, NotHere}
use Rattle.nor_script.specs.declared.error.ScriptError.{ScriptError}
use Rattle.nor_script.specs.declared.error.ScriptError.TheVariants.{BadLine, BadCaller}
use Rattle.nor_script.specs.declared.verb.Verb.{Verb}
use Rattle.nor_script.specs.declared.verb.Verb.TheVariants.{Read, Program, Erase, EraseAll, Open, OpenAll, Poll, Lock, Unlock, Locked, Cut, Reboot}
use Rattle.nor_script.specs.declared.verb.Head.{Head}

-- a step of reading after another, where that gave a value
infixl 10 ◌>>=◌
abbrev pub ◌>>=◌ : {A B : Type 0} → Result A ScriptError → (A → Result B ScriptError) → Result B ScriptError
Ok x >>= f = f x
Err e >>= f = Err e

-- the value that a line has in a place, or what is wrong with line n
abbrev pub found : {A : Type 0} → Option A → LineKind → ℕ → Result A ScriptError
found (Some x) kind n = Ok x
found None kind n = Err (BadLine n kind)

abbrev pub checked : Bool → LineKind → ℕ → Result (Unit {0}) ScriptError
checked true kind n = Ok tt
checked false kind n = Err (BadLine n kind)

-- a byte that a line may have
abbrev pub is_printable : ℕ → Bool
is_printable b = nat_le 0x20 b && nat_le b 0x7E

-- The fields of a line stand between single spaces.
abbrev pub fields : List ℕ → List (List ℕ)
fields line = slice_split (λ b. b == 0x20) line

-- the field in a place, from 0; a line that has fewer has an empty one there
abbrev pub field_of : List ℕ → ℕ → List ℕ
field_of line k = slice_index_or (fields line) k []

-- what a caller may ask for
abbrev pub verb_of : List ℕ → Option Verb
verb_of word =
    if bytes_eq word (codes "read") then Some Read
    else if bytes_eq word (codes "program") then Some Program
    else if bytes_eq word (codes "erase") then Some Erase
    else if bytes_eq word (codes "erase-all") then Some EraseAll
    else if bytes_eq word (codes "open") then Some Open
    else if bytes_eq word (codes "open-all") then Some OpenAll
    else if bytes_eq word (codes "poll") then Some Poll
    else if bytes_eq word (codes "lock") then Some Lock
    else if bytes_eq word (codes "unlock") then Some Unlock
    else if bytes_eq word (codes "locked") then Some Locked
    else None

abbrev pub is_caller : ℕ → Bool
is_caller caller = nat_le 1 caller && nat_le caller 8

abbrev pub caller_of : ℕ → ℕ → Result ℕ ScriptError
caller_of n caller = if is_caller caller then Ok caller else Err (BadCaller n)

-- who calls, and what for
abbrev pub caller_head : ℕ → List ℕ → Result Head ScriptError
caller_head n line = do
  number ← found (number_of (field_of line 0)) Word n
  caller ← caller_of n number
  verb ← found (verb_of (field_of line 1)) Word n
  Ok (record { caller = caller; verb = verb })

-- the cut and the reboot have no caller
abbrev pub head_of : ℕ → List ℕ → Result Head ScriptError
head_of n line =
    if bytes_eq (field_of line 0) (codes "cut") then Ok (record { caller = 0; verb = Cut })
    else if bytes_eq (field_of line 0) (codes "reboot") then Ok (record { caller = 0; verb = Reboot })
    else caller_head n line

-- how many fields a line has
abbrev pub field_count : Verb → ℕ
field_count Read = 4
field_count Program = 4
field_count Erase = 3
field_count EraseAll = 2
field_count Open = 3
field_count OpenAll = 2
field_count Poll = 2
field_count Lock = 3
field_count Unlock = 3
field_count Locked = 3
field_count Cut = 3
field_count Reboot = 1

abbrev pub number_at : ℕ → List ℕ → ℕ → Result ℕ ScriptError
number_at n line k = found (number_of (field_of line k)) Number n

abbrev pub byte_of : ℕ → Option ℕ
byte_of number = if nat_le number 255 then Some number else None

-- a number of one byte
abbrev pub byte_at : ℕ → List ℕ → ℕ → Result ℕ ScriptError
byte_at n line k = do
  number ← number_at n line k
  found (byte_of number) Number n

abbrev pub decoded : Result (List ℕ) FromHexError → Option (List ℕ)
decoded (Ok bytes) = Some bytes
decoded (Err error) = None

-- an even number of hex digits, at least two, or a dash for no bytes
abbrev pub data_of : List ℕ → Option (List ℕ)
data_of text =
    if bytes_eq text (codes "-") then Some []
    else if length text == 0 then None
    else decoded (decode_of text)

abbrev pub data_at : ℕ → List ℕ → ℕ → Result (List ℕ) ScriptError
data_at n line k = found (data_of (field_of line k)) Hex n

-- what a line asks for
abbrev pub word_of : Verb → ℕ → List ℕ → Result CommandWord ScriptError
word_of Read n line = do
  at ← number_at n line 2
  len ← number_at n line 3
  Ok (Call (ReadOp at len))
word_of Program n line = do
  at ← number_at n line 2
  new ← data_at n line 3
  Ok (Call (ProgramOp at new))
word_of Erase n line = do
  block ← number_at n line 2
  Ok (EraseWord block)
word_of Open n line = do
  block ← number_at n line 2
  Ok (Call (EraseOpen block))
word_of EraseAll n line = Ok EraseAllWord
word_of OpenAll n line = Ok (Call EraseAllOp)
word_of Poll n line = Ok (Call PollOp)
word_of Lock n line = do
  block ← number_at n line 2
  Ok (Call (LockOp block))
word_of Unlock n line = do
  block ← number_at n line 2
  Ok (Call (UnlockOp block))
word_of Locked n line = do
  block ← number_at n line 2
  Ok (Call (IsLocked block))
word_of Cut n line = do
  cycles ← number_at n line 1
  mask ← byte_at n line 2
  Ok (Call (Arm cycles mask))
word_of Reboot n line = Ok (Call PowerOn)

-- Callers that race have no use of half an erase, and can't power on. A cut is armed before the first of them.
abbrev pub may_stand : (race has_callers : Bool) → Verb → Bool
may_stand race has_callers Open = not race
may_stand race has_callers OpenAll = not race
may_stand race has_callers Poll = not race
may_stand race has_callers Reboot = not race
may_stand race has_callers Cut = not (race && has_callers)
may_stand race has_callers _ = true

-- What line n says. The first check that fails tells what is wrong with it.
abbrev pub line_of : (race has_callers : Bool) → ℕ → List ℕ → Result Line ScriptError
line_of race has_callers n line = do
  printable ← checked (list_all is_printable line) Bytes n
  head ← head_of n line
  counted ← checked (length (fields line) == field_count head.verb) Count n
  word ← word_of head.verb n line
  placed ← checked (may_stand race has_callers head.verb) NotHere n
  Ok (record { caller = head.caller; number = n; word = word })
