-- What a script says, line by line.
use Rattle.std.specs.Prelude.{◌≡◌, ◌≢◌, ◌≤◌, ℕ, ◌+◌, ◌==◌, nat_lt, Bool, true, false, ◌||◌, if◌then◌else◌, List, [], ◌∷◌, ◌++◌, length, All, Result, Ok, Err}
use Rattle.std.specs.List.{slice_split}
use Rattle.nor_array.specs.declared.entry.Op.{Op}
use Rattle.nor_array.specs.declared.entry.Op.TheVariants.{Arm, PowerOn}
use Rattle.nor_script.specs.Grammar.{line_of}
use Rattle.nor_script.specs.declared.line.Line.{Line}
use Rattle.nor_script.specs.declared.line.Word.{Word}
use Rattle.nor_script.specs.declared.line.Word.TheVariants.{Call, Erase, EraseAll}
use Rattle.nor_script.specs.declared.error.ScriptError.{ScriptError}
use Rattle.nor_script.specs.declared.error.ScriptError.TheVariants.{TooManyLines, NoMemory}

-- Lines end at newlines. Behind a newline at the end of the text stands an empty line, which is skipped as any other.
abbrev pub lines_of : List ℕ → List (List ℕ)
lines_of text = slice_split (λ b. b == 10) text

-- an empty line, or a comment
abbrev pub is_skipped : List ℕ → Bool
is_skipped [] = true
is_skipped (b ∷ line) = b == 35

-- this line has a caller
abbrev pub has_caller : Result Line ScriptError → Bool
has_caller (Ok line) = nat_lt 0 line.caller
has_caller (Err error) = false

-- lines, and those that come behind them, unless one of those is bad
abbrev pub before_rest : List Line → Result (List Line) ScriptError → Result (List Line) ScriptError
before_rest lines (Ok rest) = Ok (lines ++ rest)
before_rest lines (Err error) = Err error

abbrev pub with_line : Result Line ScriptError → Result (List Line) ScriptError → Result (List Line) ScriptError
with_line (Ok line) rest = before_rest (line ∷ []) rest
with_line (Err error) rest = Err error

-- What the lines from number n on say, where so many command lines stand before them, and some of those have callers.
-- A script has at most 65,536 command lines: one more isn't read.
abbrev pub script_from : (race has_callers : Bool) → (n count : ℕ) → List (List ℕ) → Result (List Line) ScriptError
script_from race has_callers n count [] = Ok []
script_from race has_callers n count (text ∷ texts) =
    let line = line_of race has_callers n text in
    if is_skipped text then script_from race has_callers (n + 1) count texts
    else if nat_lt count 65536 then
    with_line line (script_from race (has_callers || has_caller line) (n + 1) (count + 1) texts)
    else Err TooManyLines

-- What a script says: its command lines, or what is wrong with the first that is bad.
abbrev pub script_of : Bool → List ℕ → Result (List Line) ScriptError
script_of race text = script_from race false 1 0 (lines_of text)

-- who may ask for a call: a cut and a reboot have no caller, each other call has one from 1 to 8
abbrev pub CallHasCaller : Op → ℕ → Type 0
CallHasCaller (Arm cut mask) caller = caller ≡ 0
CallHasCaller PowerOn caller = caller ≡ 0
CallHasCaller _ caller = (1 ≤ caller) × (caller ≤ 8)

abbrev pub HasCaller : Word → ℕ → Type 0
HasCaller (Call op) caller = CallHasCaller op caller
HasCaller (Erase block) caller = (1 ≤ caller) × (caller ≤ 8)
HasCaller EraseAll caller = (1 ≤ caller) × (caller ≤ 8)

-- Each line has its caller, and there are at most 65,536.
pub record IsScript (lines : List Line) : Type 0 where
  pub few : length lines ≤ 65536
  pub callers : All (λ line. HasCaller line.word line.caller) lines

-- this was read, or memory ran out
abbrev pub Reads : {A : Type 0} → Result A ScriptError → Result A ScriptError → Type 0
Reads wanted (Ok x) = wanted ≡ Ok x
Reads wanted (Err error) = error ≢ NoMemory → wanted ≡ Err error
