-- Laws of the definitions, by which they are seen to say what is meant.
use Rattle.std.specs.Prelude.{◌≡◌, ℕ, Bool, List, [], ◌∷◌, ◌++◌, Ok}
use Rattle.nor_array.specs.declared.entry.Entry.{Entry}
use Rattle.nor_script.specs.Answering.{AnswersWord, AnswersLines}
use Rattle.nor_script.specs.Script.{script_of, IsScript}
use Rattle.nor_script.specs.declared.line.Line.{Line}

-- One line is answered by its own entries.
abbrev pub LinesAreAnswered : Type 0
LinesAreAnswered = (line : Line) (entries : List Entry)
    → AnswersWord line.word line.caller entries → AnswersLines (line ∷ []) entries

-- A history that answers some lines, and behind it one that answers others, answer them all.
abbrev pub AnswersGoOn : Type 0
AnswersGoOn = (lines more : List Line) (entries later : List Entry) → AnswersLines lines entries
    → AnswersLines more later → AnswersLines (lines ++ more) (entries ++ later)

-- What a text says is a script: each line has its caller, and there are at most 65,536.
abbrev pub TextsSayScripts : Type 0
TextsSayScripts = (race : Bool) (text : List ℕ) (lines : List Line) → script_of race text ≡ Ok lines → IsScript lines
