-- The entries of a run as steps: what each may ask of the chips.
use Rattle.std.specs.Prelude.{◌≡◌, ◌++◌, ◌∷◌, List, [], Bool, true, false}
use Rattle.nor_array.specs.Array.{ArrayState}
use Rattle.nor_array.specs.declared.entry.Entry.{Entry}
use Rattle.nor_script.specs.Answering.{AnswersWord}
use Rattle.nor_script.specs.declared.line.Line.{Line}
use Rattle.nor_script.specs.declared.line.Word.{Word}
use Rattle.nor_script.specs.declared.line.Word.TheVariants.{Call}
use Rattle.nor_bank.specs.State.{BankState}
use Rattle.nor_history.specs.Bounds.{Step, entries_of, steps_as, Tally, no_tally, Bounded, Goes}

-- a line that waits for the end of the erase that it opens
abbrev pub waits_for : Word → Bool
waits_for (Call op) = false
waits_for word = true

-- The steps are the entries of the lines, in their order.
abbrev pub AreStepsOf : List Line → List Step → Type 0
AreStepsOf [] steps = steps ≡ []
AreStepsOf (line ∷ lines) steps =
    (first : List Entry) × (rest : List Step)
    × (steps ≡ steps_as (waits_for line.word) first ++ rest)
    × AnswersWord line.word line.caller first × AreStepsOf lines rest

-- As steps of the lines the entries keep the bounds, behind what was counted, and what is then counted fits the
-- bank.
pub record GoesBy (lines : List Line) (es : List Entry) (old new : BankState) (a : ArrayState) (t : Tally)
    : Type 0 where
  pub steps : List Step
  pub entries : entries_of steps ≡ es
  pub of : AreStepsOf lines steps
  pub goes : Goes steps old new a t

-- As steps of the lines the entries keep the bounds, on a bank of which no call was made.
pub record StaysWithin (lines : List Line) (es : List Entry) (b : BankState) (a : ArrayState) : Type 0 where
  pub steps : List Step
  pub entries : entries_of steps ≡ es
  pub of : AreStepsOf lines steps
  pub bounded : Bounded b a no_tally steps
