-- Histories that answer scripts.
use Rattle.std.proofs.Common.{◌∙◌, List, [], ◌∷◌, ◌++◌, refl, sym, ap, subst, append_assoc, append-nil}
use Rattle.nor_array.specs.declared.entry.Entry.{Entry}
use Rattle.nor_script.specs.Answering.{AnswersWord, AnswersLines}
use Rattle.nor_script.specs.declared.line.Line.{Line}

pub answers_line : (line : Line) (entries : List Entry) → AnswersWord line.word line.caller entries → AnswersLines (line ∷ []) entries
answers_line line entries answers = (entries, [], sym (append-nil entries), answers, refl)

pub answers_more : (lines more : List Line) (entries later : List Entry) → AnswersLines lines entries → AnswersLines more later → AnswersLines (lines ++ more) (entries ++ later)
answers_more [] more entries later none answers = subst (λ (es : List Entry). AnswersLines more (es ++ later)) (sym none) answers
answers_more (line ∷ lines) more entries later first answers =
    (first.0, first.1 ++ later, ap (λ (es : List Entry). es ++ later) first.2 ∙ append_assoc first.0 first.1 later, first.3, answers_more lines more first.1 later first.4 answers)
