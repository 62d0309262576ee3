-- What a drawing says, and of what bank.
use Rattle.std.proofs.Common.{◌≡◌, ◌<◌, ◌+◌, ◌∙◌, [], ◌++◌, ℕ, List, length, drop, slice_index_or, sym, ap, append_assoc, Option}
use Rattle.std.specs.Option.{IfSome}
use Rattle.std.proofs.lemmas.List.{at_drop_more}
use Rattle.std.proofs.lemmas.Option.{IfSome_then}
use Rattle.nor_dump.specs.declared.survey.Bar.{Bar}
use Rattle.nor_dump.specs.declared.survey.Survey.{Survey}
use Rattle.nor_io.specs.Files.{FileMap}
use Rattle.norimage.specs.Drawn.{line_of, lines_of, IsDrawn}
use Rattle.norimage.specs.Ends.{GivesIn, IsToldIn}
use Rattle.norimage.specs.Words.{Draw}

-- behind the line of a bar stand those of the bars behind it
pub line_more : (bars : List Bar) (k : ℕ) (d : Bar) (fresh before line after : List ℕ) → k < length bars → fresh ≡ [] → line ≡ fresh ++ line_of (slice_index_or bars k d)
    → after ≡ before ++ line → after ++ lines_of (drop (k + 1) bars) ≡ before ++ lines_of (drop k bars)
line_more bars k d fresh before line after below none is put =
    let whole = is ∙ ap (λ (xs : List ℕ). xs ++ line_of (slice_index_or bars k d)) none in
    ap (λ (xs : List ℕ). xs ++ lines_of (drop (k + 1) bars)) put
    ∙ (append_assoc before line (lines_of (drop (k + 1) bars))
    ∙ (ap (λ (xs : List ℕ). before ++ (xs ++ lines_of (drop (k + 1) bars))) whole ∙ ap (λ (xs : List ℕ). before ++ xs) (sym (at_drop_more lines_of bars k d below))))

-- a drawing of what is told of a file answers the command
pub drawn_asked : (image out : List ℕ) (told : Option FileMap) (survey : Survey) (drawing : List ℕ) → IfSome told (IsToldIn image survey) → IsDrawn survey drawing
    → IfSome told (GivesIn (Draw image out) drawing)
drawn_asked image out told survey drawing found drawn =
    IfSome_then told found (λ files is. record {
      free = is.free;
      answers = record { survey = survey; told = is.is; drawn = drawn };
    })
