use Rattle.std.proofs.Common.{◌∙◌, ◌++◌, ◌∷◌, [], ◌+◌, ◌*◌, ◌%◌, ℕ, List, sym, ap}
use Rattle.nor_drill.proofs.Scripts.{one_byte}
use Rattle.nor_drill.proofs.script.data_of.Goals as goal

pub loop-j-preserved : goal.loop-j-preserved
loop-j-preserved c =
    c.in_ok-push.ensures.items
    ∙ (λ i. c.loop-j.data.items ++ (c.from.ensures i + 37 * c.from-in-loop-j.ensures i) % 256 ∷ [])
    ∙ ap (λ (xs : List ℕ). xs ++ (c.args.b + 37 * c.loop-j.j) % 256 ∷ []) c.loop-j.invariant
    ∙ sym (one_byte c.args.b c.loop-j.j)
