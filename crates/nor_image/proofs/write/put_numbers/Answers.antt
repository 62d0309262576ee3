use Rattle.std.proofs.Common.{◌≡◌, ◌++◌, [], ◌∷◌, ℕ, List, length, subst, ap, ◌∙◌, arith}
use Rattle.std.specs.Int.{w16, to_le_bytes}
use Rattle.nor_image.specs.Writing.{Puts}
use Rattle.nor_image.proofs.Putting.{puts_next}
use Rattle.nor_image.proofs.write.put_numbers.Goals as goal

pub returns-clause-numbers : goal.returns-clause-numbers
returns-clause-numbers c =
    let all = puts_next (puts_next (puts_next (puts_next (puts_next c.put-at.ensures c.put-at-2.ensures) c.put-at-3.ensures) c.put-at-4.ensures) c.put-at-5.ensures) c.put.ensures in
    let weak : c.len.result ≡ length c.args.cells.now.weak.items = omega (arith, c.len.ensures, c.args.cells.now.weak.ok) in
    let count = c.to_le_bytes-3.ensures ∙ ap (to_le_bytes w16) weak in
    subst (λ (bytes : List ℕ). Puts bytes c.args.at c.args.file.now c.put.new.file c.put.result)
    (λ i. c.to_le_bytes.ensures i ++ c.to_le_bytes-2.ensures i ++ (c.args.cells.now.pace_suspend ∷ c.from.ensures i ∷ []) ++ count i ++ c.to_le_bytes-4.ensures i ++ c.to_le_bytes-5.ensures i)
    all
