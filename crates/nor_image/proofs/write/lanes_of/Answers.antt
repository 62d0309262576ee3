use Rattle.std.proofs.Common.{◌≡◌, ◌∙◌, length, sym, ap, arith}
use Rattle.std.proofs.lemmas.List.{length-map}
use Rattle.nor_image.proofs.write.lanes_of.Goals as goal

pub returns-clause-value : goal.returns-clause-value
returns-clause-value g c =
    let count : length c.chips.result.now ≡ length c.args.bank.now.lanes =
    sym (length-map c.chips.result.now g.C.Chip.state) ∙ ap (λ chips. length chips) c.chips.ensures.chips in
    let few = c.chips.ensures.few in
    omega (arith, count, few)
