use Rattle.std.proofs.Common.{rules, arith}
use Rattle.nor_cell.proofs.Changing.{erased_by}
use Rattle.nor_cell.proofs.ends.erase.Goals as goal
use Rattle.nor_cell.proofs.ends.erase.Goals.{then-broke, else-broke}

pub returns-clause-cells : goal.returns-clause-cells
returns-clause-cells c =
    erased_by c.args.weak.now c.args.span c.if-broke.set_bits c.args.cells.now c.set_bits.new.cells
    (elim c.if-broke.branch [ then-broke w ↦ omega (arith, w.set_bits-is) | else-broke w ↦ omega (arith, w.set_bits-is) ])
    (λ free. elim c.if-broke.branch [ then-broke w ↦ cc | else-broke w ↦ w.set_bits-is ])
    (λ p. search rules)
    c.set_bits.ensures.range
