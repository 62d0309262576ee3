use Rattle.std.proofs.Common.{rules}
use Rattle.nor_cell.proofs.Cutting.{changed_inside, kept_outside}
use Rattle.nor_cell.proofs.ends.set_bits.Goals as goal

pub returns-clause-range : goal.returns-clause-range
returns-clause-range c = search rules

pub returns-clause-inside : goal.returns-clause-inside
returns-clause-inside c = λ p e. changed_inside c.args.span _ c.args.cells.now c.loop-p.cells p (returns-clause-range c) e

pub returns-clause-outside : goal.returns-clause-outside
returns-clause-outside c = λ p e. kept_outside c.args.span _ c.args.cells.now c.loop-p.cells p (returns-clause-range c) e
