use Rattle.std.proofs.Common.{◌<◌, ◌≤◌, arith, sym, subst, length}
use Rattle.nor_cell.specs.Chip.{span_end}
use Rattle.nor_cell.specs.declared.device.Span.{Span}
use Rattle.nor_cell.proofs.Spans.{block_inside}
use Rattle.nor_cell.proofs.blocks.block.Goals as goal

pub returns-then-number-len-clause-inside : goal.returns-then-number-len-clause-inside
returns-then-number-len-clause-inside c =
    let z = c.args.cells.now in
    let lt : c.args.number < length z.blocks.items = omega (arith, z.blocks.ok.0) in
    subst (λ (s : Span). span_end s ≤ length z.bytes.items) (sym c.index.ensures) (block_inside (length z.bytes.items) z.blocks.items c.args.number c.index.result.now z.follow lt)
