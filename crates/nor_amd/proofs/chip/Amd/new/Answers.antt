use Rattle.std.proofs.Common.{ap, sym, ◌∙◌}
use Rattle.nor_cell.specs.Chip.{ChipState}
use Rattle.nor_cell.proofs.Locking.{amd_keeps}
use Rattle.nor_amd.proofs.chip.Amd.new.Goals as goal

pub returns-clause-locks : goal.returns-clause-locks
returns-clause-locks c =
    let cells = c.args.cells in
    ap (λ (s : ChipState). s.locks) c.new.ensures ∙ sym (amd_keeps cells.table cells.locks.items cells.offered)
