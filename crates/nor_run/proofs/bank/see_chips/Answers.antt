use Rattle.std.proofs.Common.{ℕ, subst, below_more}
use Rattle.nor_cell.specs.Chip.{ChipState}
use Rattle.nor_cell.specs.Ranges.{IsChip}
use Rattle.nor_bus.specs.Bus.{lane}
use Rattle.nor_run.proofs.bank.see_chips.Goals as goal

pub loop-lane-preserved : goal.loop-lane-preserved
loop-lane-preserved g c =
    below_more (λ (k : ℕ). IsChip (lane c.args.bank.now k)) c.loop-lane.lane c.loop-lane.invariant (subst (λ (s : ChipState). IsChip s) c.chip.ensures c.cells-cells.ensures.ranges)
