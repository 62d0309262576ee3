use Rattle.std.proofs.Common.{subst, sym}
use Rattle.nor_cell.specs.Chip.{ChipState}
use Rattle.nor_cell.specs.Steps.{Keeps}
use Rattle.nor_amd.proofs.Writing.{steps_keep}
use Rattle.nor_amd.proofs.chip.AmdChip.write.Goals as goal

pub returns-then-not-runs-clause-kept : goal.returns-then-not-runs-clause-kept
returns-then-not-runs-clause-kept c =
    let s : ChipState = c.self.inside.machine in
    subst (λ (t : ChipState). Keeps t c.step.new.chip) c.self.view_is
    (subst (λ (t : ChipState). Keeps s t) (sym c.step.ensures) (steps_keep s.fault s c.args.at c.args.value))
