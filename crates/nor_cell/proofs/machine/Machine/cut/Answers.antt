use Rattle.nor_cell.proofs.Cutting.{cuts_both, cuts_by, cuts_keep}
use Rattle.nor_cell.proofs.machine.Machine.cut.Goals as goal

pub returns-clause-step : goal.returns-clause-step
returns-clause-step c = cuts_both _ _ _ _ c.cut_job.ensures c.cut_held.ensures

pub returns-clause-left : goal.returns-clause-left
returns-clause-left c = cuts_by _ _ _ _ c.cut_job.ensures c.cut_held.ensures

pub returns-clause-kept : goal.returns-clause-kept
returns-clause-kept c = cuts_keep _ _ (returns-clause-step c)
