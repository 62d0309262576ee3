use Rattle.nor_cell.proofs.Keeping.{looks_keep}
use Rattle.nor_cell.proofs.machine.Machine.look.Goals as goal

pub returns-clause-kept : goal.returns-clause-kept
returns-clause-kept c = looks_keep _ _ c.go_on.ensures.cells c.go_on.ensures.rest
