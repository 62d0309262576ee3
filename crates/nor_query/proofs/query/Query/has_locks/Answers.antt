use Rattle.std.proofs.Common.{◌∙◌}
use Rattle.nor_query.proofs.Deriving.{locks_agree}
use Rattle.nor_query.proofs.query.Query.has_locks.Goals as goal

pub returns-clause-chip : goal.returns-clause-chip
returns-clause-chip c table stands = c.locks_of.ensures ∙ locks_agree table c.args.self.now stands
