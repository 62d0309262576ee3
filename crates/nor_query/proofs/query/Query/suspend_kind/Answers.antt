use Rattle.std.proofs.Common.{◌∙◌}
use Rattle.nor_query.proofs.Deriving.{suspend_agrees}
use Rattle.nor_query.proofs.query.Query.suspend_kind.Goals as goal

pub returns-clause-chip : goal.returns-clause-chip
returns-clause-chip c table stands = c.suspend_of.ensures ∙ suspend_agrees table c.args.self.now stands
