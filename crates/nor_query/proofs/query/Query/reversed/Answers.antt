use Rattle.std.proofs.Common.{◌∙◌, ap}
use Rattle.nor_query.specs.Derived.{is_reversed}
use Rattle.nor_query.proofs.Deriving.{reversed_agrees}
use Rattle.nor_query.proofs.query.Query.reversed.Goals as goal

pub returns-clause-chip : goal.returns-clause-chip
returns-clause-chip c table stands =
    c.is_reversed.ensures ∙ (ap (λ n. is_reversed c.args.self.now.extended c.args.self.now.minor n) c.len.ensures.value ∙ reversed_agrees table c.args.self.now stands)
