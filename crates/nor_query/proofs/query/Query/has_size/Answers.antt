use Rattle.std.proofs.Common.{◌∙◌, ap}
use Rattle.nor_region.specs.Regions.{are_regions}
use Rattle.nor_query.proofs.Reading.{table_regions}
use Rattle.nor_query.proofs.query.Query.has_size.Goals as goal

pub total_len-requires-clause-ranges : goal.total_len-requires-clause-ranges
total_len-requires-clause-ranges c = ap (λ regions. are_regions regions) c.deref.ensures.0 ∙ table_regions c.args.self.now.regions.items c.requires.ranges
