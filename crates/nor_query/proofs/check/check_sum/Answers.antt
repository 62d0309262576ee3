use Rattle.std.proofs.Common.{◌∙◌, ap}
use Rattle.nor_region.specs.Regions.{are_regions}
use Rattle.nor_query.proofs.Reading.{table_regions}
use Rattle.nor_query.proofs.check.check_sum.Goals as goal

pub total_len-sum-requires-clause-ranges : goal.total_len-sum-requires-clause-ranges
total_len-sum-requires-clause-ranges c = ap (λ regions. are_regions regions) c.deref.ensures.0 ∙ table_regions c.regions_of.result.items c.regions_of.ensures.ranges
