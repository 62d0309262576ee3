use Rattle.std.proofs.Common.{◌≡◌, length, ◌∙◌, ap, rules}
use Rattle.nor_region.specs.Map.{in_order}
use Rattle.nor_region.specs.Regions.{are_regions}
use Rattle.nor_query.specs.Derived.{is_reversed}
use Rattle.nor_query.proofs.Deriving.{blocks_agree}
use Rattle.nor_query.proofs.Reading.{table_regions}
use Rattle.nor_query.proofs.query.Query.block_map.Goals as goal

pub block_map-requires : goal.block_map-requires
block_map-requires c = ap (λ regions. are_regions regions) c.deref.ensures.0 ∙ table_regions c.args.self.now.regions.items c.requires.ranges

pub returns-clause-chip : goal.returns-clause-chip
returns-clause-chip c table stands =
    let q = c.args.self.now in
    let made : c.unwrap.result ≡ in_order (is_reversed q.extended q.minor (length q.regions.items)) q.regions.items = search rules in
    blocks_agree table q c.unwrap.result stands made
