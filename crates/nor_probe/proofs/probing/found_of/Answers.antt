use Rattle.std.proofs.Common.{◌≤◌, ◌^◌, ◌∙◌, refl, ap, arith, map}
use Rattle.std.proofs.Math.Pow.{pow_mono}
use Rattle.nor_region.specs.Map.{scaled_region, scaled_span}
use Rattle.nor_probe.proofs.probing.found_of.Goals as goal

pub scaled-map-requires-clause-chip : goal.scaled-map-requires-clause-chip
scaled-map-requires-clause-chip c =
    let most : 2 ^ c.in_ok-query.query.size_log ≤ 2 ^ 27 = pow_mono c.in_ok-query.ensures.valid.size_log.1 in
    let size = c.block_map.ensures.size in
    omega (arith, most, size)

pub returns-clause-found : goal.returns-clause-found
returns-clause-found c = record {
  wiring = refl;
  stands = c.in_ok-query.ensures.stands;
  regions = c.scaled-map.ensures.regions ∙ ap (map (scaled_region c.args.geometry.lanes)) c.block_map.ensures.regions;
  blocks = c.scaled-map.ensures.spans ∙ ap (map (scaled_span c.args.geometry.lanes)) (c.block_map.ensures.chip c.args.table.now c.in_ok-query.ensures.stands);
}
