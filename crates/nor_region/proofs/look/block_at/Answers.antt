use Rattle.std.proofs.Common.{◌≤◌, ◌+◌, arith}
use Rattle.nor_cell.specs.Chip.{block_at}
use Rattle.nor_region.specs.Map.{spans_of}
use Rattle.nor_region.specs.Regions.{region_len}
use Rattle.nor_region.proofs.Stepping.{region_at, no_region, total_more, place_here, place_later, blocks_have_bytes}
use Rattle.nor_region.proofs.look.block_at.Goals as goal

pub returns-then-at-from : goal.returns-then-at-from
returns-then-at-from c =
    place_here c.args.regions.now c.loop-region.region-index (omega arith) c.loop-region.first c.loop-region.from c.args.at (block_at (spans_of c.args.regions.now) c.args.at)
    (c.requires.map.sizes c.loop-region.region-index no_region (omega arith)) c.loop-region.invariant.past (omega arith) c.loop-region.invariant.rest

pub loop-region-preserved : goal.loop-region-preserved
loop-region-preserved c =
    let regions = c.args.regions.now in
    let i = c.loop-region.region-index in
    let less = c.loop-region-test.true in
    let more = total_more regions i less in
    let past : c.loop-region.from + region_len (region_at regions i) ≤ c.args.at = omega arith in
    record {
      begun = omega arith;
      few = omega (arith, blocks_have_bytes (region_at regions i).count (region_at regions i).size (c.requires.map.sizes i no_region less));
      past = past;
      rest = place_later regions i less c.loop-region.first c.loop-region.from c.args.at (block_at (spans_of regions) c.args.at) past c.loop-region.invariant.rest;
    }
