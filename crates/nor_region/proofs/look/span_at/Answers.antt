use Rattle.std.proofs.Common.{arith}
use Rattle.nor_cell.specs.Chip.{block}
use Rattle.nor_region.specs.Map.{spans_of}
use Rattle.nor_region.proofs.Stepping.{region_at, total_more, total_more_le, begins_inside, block_here, block_later, inside_later}
use Rattle.nor_region.proofs.look.span_at.Goals as goal

pub overflow_add-result : goal.overflow_add-result
overflow_add-result c =
    let regions = c.args.regions.now in
    let i = c.loop-region.region-index in
    let region = region_at regions i in
    omega (arith, begins_inside c.loop-region.left region.count region.size c.if-left-region.true, total_more_le regions i c.loop-region-test.true)

pub returns-then-left-region : goal.returns-then-left-region
returns-then-left-region c =
    block_here c.args.regions.now c.loop-region.region-index c.loop-region-test.true c.loop-region.from c.loop-region.left (block (spans_of c.args.regions.now) c.args.block)
    c.if-left-region.true c.loop-region.invariant.rest

pub overflow_add-from : goal.overflow_add-from
overflow_add-from c = omega (arith, total_more_le c.args.regions.now c.loop-region.region-index c.loop-region-test.true)

pub loop-region-preserved : goal.loop-region-preserved
loop-region-preserved c =
    let regions = c.args.regions.now in
    let i = c.loop-region.region-index in
    let less = c.loop-region-test.true in
    let more = total_more regions i less in
    record {
      begun = omega arith;
      inside = inside_later regions i less c.loop-region.from c.loop-region.left c.if-left-region.false c.loop-region.invariant.inside;
      rest = block_later regions i less c.loop-region.from c.loop-region.left (block (spans_of regions) c.args.block) c.if-left-region.false c.loop-region.invariant.rest;
    }
