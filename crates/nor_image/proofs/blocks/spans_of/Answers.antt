use Rattle.std.proofs.Common.{ap, ◌∙◌, arith, length, List}
use Rattle.std.proofs.lemmas.List.{length-take}
use Rattle.nor_cell.specs.declared.device.Span.{Span}
use Rattle.nor_region.specs.Map.{spans_of}
use Rattle.nor_image.proofs.BlockCounts.{blocks_within}
use Rattle.nor_image.proofs.blocks.spans_of.Goals as goal

pub returns-clause-few : goal.returns-clause-few
returns-clause-few c =
    let taken = ap (λ (spans : List Span). length spans) c.loop-block.invariant ∙ length-take c.loop-block.block (spans_of c.args.map.now) in
    let most = blocks_within c.args.map.now c.regions.ensures.map.sizes in
    omega arith
