use Rattle.std.proofs.Common.{◌≡◌, ◌+◌, ◌-◌, sym, ap, arith, length, List, ◌∙◌}
use Rattle.nor_cell.specs.declared.device.Span.{Span}
use Rattle.nor_region.specs.Map.{spans_of}
use Rattle.nor_array.specs.Refusals.{touches}
use Rattle.nor_array.proofs.Lowest.{lowest_here, lowest_over}
use Rattle.nor_array.proofs.refuse.lowest_touched.Goals as goal

pub loop-block-preserved : goal.loop-block-preserved
loop-block-preserved c = λ a same.
    let n = length a.consts.blocks in
    let count : n ≡ length (spans_of c.args.map.now) = ap (λ (bs : List Span). length bs) same in
    c.loop-block.invariant a same
    ∙ lowest_over (touches a c.args.reach) c.loop-block.block (n - c.loop-block.block) (n - (c.loop-block.block + 1)) (omega arith)
    (sym (c.touches.ensures a same) ∙ c.if-touches.false)

pub returns-then-touches : goal.returns-then-touches
returns-then-touches c = λ a same.
    let n = length a.consts.blocks in
    let count : n ≡ length (spans_of c.args.map.now) = ap (λ (bs : List Span). length bs) same in
    sym (c.loop-block.invariant a same
    ∙ lowest_here (touches a c.args.reach) c.loop-block.block (n - c.loop-block.block) (omega arith)
    (sym (c.touches.ensures a same) ∙ c.if-touches.true))
