use Rattle.std.proofs.Common.{sym, ◌∙◌, ap, arith}
use Rattle.std.specs.Prelude.{sum_by}
use Rattle.std.proofs.lemmas.List.{take_all}
use Rattle.nor_region.proofs.Laying.{length-laid}
use Rattle.nor_region.proofs.look.count_blocks.Goals as goal

pub returns : goal.returns
returns c =
    c.loop-region.invariant.counted
    ∙ (ap (λ regions. sum_by (λ region. region.count) regions) (take_all c.loop-region.region-index c.args.regions.now (omega arith))
    ∙ sym (length-laid c.args.regions.now 0))
