use Rattle.std.proofs.Common.{◌≡◌, ◌+◌, true, ◌∙◌, ap, arith}
use Rattle.nor_cell.specs.Ranges.{follow_to}
use Rattle.nor_region.specs.Map.{spans_of}
use Rattle.nor_region.specs.Regions.{total_len}
use Rattle.nor_region.proofs.Laying.{follow-laid}
use Rattle.nor_region.proofs.Following.{following}
use Rattle.nor_region.proofs.map.BlockMap.size.Goals as goal
use Rattle.nor_region.proofs.map.BlockMap.size.Goals.{After-sum_lens}

follows : (c : After-sum_lens) → follow_to c.sum_lens.result 0 (spans_of c.args.self.now) ≡ true
follows c =
    let regions = c.args.self.now in
    let here = ap (λ rs. total_len rs) c.regions.ensures.regions in
    let same : c.sum_lens.result ≡ 0 + total_len regions = omega arith in
    ap (λ n. follow_to n 0 (spans_of regions)) same ∙ follow-laid regions 0

pub returns-clause-partition : goal.returns-clause-partition
returns-clause-partition c = follows c

pub returns-clause-blocks : goal.returns-clause-blocks
returns-clause-blocks c = following c.sum_lens.result (spans_of c.args.self.now) (follows c)
