use Rattle.std.proofs.Common.{◌≡◌, ◌<◌, ℕ, true, length, sym, subst, ◌∙◌, ap}
use Rattle.nor_cell.specs.Chip.{block, block_at, is_within}
use Rattle.nor_region.specs.Map.{spans_of}
use Rattle.nor_region.proofs.Mapping.{block_found, block_within, block_only}
use Rattle.nor_region.proofs.map.BlockMap.block_of.Goals as goal

pub returns-clause-block : goal.returns-clause-block
returns-clause-block c =
    let regions = c.args.self.now in
    let same = c.block_at.ensures ∙ ap (λ rs. block_at (spans_of rs) c.args.at) c.regions.ensures.regions in
    subst (λ (b : ℕ). b < length (spans_of regions)) (sym same) (block_found regions c.args.at c.requires)

pub returns-clause-inside : goal.returns-clause-inside
returns-clause-inside c =
    let regions = c.args.self.now in
    let same = c.block_at.ensures ∙ ap (λ rs. block_at (spans_of rs) c.args.at) c.regions.ensures.regions in
    subst (λ (b : ℕ). is_within (block (spans_of regions) b) c.args.at ≡ true) (sym same) (block_within regions c.args.at c.requires)

pub returns-clause-only : goal.returns-clause-only
returns-clause-only c b inside here =
    let regions = c.args.self.now in
    let same = c.block_at.ensures ∙ ap (λ rs. block_at (spans_of rs) c.args.at) c.regions.ensures.regions in
    block_only regions c.args.at b inside here ∙ sym same
