use Rattle.std.proofs.Common.{◌≡◌, ◌*◌, map, sym, subst, ◌∙◌, ap, arith, List}
use Rattle.nor_region.specs.Map.{IsMap, laid, spans_of, scaled_region}
use Rattle.nor_region.specs.Regions.{total_len}
use Rattle.nor_region.specs.declared.region.Region.{Region}
use Rattle.nor_region.proofs.Laying.{laid-scaled, total_len-scaled}
use Rattle.nor_region.proofs.Mapping.{scaled_map}
use Rattle.nor_region.proofs.map.BlockMap.scaled.Goals as goal
use Rattle.nor_region.proofs.map.BlockMap.scaled.Goals.{After-scaled}

same : (c : After-scaled) → c.scaled.result.items ≡ map (scaled_region c.args.lanes) c.args.self.now
same c = c.scaled.ensures ∙ ap (λ regions. map (scaled_region c.args.lanes) regions) c.regions.ensures.regions

pub invariant_of-result : goal.invariant_of-result
invariant_of-result c =
    subst (λ (regions : List Region). IsMap regions) (sym (same c)) (scaled_map c.args.lanes c.args.self.now c.requires.some c.requires.few c.requires.chip c.regions.ensures.map)

pub returns-clause-spans : goal.returns-clause-spans
returns-clause-spans c =
    let start : 0 ≡ c.args.lanes * 0 = omega arith in
    ap (λ regions. spans_of regions) (same c)
    ∙ (ap (λ from. laid from (map (scaled_region c.args.lanes) c.args.self.now)) start ∙ laid-scaled c.args.self.now 0 c.args.lanes)

pub returns-clause-size : goal.returns-clause-size
returns-clause-size c = ap (λ regions. total_len regions) (same c) ∙ total_len-scaled c.args.self.now c.args.lanes
