use Rattle.std.proofs.Common.{◌≢◌, sym, subst, ◌∙◌, ap, arith, List, length}
use Rattle.std.proofs.lemmas.Bool.{eqb-false}
use Rattle.nor_region.specs.Map.{IsMap}
use Rattle.nor_region.specs.Regions.{total_len}
use Rattle.nor_region.specs.declared.region.Region.{Region}
use Rattle.nor_region.proofs.Mapping.{are_map, total_len-in_order}
use Rattle.nor_region.proofs.map.block_map.Goals as goal

pub invariant_of-result : goal.invariant_of-result
invariant_of-result c =
    subst (λ (regions : List Region). IsMap regions) (sym c.in_order.ensures)
    (are_map c.args.reversed c.args.regions.now c.requires (let some : length c.args.regions.now ≢ 0 = eqb-false (length c.args.regions.now) 0 (sym c.if-is_empty.ensures) in omega arith) (omega arith) (omega arith))

pub returns-clause-whole : goal.returns-clause-whole
returns-clause-whole c =
    ap (λ regions. total_len regions) c.in_order.ensures ∙ (total_len-in_order c.args.reversed c.args.regions.now ∙ (omega arith))
