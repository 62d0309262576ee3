use Rattle.std.proofs.Common.{[], ◌∷◌, ◌++◌, ◌∙◌, ap, sym, arith}
use Rattle.std.specs.List.{list_all}
use Rattle.nor_query.specs.Fields.{regions_at}
use Rattle.nor_query.specs.Valid.{is_table_region}
use Rattle.nor_query.proofs.Reading.{regions_at_more, list_all_push}
use Rattle.nor_query.proofs.field.regions_of.Goals as goal

pub loop-i-preserved : goal.loop-i-preserved
loop-i-preserved c =
    let more = regions_at_more c.args.table.now 0x2D c.loop-i.i in
    record {
      regions = c.push.ensures.items ∙ (ap (λ regions. regions ++ c.region_at.result ∷ []) c.loop-i.invariant.regions
          ∙ (ap (λ region. regions_at c.args.table.now 0x2D c.loop-i.i ++ region ∷ []) c.region_at.ensures.region ∙ sym more));
      ranges = ap (λ regions. list_all is_table_region regions) c.push.ensures.items ∙ list_all_push is_table_region c.loop-i.regions.items c.region_at.result c.loop-i.invariant.ranges c.region_at.ensures.ranges;
      count = omega arith;
    }
