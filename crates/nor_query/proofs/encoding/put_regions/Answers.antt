use Rattle.std.proofs.Common.{◌≡◌, length, refl, ◌∙◌, arith, rules}
use Rattle.nor_query.proofs.Framing.{regions_written}
use Rattle.nor_query.proofs.encoding.put_regions.Goals as goal

pub loop-i-preserved : goal.loop-i-preserved
loop-i-preserved c =
    let four : length c.region_bytes.result ≡ 4 = search rules in
    let before = c.loop-i.invariant in
    record {
      len = c.put.ensures.len;
      regions = regions_written c.loop-i.table c.put.new.table c.region_bytes.result c.args.regions.now c.loop-i.i _ (record { count = 0; size = 0 })
          c.loop-i-test.true before.regions c.put.ensures.below (λ k few. c.put.ensures.inside k (omega arith)) c.region_bytes.ensures refl;
      below = λ at low high. c.put.ensures.below at low (omega arith) ∙ before.below at low high;
      above = λ at low high. c.put.ensures.above at (omega arith) high ∙ before.above at (omega arith) high;
    }
