use Rattle.std.proofs.Common.{◌≡◌, ◌∙◌, ◌++◌, codes, decimal, arith}
use Rattle.nor_drill.specs.Summary.{words, count_lines}
use Rattle.nor_drill.proofs.Texts.{more_lines, all_lines}
use Rattle.nor_drill.proofs.summary.push_counts.Goals as goal

pub loop-place-preserved : goal.loop-place-preserved
loop-place-preserved c =
    let word = c.word_at.ensures.word in
    let count = c.count.ensures.count in
    let short = c.word_at.ensures.short in
    let few = c.loop-place.invariant.few in
    let size = c.push_count.ensures.len in
    record {
      rest =
          more_lines (c.args.text.now.items ++ count_lines words c.args.tally.now) c.args.text.now.items c.loop-place.text.items c.push_count.new.text.items
          c.args.tally.now c.loop-place.place c.loop-place-test.true c.count.ensures.all c.loop-place.invariant.rest
          (c.push_count.ensures.items ∙ (λ i. c.loop-place.text.items ++ (word i ++ codes " " ++ decimal (count i) ++ codes "\n")));
      few = omega (arith, short, few, size);
    }

pub returns-clause-items : goal.returns-clause-items
returns-clause-items c =
    let done : c.loop-place.place ≡ 17 = omega arith in
    all_lines (c.args.text.now.items ++ count_lines words c.args.tally.now) c.loop-place.text.items c.args.tally.now c.loop-place.place done c.loop-place.invariant.rest
