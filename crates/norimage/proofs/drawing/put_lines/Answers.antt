use Rattle.std.proofs.Common.{◌∙◌, false, rules}
use Rattle.norimage.proofs.Drawings.{line_more}
use Rattle.norimage.proofs.drawing.put_lines.Goals as goal

pub loop-bar-preserved : goal.loop-bar-preserved
loop-bar-preserved c = record {
  items = line_more c.args.bars.now c.loop-bar.bar-index (record { first = 0; blocks = 0; from = 0; len = 0; erased = 0; locked = false; weak = false })
      c.new-piece.result.items c.loop-bar.svg.items c.push_line.new.piece.items c.extend_from_slice.new.self.items c.loop-bar-test.true c.new-piece.ensures c.push_line.ensures.items (search rules)
      ∙ c.loop-bar.invariant.items;
  len = search rules;
}
