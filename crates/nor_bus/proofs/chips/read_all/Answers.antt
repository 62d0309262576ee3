use Rattle.std.proofs.Common.{map, rules}
use Rattle.nor_bus.proofs.OneMore.{answers_more}
use Rattle.nor_bus.proofs.chips.read_all.Goals as goal

pub loop-k-preserved : goal.loop-k-preserved
loop-k-preserved g c =
    answers_more c.loop-k.k c.args.at c.args.bytes c.read_one-value.result (g.W.BusWord.bytes c.loop-k.word) (g.W.BusWord.bytes c.lane_put-word.result)
    (map g.C.Chip.state c.args.chips.now.items) (map g.C.Chip.state c.loop-k.chips.items) (map g.C.Chip.state c.read_one-value.new.chips.items)
    c.loop-k.invariant c.read_one-value.ensures.size c.read_one-value.ensures.step c.read_one-value.ensures.kept c.read_one-value.ensures.fits
    (c.requires.alike c.loop-k.k (search rules)) c.read_one-value.ensures.others c.lane_put-word.ensures.there c.lane_put-word.ensures.others
