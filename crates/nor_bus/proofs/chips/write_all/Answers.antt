use Rattle.std.proofs.Common.{map}
use Rattle.nor_bus.specs.Chips.{TakesKept}
use Rattle.nor_bus.specs.Bus.{chip_at}
use Rattle.nor_bus.proofs.OneMore.{changed_more, takes}
use Rattle.nor_bus.proofs.chips.write_all.Goals as goal

pub loop-k-preserved : goal.loop-k-preserved
loop-k-preserved g c =
    let old = map g.C.Chip.state c.args.chips.now.items in
    let mid = map g.C.Chip.state c.loop-k.chips.items in
    let new = map g.C.Chip.state c.write_one.new.chips.items in
    changed_more c.loop-k.k (TakesKept c.args.at c.args.bytes (g.W.BusWord.bytes c.args.word)) old mid new c.loop-k.invariant c.write_one.ensures.size c.write_one.ensures.others
    (λ same. takes c.args.at c.lane_get.result c.args.bytes c.loop-k.k (g.W.BusWord.bytes c.args.word) (chip_at old c.loop-k.k) (chip_at mid c.loop-k.k) (chip_at new c.loop-k.k) same c.lane_get.ensures.value c.write_one.ensures.step c.write_one.ensures.kept)
