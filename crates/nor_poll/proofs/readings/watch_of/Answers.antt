use Rattle.std.proofs.Common.{arith, ap, ◌∙◌, ℕ}
use Rattle.nor_cell.specs.Bits.{unit_len}
use Rattle.nor_poll.specs.Readings.{told_of}
use Rattle.nor_poll.proofs.Telling.{told_more, wired}
use Rattle.nor_poll.proofs.readings.watch_of.Goals as goal

pub loop-lane-preserved : goal.loop-lane-preserved
loop-lane-preserved g c =
    let bytes = g.W.BusWord.bytes in
    let few = (wired g.W.BusWord.WIDTH c.args.g.lanes c.args.g.device c.requires.wiring).0 in
    told_more c.loop-lane.lane (told_of bytes c.args.readings (unit_len c.args.g.device)) c.loop-lane.lanes c.told_of.result (omega arith) c.loop-lane.invariant
    (c.told_of.ensures ∙ ap (λ (d : ℕ). told_of bytes c.args.readings d c.loop-lane.lane) c.lane_bytes-bytes.ensures.value)
