use Rattle.std.proofs.Common.{◌<◌, ◌*◌, arith}
use Rattle.nor_cell.specs.Bits.{unit_len}
use Rattle.nor_cell.specs.Wiring.{bank_place}
use Rattle.nor_bus.proofs.Sizes.{chip_size}
use Rattle.nor_lane.proofs.Places.{bank_place_below}
use Rattle.nor_cell.proofs.Logic.{some_bytes}
use Rattle.nor_dump.proofs.Sizes.{units_whole}
use Rattle.nor_dump.proofs.lanes.lane_cells.Goals as goal

pub bounds-raw-join : goal.bounds-raw-join
bounds-raw-join c =
    let g = c.args.g in
    let d = unit_len g.device in
    let size = c.args.size in
    let below : bank_place g.lanes d c.args.lane c.loop-place.place < g.lanes * size =
    bank_place_below g.lanes d _ size c.args.lane c.loop-place.place (some_bytes g.device) c.requires.lane
    (units_whole g.device size (chip_size size c.requires.sized).2) (omega arith) in
    omega (arith, below, c.join.ensures.there, c.requires.whole)
