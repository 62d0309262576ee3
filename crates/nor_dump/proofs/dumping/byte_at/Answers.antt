use Rattle.std.proofs.Common.{◌<◌, ◌∙◌, ℕ, length, ap, arith}
use Rattle.std.proofs.lemmas.Grind.{get_or_default_zero}
use Rattle.nor_cell.specs.Bits.{unit_len}
use Rattle.nor_cell.specs.Wiring.{lane_at, place_at}
use Rattle.nor_dump.proofs.Banks.{found_within, found_byte}
use Rattle.nor_dump.proofs.dumping.byte_at.Goals as goal

pub index-requires : goal.index-requires
index-requires g c =
    let unit = unit_len c.args.g.device in
    let lane = c.split-lane.ensures.lane ∙ ap (λ (n : ℕ). lane_at n unit c.args.at) c.requires.lanes in
    let place = c.split-lane.ensures.place ∙ ap (λ (n : ℕ). place_at n unit c.args.at) c.requires.lanes in
    let within : c.split-lane.result.1 < length c.cells.result.now.bytes.items =
    found_within g.W.BusWord.WIDTH c.args.g.device c.args.bank.now.lanes c.args.at c.split-lane.result.0 c.split-lane.result.1 (g.C.Chip.state c.chip.result.now) c.cells.result.now.bytes.items
    c.requires.bank c.requires.within lane place c.chip.ensures c.cells.ensures.cells.bytes c.cells.ensures.ranges.size in
    omega arith

pub returns : goal.returns
returns g c =
    let unit = unit_len c.args.g.device in
    let chip = g.C.Chip.state c.chip.result.now in
    let cells = c.cells.result.now.bytes.items in
    let lane = c.split-lane.ensures.lane ∙ ap (λ (n : ℕ). lane_at n unit c.args.at) c.requires.lanes in
    let place = c.split-lane.ensures.place ∙ ap (λ (n : ℕ). place_at n unit c.args.at) c.requires.lanes in
    let within : c.split-lane.result.1 < length cells =
    found_within g.W.BusWord.WIDTH c.args.g.device c.args.bank.now.lanes c.args.at c.split-lane.result.0 c.split-lane.result.1 chip cells
    c.requires.bank c.requires.within lane place c.chip.ensures c.cells.ensures.cells.bytes c.cells.ensures.ranges.size in
    c.index.ensures
    ∙ (get_or_default_zero cells c.split-lane.result.1 c.index.result.now within
    ∙ found_byte c.args.g.device c.args.bank.now.lanes c.args.at c.split-lane.result.0 c.split-lane.result.1 chip cells lane place c.chip.ensures c.cells.ensures.cells.bytes)
