use Rattle.std.proofs.Common.{◌≡◌, ◌≤◌, ◌∙◌, ℕ, List, length, true, sym, ap, subst}
use Rattle.nor_cell.specs.Ranges.{is_chip_size, is_ascending_below, begin_units, are_blocks}
use Rattle.nor_dump.specs.Made.{chip_size}
use Rattle.nor_dump.proofs.Chips.{length-lane_cells}
use Rattle.nor_dump.proofs.Fits.{lane_weak}
use Rattle.nor_dump.proofs.lanes.cells_of.Goals as goal

pub make_cells-requires-clause-sized : goal.make_cells-requires-clause-sized
make_cells-requires-clause-sized c =
    let size : length c.in_ok-lane_cells.field-0.items ≡ c.chip_len.result =
    ap (λ (xs : List ℕ). length xs) c.in_ok-lane_cells.ensures ∙ length-lane_cells c.args.g c.args.raw.now c.args.lane c.chip_len.result in
    subst (λ (n : ℕ). is_chip_size n ≡ true) (sym size) c.chip_len.ensures.sized

pub make_cells-requires-clause-ascending : goal.make_cells-requires-clause-ascending
make_cells-requires-clause-ascending c =
    let size : length c.in_ok-lane_cells.field-0.items ≡ chip_size c.args.table.now =
    ap (λ (xs : List ℕ). length xs) c.in_ok-lane_cells.ensures ∙ (length-lane_cells c.args.g c.args.raw.now c.args.lane c.chip_len.result ∙ c.chip_len.ensures.value) in
    let weak = lane_weak c.args.g (chip_size c.args.table.now) c.args.changes.now c.args.lane c.requires.can.fit c.requires.lane in
    subst (λ (n : ℕ). is_ascending_below n c.in_ok-weak_of.field-0.items ≡ true) (sym size)
    (subst (λ (xs : List ℕ). is_ascending_below (chip_size c.args.table.now) xs ≡ true) (sym c.in_ok-weak_of.ensures) weak.ascending)

pub make_cells-requires-clause-whole : goal.make_cells-requires-clause-whole
make_cells-requires-clause-whole c =
    let weak = lane_weak c.args.g (chip_size c.args.table.now) c.args.changes.now c.args.lane c.requires.can.fit c.requires.lane in
    subst (λ (xs : List ℕ). begin_units c.args.g.device xs ≡ true) (sym c.in_ok-weak_of.ensures) weak.whole

pub make_cells-requires-clause-few_weak : goal.make_cells-requires-clause-few_weak
make_cells-requires-clause-few_weak c =
    let weak = lane_weak c.args.g (chip_size c.args.table.now) c.args.changes.now c.args.lane c.requires.can.fit c.requires.lane in
    subst (λ (xs : List ℕ). length xs ≤ 256) (sym c.in_ok-weak_of.ensures) weak.few

pub make_cells-requires-clause-follow : goal.make_cells-requires-clause-follow
make_cells-requires-clause-follow c =
    let size : length c.in_ok-lane_cells.field-0.items ≡ chip_size c.args.table.now =
    ap (λ (xs : List ℕ). length xs) c.in_ok-lane_cells.ensures ∙ (length-lane_cells c.args.g c.args.raw.now c.args.lane c.chip_len.result ∙ c.chip_len.ensures.value) in
    subst (λ (n : ℕ). are_blocks n c.in_ok-blocks_of.field-0.items ≡ true) (sym size) c.in_ok-blocks_of.ensures.follow
