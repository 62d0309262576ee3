use Rattle.std.proofs.Common.{◌≡◌, ◌+◌, ℕ, suc, List, [], ◌∷◌, ◌++◌, map, ap, ◌∙◌, arith}
use Rattle.std.proofs.lemmas.List.{map_push}
use Rattle.nor_cell.specs.Cells.{chip_of}
use Rattle.nor_cell.specs.Chip.{ChipState}
use Rattle.nor_cell.specs.Power.{powered}
use Rattle.nor_cell.specs.Table.{set_of}
use Rattle.nor_cell.specs.declared.cells.Cells.{Cells}
use Rattle.nor_dump.specs.Made.{made_chips}
use Rattle.nor_dump.proofs.lanes.lanes_of.Goals as goal

pub loop-lane-preserved : goal.loop-lane-preserved
loop-lane-preserved c =
    let chip = λ (cells : Cells). powered (chip_of (set_of c.args.table.now) cells) in
    let made = λ (n : ℕ). made_chips c.args.g c.args.table.now c.args.changes.now c.args.raw.now n in
    let next : suc c.loop-lane.lane ≡ c.loop-lane.lane + 1 = omega arith in
    ap (λ (xs : List Cells). map chip xs) c.in_ok-push.ensures.items
    ∙ (map_push chip c.loop-lane.lanes.items c.in_ok-cells_of.field-0
    ∙ (ap (λ (xs : List ChipState). xs ++ chip c.in_ok-cells_of.field-0 ∷ []) c.loop-lane.invariant
    ∙ (ap (λ (s : ChipState). made c.loop-lane.lane ++ s ∷ []) c.in_ok-cells_of.ensures
    ∙ ap made next)))

pub returns : goal.returns
returns c =
    let last : c.loop-lane.lane ≡ c.args.g.lanes = omega arith in
    c.loop-lane.invariant ∙ ap (λ (n : ℕ). made_chips c.args.g c.args.table.now c.args.changes.now c.args.raw.now n) last
