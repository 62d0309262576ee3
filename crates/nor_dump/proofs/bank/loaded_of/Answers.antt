use Rattle.std.proofs.Common.{◌≡◌, ◌∙◌, ℕ, List, ap, subst, sym}
use Rattle.nor_cell.specs.Chip.{ChipState}
use Rattle.nor_cell.specs.declared.device.Set.{Set}
use Rattle.nor_bus.specs.Bus.{IsBank}
use Rattle.nor_image.specs.Reading.{chips_of}
use Rattle.nor_dump.specs.Made.{made_chips}
use Rattle.nor_dump.proofs.Chips.{made_bank}
use Rattle.nor_dump.proofs.bank.loaded_of.Goals as goal

pub power_up-requires : goal.power_up-requires
power_up-requires c =
    let bank = made_bank c.args.g c.args.table.now c.args.changes.now c.args.raw.items c.args.width c.requires.wiring in
    let same : chips_of c.set_of.result c.in_ok-lanes.lanes.items ≡ made_chips c.args.g c.args.table.now c.args.changes.now c.args.raw.items c.args.g.lanes =
    ap (λ (set : Set). chips_of set c.in_ok-lanes.lanes.items) c.set_of.ensures
    ∙ (c.in_ok-lanes.ensures ∙ ap (λ (raw : List ℕ). made_chips c.args.g c.args.table.now c.args.changes.now raw c.args.g.lanes) c.deref.ensures.value) in
    subst (λ (chips : List ChipState). IsBank c.args.width c.args.g.device chips) (sym same) bank
