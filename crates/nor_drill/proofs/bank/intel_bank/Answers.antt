use Rattle.nor_cell.specs.declared.device.Set.TheVariants.{Intel}
use Rattle.nor_drill.proofs.Banks.{are_wired, are_mapped}
use Rattle.nor_drill.proofs.bank.intel_bank.Goals as goal

pub new-requires : goal.new-requires
new-requires c =
    are_wired Intel _ (are_mapped Intel _ c.in_ok-chips.chips.items c.args.low c.args.high c.in_ok-chips.ensures.items c.requires.low c.requires.high)
