use Rattle.nor_bus.proofs.Driving.{some_lane}
use Rattle.nor_trials_probe.proofs.cuts.has_first_chip.Goals as goal

pub chip-requires : goal.chip-requires
chip-requires given c =
    let wired = c.units.ensures.wired in
    some_lane 2 wired.device c.args.bank.now.lanes wired.bank
