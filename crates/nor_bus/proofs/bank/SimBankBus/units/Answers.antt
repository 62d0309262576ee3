use Rattle.std.proofs.Common.{subst}
use Rattle.nor_bus.specs.Bus.{BusState, IsWired}
use Rattle.nor_bus.proofs.bank.SimBankBus.units.Goals as goal

pub returns-clause-wired : goal.returns-clause-wired
returns-clause-wired g c =
    subst (λ (b : BusState). IsWired g.W.BusWord.WIDTH b) c.self.view_is (record { device = c.self.inside.device; bank = c.self.invariant; size = c.units_of_chips.ensures.sized })
