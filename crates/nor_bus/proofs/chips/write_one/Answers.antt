use Rattle.nor_cell.specs.Steps.{Keeps, written}
use Rattle.std.proofs.Common.{◌≡◌}
use Rattle.nor_bus.proofs.Mapped.{one_step, state_other}
use Rattle.nor_bus.proofs.chips.write_one.Goals as goal

pub returns-clause-step : goal.returns-clause-step
returns-clause-step g c = one_step g.C.Chip.state c.args.chips.now.items c.args.k c.index_mut.result.now c.write.new.self (λ s t. t ≡ written s c.args.at c.args.value) c.requires.there c.index_mut.ensures.value c.write.ensures.step

pub returns-clause-kept : goal.returns-clause-kept
returns-clause-kept g c = one_step g.C.Chip.state c.args.chips.now.items c.args.k c.index_mut.result.now c.write.new.self (λ s t. Keeps s t) c.requires.there c.index_mut.ensures.value c.write.ensures.kept

pub returns-clause-others : goal.returns-clause-others
returns-clause-others g c = state_other g.C.Chip.state c.args.chips.now.items c.args.k c.write.new.self
