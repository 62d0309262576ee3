use Rattle.nor_cell.specs.Steps.{Reads, Keeps}
use Rattle.nor_bus.proofs.Mapped.{one_step, state_other}
use Rattle.nor_bus.proofs.chips.read_one.Goals as goal

pub returns-clause-step : goal.returns-clause-step
returns-clause-step g c = one_step g.C.Chip.state c.args.chips.now.items c.args.k c.index_mut.result.now c.read.new.self (λ s t. Reads s c.args.at c.read.result t) c.requires.there c.index_mut.ensures.value c.read.ensures.step

pub returns-clause-kept : goal.returns-clause-kept
returns-clause-kept g c = one_step g.C.Chip.state c.args.chips.now.items c.args.k c.index_mut.result.now c.read.new.self (λ s t. Keeps s t) c.requires.there c.index_mut.ensures.value c.read.ensures.kept

pub returns-clause-others : goal.returns-clause-others
returns-clause-others g c = state_other g.C.Chip.state c.args.chips.now.items c.args.k c.read.new.self
