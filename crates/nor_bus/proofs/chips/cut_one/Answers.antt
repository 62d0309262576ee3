use Rattle.nor_cell.specs.Steps.{Keeps}
use Rattle.nor_cell.specs.Power.{Cuts}
use Rattle.nor_bus.proofs.Mapped.{one_step, state_other}
use Rattle.nor_bus.proofs.chips.cut_one.Goals as goal

pub returns-clause-step : goal.returns-clause-step
returns-clause-step g c = one_step g.C.Chip.state c.args.chips.now.items c.args.k c.index_mut.result.now c.cut.new.self (λ s t. Cuts s t) c.requires.there c.index_mut.ensures.value c.cut.ensures.step

pub returns-clause-kept : goal.returns-clause-kept
returns-clause-kept g c = one_step g.C.Chip.state c.args.chips.now.items c.args.k c.index_mut.result.now c.cut.new.self (λ s t. Keeps s t) c.requires.there c.index_mut.ensures.value c.cut.ensures.kept

pub returns-clause-left : goal.returns-clause-left
returns-clause-left g c =
    one_step g.C.Chip.state c.args.chips.now.items c.args.k c.index_mut.result.now c.cut.new.self (g.C.Chip.leaves c.args.mask)
    c.requires.there c.index_mut.ensures.value c.cut.ensures.left

pub returns-clause-others : goal.returns-clause-others
returns-clause-others g c = state_other g.C.Chip.state c.args.chips.now.items c.args.k c.cut.new.self
