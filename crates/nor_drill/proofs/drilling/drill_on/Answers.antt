use Rattle.std.proofs.Common.{◌∙◌, refl, ap}
use Rattle.nor_bus.specs.Bus.{BusState}
use Rattle.nor_drill.specs.Summary.{sum_of}
use Rattle.nor_drill.proofs.Runs.{is_drilled}
use Rattle.nor_drill.proofs.drilling.drill_on.Goals as goal

pub returns : goal.returns
returns g c =
    is_drilled g.W.BusWord.WIDTH c.args.lines.now c.args.bank c.in-Ok.bank c.run_lines.new.bank c.new-tally.result c.run_lines.new.taker c.in-Ok-run_lines._ran _
    c.requires.script c.in-Ok.ensures.started c.run_lines.ensures.keeps c.new-tally.ensures c.in-Ok-run_lines.ensures.ran
    refl (c.sum_of-sum.ensures ∙ ap (λ (bus : BusState). sum_of bus.lanes) c.bus.ensures)
