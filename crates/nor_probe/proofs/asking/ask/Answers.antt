use Rattle.std.proofs.Common.{arith}
use Rattle.nor_bus.specs.Driven.{Lost}
use Rattle.nor_bus.proofs.Driving.{lost_then}
use Rattle.nor_cell.proofs.Logic.{on_err}
use Rattle.nor_probe.proofs.asking.ask.Goals as goal

pub returns-in_err-enter_query-clause-lost : goal.returns-in_err-enter_query-clause-lost
returns-in_err-enter_query-clause-lost g c =
    on_err c.from_residual-in_err-enter_query.result (Lost 4 (g.B.Bus.state c.args.bus.now) (g.B.Bus.state c.enter_query.new.bus))
    (lost_then 2 2 4 (g.B.Bus.state c.args.bus.now) (g.B.Bus.state c.reset.new.bus) (g.B.Bus.state c.enter_query.new.bus) (omega arith)
    c.in_ok-reset.ensures.went c.in_err-enter_query.ensures.lost)
