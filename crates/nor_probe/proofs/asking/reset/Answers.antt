use Rattle.std.proofs.Common.{arith}
use Rattle.nor_bus.proofs.Driving.{went_then, lost_then, code_reached}
use Rattle.nor_bus.proofs.Sizes.{bus_units}
use Rattle.nor_bus.specs.Bus.{lane}
use Rattle.nor_bus.specs.Driven.{Lost}
use Rattle.nor_cell.proofs.Logic.{on_err}
use Rattle.nor_probe.proofs.Asked.{both_resets}
use Rattle.nor_probe.proofs.asking.reset.Goals as goal

pub returns-clause-lanes : goal.returns-clause-lanes
returns-clause-lanes g c = λ k below.
    let old = g.B.Bus.state c.args.bus.now in
    let mid = g.B.Bus.state c.write_code.new.bus in
    let new = g.B.Bus.state c.write_code-2.new.bus in
    let size = bus_units g.W.BusWord.WIDTH old c.write_code.ensures.wired in
    let units = c.write_code.ensures.units in
    let count = c.in_ok-write_code.ensures.went.kept.count in
    both_resets (lane old k) (lane mid k) (lane new k) (code_reached 0 0xF0 old mid (omega arith) c.in_ok-write_code.ensures.lanes k below)
    (code_reached 0 0xFF mid new (omega arith) c.in_ok-write_code-2.ensures.lanes k (omega arith))

pub returns-clause-went : goal.returns-clause-went
returns-clause-went g c =
    went_then 1 1 1 1 2 2 (g.B.Bus.state c.args.bus.now) (g.B.Bus.state c.write_code.new.bus) (g.B.Bus.state c.write_code-2.new.bus) (omega arith) (omega arith)
    c.in_ok-write_code.ensures.went c.in_ok-write_code-2.ensures.went

pub returns-in_err-write_code-2-clause-lost : goal.returns-in_err-write_code-2-clause-lost
returns-in_err-write_code-2-clause-lost g c =
    let old = g.B.Bus.state c.args.bus.now in
    let mid = g.B.Bus.state c.write_code.new.bus in
    let new = g.B.Bus.state c.write_code-2.new.bus in
    on_err c.from_residual-in_err-write_code-2.result (Lost 2 old new) (lost_then 1 1 2 old mid new (omega arith) c.in_ok-write_code.ensures.went c.in_err-write_code-2.ensures.lost)
