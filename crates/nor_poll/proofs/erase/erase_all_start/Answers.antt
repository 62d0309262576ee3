use Rattle.nor_bus.specs.Bus.{lane}
use Rattle.nor_bus.specs.Driven.{Reaches, EachLane}
use Rattle.nor_poll.specs.Erase.{TakesEraseAll}
use Rattle.nor_poll.specs.Losing.{BeginsNone}
use Rattle.nor_poll.proofs.EraseStart.{begins_all, loses_all}
use Rattle.nor_cell.proofs.Logic.{on_err}
use Rattle.nor_poll.proofs.erase.erase_all_start.Goals as goal

pub returns-in_err-write_command-clause-loses : goal.returns-in_err-write_command-clause-loses
returns-in_err-write_command-clause-loses g c =
    let old = g.B.Bus.state c.args.bus.now in
    let new = g.B.Bus.state c.write_command.new.bus in
    on_err c.from_residual.result (Reaches g.W.BusWord.WIDTH c.args.g 0 old → EachLane (BeginsNone TakesEraseAll) old new) (λ reaches k below.
    loses_all 0 (lane old k) (lane new k)
    (c.in_err-write_command.ensures.dark reaches k below))

pub returns-clause-begins : goal.returns-clause-begins
returns-clause-begins g c = λ reaches k below.
    let old = g.B.Bus.state c.args.bus.now in
    let new = g.B.Bus.state c.write_command.new.bus in
    begins_all 0 (lane old k) (lane new k)
    (c.in_ok-write_command.ensures.lanes reaches k below)
