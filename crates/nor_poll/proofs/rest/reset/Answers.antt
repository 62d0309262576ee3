use Rattle.nor_bus.specs.Bus.{lane}
use Rattle.nor_bus.specs.Driven.{Reaches, EachLane}
use Rattle.nor_cell.specs.Between.{AtRest}
use Rattle.nor_poll.specs.Losing.{LosesNone}
use Rattle.nor_poll.proofs.Sets.{loses_reset}
use Rattle.nor_cell.proofs.Logic.{on_err}
use Rattle.nor_poll.proofs.rest.reset.Goals as goal

pub returns-in_err-write_command-clause-loses : goal.returns-in_err-write_command-clause-loses
returns-in_err-write_command-clause-loses g c =
    let old = g.B.Bus.state c.args.bus.now in
    let new = g.B.Bus.state c.write_command.new.bus in
    on_err c.from_residual.result (Reaches g.W.BusWord.WIDTH c.args.g c.args.at old → EachLane (LosesNone (AtRest c.args.set)) old new) (λ reaches k below.
    loses_reset c.args.set c.args.at (lane old k) (lane new k)
    (c.in_err-write_command.ensures.dark reaches k below))
