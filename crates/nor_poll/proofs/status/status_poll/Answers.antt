use Rattle.std.proofs.Common.{◌<◌, ℕ, subst}
use Rattle.nor_bus.specs.Bus.{lane}
use Rattle.nor_bus.proofs.Driving.{device_of}
use Rattle.nor_poll.specs.Reads.{DarkensReading}
use Rattle.nor_poll.proofs.Looking.{looked_by}
use Rattle.nor_poll.proofs.Reading.{darkens, dark_now, read_one}
use Rattle.nor_poll.proofs.Telling.{told_by}
use Rattle.nor_cell.proofs.Logic.{on_err}
use Rattle.nor_poll.proofs.status.status_poll.Goals as goal

pub returns-clause-told : goal.returns-clause-told
returns-clause-told g c = λ own k below.
    let old = g.B.Bus.state c.args.bus.now in
    let mine = subst (λ (n : ℕ). k < n) own.count below in
    told_by c.args.g.device (lane old k) (lane (g.B.Bus.state c.read_word.new.bus) k) _ _ k (g.W.BusWord.bytes c.in_ok-word.word)
    (device_of g.W.BusWord.WIDTH c.args.g.device old k own.bank below) (c.in_ok-word.ensures.lanes k below) (c.watch_of.ensures.told k mine)

pub returns-in_err-word-clause-dark : goal.returns-in_err-word-clause-dark
returns-in_err-word-clause-dark g c =
    let old = g.B.Bus.state c.args.bus.now in
    let new = g.B.Bus.state c.read_word.new.bus in
    on_err c.from_residual.result (DarkensReading 1 old new) (dark_now old new c.in_err-word.ensures.lost (darkens old new c.in_err-word.ensures.fails))

pub returns-clause-read : goal.returns-clause-read
returns-clause-read g c =
    let old = g.B.Bus.state c.args.bus.now in
    let new = g.B.Bus.state c.read_word.new.bus in
    read_one old new c.in_ok-word.ensures.went (λ k below. looked_by (lane old k) _ _ (lane new k) (c.in_ok-word.ensures.lanes k below))
