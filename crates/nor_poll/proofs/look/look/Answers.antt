use Rattle.nor_bus.specs.Bus.{lane}
use Rattle.nor_bus.proofs.Driving.{answer_reached}
use Rattle.nor_poll.specs.Reads.{DarkensReading}
use Rattle.nor_poll.proofs.Looking.{looked_by}
use Rattle.nor_poll.proofs.Reading.{darkens, read_one, dark_now}
use Rattle.nor_cell.proofs.Logic.{on_err}
use Rattle.nor_poll.proofs.look.look.Goals as goal

pub returns-in_err-word-clause-dark : goal.returns-in_err-word-clause-dark
returns-in_err-word-clause-dark g c =
    let old = g.B.Bus.state c.args.bus.now in
    let new = g.B.Bus.state c.read_word.new.bus in
    on_err c.from_residual.result (DarkensReading 1 old new) (dark_now old new c.in_err-word.ensures.lost (darkens old new c.in_err-word.ensures.fails))

pub returns-clause-answers : goal.returns-clause-answers
returns-clause-answers g c = λ within.
    answer_reached c.args.at (g.W.BusWord.bytes c.in_ok-word.word) (g.B.Bus.state c.args.bus.now) (g.B.Bus.state c.read_word.new.bus) within c.in_ok-word.ensures.lanes

pub returns-clause-went : goal.returns-clause-went
returns-clause-went g c =
    let old = g.B.Bus.state c.args.bus.now in
    let new = g.B.Bus.state c.read_word.new.bus in
    read_one old new c.in_ok-word.ensures.went (λ k below. looked_by (lane old k) _ _ (lane new k) (c.in_ok-word.ensures.lanes k below))
