use Rattle.nor_bus.specs.Bus.{lane}
use Rattle.nor_bus.proofs.Driving.{answer_reached}
use Rattle.nor_probe.proofs.Asked.{query_is, stays}
use Rattle.nor_probe.proofs.asking.read_query.Goals as goal

pub returns-clause-word : goal.returns-clause-word
returns-clause-word g c = λ below shows.
    let old = g.B.Bus.state c.args.bus.now in
    let new = g.B.Bus.state c.read_word.new.bus in
    let word = g.W.BusWord.bytes c.in_ok-word.word in
    query_is g.W.BusWord.WIDTH old new c.args.at word c.read_word.ensures.wired shows
    (g.met.W.BusWord.wide c.in_ok-word.word) (g.met.W.BusWord.small c.in_ok-word.word) (answer_reached c.args.at word old new below c.in_ok-word.ensures.lanes)

pub returns-clause-lanes : goal.returns-clause-lanes
returns-clause-lanes g c = λ below k there.
    let old = g.B.Bus.state c.args.bus.now in
    let new = g.B.Bus.state c.read_word.new.bus in
    stays (lane old k) (lane new k) c.args.at _ (answer_reached c.args.at (g.W.BusWord.bytes c.in_ok-word.word) old new below c.in_ok-word.ensures.lanes k there)
