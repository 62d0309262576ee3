use Rattle.std.proofs.Common.{ℕ, subst}
use Rattle.nor_bus.specs.Driven.{EachPart, AnswersPart}
use Rattle.nor_bus.proofs.Driving.{went_one}
use Rattle.nor_bus.proofs.driven.read_word.Goals as goal

pub returns-clause-lanes : goal.returns-clause-lanes
returns-clause-lanes g c =
    let old = g.B.Bus.state c.args.bus.now in
    let new = g.B.Bus.state c.read.new.self in
    subst (λ (u : ℕ). EachPart (g.W.BusWord.bytes c.in_ok-word.word) (AnswersPart u) old new) c.wrapped-there.ensures.value c.in_ok-word.ensures.reads.each

pub returns-clause-went : goal.returns-clause-went
returns-clause-went g c = went_one _ _ c.in_ok-word.ensures.reads.passes c.in_ok-word.ensures.kept
