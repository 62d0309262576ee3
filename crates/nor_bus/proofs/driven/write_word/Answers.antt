use Rattle.std.proofs.Common.{ℕ, subst, refl}
use Rattle.nor_bus.specs.Driven.{Lost, EachPart, TakesPart}
use Rattle.nor_bus.proofs.Driving.{went_one, lost_one}
use Rattle.nor_cell.proofs.Logic.{on_err}
use Rattle.nor_bus.proofs.driven.write_word.Goals as goal

pub returns-clause-lanes : goal.returns-clause-lanes
returns-clause-lanes g c =
    let old = g.B.Bus.state c.args.bus.now in
    let new = g.B.Bus.state c.write.new.self in
    subst (λ (u : ℕ). EachPart (g.W.BusWord.bytes c.args.word) (TakesPart u) old new) c.wrapped-there.ensures.value c.in_ok-write.ensures.writes.each

pub returns-clause-went : goal.returns-clause-went
returns-clause-went g c = went_one _ _ c.in_ok-write.ensures.writes.passes c.in_ok-write.ensures.kept

pub returns-in_err-write-clause-lost : goal.returns-in_err-write-clause-lost
returns-in_err-write-clause-lost g c =
    let old = g.B.Bus.state c.args.bus.now in
    let new = g.B.Bus.state c.write.new.self in
    let it = c.in_err-write.ensures in
    on_err c.from_residual.result (Lost 1 old new) (lost_one old new (it.off.0 refl) it.fails it.kept)
