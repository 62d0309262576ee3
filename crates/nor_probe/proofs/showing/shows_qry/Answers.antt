use Rattle.std.proofs.Common.{◌∙◌, arith}
use Rattle.nor_bus.specs.Bus.{lane}
use Rattle.nor_bus.specs.Driven.{Lost}
use Rattle.nor_bus.proofs.Driving.{went_then, lost_then}
use Rattle.nor_probe.proofs.Shown.{all_letters, stay_then}
use Rattle.nor_cell.proofs.Logic.{on_err}
use Rattle.nor_probe.proofs.showing.shows_qry.Goals as goal

pub returns-in_err-r-clause-lost : goal.returns-in_err-r-clause-lost
returns-in_err-r-clause-lost g c =
    let old = g.B.Bus.state c.args.bus.now in
    let a = g.B.Bus.state c.shows_letter.new.bus in
    let b = g.B.Bus.state c.shows_letter-2.new.bus in
    on_err c.from_residual-in_err-r.result (Lost 3 old b) (lost_then 1 1 3 old a b (omega arith) c.in_ok-q.ensures.went c.in_err-r.ensures.lost)

pub returns-in_err-y-clause-lost : goal.returns-in_err-y-clause-lost
returns-in_err-y-clause-lost g c =
    let old = g.B.Bus.state c.args.bus.now in
    let a = g.B.Bus.state c.shows_letter.new.bus in
    let b = g.B.Bus.state c.shows_letter-2.new.bus in
    let d = g.B.Bus.state c.shows_letter-3.new.bus in
    on_err c.from_residual-in_err-y.result (Lost 3 old d)
    (lost_then 2 1 3 old b d (omega arith) (went_then 1 1 1 1 2 2 old a b (omega arith) (omega arith) c.in_ok-q.ensures.went c.in_ok-r.ensures.went) c.in_err-y.ensures.lost)

pub returns-clause-went : goal.returns-clause-went
returns-clause-went g c =
    let old = g.B.Bus.state c.args.bus.now in
    let a = g.B.Bus.state c.shows_letter.new.bus in
    let b = g.B.Bus.state c.shows_letter-2.new.bus in
    let d = g.B.Bus.state c.shows_letter-3.new.bus in
    went_then 2 2 1 1 3 3 old b d (omega arith) (omega arith) (went_then 1 1 1 1 2 2 old a b (omega arith) (omega arith) c.in_ok-q.ensures.went c.in_ok-r.ensures.went) c.in_ok-y.ensures.went

pub returns-clause-lanes : goal.returns-clause-lanes
returns-clause-lanes g c = λ k below.
    let old = g.B.Bus.state c.args.bus.now in
    let a = g.B.Bus.state c.shows_letter.new.bus in
    let b = g.B.Bus.state c.shows_letter-2.new.bus in
    let d = g.B.Bus.state c.shows_letter-3.new.bus in
    let one = c.in_ok-q.ensures.went.kept.count in
    let two = c.in_ok-r.ensures.went.kept.count in
    stay_then (lane old k) (lane b k) (lane d k) (stay_then (lane old k) (lane a k) (lane b k) (c.in_ok-q.ensures.lanes k below) (c.in_ok-r.ensures.lanes k (omega arith))) (c.in_ok-y.ensures.lanes k (omega arith))

pub returns-clause-shows : goal.returns-clause-shows
returns-clause-shows g c = λ shows.
    c.all_of.ensures ∙ all_letters c.args.g (g.B.Bus.state c.args.bus.now) (g.B.Bus.state c.shows_letter.new.bus) (g.B.Bus.state c.shows_letter-2.new.bus) c.in_ok-q.q c.in_ok-r.r c.in_ok-y.y
    c.in_ok-q.ensures.went.kept c.in_ok-r.ensures.went.kept c.in_ok-q.ensures.lanes c.in_ok-r.ensures.lanes c.in_ok-q.ensures.shows c.in_ok-r.ensures.shows c.in_ok-y.ensures.shows shows
