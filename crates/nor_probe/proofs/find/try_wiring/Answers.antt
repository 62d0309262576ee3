use Rattle.std.proofs.Common.{◌<◌, ◌∙◌, ℕ, arith, subst}
use Rattle.nor_bus.specs.Bus.{lane}
use Rattle.nor_bus.specs.Driven.{Lost}
use Rattle.nor_bus.proofs.Driving.{went_then, lost_then}
use Rattle.nor_probe.proofs.Shown.{asked_stays, asked_shows, shows_kept}
use Rattle.nor_cell.proofs.Logic.{on_err}
use Rattle.nor_probe.proofs.find.try_wiring.Goals as goal

pub returns-in_err-shows-clause-lost : goal.returns-in_err-shows-clause-lost
returns-in_err-shows-clause-lost g c =
    let old = g.B.Bus.state c.args.bus.now in
    let mid = g.B.Bus.state c.ask.new.bus in
    let new = g.B.Bus.state c.shows_qry.new.bus in
    on_err c.from_residual-in_err-shows.result (Lost 7 old new) (lost_then 4 3 7 old mid new (omega arith) c.in_ok-ask.ensures.went c.in_err-shows.ensures.lost)

pub returns-clause-went : goal.returns-clause-went
returns-clause-went g c =
    went_then 4 4 3 3 7 7 (g.B.Bus.state c.args.bus.now) (g.B.Bus.state c.ask.new.bus) (g.B.Bus.state c.shows_qry.new.bus) (omega arith) (omega arith) c.in_ok-ask.ensures.went c.in_ok-shows.ensures.went

pub returns-clause-lanes : goal.returns-clause-lanes
returns-clause-lanes g c = λ k below.
    let count = c.in_ok-ask.ensures.went.kept.count in
    asked_stays (lane (g.B.Bus.state c.args.bus.now) k) (lane (g.B.Bus.state c.ask.new.bus) k) (lane (g.B.Bus.state c.shows_qry.new.bus) k)
    (c.in_ok-ask.ensures.lanes k below) (c.in_ok-shows.ensures.lanes k (omega arith))

pub returns-clause-shows : goal.returns-clause-shows
returns-clause-shows g c = λ rests.
    let old = g.B.Bus.state c.args.bus.now in
    let mid = g.B.Bus.state c.ask.new.bus in
    let kept = c.in_ok-ask.ensures.went.kept in
    c.in_ok-shows.ensures.shows (λ k below. let there = subst (λ (n : ℕ). k < n) kept.count below in asked_shows (lane old k) (lane mid k) (c.in_ok-ask.ensures.lanes k there) (rests k there))
    ∙ shows_kept c.args.g old mid kept
