use Rattle.std.proofs.Common.{◌≡◌, ◌*◌, ◌∙◌, ap, arith, slice_index_or}
use Rattle.nor_cell.specs.declared.geometry.Geometry.{Geometry}
use Rattle.nor_cell.specs.declared.device.Device.TheVariants.{X8}
use Rattle.nor_bus.specs.Bus.{lane}
use Rattle.nor_bus.specs.Driven.{Lost}
use Rattle.nor_bus.proofs.Driving.{lost_then}
use Rattle.nor_lane.specs.Candidates.{candidates_of}
use Rattle.nor_probe.proofs.Shown.{asked_rests, tried_asks, tried_counted, tried_and_seven, tried_more, tried_found, next_wiring, candidate_fits}
use Rattle.nor_cell.proofs.Logic.{on_err}
use Rattle.nor_probe.proofs.find.answering.Goals as goal

pub returns-in_err-shows-clause-lost : goal.returns-in_err-shows-clause-lost
returns-in_err-shows-clause-lost g c =
    let old = g.B.Bus.state c.args.bus.now in
    let now = g.B.Bus.state c.loop-i.bus in
    let new = g.B.Bus.state c.try_wiring.new.bus in
    let few = c.as_slice-wirings.ensures.fits in
    on_err c.from_residual.result (Lost 21 old new) (lost_then (7 * c.loop-i.i) 7 21 old now new (omega arith) c.loop-i.invariant.tried.went c.in_err-shows.ensures.lost)

pub returns-then-shows-clause-counted : goal.returns-then-shows-clause-counted
returns-then-shows-clause-counted g c =
    let old = g.B.Bus.state c.args.bus.now in
    let now = g.B.Bus.state c.loop-i.bus in
    let new = g.B.Bus.state c.try_wiring.new.bus in
    let few = c.as_slice-wirings.ensures.fits in
    tried_and_seven g.W.BusWord.WIDTH c.loop-i.i old now new c.loop-i.invariant.tried c.in_ok-shows.ensures.went (omega arith)

pub returns-then-shows-clause-lanes : goal.returns-then-shows-clause-lanes
returns-then-shows-clause-lanes g c =
    let old = g.B.Bus.state c.args.bus.now in
    let now = g.B.Bus.state c.loop-i.bus in
    let new = g.B.Bus.state c.try_wiring.new.bus in
    λ k below. asked_rests (lane old k) (lane new k) (tried_asks g.W.BusWord.WIDTH c.loop-i.i old now new c.loop-i.invariant.tried c.in_ok-shows.ensures.lanes k below)

pub returns-then-shows-clause-asked : goal.returns-then-shows-clause-asked
returns-then-shows-clause-asked g c =
    let old = g.B.Bus.state c.args.bus.now in
    let now = g.B.Bus.state c.loop-i.bus in
    let new = g.B.Bus.state c.try_wiring.new.bus in
    tried_asks g.W.BusWord.WIDTH c.loop-i.i old now new c.loop-i.invariant.tried c.in_ok-shows.ensures.lanes

pub returns-clause-counted : goal.returns-clause-counted
returns-clause-counted g c =
    let few = c.as_slice-wirings.ensures.fits in
    tried_counted g.W.BusWord.WIDTH c.loop-i.i (g.B.Bus.state c.args.bus.now) (g.B.Bus.state c.loop-i.bus) c.loop-i.invariant.tried (omega arith)

pub returns-then-shows-clause-found : goal.returns-then-shows-clause-found
returns-then-shows-clause-found g c =
    let old = g.B.Bus.state c.args.bus.now in
    let now = g.B.Bus.state c.loop-i.bus in
    let none : Geometry = record { lanes = 0; device = X8 } in
    let is : c.as_slice-wirings.result.now ≡ candidates_of g.W.BusWord.WIDTH = c.as_slice-wirings.ensures.value ∙ (c.candidates-list.ensures ∙ ap candidates_of c.WIDTH.ensures) in
    tried_found g.W.BusWord.WIDTH c.loop-i.i (slice_index_or c.as_slice-wirings.result.now c.loop-i.i none) old now c.in_ok-shows.shows c.loop-i.invariant.tried c.in_ok-shows.ensures.shows
    (next_wiring g.W.BusWord.WIDTH c.loop-i.i c.as_slice-wirings.result.now none is (omega arith)) c.if-shows.true

pub loop-i-preserved : goal.loop-i-preserved
loop-i-preserved g c =
    let old = g.B.Bus.state c.args.bus.now in
    let now = g.B.Bus.state c.loop-i.bus in
    let new = g.B.Bus.state c.try_wiring.new.bus in
    let none : Geometry = record { lanes = 0; device = X8 } in
    let is : c.as_slice-wirings.result.now ≡ candidates_of g.W.BusWord.WIDTH = c.as_slice-wirings.ensures.value ∙ (c.candidates-list.ensures ∙ ap candidates_of c.WIDTH.ensures) in
    record {
      tried = tried_more g.W.BusWord.WIDTH c.loop-i.i (slice_index_or c.as_slice-wirings.result.now c.loop-i.i none) old now new c.in_ok-shows.shows c.loop-i.invariant.tried
          c.in_ok-shows.ensures.went c.in_ok-shows.ensures.lanes c.in_ok-shows.ensures.shows
          (next_wiring g.W.BusWord.WIDTH c.loop-i.i c.as_slice-wirings.result.now none is (omega arith)) c.if-shows.false;
      units = c.in_ok-shows.ensures.units ∙ c.loop-i.invariant.units;
    }

pub returns-then-shows-clause-wiring : goal.returns-then-shows-clause-wiring
returns-then-shows-clause-wiring g c =
    let none : Geometry = record { lanes = 0; device = X8 } in
    let is : c.as_slice-wirings.result.now ≡ candidates_of g.W.BusWord.WIDTH = c.as_slice-wirings.ensures.value ∙ (c.candidates-list.ensures ∙ ap candidates_of c.WIDTH.ensures) in
    candidate_fits g.W.BusWord.WIDTH c.loop-i.i c.as_slice-wirings.result.now none is (omega arith)
