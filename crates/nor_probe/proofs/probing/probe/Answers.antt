use Rattle.std.proofs.Common.{◌≡◌, ◌∙◌, sym, subst, arith, Some}
use Rattle.nor_cell.specs.declared.geometry.Geometry.{Geometry}
use Rattle.nor_probe.specs.Probed.{refusal, IsCommonTable, IsFoundBy}
use Rattle.nor_bus.proofs.Counting.{counted_lost}
use Rattle.nor_probe.proofs.OwnTables.{shows_itself, own_found, accepts}
use Rattle.nor_probe.proofs.Judged.{if_ok, if_err, then_ok, ok_of, clash, counted_more, reset_last, refusal_common, found_on}
use Rattle.nor_probe.proofs.probing.probe.Goals as goal

-- ---- power was lost

pub returns-in_err-seen-clause-shown : goal.returns-in_err-seen-clause-shown
returns-in_err-seen-clause-shown g c = λ own. shows_itself g.W.BusWord.WIDTH own (g.B.Bus.state c.args.bus.now)

pub returns-in_err-reset-clause-shown : goal.returns-in_err-reset-clause-shown
returns-in_err-reset-clause-shown g c = λ own. shows_itself g.W.BusWord.WIDTH own (g.B.Bus.state c.args.bus.now)

pub returns-in_err-reset-clause-lost : goal.returns-in_err-reset-clause-lost
returns-in_err-reset-clause-lost g c = λ off.
    counted_lost 0 522 2 524 (g.B.Bus.state c.args.bus.now) (g.B.Bus.state c.look.new.bus) (g.B.Bus.state c.reset.new.bus) (omega arith) c.in_ok-seen.ensures.counted c.in_err-reset.ensures.lost

-- ---- no wiring, or lanes that differ

pub returns-in_err-geometry-clause-shown : goal.returns-in_err-geometry-clause-shown
returns-in_err-geometry-clause-shown g c = λ own. shows_itself g.W.BusWord.WIDTH own (g.B.Bus.state c.args.bus.now)

pub returns-in_err-geometry-clause-accepted : goal.returns-in_err-geometry-clause-accepted
returns-in_err-geometry-clause-accepted g c = λ own table well rests all passes on.
    let old = g.B.Bus.state c.args.bus.now in
    let refused = if_err c.in_ok-seen.seen c.in_err-geometry.field-0.0 (λ e. refusal g.W.BusWord.WIDTH old.lanes ≡ Some e) c.in_err-geometry.was (c.in_ok-seen.ensures.refused rests) in
    absurd (clash (refusal g.W.BusWord.WIDTH old.lanes) c.in_err-geometry.field-0.0 (accepts g.W.BusWord.WIDTH own old table well all passes) refused)

pub returns-in_err-geometry-clause-counted : goal.returns-in_err-geometry-clause-counted
returns-in_err-geometry-clause-counted g c = λ on.
    counted_more 522 2 1 524 (g.B.Bus.state c.args.bus.now) (g.B.Bus.state c.look.new.bus) (g.B.Bus.state c.reset.new.bus) (omega arith) (omega arith) c.in_ok-seen.ensures.counted c.in_ok-reset.ensures.went

-- ---- a table that all lanes show

pub returns-clause-shown : goal.returns-clause-shown
returns-clause-shown g c = λ own. shows_itself g.W.BusWord.WIDTH own (g.B.Bus.state c.args.bus.now)

pub returns-clause-table : goal.returns-clause-table
returns-clause-table g c =
    then_ok c.found_of.result (IsFoundBy c.in_ok-geometry.geometry c.in_ok-geometry.table) _
    (λ found says.
    record { table = c.in_ok-geometry.table; says = subst (λ (own : Geometry). IsFoundBy own c.in_ok-geometry.table found) (sym says.wiring) says }) c.found_of.ensures.found

pub returns-clause-found : goal.returns-clause-found
returns-clause-found g c =
    let old = g.B.Bus.state c.args.bus.now in
    then_ok c.found_of.result (IsFoundBy c.in_ok-geometry.geometry c.in_ok-geometry.table) _
    (λ found says rests.
    let common = if_ok c.in_ok-seen.seen (c.in_ok-geometry.geometry, c.in_ok-geometry.table) (λ s. IsCommonTable g.W.BusWord.WIDTH old.lanes s.0 s.1) c.in_ok-geometry.was (c.in_ok-seen.ensures.table rests) in
    found_on g.W.BusWord.WIDTH old.lanes c.in_ok-geometry.geometry c.in_ok-geometry.table found common says) c.found_of.ensures.found

pub returns-clause-own : goal.returns-clause-own
returns-clause-own g c =
    let old = g.B.Bus.state c.args.bus.now in
    then_ok c.found_of.result (IsFoundBy c.in_ok-geometry.geometry c.in_ok-geometry.table) _
    (λ found says own well rests.
    let common = if_ok c.in_ok-seen.seen (c.in_ok-geometry.geometry, c.in_ok-geometry.table) (λ s. IsCommonTable g.W.BusWord.WIDTH old.lanes s.0 s.1) c.in_ok-geometry.was (c.in_ok-seen.ensures.table rests) in
    own_found g.W.BusWord.WIDTH own old found well (found_on g.W.BusWord.WIDTH old.lanes c.in_ok-geometry.geometry c.in_ok-geometry.table found common says)) c.found_of.ensures.found

pub returns-clause-accepted : goal.returns-clause-accepted
returns-clause-accepted g c = λ own table well rests all passes on.
    let old = g.B.Bus.state c.args.bus.now in
    let common = if_ok c.in_ok-seen.seen (c.in_ok-geometry.geometry, c.in_ok-geometry.table) (λ s. IsCommonTable g.W.BusWord.WIDTH old.lanes s.0 s.1) c.in_ok-geometry.was (c.in_ok-seen.ensures.table rests) in
    let refused = refusal_common g.W.BusWord.WIDTH old.lanes c.in_ok-geometry.geometry c.in_ok-geometry.table common in
    ok_of c.found_of.result (c.found_of.ensures.refused ∙ (sym refused ∙ accepts g.W.BusWord.WIDTH own old table well all passes))

pub returns-clause-counted : goal.returns-clause-counted
returns-clause-counted g c = λ on.
    counted_more 522 2 1 524 (g.B.Bus.state c.args.bus.now) (g.B.Bus.state c.look.new.bus) (g.B.Bus.state c.reset.new.bus) (omega arith) (omega arith) c.in_ok-seen.ensures.counted c.in_ok-reset.ensures.went

pub returns-clause-lanes : goal.returns-clause-lanes
returns-clause-lanes g c = λ on.
    reset_last 522 (g.B.Bus.state c.args.bus.now) (g.B.Bus.state c.look.new.bus) (g.B.Bus.state c.reset.new.bus) c.in_ok-seen.ensures.counted c.in_ok-seen.ensures.lanes c.in_ok-reset.ensures.lanes
