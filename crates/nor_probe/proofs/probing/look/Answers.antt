use Rattle.std.proofs.Common.{◌≡◌, ◌∙◌, sym, ap, subst, arith, ℕ, List, Result, IfOk}
use Rattle.std.specs.Result.{result_err}
use Rattle.nor_bus.specs.Driven.{Lost}
use Rattle.nor_probe.specs.Tables.{table_read}
use Rattle.nor_probe.specs.declared.error.ProbeError.{ProbeError}
use Rattle.nor_bus.proofs.Counting.{counted_then, counted_lost}
use Rattle.nor_probe.proofs.Looking.{answers_of, read_rests, common_table, lanes_refused}
use Rattle.nor_cell.proofs.Logic.{on_err}
use Rattle.nor_probe.proofs.probing.look.Goals as goal

pub returns-in_err-table-clause-lost : goal.returns-in_err-table-clause-lost
returns-in_err-table-clause-lost g c =
    let old = g.B.Bus.state c.args.bus.now in
    let now = g.B.Bus.state c.answering.new.bus in
    let new = g.B.Bus.state c.read_table.new.bus in
    on_err c.from_residual-in_err-table.result (Lost 522 old new) (counted_lost 0 21 501 522 old now new (omega arith) c.in_ok-geometry.ensures.counted c.in_err-table.ensures.lost)

pub returns-in-Ok-clause-counted : goal.returns-in-Ok-clause-counted
returns-in-Ok-clause-counted g c =
    counted_then 0 21 0 501 0 522 (g.B.Bus.state c.args.bus.now) (g.B.Bus.state c.answering.new.bus) (g.B.Bus.state c.read_table.new.bus) (omega arith) (omega arith) c.in_ok-geometry.ensures.counted c.in_ok-table.ensures.counted

pub returns-in-Err-clause-counted : goal.returns-in-Err-clause-counted
returns-in-Err-clause-counted g c =
    counted_then 0 21 0 501 0 522 (g.B.Bus.state c.args.bus.now) (g.B.Bus.state c.answering.new.bus) (g.B.Bus.state c.read_table.new.bus) (omega arith) (omega arith) c.in_ok-geometry.ensures.counted c.in_ok-table.ensures.counted

pub returns-in-Ok-clause-lanes : goal.returns-in-Ok-clause-lanes
returns-in-Ok-clause-lanes g c =
    let old = g.B.Bus.state c.args.bus.now in
    let now = g.B.Bus.state c.answering.new.bus in
    let first = c.in_ok-geometry.ensures in
    let answers = answers_of g.W.BusWord.WIDTH c.in-Some.geometry old now c.in_ok-geometry.field-0 first.counted first.asked first.found c.in-Some.is in
    read_rests g.W.BusWord.WIDTH c.in-Some.geometry old now (g.B.Bus.state c.read_table.new.bus) answers c.in_ok-table.ensures.lanes

pub returns-in-Err-clause-lanes : goal.returns-in-Err-clause-lanes
returns-in-Err-clause-lanes g c =
    let old = g.B.Bus.state c.args.bus.now in
    let now = g.B.Bus.state c.answering.new.bus in
    let first = c.in_ok-geometry.ensures in
    let answers = answers_of g.W.BusWord.WIDTH c.in-Some.geometry old now c.in_ok-geometry.field-0 first.counted first.asked first.found c.in-Some.is in
    read_rests g.W.BusWord.WIDTH c.in-Some.geometry old now (g.B.Bus.state c.read_table.new.bus) answers c.in_ok-table.ensures.lanes

pub returns-in-Ok-clause-table : goal.returns-in-Ok-clause-table
returns-in-Ok-clause-table g c =
    let old = g.B.Bus.state c.args.bus.now in
    let now = g.B.Bus.state c.answering.new.bus in
    let first = c.in_ok-geometry.ensures in
    let answers = answers_of g.W.BusWord.WIDTH c.in-Some.geometry old now c.in_ok-geometry.field-0 first.counted first.asked first.found c.in-Some.is in
    common_table g.W.BusWord.WIDTH c.in-Some.geometry old now c.in-Ok.table answers
    (λ all shows. sym (ap result_err c.in-Ok.is) ∙ c.in_ok-table.ensures.differs all shows)
    (λ all shows. subst (λ (r : Result (List ℕ) ProbeError). IfOk r (λ table. table ≡ table_read c.in-Some.geometry now.lanes 0)) c.in-Ok.is (c.in_ok-table.ensures.table all shows))

pub returns-in-Err-clause-refused : goal.returns-in-Err-clause-refused
returns-in-Err-clause-refused g c =
    let old = g.B.Bus.state c.args.bus.now in
    let now = g.B.Bus.state c.answering.new.bus in
    let first = c.in_ok-geometry.ensures in
    let answers = answers_of g.W.BusWord.WIDTH c.in-Some.geometry old now c.in_ok-geometry.field-0 first.counted first.asked first.found c.in-Some.is in
    lanes_refused g.W.BusWord.WIDTH c.in-Some.geometry old now c.in-Err.differs answers
    (λ all shows. sym (ap result_err c.in-Err.is) ∙ c.in_ok-table.ensures.differs all shows)
