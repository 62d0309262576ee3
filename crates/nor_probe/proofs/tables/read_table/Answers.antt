use Rattle.std.proofs.Common.{◌≡◌, ◌+◌, ◌∙◌, sym, ap, subst, arith, refl, ℕ, slice_set, Result, IfOk}
use Rattle.std.specs.Result.{result_err}
use Rattle.nor_bus.specs.Driven.{Lost}
use Rattle.nor_probe.specs.Tables.{table_word, low_byte}
use Rattle.nor_probe.specs.declared.error.ProbeError.{ProbeError}
use Rattle.nor_probe.proofs.TablesRead.{ReadSoFar, read_none, read_more, read_whole, none_first, this_first, read_counted, read_lost, next_counted, stays_more}
use Rattle.nor_cell.proofs.Logic.{on_err}
use Rattle.nor_probe.proofs.tables.read_table.Goals as goal

pub loop-offset-init : goal.loop-offset-init
loop-offset-init g c = record {
  so_far = read_none c.args.g (g.B.Bus.state c.args.bus.now) _ refl;
  units = refl;
}

pub returns-in_err-byte-clause-lost : goal.returns-in_err-byte-clause-lost
returns-in_err-byte-clause-lost g c =
    let old = g.B.Bus.state c.args.bus.now in
    let now = g.B.Bus.state c.loop-offset.bus in
    let new = g.B.Bus.state c.byte_at.new.bus in
    on_err c.from_residual.result (Lost 501 old new)
    (read_lost c.args.g c.loop-offset.offset old now new c.loop-offset.table c.loop-offset.invariant.so_far c.loop-offset-test.true c.in_err-byte.ensures.lost)

pub returns-in-Err-clause-counted : goal.returns-in-Err-clause-counted
returns-in-Err-clause-counted g c =
    next_counted c.args.g c.loop-offset.offset (g.B.Bus.state c.args.bus.now) (g.B.Bus.state c.loop-offset.bus) (g.B.Bus.state c.byte_at.new.bus) c.loop-offset.table
    c.loop-offset.invariant.so_far c.loop-offset-test.true c.in_ok-byte.ensures.went

pub returns-in-Err-clause-lanes : goal.returns-in-Err-clause-lanes
returns-in-Err-clause-lanes g c =
    stays_more c.args.g c.loop-offset.offset (g.B.Bus.state c.args.bus.now) (g.B.Bus.state c.loop-offset.bus) (g.B.Bus.state c.byte_at.new.bus) c.loop-offset.table
    c.loop-offset.invariant.so_far c.in_ok-byte.ensures.lanes

pub returns-in-Err-clause-differs : goal.returns-in-Err-clause-differs
returns-in-Err-clause-differs g c =
    this_first c.args.g c.loop-offset.offset (g.B.Bus.state c.args.bus.now) (g.B.Bus.state c.loop-offset.bus) c.loop-offset.table c.in-Err.differs
    c.loop-offset.invariant.so_far c.loop-offset-test.true
    (λ all shows. sym (ap result_err c.in-Err.is) ∙ c.in_ok-byte.ensures.differs all shows)

pub loop-offset-preserved : goal.loop-offset-preserved
loop-offset-preserved g c =
    let old = g.B.Bus.state c.args.bus.now in
    let now = g.B.Bus.state c.loop-offset.bus in
    let new = g.B.Bus.state c.byte_at.new.bus in
    let n = c.loop-offset.offset in
    record {
      so_far = subst (λ (k : ℕ). ReadSoFar c.args.g (n + 1) old new (slice_set c.loop-offset.table k c.in-Ok.byte)) (sym c.from.ensures)
          (read_more c.args.g n old now new c.loop-offset.table c.in-Ok.byte c.loop-offset.invariant.so_far c.loop-offset-test.true
          c.in_ok-byte.ensures.went c.in_ok-byte.ensures.lanes
          (λ all shows. sym (ap result_err c.in-Ok.is) ∙ c.in_ok-byte.ensures.differs all shows)
          (λ all shows. subst (λ (r : Result ℕ ProbeError). IfOk r (λ byte. byte ≡ low_byte c.args.g (table_word c.args.g now.lanes n) 0)) c.in-Ok.is (c.in_ok-byte.ensures.byte all shows)));
      units = c.in_ok-byte.ensures.units ∙ c.loop-offset.invariant.units;
    }

pub returns-clause-counted : goal.returns-clause-counted
returns-clause-counted g c =
    let end = c.loop-offset-test.false in
    read_counted c.args.g c.loop-offset.offset (g.B.Bus.state c.args.bus.now) (g.B.Bus.state c.loop-offset.bus) c.loop-offset.table c.loop-offset.invariant.so_far (omega arith)

pub returns-clause-differs : goal.returns-clause-differs
returns-clause-differs g c =
    let old = g.B.Bus.state c.args.bus.now in
    let now = g.B.Bus.state c.loop-offset.bus in
    let most = c.loop-offset.auto.offset-end in
    let end = c.loop-offset-test.false in
    let all : c.loop-offset.offset ≡ 512 = omega arith in
    none_first c.args.g old now c.loop-offset.table (subst (λ (n : ℕ). ReadSoFar c.args.g n old now c.loop-offset.table) all c.loop-offset.invariant.so_far)

pub returns-clause-table : goal.returns-clause-table
returns-clause-table g c =
    let old = g.B.Bus.state c.args.bus.now in
    let now = g.B.Bus.state c.loop-offset.bus in
    let most = c.loop-offset.auto.offset-end in
    let end = c.loop-offset-test.false in
    let all : c.loop-offset.offset ≡ 512 = omega arith in
    read_whole c.args.g old now c.loop-offset.table (subst (λ (n : ℕ). ReadSoFar c.args.g n old now c.loop-offset.table) all c.loop-offset.invariant.so_far)
