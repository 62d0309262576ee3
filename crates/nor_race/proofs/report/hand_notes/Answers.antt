use Rattle.std.proofs.Common.{◌<◌, ◌+◌, ◌∙◌, ℕ, length, take, refl, sym, ap, subst, arith}
use Rattle.nor_cell.proofs.Logic.{if_gave}
use Rattle.nor_run.specs.declared.lines.Ran.{Ran}
use Rattle.nor_race.specs.Told.{HandsAll}
use Rattle.nor_race.proofs.Joining.{some_there}
use Rattle.nor_race.proofs.Printing.{none_handed, entry_handed, stops_in_entries}
use Rattle.nor_race.proofs.report.hand_notes.Goals as goal

pub loop-k-init : goal.loop-k-init
loop-k-init g c = record {
  handed = λ es told. none_handed g.T.Taker.takes es c.args.taker.now;
  few = refl;
}

pub returns-in_err-reply-clause-part : goal.returns-in_err-reply-clause-part
returns-in_err-reply-clause-part g c =
    if_gave c.from_residual.result c.in_err-reply.field-0.0 _ c.from_residual.ensures.1
    (λ es told.
    let below : c.loop-k.k < length es = let here = c.loop-k-test.true in let all = c.count-k-end.ensures in let same = told.count in omega arith in
    let e = some_there es c.loop-k.k below in
    stops_in_entries g.T.Taker.takes es c.loop-k.k e.0 c.args.taker.now c.loop-k.taker c.hand_note.new.taker
    c.loop-k.ran c.in_err-reply.field-0.0 e.1 (c.loop-k.invariant.handed es told) (c.in_err-reply.ensures es e.0 told e.1))

pub loop-k-preserved : goal.loop-k-preserved
loop-k-preserved g c = record {
  handed = λ es told.
      let below : c.loop-k.k < length es = let here = c.loop-k-test.true in let all = c.count-k-end.ensures in let same = told.count in omega arith in
      let e = some_there es c.loop-k.k below in
      subst (λ (r : Ran). HandsAll g.T.Taker.takes (take (c.loop-k.k + 1) es) c.args.taker.now c.hand_note.new.taker r) (sym c.ran_on-ran.ensures)
      (entry_handed g.T.Taker.takes es c.loop-k.k e.0 c.args.taker.now c.loop-k.taker c.hand_note.new.taker
      c.loop-k.ran c.in_ok-reply.reply e.1 (c.loop-k.invariant.handed es told) (c.in_ok-reply.ensures es e.0 told e.1));
  few = ap (λ (r : Ran). r.entries) c.ran_on-ran.ensures ∙ ap (λ (n : ℕ). n + 1) c.loop-k.invariant.few;
}
