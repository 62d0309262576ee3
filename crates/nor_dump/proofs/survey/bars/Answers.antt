use Rattle.std.proofs.Common.{◌∙◌, ◌*◌, List, length, ap, sym, arith}
use Rattle.nor_dump.specs.Survey.{bars_of}
use Rattle.nor_dump.specs.declared.survey.Bar.{Bar}
use Rattle.nor_dump.proofs.Bars.{more_bars, next_first}
use Rattle.nor_dump.proofs.survey.bars.Goals as goal

pub loop-first-preserved : goal.loop-first-preserved
loop-first-preserved g c =
    let chips = c.args.bank.now.lanes in
    let pushed = c.in_ok-push.ensures.items in
    record {
      are = pushed ∙ (more_bars chips c.args.per c.loop-first.first c.loop-first.bars.items c.bar_from.result c.loop-first.invariant.are c.loop-first.invariant.first c.bar_from.ensures
          ∙ ap (λ (xs : List Bar). bars_of chips c.args.per (length xs)) (sym pushed));
      first = next_first c.args.per c.loop-first.first c.loop-first.bars.items c.bar_from.result c.loop-first.invariant.first ∙ ap (λ (xs : List Bar). length xs * c.args.per) (sym pushed);
      some = omega arith;
    }
