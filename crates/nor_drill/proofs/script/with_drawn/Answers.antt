use Rattle.std.proofs.Common.{◌∙◌, refl, ap}
use Rattle.nor_drill.specs.Drill.{next}
use Rattle.nor_drill.proofs.Scripts.{none_behind, one_behind, from_next}
use Rattle.nor_drill.proofs.script.with_drawn.Goals as goal

pub loop-k-init : goal.loop-k-init
loop-k-init c = record { all = none_behind c.args.lines.items c.args.x; from = refl }

pub loop-k-preserved : goal.loop-k-preserved
loop-k-preserved c = record {
  all =
      one_behind c.args.lines.items c.loop-k.all.items c.push.new.self.items c.args.x c.loop-k.k c.loop-k.from c.in_ok-line_of.field-0
      c.loop-k.invariant.all c.loop-k.invariant.from c.in_ok-line_of.ensures c.in_ok-push.ensures.items;
  from =
      c.next-from.ensures ∙ ap next (c.next-in-loop-k-2.ensures ∙ ap next (c.next-in-loop-k.ensures ∙ ap next c.next.ensures))
      ∙ from_next c.args.x c.loop-k.k c.loop-k.from c.loop-k.invariant.from;
}
