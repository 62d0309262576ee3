use Rattle.std.proofs.Common.{sym, arith, ◌∙◌}
use Rattle.nor_array.specs.Admits.{would_change}
use Rattle.nor_array.proofs.Lowest.{lowest_over}
use Rattle.nor_array.proofs.program.span_changes.Goals as goal

pub loop-place-preserved : goal.loop-place-preserved
loop-place-preserved c =
    c.loop-place.invariant ∙ lowest_over (would_change c.args.old.now c.args.at c.args.new.now) c.loop-place.place _ _ (omega arith) (sym c.would_change.ensures ∙ c.if-would_change.false)
