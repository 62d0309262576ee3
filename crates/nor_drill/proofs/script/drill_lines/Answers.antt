use Rattle.std.proofs.Common.{◌∙◌, ◌++◌, ℕ, List, sym, ap, subst}
use Rattle.nor_script.specs.Script.{IsScript}
use Rattle.nor_script.specs.declared.line.Line.{Line}
use Rattle.nor_drill.specs.Drill.{drawn_lines}
use Rattle.nor_drill.proofs.Scripts.{is_script}
use Rattle.nor_drill.proofs.script.drill_lines.Goals as goal

pub returns-clause-script : goal.returns-clause-script
returns-clause-script c =
    subst (λ (lines : List Line). IsScript lines)
    (sym (c.in_ok-all.ensures ∙ ap (λ (x : ℕ). c.in_ok-lines.lines.items ++ drawn_lines x 4096) c.from.ensures
    ∙ ap (λ (lines : List Line). lines ++ drawn_lines c.args.n 4096) c.in_ok-lines.ensures)) (is_script c.args.n)
