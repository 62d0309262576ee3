use Rattle.std.specs.Prelude.{◌≡◌, true}
use Rattle.nor_script.specs.Racing.{may_race}
use Rattle.nor_script.specs.Script.{HasCaller}
use Rattle.nor_script.specs.declared.line.Line.{Line}
use Rattle.nor_race.proofs.Blank.{OfFirst}
use Rattle.nor_race.proofs.raceable.can_race.Given as goal

abbrev pub invariant-loop-line : goal.invariant-loop-line
invariant-loop-line l = OfFirst (λ (line : Line). HasCaller line.word line.caller × (may_race line.word ≡ true)) l.lines l.line-index
