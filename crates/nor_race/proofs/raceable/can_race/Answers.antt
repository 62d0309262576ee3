use Rattle.std.proofs.Common.{◌≡◌, ◌≤◌, ◌^◌, length, true, refl, subst, arith}
use Rattle.nor_script.specs.Racing.{IsRaceScript, may_race}
use Rattle.nor_script.specs.Script.{HasCaller}
use Rattle.nor_script.specs.declared.line.Line.{Line}
use Rattle.nor_race.proofs.Blank.{first_more, first_all}
use Rattle.nor_race.proofs.raceable.can_race.Goals as goal

abbrev CanRaceLine : Line → Type 0
CanRaceLine line = HasCaller line.word line.caller × (may_race line.word ≡ true)

pub loop-line-preserved : goal.loop-line-preserved
loop-line-preserved c =
    first_more CanRaceLine c.lines-lines.result.now c.loop-line.line-index c.line-item.result c.loop-line.invariant c.loop-line-test.true c.line-item.is (c.can_race_line.ensures.0 c.if-not-can_race_line.false)

pub returns : goal.returns
returns c =
    let few : length c.lines-lines.result.now ≤ 2 ^ 16 = let h = c.if-lines-gt-MAX_LINES.false in omega (arith, h) in
    let long : length c.lines-lines.result.now ≤ c.loop-line.line-index = let h = c.loop-line-test.false in omega (arith, h) in
    let all = first_all CanRaceLine c.lines-lines.result.now c.loop-line.line-index c.loop-line.invariant long in
    let can : IsRaceScript c.lines-lines.result.now = record { script = record { few = few; callers = λ k d below. (all k d below).0 }; words = λ k d below. (all k d below).1 } in
    (λ e. subst IsRaceScript c.lines-lines.ensures can, λ e. refl)
