use Rattle.std.proofs.Common.{◌≡◌, ◌∙◌, ◌*◌, ℕ, length, sym, ap}
use Rattle.nor_race.specs.declared.team.Racer.{Racer}
use Rattle.nor_race.proofs.Blank.{table_more}
use Rattle.nor_race.proofs.making.make_table.Goals as goal

pub loop-i-preserved : goal.loop-i-preserved
loop-i-preserved g c =
    let size : c.len.result ≡ length c.index-racers-i.result.tasks.items =
    c.len.ensures ∙ (ap (λ (r : Racer _ _). r.tasks.len) (sym c.index-racers-i.is) ∙ c.index-racers-i.result.tasks.ok.0) in
    table_more c.args.racers.now c.loop-i.table.items c.push_blanks.new.table.items c.loop-i.i (2 * c.len.result) c.index-racers-i.result c.loop-i.invariant c.loop-i-test.true c.index-racers-i.is
    (ap (λ (n : ℕ). 2 * n) size) c.in_ok-push_blanks.ensures
