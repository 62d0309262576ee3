use Rattle.std.proofs.Common.{◌≡◌, ◌≤◌, ◌<◌, ◌∙◌, length, drop, sym, ap, subst, arith}
use Rattle.std.specs.Prelude.{All}
use Rattle.nor_bank.specs.State.{BankState}
use Rattle.nor_driver.specs.Fronts.{StandsFor}
use Rattle.nor_race.specs.Laws.{AreCallers, callers_of}
use Rattle.nor_race.specs.Noted.{Noted}
use Rattle.nor_race.specs.Places.{all_of, Placed}
use Rattle.nor_race.specs.Races.{RacesOn}
use Rattle.nor_race.specs.Teams.{teams_of, numbers_of, task_count}
use Rattle.nor_race.proofs.Joining.{back_in_place}
use Rattle.nor_race.proofs.Putting.{few_entries, all_within}
use Rattle.nor_race.proofs.Racing.{races, numbers_are}
use Rattle.nor_race.proofs.race.race_team.Goals as goal

pub put_all-requires : goal.put_all-requires
put_all-requires g c =
    let left = c.race.new.racers in
    let table = c.args.table.items in
    let count : c.args.racers.len ≡ length left = let a = c.race.auto.racers in let b = c.as_mut_slice.ensures.len in omega (arith, a, b) in
    let whole = back_in_place left (drop (length left) c.args.racers.items) c.args.racers.len count in
    let most : length (all_of (teams_of left)) ≤ length table =
    let h = c.race.ensures.few in let k = ap task_count c.as_mut_slice.ensures.value in let t = c.requires.table in omega (arith, h, k, t) in
    let few = few_entries c.args.lines.now (teams_of left) c.race.new.first.pass c.race.ensures.ran c.shut-bank.ensures.names in
    let enough : length c.race.new.first.pass.seen ≤ length table = omega (arith, most, few) in
    record {
      within =
          subst (λ l. All (λ (x : Noted). x.position < length table) (all_of (teams_of l))) (sym whole) (all_within c.args.lines.now (teams_of left) c.race.new.first.pass (length table) c.race.ensures.ran enough);
    }

pub returns-clause-raced : goal.returns-clause-raced
returns-clause-raced g c =
    let left = c.race.new.racers in
    let table = c.args.table.items in
    let pass = c.race.new.first.pass in
    let last = c.shut-bank.result.0 in
    let entries = c.shut-bank.result.1 in
    let count : c.args.racers.len ≡ length left = let a = c.race.auto.racers in let b = c.as_mut_slice.ensures.len in omega (arith, a, b) in
    let whole = back_in_place left (drop (length left) c.args.racers.items) c.args.racers.len count in
    let opening : c.in_ok-driver.driver.opening ≡ c.args.bank = c.in_ok-driver.ensures.driver in
    let most : length (all_of (teams_of left)) ≤ length table =
    let h = c.race.ensures.few in let k = ap task_count c.as_mut_slice.ensures.value in let t = c.requires.table in omega (arith, h, k, t) in
    let few = few_entries c.args.lines.now (teams_of left) pass c.race.ensures.ran c.shut-bank.ensures.names in
    let enough : entries ≤ length table = let h = c.shut-bank.ensures.count in omega (arith, most, few, h) in
    let callers : AreCallers c.args.lines.now (callers_of (teams_of left)) =
    subst (AreCallers c.args.lines.now) (sym (numbers_are left ∙ (c.race.ensures.numbers ∙ ap numbers_of c.as_mut_slice.ensures.value))) c.requires.team in
    let stands = subst (λ (b : BankState). StandsFor b pass.seen last) opening c.shut-bank.ensures.bank in
    let placed = subst (λ l. Placed (all_of (teams_of l)) table c.put_all.new.table.items) whole c.put_all.ensures.placed in
    subst (RacesOn c.args.lines.now c.args.bank last) (sym c.truncate.ensures.items)
    (races c.args.lines.now c.args.bank last (teams_of left) pass table c.put_all.new.table.items entries callers c.race.ensures.ran stands c.shut-bank.ensures.count c.shut-bank.ensures.names placed enough)
