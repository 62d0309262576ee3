use Rattle.nor_race.proofs.Racing.{can_fold, keeps_numbers, few_notes, all_shares}
use Rattle.nor_race.proofs.team.race.Goals as goal

pub fold_all-requires-clause-each : goal.fold_all-requires-clause-each
fold_all-requires-clause-each g c = can_fold c.args.lines.now c.args.driver.now c.hand_out.new.racers c.run_all.new.racers c.hand_out.ensures.each c.run_all.ensures.each

pub returns-clause-share : goal.returns-clause-share
returns-clause-share g c = all_shares c.args.lines.now c.hand_out.new.first c.fold_all.new.first c.hand_out.new.racers c.run_all.new.racers c.hand_out.ensures.share c.run_all.ensures.each c.fold_all.ensures.share

pub returns-clause-numbers : goal.returns-clause-numbers
returns-clause-numbers g c =
    keeps_numbers c.args.lines.now c.args.racers.now c.hand_out.new.racers c.run_all.new.racers c.fold_all.new.racers c.hand_out.ensures.numbers c.run_all.ensures.each c.fold_all.ensures.teams

pub returns-clause-few : goal.returns-clause-few
returns-clause-few g c = few_notes c.args.lines.now c.args.racers.now c.hand_out.new.racers c.run_all.new.racers c.fold_all.new.racers c.hand_out.ensures.tasks c.run_all.ensures.each c.fold_all.ensures.teams
