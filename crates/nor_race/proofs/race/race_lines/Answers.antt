use Rattle.std.proofs.Common.{◌≡◌, ◌++◌, List, length, take, drop, subst, sym, arith}
use Rattle.nor_script.specs.declared.line.Line.{Line}
use Rattle.nor_race.specs.Noted.{NoteView}
use Rattle.nor_race.specs.Races.{Races}
use Rattle.nor_race.proofs.Arming.{armed_none}
use Rattle.nor_race.proofs.Joining.{back_in_place}
use Rattle.nor_race.proofs.Racing.{races_whole}
use Rattle.nor_race.proofs.race.race_lines.Goals as goal

pub returns-in-Err-clause-back : goal.returns-in-Err-clause-back
returns-in-Err-clause-back g c = armed_none c.args.bank

pub returns-clause-raced : goal.returns-clause-raced
returns-clause-raced g c =
    let cuts = c.in-Ok.team.cuts in
    let armed = c.arm_cuts.new.cuts in
    let count : cuts.len ≡ length armed = let a = c.arm_cuts.ensures.length in let b = c.as_mut_slice.ensures.len in omega (arith, a, b) in
    let whole = back_in_place armed (drop (length armed) cuts.items) cuts.len count in
    subst (λ (lines : List Line). Races lines c.args.bank c.in_ok-bank.bank (take cuts.len (armed ++ drop (length armed) cuts.items) ++ c.in_ok-bank.raced.items)) c.lines-lines.ensures
    (subst (λ (notes : List NoteView). Races c.lines-lines.result.now c.args.bank c.in_ok-bank.bank (notes ++ c.in_ok-bank.raced.items)) (sym whole)
    (races_whole c.lines-lines.result.now c.args.bank c.arm_cuts.new.bank c.in_ok-bank.bank armed c.in_ok-bank.raced.items c.arm_cuts.ensures.arms c.in_ok-bank.ensures.raced))
