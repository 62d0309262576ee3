use Rattle.std.proofs.Common.{◌∙◌, refl, arith}
use Rattle.nor_race.proofs.Arming.{armed_first, armed_more, all_armed, cut_below, cut_there, still_running}
use Rattle.nor_race.specs.contracts.note.Note.{the_view}
use Rattle.nor_race.proofs.cuts.arm_cuts.Goals as goal

pub loop-i-init : goal.loop-i-init
loop-i-init g c = armed_first c.args.lines.now c.args.cuts.now c.args.bank.now c.requires.cuts

pub bounds-lines-note-inside : goal.bounds-lines-note-inside
bounds-lines-note-inside g c =
    let at = c.loop-i-test.true in
    let size = c.loop-i.auto.cuts in
    cut_below c.args.lines.now c.args.cuts.now c.loop-i.cuts c.args.bank.now c.loop-i.bank c.loop-i.i (the_view c.note.inside) c.index-cuts-i.result c.loop-i.invariant (omega (arith, at, size)) c.note.view_is

pub arm-note-inside-requires : goal.arm-note-inside-requires
arm-note-inside-requires g c =
    let at = c.loop-i-test.true in
    let size = c.loop-i.auto.cuts in
    record {
      sound = still_running c.args.bank.now c.loop-i.bank c.loop-i.invariant.armed ∙ c.requires.sound;
      cut = cut_there c.args.lines.now c.args.cuts.now c.loop-i.cuts c.args.bank.now c.loop-i.bank c.loop-i.i (the_view c.note.inside) c.index-cuts-i.result c.index-lines-note.result c.loop-i.invariant (omega (arith, at, size)) c.note.view_is c.index-lines-note.is;
    }

pub loop-i-preserved : goal.loop-i-preserved
loop-i-preserved g c =
    let at = c.loop-i-test.true in
    let size = c.loop-i.auto.cuts in
    armed_more c.args.lines.now c.args.cuts.now c.loop-i.cuts c.args.bank.now c.loop-i.bank c.arm-note-inside.new.bank c.loop-i.i (the_view c.note.inside) c.index-cuts-i.result _ c.index-lines-note.result c.arm-note-inside.result
    c.requires.cuts c.loop-i.invariant (omega (arith, at, size)) c.note.view_is c.index-lines-note.is refl c.arm-note-inside.ensures

pub returns : goal.returns
returns g c =
    let long = c.loop-i-test.false in
    let least = c.loop-i.auto.i-end in
    let size = c.loop-i.auto.cuts in
    record {
      arms = all_armed c.args.lines.now c.args.cuts.now c.loop-i.cuts c.args.bank.now c.loop-i.bank c.loop-i.i c.requires.cuts c.loop-i.invariant (omega (arith, long, size)) (omega (arith, least, size));
      length = size;
    }
