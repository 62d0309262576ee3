use Rattle.std.proofs.Common.{◌≡◌, ◌∙◌, ap, sym}
use Rattle.nor_array.specs.declared.entry.Op.{Op}
use Rattle.nor_array.specs.declared.entry.Op.TheVariants.{Arm}
use Rattle.nor_script.specs.declared.line.Word.TheVariants.{Call}
use Rattle.nor_race.proofs.Arming.{cut_armed}
use Rattle.nor_race.proofs.cuts.arm.Goals as goal

pub unreachable-requires : goal.unreachable-requires
unreachable-requires g c = c.in_default.not-Call (Arm c.requires.cut.after c.requires.cut.mask) c.requires.cut.word

pub unreachable-requires-in_default-call : goal.unreachable-requires-in_default-call
unreachable-requires-in_default-call g c =
    let same : Call c.in-Call.call ≡ Call (Arm c.requires.cut.after c.requires.cut.mask) = sym c.in-Call.is ∙ c.requires.cut.word in
    c.in_default-call.not-Arm c.requires.cut.after c.requires.cut.mask (cc)

pub returns : goal.returns
returns g c =
    cut_armed c.args.line.now c.in-Arm.after c.in-Arm.mask c.args.bank.now c.arm.new.self c.arm.result c.requires.cut (c.in-Call.is ∙ ap (λ (o : Op). Call o) c.in-Arm.is) c.requires.sound c.arm.ensures.call
