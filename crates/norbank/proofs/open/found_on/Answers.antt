use Rattle.std.proofs.Common.{◌≡◌, Err}
use Rattle.nor_probe.specs.declared.error.ProbeError.TheVariants.{Off as LostPower}
use Rattle.norbank.proofs.BankBytes.{now_open, same_after}
use Rattle.norbank.proofs.open.found_on.Goals as goal

pub returns-clause-powered : goal.returns-clause-powered
returns-clause-powered g c = λ lost. (c.probe.ensures.lost lost).was_armed c.requires.powered.power c.requires.powered.armed

pub returns-clause-bytes : goal.returns-clause-bytes
returns-clause-bytes g c =
    let on = λ (lost : c.probe.result ≡ Err LostPower). (c.probe.ensures.lost lost).was_armed c.requires.powered.power c.requires.powered.armed in
    same_after (g.B.Bus.state c.args.bus.now) (g.B.Bus.state c.probe.new.bus) (c.probe.ensures.counted on).went.kept (c.probe.ensures.lanes on) c.requires.idle

pub returns-clause-open : goal.returns-clause-open
returns-clause-open g c =
    let on = λ (lost : c.probe.result ≡ Err LostPower). (c.probe.ensures.lost lost).was_armed c.requires.powered.power c.requires.powered.armed in
    let counted = c.probe.ensures.counted on in
    now_open counted.cycles counted.cycles (g.B.Bus.state c.args.bus.now) (g.B.Bus.state c.probe.new.bus) c.requires.powered counted.went (c.probe.ensures.lanes on) c.requires.idle
