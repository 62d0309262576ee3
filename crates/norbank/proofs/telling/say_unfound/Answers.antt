use Rattle.std.proofs.Common.{inl, subst, sym}
use Rattle.nor_probe.specs.declared.error.ProbeError.{ProbeError}
use Rattle.norbank.specs.Endings.{Says}
use Rattle.norbank.specs.Text.{probe_text}
use Rattle.norbank.proofs.telling.say_unfound.Goals as goal

pub returns-in-NoAnswer-clause-says : goal.returns-in-NoAnswer-clause-says
returns-in-NoAnswer-clause-says g c =
    inl (subst (λ (e : ProbeError). Says c.args.code (probe_text e) (g.K.Sink.state c.args.out.now) (g.K.Sink.state c.say.new.out) c.say.result.code) (sym c.in-NoAnswer.is) c.say.ensures.says)
