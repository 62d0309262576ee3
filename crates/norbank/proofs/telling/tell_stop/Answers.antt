use Rattle.std.proofs.Common.{◌∙◌, refl, ap, codes, List, ℕ}
use Rattle.norbank.specs.Text.{line_of}
use Rattle.norbank.specs.Words.{asked_by}
use Rattle.norbank.specs.declared.stop.Stop.TheVariants.{Usage, Absent, TooLarge, ReadFault, WriteFault, OutOfRange}
use Rattle.norbank.proofs.Putting.{tells_as}
use Rattle.norbank.proofs.telling.tell_stop.Goals as goal

pub returns-in-Usage-clause-tells : goal.returns-in-Usage-clause-tells
returns-in-Usage-clause-tells g c =
    tells_as (asked_by c.args.command) c.args.stop Usage c.status-code.result c.say.result.code _
    (g.K.Sink.state c.args.out.now) (g.K.Sink.state c.say.new.out) c.in-Usage.is c.status-code.ensures refl c.say.ensures.says

pub returns-in-Absent-clause-tells : goal.returns-in-Absent-clause-tells
returns-in-Absent-clause-tells g c =
    tells_as (asked_by c.args.command) c.args.stop (Absent c.in-Absent.file) c.status-code.result c.say_line.result.code _
    (g.K.Sink.state c.args.out.now) (g.K.Sink.state c.say_line.new.out) c.in-Absent.is c.status-code.ensures
    (ap (λ (t : List ℕ). line_of (codes "absent ") t) (c.as_bytes.ensures.value ∙ c.name.ensures)) c.say_line.ensures.says

pub returns-in-TooLarge-clause-tells : goal.returns-in-TooLarge-clause-tells
returns-in-TooLarge-clause-tells g c =
    tells_as (asked_by c.args.command) c.args.stop (TooLarge c.in-TooLarge.file) c.status-code.result c.say-in-TooLarge.result.code _
    (g.K.Sink.state c.args.out.now) (g.K.Sink.state c.say-in-TooLarge.new.out) c.in-TooLarge.is c.status-code.ensures c.too_large.ensures c.say-in-TooLarge.ensures.says

pub returns-in-ReadFault-clause-tells : goal.returns-in-ReadFault-clause-tells
returns-in-ReadFault-clause-tells g c =
    tells_as (asked_by c.args.command) c.args.stop (ReadFault c.in-ReadFault.file) c.status-code.result c.say_line-in-ReadFault.result.code _
    (g.K.Sink.state c.args.out.now) (g.K.Sink.state c.say_line-in-ReadFault.new.out) c.in-ReadFault.is c.status-code.ensures
    (ap (λ (t : List ℕ). line_of (codes "read fault ") t) (c.as_bytes-in-ReadFault.ensures.value ∙ c.name-in-ReadFault.ensures)) c.say_line-in-ReadFault.ensures.says

pub returns-in-WriteFault-clause-tells : goal.returns-in-WriteFault-clause-tells
returns-in-WriteFault-clause-tells g c =
    tells_as (asked_by c.args.command) c.args.stop (WriteFault) c.status-code.result c.say_line-in-WriteFault.result.code _
    (g.K.Sink.state c.args.out.now) (g.K.Sink.state c.say_line-in-WriteFault.new.out) c.in-WriteFault.is c.status-code.ensures
    (ap (λ (t : List ℕ). line_of (codes "write fault ") t) (c.as_bytes-in-WriteFault.ensures.value ∙ c.name-in-WriteFault.ensures)) c.say_line-in-WriteFault.ensures.says

pub returns-in-OutOfRange-clause-tells : goal.returns-in-OutOfRange-clause-tells
returns-in-OutOfRange-clause-tells g c =
    tells_as (asked_by c.args.command) c.args.stop OutOfRange c.status-code.result c.say-in-OutOfRange.result.code _
    (g.K.Sink.state c.args.out.now) (g.K.Sink.state c.say-in-OutOfRange.new.out) c.in-OutOfRange.is c.status-code.ensures refl c.say-in-OutOfRange.ensures.says
