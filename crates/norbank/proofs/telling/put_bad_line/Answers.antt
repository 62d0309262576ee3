use Rattle.std.proofs.Common.{◌++◌, codes}
use Rattle.norbank.specs.Text.{line_of}
use Rattle.nor_io.proofs.Putting.{puts_then, puts_stop}
use Rattle.norbank.proofs.telling.put_bad_line.Goals as goal

pub returns-in-Ok-clause-puts : goal.returns-in-Ok-clause-puts
returns-in-Ok-clause-puts g c =
    puts_then (codes "script: line " ++ c.args.number.now) (line_of (codes ": ") c.args.kind.now) (g.K.Sink.state c.args.out.now) (g.K.Sink.state c.put_both.new.out) (g.K.Sink.state c.put_line.new.out) c.put_line.result c.in-Ok.ensures.puts c.put_both.ensures.later c.put_line.ensures.puts

pub returns-in-Err-clause-puts : goal.returns-in-Err-clause-puts
returns-in-Err-clause-puts g c =
    puts_stop (codes "script: line " ++ c.args.number.now) (line_of (codes ": ") c.args.kind.now) (g.K.Sink.state c.args.out.now) (g.K.Sink.state c.put_both.new.out) c.in-Err.error c.in-Err.ensures.puts
