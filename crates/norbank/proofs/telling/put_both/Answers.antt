use Rattle.nor_io.proofs.Putting.{puts_then, puts_stop}
use Rattle.norbank.proofs.telling.put_both.Goals as goal

pub returns-in-Ok-clause-puts : goal.returns-in-Ok-clause-puts
returns-in-Ok-clause-puts g c =
    puts_then c.args.first.now c.args.second.now (g.K.Sink.state c.args.out.now) (g.K.Sink.state c.put.new.self) (g.K.Sink.state c.put-in-Ok.new.self) c.put-in-Ok.result c.in-Ok.ensures.puts c.put.ensures.later c.put-in-Ok.ensures.puts

pub returns-in-Err-clause-puts : goal.returns-in-Err-clause-puts
returns-in-Err-clause-puts g c =
    puts_stop c.args.first.now c.args.second.now (g.K.Sink.state c.args.out.now) (g.K.Sink.state c.put.new.self) c.in-Err.error c.in-Err.ensures.puts
