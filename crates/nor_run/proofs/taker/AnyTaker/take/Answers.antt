use Rattle.nor_run.proofs.Taking.{puts_told}
use Rattle.nor_run.proofs.taker.AnyTaker.take.Goals as goal

pub returns : goal.returns
returns g c =
    puts_told c.args.position c.args.caller c.args.op.now c.args.reply c.args.bytes.now
    (g.K.Sink.state c.args.self.now) (g.K.Sink.state c.put_entry.new.out) c.put_entry.result c.put_entry.ensures.puts c.put_entry.ensures.later
