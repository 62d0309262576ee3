use Rattle.std.proofs.Common.{ℕ, List, Err, subst, sym, codes, arith}
use Rattle.hex.specs.Hex.{encode_lower}
use Rattle.nor_bus.specs.Bus.{bank_bytes}
use Rattle.nor_io.specs.Puts.{PutsText}
use Rattle.norbank.proofs.BankBytes.{line_some}
use Rattle.nor_io.proofs.Putting.{puts_then, puts_stop}
use Rattle.norbank.proofs.printing.print_bytes.Goals as goal

pub returns-in-Ok-clause-puts : goal.returns-in-Ok-clause-puts
returns-in-Ok-clause-puts g c = λ device bank.
    let old = g.B.Bus.state c.args.bus.now in
    let text = encode_lower (bank_bytes device old.lanes c.args.at c.args.len) in
    subst (λ (t : List ℕ). PutsText t (g.K.Sink.state c.args.out.now) (g.K.Sink.state c.put-in-Ok.new.self) c.put-in-Ok.result)
    (sym (line_some device old.lanes c.args.at c.args.len (omega arith)))
    (puts_then text (codes "\n") (g.K.Sink.state c.args.out.now) (g.K.Sink.state c.put_pieces.new.out) (g.K.Sink.state c.put-in-Ok.new.self) c.put-in-Ok.result (c.in-Ok.ensures.puts device bank) c.put_pieces.ensures.later c.put-in-Ok.ensures.puts)

pub returns-in-Err-clause-puts : goal.returns-in-Err-clause-puts
returns-in-Err-clause-puts g c = λ device bank.
    let old = g.B.Bus.state c.args.bus.now in
    let text = encode_lower (bank_bytes device old.lanes c.args.at c.args.len) in
    subst (λ (t : List ℕ). PutsText t (g.K.Sink.state c.args.out.now) (g.K.Sink.state c.put_pieces.new.out) (Err c.in-Err.error))
    (sym (line_some device old.lanes c.args.at c.args.len (omega arith)))
    (puts_stop text (codes "\n") (g.K.Sink.state c.args.out.now) (g.K.Sink.state c.put_pieces.new.out) c.in-Err.error (c.in-Err.ensures.puts device bank))
