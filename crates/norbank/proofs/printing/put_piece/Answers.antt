use Rattle.std.proofs.Common.{◌∙◌, ℕ, List, length, ap, subst}
use Rattle.hex.specs.Hex.{encode_lower}
use Rattle.nor_bus.specs.Bus.{bank_bytes}
use Rattle.nor_io.specs.Puts.{PutsText}
use Rattle.nor_bank.proofs.Served.{can_read_quiet}
use Rattle.norbank.proofs.BankBytes.{bytes_of, still_open}
use Rattle.norbank.proofs.printing.put_piece.Goals as goal

pub returns-clause-puts : goal.returns-clause-puts
returns-clause-puts g c = λ device bank.
    let old = g.B.Bus.state c.args.bus.now in
    let reads = rw c.unwrap.ensures at c.read_range.ensures.reads in
    let read = reads device (can_read_quiet g.W.BusWord.WIDTH device old c.args.at (length c.args.piece.now) bank c.requires.open.chips c.requires.within) in
    let is = bytes_of device old.lanes c.args.at c.read_range.new.into read.bytes_are in
    let text = is ∙ ap (λ (n : ℕ). bank_bytes device old.lanes c.args.at n) c.read_range.ensures.length in
    subst (λ (bytes : List ℕ). PutsText (encode_lower bytes) (g.K.Sink.state c.args.out.now) (g.K.Sink.state c.put_hex.new.out) c.put_hex.result) text c.put_hex.ensures.puts

pub returns-clause-open : goal.returns-clause-open
returns-clause-open g c =
    let wired = c.requires.wired in
    let reads = rw c.unwrap.ensures at c.read_range.ensures.reads in
    let went = rw c.unwrap.ensures at c.read_range.ensures.went in
    let read = reads wired.0 (can_read_quiet g.W.BusWord.WIDTH wired.0 (g.B.Bus.state c.args.bus.now) c.args.at (length c.args.piece.now) wired.1 c.requires.open.chips c.requires.within) in
    still_open _ _ (g.B.Bus.state c.args.bus.now) (g.B.Bus.state c.read_range.new.bus) c.requires.open went read.same
