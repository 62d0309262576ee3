use Rattle.std.proofs.Common.{◌≢◌}
use Rattle.nor_bank.proofs.Padding.{some_byte}
use Rattle.nor_bank.proofs.PiecesRead.{reads_none, reads_some}
use Rattle.nor_bank.proofs.pieces.changed_word.Goals as goal

pub returns-then-equals-clause-tells : goal.returns-then-equals-clause-tells
returns-then-equals-clause-tells g c = λ f can meets.
    let w = g.W.BusWord.WIDTH in
    let old = g.B.Bus.state c.args.bus.now in
    let now = g.B.Bus.state c.read_word.new.bus in
    let before = g.W.BusWord.bytes c.in_ok-old.old in
    let padded = g.W.BusWord.bytes c.pad_word.result in
    let word = g.W.BusWord.bytes c.and-word.result in
    reads_none w f c.args.u c.args.at c.args.new.now old now before padded word (some_byte w g.met.W.BusWord.sized) (g.met.W.BusWord.small c.in_ok-old.old) c.in_ok-old.ensures.went
    c.in_ok-old.ensures.units c.in_ok-old.ensures.lanes c.pad_word.ensures c.and-word.ensures can meets (c.equals.ensures.0 c.if-equals.true)

pub returns-clause-tells : goal.returns-clause-tells
returns-clause-tells g c = λ f can meets.
    let w = g.W.BusWord.WIDTH in
    let old = g.B.Bus.state c.args.bus.now in
    let now = g.B.Bus.state c.read_word.new.bus in
    let before = g.W.BusWord.bytes c.in_ok-old.old in
    let padded = g.W.BusWord.bytes c.pad_word.result in
    let word = g.W.BusWord.bytes c.and-word.result in
    let apart : word ≢ before = λ e. let is = c.equals.ensures.1 e in let not = c.if-equals.false in cc in
    reads_some w f c.args.u c.args.at c.args.new.now old now before padded word (some_byte w g.met.W.BusWord.sized) (g.met.W.BusWord.small c.in_ok-old.old) c.in_ok-old.ensures.went
    c.in_ok-old.ensures.units c.in_ok-old.ensures.lanes c.pad_word.ensures c.and-word.ensures can meets apart (g.met.W.BusWord.wide c.and-word.result) (g.met.W.BusWord.wide c.in_ok-old.old)
