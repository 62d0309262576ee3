use Rattle.std.proofs.Common.{◌≡◌, ◌≤◌, ◌+◌, ℕ, Ok, Err, subst, arith, length, take}
use Rattle.std.proofs.lemmas.List.{length-take}
use Rattle.hex.specs.Hex.{encode_lower}
use Rattle.nor_bus.specs.Bus.{bank_bytes}
use Rattle.nor_io.specs.Puts.{PutsText}
use Rattle.norbank.proofs.Piecewise.{printed_none, printed_more, printed_stop}
use Rattle.norbank.proofs.printing.put_pieces.Goals as goal

pub loop-done-init : goal.loop-done-init
loop-done-init g c = printed_none g.W.BusWord.WIDTH c.args.at c.args.len (g.B.Bus.state c.args.bus.now) (g.K.Sink.state c.args.out.now) c.requires.open

pub returns-in-Err-clause-puts : goal.returns-in-Err-clause-puts
returns-in-Err-clause-puts g c =
    let now = g.B.Bus.state c.loop-done.bus in
    let count = c.min-count.ensures in
    let room : c.loop-done.done + c.min-count.result ≤ c.args.len = let so = c.loop-done.invariant.within in omega arith in
    let big = c.min-count.array_long in
    let long : length (take c.min-count.result c.loop-done.buffer) ≡ c.min-count.result = rw length-take (omega arith) in
    printed_stop g.W.BusWord.WIDTH c.args.at c.args.len c.loop-done.done c.min-count.result (g.B.Bus.state c.args.bus.now) now
    (g.K.Sink.state c.args.out.now) (g.K.Sink.state c.loop-done.out) (g.K.Sink.state c.put_piece.new.out) c.in-Err.error c.loop-done.invariant room
    (λ d bank. subst (λ (n : ℕ). PutsText (encode_lower (bank_bytes d now.lanes (c.args.at + c.loop-done.done) n))
    (g.K.Sink.state c.loop-done.out) (g.K.Sink.state c.put_piece.new.out) (Err c.in-Err.error)) long (c.in-Err.ensures.puts d bank))

pub loop-done-preserved : goal.loop-done-preserved
loop-done-preserved g c =
    let now = g.B.Bus.state c.loop-done.bus in
    let count = c.min-count.ensures in
    let room : c.loop-done.done + c.min-count.result ≤ c.args.len = let so = c.loop-done.invariant.within in omega arith in
    let big = c.min-count.array_long in
    let long : length (take c.min-count.result c.loop-done.buffer) ≡ c.min-count.result = rw length-take (omega arith) in
    printed_more g.W.BusWord.WIDTH c.args.at c.args.len c.loop-done.done c.min-count.result (g.B.Bus.state c.args.bus.now) now (g.B.Bus.state c.put_piece.new.bus)
    (g.K.Sink.state c.args.out.now) (g.K.Sink.state c.loop-done.out) (g.K.Sink.state c.put_piece.new.out) c.in_default.field-0 c.loop-done.invariant room
    c.put_piece.ensures.same c.put_piece.ensures.open c.put_piece.ensures.units c.put_piece.ensures.later
    (λ d bank. subst (λ (n : ℕ). PutsText (encode_lower (bank_bytes d now.lanes (c.args.at + c.loop-done.done) n))
    (g.K.Sink.state c.loop-done.out) (g.K.Sink.state c.put_piece.new.out) (Ok c.in_default.field-0)) long (c.in_default.ensures.puts d bank))
