use Rattle.std.proofs.Common.{rules, ap, sym, ◌∙◌}
use Rattle.hex.specs.Hex.{encode_lower}
use Rattle.nor_io.proofs.Putting.{more_put, stop_put, all_put, encode-nil, pieces_of, none_left}
use Rattle.nor_io.proofs.hex_text.put_hex.Goals as goal

pub returns-in_err-put_piece-clause-puts : goal.returns-in_err-put_piece-clause-puts
returns-in_err-put_piece-clause-puts g c =
    stop_put (encode_lower c.args.bytes.now) (encode_lower c.pieces.rest.now) _ (encode_lower c.split_at.result.1.now)
    (g.K.Sink.state c.args.out.now) (g.K.Sink.state c.pieces.out) (g.K.Sink.state c.put_piece.new.out) c.in_err-put_piece.field-0.0 c.from_residual.result
    c.pieces.invariant (pieces_of c.pieces.rest.now _ _ (sym c.split_at.ensures.by_index.0)) c.in_err-put_piece.ensures.puts (search rules)

pub pieces-preserved : goal.pieces-preserved
pieces-preserved g c =
    more_put (encode_lower c.args.bytes.now) (encode_lower c.pieces.rest.now) _ (encode_lower c.split_at.result.1.now)
    (g.K.Sink.state c.args.out.now) (g.K.Sink.state c.pieces.out) (g.K.Sink.state c.put_piece.new.out)
    c.pieces.invariant (pieces_of c.pieces.rest.now _ _ (sym c.split_at.ensures.by_index.0)) c.in_ok-put_piece.ensures.puts c.put_piece.ensures.later

pub returns-clause-puts : goal.returns-clause-puts
returns-clause-puts g c =
    all_put (encode_lower c.args.bytes.now) (encode_lower c.pieces.rest.now) (g.K.Sink.state c.args.out.now) (g.K.Sink.state c.pieces.out) c.pieces.invariant
    (ap encode_lower (none_left c.pieces.rest.now c.is_empty.result c.is_empty.ensures c.pieces-test.false) ∙ encode-nil)
