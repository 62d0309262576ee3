use Rattle.std.proofs.Common.{length}
use Rattle.hex.specs.Hex.{encode_lower}
use Rattle.nor_io.proofs.Putting.{PutSoFar}
use Rattle.nor_io.proofs.hex_text.put_hex.Given as goal

-- the text of the bytes before the rest has been put
abbrev pub invariant-pieces : goal.invariant-pieces
invariant-pieces g l = PutSoFar (encode_lower l.bytes) (encode_lower l.rest) (g.K.Sink.state l.fn.out) (g.K.Sink.state l.out)

abbrev pub decreases-pieces : goal.decreases-pieces
decreases-pieces g l = length l.rest
