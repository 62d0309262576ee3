use Rattle.std.proofs.Common.{ap}
use Rattle.std.specs.Prelude.{Ok}
use Rattle.nor_query.proofs.Standing.{one_query, valid_of}
use Rattle.nor_query.proofs.decoding.decode.Goals as goal

pub returns-clause-only : goal.returns-clause-only
returns-clause-only c q stands = ap (λ found. Ok found) (one_query c.args.table.now c.read_fields.result q c.read_fields.ensures.stands stands)

pub returns-clause-valid : goal.returns-clause-valid
returns-clause-valid c = valid_of c.args.table.now c.read_fields.result c.read_fields.ensures.stands c.read_fields.ensures.ranges
