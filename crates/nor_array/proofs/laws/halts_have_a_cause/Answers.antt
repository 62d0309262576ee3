use Rattle.nor_array.proofs.Halting.{halts_have_a_cause}
use Rattle.nor_array.proofs.laws.halts_have_a_cause.Goals as goal

pub returns : goal.returns
returns c = λ facts a es legal on unarmed none sound. halts_have_a_cause facts a es legal on unarmed none sound
