use Rattle.nor_drill.proofs.Tallies.{tallies}
use Rattle.nor_drill.proofs.laws.tallies_count.Goals as goal

pub returns : goal.returns
returns c = tallies
