use Rattle.nor_history.proofs.Bounded.{goes_then}
use Rattle.nor_history.proofs.laws.calls_behind_others_keep_them.Goals as goal

pub returns : goal.returns
returns c = goes_then
