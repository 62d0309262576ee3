use Rattle.nor_history.proofs.Histories.{leads_then}
use Rattle.nor_history.proofs.laws.a_history_behind_another_is_one.Goals as goal

pub returns : goal.returns
returns c = leads_then
