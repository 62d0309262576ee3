use Rattle.nor_history.proofs.Histories.{leads_one}
use Rattle.nor_history.proofs.laws.a_call_is_a_history.Goals as goal

pub returns : goal.returns
returns c = leads_one
