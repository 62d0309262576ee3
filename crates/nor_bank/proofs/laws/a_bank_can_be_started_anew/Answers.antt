use Rattle.nor_bank.proofs.Powering.{can_start_anew}
use Rattle.nor_bank.proofs.laws.a_bank_can_be_started_anew.Goals as goal

pub returns : goal.returns
returns c = λ b a after bus stands halted powers kept. can_start_anew b a after bus stands halted powers kept
