use Rattle.nor_bank.proofs.Outlines.{refuses_as_array}
use Rattle.nor_bank.proofs.laws.a_bank_refuses_as_its_array.Goals as goal

pub returns : goal.returns
returns c = refuses_as_array
