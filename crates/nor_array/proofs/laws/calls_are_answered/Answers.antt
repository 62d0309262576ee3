use Rattle.nor_array.proofs.Answering.{some_answer}
use Rattle.nor_array.proofs.laws.calls_are_answered.Goals as goal

pub returns-clause-answered : goal.returns-clause-answered
returns-clause-answered c = λ a caller op has. some_answer a caller op has
