use Rattle.nor_array.proofs.Histories.{legal_parts, legal_more}
use Rattle.nor_array.proofs.laws.histories_grow_at_the_end.Goals as goal

pub returns : goal.returns
returns c = λ facts a es e. (legal_parts facts a es e, λ parts. legal_more facts a es e parts.0 parts.1 parts.2)
