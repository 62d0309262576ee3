use Rattle.std.proofs.Common.{false}
use Rattle.nor_history.proofs.Bounded.{goes_one}
use Rattle.nor_history.proofs.Bounds.{false_true}
use Rattle.nor_history.proofs.laws.a_call_keeps_the_bounds.Goals as goal

pub returns : goal.returns
returns c caller op old new reply given a t = goes_one caller op old new reply given a t false (λ w polls. false_true w)
