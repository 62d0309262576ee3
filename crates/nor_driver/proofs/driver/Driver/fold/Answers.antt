use Rattle.nor_driver.proofs.Turns.{opened_joined}
use Rattle.nor_driver.proofs.driver.Driver.fold.Goals as goal

pub invariant_of-into : goal.invariant_of-into
invariant_of-into g c = opened_joined c.into.inside.pass c.other.inside.pass c.join.new.into c.into.inside.number c.into.inside.erasing c.into.invariant c.join.ensures.joined c.join.ensures.into
