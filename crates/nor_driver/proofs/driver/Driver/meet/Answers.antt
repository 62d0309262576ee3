use Rattle.nor_driver.proofs.Turns.{opened_joined}
use Rattle.nor_driver.proofs.driver.Driver.meet.Goals as goal

pub invariant_of-to : goal.invariant_of-to
invariant_of-to g c = opened_joined c.to.inside.pass c.split-pass.result c.join.new.into c.to.inside.number c.to.inside.erasing c.to.invariant c.join.ensures.joined c.join.ensures.into
