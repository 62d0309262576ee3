use Rattle.nor_driver.proofs.Going.{stands_first}
use Rattle.nor_driver.proofs.driver.Driver.new.Goals as goal

pub new-requires : goal.new-requires
new-requires g c = stands_first c.args.bank c.requires
