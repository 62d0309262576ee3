use Rattle.nor_array.specs.declared.entry.Op.TheVariants.{EraseOpen as EraseOpenOp}
use Rattle.nor_driver.proofs.Turns.{erases_by}
use Rattle.nor_driver.proofs.driver.Driver.erase.Goals as goal

pub returns-clause-erased : goal.returns-clause-erased
returns-clause-erased g c =
    erases_by c.args.self.now.opening (EraseOpenOp c.args.block) c.args.caller.now c.erase_start-opening.new.caller c.finish.new.caller c.erase_start-opening.result c.finish.result
    c.erase_start-opening.ensures.called c.finish.ensures.closed c.finish.ensures.unopened
