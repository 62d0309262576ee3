use Rattle.nor_array.specs.declared.entry.Op.TheVariants.{EraseAll as EraseAllOp}
use Rattle.nor_driver.proofs.Turns.{erases_by}
use Rattle.nor_driver.proofs.driver.Driver.erase_all.Goals as goal

pub returns-clause-erased : goal.returns-clause-erased
returns-clause-erased g c =
    erases_by c.args.self.now.opening EraseAllOp c.args.caller.now c.erase_all_start-opening.new.caller c.finish.new.caller c.erase_all_start-opening.result c.finish.result
    c.erase_all_start-opening.ensures.called c.finish.ensures.closed c.finish.ensures.unopened
