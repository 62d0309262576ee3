-- What `hold` leaves after want of memory is what `save` leaves.
use Rattle.std.proofs.Common.{ap, Some}
use Rattle.std.proofs.lemmas.Result.{err_from_is_err_and}
use Rattle.nor_io.proofs.mem_shelf.MemShelfShelf.save.Goals as goal

pub returns-in_err-hold-clause-err : goal.returns-in_err-hold-clause-err
returns-in_err-hold-clause-err c =
    let exit = err_from_is_err_and c.from_residual.result c.from_residual.ensures.1 in
    rw exit.1 (ap Some c.in_err-hold.ensures.err)
