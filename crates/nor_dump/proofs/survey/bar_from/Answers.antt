use Rattle.std.proofs.Common.{arith}
use Rattle.std.proofs.Math.Nat.{div-le_self}
use Rattle.nor_dump.proofs.survey.bar_from.Goals as goal

pub erased_in-requires-clause-units : goal.erased_in-requires-clause-units
erased_in-requires-clause-units g c =
    let less = div-le_self c.saturating_sub-len.result c.unit_len-unit.result in
    omega (arith, less)
