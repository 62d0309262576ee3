use Rattle.nor_array.specs.Consts.{state_of}
use Rattle.nor_array.proofs.Arrays.{named_inside}
use Rattle.nor_array.proofs.admit.open_span.Goals as goal

pub returns-in-Some-clause-inside : goal.returns-in-Some-clause-inside
returns-in-Some-clause-inside c =
    let a = c.array.inside in
    named_inside (state_of a.consts a.bytes.items a.locks.items a.under a.power a.armed) c.args.array.now c.in-Some.open c.target_span.result
    c.array.invariant c.array.view_is c.in-Some.is c.target_span.ensures
