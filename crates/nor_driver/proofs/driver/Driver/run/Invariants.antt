use Rattle.std.proofs.Common.{◌≡◌, length}
use Rattle.nor_driver.specs.Made.{IsSameCaller}
use Rattle.nor_driver.proofs.driver.Driver.run.Given as goal

abbrev pub invariant-loop : goal.invariant-loop
invariant-loop g l = record { same : IsSameCaller l.fn.caller l.caller; length : length l.into ≡ length l.fn.into }
