use Rattle.std.proofs.Common.{◌≡◌, false}
use Rattle.std.specs.Prelude.{IsSome}
use Rattle.nor_driver.specs.Made.{IsSame}
use Rattle.nor_driver.proofs.driver.Driver.turn.Given as goal

abbrev pub invariant-loop : goal.invariant-loop
invariant-loop g l = record { ticket : IsSome l.pass.ticket; idle : l.pass.has_turn ≡ false; same : IsSame l.fn.pass l.pass }
