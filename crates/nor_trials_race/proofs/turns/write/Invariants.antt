use Rattle.std.proofs.Common.{◌≡◌, false}
use Rattle.std.specs.Prelude.{IsSome}
use Rattle.nor_turn.specs.Passes.{IsPassOf}
use Rattle.nor_trials_race.proofs.turns.write.Given as goal

abbrev pub invariant-loop : goal.invariant-loop
invariant-loop g l = record { own : IsPassOf l.lock l.pass; ticket : IsSome l.pass.ticket; no_turn : l.pass.has_turn ≡ false; share : l.pass.share ≡ l.fn.pass.share; room : l.pass.room ≡ l.fn.pass.room }
