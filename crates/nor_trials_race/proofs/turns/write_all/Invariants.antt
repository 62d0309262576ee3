use Rattle.std.proofs.Common.{◌≡◌, ◌+◌, None}
use Rattle.nor_turn.specs.Passes.{IsPassOf}
use Rattle.nor_trials_race.proofs.turns.write_all.Given as goal

abbrev pub invariant-loop-i : goal.invariant-loop-i
invariant-loop-i g l = record { own : IsPassOf l.lock l.pass; no_ticket : l.pass.ticket ≡ None; share : l.pass.share ≡ l.fn.pass.share; room : l.pass.room + l.i ≡ l.fn.pass.room }
