use Rattle.std.proofs.Common.{subst}
use Rattle.nor_poll.specs.declared.lanes.LaneState.TheVariants.{Running}
use Rattle.nor_bank.specs.Looks.{SomeLaneIs}
use Rattle.nor_bank.specs.State.{BankState}
use Rattle.nor_bank.proofs.PausingBank.{pause_idle, pause_kept, pause_halted, pause_counted}
use Rattle.nor_bank.proofs.bank.Bank.pause.Goals as goal

pub returns-then-not-has_lane-clause-pauses : goal.returns-then-not-has_lane-clause-pauses
returns-then-not-has_lane-clause-pauses g c =
    pause_idle g.W.BusWord.WIDTH _ _ c.args.erase c.self.view_is c.self.invariant c.requires.running c.requires.open (c.has_lane.ensures.lacks c.if-not-has_lane.true)

pub returns-in-Ok-clause-pauses : goal.returns-in-Ok-clause-pauses
returns-in-Ok-clause-pauses g c =
    pause_kept g.W.BusWord.WIDTH _ _ c.args.erase c.self.view_is c.self.invariant c.requires.running c.requires.open c.erased_unit-at.result
    (g.B.Bus.state c.suspend.new.bus) c.requires.offers c.erased_unit-at.ensures c.in-Ok.lanes c.in-Ok.ensures.suspends

pub returns-in-Ok-clause-still : goal.returns-in-Ok-clause-still
returns-in-Ok-clause-still g c =
    let some : SomeLaneIs c.args.self.now.found.geometry.lanes c.args.erase.lanes Running =
    subst (λ (b : BankState). SomeLaneIs b.found.geometry.lanes c.args.erase.lanes Running) c.self.view_is (c.has_lane.ensures.has c.if-not-has_lane.false) in
    λ none. absurd (none some.number some.there some.is)

pub returns-in-Err-clause-halts : goal.returns-in-Err-clause-halts
returns-in-Err-clause-halts g c =
    pause_halted g.W.BusWord.WIDTH _ _ c.args.erase c.self.view_is c.self.invariant c.requires.running c.requires.open c.erased_unit-at.result
    (g.B.Bus.state c.suspend.new.bus) c.requires.offers c.erased_unit-at.ensures c.in-Err.halt c.cause_of-cause.result c.keep_halt.new.halted c.keep_halt.new.erase
    c.keep_halt.result c.cause_of-cause.ensures c.keep_halt.ensures.halted c.keep_halt.ensures.erase c.keep_halt.ensures.reply c.in-Err.ensures.halts

pub returns-in-Err-clause-counts : goal.returns-in-Err-clause-counts
returns-in-Err-clause-counts g c =
    pause_counted g.W.BusWord.WIDTH _ _ c.args.erase c.self.view_is c.self.invariant c.requires.running c.requires.open c.erased_unit-at.result
    (g.B.Bus.state c.suspend.new.bus) c.requires.offers c.erased_unit-at.ensures c.in-Err.halt c.in-Err.ensures.halts
