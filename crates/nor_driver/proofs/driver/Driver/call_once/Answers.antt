use Rattle.std.proofs.Common.{◌≡◌, ◌∙◌, ℕ, true, length, sym, ap, subst}
use Rattle.nor_bank.specs.State.{BankState}
use Rattle.nor_bank.specs.Calls.{entry_of}
use Rattle.nor_turn.specs.Passes.{LockView}
use Rattle.nor_driver.specs.Made.{is_poll}
use Rattle.nor_driver.proofs.Turns.{stands_waiting, stands_entered, stands_given, call_made, polls_in_turn, rests_entered}
use Rattle.nor_driver.proofs.driver.Driver.call_once.Goals as goal

pub give-requires-clause-stands : goal.give-requires-clause-stands
give-requires-clause-stands g c =
    stands_waiting c.args.self.now.opening c.self.inside.lock.opening c.turn-turn.result c.held.inside.bank c.make-reply.new.bank c.turn-turn.new.pass.turn_front
    c.caller.inside.number (g.C.Call.op c.args.call.now (length c.args.into.now)) c.make-reply.result c.make-reply.new.into
    (ap (λ (l : LockView BankState). l.opening) c.self.view_is) (c.held.view_is ∙ c.value-held.ensures.value) c.turn-turn.ensures.value
    (sym c.is_waited_out.ensures ∙ c.if-is_waited_out.true) (record { call = c.make-reply.ensures.call; reads = c.make-reply.ensures.reads; kind = c.make-reply.ensures.kind })

pub enter-position-requires-clause-stands : goal.enter-position-requires-clause-stands
enter-position-requires-clause-stands g c =
    stands_entered c.args.self.now.opening c.self.inside.lock.opening c.turn-turn.result c.held.inside.bank c.make-reply.new.bank c.of-before.result.value c.of-after.result.value
    c.turn-turn.new.pass.turn_front c.turn-turn.new.pass.name c.caller.inside.number (length c.args.into.now) (length c.make-reply.new.into) (g.C.Call.op c.args.call.now) c.make-reply.result c.make-reply.new.into
    (ap (λ (l : LockView BankState). l.opening) c.self.view_is) (c.held.view_is ∙ c.value-held.ensures.value) c.of-before.ensures c.of-after.ensures c.make-reply.ensures.length
    c.turn-turn.ensures.value (record { call = c.make-reply.ensures.call; reads = c.make-reply.ensures.reads; kind = c.make-reply.ensures.kind })
    (polls_in_turn (g.C.Call.op c.args.call.now (length c.args.into.now)) c.args.caller.now (record { number = c.caller.inside.number; pass = c.caller.inside.pass; erasing = c.caller.inside.erasing }) c.turn-turn.new.pass
    c.caller.view_is c.requires.polls c.turn-turn.ensures.same c.turn-turn.ensures.front)

pub give-requires-2-clause-stands : goal.give-requires-2-clause-stands
give-requires-2-clause-stands g c =
    stands_given c.self.inside.lock.opening c.enter-position.new.turn c.make-reply.new.bank c.turn-turn.new.pass c.enter-position.new.pass
    (entry_of c.of-before.result.value c.of-after.result.value c.caller.inside.number (g.C.Call.op c.args.call.now (length c.make-reply.new.into)) c.make-reply.result c.make-reply.new.into)
    c.enter-position.ensures.entered c.enter-position.ensures.value
    (stands_entered c.args.self.now.opening c.self.inside.lock.opening c.turn-turn.result c.held.inside.bank c.make-reply.new.bank c.of-before.result.value c.of-after.result.value
    c.turn-turn.new.pass.turn_front c.turn-turn.new.pass.name c.caller.inside.number (length c.args.into.now) (length c.make-reply.new.into) (g.C.Call.op c.args.call.now) c.make-reply.result c.make-reply.new.into
    (ap (λ (l : LockView BankState). l.opening) c.self.view_is) (c.held.view_is ∙ c.value-held.ensures.value) c.of-before.ensures c.of-after.ensures c.make-reply.ensures.length
    c.turn-turn.ensures.value (record { call = c.make-reply.ensures.call; reads = c.make-reply.ensures.reads; kind = c.make-reply.ensures.kind })
    (polls_in_turn (g.C.Call.op c.args.call.now (length c.args.into.now)) c.args.caller.now (record { number = c.caller.inside.number; pass = c.caller.inside.pass; erasing = c.caller.inside.erasing }) c.turn-turn.new.pass
    c.caller.view_is c.requires.polls c.turn-turn.ensures.same c.turn-turn.ensures.front))

pub returns-clause-some : goal.returns-clause-some
returns-clause-some g c =
    let polls = polls_in_turn (g.C.Call.op c.args.call.now (length c.args.into.now)) c.args.caller.now (record { number = c.caller.inside.number; pass = c.caller.inside.pass; erasing = c.caller.inside.erasing }) c.turn-turn.new.pass
    c.caller.view_is c.requires.polls c.turn-turn.ensures.same c.turn-turn.ensures.front in
    call_made c.args.self.now.opening c.held.inside.bank c.turn-turn.result c.make-reply.new.bank c.of-before.result.value c.of-after.result.value c.caller.inside.number (length c.args.into.now) (length c.make-reply.new.into) c.enter-position.result
    (g.C.Call.op c.args.call.now) c.make-reply.result c.make-reply.new.into c.caller.inside.pass c.turn-turn.new.pass c.enter-position.new.pass c.give-2.new.pass c.caller.inside.erasing c.args.caller.now
    c.caller.view_is c.make-reply.ensures.length (sym c.is_waited_out.ensures ∙ c.if-is_waited_out.false) (c.held.view_is ∙ c.value-held.ensures.value) c.of-before.ensures c.of-after.ensures
    c.turn-turn.ensures.value (record { call = c.make-reply.ensures.call; reads = c.make-reply.ensures.reads; kind = c.make-reply.ensures.kind }) polls
    c.turn-turn.ensures.same c.turn-turn.ensures.front c.requires.room c.enter-position.ensures.place c.enter-position.ensures.entered c.give-2.ensures.given

pub invariant_of-caller-2 : goal.invariant_of-caller-2
invariant_of-caller-2 g c =
    rests_entered c.caller.inside.pass c.turn-turn.new.pass c.enter-position.new.pass c.give-2.new.pass c.caller.inside.number c.caller.inside.erasing c.args.caller.now
    (entry_of c.of-before.result.value c.of-after.result.value c.caller.inside.number (g.C.Call.op c.args.call.now (length c.make-reply.new.into)) c.make-reply.result c.make-reply.new.into) c.enter-position.result
    c.caller.view_is c.caller.invariant
    (λ poll. c.requires.polls (subst (λ (n : ℕ). is_poll (g.C.Call.op c.args.call.now n) ≡ true) c.make-reply.ensures.length poll))
    c.turn-turn.ensures.same c.turn-turn.ensures.front c.enter-position.ensures.place c.enter-position.ensures.entered c.give-2.ensures.given
