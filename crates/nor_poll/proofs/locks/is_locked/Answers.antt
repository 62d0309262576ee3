use Rattle.std.proofs.Common.{arith, length, ◌+◌, inl, inr}
use Rattle.nor_bus.specs.Bus.{lane}
use Rattle.nor_bus.specs.Driven.{Reaches, EachLane}
use Rattle.nor_bus.proofs.Driving.{went_then, lost_then, reaches_kept, lane_kept, keeps_then}
use Rattle.nor_poll.specs.Codes.{after_cycles, cycle_count, cycles_of}
use Rattle.nor_poll.specs.Losing.{LosesNone, DarkensCall}
use Rattle.nor_poll.specs.Lock.{OffersLocks}
use Rattle.nor_poll.specs.declared.codes.Command.TheVariants.{ShowLocks, LeaveLocks}
use Rattle.nor_poll.proofs.Reading.{asks_lost, darkens, dark_sent, dark_now, dark_at_end, read_one}
use Rattle.nor_poll.proofs.Looking.{looked_by}
use Rattle.nor_poll.proofs.Locking.{loses_showing, loses_shown, loses_leaving}
use Rattle.nor_poll.proofs.LockReads.{IsRead, mid_shows, last_shows, tells}
use Rattle.nor_cell.proofs.Logic.{on_err}
use Rattle.nor_poll.proofs.locks.is_locked.Goals as goal

pub returns-in_err-write_command-clause-loses : goal.returns-in_err-write_command-clause-loses
returns-in_err-write_command-clause-loses g c =
    let old = g.B.Bus.state c.args.bus.now in
    let new = g.B.Bus.state c.write_command.new.bus in
    on_err c.from_residual.result (Reaches g.W.BusWord.WIDTH c.args.g c.args.at old → EachLane (LosesNone (OffersLocks c.args.set)) old new) (λ reaches k below.
    loses_showing c.args.set c.args.at (lane old k) (lane new k)
    (c.in_err-write_command.ensures.dark reaches k below))

pub returns-in_err-word-clause-loses : goal.returns-in_err-word-clause-loses
returns-in_err-word-clause-loses g c =
    let old = g.B.Bus.state c.args.bus.now in
    let mid = g.B.Bus.state c.write_command.new.bus in
    let new = g.B.Bus.state c.read_word.new.bus in
    on_err c.from_residual-in_err-word.result (Reaches g.W.BusWord.WIDTH c.args.g c.args.at old → EachLane (LosesNone (OffersLocks c.args.set)) old new) (λ reaches k below.
    loses_shown c.args.set (lane old k) (lane mid k) (lane new k)
    (mid_shows c.args.set c.args.at (lane old k) (lane mid k)
    (c.in_ok-write_command.ensures.lanes reaches k below))
    (darkens mid new c.in_err-word.ensures.fails k (lane_kept old mid k c.in_ok-write_command.ensures.went.kept below)))

pub returns-in_err-write_command-clause-dark : goal.returns-in_err-write_command-clause-dark
returns-in_err-write_command-clause-dark g c =
    let set = c.args.set in
    let old = g.B.Bus.state c.args.bus.now in
    let new = g.B.Bus.state c.write_command.new.bus in
    on_err c.from_residual.result (Reaches g.W.BusWord.WIDTH c.args.g c.args.at old → DarkensCall c.args.at (cycles_of set ShowLocks) (cycles_of set LeaveLocks) 1 old new) (λ reaches. inl (inl (λ k below.
    (c.in_err-write_command.ensures.dark reaches k below))))

pub returns-in_err-word-clause-dark : goal.returns-in_err-word-clause-dark
returns-in_err-word-clause-dark g c =
    let set = c.args.set in
    let old = g.B.Bus.state c.args.bus.now in
    let mid = g.B.Bus.state c.write_command.new.bus in
    let new = g.B.Bus.state c.read_word.new.bus in
    let went = c.in_ok-write_command.ensures.went in
    on_err c.from_residual-in_err-word.result (Reaches g.W.BusWord.WIDTH c.args.g c.args.at old → DarkensCall c.args.at (cycles_of set ShowLocks) (cycles_of set LeaveLocks) 1 old new) (λ reaches. inl (inr (
    dark_sent (λ k. after_cycles c.args.at (cycles_of set ShowLocks)) (length (cycles_of set ShowLocks)) 1 1 old mid new (omega arith) went
    (λ k below. c.in_ok-write_command.ensures.lanes reaches k below)
    (dark_now mid new c.in_err-word.ensures.lost (darkens mid new c.in_err-word.ensures.fails)))))

pub returns-in_err-write_command-2-clause-dark : goal.returns-in_err-write_command-2-clause-dark
returns-in_err-write_command-2-clause-dark g c =
    let set = c.args.set in
    let old = g.B.Bus.state c.args.bus.now in
    let mid = g.B.Bus.state c.write_command.new.bus in
    let last = g.B.Bus.state c.read_word.new.bus in
    let new = g.B.Bus.state c.write_command-2.new.bus in
    let went = c.in_ok-write_command.ensures.went in
    let kept = keeps_then old mid last went.kept c.in_ok-word.ensures.went.kept in
    on_err c.from_residual-in_err-write_command-2.result (Reaches g.W.BusWord.WIDTH c.args.g c.args.at old → DarkensCall c.args.at (cycles_of set ShowLocks) (cycles_of set LeaveLocks) 1 old new) (λ reaches. inr (
    dark_at_end (λ k. after_cycles c.args.at (cycles_of set ShowLocks)) (length (cycles_of set ShowLocks)) 1 1 c.args.at (cycles_of set LeaveLocks) old mid last new (omega arith) went
    (λ k below. c.in_ok-write_command.ensures.lanes reaches k below)
    (read_one mid last c.in_ok-word.ensures.went (λ k below. looked_by (lane mid k) _ _ (lane last k) (c.in_ok-word.ensures.lanes k below)))
    (record { lost = c.in_err-write_command-2.ensures.lost; each = c.in_err-write_command-2.ensures.dark (reaches_kept g.W.BusWord.WIDTH c.args.g c.args.at old last kept reaches) })))

pub returns-in_err-word-clause-cycles : goal.returns-in_err-word-clause-cycles
returns-in_err-word-clause-cycles g c =
    let old = g.B.Bus.state c.args.bus.now in
    let mid = g.B.Bus.state c.write_command.new.bus in
    let new = g.B.Bus.state c.read_word.new.bus in
    let n = cycle_count c.args.set ShowLocks in
    let k = cycle_count c.args.set ShowLocks + 1 + cycle_count c.args.set LeaveLocks in
    asks_lost k c.from_residual-in_err-word.result old new c.from_residual-in_err-word.ensures.0
    (lost_then n 1 k old mid new (omega arith) c.in_ok-write_command.ensures.went c.in_err-word.ensures.lost)

pub returns-in_err-write_command-2-clause-loses : goal.returns-in_err-write_command-2-clause-loses
returns-in_err-write_command-2-clause-loses g c =
    let old = g.B.Bus.state c.args.bus.now in
    let mid = g.B.Bus.state c.write_command.new.bus in
    let last = g.B.Bus.state c.read_word.new.bus in
    let new = g.B.Bus.state c.write_command-2.new.bus in
    let kept = keeps_then old mid last c.in_ok-write_command.ensures.went.kept c.in_ok-word.ensures.went.kept in
    let read : IsRead c.args.set g.W.BusWord.WIDTH c.args.g c.args.at c.lock_address.result (g.W.BusWord.bytes c.in_ok-word.word) old mid last = record {
      wired = c.read_word.ensures.wired;
      at = c.lock_address.ensures;
      first = c.in_ok-write_command.ensures.went.kept;
      second = c.in_ok-word.ensures.went.kept;
      shown = λ reaches k below. c.in_ok-write_command.ensures.lanes reaches k below;
      answered = c.in_ok-word.ensures.lanes;
    } in
    on_err c.from_residual-in_err-write_command-2.result (Reaches g.W.BusWord.WIDTH c.args.g c.args.at old → EachLane (LosesNone (OffersLocks c.args.set)) old new) (λ reaches k below.
    loses_leaving c.args.set c.args.at (lane old k) (lane last k) (lane new k)
    (last_shows c.args.set g.W.BusWord.WIDTH c.args.g c.args.at c.lock_address.result (g.W.BusWord.bytes c.in_ok-word.word) old mid last read reaches k below)
    (c.in_err-write_command-2.ensures.dark (reaches_kept g.W.BusWord.WIDTH c.args.g c.args.at old last kept reaches) k (lane_kept old last k kept below)))

pub returns-in_err-write_command-2-clause-cycles : goal.returns-in_err-write_command-2-clause-cycles
returns-in_err-write_command-2-clause-cycles g c =
    let old = g.B.Bus.state c.args.bus.now in
    let mid = g.B.Bus.state c.write_command.new.bus in
    let last = g.B.Bus.state c.read_word.new.bus in
    let new = g.B.Bus.state c.write_command-2.new.bus in
    let n = cycle_count c.args.set ShowLocks in
    let m = cycle_count c.args.set LeaveLocks in
    let k = cycle_count c.args.set ShowLocks + 1 + cycle_count c.args.set LeaveLocks in
    asks_lost k c.from_residual-in_err-write_command-2.result old new c.from_residual-in_err-write_command-2.ensures.0
    (lost_then n (1 + m) k old mid new (omega arith) c.in_ok-write_command.ensures.went
    (lost_then 1 m (1 + m) mid last new (omega arith) c.in_ok-word.ensures.went c.in_err-write_command-2.ensures.lost))

pub returns-clause-tells : goal.returns-clause-tells
returns-clause-tells g c =
    let old = g.B.Bus.state c.args.bus.now in
    let mid = g.B.Bus.state c.write_command.new.bus in
    let last = g.B.Bus.state c.read_word.new.bus in
    let new = g.B.Bus.state c.write_command-2.new.bus in
    let read : IsRead c.args.set g.W.BusWord.WIDTH c.args.g c.args.at c.lock_address.result (g.W.BusWord.bytes c.in_ok-word.word) old mid last = record {
      wired = c.read_word.ensures.wired;
      at = c.lock_address.ensures;
      first = c.in_ok-write_command.ensures.went.kept;
      second = c.in_ok-word.ensures.went.kept;
      shown = λ reaches k below. c.in_ok-write_command.ensures.lanes reaches k below;
      answered = c.in_ok-word.ensures.lanes;
    } in
    tells c.args.set g.W.BusWord.WIDTH c.args.g c.args.at c.lock_address.result (g.W.BusWord.bytes c.in_ok-word.word) old mid last new c.is_any_locked.result read
    (λ reaches k below. c.in_ok-write_command-2.ensures.lanes reaches k below)
    (c.is_any_locked.ensures.none, c.is_any_locked.ensures.some)

pub returns-clause-cycles : goal.returns-clause-cycles
returns-clause-cycles g c =
    let old = g.B.Bus.state c.args.bus.now in
    let mid = g.B.Bus.state c.write_command.new.bus in
    let last = g.B.Bus.state c.read_word.new.bus in
    let new = g.B.Bus.state c.write_command-2.new.bus in
    let n = cycle_count c.args.set ShowLocks in
    let m = cycle_count c.args.set LeaveLocks in
    let k = cycle_count c.args.set ShowLocks + 1 + cycle_count c.args.set LeaveLocks in
    went_then n n (1 + m) (1 + m) k k old mid new (omega arith) (omega arith) c.in_ok-write_command.ensures.went
    (went_then 1 1 m m (1 + m) (1 + m) mid last new (omega arith) (omega arith) c.in_ok-word.ensures.went c.in_ok-write_command-2.ensures.went)
