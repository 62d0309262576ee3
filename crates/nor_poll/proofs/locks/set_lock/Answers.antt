use Rattle.std.proofs.Common.{List, subst, arith, ◌+◌, ◌++◌, ap, ◌∙◌, inl, inr}
use Rattle.nor_bus.specs.Bus.{lane}
use Rattle.nor_bus.specs.Driven.{Reaches, EachLane}
use Rattle.nor_cell.specs.Chip.{ChipState}
use Rattle.nor_poll.proofs.Leading.{dark_first, dark_behind}
use Rattle.nor_bus.proofs.Driving.{went_then, lost_then, reaches_kept, lane_kept}
use Rattle.nor_poll.specs.Codes.{after_cycles, DarkensIn, cycle_count, cycles_of}
use Rattle.nor_poll.specs.Lock.{LosesLock, lock_command}
use Rattle.nor_poll.specs.declared.codes.Command.TheVariants.{LeaveLocks}
use Rattle.nor_poll.specs.declared.codes.Cycle.{Cycle}
use Rattle.nor_poll.proofs.Reading.{asks_lost}
use Rattle.nor_poll.proofs.Locking.{sets, loses_old, loses_new}
use Rattle.nor_cell.proofs.Logic.{on_err}
use Rattle.nor_poll.proofs.locks.set_lock.Goals as goal

pub returns-in_err-write_command-clause-loses : goal.returns-in_err-write_command-clause-loses
returns-in_err-write_command-clause-loses g c =
    let old = g.B.Bus.state c.args.bus.now in
    let new = g.B.Bus.state c.write_command.new.bus in
    let first = ap (cycles_of c.args.set) c.lock_command.ensures in
    on_err c.from_residual.result (Reaches g.W.BusWord.WIDTH c.args.g c.args.at old → LosesLock c.args.set c.args.at c.args.locked old new) (λ reaches. inl (λ k below.
    loses_old c.args.set c.args.locked c.args.at (lane old k) (lane new k)
    (subst (λ (l : List Cycle). DarkensIn c.args.at l (lane old k) (lane new k)) first (c.in_err-write_command.ensures.dark reaches k below))))

pub returns-in_err-write_command-2-clause-loses : goal.returns-in_err-write_command-2-clause-loses
returns-in_err-write_command-2-clause-loses g c =
    let old = g.B.Bus.state c.args.bus.now in
    let mid = g.B.Bus.state c.write_command.new.bus in
    let new = g.B.Bus.state c.write_command-2.new.bus in
    let kept = c.in_ok-write_command.ensures.went.kept in
    let first = ap (cycles_of c.args.set) c.lock_command.ensures in
    on_err c.from_residual-in_err-write_command-2.result (Reaches g.W.BusWord.WIDTH c.args.g c.args.at old → LosesLock c.args.set c.args.at c.args.locked old new) (λ reaches. inr (λ k below.
    loses_new c.args.set c.args.locked c.args.at (lane old k) (lane mid k) (lane new k)
    (c.in_ok-write_command.ensures.lanes reaches k below ∙ ap (λ (l : List Cycle). after_cycles c.args.at l (lane old k)) first)
    (c.in_err-write_command-2.ensures.dark (reaches_kept g.W.BusWord.WIDTH c.args.g c.args.at old mid kept reaches) k (lane_kept old mid k kept below))))

pub returns-in_err-write_command-clause-dark : goal.returns-in_err-write_command-clause-dark
returns-in_err-write_command-clause-dark g c =
    let old = g.B.Bus.state c.args.bus.now in
    let new = g.B.Bus.state c.write_command.new.bus in
    let codes = cycles_of c.args.set (lock_command c.args.locked) in
    let last = cycles_of c.args.set LeaveLocks in
    let first = ap (cycles_of c.args.set) c.lock_command.ensures in
    on_err c.from_residual.result (Reaches g.W.BusWord.WIDTH c.args.g c.args.at old → EachLane (DarkensIn c.args.at (codes ++ last)) old new) (λ reaches k below.
    dark_first c.args.at codes last (lane old k) (lane new k)
    (subst (λ (l : List Cycle). DarkensIn c.args.at l (lane old k) (lane new k)) first (c.in_err-write_command.ensures.dark reaches k below)))

pub returns-in_err-write_command-2-clause-dark : goal.returns-in_err-write_command-2-clause-dark
returns-in_err-write_command-2-clause-dark g c =
    let old = g.B.Bus.state c.args.bus.now in
    let mid = g.B.Bus.state c.write_command.new.bus in
    let new = g.B.Bus.state c.write_command-2.new.bus in
    let kept = c.in_ok-write_command.ensures.went.kept in
    let codes = cycles_of c.args.set (lock_command c.args.locked) in
    let last = cycles_of c.args.set LeaveLocks in
    let first = ap (cycles_of c.args.set) c.lock_command.ensures in
    on_err c.from_residual-in_err-write_command-2.result (Reaches g.W.BusWord.WIDTH c.args.g c.args.at old → EachLane (DarkensIn c.args.at (codes ++ last)) old new) (λ reaches k below.
    dark_behind c.args.at codes last (lane old k) (lane new k)
    (subst (λ (x : ChipState). DarkensIn c.args.at last x (lane new k))
    (c.in_ok-write_command.ensures.lanes reaches k below ∙ ap (λ (l : List Cycle). after_cycles c.args.at l (lane old k)) first)
    (c.in_err-write_command-2.ensures.dark (reaches_kept g.W.BusWord.WIDTH c.args.g c.args.at old mid kept reaches) k (lane_kept old mid k kept below))))

pub returns-in_err-write_command-2-clause-cycles : goal.returns-in_err-write_command-2-clause-cycles
returns-in_err-write_command-2-clause-cycles g c =
    let old = g.B.Bus.state c.args.bus.now in
    let mid = g.B.Bus.state c.write_command.new.bus in
    let new = g.B.Bus.state c.write_command-2.new.bus in
    let n = cycle_count c.args.set c.lock_command.result in
    let m = cycle_count c.args.set LeaveLocks in
    let first = ap (cycle_count c.args.set) c.lock_command.ensures in
    let k = cycle_count c.args.set (lock_command c.args.locked) + cycle_count c.args.set LeaveLocks in
    asks_lost k c.from_residual-in_err-write_command-2.result old new c.from_residual-in_err-write_command-2.ensures.0
    (lost_then n m k old mid new (omega (arith, first)) c.in_ok-write_command.ensures.went c.in_err-write_command-2.ensures.lost)

pub returns-clause-locks : goal.returns-clause-locks
returns-clause-locks g c = λ reaches k below.
    let old = g.B.Bus.state c.args.bus.now in
    let mid = g.B.Bus.state c.write_command.new.bus in
    let new = g.B.Bus.state c.write_command-2.new.bus in
    let kept = c.in_ok-write_command.ensures.went.kept in
    let first = ap (cycles_of c.args.set) c.lock_command.ensures in
    sets c.args.set c.args.locked c.args.at (lane old k) (lane mid k) (lane new k)
    (c.in_ok-write_command.ensures.lanes reaches k below ∙ ap (λ (l : List Cycle). after_cycles c.args.at l (lane old k)) first)
    (c.in_ok-write_command-2.ensures.lanes (reaches_kept g.W.BusWord.WIDTH c.args.g c.args.at old mid kept reaches) k (lane_kept old mid k kept below))

pub returns-clause-cycles : goal.returns-clause-cycles
returns-clause-cycles g c =
    let old = g.B.Bus.state c.args.bus.now in
    let mid = g.B.Bus.state c.write_command.new.bus in
    let new = g.B.Bus.state c.write_command-2.new.bus in
    let n = cycle_count c.args.set c.lock_command.result in
    let m = cycle_count c.args.set LeaveLocks in
    let first = ap (cycle_count c.args.set) c.lock_command.ensures in
    let k = cycle_count c.args.set (lock_command c.args.locked) + cycle_count c.args.set LeaveLocks in
    went_then n n m m k k old mid new (omega (arith, first)) (omega (arith, first)) c.in_ok-write_command.ensures.went c.in_ok-write_command-2.ensures.went
