use Rattle.nor_bank.specs.Looks.{CanPoll, LosesBy}
use Rattle.nor_cell.proofs.Logic.{on_err}
use Rattle.nor_bank.proofs.LookingBus.{polls_none, polls_on, polls_over, polls_lost, resets_lost}
use Rattle.nor_bank.proofs.looking.poll_once.Goals as goal

pub returns-then-not-has_lane-clause-looks : goal.returns-then-not-has_lane-clause-looks
returns-then-not-has_lane-clause-looks g c =
    polls_none c.args.set g.W.BusWord.WIDTH c.args.g c.args.at c.args.lanes (g.B.Bus.state c.args.bus.now) (c.has_lane.ensures.lacks c.if-not-has_lane.true)

pub returns-in_err-now-clause-loses : goal.returns-in_err-now-clause-loses
returns-in_err-now-clause-loses g c =
    let set = c.args.set in
    let w = g.W.BusWord.WIDTH in
    let old = g.B.Bus.state c.args.bus.now in
    let new = g.B.Bus.state c.erase_look.new.bus in
    on_err c.from_residual.result (LosesBy (λ target. CanPoll set target c.args.lanes old) 4 w c.args.g c.args.at old new)
    (polls_lost set w c.args.g c.args.at c.args.lanes old new c.in_err-now.ensures.loses c.in_err-now.ensures.lost)

pub returns-then-has_lane-clause-looks : goal.returns-then-has_lane-clause-looks
returns-then-has_lane-clause-looks g c =
    polls_on c.args.set g.W.BusWord.WIDTH c.args.g c.args.at c.args.lanes (g.B.Bus.state c.args.bus.now) (g.B.Bus.state c.erase_look.new.bus) c.in_ok-now.now
    c.in_ok-now.ensures.looks (c.has_lane-2.ensures.has c.if-has_lane.true)

pub returns-in_err-reset-clause-loses : goal.returns-in_err-reset-clause-loses
returns-in_err-reset-clause-loses g c =
    let set = c.args.set in
    let w = g.W.BusWord.WIDTH in
    let old = g.B.Bus.state c.args.bus.now in
    let new = g.B.Bus.state c.reset.new.bus in
    on_err c.from_residual-in_err-reset.result (LosesBy (λ target. CanPoll set target c.args.lanes old) 4 w c.args.g c.args.at old new)
    (resets_lost set w c.args.g c.args.at c.args.lanes old (g.B.Bus.state c.erase_look.new.bus) c.in_ok-now.now
    c.in_ok-now.ensures.looks new (c.has_lane-2.ensures.lacks c.if-has_lane.false) c.in_err-reset.ensures.loses c.in_err-reset.ensures.cycles)

pub returns-clause-looks : goal.returns-clause-looks
returns-clause-looks g c =
    polls_over c.args.set g.W.BusWord.WIDTH c.args.g c.args.at c.args.lanes (g.B.Bus.state c.args.bus.now) (g.B.Bus.state c.erase_look.new.bus) c.in_ok-now.now
    c.in_ok-now.ensures.looks (g.B.Bus.state c.reset.new.bus) (c.has_lane-2.ensures.lacks c.if-has_lane.false) c.in_ok-reset.ensures.lanes c.in_ok-reset.ensures.cycles
