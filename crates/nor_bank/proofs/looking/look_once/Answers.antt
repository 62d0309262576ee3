use Rattle.std.proofs.lemmas.Result.{IfOk-weaker, on_err_weaker}
use Rattle.nor_poll.specs.declared.lanes.Lanes.{Lanes}
use Rattle.nor_bank.specs.Looks.{CanLook, CanPoll, LooksBy, LosesBy}
use Rattle.nor_cell.proofs.Logic.{on_err}
use Rattle.nor_bank.proofs.LookingBus.{looks_awake, loses_awake, resume_lost, looks_woken, loses_woken}
use Rattle.nor_bank.proofs.looking.look_once.Goals as goal

pub returns-then-not-has_lane-clause-looks : goal.returns-then-not-has_lane-clause-looks
returns-then-not-has_lane-clause-looks g c =
    let set = c.args.set in
    let w = g.W.BusWord.WIDTH in
    let lanes = c.args.lanes in
    let old = g.B.Bus.state c.args.bus.now in
    let new = g.B.Bus.state c.poll_once.new.bus in
    IfOk-weaker c.poll_once.result (λ (now : Lanes). LooksBy (λ target. CanPoll set target lanes old) 4 set w c.args.g c.args.at lanes old new now)
    (λ (now : Lanes). LooksBy (λ target. CanLook set target lanes old) 5 set w c.args.g c.args.at lanes old new now)
    (λ now it. looks_awake set w c.args.g c.args.at lanes old new now (c.has_lane.ensures.lacks c.if-not-has_lane.true) it) c.poll_once.ensures.looks

pub returns-then-not-has_lane-clause-loses : goal.returns-then-not-has_lane-clause-loses
returns-then-not-has_lane-clause-loses g c =
    let set = c.args.set in
    let w = g.W.BusWord.WIDTH in
    let lanes = c.args.lanes in
    let old = g.B.Bus.state c.args.bus.now in
    let new = g.B.Bus.state c.poll_once.new.bus in
    on_err_weaker c.poll_once.result
    (λ it. loses_awake set w c.args.g c.args.at lanes old new (c.has_lane.ensures.lacks c.if-not-has_lane.true) it) c.poll_once.ensures.loses

pub returns-in_err-lanes-clause-loses : goal.returns-in_err-lanes-clause-loses
returns-in_err-lanes-clause-loses g c =
    let set = c.args.set in
    let w = g.W.BusWord.WIDTH in
    let lanes = c.args.lanes in
    let old = g.B.Bus.state c.args.bus.now in
    let new = g.B.Bus.state c.resume.new.bus in
    on_err c.from_residual.result (LosesBy (λ target. CanLook set target lanes old) 5 w c.args.g c.args.at old new)
    (resume_lost set w c.args.g c.args.at lanes old (c.has_lane.ensures.has c.if-not-has_lane.false) new c.in_err-lanes.ensures.loses c.in_err-lanes.ensures.cycles)

pub returns-clause-looks : goal.returns-clause-looks
returns-clause-looks g c =
    let set = c.args.set in
    let w = g.W.BusWord.WIDTH in
    let lanes = c.args.lanes in
    let woken = c.in_ok-lanes.lanes in
    let old = g.B.Bus.state c.args.bus.now in
    let mid = g.B.Bus.state c.resume.new.bus in
    let new = g.B.Bus.state c.poll_once-2.new.bus in
    IfOk-weaker c.poll_once-2.result (λ (now : Lanes). LooksBy (λ target. CanPoll set target woken mid) 4 set w c.args.g c.args.at woken mid new now)
    (λ (now : Lanes). LooksBy (λ target. CanLook set target lanes old) 5 set w c.args.g c.args.at lanes old new now)
    (λ now it. looks_woken set w c.args.g c.args.at lanes old (c.has_lane.ensures.has c.if-not-has_lane.false) mid woken
    c.in_ok-lanes.ensures.resumes c.in_ok-lanes.ensures.cycles new now it) c.poll_once-2.ensures.looks

pub returns-clause-loses : goal.returns-clause-loses
returns-clause-loses g c =
    let set = c.args.set in
    let w = g.W.BusWord.WIDTH in
    let lanes = c.args.lanes in
    let woken = c.in_ok-lanes.lanes in
    let old = g.B.Bus.state c.args.bus.now in
    let mid = g.B.Bus.state c.resume.new.bus in
    let new = g.B.Bus.state c.poll_once-2.new.bus in
    on_err_weaker c.poll_once-2.result
    (λ it. loses_woken set w c.args.g c.args.at lanes old (c.has_lane.ensures.has c.if-not-has_lane.false) mid woken
    c.in_ok-lanes.ensures.resumes c.in_ok-lanes.ensures.cycles new it) c.poll_once-2.ensures.loses
