use Rattle.std.proofs.Common.{ℕ, ◌<◌, arith, sym, subst, ap, ◌∙◌}
use Rattle.nor_cell.specs.Steps.{written}
use Rattle.nor_word.specs.Word.{lane_of}
use Rattle.nor_bus.specs.Bus.{lane}
use Rattle.nor_bus.specs.Driven.{spread, EachLane, Darkens}
use Rattle.nor_bus.proofs.Driving.{few_lanes, device_of, part_reached}
use Rattle.nor_poll.specs.Resume.{TakesResume, resume_code}
use Rattle.nor_poll.specs.Erase.{ChangesWithinErase}
use Rattle.nor_poll.specs.UnderErase.{EachUnder, state_at}
use Rattle.nor_poll.proofs.Reading.{darkens}
use Rattle.nor_poll.proofs.ResumeLane.{resumes, loses_resume}
use Rattle.nor_cell.proofs.Logic.{on_err}
use Rattle.nor_poll.proofs.resuming.resume.Goals as goal

pub returns-in_err-write_word-clause-loses : goal.returns-in_err-write_word-clause-loses
returns-in_err-write_word-clause-loses g c =
    let old = g.B.Bus.state c.args.bus.now in
    let new = g.B.Bus.state c.write_word.new.bus in
    on_err c.from_residual.result (EachUnder (TakesResume c.args.set) ChangesWithinErase g.W.BusWord.WIDTH c.args.g c.args.at c.args.lanes old new) (λ reaches target k below takes.
    loses_resume c.args.set target (state_at c.args.lanes k) (lane old k) (lane new k) takes (darkens old new c.in_err-write_word.ensures.fails k below))

pub returns-clause-resumes : goal.returns-clause-resumes
returns-clause-resumes g c = λ reaches target k below takes.
    let set = c.args.set in
    let width = g.W.BusWord.WIDTH in
    let old = g.B.Bus.state c.args.bus.now in
    let new = g.B.Bus.state c.write_word.new.bus in
    let word = g.W.BusWord.bytes c.resume_word.result in
    let few = few_lanes width c.args.g.device old.lanes reaches.own.bank in
    let state = state_at c.args.lanes k in
    let device = device_of width c.args.g.device old k reaches.own.bank below in
    let there = subst (λ (n : ℕ). k < n) reaches.own.count below in (
      resumes set c.args.at target state (lane old k) (lane new k) takes
          (part_reached c.args.at word old new reaches.there c.in_ok-write_word.ensures.lanes k below
          ∙ ap (λ (v : ℕ). written (lane old k) c.args.at v)
          (ap (λ (d : ℕ). lane_of d word k) device ∙ (c.resume_word.ensures k there ∙ ap (λ (d : ℕ). spread d (resume_code set state)) (sym device)))),
      c.resumed_lanes.ensures k (omega (arith, few, below)),
    )

pub returns-in_err-write_word-clause-dark : goal.returns-in_err-write_word-clause-dark
returns-in_err-write_word-clause-dark g c =
    let old = g.B.Bus.state c.args.bus.now in
    let new = g.B.Bus.state c.write_word.new.bus in
    on_err c.from_residual.result (EachLane Darkens old new) (darkens old new c.in_err-write_word.ensures.fails)
