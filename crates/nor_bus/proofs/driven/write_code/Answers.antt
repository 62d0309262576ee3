use Rattle.std.proofs.Common.{◌≡◌, ◌∙◌, ℕ, ap, subst, refl}
use Rattle.nor_cell.specs.Steps.{written}
use Rattle.nor_word.specs.Word.{lane_of}
use Rattle.nor_bus.specs.Bus.{lane, wide}
use Rattle.nor_bus.specs.Driven.{Lost, spread, reached}
use Rattle.nor_bus.proofs.Driving.{splat_there, went_one, lost_one}
use Rattle.nor_cell.proofs.Logic.{on_err}
use Rattle.nor_bus.proofs.driven.write_code.Goals as goal

pub returns-clause-lanes : goal.returns-clause-lanes
returns-clause-lanes g c = λ k there.
    let old = g.B.Bus.state c.args.bus.now in
    let new = g.B.Bus.state c.write.new.self in
    let wired = c.wrapped-there.ensures.wired in
    let code : lane_of (wide (lane old k)) (g.W.BusWord.bytes c.splat.result) k ≡ spread (wide (lane old k)) c.args.code =
    ap (λ word. lane_of (wide (lane old k)) word k) c.splat.ensures ∙ splat_there g.W.BusWord.WIDTH wired.device old k c.args.code wired.bank there in
    subst (λ (v : ℕ). lane new k ≡ written (lane old k) (reached c.args.at old) v) code
    (subst (λ (u : ℕ). lane new k ≡ written (lane old k) u (lane_of (wide (lane old k)) (g.W.BusWord.bytes c.splat.result) k)) c.wrapped-there.ensures.value (c.in_ok-write.ensures.writes.each k there))

pub returns-clause-went : goal.returns-clause-went
returns-clause-went g c = went_one _ _ c.in_ok-write.ensures.writes.passes c.in_ok-write.ensures.kept

pub returns-in_err-write-clause-lost : goal.returns-in_err-write-clause-lost
returns-in_err-write-clause-lost g c =
    let old = g.B.Bus.state c.args.bus.now in
    let new = g.B.Bus.state c.write.new.self in
    let it = c.in_err-write.ensures in
    on_err c.from_residual.result (Lost 1 old new) (lost_one old new (it.off.0 refl) it.fails it.kept)
