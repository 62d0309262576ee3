use Rattle.std.proofs.Common.{subst, arith, ◌+◌, ap, ◌∙◌, inl, inr}
use Rattle.nor_bus.specs.Bus.{lane}
use Rattle.nor_bus.specs.Driven.{Reaches, Lost, Darkens}
use Rattle.nor_bus.proofs.Driving.{went_then, lost_then, reaches_kept, lane_kept, part_reached}
use Rattle.nor_poll.specs.Codes.{cycle_count}
use Rattle.nor_poll.specs.Word.{DarkensSending, word_to, word_begin}
use Rattle.nor_cell.specs.Chip.{ChipState}
use Rattle.nor_poll.specs.declared.codes.Command.TheVariants.{ProgramWord}
use Rattle.nor_poll.proofs.Reading.{darkens}
use Rattle.nor_cell.proofs.Logic.{on_err}
use Rattle.nor_poll.proofs.word.begin_word.Goals as goal

pub returns-in_err-write_word-clause-lost : goal.returns-in_err-write_word-clause-lost
returns-in_err-write_word-clause-lost g c =
    let old = g.B.Bus.state c.args.bus.now in
    let mid = g.B.Bus.state c.write_command.new.bus in
    let new = g.B.Bus.state c.write_word.new.bus in
    let n = cycle_count c.args.set ProgramWord in
    on_err c.from_residual-in_err-write_word.result (Lost (word_begin c.args.set) old new)
    (lost_then n 1 (n + 1) old mid new (omega arith) c.in_ok-write_command.ensures.went c.in_err-write_word.ensures.lost)

pub returns-clause-sent : goal.returns-clause-sent
returns-clause-sent g c = λ reaches k below.
    let word = g.W.BusWord.bytes c.args.new in
    let old = g.B.Bus.state c.args.bus.now in
    let mid = g.B.Bus.state c.write_command.new.bus in
    let new = g.B.Bus.state c.write_word.new.bus in
    let kept = c.in_ok-write_command.ensures.went.kept in
    part_reached c.args.at word mid new (reaches_kept g.W.BusWord.WIDTH c.args.g c.args.at old mid kept reaches).there c.in_ok-write_word.ensures.lanes k (lane_kept old mid k kept below)
    ∙ ap (word_to c.args.at word k) (c.in_ok-write_command.ensures.lanes reaches k below)

pub returns-in_err-write_command-clause-dark : goal.returns-in_err-write_command-clause-dark
returns-in_err-write_command-clause-dark g c =
    let old = g.B.Bus.state c.args.bus.now in
    let new = g.B.Bus.state c.write_command.new.bus in
    on_err c.from_residual.result (Reaches g.W.BusWord.WIDTH c.args.g c.args.at old → DarkensSending c.args.set c.args.at old new) (λ reaches. inl (λ k below.
    (c.in_err-write_command.ensures.dark reaches k below)))

pub returns-in_err-write_word-clause-dark : goal.returns-in_err-write_word-clause-dark
returns-in_err-write_word-clause-dark g c =
    let old = g.B.Bus.state c.args.bus.now in
    let mid = g.B.Bus.state c.write_command.new.bus in
    let new = g.B.Bus.state c.write_word.new.bus in
    on_err c.from_residual-in_err-write_word.result (Reaches g.W.BusWord.WIDTH c.args.g c.args.at old → DarkensSending c.args.set c.args.at old new) (λ reaches. inr (λ k below.
    subst (λ (x : ChipState). Darkens x (lane new k))
    (c.in_ok-write_command.ensures.lanes reaches k below)
    (darkens mid new c.in_err-write_word.ensures.fails k (lane_kept old mid k c.in_ok-write_command.ensures.went.kept below))))

pub returns-clause-went : goal.returns-clause-went
returns-clause-went g c =
    let old = g.B.Bus.state c.args.bus.now in
    let mid = g.B.Bus.state c.write_command.new.bus in
    let new = g.B.Bus.state c.write_word.new.bus in
    let n = cycle_count c.args.set ProgramWord in
    (went_then n n 1 1 (n + 1) (n + 1) old mid new (omega arith) (omega arith) c.in_ok-write_command.ensures.went c.in_ok-write_word.ensures.went)
