use Rattle.std.proofs.Common.{inl, inr, subst, arith, length, map, ◌+◌, ◌≤◌, ap, sym, ◌∙◌, ℕ}
use Rattle.nor_cell.specs.Chip.{ChipState}
use Rattle.nor_bus.specs.Bus.{lane}
use Rattle.nor_bus.specs.Driven.{Darkens, Lost}
use Rattle.nor_bus.proofs.Driving.{went_then, lost_then, lane_kept, units_kept, keeps_then}
use Rattle.nor_bus.proofs.Sizes.{bus_units}
use Rattle.nor_poll.specs.Codes.{after_cycles, cycle_count, cycles_of, DarkensIn}
use Rattle.nor_poll.specs.Buffer.{ReachesAll, DarkensLoading, DarkensInWords, load_begin}
use Rattle.nor_poll.specs.declared.codes.Command.TheVariants.{LoadBuffer, ConfirmLoad}
use Rattle.nor_poll.proofs.Reading.{darkens}
use Rattle.nor_poll.proofs.WordSending.{first_reached}
use Rattle.nor_poll.proofs.LoadSteps.{IsCounted, IsFilled, count_cycles, went_counted, went_filled, reaches_counted, reaches_filled, lane_counted, lane_filled, opened_lanes, filled_lanes}
use Rattle.nor_cell.proofs.Logic.{on_err}
use Rattle.nor_poll.proofs.buffer.begin_load.Goals as goal

pub returns-in_err-write_command-clause-dark : goal.returns-in_err-write_command-clause-dark
returns-in_err-write_command-clause-dark g c =
    let set = c.args.set in
    let width = g.W.BusWord.WIDTH in
    let words = map g.W.BusWord.bytes c.args.new.now in
    let n = length c.args.new.now in
    let old = g.B.Bus.state c.args.bus.now in
    let new = g.B.Bus.state c.write_command.new.bus in
    on_err c.from_residual.result (ReachesAll width c.args.g c.args.at n old → DarkensLoading set c.args.at n words old new) (λ reaches.
    inl (c.in_err-write_command.ensures.dark (first_reached width c.args.g c.args.at n old reaches)))

pub returns-in_err-write_code-clause-dark : goal.returns-in_err-write_code-clause-dark
returns-in_err-write_code-clause-dark g c =
    let set = c.args.set in
    let width = g.W.BusWord.WIDTH in
    let words = map g.W.BusWord.bytes c.args.new.now in
    let n = length c.args.new.now in
    let old = g.B.Bus.state c.args.bus.now in
    let opened = g.B.Bus.state c.write_command.new.bus in
    let new = g.B.Bus.state c.write_code.new.bus in
    on_err c.from_residual-in_err-write_code.result (ReachesAll width c.args.g c.args.at n old → DarkensLoading set c.args.at n words old new) (λ reaches. inr (inl (λ k below.
    subst (λ (x : ChipState). Darkens x (lane new k)) (c.in_ok-write_command.ensures.lanes (first_reached width c.args.g c.args.at n old reaches) k below)
    (darkens opened new c.in_err-write_code.ensures.fails k (lane_kept old opened k c.in_ok-write_command.ensures.went.kept below)))))

pub returns-in_err-write_words-clause-dark : goal.returns-in_err-write_words-clause-dark
returns-in_err-write_words-clause-dark g c =
    let set = c.args.set in
    let width = g.W.BusWord.WIDTH in
    let words = map g.W.BusWord.bytes c.args.new.now in
    let n = length c.args.new.now in
    let old = g.B.Bus.state c.args.bus.now in
    let opened = g.B.Bus.state c.write_command.new.bus in
    let counted = g.B.Bus.state c.write_code.new.bus in
    let new = g.B.Bus.state c.write_words.new.bus in
    let so : IsCounted set width c.args.g c.args.at n old opened counted = record {
      first = c.in_ok-write_command.ensures.went;
      codes = c.in_ok-write_command.ensures.lanes;
      second = c.in_ok-write_code.ensures.went;
      count = c.in_ok-write_code.ensures.lanes;
    } in
    on_err c.from_residual-in_err-write_words.result (ReachesAll width c.args.g c.args.at n old → DarkensLoading set c.args.at n words old new) (λ reaches. inr (inr (inl (λ k below.
    subst (λ (x : ChipState). DarkensInWords k c.args.at words x (lane new k)) (opened_lanes set width c.args.g c.args.at n old opened counted so reaches k below)
    (c.in_err-write_words.ensures.dark (reaches_counted set width c.args.g c.args.at n old opened counted so reaches) k (lane_counted set width c.args.g c.args.at n k old opened counted so below))))))

pub returns-in_err-write_command-2-clause-dark : goal.returns-in_err-write_command-2-clause-dark
returns-in_err-write_command-2-clause-dark g c =
    let set = c.args.set in
    let width = g.W.BusWord.WIDTH in
    let words = map g.W.BusWord.bytes c.args.new.now in
    let n = length c.args.new.now in
    let old = g.B.Bus.state c.args.bus.now in
    let opened = g.B.Bus.state c.write_command.new.bus in
    let counted = g.B.Bus.state c.write_code.new.bus in
    let filled = g.B.Bus.state c.write_words.new.bus in
    let new = g.B.Bus.state c.write_command-2.new.bus in
    let so : IsFilled set width c.args.g c.args.at n words old opened counted filled = record {
      counts = record {
        first = c.in_ok-write_command.ensures.went;
        codes = c.in_ok-write_command.ensures.lanes;
        second = c.in_ok-write_code.ensures.went;
        count = c.in_ok-write_code.ensures.lanes;
      };
      third = c.in_ok-write_words.ensures.went;
      sent = c.in_ok-write_words.ensures.lanes;
    } in
    on_err c.from_residual-in_err-write_command-2.result (ReachesAll width c.args.g c.args.at n old → DarkensLoading set c.args.at n words old new) (λ reaches. inr (inr (inr (λ k below.
    subst (λ (x : ChipState). DarkensIn c.args.at (cycles_of set ConfirmLoad) x (lane new k)) (filled_lanes set width c.args.g c.args.at n words old opened counted filled so reaches k below)
    (c.in_err-write_command-2.ensures.dark (reaches_filled set width c.args.g c.args.at n words old opened counted filled so reaches) k (lane_filled set width c.args.g c.args.at n k words old opened counted filled so below))))))

pub returns-clause-sent : goal.returns-clause-sent
returns-clause-sent g c =
    let set = c.args.set in
    let width = g.W.BusWord.WIDTH in
    let words = map g.W.BusWord.bytes c.args.new.now in
    let n = length c.args.new.now in
    let old = g.B.Bus.state c.args.bus.now in
    let opened = g.B.Bus.state c.write_command.new.bus in
    let counted = g.B.Bus.state c.write_code.new.bus in
    let filled = g.B.Bus.state c.write_words.new.bus in
    let so : IsFilled set width c.args.g c.args.at n words old opened counted filled = record {
      counts = record {
        first = c.in_ok-write_command.ensures.went;
        codes = c.in_ok-write_command.ensures.lanes;
        second = c.in_ok-write_code.ensures.went;
        count = c.in_ok-write_code.ensures.lanes;
      };
      third = c.in_ok-write_words.ensures.went;
      sent = c.in_ok-write_words.ensures.lanes;
    } in
    λ reaches k below.
    c.in_ok-write_command-2.ensures.lanes (reaches_filled set width c.args.g c.args.at n words old opened counted filled so reaches) k (lane_filled set width c.args.g c.args.at n k words old opened counted filled so below)
    ∙ ap (after_cycles c.args.at (cycles_of set ConfirmLoad)) (filled_lanes set width c.args.g c.args.at n words old opened counted filled so reaches k below)

pub returns-in_err-write_code-clause-lost : goal.returns-in_err-write_code-clause-lost
returns-in_err-write_code-clause-lost g c =
    let set = c.args.set in
    let n = length c.args.new.now in
    let old = g.B.Bus.state c.args.bus.now in
    let opened = g.B.Bus.state c.write_command.new.bus in
    let new = g.B.Bus.state c.write_code.new.bus in
    on_err c.from_residual-in_err-write_code.result (Lost (load_begin set n) old new)
    (lost_then (cycle_count set LoadBuffer) 1 (load_begin set n) old opened new (omega arith) c.in_ok-write_command.ensures.went c.in_err-write_code.ensures.lost)

pub returns-in_err-write_words-clause-lost : goal.returns-in_err-write_words-clause-lost
returns-in_err-write_words-clause-lost g c =
    let set = c.args.set in
    let width = g.W.BusWord.WIDTH in
    let words = map g.W.BusWord.bytes c.args.new.now in
    let n = length c.args.new.now in
    let old = g.B.Bus.state c.args.bus.now in
    let opened = g.B.Bus.state c.write_command.new.bus in
    let counted = g.B.Bus.state c.write_code.new.bus in
    let new = g.B.Bus.state c.write_words.new.bus in
    let so : IsCounted set width c.args.g c.args.at n old opened counted = record {
      first = c.in_ok-write_command.ensures.went;
      codes = c.in_ok-write_command.ensures.lanes;
      second = c.in_ok-write_code.ensures.went;
      count = c.in_ok-write_code.ensures.lanes;
    } in
    on_err c.from_residual-in_err-write_words.result (Lost (load_begin set n) old new)
    (lost_then (count_cycles set) n (load_begin set n) old counted new (omega arith) (went_counted set width c.args.g c.args.at n old opened counted so) c.in_err-write_words.ensures.lost)

pub returns-in_err-write_command-2-clause-lost : goal.returns-in_err-write_command-2-clause-lost
returns-in_err-write_command-2-clause-lost g c =
    let set = c.args.set in
    let width = g.W.BusWord.WIDTH in
    let words = map g.W.BusWord.bytes c.args.new.now in
    let n = length c.args.new.now in
    let old = g.B.Bus.state c.args.bus.now in
    let opened = g.B.Bus.state c.write_command.new.bus in
    let counted = g.B.Bus.state c.write_code.new.bus in
    let filled = g.B.Bus.state c.write_words.new.bus in
    let new = g.B.Bus.state c.write_command-2.new.bus in
    let so : IsFilled set width c.args.g c.args.at n words old opened counted filled = record {
      counts = record {
        first = c.in_ok-write_command.ensures.went;
        codes = c.in_ok-write_command.ensures.lanes;
        second = c.in_ok-write_code.ensures.went;
        count = c.in_ok-write_code.ensures.lanes;
      };
      third = c.in_ok-write_words.ensures.went;
      sent = c.in_ok-write_words.ensures.lanes;
    } in
    on_err c.from_residual-in_err-write_command-2.result (Lost (load_begin set n) old new)
    (lost_then (count_cycles set + n) (cycle_count set ConfirmLoad) (load_begin set n) old filled new (omega arith) (went_filled set width c.args.g c.args.at n words old opened counted filled so) c.in_err-write_command-2.ensures.lost)

pub returns-clause-went : goal.returns-clause-went
returns-clause-went g c =
    let set = c.args.set in
    let width = g.W.BusWord.WIDTH in
    let words = map g.W.BusWord.bytes c.args.new.now in
    let n = length c.args.new.now in
    let old = g.B.Bus.state c.args.bus.now in
    let opened = g.B.Bus.state c.write_command.new.bus in
    let counted = g.B.Bus.state c.write_code.new.bus in
    let filled = g.B.Bus.state c.write_words.new.bus in
    let new = g.B.Bus.state c.write_command-2.new.bus in
    let i = count_cycles set + n in
    let j = cycle_count set ConfirmLoad in
    let m = load_begin set n in
    let so : IsFilled set width c.args.g c.args.at n words old opened counted filled = record {
      counts = record {
        first = c.in_ok-write_command.ensures.went;
        codes = c.in_ok-write_command.ensures.lanes;
        second = c.in_ok-write_code.ensures.went;
        count = c.in_ok-write_code.ensures.lanes;
      };
      third = c.in_ok-write_words.ensures.went;
      sent = c.in_ok-write_words.ensures.lanes;
    } in
    went_then i i j j m m old filled new (omega arith) (omega arith) (went_filled set width c.args.g c.args.at n words old opened counted filled so) c.in_ok-write_command-2.ensures.went

pub returns-clause-small : goal.returns-clause-small
returns-clause-small g c =
    let opened = g.B.Bus.state c.write_command.new.bus in
    let counted = g.B.Bus.state c.write_code.new.bus in
    let filled = g.B.Bus.state c.write_words.new.bus in
    let new = g.B.Bus.state c.write_command-2.new.bus in
    let few = (bus_units g.W.BusWord.WIDTH opened c.write_code.ensures.wired).1 in
    let kept = keeps_then opened counted new c.in_ok-write_code.ensures.went.kept (keeps_then counted filled new c.in_ok-write_words.ensures.went.kept c.in_ok-write_command-2.ensures.went.kept) in
    subst (λ (n : ℕ). n ≤ 134217728) (sym (units_kept opened new kept)) few
