use Rattle.std.proofs.Common.{arith, ◌<◌, ℕ, subst, sym, refl}
use Rattle.nor_cell.specs.Bits.{unit_len}
use Rattle.nor_word.specs.Word.{lane_of}
use Rattle.nor_bus.specs.Bus.{lane, wide}
use Rattle.nor_bus.proofs.Driving.{own_kept, device_of, lane_kept}
use Rattle.nor_poll.specs.Reads.{DarkensReading}
use Rattle.nor_poll.proofs.Showing.{told_first, told_data, told_wide}
use Rattle.nor_poll.proofs.Reading.{read_then, dark_then, dark_within}
use Rattle.nor_poll.proofs.Telling.{lane_read, all_ready}
use Rattle.nor_cell.proofs.Logic.{on_err}
use Rattle.nor_poll.proofs.data.data_poll.Goals as goal

pub returns-then-all_shown-clause-told : goal.returns-then-all_shown-clause-told
returns-then-all_shown-clause-told g c = λ own within k below.
    let width = g.W.BusWord.WIDTH in
    let at = c.args.at in
    let old = g.B.Bus.state c.args.bus.now in
    let new = g.B.Bus.state c.look.new.bus in
    let word = g.W.BusWord.bytes c.args.datum in
    told_wide (unit_len c.args.g.device) (wide (lane old k)) at k word (lane old k) _ (lane new k) (device_of width c.args.g.device old k own.bank below)
    (told_first at (lane_of (unit_len c.args.g.device) word k) (lane old k) _ (lane new k) _
    (lane_read width c.args.g old new at k (g.W.BusWord.bytes c.in_ok-first.first) own below (c.in_ok-first.ensures.answers within k below))
    (c.if-all_shown.ensures refl k (subst (λ (n : ℕ). k < n) own.count below)) (all_ready k))

pub returns-in_err-first-clause-dark : goal.returns-in_err-first-clause-dark
returns-in_err-first-clause-dark g c =
    let old = g.B.Bus.state c.args.bus.now in
    let new = g.B.Bus.state c.look.new.bus in
    on_err c.from_residual.result (DarkensReading 2 old new) (dark_within 1 2 old new (omega arith) c.in_err-first.ensures.dark)

pub returns-in_err-second-clause-dark : goal.returns-in_err-second-clause-dark
returns-in_err-second-clause-dark g c =
    let old = g.B.Bus.state c.args.bus.now in
    let mid = g.B.Bus.state c.look.new.bus in
    let new = g.B.Bus.state c.look-2.new.bus in
    on_err c.from_residual-in_err-second.result (DarkensReading 2 old new) (dark_then 1 1 1 2 old mid new (omega arith) c.in_ok-first.ensures.went c.in_err-second.ensures.dark)

pub returns-clause-told : goal.returns-clause-told
returns-clause-told g c = λ own within k below.
    let width = g.W.BusWord.WIDTH in
    let at = c.args.at in
    let old = g.B.Bus.state c.args.bus.now in
    let mid = g.B.Bus.state c.look.new.bus in
    let new = g.B.Bus.state c.look-2.new.bus in
    let word = g.W.BusWord.bytes c.args.datum in
    let kept = c.in_ok-first.ensures.went.went.kept in
    let there = lane_kept old mid k kept below in
    told_wide (unit_len c.args.g.device) (wide (lane old k)) at k word (lane old k) _ (lane new k) (device_of width c.args.g.device old k own.bank below)
    (told_data at (lane_of (unit_len c.args.g.device) word k) (lane old k) _ (lane mid k) _ (lane new k) _
    (lane_read width c.args.g old mid at k (g.W.BusWord.bytes c.in_ok-first.first) own below (c.in_ok-first.ensures.answers within k below))
    (lane_read width c.args.g mid new at k (g.W.BusWord.bytes c.in_ok-second.second) (own_kept width c.args.g old mid kept own) there
    (c.in_ok-second.ensures.answers (subst (λ (n : ℕ). at < n) (sym c.look.ensures.units) within) k there))
    (c.watch_of.ensures.told k (subst (λ (n : ℕ). k < n) own.count below)))

pub returns-clause-went : goal.returns-clause-went
returns-clause-went g c =
    read_then 1 1 1 1 1 2 (g.B.Bus.state c.args.bus.now) (g.B.Bus.state c.look.new.bus) (g.B.Bus.state c.look-2.new.bus) (omega arith) (omega arith) c.in_ok-first.ensures.went c.in_ok-second.ensures.went

pub returns-clause-short : goal.returns-clause-short
returns-clause-short g c = λ k works.
    read_then 1 1 1 1 2 2 (g.B.Bus.state c.args.bus.now) (g.B.Bus.state c.look.new.bus) (g.B.Bus.state c.look-2.new.bus) (omega arith) (omega arith) c.in_ok-first.ensures.went c.in_ok-second.ensures.went
