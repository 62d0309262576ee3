use Rattle.std.proofs.Common.{arith, inl, inr, ◌<◌, ℕ, subst, sym, refl, ◌∙◌}
use Rattle.nor_cell.specs.Bits.{unit_len}
use Rattle.nor_word.specs.Word.{lane_of}
use Rattle.nor_bus.specs.Bus.{lane}
use Rattle.nor_bus.proofs.Driving.{own_kept, lane_kept}
use Rattle.nor_poll.specs.Reads.{DarkensReading}
use Rattle.nor_poll.specs.Told.{seen_at}
use Rattle.nor_poll.specs.declared.watch.Seen.TheVariants.{Working}
use Rattle.nor_poll.proofs.Answering.{told_pair, told_over, over_works}
use Rattle.nor_poll.proofs.Reading.{read_then, dark_then, dark_within}
use Rattle.nor_poll.proofs.Telling.{lane_read}
use Rattle.nor_cell.proofs.Logic.{on_err}
use Rattle.nor_poll.proofs.toggle.toggle_poll.Goals as goal

pub returns-in_err-first-clause-dark : goal.returns-in_err-first-clause-dark
returns-in_err-first-clause-dark g c =
    let old = g.B.Bus.state c.args.bus.now in
    let new = g.B.Bus.state c.look.new.bus in
    on_err c.from_residual.result (DarkensReading 3 old new) (dark_within 1 3 old new (omega arith) c.in_err-first.ensures.dark)

pub returns-in_err-second-clause-dark : goal.returns-in_err-second-clause-dark
returns-in_err-second-clause-dark g c =
    let old = g.B.Bus.state c.args.bus.now in
    let mid = g.B.Bus.state c.look.new.bus in
    let new = g.B.Bus.state c.look-2.new.bus in
    on_err c.from_residual-in_err-second.result (DarkensReading 3 old new) (dark_then 1 1 1 3 old mid new (omega arith) c.in_ok-first.ensures.went c.in_err-second.ensures.dark)

pub returns-then-not-just_ended-clause-told : goal.returns-then-not-just_ended-clause-told
returns-then-not-just_ended-clause-told g c = λ own within k below.
    let width = g.W.BusWord.WIDTH in
    let at = c.args.at in
    let old = g.B.Bus.state c.args.bus.now in
    let mid = g.B.Bus.state c.look.new.bus in
    let new = g.B.Bus.state c.look-2.new.bus in
    let kept = c.in_ok-first.ensures.went.went.kept in
    let there = lane_kept old mid k kept below in
    told_pair at (lane old k) _ (lane mid k) _ (lane new k) _ (lane_read width c.args.g old mid at k (g.W.BusWord.bytes c.in_ok-first.first) own below (c.in_ok-first.ensures.answers within k below))
    (lane_read width c.args.g mid new at k (g.W.BusWord.bytes c.in_ok-second.second) (own_kept width c.args.g old mid kept own) there
    (c.in_ok-second.ensures.answers (subst (λ (n : ℕ). at < n) (sym c.look.ensures.units) within) k there))
    (c.watch_of.ensures.told k (subst (λ (n : ℕ). k < n) own.count below))

pub returns-then-not-just_ended-clause-went : goal.returns-then-not-just_ended-clause-went
returns-then-not-just_ended-clause-went g c =
    read_then 1 1 1 1 2 3 (g.B.Bus.state c.args.bus.now) (g.B.Bus.state c.look.new.bus) (g.B.Bus.state c.look-2.new.bus) (omega arith) (omega arith) c.in_ok-first.ensures.went c.in_ok-second.ensures.went

pub returns-then-not-just_ended-clause-short : goal.returns-then-not-just_ended-clause-short
returns-then-not-just_ended-clause-short g c = λ k works.
    read_then 1 1 1 1 2 2 (g.B.Bus.state c.args.bus.now) (g.B.Bus.state c.look.new.bus) (g.B.Bus.state c.look-2.new.bus) (omega arith) (omega arith) c.in_ok-first.ensures.went c.in_ok-second.ensures.went

pub returns-then-not-just_ended-clause-late : goal.returns-then-not-just_ended-clause-late
returns-then-not-just_ended-clause-late g c = λ own within shows. inl (
    read_then 1 1 1 1 2 2 (g.B.Bus.state c.args.bus.now) (g.B.Bus.state c.look.new.bus) (g.B.Bus.state c.look-2.new.bus) (omega arith) (omega arith) c.in_ok-first.ensures.went c.in_ok-second.ensures.went
    )

pub returns-in_err-third-clause-dark : goal.returns-in_err-third-clause-dark
returns-in_err-third-clause-dark g c =
    let old = g.B.Bus.state c.args.bus.now in
    let mid = g.B.Bus.state c.look.new.bus in
    let last = g.B.Bus.state c.look-2.new.bus in
    let new = g.B.Bus.state c.look-3.new.bus in
    let two = read_then 1 1 1 1 2 2 old mid last (omega arith) (omega arith) c.in_ok-first.ensures.went c.in_ok-second.ensures.went in
    on_err c.from_residual-in_err-third.result (DarkensReading 3 old new) (dark_then 2 2 1 3 old last new (omega arith) two c.in_err-third.ensures.dark)

pub returns-clause-told : goal.returns-clause-told
returns-clause-told g c = λ own within k below.
    let width = g.W.BusWord.WIDTH in
    let at = c.args.at in
    let old = g.B.Bus.state c.args.bus.now in
    let mid = g.B.Bus.state c.look.new.bus in
    let last = g.B.Bus.state c.look-2.new.bus in
    let new = g.B.Bus.state c.look-3.new.bus in
    let one = c.in_ok-first.ensures.went.went.kept in
    let two = c.in_ok-second.ensures.went.went.kept in
    let own1 = own_kept width c.args.g old mid one own in
    let own2 = own_kept width c.args.g mid last two own1 in
    let there = lane_kept old mid k one below in
    let here = lane_kept mid last k two there in
    let lane_number = subst (λ (n : ℕ). k < n) own.count below in
    told_over at (lane old k) _ (lane mid k) _ (lane last k) _ (lane new k) _
    (lane_read width c.args.g old mid at k (g.W.BusWord.bytes c.in_ok-first.first) own below (c.in_ok-first.ensures.answers within k below))
    (lane_read width c.args.g mid last at k (g.W.BusWord.bytes c.in_ok-second.second) own1 there (c.in_ok-second.ensures.answers (subst (λ (n : ℕ). at < n) (sym c.look.ensures.units) within) k there))
    (lane_read width c.args.g last new at k (g.W.BusWord.bytes c.in_ok-third.third) own2 here
    (c.in_ok-third.ensures.answers (subst (λ (n : ℕ). at < n) (sym (c.look-2.ensures.units ∙ c.look.ensures.units)) within) k here))
    (c.if-not-just_ended.ensures.over refl k lane_number) (c.watch_of-2.ensures.told k lane_number)

pub returns-clause-went : goal.returns-clause-went
returns-clause-went g c =
    let old = g.B.Bus.state c.args.bus.now in
    let mid = g.B.Bus.state c.look.new.bus in
    let last = g.B.Bus.state c.look-2.new.bus in
    let new = g.B.Bus.state c.look-3.new.bus in
    let two = read_then 1 1 1 1 2 2 old mid last (omega arith) (omega arith) c.in_ok-first.ensures.went c.in_ok-second.ensures.went in
    read_then 2 2 1 1 2 3 old last new (omega arith) (omega arith) two c.in_ok-third.ensures.went

pub returns-clause-short : goal.returns-clause-short
returns-clause-short g c = λ k works.
    let told = c.watch_of-2.ensures in
    let d = unit_len c.args.g.device in
    absurd (over_works k c.args.g.lanes (seen_at c.watch_of-2.result.lanes) (lane_of d (g.W.BusWord.bytes c.in_ok-second.second)) (lane_of d (g.W.BusWord.bytes c.in_ok-third.third)) told.told told.past works)

pub returns-clause-late : goal.returns-clause-late
returns-clause-late g c = λ own within shows.
    let width = g.W.BusWord.WIDTH in
    let at = c.args.at in
    let old = g.B.Bus.state c.args.bus.now in
    let mid = g.B.Bus.state c.look.new.bus in
    let last = g.B.Bus.state c.look-2.new.bus in
    let new = g.B.Bus.state c.look-3.new.bus in
    let two = read_then 1 1 1 1 2 2 old mid last (omega arith) (omega arith) c.in_ok-first.ensures.went c.in_ok-second.ensures.went in
    let some = c.if-not-just_ended.ensures.some refl in
    let k = some.0 in
    let kept = c.in_ok-first.ensures.went.went.kept in
    let below = subst (λ (n : ℕ). k < n) (sym own.count) some.1 in
    let there = lane_kept old mid k kept below in
    inr (
      read_then 2 2 1 1 3 3 old last new (omega arith) (omega arith) two c.in_ok-third.ensures.went,
      record {
        number = k;
        there = below;
        left = (told_pair at (lane old k) _ (lane mid k) _ (lane last k) Working
            (lane_read width c.args.g old mid at k (g.W.BusWord.bytes c.in_ok-first.first) own below (c.in_ok-first.ensures.answers within k below))
            (lane_read width c.args.g mid last at k (g.W.BusWord.bytes c.in_ok-second.second) (own_kept width c.args.g old mid kept own) there
            (c.in_ok-second.ensures.answers (subst (λ (n : ℕ). at < n) (sym c.look.ensures.units) within) k there))
            (sym some.2) (shows k below)).had refl;
      },
    )
