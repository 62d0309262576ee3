use Rattle.std.proofs.lemmas.Result.{IfOk-weaker, on_ok_weaker}
use Rattle.nor_bus.specs.Bus.{lane}
use Rattle.nor_poll.specs.Told.{seen_at}
use Rattle.nor_poll.proofs.Asking.{by_status, by_erase, by_toggle, by_data, as_toggle, by_toggle_in_time}
use Rattle.nor_poll.proofs.polling.poll.Goals as goal

pub returns-in-Status-clause-told : goal.returns-in-Status-clause-told
returns-in-Status-clause-told g c =
    IfOk-weaker c.status_poll.result _ _
    (λ watch told own within k below answers.
    by_status g.W.BusWord.bytes c.args.how c.args.at k (lane (g.B.Bus.state c.args.bus.now) k) (lane (g.B.Bus.state c.status_poll.new.bus) k) (seen_at watch.lanes k) c.in-Status.is (told own k below) answers)
    c.status_poll.ensures.told

pub returns-in-EraseStatus-clause-told : goal.returns-in-EraseStatus-clause-told
returns-in-EraseStatus-clause-told g c =
    IfOk-weaker c.erase_poll.result _ _
    (λ watch told own within k below answers.
    by_erase g.W.BusWord.bytes c.args.how c.args.at k (lane (g.B.Bus.state c.args.bus.now) k) (lane (g.B.Bus.state c.erase_poll.new.bus) k) (seen_at watch.lanes k) c.in-EraseStatus.is (told own k below) answers)
    c.erase_poll.ensures.told

pub returns-in-Toggle-clause-told : goal.returns-in-Toggle-clause-told
returns-in-Toggle-clause-told g c =
    IfOk-weaker c.toggle_poll.result _ _
    (λ watch told own within k below answers.
    by_toggle g.W.BusWord.bytes c.args.how c.args.at k (lane (g.B.Bus.state c.args.bus.now) k) (lane (g.B.Bus.state c.toggle_poll.new.bus) k) (seen_at watch.lanes k) c.in-Toggle.is (told own within k below) answers)
    c.toggle_poll.ensures.told

pub returns-in-Toggle-clause-late : goal.returns-in-Toggle-clause-late
returns-in-Toggle-clause-late g c =
    on_ok_weaker c.toggle_poll.result
    (λ late own within all.
    by_toggle_in_time c.args.how (g.B.Bus.state c.args.bus.now) (g.B.Bus.state c.toggle_poll.new.bus) c.in-Toggle.is
    (late own within (λ k below. as_toggle g.W.BusWord.bytes c.args.how c.args.at k (lane (g.B.Bus.state c.args.bus.now) k) c.in-Toggle.is (all k below))))
    c.toggle_poll.ensures.late

pub returns-in-Data-clause-told : goal.returns-in-Data-clause-told
returns-in-Data-clause-told g c =
    IfOk-weaker c.data_poll.result _ _
    (λ watch told own within k below answers.
    by_data g.W.BusWord.bytes c.args.how c.in-Data.datum c.args.at k (lane (g.B.Bus.state c.args.bus.now) k) (lane (g.B.Bus.state c.data_poll.new.bus) k) (seen_at watch.lanes k) c.in-Data.is (told own within k below) answers)
    c.data_poll.ensures.told
