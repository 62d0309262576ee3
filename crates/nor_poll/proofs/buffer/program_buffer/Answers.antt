use Rattle.std.proofs.Common.{inl, inr, min, arith, refl, subst, sym, ap, length, map, ◌∙◌, ◌≡◌, ◌+◌, ◌-◌, ◌*◌, ◌<◌, ◌≤◌, ℕ}
use Rattle.std.proofs.lemmas.List.{length-map}
use Rattle.nor_cell.specs.Bits.{has_bit}
use Rattle.nor_bus.specs.Bus.{lane, units_of}
use Rattle.nor_bus.specs.Driven.{Went, Lost}
use Rattle.nor_poll.specs.Polled.{working_reads, polling_for}
use Rattle.nor_bus.proofs.Driving.{went_none, lost_then, few_lanes, reaches_kept, lane_kept, own_kept}
use Rattle.nor_poll.specs.Codes.{cycle_count}
use Rattle.nor_poll.specs.Told.{seen_at}
use Rattle.nor_poll.specs.Wait.{wait_most, wait_prompt}
use Rattle.nor_poll.specs.Buffer.{DarkensLoad, load_sent, LoadHalts, ReachesAll, EachLoad, TakesLoad, BeginsLoad, LosesLoad, TellsLoadBroken, load_of, load_begin, load_most, load_prompt, load_stuck, last_of}
use Rattle.nor_poll.specs.declared.lanes.Halt.TheVariants.{Off}
use Rattle.nor_poll.specs.declared.codes.Command.TheVariants.{ClearErrors, ShowArray}
use Rattle.nor_cell.proofs.Logic.{if_gave}
use Rattle.nor_poll.proofs.Reading.{lost_reading, dark_resting}
use Rattle.nor_poll.specs.Reads.{EachSent}
use Rattle.nor_poll.specs.Word.{program_reads}
use Rattle.nor_poll.proofs.Sets.{views_all}
use Rattle.nor_poll.proofs.Waiting.{ended_by}
use Rattle.nor_poll.proofs.Wording.{past_lanes, counted_word}
use Rattle.nor_poll.proofs.WordSending.{first_reached, word_at}
use Rattle.nor_poll.proofs.Loading.{begins_load, loses_loading}
use Rattle.nor_poll.proofs.Buffering.{PollsLoad, load_halts, load_done, tells, loses_ended, all_work_for, answers_begun, load_fits, prompt_fits, polled}
use Rattle.nor_poll.proofs.buffer.program_buffer.Goals as goal

pub returns-in_err-begin_load-clause-halts : goal.returns-in_err-begin_load-clause-halts
returns-in_err-begin_load-clause-halts g c =
    let set = c.args.set in
    let width = g.W.BusWord.WIDTH in
    let old = g.B.Bus.state c.args.bus.now in
    let new = g.B.Bus.state c.begin_load.new.bus in
    let words = map g.W.BusWord.bytes c.args.new.now in
    let n = length c.args.new.now in
    let count : length words ≡ n = length-map c.args.new.now g.W.BusWord.bytes in
    let first = load_begin set n in
    let fits = (load_fits {W = ℕ} set c.args.g 0 (polling_for set c.args.g 0) n c.args.limit refl).begun in
    if_gave c.from_residual.result Off (LoadHalts set width c.args.g c.args.at words c.args.limit old new) c.from_residual.ensures.1
    (subst (λ (m : ℕ). Lost (load_most set m c.args.limit) old new × (ReachesAll width c.args.g c.args.at m old → EachLoad words (LosesLoad set c.args.at m) old new) × (ReachesAll width c.args.g c.args.at m old → DarkensLoad set c.args.at m words c.args.limit old new)) (sym count) (
      lost_then 0 first (load_most set n c.args.limit) old old new (omega (arith, fits)) (went_none old) c.in_err-begin_load.ensures.lost,
      λ reaches. loses_loading set c.args.at n words old new (sym count) c.requires.few (c.in_err-begin_load.ensures.dark reaches),
      λ reaches. inl (c.in_err-begin_load.ensures.dark reaches),
    ))

pub returns-in_err-watch-clause-halts : goal.returns-in_err-watch-clause-halts
returns-in_err-watch-clause-halts g c =
    let set = c.args.set in
    let width = g.W.BusWord.WIDTH in
    let how = c.polling_of-how.result in
    let old = g.B.Bus.state c.args.bus.now in
    let mid = g.B.Bus.state c.begin_load.new.bus in
    let last = g.B.Bus.state c.wait_ready.new.bus in
    let words = map g.W.BusWord.bytes c.args.new.now in
    let n = length c.args.new.now in
    let count : length words ≡ n = length-map c.args.new.now g.W.BusWord.bytes in
    let new_word = c.index-new-last.result in
    let some = c.requires.some in
    let polls_of : PollsLoad set c.args.g g.W.BusWord.bytes new_word how n words = record {
      how_is = c.polling_of-how.ensures;
      count = count;
      last = word_at g.W.BusWord.bytes c.args.new.now (n - 1) new_word (omega (arith, some)) ∙ ap g.W.BusWord.bytes (sym c.index-new-last.is);
    } in
    let halt = c.in_err-watch.field-0.0 in
    let fits = load_fits set c.args.g new_word how n c.args.limit c.polling_of-how.ensures in
    let most = fits.begun in
    let begun = c.in_ok-begin_load.ensures.went in
    let at = polled width c.args.g c.args.at n c.behind.result old mid c.behind.ensures begun.kept c.in_ok-begin_load.ensures.small in
    let back = λ (reaches : ReachesAll width c.args.g c.args.at (length words) old). subst (λ (m : ℕ). ReachesAll width c.args.g c.args.at m old) count reaches in
    let a = c.behind.result in
    if_gave c.from_residual-in_err-watch.result halt (LoadHalts set width c.args.g c.args.at words c.args.limit old last) c.from_residual-in_err-watch.ensures.1
    (load_halts g.W.BusWord.bytes how set width c.args.at a c.args.limit c.args.g words old mid last halt
    (subst (λ (m : ℕ). load_begin set m + wait_most how c.args.limit ≤ load_most set m c.args.limit) (sym count) (omega (arith, most)))
    (subst (λ (m : ℕ). load_begin set m + working_reads how * c.args.limit ≡ load_stuck set m c.args.limit) (sym count) fits.stuck_at)
    (subst (λ (m : ℕ). Went (load_begin set m) (load_begin set m) old mid) (sym count) begun)
    (λ reaches. subst (λ (m : ℕ). EachLoad words (BeginsLoad set c.args.at m) old mid) (sym count) (begins_load set c.args.at n words old mid (sym count) c.requires.few (c.in_ok-begin_load.ensures.sent (back reaches))))
    (λ reaches. subst (λ (m : ℕ). (a ≡ last_of c.args.at m) × (a < units_of mid)) (sym count) (at (back reaches)))
    (λ reaches k below takes.
    answers_begun set c.args.g g.W.BusWord.bytes new_word how c.args.at n a k words (lane old k) (lane mid k) polls_of (at (back reaches)).0 (begins_load set c.args.at n words old mid (sym count) c.requires.few (c.in_ok-begin_load.ensures.sent (back reaches)) k below)
    (subst (λ (m : ℕ). TakesLoad set c.args.at m (lane old k)) count takes))
    (λ reaches. subst (λ (m : ℕ). EachSent (load_sent set c.args.at m words) old mid) (sym count) (c.in_ok-begin_load.ensures.sent (back reaches))) fits.reads fits.works
    c.in_err-watch.ensures.halts)

pub returns-in_err-end_program-clause-halts : goal.returns-in_err-end_program-clause-halts
returns-in_err-end_program-clause-halts g c =
    let set = c.args.set in
    let width = g.W.BusWord.WIDTH in
    let how = c.polling_of-how.result in
    let old = g.B.Bus.state c.args.bus.now in
    let mid = g.B.Bus.state c.begin_load.new.bus in
    let last = g.B.Bus.state c.wait_ready.new.bus in
    let new = g.B.Bus.state c.end_program.new.bus in
    let words = map g.W.BusWord.bytes c.args.new.now in
    let n = length c.args.new.now in
    let count : length words ≡ n = length-map c.args.new.now g.W.BusWord.bytes in
    let new_word = c.index-new-last.result in
    let some = c.requires.some in
    let polls_of : PollsLoad set c.args.g g.W.BusWord.bytes new_word how n words = record {
      how_is = c.polling_of-how.ensures;
      count = count;
      last = word_at g.W.BusWord.bytes c.args.new.now (n - 1) new_word (omega (arith, some)) ∙ ap g.W.BusWord.bytes (sym c.index-new-last.is);
    } in
    let begun = c.in_ok-begin_load.ensures.went in
    let a = c.behind.result in
    let at = polled width c.args.g c.args.at n a old mid c.behind.ensures begun.kept c.in_ok-begin_load.ensures.small in
    let first = load_begin set n in
    let end = cycle_count set ClearErrors in
    let most = wait_most how c.args.limit in
    let fits = (load_fits set c.args.g new_word how n c.args.limit c.polling_of-how.ensures).begun in
    if_gave c.from_residual-in_err-end_program.result Off (LoadHalts set width c.args.g c.args.at words c.args.limit old new) c.from_residual-in_err-end_program.ensures.1
    (subst (λ (m : ℕ). Lost (load_most set m c.args.limit) old new × (ReachesAll width c.args.g c.args.at m old → EachLoad words (LosesLoad set c.args.at m) old new) × (ReachesAll width c.args.g c.args.at m old → DarkensLoad set c.args.at m words c.args.limit old new)) (sym count) (
      lost_then first (most + end) (load_most set n c.args.limit) old mid new (omega (arith, fits)) begun
          (lost_reading 1 most end (most + end) mid last new (omega arith) c.in_ok-watch.ensures.went c.in_err-end_program.ensures.lost),
      λ reaches k below.
          let own = own_kept width c.args.g old mid begun.kept reaches.own in
          let later = reaches_kept width c.args.g c.args.at mid last c.in_ok-watch.ensures.went.went.kept
          (reaches_kept width c.args.g c.args.at old mid begun.kept (first_reached width c.args.g c.args.at n old reaches)) in
          let there = lane_kept old mid k begun.kept below in
          let begins = begins_load set c.args.at n words old mid (sym count) c.requires.few (c.in_ok-begin_load.ensures.sent reaches) k below in
          loses_ended set c.args.at n a (load_of (lane old k).part.device k words) (lane old k) (lane mid k) (lane last k) (lane new k) (seen_at c.in_ok-watch.watch.lanes k) begins
          (λ takes.
          ended_by how a (lane mid k) (lane last k) (seen_at c.in_ok-watch.watch.lanes k) (views_all set c.args.g new_word how (lane last k) c.polling_of-how.ensures)
          (c.in_ok-watch.ensures.ready own (at reaches).1 k there
          (answers_begun set c.args.g g.W.BusWord.bytes new_word how c.args.at n a k words (lane old k) (lane mid k) polls_of (at reaches).0 begins takes)))
          (c.in_err-end_program.ensures.loses later k (lane_kept mid last k c.in_ok-watch.ensures.went.went.kept there)),
      λ reaches.
          let later = reaches_kept width c.args.g c.args.at mid last c.in_ok-watch.ensures.went.went.kept
          (reaches_kept width c.args.g c.args.at old mid begun.kept (first_reached width c.args.g c.args.at n old reaches)) in
          inr (dark_resting (load_sent set c.args.at n words) first most (program_reads set c.args.limit) set c.args.at old mid last new
          (load_fits set c.args.g new_word how n c.args.limit c.polling_of-how.ensures).reads begun (c.in_ok-begin_load.ensures.sent reaches) c.in_ok-watch.ensures.went
          (c.in_err-end_program.ensures.dark later)),
    ))

pub returns-clause-done : goal.returns-clause-done
returns-clause-done g c = λ reaches k below.
    let set = c.args.set in
    let width = g.W.BusWord.WIDTH in
    let how = c.polling_of-how.result in
    let old = g.B.Bus.state c.args.bus.now in
    let mid = g.B.Bus.state c.begin_load.new.bus in
    let last = g.B.Bus.state c.wait_ready.new.bus in
    let new = g.B.Bus.state c.end_program.new.bus in
    let words = map g.W.BusWord.bytes c.args.new.now in
    let n = length c.args.new.now in
    let count : length words ≡ n = length-map c.args.new.now g.W.BusWord.bytes in
    let new_word = c.index-new-last.result in
    let some = c.requires.some in
    let polls_of : PollsLoad set c.args.g g.W.BusWord.bytes new_word how n words = record {
      how_is = c.polling_of-how.ensures;
      count = count;
      last = word_at g.W.BusWord.bytes c.args.new.now (n - 1) new_word (omega (arith, some)) ∙ ap g.W.BusWord.bytes (sym c.index-new-last.is);
    } in
    let kept = c.in_ok-begin_load.ensures.went.kept in
    let a = c.behind.result in
    let at = polled width c.args.g c.args.at n a old mid c.behind.ensures kept c.in_ok-begin_load.ensures.small reaches in
    let own = own_kept width c.args.g old mid kept reaches.own in
    let later = reaches_kept width c.args.g c.args.at mid last c.in_ok-watch.ensures.went.went.kept
    (reaches_kept width c.args.g c.args.at old mid kept (first_reached width c.args.g c.args.at n old reaches)) in
    let few = few_lanes width c.args.g.device old.lanes reaches.own.bank in
    let there = lane_kept old mid k kept below in
    let begins = begins_load set c.args.at n words old mid (sym count) c.requires.few (c.in_ok-begin_load.ensures.sent reaches) k below in
    load_done set c.args.at n a (load_of (lane old k).part.device k words) c.broken_lanes-broken.result.bits k (lane old k) (lane mid k) (lane last k) (lane new k) (seen_at c.in_ok-watch.watch.lanes k) begins
    (λ takes.
    ended_by how a (lane mid k) (lane last k) (seen_at c.in_ok-watch.watch.lanes k) (views_all set c.args.g new_word how (lane last k) c.polling_of-how.ensures)
    (c.in_ok-watch.ensures.ready own at.1 k there
    (answers_begun set c.args.g g.W.BusWord.bytes new_word how c.args.at n a k words (lane old k) (lane mid k) polls_of at.0 begins takes)))
    (c.broken_lanes-broken.ensures.lanes k (omega (arith, few, below)))
    (c.in_ok-end_program.ensures.lanes later k (lane_kept mid last k c.in_ok-watch.ensures.went.went.kept there))

pub returns-clause-broken : goal.returns-clause-broken
returns-clause-broken g c =
    let set = c.args.set in
    let width = g.W.BusWord.WIDTH in
    let how = c.polling_of-how.result in
    let old = g.B.Bus.state c.args.bus.now in
    let mid = g.B.Bus.state c.begin_load.new.bus in
    let last = g.B.Bus.state c.wait_ready.new.bus in
    let words = map g.W.BusWord.bytes c.args.new.now in
    let n = length c.args.new.now in
    let count : length words ≡ n = length-map c.args.new.now g.W.BusWord.bytes in
    let new_word = c.index-new-last.result in
    let some = c.requires.some in
    let polls_of : PollsLoad set c.args.g g.W.BusWord.bytes new_word how n words = record {
      how_is = c.polling_of-how.ensures;
      count = count;
      last = word_at g.W.BusWord.bytes c.args.new.now (n - 1) new_word (omega (arith, some)) ∙ ap g.W.BusWord.bytes (sym c.index-new-last.is);
    } in
    let kept = c.in_ok-begin_load.ensures.went.kept in
    let a = c.behind.result in
    let at = polled width c.args.g c.args.at n a old mid c.behind.ensures kept c.in_ok-begin_load.ensures.small in
    record {
      told = λ all k below.
          let reaches = subst (λ (m : ℕ). ReachesAll width c.args.g c.args.at m old) count all in
          let few = few_lanes width c.args.g.device old.lanes reaches.own.bank in
          let begins = begins_load set c.args.at n words old mid (sym count) c.requires.few (c.in_ok-begin_load.ensures.sent reaches) k below in
          subst (λ (m : ℕ). TellsLoadBroken set c.args.at m (load_of (lane old k).part.device k words) (has_bit c.broken_lanes-broken.result.bits k) (lane old k)) (sym count)
          (tells set c.args.at n a (load_of (lane old k).part.device k words) (lane old k) (lane mid k) (lane last k) (seen_at c.in_ok-watch.watch.lanes k) _ begins
          (λ takes.
          ended_by how a (lane mid k) (lane last k) (seen_at c.in_ok-watch.watch.lanes k) (views_all set c.args.g new_word how (lane last k) c.polling_of-how.ensures)
          (c.in_ok-watch.ensures.ready (own_kept width c.args.g old mid kept reaches.own) (at reaches).1 k (lane_kept old mid k kept below)
          (answers_begun set c.args.g g.W.BusWord.bytes new_word how c.args.at n a k words (lane old k) (lane mid k) polls_of (at reaches).0 begins takes)))
          (c.broken_lanes-broken.ensures.lanes k (omega (arith, few, below))));
      past = λ k le.
          past_lanes c.broken_lanes-broken.result.bits c.args.g.lanes k (seen_at c.in_ok-watch.watch.lanes) c.broken_lanes-broken.ensures.lanes c.broken_lanes-broken.ensures.past c.in_ok-watch.ensures.past le;
    }

pub returns-clause-cycles : goal.returns-clause-cycles
returns-clause-cycles g c =
    let set = c.args.set in
    let n = length c.args.new.now in
    let new_word = c.index-new-last.result in
    let bits = c.broken_lanes-broken.result.bits in
    let most = wait_most c.polling_of-how.result c.args.limit in
    let fits = load_fits set c.args.g new_word c.polling_of-how.result n c.args.limit c.polling_of-how.ensures in
    let few = fits.shown bits in
    let least = fits.least bits in
    counted_word (load_begin set n) 1 most most (cycle_count set ShowArray + min bits 1) (n + 6) (load_most set n c.args.limit) (g.B.Bus.state c.args.bus.now)
    (g.B.Bus.state c.begin_load.new.bus) (g.B.Bus.state c.wait_ready.new.bus) (g.B.Bus.state c.end_program.new.bus) (omega (arith, least)) (omega (arith, few)) refl
    c.in_ok-begin_load.ensures.went c.in_ok-watch.ensures.went c.in_ok-end_program.ensures.went

pub returns-clause-prompt : goal.returns-clause-prompt
returns-clause-prompt g c = λ reaches most ends.
    let set = c.args.set in
    let width = g.W.BusWord.WIDTH in
    let how = c.polling_of-how.result in
    let old = g.B.Bus.state c.args.bus.now in
    let mid = g.B.Bus.state c.begin_load.new.bus in
    let last = g.B.Bus.state c.wait_ready.new.bus in
    let new = g.B.Bus.state c.end_program.new.bus in
    let bits = c.broken_lanes-broken.result.bits in
    let words = map g.W.BusWord.bytes c.args.new.now in
    let n = length c.args.new.now in
    let count : length words ≡ n = length-map c.args.new.now g.W.BusWord.bytes in
    let new_word = c.index-new-last.result in
    let some = c.requires.some in
    let polls_of : PollsLoad set c.args.g g.W.BusWord.bytes new_word how n words = record {
      how_is = c.polling_of-how.ensures;
      count = count;
      last = word_at g.W.BusWord.bytes c.args.new.now (n - 1) new_word (omega (arith, some)) ∙ ap g.W.BusWord.bytes (sym c.index-new-last.is);
    } in
    let kept = c.in_ok-begin_load.ensures.went.kept in
    let a = c.behind.result in
    let at = polled width c.args.g c.args.at n a old mid c.behind.ensures kept c.in_ok-begin_load.ensures.small reaches in
    let begins = begins_load set c.args.at n words old mid (sym count) c.requires.few (c.in_ok-begin_load.ensures.sent reaches) in
    let polls =
    c.in_ok-watch.ensures.prompt (own_kept width c.args.g old mid kept reaches.own) at.1
    (λ k there.
    let below = subst (λ (m : ℕ). k < m) kept.count there in
    answers_begun set c.args.g g.W.BusWord.bytes new_word how c.args.at n a k words (lane old k) (lane mid k) polls_of at.0 (begins k below) (ends k below).takes)
    most (all_work_for set c.args.at n most words old mid kept.count begins ends) in
    let few = prompt_fits set c.args.g new_word how n most bits c.polling_of-how.ensures in
    let least = (load_fits set c.args.g new_word how n c.args.limit c.polling_of-how.ensures).least bits in
    counted_word (load_begin set n) 1 (wait_prompt how most) (wait_prompt how most) (cycle_count set ShowArray + min bits 1) (n + 6) (load_prompt set n most + min bits 1) old mid last new
    (omega (arith, least)) (omega (arith, few)) refl c.in_ok-begin_load.ensures.went polls c.in_ok-end_program.ensures.went
