use Rattle.std.proofs.Common.{◌≡◌, ap, sym, ◌∙◌, ℕ, false}
use Rattle.nor_cell.specs.Bits.{unit_len}
use Rattle.nor_word.specs.Word.{lane_of}
use Rattle.nor_poll.specs.Lock.{shows_locked}
use borrow.Author.Count.{below_more}
use Rattle.nor_poll.proofs.locks.is_any_locked.Goals as goal

pub loop-lane-preserved : goal.loop-lane-preserved
loop-lane-preserved g c =
    let word = g.W.BusWord.bytes c.args.word in
    let part = c.lane_get.ensures.value ∙ ap (λ (d : ℕ). lane_of d word c.loop-lane.lane) c.lane_bytes-bytes.ensures.value in
    below_more (λ k. shows_locked c.args.set (lane_of (unit_len c.args.g.device) word k) ≡ false) c.loop-lane.lane c.loop-lane.invariant
    (sym (ap (shows_locked c.args.set) part) ∙ (sym c.shows_locked.ensures ∙ c.if-shows_locked.false))
