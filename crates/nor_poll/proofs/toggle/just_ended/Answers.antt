use Rattle.std.proofs.Common.{arith, ap, sym, ◌≡◌, ◌∙◌, ℕ}
use Rattle.nor_cell.specs.Bits.{unit_len}
use Rattle.nor_word.specs.Word.{lane_of}
use Rattle.nor_poll.specs.Toggles.{works_on, pair_says}
use Rattle.nor_poll.proofs.Telling.{lane_value, none_more}
use Rattle.nor_poll.proofs.toggle.just_ended.Goals.{in-Working, in_default}
use Rattle.nor_poll.proofs.toggle.just_ended.Goals as goal

pub loop-lane-preserved : goal.loop-lane-preserved
loop-lane-preserved g c =
    let one = g.W.BusWord.bytes c.args.first in
    let two = g.W.BusWord.bytes c.args.second in
    let d = unit_len c.args.g.device in
    let k = c.loop-lane.lane in
    let same = c.lane_bytes-bytes.ensures.value in
    let x = lane_value c.lane_bytes-bytes.result d k one c.lane_get-one.result c.lane_get-one.ensures.value same in
    let y = lane_value c.lane_bytes-bytes.result d k two c.lane_get-two.result c.lane_get-two.ensures.value same in
    record {
      over = none_more k (λ i. works_on (lane_of d one i) (lane_of d two i)) c.loop-lane.invariant.over
          (sym (c.work_on.ensures ∙ (ap (λ (n : ℕ). works_on n c.lane_get-two.result) x ∙ ap (works_on (lane_of d one k)) y)) ∙ c.if-work_on.false);
      some = λ ended.
          let told : c.pair_of.result ≡ pair_says (lane_of d one k) (lane_of d two k) =
          c.pair_of.ensures ∙ (ap (λ (n : ℕ). pair_says n c.lane_get-two.result) x ∙ ap (pair_says (lane_of d one k)) y) in
          elim c.match-pair_of.branch [
            | in-Working w ↦ (k, omega arith, sym told ∙ w.in-Working.is)
            | in_default w ↦ let s = c.loop-lane.invariant.some (sym w.ended-is ∙ ended) in let below = s.1 in (s.0, omega (arith, below), s.2)
          ];
    }
