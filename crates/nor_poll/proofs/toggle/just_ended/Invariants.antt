use Rattle.std.proofs.Common.{◌≡◌, ◌<◌, ℕ, true, false}
use Rattle.nor_cell.specs.Bits.{unit_len}
use Rattle.nor_word.specs.Word.{lane_of}
use Rattle.nor_poll.specs.Toggles.{works_on, pair_says}
use Rattle.nor_poll.specs.declared.watch.Seen.TheVariants.{Working}
use Rattle.nor_poll.proofs.toggle.just_ended.Given as goal

abbrev pub invariant-loop-lane : goal.invariant-loop-lane
invariant-loop-lane g l =
    let d = unit_len l.fn.g.device in
    let one = g.W.BusWord.bytes l.first in
    let two = g.W.BusWord.bytes l.second in
    record {
      over : (c : ℕ) → c < l.lane → works_on (lane_of d one c) (lane_of d two c) ≡ false;
      some : l.ended ≡ true → (c : ℕ) × (c < l.lane) × (pair_says (lane_of d one c) (lane_of d two c) ≡ Working);
    }
