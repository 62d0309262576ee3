use Rattle.std.proofs.Common.{◌≡◌, ◌<◌, ℕ, false}
use Rattle.nor_cell.specs.Bits.{unit_len}
use Rattle.nor_word.specs.Word.{lane_of}
use Rattle.nor_poll.specs.Toggles.{is_complement}
use Rattle.nor_poll.proofs.data.all_shown.Given as goal

abbrev pub invariant-loop-lane : goal.invariant-loop-lane
invariant-loop-lane g l =
    (c : ℕ) → c < l.lane → is_complement (lane_of (unit_len l.fn.g.device) (g.W.BusWord.bytes l.datum) c) (lane_of (unit_len l.fn.g.device) (g.W.BusWord.bytes l.word) c) ≡ false
