use Rattle.std.proofs.Common.{◌≡◌, ◌<◌, ℕ, false}
use Rattle.nor_cell.specs.Bits.{unit_len}
use Rattle.nor_word.specs.Word.{lane_of}
use Rattle.nor_poll.specs.Lock.{shows_locked}
use Rattle.nor_poll.proofs.locks.is_any_locked.Given as goal

abbrev pub invariant-loop-lane : goal.invariant-loop-lane
invariant-loop-lane g l = (c : ℕ) → c < l.lane → shows_locked l.fn.set (lane_of (unit_len l.fn.g.device) (g.W.BusWord.bytes l.word) c) ≡ false
