-- What the words that a poll read tell of a lane.
use Rattle.std.specs.Prelude.{ℕ, List}
use Rattle.nor_word.specs.Word.{lane_of}
use Rattle.nor_poll.specs.Register.{status_says, heeded}
use Rattle.nor_poll.specs.Toggles.{pair_says, over_says, data_says}
use Rattle.nor_poll.specs.declared.readings.Readings.{Readings}
use Rattle.nor_poll.specs.declared.readings.Readings.TheVariants.{Status, EraseStatus, Pair, Over, Datum}
use Rattle.nor_poll.specs.declared.watch.Seen.{Seen}

-- of lane c, where a lane has d bytes
abbrev pub told_of : {W : Type 0} (bytes : W → List ℕ) → Readings W → ℕ → ℕ → Seen
told_of bytes (Status word) d c = status_says (lane_of d (bytes word) c)
told_of bytes (EraseStatus word) d c = status_says (heeded (lane_of d (bytes word) c))
told_of bytes (Pair first second) d c = pair_says (lane_of d (bytes first) c) (lane_of d (bytes second) c)
told_of bytes (Over second third) d c = over_says (lane_of d (bytes second) c) (lane_of d (bytes third) c)
told_of bytes (Datum datum first second) d c =
    data_says (lane_of d (bytes datum) c) (lane_of d (bytes first) c) (lane_of d (bytes second) c)
