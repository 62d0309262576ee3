-- What asking a bank does to each of its chips.
use Rattle.std.specs.Prelude.{◌≡◌}
use Rattle.nor_cell.specs.Chip.{ChipState, Query, Idle, NoFault}
use Rattle.nor_cell.specs.Between.{IsIdle, IsShown, reset}

-- a resting chip was reset
abbrev pub Resets : ChipState → ChipState → Type 0
Resets s t = IsIdle s → t ≡ reset s

-- a chip that shows its array was led to its query table
abbrev pub Enters : ChipState → ChipState → Type 0
Enters s t = IsShown s → t ≡ record s { mode = Query }

-- a resting chip was reset and led to its query table
abbrev pub Asks : ChipState → ChipState → Type 0
Asks s t = IsIdle s → t ≡ record (reset s) { mode = Query }

-- every read answers from the query table
pub record ShowsQuery (s : ChipState) : Type 0 where
  pub mode : s.mode ≡ Query
  pub job : s.job ≡ Idle
  pub fault : s.fault ≡ NoFault

-- a chip that shows its query table stayed as it was
abbrev pub Stays : ChipState → ChipState → Type 0
Stays s t = ShowsQuery s → t ≡ s

-- a chip that rests goes on resting, and a reset leads it to the same
abbrev pub Rests : ChipState → ChipState → Type 0
Rests s t = IsIdle s → IsIdle t × (reset t ≡ reset s)
