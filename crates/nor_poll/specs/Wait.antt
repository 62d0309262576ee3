-- Waiting until no lane works, by polls of either set.
use Rattle.std.specs.Prelude.{◌≡◌, ◌<◌, ◌+◌, ◌-◌, ◌*◌, ℕ, List}
use Rattle.nor_cell.specs.Chip.{ChipState, Idle}
use Rattle.nor_cell.specs.declared.geometry.Geometry.{Geometry}
use Rattle.nor_bus.specs.Bus.{BusState, lane, lanes_of, units_of}
use Rattle.nor_bus.specs.Driven.{IsOwn}
use Rattle.nor_poll.specs.Told.{seen_idle}
use Rattle.nor_poll.specs.Reads.{AfterReads, WorksAfter, ReadBy, DarkensReading}
use Rattle.nor_poll.specs.Polled.{Answers, working_reads, viewed}
use Rattle.nor_poll.specs.declared.watch.Seen.{Seen}
use Rattle.nor_poll.specs.declared.lanes.Halt.{Halt}
use Rattle.nor_poll.specs.declared.lanes.Halt.TheVariants.{Off, Stuck}
use Rattle.nor_poll.specs.declared.polling.Polling.{Polling}
use Rattle.nor_poll.specs.declared.polling.Polling.TheVariants.{Status, EraseStatus, Toggle, Data}

-- each lane answers these polls
abbrev pub AllAnswer : {W : Type 0} (bytes : W → List ℕ) → Polling W → ℕ → BusState → Type 0
AllAnswer bytes how u bus = (c : ℕ) → c < lanes_of bus → Answers bytes how u c (lane bus c)

-- after some reads the chip runs no job, and this was told of it
pub record IsReady {W : Type 0} (how : Polling W) (u : ℕ) (s : ChipState) (it : Seen) (t : ChipState) : Type 0 where
  pub polls : ℕ
  pub reads : AfterReads s polls t
  pub job : t.job ≡ Idle
  pub told : it ≡ seen_idle t.part.set u (viewed how t)

-- the chip has reads left after fewer reads than that alone
abbrev pub WorksFor : ℕ → ChipState → Type 0
WorksFor most s = (n : ℕ) → WorksAfter n s → n < most

-- how many reads so many polls make at most
abbrev pub wait_most : {W : Type 0} → Polling W → ℕ → ℕ
wait_most Status limit = limit
wait_most EraseStatus limit = limit
wait_most Toggle limit = 2 * limit + 1
wait_most (Data datum) limit = 2 * limit

-- and how many are made at most where no lane works for more than `most`
abbrev pub wait_prompt : {W : Type 0} → Polling W → ℕ → ℕ
wait_prompt Status most = most + 1
wait_prompt EraseStatus most = most + 1
wait_prompt Toggle most = most + 3
wait_prompt (Data datum) most = most + 3

-- where the geometry is the bus's own, the bus has the address, and a poll was made
abbrev pub WherePolled : ℕ → Geometry → (u limit : ℕ) → BusState → Type 0 → Type 0
WherePolled width g u limit bus P = IsOwn width g bus → u < units_of bus → 0 < limit → P

-- The wait was given up: a cycle failed, or lane k is the lowest that the last of the polls told to work.
abbrev pub WaitHalts : ℕ → {W : Type 0} (bytes : W → List ℕ) → Geometry → Polling W → (u limit : ℕ)
    → BusState → BusState → Halt → Type 0
WaitHalts width bytes g how u limit old new Off = DarkensReading (wait_most how limit) old new
WaitHalts width bytes g how u limit old new (Stuck k) =
    (k < g.lanes) × ReadBy (working_reads how * limit) (working_reads how * limit) old new
    × WherePolled width g u limit old (Answers bytes how u k (lane old k)
    → WorksAfter (working_reads how * limit - working_reads how) (lane old k))
    × WherePolled width g u limit old ((c : ℕ) → c < k → Answers bytes how u c (lane old c) → (lane new c).job ≡ Idle)
