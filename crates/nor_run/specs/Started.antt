-- A bank that was started for a script.
use Rattle.std.specs.Prelude.{◌≡◌, ℕ, List, None, Result, Ok, Err}
use Rattle.nor_cell.specs.Chip.{ChipState}
use Rattle.nor_bus.specs.Bus.{BusState}
use Rattle.nor_bus.specs.Cycles.{KeepsLanes}
use Rattle.nor_bus.specs.Driven.{AllLanes}
use Rattle.nor_io.specs.declared.sink.SinkError.{SinkError}
use Rattle.nor_probe.specs.Probed.{IsFoundOn}
use Rattle.nor_bank.specs.Stands.{Stands, opening_array}
use Rattle.nor_bank.specs.State.{BankState}
use Rattle.nor_run.specs.Scripts.{HasLetters, IsUnfound}
use Rattle.nor_run.specs.declared.error.RunError.{RunError}
use Rattle.nor_run.specs.declared.error.RunError.TheVariants.{Probe, NoMemory as Memory, Put}
use Rattle.nor_run.specs.declared.lines.Ran.{Ran}

abbrev pub of_put : Result Ran SinkError → Result Ran RunError
of_put (Ok ran) = Ok ran
of_put (Err error) = Err (Put error)

-- A bank was started on a bus whose chips showed their arrays, and stands for the array that opens with their bytes.
pub record IsStarted (width : ℕ) (bus : BusState) (b : BankState) : Type 0 where
  pub is_found : IsFoundOn width bus.lanes b.found
  pub lanes : b.bus.lanes ≡ bus.lanes
  pub halted : b.halted ≡ None
  pub erase : b.erase ≡ None
  pub unarmed : b.bus.armed ≡ None
  pub stands : Stands b (opening_array b)

-- The bank was started.
pub record Starts (width : ℕ) (bus : BusState) (b : BankState) : Type 0 where
  pub is_found : IsFoundOn width bus.lanes b.found
  pub running : b.halted ≡ None
  pub closed : b.erase ≡ None
  pub kept : KeepsLanes bus b.bus
  pub started : AllLanes HasLetters bus → IsStarted width bus b

-- Why it wasn't.
abbrev pub Refuses : ℕ → List ChipState → RunError → Type 0
Refuses width chips (Probe error) = IsUnfound width chips error
Refuses width chips Memory = ⊥
Refuses width chips (Put error) = ⊥
