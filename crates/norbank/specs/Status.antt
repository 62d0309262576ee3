-- The status after the last text.
use Rattle.std.specs.Prelude.{◌≡◌, ℕ, Result, Ok, Err}
use Rattle.nor_io.specs.declared.sink.SinkError.{SinkError}
use Rattle.nor_io.specs.declared.sink.SinkError.TheVariants.{Fault, NoMemory}
use Rattle.norbank.specs.Endings.{fault_told, lacks_memory}

abbrev pub AfterPut : ℕ → Result (Unit {0}) SinkError → ℕ → Type 0
AfterPut code (Ok done) status = status ≡ code
AfterPut code (Err Fault) status = status ≡ fault_told
AfterPut code (Err NoMemory) status = status ≡ lacks_memory
