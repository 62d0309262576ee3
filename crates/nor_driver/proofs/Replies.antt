-- What replies tell.
use Rattle.std.proofs.Common.{◌≡◌, ◌≢◌, ◌≤◌, ◌∙◌, ℕ, List, true, false, refl, sym, ap}
use Rattle.nor_bus.specs.Bus.{more}
use Rattle.nor_array.specs.Entries.{IsAwaited}
use Rattle.nor_array.specs.declared.entry.Halted.TheVariants.{Off as OffHalt}
use Rattle.nor_array.specs.declared.entry.Op.{Op}
use Rattle.nor_array.specs.declared.entry.Reply.{Reply}
use Rattle.nor_array.specs.declared.entry.Reply.TheVariants.{Done, Nothing, Halted}
use Rattle.nor_bank.specs.Calls.{entry_bytes}
use Rattle.nor_bank.specs.State.{BankState}
use Rattle.nor_driver.specs.Callers.{Gives}
use Rattle.nor_driver.specs.Fronts.{loses}
use Rattle.nor_driver.specs.Made.{is_waited_out}

pub false_true : false ≡ true → ⊥
false_true is = cc

-- what isn't waited out is awaited
pub given_awaited : (r : Reply) → is_waited_out r ≡ false → r ≢ Nothing → IsAwaited r
given_awaited r given some = record {
  yet = λ is. false_true (sym given ∙ ap is_waited_out is);
  nothing = some;
  occupied = λ b is. false_true (sym given ∙ ap is_waited_out is);
}

-- failed cycles, once more for a loss of power
pub loses_failed : (r : Reply) (f g : ℕ) → more 0 f ≤ g → ((n : ℕ) → r ≡ Halted (OffHalt n) → more 1 f ≤ g) → more (loses r) f ≤ g
loses_failed (Halted (OffHalt n)) f g none off = off n refl
loses_failed r f g none off = none

-- an entry has the data that a call gave
pub tells_data : (op : Op) (given : List ℕ) (old new : BankState) (r : Reply) → Gives r op given (entry_bytes r op given old new)
tells_data op given old new Done = refl
tells_data op given old new r = tt
