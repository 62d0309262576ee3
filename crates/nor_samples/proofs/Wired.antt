-- Chips of one device and one size are a bank.
use Rattle.std.proofs.Common.{◌≡◌, ◌<◌, ℕ, List, length, IsTrue, true, sym, subst, ◌∙◌, arith}
use Rattle.std.specs.List.{All}
use Rattle.std.proofs.lemmas.List.Elements.{All-get_or}
use Rattle.nor_cell.specs.Chip.{ChipState}
use Rattle.nor_cell.specs.Wiring.{is_wiring}
use Rattle.nor_cell.specs.declared.device.Device.{Device}
use Rattle.nor_bus.specs.Bus.{IsBank, chip_at, no_chip}
use Rattle.nor_samples.specs.Alike.{IsAlike}

each_alike : (device : Device) (chips : List ChipState) (c : ℕ) → c < length chips → All (IsAlike device) chips → IsAlike device (chip_at chips c)
each_alike device chips c below all = All-get_or (IsAlike device) chips c no_chip below all

pub are_bank : (width lanes : ℕ) (device : Device) (chips : List ChipState) → is_wiring width lanes device ≡ true → length chips ≡ lanes → All (IsAlike device) chips → IsBank width device chips
are_bank width lanes device chips wired count all = record {
  wiring = subst (λ (n : ℕ). IsTrue (is_wiring width n device)) (sym count) wired;
  devices = λ c below. (each_alike device chips c below all).device;
  sizes = λ c below. let some : 0 < length chips = omega (arith, below) in (each_alike device chips c below all).size ∙ sym (each_alike device chips 0 some all).size;
}
