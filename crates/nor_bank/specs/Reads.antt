-- A read of a range of a bank, behind the way to the chips.
use Rattle.std.specs.Prelude.{◌≡◌, ℕ, List, length}
use Rattle.nor_cell.specs.declared.device.Device.{Device}
use Rattle.nor_bus.specs.Driven.{EachLane, Went, Lost, Darkens}
use Rattle.nor_array.specs.declared.entry.Halted.TheVariants.{Off}
use Rattle.nor_array.specs.declared.entry.Reply.{Reply}
use Rattle.nor_array.specs.declared.entry.Reply.TheVariants.{Done, Halted}
use Rattle.nor_bank.specs.Ranges.{CanRead, ReadsRange, words_met}
use Rattle.nor_bank.specs.State.{BankState}
use Rattle.nor_bank.specs.Way.{halting}
use Rattle.nor_bank.specs.Work.{with_bus}

-- Each bus word that the range meets was read, and these are its bytes.
pub record ReadsReady (width at : ℕ) (old new : BankState) (into : List ℕ) : Type 0 where
  pub kept : new ≡ with_bus old new.bus
  pub went : Went (words_met at (length into) width) (words_met at (length into) width)
      old.bus new.bus
  pub reads : (device : Device) → CanRead width device old.bus at (length into)
      → ReadsRange device old.bus new.bus at into

-- A cycle failed, and the halt is kept.
pub record LosesRead (width at len : ℕ) (old new : BankState) : Type 0 where
  pub kept : new ≡ halting (with_bus old new.bus) (Off old.after)
  pub lost : Lost (words_met at len width) old.bus new.bus
  pub dark : (device : Device) → CanRead width device old.bus at len
      → EachLane Darkens old.bus new.bus

abbrev pub ReadsBank : (width at : ℕ) → (old new : BankState) → List ℕ → Reply → Type 0
ReadsBank width at old new into Done = ReadsReady width at old new into
ReadsBank width at old new into (Halted (Off n)) = (n ≡ old.after)
    × LosesRead width at (length into) old new
ReadsBank width at old new into _ = ⊥
