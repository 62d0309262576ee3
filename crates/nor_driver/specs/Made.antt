-- Words of the driver's own functions: a call of a bank, and a caller that waits.
use Rattle.std.specs.Prelude.{◌≡◌, ◌+◌, Bool, true, false}
use Rattle.nor_bus.specs.Driven.{Went}
use Rattle.nor_array.specs.declared.entry.Entry.{Entry}
use Rattle.nor_array.specs.declared.entry.Op.{Op}
use Rattle.nor_array.specs.declared.entry.Op.TheVariants.{Read, Poll}
use Rattle.nor_array.specs.declared.entry.Reply.{Reply}
use Rattle.nor_array.specs.declared.entry.Reply.TheVariants.{Done, NotYet, Occupied}
use Rattle.nor_bank.specs.State.{BankState}
use Rattle.nor_bank.specs.Work.{words_in}
use Rattle.nor_turn.specs.Passes.{PassView}
use Rattle.nor_driver.specs.Callers.{CallerView, HasOpened}

-- ---- calls of a bank

-- A caller isn't given this reply: the driver asks again in another turn.
abbrev pub is_waited_out : Reply → Bool
is_waited_out NotYet = true
is_waited_out (Occupied block) = true
is_waited_out _ = false

abbrev pub is_poll : Op → Bool
is_poll Poll = true
is_poll _ = false

-- a read that is done made a cycle for each bus word that it meets
abbrev pub ReadsWords : Op → Reply → (old new : BankState) → Type 0
ReadsWords (Read at len) Done old new = Went (words_in old at len) (60 + words_in old at len) old.bus new.bus
ReadsWords op reply old new = Unit {0}

-- A caller may poll for an erase that it opened, and is about to close.
pub record MayPoll (c : CallerView) : Type 0 where
  pub opened : HasOpened c.pass.name c.number c.pass.seen
  pub closing : c.erasing ≡ false

-- ---- waiting

-- A pass took a ticket or a turn, or gave it back. All else of it is as it was.
pub record IsSame (p q : PassView BankState Entry) : Type 0 where
  pub table : q.table ≡ p.table
  pub opening : q.opening ≡ p.opening
  pub name : q.name ≡ p.name
  pub splits : q.splits ≡ p.splits
  pub taken : q.taken ≡ p.taken
  pub seen : q.seen ≡ p.seen
  pub share : q.share ≡ p.share
  pub room : q.room ≡ p.room

-- A caller has waited: it has seen what it had seen, and may make as many entries.
pub record IsSameCaller (c d : CallerView) : Type 0 where
  pub number : d.number ≡ c.number
  pub pass : IsSame c.pass d.pass
  pub erasing : d.erasing ≡ c.erasing
