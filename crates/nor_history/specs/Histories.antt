-- What a history of calls makes of a bank.
use Rattle.std.specs.Prelude.{◌≡◌, ◌+◌, ℕ, zero, suc, List, [], ◌∷◌}
use Rattle.nor_cell.specs.Chip.{counted}
use Rattle.nor_bus.specs.Driven.{EachLane}
use Rattle.nor_array.specs.Array.{ArrayState}
use Rattle.nor_array.specs.After.{after_all}
use Rattle.nor_array.specs.Legal.{Legal}
use Rattle.nor_array.specs.declared.entry.Entry.{Entry}
use Rattle.nor_array.specs.declared.entry.Op.{Op}
use Rattle.nor_array.specs.declared.entry.Op.TheVariants.{Read, Arm, PowerOn}
use Rattle.nor_array.specs.declared.entry.Reply.{Reply}
use Rattle.nor_array.specs.declared.entry.Reply.TheVariants.{Done, Opened}
use Rattle.nor_bank.specs.Calls.{facts_of}
use Rattle.nor_bank.specs.Ranges.{words_met}
use Rattle.nor_bank.specs.Stands.{Stands}
use Rattle.nor_bank.specs.State.{BankState}
use Rattle.nor_bank.specs.Whole.{IsCallOf, Arms, PowersBank}
use Rattle.nor_bank.specs.Work.{KeepsBank}

-- ---- how often an erase was opened

-- 1 for a reply that opens an erase
abbrev pub opens : Reply → ℕ
opens Opened = 1
opens _ = 0

-- the same of all entries
abbrev pub opened : List Entry → ℕ
opened [] = 0
opened (e ∷ es) = opens e.reply + opened es

-- a counter of 32 bits that has risen so often, and stays at its last value
abbrev pub risen : ℕ → ℕ → ℕ
risen count zero = count
risen count (suc k) = counted (risen count k)

-- ---- how much was read

-- how many bus words of w bytes a read that is done has read
abbrev pub words_of : (w : ℕ) → Reply → Op → ℕ
words_of w Done (Read at len) = words_met at len w
words_of w _ op = 0

-- the same of all entries
abbrev pub words_read : (w : ℕ) → List Entry → ℕ
words_read w [] = 0
words_read w (e ∷ es) = words_of w e.reply e.op + words_read w es

-- ---- one call

-- A call of the chips; or arm or power-on, which are the bank's own and have no caller.
abbrev pub IsMadeBy : (caller : ℕ) → Op → (old new : BankState) → Reply → (given : List ℕ) → Type 0
IsMadeBy caller (Arm cut mask) old new reply given = (caller ≡ 0) × Arms cut mask old new reply
IsMadeBy caller PowerOn old new reply given = (caller ≡ 0) × PowersBank old new reply
IsMadeBy caller op old new reply given = IsCallOf caller op old new reply given

-- One call was made, and given these bytes.
pub record Makes (caller : ℕ) (op : Op) (old new : BankState) (reply : Reply) (given : List ℕ) : Type 0 where
  pub call : IsMadeBy caller op old new reply given
  pub keeps : KeepsBank old new

-- ---- many calls

-- The entries are a legal history from an array, and led the bank from old, which stood for it, to new, which stands
-- for the array after them. Each lane counts the erases that were opened.
pub record Leads (es : List Entry) (old new : BankState) (a : ArrayState) : Type 0 where
  pub legal : Legal (facts_of old) a es
  pub stands : Stands new (after_all a es)
  pub erases : EachLane (λ s t. t.erases ≡ risen s.erases (opened es)) old.bus new.bus
