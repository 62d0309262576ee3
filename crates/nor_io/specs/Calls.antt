-- The calls of an object in memory, some of which fail.
use Rattle.std.specs.Prelude.{◌≡◌, ◌+◌, ◌-◌, ◌^◌, ℕ, min, List, Contains}
use Rattle.nor_io.specs.declared.calls.Calls.{Calls}

-- no call was made yet, and those with these numbers will fail
pub record IsFresh (calls : Calls) (fail : List ℕ) : Type 0 where
  pub fail_is : calls.fail.items ≡ fail
  pub none_made : calls.made ≡ 0
  pub no_faults : calls.faults ≡ 0

-- the next call is one of those that fail
abbrev pub IsDue : Calls → Type 0
IsDue calls = Contains calls.fail.items calls.made

-- one more call was made, or the number of calls stands at its last value
pub record CountsCall (old new : Calls) : Type 0 where
  pub same_fail : new.fail.items ≡ old.fail.items
  pub made_is : new.made ≡ min (old.made + 1) (2 ^ 64 - 1)
