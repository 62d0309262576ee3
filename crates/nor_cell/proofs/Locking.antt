-- The locks that a chip is made with, and those that power-on leaves.
use Rattle.std.proofs.Common.{◌≡◌, ℕ, zero, suc, refl, sym, subst, ap, arith, Bool, true, false, ◌==◌, ◌||◌, if◌then◌else◌, List, [], ◌∷◌, length, replicate}
use Rattle.std.specs.Prelude.{IsTrue}
use Rattle.std.proofs.lemmas.Bool.Decides.{nat_tests}
use Rattle.std.proofs.lemmas.List.{length-replicate}
use Rattle.nor_cell.specs.Cells.{given_or_open}
use Rattle.nor_cell.specs.Chip.{is_any_set}
use Rattle.nor_cell.specs.Power.{locks_after}
use Rattle.nor_cell.specs.Ranges.{AreOffered, is_none_or_each}
use Rattle.nor_cell.specs.Table.{has_locks}
use Rattle.nor_cell.specs.declared.device.Set.TheVariants.{Amd}
use Rattle.nor_cell.proofs.Logic.{same_number}

pub open_locks : (n : ℕ) → is_any_set (replicate n false) ≡ false
open_locks zero = refl
open_locks (suc n) = open_locks n

pub open_locks_offered : (table : List ℕ) (n : ℕ) → AreOffered table (replicate n false)
open_locks_offered table n h = open_locks n

-- all locks are set where the table offers them
pub filled_offered : (table : List ℕ) (n : ℕ) → AreOffered table (replicate n (has_locks table))
filled_offered table n h = subst (λ (b : Bool). is_any_set (replicate n b) ≡ false) (sym h) (open_locks n)

none_is_set : (locks : List Bool) → is_any_set locks ≡ false → locks ≡ replicate (length locks) false
none_is_set [] h = refl
none_is_set (true ∷ locks) h = cc
none_is_set (false ∷ locks) h = ap (λ (l : List Bool). false ∷ l) (none_is_set locks h)

-- set 0002 keeps its locks
pub amd_keeps : (table : List ℕ) (locks : List Bool) → AreOffered table locks → locks ≡ locks_after Amd table locks
amd_keeps table locks h = go (has_locks table) refl
  where
    go : (b : Bool) → has_locks table ≡ b → locks ≡ (if b then locks else replicate (length locks) false)
    go true e = refl
    go false e = none_is_set locks (h e)

pub given_offered : (table : List ℕ) (locks : List Bool) (n : ℕ) → AreOffered table locks → AreOffered table (given_or_open locks n)
given_offered table [] n h = open_locks_offered table n
given_offered table (x ∷ locks) n h = h

other_passes : (a b : Bool) → (a || b) ≡ true → a ≡ false → b ≡ true
other_passes true b h none = cc
other_passes false b h none = h

pub given_each : (locks : List Bool) (n : ℕ) → IsTrue (is_none_or_each n (length locks)) → length (given_or_open locks n) ≡ n
given_each [] n h = length-replicate n false
given_each (x ∷ locks) n h = let some : (length (x ∷ locks) == 0) ≡ false = grind (arith, nat_tests) in same_number (length (x ∷ locks)) n (other_passes _ _ h some)
