-- Reads and programs leave the locks, and meet none where none is set.
use Rattle.std.proofs.Common.{◌≡◌, ◌+◌, ◌∙◌, ◌&&◌, ℕ, zero, suc, List, length, Bool, true, false, Some, None, if◌then◌else◌, refl, ap}
use Rattle.nor_array.specs.Array.{ArrayState, is_locked, lowest}
use Rattle.nor_array.specs.Admits.{first_locked}
use Rattle.nor_array.specs.After.{after_reply, after_halted}
use Rattle.nor_array.specs.Needs.{needs_of}
use Rattle.nor_array.specs.Refusals.{touches}
use Rattle.nor_array.specs.declared.entry.Halted.{Halted as HaltCause}
use Rattle.nor_array.specs.declared.entry.Op.{Op}
use Rattle.nor_array.specs.declared.entry.Op.TheVariants.{Read, Program}
use Rattle.nor_array.specs.declared.entry.Reply.{Reply}
use Rattle.nor_array.specs.declared.entry.Reply.TheVariants.{Halted}
use Rattle.nor_array.specs.declared.state.Power.{Power}
use Rattle.nor_array.specs.declared.state.Power.TheVariants.{On}

abbrev pub is_range : Op → Bool
is_range (Read at len) = true
is_range (Program at new) = true
is_range _ = false

false_true : false ≡ true → ⊥
false_true is = cc

halt_locks : (power : Power) (cause : HaltCause) (op : Op) (bytes : List ℕ) (a : ArrayState) → is_range op ≡ true → (after_halted power cause op bytes a).locks ≡ a.locks
halt_locks On cause (Read at len) bytes a range = refl
halt_locks On cause (Program at new) bytes a range = refl
halt_locks On cause op bytes a range = absurd (false_true range)
halt_locks power cause op bytes a range = refl

pub range_locks : (r : Reply) (caller : ℕ) (op : Op) (bytes : List ℕ) (a : ArrayState) → is_range op ≡ true
    → (after_reply r (record { caller = caller; op = op; reply = r; bytes = bytes }) a).locks ≡ a.locks
range_locks (Halted cause) caller op bytes a range = halt_locks a.power cause op bytes a range
range_locks r caller (Read at len) bytes a range = refl
range_locks r caller (Program at new) bytes a range = refl
range_locks r caller op bytes a range = absurd (false_true range)

pub none_lowest : (test : ℕ → Bool) (k n : ℕ) → ((b : ℕ) → test b ≡ false) → lowest test k n ≡ None
none_lowest test k zero none = refl
none_lowest test k (suc n) none = ap (λ (b : Bool). if b then Some k else lowest test (k + 1) n) (none k) ∙ none_lowest test (k + 1) n none

and_false : (x y : Bool) → y ≡ false → (x && y) ≡ false
and_false true y is = is
and_false false y is = refl

-- no block is locked of those that a program touches
pub none_locked : (a : ArrayState) (at : ℕ) (new : List ℕ) → ((n : ℕ) → is_locked a n ≡ false) → first_locked a (Program at new) ≡ None
none_locked a at new unlocked =
    none_lowest (λ b. touches a (needs_of (Program at new)).reach b && is_locked a b) 0 (length a.consts.blocks)
    (λ b. and_false (touches a (needs_of (Program at new)).reach b) (is_locked a b) (unlocked b))
