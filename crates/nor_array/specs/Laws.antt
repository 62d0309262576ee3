-- Laws of the definitions, by which they are seen to say what is meant.
use Rattle.std.specs.Prelude.{◌≡◌, ◌+◌, ◌↔◌, ℕ, List, [], ◌∷◌, ◌++◌, length, slice_index, bit_and, Bool, true, false, not, ◌==◌, ◌&&◌, ◌||◌, nat_lt, nat_le, Some, None}
use Rattle.nor_cell.specs.Chip.{is_within}
use Rattle.nor_array.specs.Array.{ArrayState, IsArray, open_span, is_on, is_locked}
use Rattle.nor_array.specs.After.{after, after_all}
use Rattle.nor_array.specs.Refusals.{refusal}
use Rattle.nor_array.specs.Admits.{Admits, HasItsCaller}
use Rattle.nor_array.specs.Legal.{Facts, Agrees, Legal, is_stuck}
use Rattle.nor_array.specs.Entries.{has_halt, has_arming}
use Rattle.nor_array.specs.declared.state.Power.TheVariants.{On}
use Rattle.nor_array.specs.declared.entry.Op.{Op}
use Rattle.nor_array.specs.declared.entry.Op.TheVariants.{Program, EraseOpen, EraseAll, Poll, Lock, Unlock, Arm, PowerOn}
use Rattle.nor_array.specs.declared.entry.Reply.{Reply}
use Rattle.nor_array.specs.declared.entry.Reply.TheVariants.{Done, Opened, Erased, Failed, Halted as HaltedReply}
use Rattle.nor_array.specs.declared.entry.Entry.{Entry}

-- an entry of this call that the array admits
pub record Admitted (a : ArrayState) (caller : ℕ) (op : Op) : Type 0 where
  pub entry : Entry
  pub caller_is : entry.caller ≡ caller
  pub op_is : entry.op ≡ op
  pub admits : Admits a entry

-- Every call has an answer, in every state.
abbrev pub EveryCallHasAnAnswer : Type 0
EveryCallHasAnAnswer = (a : ArrayState) (caller : ℕ) (op : Op) → HasItsCaller op caller → Admitted a caller op

-- What array and call alone decide has one reply and no bytes, whatever else may be chosen.
abbrev pub RefusalsAreDecided : Type 0
RefusalsAreDecided = (a : ArrayState) (e : Entry) (reply : Reply) → Admits a e
    → refusal a e.caller e.op ≡ Some reply → (e.reply ≡ reply) × (e.bytes ≡ [])

-- an array goes on to be one
abbrev pub EntriesKeepArrays : Type 0
EntriesKeepArrays = (a : ArrayState) (e : Entry) → IsArray a → Admits a e → IsArray (after a e)

-- the place lies in the range that the call programs
abbrev pub programs_at : Op → ℕ → Bool
programs_at (Program at new) p = nat_le at p && nat_lt p (at + length new)
programs_at _ p = false

-- The entry may change the byte at this place. A failed program changes none from `to` on; a failed erase what was
-- under erase alone.
abbrev pub may_change : Reply → Op → ArrayState → ℕ → Bool
may_change Done op a p = programs_at op p
may_change Erased op a p = is_within (open_span a) p
may_change (Failed from to lanes) (Program at new) a p = programs_at (Program at new) p && nat_lt p to
may_change (Failed from to lanes) Poll a p = is_within (open_span a) p
may_change (Failed from to lanes) op a p = false
may_change (HaltedReply cause) op a p = is_on a.power && (programs_at op p || is_within (open_span a) p)
may_change _ op a p = false

-- the call is of this lock
abbrev pub is_of_lock : Op → ℕ → Bool
is_of_lock (Lock b) block = b == block
is_of_lock (Unlock b) block = b == block
is_of_lock _ block = false

-- the entry may change this lock
abbrev pub may_relock : Reply → Op → ArrayState → ℕ → Bool
may_relock Done PowerOn a block = not a.consts.keeps
may_relock Done op a block = is_of_lock op block
may_relock (HaltedReply cause) op a block = is_on a.power && is_of_lock op block
may_relock _ op a block = false

-- the entry begins or ends an erase
abbrev pub names_under : Reply → Op → ArrayState → Bool
names_under Done PowerOn a = true
names_under Opened (EraseOpen b) a = true
names_under Opened EraseAll a = true
names_under Erased Poll a = true
names_under (Failed from to lanes) Poll a = true
names_under (HaltedReply cause) op a = is_on a.power
names_under _ op a = false

-- the entry turns power on, or is a first halt
abbrev pub names_power : Reply → Op → ArrayState → Bool
names_power Done PowerOn a = true
names_power (HaltedReply cause) op a = is_on a.power
names_power _ op a = false

-- the entry arms a cut, or power-on drops it
abbrev pub names_armed : Reply → Op → Bool
names_armed Done (Arm cut mask) = true
names_armed Done PowerOn = true
names_armed _ op = false

-- What an entry doesn't name stays: the constants, the bytes but for the range of a program, below `to` where it
-- failed, and those of an erase that ends, the locks but for the one of a lock call and all of them at a power-on
-- that doesn't keep them, the erase under way, power and the armed cut.
pub record KeepsTheRest (a : ArrayState) (e : Entry) : Type 0 where
  pub consts : (after a e).consts ≡ a.consts
  pub size : length (after a e).bytes ≡ length a.bytes
  pub bytes : (p : ℕ) → may_change e.reply e.op a p ≡ false → slice_index (after a e).bytes p ≡ slice_index a.bytes p
  pub locks : (b : ℕ) → may_relock e.reply e.op a b ≡ false → is_locked (after a e) b ≡ is_locked a b
  pub under : names_under e.reply e.op a ≡ false → (after a e).under ≡ a.under
  pub power : names_power e.reply e.op a ≡ false → (after a e).power ≡ a.power
  pub armed : names_armed e.reply e.op ≡ false → (after a e).armed ≡ a.armed

abbrev pub EntriesKeepTheRest : Type 0
EntriesKeepTheRest = (a : ArrayState) (e : Entry) → IsArray a → Admits a e → KeepsTheRest a e

-- No entry sets a bit outside what is under erase.
abbrev pub EntriesOnlyClear : Type 0
EntriesOnlyClear = (a : ArrayState) (e : Entry) (p : ℕ) → IsArray a → Admits a e → is_within (open_span a) p ≡ false
    → bit_and (slice_index (after a e).bytes p) (slice_index a.bytes p) ≡ slice_index (after a e).bytes p

-- A history is legal where its front is, and its last entry after it.
abbrev pub LegalByTheLast : Type 0
LegalByTheLast = (facts : Facts) (a : ArrayState) (es : List Entry) (e : Entry)
    → Legal facts a (es ++ e ∷ []) ↔ (Legal facts a es × Admits (after_all a es) e × Agrees facts (after_all a es) e)

-- No entry is a halt where power is on and no cut is armed, no entry arms one, and no lane is stuck.
abbrev pub HaltsHaveACause : Type 0
HaltsHaveACause = (facts : Facts) (a : ArrayState) (es : List Entry) → Legal facts a es → a.power ≡ On → a.armed ≡ None
    → has_arming es ≡ false → ((lane : ℕ) → is_stuck facts lane ≡ false) → has_halt es ≡ false
