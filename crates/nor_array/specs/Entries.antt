-- What is said of single entries.
use Rattle.std.specs.Prelude.{◌≡◌, ◌≢◌, ℕ, Bool, true, false, List}
use Rattle.std.specs.List.{list_any}
use Rattle.nor_array.specs.declared.entry.Entry.{Entry}
use Rattle.nor_array.specs.declared.entry.Op.{Op}
use Rattle.nor_array.specs.declared.entry.Op.TheVariants.{Arm}
use Rattle.nor_array.specs.declared.entry.Reply.{Reply}
use Rattle.nor_array.specs.declared.entry.Reply.TheVariants.{Nothing, NotYet, Occupied, Halted as HaltedReply}

-- the entry is of this call by this caller
pub record IsOf (caller : ℕ) (op : Op) (e : Entry) : Type 0 where
  pub called_by : e.caller ≡ caller
  pub calls : e.op ≡ op

-- a reply that a caller which waits isn't given
pub record IsAwaited (reply : Reply) : Type 0 where
  pub yet : reply ≢ NotYet
  pub nothing : reply ≢ Nothing
  pub occupied : (block : ℕ) → reply ≢ Occupied block

-- the bank does no more
abbrev pub is_halt : Reply → Bool
is_halt (HaltedReply cause) = true
is_halt _ = false

-- some entry is a halt
abbrev pub has_halt : List Entry → Bool
has_halt es = list_any (λ e. is_halt e.reply) es

abbrev pub is_arming : Op → Bool
is_arming (Arm cut mask) = true
is_arming _ = false

-- some entry is of a call that arms a cut
abbrev pub has_arming : List Entry → Bool
has_arming es = list_any (λ e. is_arming e.op) es
