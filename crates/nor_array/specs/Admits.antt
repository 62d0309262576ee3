-- Which entries an array admits.
use Rattle.std.specs.Prelude.{◌≡◌, ◌<◌, ◌≤◌, ◌+◌, ◌-◌, ◌⊎◌, ℕ, List, [], ◌∷◌, length, take, drop, slice_index, bit_and, Bool, true, false, not, ◌==◌, ◌&&◌, nat_lt, nat_le, if◌then◌else◌, Option, Some, None, is_some}
use Rattle.std.specs.List.{list_any}
use Rattle.nor_cell.specs.Bits.{IsBetween, AreBytes}
use Rattle.nor_cell.specs.Chip.{span_end}
use Rattle.nor_cell.specs.declared.device.Span.{Span}
use Rattle.nor_array.specs.Array.{ArrayState, range, open_span, is_locked, is_open, meets, lowest}
use Rattle.nor_array.specs.Refusals.{refusal, touches}
use Rattle.nor_array.specs.Needs.{needs_of}
use Rattle.nor_array.specs.declared.needs.Chance.{Chance}
use Rattle.nor_array.specs.declared.needs.Chance.TheVariants.{Never, BesideErase, Always}
use Rattle.nor_array.specs.declared.needs.Reach.{Reach}
use Rattle.nor_array.specs.declared.state.OpenErase.{OpenErase}
use Rattle.nor_array.specs.declared.state.ArmedCut.{ArmedCut}
use Rattle.nor_array.specs.declared.entry.Op.{Op}
use Rattle.nor_array.specs.declared.entry.Op.TheVariants.{Read, Program, EraseOpen, EraseAll, Poll, Lock, Unlock, IsLocked, Arm, PowerOn}
use Rattle.nor_array.specs.declared.entry.Reply.{Reply}
use Rattle.nor_array.specs.declared.entry.Reply.TheVariants.{Done, Opened, Erased, Bit, Locked, NotYet, Failed, Halted as HaltedReply}
use Rattle.nor_array.specs.declared.entry.Halted.{Halted}
use Rattle.nor_array.specs.declared.entry.Halted.TheVariants.{Off as OffHalt, Stuck as StuckHalt}
use Rattle.nor_array.specs.declared.entry.Entry.{Entry}

-- Arm and PowerOn are the bank's own: their caller is 0.
abbrev pub HasItsCaller : Op → ℕ → Type 0
HasItsCaller (Arm cut mask) caller = caller ≡ 0
HasItsCaller PowerOn caller = caller ≡ 0
HasItsCaller _ caller = Unit {0}

-- an answer that may come at some times comes where this is under erase
abbrev pub may_come : Chance → Option OpenErase → Bool
may_come Never under = false
may_come BesideErase under = is_open under
may_come Always under = true

-- Halted by loss of power comes only where a cut is armed, and names the number of cycles with which it was.
abbrev pub IsArmed : Option ArmedCut → ℕ → Type 0
IsArmed None n = ⊥
IsArmed (Some cut) n = cut.after ≡ n

-- the lowest locked block that is touched
abbrev pub lowest_locked : ArrayState → Reach → Option ℕ
lowest_locked a reach = lowest (λ b. touches a reach b && is_locked a b) 0 (length a.consts.blocks)

-- and by a call whose blocks have to be unlocked
abbrev pub first_locked : ArrayState → Op → Option ℕ
first_locked a op = if (needs_of op).unlocked then lowest_locked a (needs_of op).reach else None

-- so many bytes, of any value
pub record AreUncertain (n : ℕ) (bytes : List ℕ) : Type 0 where
  pub size : length bytes ≡ n
  pub values : AreBytes bytes

-- each byte is one that programming the data may leave of the old one
pub record AllBetween (old new bytes : List ℕ) : Type 0 where
  pub size : length bytes ≡ length old
  pub each : (k : ℕ) → k < length old → IsBetween (slice_index old k) (slice_index new k) (slice_index bytes k)

-- what a halt leaves in the range of a program: bytes between, and the old ones where a touched block is locked
abbrev pub ProgramLeaves : Option ℕ → (old new bytes : List ℕ) → Type 0
ProgramLeaves None old new bytes = AllBetween old new bytes
ProgramLeaves (Some b) old new bytes = bytes ≡ old

-- the byte that tells how a block stands
abbrev pub lock_byte : Bool → ℕ
lock_byte true = 1
lock_byte false = 0

-- What a halt leaves of a lock: the old bit or the one asked for, and the old one where a lane is stuck.
abbrev pub LockLeaves : Halted → (old asked : Bool) → List ℕ → Type 0
LockLeaves (OffHalt n) old asked left = (left ≡ lock_byte old ∷ []) ⊎ (left ≡ lock_byte asked ∷ [])
LockLeaves (StuckHalt lane) old asked left = left ≡ lock_byte old ∷ []

-- and of the call's own work
abbrev pub WorkLeaves : Op → Halted → ArrayState → List ℕ → Type 0
WorkLeaves (Program at new) cause a left =
    ProgramLeaves (first_locked a (Program at new)) (range a.bytes at (length new)) new left
WorkLeaves (Lock b) cause a left = LockLeaves cause (is_locked a b) true left
WorkLeaves (Unlock b) cause a left = LockLeaves cause (is_locked a b) false left
WorkLeaves _ cause a left = left ≡ []

-- The bytes of a halt: any in what is under erase, and after them what the call's own work has become.
abbrev pub HaltLeaves : Halted → Op → ArrayState → List ℕ → Type 0
HaltLeaves cause op a bytes =
    AreUncertain (open_span a).len (take (open_span a).len bytes) × WorkLeaves op cause a (drop (open_span a).len bytes)

-- programming this place would clear a bit
abbrev pub would_change : (old : List ℕ) (at : ℕ) (new : List ℕ) (p : ℕ) → Bool
would_change old at new p =
    nat_le at p && nat_lt p (at + length new)
    && not (bit_and (slice_index old p) (slice_index new (p - at)) == slice_index old p)

-- a byte of the span lies in the range and would change
abbrev pub span_changes : (old : List ℕ) (at : ℕ) (new : List ℕ) (span : Span) → Bool
span_changes old at new span = is_some (lowest (would_change old at new) span.from span.len)

-- a weak span would change
abbrev pub program_breaks : ArrayState → ℕ → List ℕ → Bool
program_breaks a at new = list_any (span_changes a.bytes at new) a.consts.weak

-- a weak span would change that meets a part of the range, or that ends before a place
abbrev pub breaks_here : ArrayState → (at : ℕ) → List ℕ → (from len : ℕ) → Bool
breaks_here a at new from len =
    list_any (λ span. meets from len span && span_changes a.bytes at new span) a.consts.weak

abbrev pub breaks_before : ArrayState → (at : ℕ) → List ℕ → (from : ℕ) → Bool
breaks_before a at new from =
    list_any (λ span. nat_le (span_end span) from && span_changes a.bytes at new span) a.consts.weak

-- Where a program may fail: `from` up to `to` lie in its range, a weak span that meets them would change, and none that
-- ends before them would. It leaves bytes between there.
pub record FailsWithin (a : ArrayState) (at : ℕ) (new : List ℕ) (from to : ℕ) (bytes : List ℕ) : Type 0 where
  pub begins : at ≤ from
  pub some : from < to
  pub ends : to ≤ at + length new
  pub here : breaks_here a at new from (to - from) ≡ true
  pub not_before : breaks_before a at new from ≡ false
  pub between : AllBetween (range a.bytes from (to - from)) (range new (from - at) (to - from)) bytes

-- A program is Done exactly where no weak span would change, and Failed exactly where one would.
abbrev pub ProgramEnds : ArrayState → ℕ → List ℕ → Reply → List ℕ → Type 0
ProgramEnds a at new Done bytes = (program_breaks a at new ≡ false) × (bytes ≡ [])
ProgramEnds a at new (Failed from to lanes) bytes =
    (program_breaks a at new ≡ true) × FailsWithin a at new from to bytes
ProgramEnds a at new _ bytes = ⊥

-- a weak span meets what is under erase
abbrev pub erase_breaks : ArrayState → Bool
erase_breaks a = list_any (meets (open_span a).from (open_span a).len) a.consts.weak

-- A failed erase names all that was under erase, and leaves any bytes there.
pub record FailsWhole (a : ArrayState) (from to : ℕ) (bytes : List ℕ) : Type 0 where
  pub begins : from ≡ (open_span a).from
  pub ends : to ≡ span_end (open_span a)
  pub left : AreUncertain (open_span a).len bytes

-- A poll is Erased exactly where no weak span meets what is under erase, and Failed exactly where one does.
abbrev pub PollEnds : ArrayState → Reply → List ℕ → Type 0
PollEnds a Erased bytes = (erase_breaks a ≡ false) × (bytes ≡ [])
PollEnds a (Failed from to lanes) bytes = (erase_breaks a ≡ true) × FailsWhole a from to bytes
PollEnds a _ bytes = ⊥

-- What ends a call that nothing refuses or halts. A read gives the array's bytes, and IsLocked the lock bit.
abbrev pub Ends : Op → ArrayState → Reply → List ℕ → Type 0
Ends (Read at len) a reply bytes = (reply ≡ Done) × (bytes ≡ range a.bytes at len)
Ends (Program at new) a reply bytes = ProgramEnds a at new reply bytes
Ends (EraseOpen b) a reply bytes = (reply ≡ Opened) × (bytes ≡ [])
Ends EraseAll a reply bytes = (reply ≡ Opened) × (bytes ≡ [])
Ends Poll a reply bytes = PollEnds a reply bytes
Ends (Lock b) a reply bytes = (reply ≡ Done) × (bytes ≡ [])
Ends (Unlock b) a reply bytes = (reply ≡ Done) × (bytes ≡ [])
Ends (IsLocked b) a reply bytes = (reply ≡ Bit (is_locked a b)) × (bytes ≡ [])
Ends (Arm cut mask) a reply bytes = ⊥
Ends PowerOn a reply bytes = ⊥

-- A call whose blocks have to be unlocked is Locked exactly where it touches a locked block, and names the lowest.
abbrev pub EndsUnlocked : Option ℕ → Op → ArrayState → Reply → List ℕ → Type 0
EndsUnlocked None op a reply bytes = Ends op a reply bytes
EndsUnlocked (Some b) op a reply bytes = (reply ≡ Locked b) × (bytes ≡ [])

-- what a call may be answered that asks something of the chips
abbrev pub AsksChips : Reply → Op → ArrayState → List ℕ → Type 0
AsksChips NotYet op a bytes = (may_come (needs_of op).waits a.under ≡ true) × (bytes ≡ [])
AsksChips (HaltedReply (OffHalt n)) op a bytes = IsArmed a.armed n × HaltLeaves (OffHalt n) op a bytes
AsksChips (HaltedReply (StuckHalt lane)) op a bytes =
    (may_come (needs_of op).sticks a.under ≡ true) × HaltLeaves (StuckHalt lane) op a bytes
AsksChips reply op a bytes = EndsUnlocked (first_locked a op) op a reply bytes

abbrev pub Unrefused : Bool → Entry → ArrayState → Type 0
Unrefused true e a = (e.reply ≡ Done) × (e.bytes ≡ [])
Unrefused false e a = AsksChips e.reply e.op a e.bytes

-- Where a refusal holds, it is the reply and there are no bytes.
abbrev pub Answers : Option Reply → Entry → ArrayState → Type 0
Answers (Some reply) e a = (e.reply ≡ reply) × (e.bytes ≡ [])
Answers None e a = Unrefused (needs_of e.op).idle e a

-- the array admits the entry
abbrev pub Admits : ArrayState → Entry → Type 0
Admits a e = HasItsCaller e.op e.caller × Answers (refusal a e.caller e.op) e a
