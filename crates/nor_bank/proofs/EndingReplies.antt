-- What a reply leaves as it was, and the suspends and the reads left of a call.
use Rattle.std.proofs.Common.{◌≡◌, ◌<◌, ◌+◌, ℕ, List, [], refl, sym, ◌∙◌, ap, arith, Bool, true, false, Option, None}
use Rattle.std.specs.Prelude.{◌&&◌, not, if◌then◌else◌}
use Rattle.nor_cell.specs.Chip.{ChipState, Part, Job, counted}
use Rattle.nor_cell.specs.declared.device.SuspendKind.{SuspendKind}
use Rattle.nor_bus.specs.Bus.{lane}
use Rattle.nor_bus.specs.Driven.{AllLanes}
use Rattle.nor_array.specs.Array.{ArrayState}
use Rattle.nor_array.specs.Admits.{Ends as EndsWith, EndsUnlocked, AsksChips, first_locked, may_come}
use Rattle.nor_array.specs.Needs.{needs_of}
use Rattle.nor_array.specs.declared.entry.Halted.{Halted as HaltCause}
use Rattle.nor_array.specs.declared.entry.Halted.TheVariants.{Off, Stuck}
use Rattle.nor_array.specs.declared.entry.Op.{Op}
use Rattle.nor_array.specs.declared.entry.Op.TheVariants.{Read, Program, EraseOpen, EraseAll, Poll, Lock, Unlock, IsLocked, Arm, PowerOn}
use Rattle.nor_array.specs.declared.entry.Reply.{Reply}
use Rattle.nor_array.specs.declared.entry.Reply.TheVariants.{Done, Opened, Erased, Bit, OutOfRange, TooLong, Busy, Occupied, Locked, NoLocks, NoChipErase, Nothing, NotYet, Failed, Halted}
use Rattle.nor_poll.specs.Suspend.{pauses, is_long}
use Rattle.nor_bank.specs.Counts.{can_beside, may_suspend, erases_after, suspends_after, start_left, EndsErase, LeftFalls, LeftIn, CountsSuspend, GoesOn, KeepsErase}
use Rattle.nor_bank.specs.Locks.{HasReadLock}
use Rattle.nor_bank.specs.Refused.{is_own}
use Rattle.nor_bank.specs.Stands.{Stands, under_of}
use Rattle.nor_bank.specs.State.{BankState}
use Rattle.nor_bank.specs.Whole.{leaves_quiet, MayAnswer}
use Rattle.nor_bank.specs.Work.{kept_after}
use Rattle.nor_bank.specs.declared.kept.Erasing.{Erasing}
use Rattle.nor_bank.proofs.Standing.{is_on_now, quiet_now}

-- ---- what a reply leaves as it was

-- a poll has no work behind the way to the chips
abbrev pub polls : Op → Bool
polls Poll = true
polls op = false

-- a reply that isn't a halt, nor one of a poll
abbrev pub goes_on : Reply → Bool
goes_on Done = true
goes_on Opened = true
goes_on (Bit locked) = true
goes_on (Locked k) = true
goes_on (Failed from to lanes) = true
goes_on reply = false

pub not_halted : (reply : Reply) (cause : HaltCause) → goes_on reply ≡ true → reply ≡ Halted cause → ⊥
not_halted reply cause on is = let both : true ≡ false = sym on ∙ ap goes_on is in cc

pub not_waiting : (reply : Reply) → goes_on reply ≡ true → reply ≡ NotYet → ⊥
not_waiting reply on is = let both : true ≡ false = sym on ∙ ap goes_on is in cc

pub kept_on : (reply : Reply) (kept : Option HaltCause) → goes_on reply ≡ true → kept_after kept reply ≡ kept
kept_on Done kept on = refl
kept_on Opened kept on = refl
kept_on (Bit locked) kept on = refl
kept_on (Locked k) kept on = refl
kept_on (Failed from to lanes) kept on = refl
kept_on (Halted cause) kept on = absurd (cc)
kept_on Erased kept on = refl
kept_on OutOfRange kept on = refl
kept_on TooLong kept on = refl
kept_on (Busy k) kept on = refl
kept_on (Occupied k) kept on = refl
kept_on NoLocks kept on = refl
kept_on NoChipErase kept on = refl
kept_on Nothing kept on = refl
kept_on NotYet kept on = refl

pub suspends_on : (reply : Reply) (may : Bool) (s t : ChipState) → goes_on reply ≡ true → t.suspends ≡ suspends_after may s → CountsSuspend reply may s t
suspends_on Done may s t on is = is
suspends_on Opened may s t on is = is
suspends_on (Bit locked) may s t on is = is
suspends_on (Locked k) may s t on is = is
suspends_on (Failed from to lanes) may s t on is = is
suspends_on (Halted cause) may s t on is = absurd (cc)
suspends_on Erased may s t on is = is
suspends_on OutOfRange may s t on is = is
suspends_on TooLong may s t on is = is
suspends_on (Busy k) may s t on is = is
suspends_on (Occupied k) may s t on is = is
suspends_on NoLocks may s t on is = is
suspends_on NoChipErase may s t on is = is
suspends_on Nothing may s t on is = is
suspends_on NotYet may s t on is = is

pub ends_none : (op : Op) (reply : Reply) (n : ℕ) (old : BankState) → polls op ≡ false → EndsErase op reply n old
ends_none Poll reply n old other = absurd (cc)
ends_none (Read at len) reply n old other = tt
ends_none (Program at new) reply n old other = tt
ends_none (EraseOpen k) reply n old other = tt
ends_none EraseAll reply n old other = tt
ends_none (Lock k) reply n old other = tt
ends_none (Unlock k) reply n old other = tt
ends_none (IsLocked k) reply n old other = tt
ends_none (Arm cut mask) reply n old other = tt
ends_none PowerOn reply n old other = tt

-- ---- suspends of the way are those of the call

pub no_pause : (m p : Bool) (s : ChipState) → p ≡ false → (if m && p then counted s.suspends else s.suspends) ≡ s.suspends
no_pause true p s none = ap (λ (b : Bool). if b then counted s.suspends else s.suspends) none
no_pause false p s none = refl

pub suspends_alike : (op : Op) (kind : SuspendKind) (programs : Bool) (s : ChipState) → polls op ≡ false → is_own op ≡ false → (needs_of op).unlocked ≡ programs
    → ((needs_of op).opens ≡ true → pauses s ≡ false) → suspends_after (can_beside kind programs) s ≡ suspends_after (may_suspend kind op) s
suspends_alike (Read at len) kind programs s other mine is quiet = ap (λ (p : Bool). suspends_after (can_beside kind p) s) (sym is)
suspends_alike (Program at new) kind programs s other mine is quiet = ap (λ (p : Bool). suspends_after (can_beside kind p) s) (sym is)
suspends_alike (Lock k) kind programs s other mine is quiet = ap (λ (p : Bool). suspends_after (can_beside kind p) s) (sym is)
suspends_alike (Unlock k) kind programs s other mine is quiet = ap (λ (p : Bool). suspends_after (can_beside kind p) s) (sym is)
suspends_alike (IsLocked k) kind programs s other mine is quiet = ap (λ (p : Bool). suspends_after (can_beside kind p) s) (sym is)
suspends_alike (EraseOpen k) kind programs s other mine is quiet = no_pause (can_beside kind programs) (pauses s) s (quiet refl)
suspends_alike EraseAll kind programs s other mine is quiet = no_pause (can_beside kind programs) (pauses s) s (quiet refl)
suspends_alike Poll kind programs s other mine is quiet = absurd (cc)
suspends_alike (Arm cut mask) kind programs s other mine is quiet = absurd (cc)
suspends_alike PowerOn kind programs s other mine is quiet = absurd (cc)

pub not_long : (stuck long : Bool) → long ≡ false → (not stuck && long) ≡ false
not_long true long short = refl
not_long false long short = short

-- where nothing is under erase no chip would be suspended
pub quiet_pauses : (b : BankState) (a : ArrayState) → Stands b a → b.halted ≡ None → b.erase ≡ None → AllLanes (λ s. pauses s ≡ false) b.bus
quiet_pauses b a stands running closed c below =
    let s = lane b.bus c in
    let quiet = quiet_now b a (is_on_now b a stands running) closed c below in
    not_long s.part.stuck (is_long s.part.pace_suspend s.job) (ap (λ (j : Job). is_long s.part.pace_suspend j) quiet.shown.job)

-- ---- the reads left

-- a call that opens no erase lets them fall
pub falls_in : (n : ℕ) (op : Op) (reply : Reply) (s t : ChipState) → (reply ≡ Opened → ⊥) → LeftFalls n s t → LeftIn n op reply s t
falls_in n op Opened s t other falls = absurd (other refl)
falls_in n op (Halted cause) s t other falls = tt
falls_in n op reply s t other falls = falls

falls_then : (m n : ℕ) (r s t : ChipState) → LeftFalls m r s → LeftFalls n s t → LeftFalls (m + n) r t
falls_then m n r s t before falls =
    let most = before.0 in
    let few = before.1 in
    let most_then = falls.0 in
    let few_then = falls.1 in
    (omega (arith, most, most_then), omega (arith, few, few_then))

-- they fall on the way to the chips, and then as in the work of the call
pub left_then : (m n : ℕ) (op : Op) (reply : Reply) (r s t : ChipState) → s.part ≡ r.part → LeftFalls m r s → LeftIn n op reply s t → LeftIn (m + n) op reply r t
left_then m n op Opened r s t part before is = is ∙ ap (λ (p : Part). start_left op p) part
left_then m n op (Halted cause) r s t part before is = tt
left_then m n op reply r s t part before is = falls_then m n r s t before is

-- ---- a reply that ends the work of a call

-- such a reply
abbrev pub ends_work : Reply → Bool
ends_work Done = true
ends_work (Bit locked) = true
ends_work (Locked k) = true
ends_work (Failed from to lanes) = true
ends_work reply = false

pub ends_goes : (reply : Reply) → ends_work reply ≡ true → goes_on reply ≡ true
ends_goes Done plain = refl
ends_goes (Bit locked) plain = refl
ends_goes (Locked k) plain = refl
ends_goes (Failed from to lanes) plain = refl
ends_goes Opened plain = refl
ends_goes reply plain = absurd (cc)

pub erases_on : (reply : Reply) (n : ℕ) → ends_work reply ≡ true → erases_after reply n ≡ n
erases_on Opened n plain = absurd (cc)
erases_on reply n plain = refl

pub asks_ends : (reply : Reply) (op : Op) (a : ArrayState) (bytes : List ℕ) → ends_work reply ≡ true → EndsUnlocked (first_locked a op) op a reply bytes
    → AsksChips reply op a bytes
asks_ends NotYet op a bytes plain ends = absurd (cc)
asks_ends (Halted cause) op a bytes plain ends = absurd (cc)
asks_ends reply op a bytes plain ends = ends

pub keeps_failed : (caller : ℕ) (op : Op) (from to lanes : ℕ) (old new : Option Erasing) → polls op ≡ false → GoesOn 0 old new → KeepsErase caller op (Failed from to lanes) old new
keeps_failed caller Poll from to lanes old new other goes = absurd (cc)
keeps_failed caller op from to lanes old new other goes = goes

pub keeps_on : (caller : ℕ) (op : Op) (reply : Reply) (old new : Option Erasing) → polls op ≡ false → ends_work reply ≡ true → GoesOn 0 old new → KeepsErase caller op reply old new
keeps_on caller op Done old new other plain goes = goes
keeps_on caller op (Bit locked) old new other plain goes = goes
keeps_on caller op (Locked k) old new other plain goes = goes
keeps_on caller op (Failed from to lanes) old new other plain goes = keeps_failed caller op from to lanes old new other goes
keeps_on caller op reply old new other plain goes = absurd (cc)

-- ---- a call that opens an erase

pub opens_unlocked : (op : Op) → (needs_of op).opens ≡ true → (needs_of op).unlocked ≡ true
opens_unlocked (EraseOpen k) opens = refl
opens_unlocked EraseAll opens = refl
opens_unlocked (Program at new) opens = refl
opens_unlocked (Read at len) opens = absurd (cc)
opens_unlocked Poll opens = absurd (cc)
opens_unlocked (Lock k) opens = absurd (cc)
opens_unlocked (Unlock k) opens = absurd (cc)
opens_unlocked (IsLocked k) opens = absurd (cc)
opens_unlocked (Arm cut mask) opens = absurd (cc)
opens_unlocked PowerOn opens = absurd (cc)

pub opens_other : (op : Op) → (needs_of op).opens ≡ true → polls op ≡ false
opens_other Poll opens = absurd (cc)
opens_other op opens = refl

pub opens_ends : (op : Op) (a : ArrayState) → (needs_of op).opens ≡ true → EndsWith op a Opened []
opens_ends (EraseOpen k) a opens = (refl, refl)
opens_ends EraseAll a opens = (refl, refl)
opens_ends (Read at len) a opens = absurd (cc)
opens_ends (Program at new) a opens = absurd (cc)
opens_ends Poll a opens = absurd (cc)
opens_ends (Lock k) a opens = absurd (cc)
opens_ends (Unlock k) a opens = absurd (cc)
opens_ends (IsLocked k) a opens = absurd (cc)
opens_ends (Arm cut mask) a opens = absurd (cc)
opens_ends PowerOn a opens = absurd (cc)

pub opens_none : (reply : Reply) → ends_work reply ≡ true → reply ≡ Opened → ⊥
opens_none reply plain is = let both : true ≡ false = sym plain ∙ ap ends_work is in cc

pub opens_quiet : (op : Op) → (needs_of op).opens ≡ true → leaves_quiet op Opened ≡ true → ⊥
opens_quiet (EraseOpen k) opens quiet = cc
opens_quiet EraseAll opens quiet = cc
opens_quiet (Read at len) opens quiet = cc
opens_quiet (Program at new) opens quiet = cc
opens_quiet Poll opens quiet = cc
opens_quiet (Lock k) opens quiet = cc
opens_quiet (Unlock k) opens quiet = cc
opens_quiet (IsLocked k) opens quiet = cc
opens_quiet (Arm cut mask) opens quiet = cc
opens_quiet PowerOn opens quiet = cc

-- ---- what may answer a call

pub answers_off : (op : Op) (b : BankState) (n : ℕ) → MayAnswer op b (Halted (Off n))
answers_off (Read at len) b n = tt
answers_off op b n = tt

pub answers_stuck : (op : Op) (b : BankState) (k : ℕ) → k < b.found.geometry.lanes → may_come (needs_of op).sticks (under_of b.erase) ≡ true → MayAnswer op b (Halted (Stuck k))
answers_stuck (Read at len) b k low comes = (low, comes)
answers_stuck op b k low comes = (low, comes)

pub answers_wait : (op : Op) (b : BankState) → may_come (needs_of op).waits (under_of b.erase) ≡ true → MayAnswer op b NotYet
answers_wait (Read at len) b comes = comes
answers_wait op b comes = comes

pub answers_locked : (op : Op) (b : BankState) (k : ℕ) → (needs_of op).unlocked ≡ true → HasReadLock b (needs_of op).reach k → MayAnswer op b (Locked k)
answers_locked (Read at len) b k unlocked found = (unlocked, found)
answers_locked op b k unlocked found = (unlocked, found)

pub opens_may : (op : Op) (b : BankState) → (needs_of op).opens ≡ true → MayAnswer op b Opened
opens_may (Read at len) b opens = opens
opens_may op b opens = opens
