-- The begin and the end of an erase in turns.
use Rattle.std.specs.Prelude.{◌≡◌, ◌<◌, ◌^◌, ℕ, Bool, true, false, ◌==◌, if◌then◌else◌, Some}
use Rattle.nor_cell.specs.Bits.{has_bit}
use Rattle.nor_cell.specs.Chip.{covered, span_end}
use Rattle.nor_cell.specs.declared.device.Span.{Span}
use Rattle.nor_poll.specs.UnderErase.{state_at}
use Rattle.nor_poll.specs.declared.lanes.LaneState.{LaneState}
use Rattle.nor_poll.specs.declared.lanes.LaneState.TheVariants.{Running, Suspended, Finished, Broken}
use Rattle.nor_poll.specs.declared.lanes.Lanes.{Lanes}
use Rattle.nor_probe.specs.declared.probing.Found.{Found}
use Rattle.nor_array.specs.Array.{chip_target}
use Rattle.nor_array.specs.declared.state.Target.{Target}
use Rattle.nor_array.specs.declared.entry.Reply.{Reply}
use Rattle.nor_array.specs.declared.entry.Reply.TheVariants.{Erased, Failed}
use Rattle.nor_bank.specs.State.{BankState, blocks_of}
use Rattle.nor_bank.specs.declared.kept.Erasing.{Erasing}

-- ---- the begin

-- An erase of this is under way from now on, for this caller: every lane of the bank runs.
pub record Opens (target : Target) (caller : ℕ) (old new : BankState) : Type 0 where
  pub erase : Erasing
  pub kept : new ≡ record old { erase = Some erase }
  pub target_is : erase.target ≡ target
  pub caller_is : erase.caller ≡ caller
  pub unpolled : erase.polls ≡ 0
  pub run : (c : ℕ) → c < old.found.geometry.lanes → state_at erase.lanes c ≡ Running

-- ---- the end

-- what is under erase, as bytes of the bank
abbrev pub erased_span : Found → Target → Span
erased_span f target = covered (chip_target target) (blocks_of f)

-- a lane's erase broke off
abbrev pub is_torn : LaneState → Bool
is_torn Running = false
is_torn Suspended = false
is_torn Finished = false
is_torn Broken = true

-- The bits are exactly those of the lanes, so many, that broke off.
pub record AreTorn (count : ℕ) (lanes : Lanes) (bits : ℕ) : Type 0 where
  pub few : bits < 2 ^ count
  pub each : (c : ℕ) → c < count → has_bit bits c ≡ is_torn (state_at lanes c)

-- what the end of an erase is told by
abbrev pub ended_with : Span → (bits : ℕ) → Reply
ended_with span bits = if bits == 0 then Erased else Failed span.from (span_end span) bits

-- It ends so, by what became of the lanes.
pub record EndsWith (f : Found) (target : Target) (lanes : Lanes) (reply : Reply) : Type 0 where
  pub bits : ℕ
  pub torn : AreTorn f.geometry.lanes lanes bits
  pub reply_is : reply ≡ ended_with (erased_span f target) bits
