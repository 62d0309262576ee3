-- The refusals that the array and the call alone decide, in their order.
use Rattle.std.specs.Prelude.{◌+◌, ℕ, List, [], ◌∷◌, length, Bool, true, false, not, ◌==◌, ◌&&◌, nat_lt, nat_le, if◌then◌else◌, Option, Some, None}
use Rattle.nor_array.specs.Array.{ArrayState, span_of, meets, is_on, lowest}
use Rattle.nor_array.specs.Needs.{needs_of}
use Rattle.nor_array.specs.declared.needs.CallNeeds.{CallNeeds}
use Rattle.nor_array.specs.declared.needs.Reach.{Reach}
use Rattle.nor_array.specs.declared.needs.Reach.TheVariants.{Nowhere, Range, Block, Everywhere}
use Rattle.nor_array.specs.declared.state.Target.{Target}
use Rattle.nor_array.specs.declared.state.Target.TheVariants.{OneBlock, AllBlocks}
use Rattle.nor_array.specs.declared.state.OpenErase.{OpenErase}
use Rattle.nor_array.specs.declared.state.ArmedCut.{ArmedCut}
use Rattle.nor_array.specs.declared.state.Power.{Power}
use Rattle.nor_array.specs.declared.state.Power.TheVariants.{On, Off, Stuck}
use Rattle.nor_array.specs.declared.entry.Op.{Op}
use Rattle.nor_array.specs.declared.entry.Op.TheVariants.{Poll, PowerOn}
use Rattle.nor_array.specs.declared.entry.Reply.{Reply}
use Rattle.nor_array.specs.declared.entry.Reply.TheVariants.{OutOfRange, TooLong, Busy, Occupied, NoLocks, NoChipErase, Nothing, Halted as HaltedReply}
use Rattle.nor_array.specs.declared.entry.Halted.TheVariants.{Off as OffHalt, Stuck as StuckHalt}

-- OutOfRange: the bytes, or the block, aren't there.
abbrev pub is_outside : ArrayState → Reach → Bool
is_outside a Nowhere = false
is_outside a (Range at len) = nat_lt (length a.bytes) (at + len)
is_outside a (Block b) = nat_le (length a.consts.blocks) b
is_outside a Everywhere = false

-- TooLong: a read or a program of more than 4,096 bytes.
abbrev pub is_too_long : Reach → Bool
is_too_long (Range at len) = nat_lt 4096 len
is_too_long _ = false

abbrev pub is_power_on : Op → Bool
is_power_on PowerOn = true
is_power_on _ = false

-- the number of cycles with which the cut was armed
abbrev pub armed_after : Option ArmedCut → ℕ
armed_after None = 0
armed_after (Some cut) = cut.after

-- Halted, kept: an earlier call halted. Power-on leads back from Off alone.
abbrev pub kept_halt : Power → Option ArmedCut → Op → Option Reply
kept_halt On armed op = None
kept_halt Off armed op = if is_power_on op then None else Some (HaltedReply (OffHalt (armed_after armed)))
kept_halt (Stuck lane) armed op = Some (HaltedReply (StuckHalt lane))

abbrev pub owns : Option OpenErase → ℕ → Bool
owns None caller = false
owns (Some open_erase) caller = open_erase.caller == caller

-- Nothing: a poll of a caller that owns no erase, and power-on where power is on.
abbrev pub has_nothing : ArrayState → ℕ → Op → Bool
has_nothing a caller Poll = not (owns a.under caller)
has_nothing a caller PowerOn = is_on a.power
has_nothing a caller _ = false

-- this block is touched
abbrev pub touches : ArrayState → Reach → ℕ → Bool
touches a Nowhere b = false
touches a (Range at len) b = meets at len (span_of a b)
touches a (Block c) b = c == b
touches a Everywhere b = true

-- the lowest block under erase that is touched
abbrev pub touched_open : Target → ArrayState → Reach → Option ℕ
touched_open (OneBlock b) a reach = if touches a reach b then Some b else None
touched_open AllBlocks a reach = lowest (touches a reach) 0 (length a.consts.blocks)

-- Busy: the call touches a block under erase. An erase of all blocks isn't told so.
abbrev pub first_busy : OpenErase → ArrayState → CallNeeds → Option ℕ
first_busy open_erase a needs = if needs.chip_erase then None else touched_open open_erase.target a needs.reach

-- the lowest block under erase
abbrev pub first_open : Target → ℕ
first_open (OneBlock b) = b
first_open AllBlocks = 0

abbrev pub when : Bool → Reply → Option Reply
when holds reply = if holds then Some reply else None

-- Where none is busy, Occupied: the call would begin another erase.
abbrev pub busy_or_occupied : Option ℕ → OpenErase → Bool → Option Reply
busy_or_occupied (Some b) open_erase opens = Some (Busy b)
busy_or_occupied None open_erase opens = when opens (Occupied (first_open open_erase.target))

abbrev pub while_open : Option OpenErase → ArrayState → CallNeeds → Option Reply
while_open None a needs = None
while_open (Some open_erase) a needs = busy_or_occupied (first_busy open_erase a needs) open_erase needs.opens

-- the first reply of these, if there is one
abbrev pub first_some : List (Option Reply) → Option Reply
first_some [] = None
first_some (None ∷ later) = first_some later
first_some (Some reply ∷ later) = Some reply

-- The first of these that holds is the reply.
abbrev pub refusal : ArrayState → ℕ → Op → Option Reply
refusal a caller op = first_some
    (when (is_outside a (needs_of op).reach) OutOfRange
    ∷ when (is_too_long (needs_of op).reach) TooLong
    ∷ kept_halt a.power a.armed op
    ∷ when (has_nothing a caller op) Nothing
    ∷ while_open a.under a (needs_of op)
    ∷ when ((needs_of op).locks && not a.consts.has_locks) NoLocks
    ∷ when ((needs_of op).chip_erase && not a.consts.has_chip_erase) NoChipErase
    ∷ [])
