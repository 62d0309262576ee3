-- What a bank answers any call without work: by what it keeps, and by what the call touches and
-- asks for.
use Rattle.std.specs.Prelude.{◌≡◌, ◌&&◌, not, ℕ, [], ◌∷◌, replicate, Option, Some, None, Bool, true, false}
use Rattle.nor_bus.specs.Cycles.{BusFails}
use Rattle.nor_query.specs.Derived.{locks_of, chip_erase_of}
use Rattle.nor_probe.specs.declared.probing.Found.{Found}
use Rattle.nor_array.specs.Array.{ArrayState}
use Rattle.nor_array.specs.Needs.{needs_of}
use Rattle.nor_array.specs.Refusals.{refusal, first_some, when}
use Rattle.nor_array.specs.declared.needs.CallNeeds.{CallNeeds}
use Rattle.nor_array.specs.declared.state.ArmedCut.{ArmedCut}
use Rattle.nor_array.specs.declared.entry.Halted.{Halted as HaltCause}
use Rattle.nor_array.specs.declared.entry.Halted.TheVariants.{Off, Stuck}
use Rattle.nor_array.specs.declared.entry.Op.{Op}
use Rattle.nor_array.specs.declared.entry.Op.TheVariants.{Arm, PowerOn}
use Rattle.nor_array.specs.declared.entry.Reply.{Reply}
use Rattle.nor_array.specs.declared.entry.Reply.TheVariants.{NoLocks, NoChipErase, Halted}
use Rattle.nor_bank.specs.State.{BankState, size_of}
use Rattle.nor_bank.specs.Stands.{constants_of, under_of, kept_power}
use Rattle.nor_bank.specs.Work.{with_bus}

-- the number that a halt names
abbrev pub kept_cut : Option HaltCause → Option ArmedCut
kept_cut None = None
kept_cut (Some (Off after)) = Some (record { after = after; mask = 0 })
kept_cut (Some (Stuck k)) = None

-- An array as large as the bank, with its blocks and what it offers and keeps: all that refusals
-- look at.
abbrev pub outline : BankState → ArrayState
outline b = record {
  consts = constants_of b.found [] [];
  bytes = replicate (size_of b.found) 0;
  locks = [];
  under = under_of b.erase;
  power = kept_power b.halted;
  armed = kept_cut b.halted;
}

-- the first refusal of the call, in the array's order
abbrev pub bank_refusal : BankState → (caller : ℕ) → Op → Option Reply
bank_refusal b caller op = refusal (outline b) caller op

-- arm and power-on are calls of the bank's own, and ask its chips for nothing
abbrev pub is_own : Op → Bool
is_own (Arm cut mask) = true
is_own PowerOn = true
is_own _ = false

-- what the bank doesn't offer
abbrev pub not_offered : Found → CallNeeds → Option Reply
not_offered f needs = first_some
    (when (needs.locks && not (locks_of f.query.extended)) NoLocks
    ∷ when (needs.chip_erase && not (chip_erase_of f.query.set f.query.times)) NoChipErase
    ∷ [])

-- A refusal leaves all as it was; but after a loss of power a cycle is tried, and fails.
abbrev pub Refuses : Reply → BankState → BankState → Type 0
Refuses (Halted (Off after)) old new = (new ≡ with_bus old new.bus) × BusFails old.bus new.bus
Refuses _ old new = new ≡ old

-- Nothing refuses the call, and it asks something of the chips.
pub record Works (caller : ℕ) (op : Op) (b : BankState) : Type 0 where
  pub unrefused : bank_refusal b caller op ≡ None
  pub busy : (needs_of op).idle ≡ false
