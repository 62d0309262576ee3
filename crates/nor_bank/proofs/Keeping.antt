-- What no call of a bank changes, over several calls.
use Rattle.std.proofs.Common.{◌≡◌, ◌<◌, ◌∙◌, ℕ, refl, sym, subst}
use Rattle.nor_cell.specs.Chip.{ChipState}
use Rattle.nor_bus.specs.Bus.{BusState, lanes_of}
use Rattle.nor_bus.specs.Driven.{EachLane}
use Rattle.nor_array.specs.declared.entry.Op.{Op}
use Rattle.nor_array.specs.declared.entry.Reply.{Reply}
use Rattle.nor_bus.proofs.Driving.{keeps_then}
use Rattle.nor_bank.specs.State.{BankState}
use Rattle.nor_bank.specs.Whole.{LeavesBank}
use Rattle.nor_bank.specs.Work.{KeepsBank, StaysFiled}

-- no call
pub keeps_self : (b : BankState) → KeepsBank b b
keeps_self b = record {
  found = refl;
  lanes = record { count = refl; each = λ c below. record { part = refl; size = refl; locks = refl; bytes = λ small. small } };
}

-- one call
pub keeps_call : (caller : ℕ) (op : Op) (old new : BankState) (reply : Reply) → LeavesBank caller op old new reply → KeepsBank old new
keeps_call caller op old new reply leaves = record { found = leaves.found; lanes = leaves.lanes }

-- some calls, and then others
pub keeps_bank_then : (x y z : BankState) → KeepsBank x y → KeepsBank y z → KeepsBank x z
keeps_bank_then x y z first next = record {
  found = next.found ∙ first.found;
  lanes = keeps_then x.bus y.bus z.bus first.lanes next.lanes;
}

-- ---- what a file keeps

pub stays_self : (s : ChipState) → StaysFiled s s
stays_self s = record { part = refl; locks = refl; suspends = refl; erases = refl; size = refl }

pub stays_on : (x y z : BusState) → lanes_of y ≡ lanes_of x → EachLane StaysFiled x y → EachLane StaysFiled y z → EachLane StaysFiled x z
stays_on x y z count first next c below =
    let one = first c below in
    let two = next c (subst (λ (n : ℕ). c < n) (sym count) below) in
    record {
      part = two.part ∙ one.part;
      locks = two.locks ∙ one.locks;
      suspends = two.suspends ∙ one.suspends;
      erases = two.erases ∙ one.erases;
      size = two.size ∙ one.size;
    }
