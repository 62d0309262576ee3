-- What is left of a chip where a call was given up.
use Rattle.std.proofs.Common.{◌≡◌, ◌+◌, ◌-◌, ◌<◌, inl, inr, ℕ, refl, sym, ap, subst, ◌∙◌, arith, Bool, true, false, Option, Some, None, is_some, bit_and, List, length, slice_index, unwrap_or}
use Rattle.nor_cell.specs.Bits.{IsBetween, ChangesWithin}
use Rattle.nor_cell.specs.Chip.{ChipState, Flags, Mode, Step, Job, Idle}
use Rattle.nor_cell.specs.Look.{break_of, Programmed}
use Rattle.nor_cell.specs.Power.{is_erasing_at, programs_at}
use Rattle.nor_bus.specs.Driven.{Darkens}
use Rattle.nor_cell.specs.Steps.{Remains}
use Rattle.nor_poll.specs.Losing.{IsUnmoved, IsLeft, Loses}
use Rattle.nor_poll.proofs.Between.{kept_between, byte_between}

pub remains_then : (s m t : ChipState) → Remains s m → Remains m t → Remains s t
remains_then s m t h k = record { part = k.part ∙ h.part; size = k.size ∙ h.size; locks = k.locks ∙ h.locks; erases = k.erases ∙ h.erases }

-- Of these cells, only those from place `at` on have changed, to bits between what they were and these bytes.
abbrev pub TornBy : ℕ → List ℕ → List ℕ → List ℕ → Type 0
TornBy at bytes old new = ChangesWithin at (at + length bytes) (λ p x. IsBetween (slice_index old p) (slice_index bytes (p - at)) x) old new

-- nothing was programmed
pub torn_none : (p : ℕ) (bytes cells : List ℕ) → TornBy p bytes cells cells
torn_none p bytes cells = record {
  size = refl;
  below = λ q low. refl;
  above = λ q high. refl;
  inside = λ q low high. kept_between (slice_index cells q) (slice_index bytes (q - p));
}

-- what a program leaves
pub torn_stored : (d : ℕ) (weak : List ℕ) (p : ℕ) (bytes old new : List ℕ) → Programmed d weak p bytes old new → TornBy p bytes old new
torn_stored d weak p bytes old new h = record {
  size = h.size;
  below = h.below;
  above = h.above;
  inside = λ q low high. byte_between d (unwrap_or (break_of d weak p bytes old) (p + length bytes)) q _ _ _ (h.inside q low high);
}

pub stop_of : (o : Option ℕ) (end : ℕ) → is_some o ≡ false → unwrap_or o end ≡ end
stop_of None end whole = refl
stop_of (Some w) end whole = cc

-- a program that doesn't break off, of bytes with no bit that the cells lack, leaves these bytes
pub holds_stored : (d : ℕ) (weak : List ℕ) (p : ℕ) (bytes old new : List ℕ) → is_some (break_of d weak p bytes old) ≡ false → Programmed d weak p bytes old new
    → ((i : ℕ) → i < length bytes → bit_and (slice_index old (p + i)) (slice_index bytes i) ≡ slice_index bytes i) → (i : ℕ) → i < length bytes → slice_index new (p + i) ≡ slice_index bytes i
holds_stored d weak p bytes old new whole h clears i below =
    let stop : unwrap_or (break_of d weak p bytes old) (p + length bytes) ≡ p + length bytes = stop_of (break_of d weak p bytes old) (p + length bytes) whole in
    let back : p + i - p ≡ i = omega arith in
    (h.inside (p + i) (omega arith) (omega arith)).stored (omega (arith, stop, below))
    ∙ (ap (λ (j : ℕ). bit_and (slice_index old (p + i)) (slice_index bytes j)) back ∙ clears i below)

-- some bytes were torn, and then nothing has changed but what is spoilt
pub left_torn : (spoilt : ℕ → Bool) (p : ℕ) (bytes cells : List ℕ) (s t : ChipState) → TornBy p bytes s.cells cells → IsUnmoved s t
    → ((q : ℕ) → spoilt q ≡ false → slice_index t.cells q ≡ slice_index cells q) → IsLeft spoilt p bytes s t
left_torn spoilt p bytes cells s t h keeps same = record {
  keeps = keeps;
  below = λ q free low. same q free ∙ h.below q low;
  above = λ q free high. same q free ∙ h.above q high;
  inside = λ q free low high.
      subst (IsBetween (slice_index s.cells q) (slice_index bytes (q - p))) (sym (same q free)) (h.inside q low high);
}

-- a chip in another mode, at another step and with other flags
abbrev pub turned_to : Mode → Step → Flags → ChipState → ChipState
turned_to mode step flags s = record s { mode = mode; step = step; flags = flags }

unmoved : (s t : ChipState) (mode : Mode) (step : Step) (flags : Flags) (cells : List ℕ) → (flags.erase ≡ true → s.flags.erase ≡ true) → length cells ≡ length s.cells
    → t ≡ record (turned_to mode step flags s) { cells = cells } → IsUnmoved s t
unmoved s t mode step flags cells no_error size e = record {
  remains = record {
    part = ap (λ (x : ChipState). x.part) e;
    size = ap (λ (x : ChipState). length x.cells) e ∙ size;
    locks = ap (λ (x : ChipState). x.locks) e;
    erases = ap (λ (x : ChipState). x.erases) e;
  };
  held = ap (λ (x : ChipState). x.held) e;
  suspends = ap (λ (x : ChipState). x.suspends) e;
  no_error = λ h. no_error (sym (ap (λ (x : ChipState). x.flags.erase) e) ∙ h);
}

-- Power goes while a chip runs no job.
dark_turned : (p : ℕ) (bytes : List ℕ) (s t : ChipState) (mode : Mode) (step : Step) (flags : Flags) → s.job ≡ Idle → (flags.erase ≡ true → s.flags.erase ≡ true)
    → Darkens (turned_to mode step flags s) t → Loses p bytes s t
dark_turned p bytes s t mode step flags idle no_error (inl same) =
    left_torn (is_erasing_at s) p bytes s.cells s t (torn_none p bytes s.cells) (unmoved s t mode step flags s.cells no_error refl same)
    (λ q free. ap (λ (x : ChipState). slice_index x.cells q) same)
dark_turned p bytes s t mode step flags idle no_error (inr cut) =
    left_torn (is_erasing_at s) p bytes s.cells s t (torn_none p bytes s.cells) (unmoved s t mode step flags t.cells no_error cut.size cut.rest)
    (λ q free. cut.kept q free (ap (λ (j : Job). programs_at j q) idle))

pub dark_idle : (p : ℕ) (bytes : List ℕ) (s m t : ChipState) (mode : Mode) (step : Step) (flags : Flags) → s.job ≡ Idle → (flags.erase ≡ true → s.flags.erase ≡ true)
    → m ≡ turned_to mode step flags s → Darkens m t → Loses p bytes s t
dark_idle p bytes s m t mode step flags idle no_error e dark =
    dark_turned p bytes s t mode step flags idle no_error (subst (λ (x : ChipState). Darkens x t) e dark)
