-- Cells that change within a range.
use Rattle.std.proofs.Common.{◌≡◌, ◌<◌, ℕ, sym, subst, ap, arith, ◌∙◌, false, List, slice_index, bit_and, bit_or}
use Rattle.std.proofs.lemmas.Nat.{and_comm, and_assoc, and_or_self, and_mask, or_comm, or_lt}
use Rattle.nor_cell.specs.Bits.{IsBetween, ChangesWithin}
use Rattle.nor_cell.specs.Chip.{span_end}
use Rattle.nor_cell.specs.Look.{is_weak, Erased}
use Rattle.nor_cell.specs.declared.device.Span.{Span}

-- what is said of the bytes in the range may be weakened
pub changes_weaken : (from to : ℕ) (P Q : ℕ → ℕ → Type 0) (old new : List ℕ) → ((p x : ℕ) → P p x → Q p x) → ChangesWithin from to P old new → ChangesWithin from to Q old new
changes_weaken from to P Q old new weaken h =
    record { size = h.size; below = h.below; above = h.above; inside = λ p low high. weaken p (slice_index new p) (h.inside p low high) }

-- what is left of old where the bits of the mask stay
pub partly_between : (old datum mask : ℕ) → IsBetween old datum (bit_and old (bit_or datum mask))
partly_between old datum mask =
    let r = bit_or datum mask in
    let kept : bit_and r datum ≡ datum = ap (λ k. bit_and k datum) (or_comm datum mask) ∙ and_or_self datum mask in
    let clears : bit_and (bit_and old r) old ≡ bit_and old r =
    and_assoc old old r ∙ ap (bit_and old) (and_comm r old) ∙ sym (and_assoc r old old) ∙ ap (λ k. bit_and k r) (and_or_self old 0) in
    record {
      clears_only = clears;
      keeps = ap (λ k. bit_and k datum) clears ∙ and_assoc datum old r ∙ ap (bit_and old) kept;
    }

-- a byte with all bits set
all_set : (x : ℕ) → bit_or x 255 < 256 → bit_or x 255 ≡ 255
all_set x lt = let e = and_mask (bit_or x 255) 8 in let f = and_or_self 255 x in omega (arith, e, f)

-- a byte with some bits set
pub set_byte : (x mask : ℕ) → x < 256 → mask < 256 → bit_or x mask < 256
set_byte x mask lt less = or_lt 8 x mask lt less

-- a block whose bits are set, all of them unless it is weak
pub erased_by : (weak : List ℕ) (span : Span) (mask : ℕ) (old new : List ℕ) → mask < 256 → (is_weak weak span ≡ false → mask ≡ 255) → ((p : ℕ) → slice_index old p < 256) →
    ChangesWithin span.from (span_end span) (λ p x. x ≡ bit_or (slice_index old p) mask) old new → Erased weak span old new
erased_by weak span mask old new small whole bytes h =
    changes_weaken span.from (span_end span) _ _ old new
    (λ p x e. (
      subst (λ y. y < 256) (sym e) (set_byte (slice_index old p) mask (bytes p) small),
      λ free. e ∙ ap (bit_or (slice_index old p)) (whole free) ∙ all_set (slice_index old p) (set_byte (slice_index old p) 255 (bytes p) (omega arith)),
    ))
    h
