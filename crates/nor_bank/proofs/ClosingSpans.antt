-- What an erase covers of each chip, and of all chips side by side.
use Rattle.std.proofs.Common.{◌≡◌, ◌<◌, ◌≤◌, ◌+◌, ◌*◌, ◌/◌, ◌%◌, inl, inr, ℕ, zero, suc, List, [], ◌∷◌, map, refl, sym, ◌∙◌, ap, subst, arith, Bool, true, ◌&&◌, nat_lt, nat_le}
use Rattle.std.proofs.Math.Nat.{mod-lt, mul-le-mul_left, mul-le-mul_right, lt_of_mul-lt-mul_right}
use Rattle.std.proofs.lemmas.Bool.{cases_lt, lt-ltb, le-ltb, le-leb, and_from}
use Rattle.std.proofs.lemmas.Bool.Decides.{nat_tests}
use Rattle.std.proofs.lemmas.Nat.{div-add-mod'}
use Rattle.std.specs.Prelude.{◌==◌}
use Rattle.std.specs.List.{list_any, list_all}
use Rattle.nor_cell.specs.Chip.{ChipState, Target, OneBlock, AllBlocks, block, blocks_end, covered, is_within}
use Rattle.nor_cell.specs.Bits.{unit_len}
use Rattle.nor_cell.specs.Look.{is_weak}
use Rattle.nor_cell.specs.Wiring.{bank_place, lane_at, place_at}
use Rattle.nor_cell.specs.declared.device.Device.{Device}
use Rattle.nor_cell.specs.declared.device.Span.{Span}
use Rattle.nor_cell.proofs.Logic.{both_pass, is_below, is_at_most, passes_below, some_bytes, all_three}
use Rattle.nor_lane.proofs.Places.{bank_place-place_at, lane_at_below}
use Rattle.nor_region.specs.Map.{scaled_span}
use Rattle.nor_probe.specs.declared.probing.Found.{Found}
use Rattle.nor_array.specs.Array.{meets, chip_target}
use Rattle.nor_array.specs.declared.state.Target.{Target as BankTarget}
use Rattle.nor_poll.specs.UnderErase.{part_of}
use Rattle.nor_bank.specs.Programs.{HasWeakUnits}
use Rattle.nor_bank.specs.Stands.{weak_span}
use Rattle.nor_bank.specs.State.{blocks_of}
use Rattle.nor_bank.proofs.Known.{IsWhole, AllWhole, IsPartOf}
use Rattle.nor_bank.proofs.Searching.{same_answer, any_so}

-- ---- what it covers of one chip, and the same of n of them

block_scaled : (n b : ℕ) (blocks : List Span) → block (map (scaled_span n) blocks) b ≡ scaled_span n (block blocks b)
block_scaled n b [] =
    let none : 0 ≡ n * 0 = omega arith in
    let to : ℕ → Span = λ k. record { from = k; len = k } in
    ap to none
block_scaled n zero (span ∷ blocks) = refl
block_scaled n (suc b) (span ∷ blocks) = block_scaled n b blocks

end_scaled : (n : ℕ) (blocks : List Span) → blocks_end (map (scaled_span n) blocks) ≡ n * blocks_end blocks
end_scaled n [] = omega arith
end_scaled n (span ∷ []) = omega arith
end_scaled n (span ∷ next ∷ blocks) = end_scaled n (next ∷ blocks)

pub covered_scaled : (n : ℕ) (target : Target) (blocks : List Span) → covered target (map (scaled_span n) blocks) ≡ scaled_span n (covered target blocks)
covered_scaled n (OneBlock b) blocks = block_scaled n b blocks
covered_scaled n AllBlocks blocks =
    let first : 0 ≡ n * 0 = omega arith in
    let from : ℕ → Span = λ k. record { from = k; len = blocks_end (map (scaled_span n) blocks) } in
    let to : ℕ → Span = λ k. record { from = n * 0; len = k } in
    ap from first ∙ ap to (end_scaled n blocks)

-- ---- whole units

block_whole : (d b : ℕ) (blocks : List Span) → AllWhole d blocks → IsWhole d (block blocks b)
block_whole d b [] whole = record { first = 0; last = 0; begins = omega arith; ends = omega arith }
block_whole d zero (span ∷ blocks) whole = whole.0
block_whole d (suc b) (span ∷ blocks) whole = block_whole d b blocks whole.1

end_whole : (d : ℕ) (blocks : List Span) → AllWhole d blocks → (k : ℕ) × (blocks_end blocks ≡ d * k)
end_whole d [] whole = (0, omega arith)
end_whole d (span ∷ []) whole = (whole.0.last, whole.0.ends)
end_whole d (span ∷ next ∷ blocks) whole = end_whole d (next ∷ blocks) whole.1

pub covered_whole : (d : ℕ) (target : Target) (blocks : List Span) → AllWhole d blocks → IsWhole d (covered target blocks)
covered_whole d (OneBlock b) blocks whole = block_whole d b blocks whole
covered_whole d AllBlocks blocks whole =
    let end = end_whole d blocks whole in
    let ends = end.1 in
    record { first = 0; last = end.0; begins = omega arith; ends = omega (arith, ends) }

-- ---- places

record Below (n d c p k : ℕ) : Type 0 where
  bank : bank_place n d c p < n * (d * k)
  chip : p < d * k

record Behind (n d c p k : ℕ) : Type 0 where
  bank : n * (d * k) ≤ bank_place n d c p
  chip : d * k ≤ p

module _ (n d c p k : ℕ) (some : 0 < d) (lane : c < n) where
  below : p / d < k → Below n d c p k
  below less =
      let u = p / d in
      let rest = mod-lt p some in
      let whole = div-add-mod' p d in
      let chip : d * suc u ≤ d * k = mul-le-mul_left d less in
      let word : suc u * (n * d) ≤ k * (n * d) = mul-le-mul_right (n * d) less in
      let part : suc c * d ≤ n * d = mul-le-mul_right d lane in
      record { bank = omega (arith, rest, word, part); chip = omega (arith, rest, whole, chip) }

  behind : k ≤ p / d → Behind n d c p k
  behind le =
      let u = p / d in
      let whole = div-add-mod' p d in
      let chip : d * k ≤ d * u = mul-le-mul_left d le in
      let word : k * (n * d) ≤ u * (n * d) = mul-le-mul_right (n * d) le in
      record { bank = omega (arith, word); chip = omega (arith, whole, chip) }

  before_same : nat_lt (bank_place n d c p) (n * (d * k)) ≡ nat_lt p (d * k)
  before_same = elim (cases_lt (p / d) k) [
    | inl less ↦ let is = below less in lt-ltb (bank_place n d c p) (n * (d * k)) is.bank ∙ sym (lt-ltb p (d * k) is.chip)
    | inr more ↦ let is = behind more in le-ltb (bank_place n d c p) (n * (d * k)) is.bank ∙ sym (le-ltb p (d * k) is.chip)
  ]

  from_same : nat_le (n * (d * k)) (bank_place n d c p) ≡ nat_le (d * k) p
  from_same = elim (cases_lt (p / d) k) [
    | inl less ↦ let is = below less in let bank = is.bank in let chip = is.chip in grind (arith, nat_tests)
    | inr more ↦ let is = behind more in let bank = is.bank in let chip = is.chip in grind (arith, nat_tests)
  ]

-- A chip's place lies in a span of the chip where it lies, as a byte of the bank, in the same span of all chips.
pub inside_scaled : (n d c p : ℕ) (span : Span) → 0 < d → c < n → IsWhole d span → is_within (scaled_span n span) (bank_place n d c p) ≡ is_within span p
inside_scaled n d c p span some lane whole =
    let q = bank_place n d c p in
    let first = ap (λ (k : ℕ). n * k) whole.begins in
    let sum = ap (λ (k : ℕ). n * k) whole.ends in
    let last : n * span.from + n * span.len ≡ n * (d * whole.last) = omega (arith, sum) in
    ap (λ (k : ℕ). nat_le k q && nat_lt q (n * span.from + n * span.len)) first
    ∙ (ap (λ (k : ℕ). nat_le (n * (d * whole.first)) q && nat_lt q k) last
    ∙ (ap (λ (b : Bool). b && nat_lt q (n * (d * whole.last))) (from_same n d c p whole.first some lane)
    ∙ (ap (λ (b : Bool). nat_le (d * whole.first) p && b) (before_same n d c p whole.last some lane)
    ∙ (ap (λ (k : ℕ). nat_le k p && nat_lt p (d * whole.last)) (sym whole.begins)
    ∙ ap (λ (k : ℕ). nat_le span.from p && nat_lt p k) (sym whole.ends)))))

-- The same of a byte of the bank.
pub inside_bank : (n d a : ℕ) (span : Span) → 0 < d → 0 < n → IsWhole d span → is_within (scaled_span n span) a ≡ is_within span (place_at n d a)
inside_bank n d a span some lanes whole =
    ap (λ (q : ℕ). is_within (scaled_span n span) q) (sym (bank_place-place_at n d a some))
    ∙ inside_scaled n d (lane_at n d a) (place_at n d a) span some (lane_at_below n d a lanes) whole

-- A unit of d bytes that begins in the chip at place p meets the span where p lies in it.
pub meets_unit : (n d c p : ℕ) (span : Span) → 0 < d → c < n → IsWhole d span → p % d ≡ 0
    → meets (n * span.from) (n * span.len) (record { from = bank_place n d c p; len = d }) ≡ is_within span p
meets_unit n d c p span some lane whole unit =
    same_answer _ (is_within (scaled_span n span) (bank_place n d c p)) to from ∙ inside_scaled n d c p span some lane whole
  where
    to : meets (n * span.from) (n * span.len) (record { from = bank_place n d c p; len = d }) ≡ true → is_within (scaled_span n span) (bank_place n d c p) ≡ true
    to met =
        let parts = both_pass _ (nat_lt (bank_place n d c p) (n * span.from + n * span.len)) met in
        let start = both_pass (nat_lt 0 (n * span.len)) (nat_lt (n * span.from) (bank_place n d c p + d)) parts.0 in
        let past : n * span.from < bank_place n d c p + d = is_below _ _ start.1 in
        let first = ap (λ (k : ℕ). n * k) whole.begins in
        let order : n * whole.first * d < (p / d * n + c + 1) * d = omega (arith, past, first, unit) in
        let words : n * whole.first < p / d * n + c + 1 = lt_of_mul-lt-mul_right d order in
        let low : n * whole.first ≤ p / d * n + c = omega (arith, words) in
        let bytes : n * whole.first * d ≤ (p / d * n + c) * d = mul-le-mul_right d low in
        let begins : n * span.from ≤ bank_place n d c p = omega (arith, bytes, first, unit) in
        and_from _ _ (le-leb (n * span.from) (bank_place n d c p) begins) parts.1

    from : is_within (scaled_span n span) (bank_place n d c p) ≡ true → meets (n * span.from) (n * span.len) (record { from = bank_place n d c p; len = d }) ≡ true
    from inside =
        let parts = both_pass (nat_le (n * span.from) (bank_place n d c p)) (nat_lt (bank_place n d c p) (n * span.from + n * span.len)) inside in
        let low = is_at_most (n * span.from) (bank_place n d c p) parts.0 in
        let high = is_below (bank_place n d c p) (n * span.from + n * span.len) parts.1 in
        all_three _ _ _ (passes_below 0 (n * span.len) (omega (arith, low, high)))
        (passes_below (n * span.from) (bank_place n d c p + d) (omega (arith, low, some))) parts.1

-- ---- a bank's erase, and a chip's part of it

module _ (f : Found) (s : ChipState) (target : BankTarget) (is : IsPartOf f s) where
  -- what is erased of the bank is what is erased of each chip, side by side
  pub open_scaled : covered (chip_target target) (blocks_of f) ≡ scaled_span f.geometry.lanes (part_of (chip_target target) s)
  open_scaled =
      ap (λ (bs : List Span). covered (chip_target target) bs) (sym is.blocks)
      ∙ covered_scaled f.geometry.lanes (chip_target target) s.part.blocks

  part_whole : IsWhole (unit_len f.geometry.device) (part_of (chip_target target) s)
  part_whole = covered_whole (unit_len f.geometry.device) (chip_target target) s.part.blocks is.whole

  -- a byte of the bank lies in it where its place lies in its chip's part
  pub open_at : (a : ℕ) → 0 < f.geometry.lanes
      → is_within (covered (chip_target target) (blocks_of f)) a ≡ is_within (part_of (chip_target target) s) (place_at f.geometry.lanes (unit_len f.geometry.device) a)
  open_at a lanes =
      ap (λ (span : Span). is_within span a) open_scaled
      ∙ inside_bank f.geometry.lanes (unit_len f.geometry.device) a (part_of (chip_target target) s) (some_bytes f.geometry.device) lanes part_whole

  -- and a place of the chip where its byte of the bank does
  pub open_place : (c p : ℕ) → c < f.geometry.lanes
      → is_within (covered (chip_target target) (blocks_of f)) (bank_place f.geometry.lanes (unit_len f.geometry.device) c p) ≡ is_within (part_of (chip_target target) s) p
  open_place c p lane =
      ap (λ (span : Span). is_within span (bank_place f.geometry.lanes (unit_len f.geometry.device) c p)) open_scaled
      ∙ inside_scaled f.geometry.lanes (unit_len f.geometry.device) c p (part_of (chip_target target) s) (some_bytes f.geometry.device) lane part_whole

  -- so many bytes from a place on touch a weak span of the chip
  abbrev touches_weak : ℕ → Span → ℕ → Bool
  touches_weak c span p = meets span.from span.len (weak_span f.geometry c p)

  -- A weak span of the chip meets what is erased of the bank where its part has a weak place.
  pub weak_here : (c : ℕ) → c < f.geometry.lanes → HasWeakUnits s
      → list_any (touches_weak c (covered (chip_target target) (blocks_of f))) s.part.weak ≡ is_weak s.part.weak (part_of (chip_target target) s)
  weak_here c lane units =
      let d = unit_len f.geometry.device in
      let part = part_of (chip_target target) s in
      let begin : list_all (λ p. p % d == 0) s.part.weak ≡ true = subst (λ (x : Device). list_all (λ p. p % unit_len x == 0) s.part.weak ≡ true) is.device units in
      let each = λ (p : ℕ) (at : p % d ≡ 0). ap (λ (span : Span). meets span.from span.len (weak_span f.geometry c p)) open_scaled
      ∙ meets_unit f.geometry.lanes d c p part (some_bytes f.geometry.device) lane part_whole at in
      same_answer _ _
      (any_so d (touches_weak c (covered (chip_target target) (blocks_of f))) (is_within part) s.part.weak begin (λ p at met. sym (each p at) ∙ met))
      (any_so d (is_within part) (touches_weak c (covered (chip_target target) (blocks_of f))) s.part.weak begin (λ p at inside. each p at ∙ inside))
