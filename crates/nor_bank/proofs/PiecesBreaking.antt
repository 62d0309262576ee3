-- Which lanes break off in bus words that are programmed at once.
use Rattle.std.proofs.Common.{◌≡◌, ◌<◌, ◌≤◌, ◌+◌, ◌-◌, ◌*◌, ◌/◌, ◌%◌, inl, inr, ℕ, List, length, slice_index, sym, ap, ◌∙◌, arith, Bool, true, ◌&&◌, ◌||◌, nat_le, nat_lt, is_some}
use Rattle.std.specs.List.{list_any}
use Rattle.std.proofs.lemmas.Nat.{div-add-mod'}
use Rattle.std.proofs.Math.Nat.{mul-le-mul_right, lt_of_mul-lt-mul_right}
use Rattle.nor_cell.specs.Bits.{unit_len}
use Rattle.nor_cell.specs.Look.{break_of, breaks, would_change}
use Rattle.nor_cell.specs.Ranges.{begin_units}
use Rattle.nor_cell.specs.Wiring.{bank_place}
use Rattle.nor_cell.specs.declared.geometry.Geometry.{Geometry}
use Rattle.nor_cell.proofs.Logic.{some_bytes, both_pass, is_below, is_at_most, passes_below, all_three}
use Rattle.nor_bank.specs.Programs.{unit_passes}
use Rattle.nor_bank.proofs.Breaking.{at_most, unit_ends, unit_passed, unit_passing, unit_lies}
use Rattle.nor_bank.proofs.Searching.{either, same_answer, first_passes, second_passes, any_so, find_any}

-- Units of a chip break off from unit u on, each byte of which would change as its place in the bank passes a test, where a
-- weak unit of the lane passes it in one of their bus words.
module _ (g : Geometry) (u n c : ℕ) (test : ℕ → Bool) (cells bytes : List ℕ) (below : c < g.lanes) (long : length bytes ≡ n * unit_len g.device)
    (same : (i k : ℕ) → i < n → k < unit_len g.device
    → would_change (slice_index cells ((u + i) * unit_len g.device + k)) (slice_index bytes (i * unit_len g.device + k))
    ≡ test ((u + i) * (g.lanes * unit_len g.device) + c * unit_len g.device + k)) where
  abbrev d : ℕ
  d = unit_len g.device

  abbrev w : ℕ
  w = g.lanes * unit_len g.device

  byte_same : (i p q k : ℕ) → i < n → p ≡ (u + i) * d + k → q ≡ i * d + k → k < d
      → would_change (slice_index cells p) (slice_index bytes q) ≡ test ((u + i) * w + c * d + k)
  byte_same i p q k there at is less =
      ap (λ (m : ℕ). would_change (slice_index cells m) (slice_index bytes q)) at
      ∙ (ap (λ (m : ℕ). would_change (slice_index cells ((u + i) * d + k)) (slice_index bytes m)) is ∙ same i k there less)

  -- the weak unit at place p is the i-th of them
  record IsHere (p i : ℕ) : Type 0 where
    there : i < n
    at : p ≡ (u + i) * d
    off : p - d * u ≡ i * d
    within : (d * u ≤ p) × (p + d ≤ d * u + n * d)
    place : bank_place g.lanes d c p ≡ (u + i) * w + c * d
    from : u * w ≤ (u + i) * w
    to : (u + i) * w + w ≤ (u + n) * w
    fits : c * d + d ≤ w

  is_here : (p i : ℕ) → p % d ≡ 0 → p / d ≡ u + i → i < n → IsHere p i
  is_here p i whole unit there =
      let split = div-add-mod' p d in
      let begin : p / d * d ≡ (u + i) * d = ap (λ (m : ℕ). m * d) unit in
      let lies = unit_lies g.lanes d c p below whole in
      let place = lies.place in
      let word : p / d * w ≡ (u + i) * w = ap (λ (m : ℕ). m * w) unit in
      let row = mul-le-mul_right d (let h : c + 1 ≤ g.lanes = omega (arith, below) in h) in
      let last = mul-le-mul_right d (let h : u + i + 1 ≤ u + n = omega (arith, there) in h) in
      record {
        there = there;
        at = omega (arith, split, begin, whole);
        off = omega (arith, split, begin, whole);
        within = (omega (arith, split, begin, whole), omega (arith, split, begin, whole, last));
        place = omega (arith, place, word);
        from = mul-le-mul_right w (let h : u ≤ u + i = omega arith in h);
        to = let e = mul-le-mul_right w (let h : u + i + 1 ≤ u + n = omega (arith, there) in h) in omega (arith, e);
        fits = omega (arith, row);
      }

  -- which unit a place lies in
  record UnitAt (p : ℕ) : Type 0 where
    number : ℕ
    here : IsHere p number

  unit_at : (p : ℕ) → p % d ≡ 0 → u ≤ p / d → p / d < u + n → UnitAt p
  unit_at p whole from to =
      let i = p / d - u in
      let is : p / d ≡ u + i = omega (arith, from) in
      record { number = i; here = is_here p i whole is (omega (arith, from, to)) }

  chip_to_bank : (p : ℕ) → p % d ≡ 0 → breaks d (d * u) bytes cells p ≡ true → unit_passes g test (u * w) ((u + n) * w) c p ≡ true
  chip_to_bank p whole is =
      let some = some_bytes g.device in
      let first = would_change (slice_index cells p) (slice_index bytes (p - d * u)) in
      let last = would_change (slice_index cells (p + (d - 1))) (slice_index bytes (p + (d - 1) - d * u)) in
      let outer = both_pass (nat_le (d * u) p && nat_lt p (d * u + length bytes)) (first || last) is in
      let inner = both_pass (nat_le (d * u) p) (nat_lt p (d * u + length bytes)) outer.0 in
      let low : d * u ≤ p = is_at_most (d * u) p inner.0 in
      let high : p < d * u + length bytes = is_below p (d * u + length bytes) inner.1 in
      let split = div-add-mod' p d in
      let order : u < p / d + 1 = lt_of_mul-lt-mul_right d (let h : u * d < (p / d + 1) * d = omega (arith, split, whole, low, some) in h) in
      let end : p / d < u + n = lt_of_mul-lt-mul_right d (let h : p / d * d < (u + n) * d = omega (arith, split, whole, high, long) in h) in
      let unit = unit_at p whole (omega (arith, order)) end in
      let i = unit.number in
      let here = unit.here in
      let at = here.at in
      let off = here.off in
      let place = here.place in
      let fits = here.fits in
      let from = here.from in
      let to = here.to in
      elim (either first last outer.1) [
        | inl is ↦
            let byte : first ≡ test ((u + i) * w + c * d + 0) = byte_same i p (p - d * u) 0 here.there (omega (arith, at)) (omega (arith, off)) some in
            unit_passed g test (u * w) ((u + n) * w) c p ((u + i) * w + c * d + 0) (omega (arith, place, from)) (omega (arith, place, fits, to, some)) (omega (arith, place)) (omega (arith, place, some))
            (sym byte ∙ is)
        | inr is ↦
            let byte : last ≡ test ((u + i) * w + c * d + (d - 1)) =
            byte_same i (p + (d - 1)) (p + (d - 1) - d * u) (d - 1) here.there (omega (arith, at)) (omega (arith, off, low)) (omega (arith, some)) in
            unit_passed g test (u * w) ((u + n) * w) c p ((u + i) * w + c * d + (d - 1)) (omega (arith, place, from)) (omega (arith, place, fits, to, some)) (omega (arith, place)) (omega (arith, place, some))
            (sym byte ∙ is)
      ]

  bank_to_chip : (p : ℕ) → p % d ≡ 0 → unit_passes g test (u * w) ((u + n) * w) c p ≡ true → breaks d (d * u) bytes cells p ≡ true
  bank_to_chip p whole is =
      let some = some_bytes g.device in
      let first = would_change (slice_index cells p) (slice_index bytes (p - d * u)) in
      let last = would_change (slice_index cells (p + (d - 1))) (slice_index bytes (p + (d - 1) - d * u)) in
      let passing = unit_passing g test (u * w) ((u + n) * w) c p is in
      let lies = unit_lies g.lanes d c p below whole in
      let low = passing.begins in
      let high = passing.ends in
      let begins = lies.begins in
      let ends = lies.ends in
      let order : u < p / d + 1 = lt_of_mul-lt-mul_right w (let h : u * w < (p / d + 1) * w = omega (arith, low, ends, some) in h) in
      let end : p / d < u + n = lt_of_mul-lt-mul_right w (let h : p / d * w < (u + n) * w = omega (arith, begins, high) in h) in
      let unit = unit_at p whole (omega (arith, order)) end in
      let i = unit.number in
      let here = unit.here in
      let at = here.at in
      let off = here.off in
      let place = here.place in
      let inside = here.within in
      let q = passing.byte.place in
      let from = passing.byte.from in
      let before = passing.byte.before in
      let k = q - ((u + i) * w + c * d) in
      let less : k < d = omega (arith, place, from, before) in
      let byte : test ((u + i) * w + c * d + k) ≡ true = ap test (let h : (u + i) * w + c * d + k ≡ q = omega (arith, place, from) in h) ∙ passing.byte.passes in
      let start = inside.0 in
      let stop = inside.1 in
      all_three (nat_le (d * u) p) (nat_lt p (d * u + length bytes)) (first || last) (at_most (d * u) p start) (passes_below p (d * u + length bytes) (omega (arith, stop, long, some)))
      (elim (unit_ends g.device k less) [
        | inl is ↦ first_passes first last (byte_same i p (p - d * u) k here.there (omega (arith, at, is)) (omega (arith, off, is)) less ∙ byte)
        | inr is ↦ second_passes first last (byte_same i (p + (d - 1)) (p + (d - 1) - d * u) k here.there (omega (arith, at, is)) (omega (arith, off, is, start)) less ∙ byte)
      ])

  pub units_breaking : (weak : List ℕ) → begin_units g.device weak ≡ true
      → is_some (break_of d weak (d * u) bytes cells) ≡ list_any (unit_passes g test (u * w) ((u + n) * w) c) weak
  units_breaking weak begin =
      find_any (breaks d (d * u) bytes cells) weak
      ∙ same_answer (list_any (breaks d (d * u) bytes cells) weak) (list_any (unit_passes g test (u * w) ((u + n) * w) c) weak)
      (any_so d (breaks d (d * u) bytes cells) (unit_passes g test (u * w) ((u + n) * w) c) weak begin chip_to_bank)
      (any_so d (unit_passes g test (u * w) ((u + n) * w) c) (breaks d (d * u) bytes cells) weak begin bank_to_chip)
