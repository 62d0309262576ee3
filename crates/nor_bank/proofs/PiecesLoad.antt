-- The units of one chip that are programmed at once, and the bus words that they make with those of the other chips.
use Rattle.std.proofs.Common.{◌≡◌, ◌<◌, ◌≤◌, ◌+◌, ◌-◌, ◌*◌, ◌/◌, ◌%◌, ◌⊎◌, inl, inr, ℕ, zero, suc, List, [], ◌∷◌, ◌++◌, length, get_or, slice_index, sym, ap, subst, ◌∙◌, arith}
use Rattle.std.proofs.lemmas.List.{get_or_append_left, get_or-append-add, length-append}
use Rattle.std.proofs.lemmas.Nat.{div-add-mod'}
use Rattle.std.proofs.Math.Nat.{mul-le-mul_right, lt_of_mul-lt-mul_right, mod-lt}
use Rattle.nor_cell.specs.Bits.{AreBytes, unit_len, unit_bytes}
use Rattle.nor_cell.specs.Chip.{ChipState}
use Rattle.nor_cell.specs.Wiring.{place_at}
use Rattle.nor_cell.specs.declared.device.Device.{Device}
use Rattle.nor_cell.proofs.Loading.{length-unit_bytes}
use Rattle.nor_cell.proofs.Logic.{some_bytes}
use Rattle.nor_word.specs.Word.{lane_of}
use Rattle.nor_bus.specs.Bus.{IsBank, chip_at, bank_byte, wide}
use Rattle.nor_bus.proofs.Driving.{fills_word}
use Rattle.nor_poll.specs.Buffer.{load_of}
use Rattle.nor_bank.proofs.Ranging.{in_word}
use Rattle.nor_bank.proofs.Storing.{UnitTo, part_byte}
use Rattle.nor_bank.proofs.Wording.{ByteAt, WordTo, word_to, word_before, before_unit}

-- every byte of every word is one
abbrev pub AllBytes : List (List ℕ) → Type 0
AllBytes words = (k : ℕ) → AreBytes (get_or words k [])

-- ---- the bytes of a load

pub length-load_of : (device : Device) (c : ℕ) (words : List (List ℕ)) → length (load_of device c words) ≡ length words * unit_len device
length-load_of device c [] = let none : 0 * unit_len device ≡ 0 = omega arith in sym none
length-load_of device c (word ∷ words) =
    let d = unit_len device in
    let both = length-append (unit_bytes device (lane_of d word c)) (load_of device c words) in
    let unit = length-unit_bytes device (lane_of d word c) in
    let rest = length-load_of device c words in
    let more : suc (length words) * d ≡ d + length words * d = omega arith in
    both ∙ (ap (λ (n : ℕ). n + length (load_of device c words)) unit ∙ (ap (λ (n : ℕ). d + n) rest ∙ sym more))

-- byte k of the i-th unit is that of the lane's part of the i-th word
pub load_byte : (device : Device) (c : ℕ) (words : List (List ℕ)) (i k : ℕ) → AllBytes words → i < length words → k < unit_len device
    → slice_index (load_of device c words) (i * unit_len device + k) ≡ slice_index (get_or words i []) (c * unit_len device + k)
load_byte device c [] i k small there less = absurd (omega (arith, there))
load_byte device c (word ∷ words) zero k small there less =
    let unit = unit_bytes device (lane_of (unit_len device) word c) in
    let long = length-unit_bytes device (lane_of (unit_len device) word c) in
    let place : 0 * unit_len device + k ≡ k = omega arith in
    ap (λ (n : ℕ). slice_index (unit ++ load_of device c words) n) place
    ∙ (get_or_append_left unit (load_of device c words) 0 k (omega (arith, long, less)) ∙ part_byte device word c k (small 0) less)
load_byte device c (word ∷ words) (suc i) k small there less =
    let d = unit_len device in
    let unit = unit_bytes device (lane_of d word c) in
    let long = length-unit_bytes device (lane_of d word c) in
    let place : suc i * d + k ≡ length unit + (i * d + k) = omega (arith, long) in
    ap (λ (n : ℕ). slice_index (unit ++ load_of device c words) n) place
    ∙ (get_or-append-add unit (load_of device c words) (i * d + k) 0
    ∙ load_byte device c words i k (λ m. small (suc m)) (omega (arith, there)) less)

-- ---- the units of one chip

-- A chip's n units of d bytes from u on have changed as P says of each byte of each of them, and no other byte has: where
-- the place is one of these.
pub record UnitsTo (d u n : ℕ) (At : ℕ → Type 0) (P : ℕ → ℕ → ℕ → ℕ → Type 0) (old new : List ℕ) : Type 0 where
  pub below : (p : ℕ) → At p → p < u * d → slice_index new p ≡ slice_index old p
  pub above : (p : ℕ) → At p → (u + n) * d ≤ p → slice_index new p ≡ slice_index old p
  pub inside : (i k : ℕ) → i < n → k < d → At ((u + i) * d + k) → P i k (slice_index old ((u + i) * d + k)) (slice_index new ((u + i) * d + k))

-- What is said of the places of a load's bytes, said of the bytes of its words.
pub units_of_load : (device : Device) (At : ℕ → Type 0) (Q : ℕ → ℕ → ℕ → Type 0) (u c : ℕ) (words : List (List ℕ)) (old new : List ℕ) → AllBytes words
    → ((p : ℕ) → At p → p < unit_len device * u → slice_index new p ≡ slice_index old p)
    → ((p : ℕ) → At p → unit_len device * u + length (load_of device c words) ≤ p → slice_index new p ≡ slice_index old p)
    → ((p : ℕ) → At p → unit_len device * u ≤ p → p < unit_len device * u + length (load_of device c words)
    → Q (slice_index old p) (slice_index (load_of device c words) (p - unit_len device * u)) (slice_index new p))
    → UnitsTo (unit_len device) u (length words) At (λ i k x y. Q x (slice_index (get_or words i []) (c * unit_len device + k)) y) old new
units_of_load device At Q u c words old new small below above inside =
    let d = unit_len device in
    let n = length words in
    let long = length-load_of device c words in
    let start : d * u ≡ u * d = omega arith in
    let end : (u + n) * d ≡ u * d + n * d = omega arith in
    record {
      below = λ p there low. below p there (omega (arith, start, low));
      above = λ p there high. above p there (omega (arith, start, end, high, long));
      inside = λ i k less in_unit there.
          let p = (u + i) * d + k in
          let split : (u + i) * d ≡ u * d + i * d = omega arith in
          let row = mul-le-mul_right d (let h : i + 1 ≤ n = omega (arith, less) in h) in
          let back : p - d * u ≡ i * d + k = omega (arith, start, split) in
          let byte : slice_index (load_of device c words) (p - d * u) ≡ slice_index (get_or words i []) (c * d + k) =
          ap (λ (m : ℕ). slice_index (load_of device c words) m) back ∙ load_byte device c words i k small less in_unit in
          subst (λ (m : ℕ). Q (slice_index old p) m (slice_index new p)) byte
          (inside p there (omega (arith, start, split)) (omega (arith, start, split, row, in_unit, long)));
    }

-- ---- the bus words

-- So many bus words of a bank from u on have changed as P says of each byte of each of them, and no other byte has: where
-- the byte is at one of these places.
pub record WordsTo (width : ℕ) (device : Device) (u n : ℕ) (At : ℕ → ℕ → Type 0) (P : ℕ → ℕ → ℕ → ℕ → Type 0) (old new : List ChipState) : Type 0 where
  pub below : (a : ℕ) → ByteAt device old At a → a < u * width → bank_byte device new a ≡ bank_byte device old a
  pub above : (a : ℕ) → ByteAt device old At a → (u + n) * width ≤ a → bank_byte device new a ≡ bank_byte device old a
  pub inside : (i a : ℕ) → i < n → ByteAt device old At a → (u + i) * width ≤ a → a < (u + i) * width + width
      → P i (a - (u + i) * width) (bank_byte device old a) (bank_byte device new a)

-- a place in unit u + i of a chip, or outside the n units from u on
abbrev here_or_out : (d u n i p : ℕ) → Type 0
here_or_out d u n i p = (p < u * d) ⊎ (((u + n) * d ≤ p) ⊎ (((u + i) * d ≤ p) × (p < (u + i) * d + d)))

-- One of these units has changed so, but for the others.
one_of : (d u n i : ℕ) (At : ℕ → Type 0) (P : ℕ → ℕ → ℕ → ℕ → Type 0) (old new : List ℕ) → i < n → UnitsTo d u n At P old new
    → UnitTo d (u + i) (λ p. At p × here_or_out d u n i p) (P i) old new
one_of d u n i At P old new less units =
    let split : (u + i) * d ≡ u * d + i * d = omega arith in
    let row = mul-le-mul_right d (let h : u + i + 1 ≤ u + n = omega (arith, less) in h) in
    record {
      below = λ p there low. elim there.1 [
        | inl before ↦ units.below p there.0 before
        | inr (inl behind) ↦ absurd (omega (arith, row, behind, low))
        | inr (inr here) ↦ (let from = here.0 in absurd (omega (arith, from, low)))
      ];
      above = λ p there high. elim there.1 [
        | inl before ↦ absurd (omega (arith, split, before, high))
        | inr (inl behind) ↦ units.above p there.0 behind
        | inr (inr here) ↦ (let to = here.1 in absurd (omega (arith, to, high)))
      ];
      inside = λ k there in_unit. units.inside i k less in_unit there.0;
    }

-- a byte behind the words before v lies in one from v on
word_behind : (w v a : ℕ) → 0 < w → v * w ≤ a → v ≤ a / w
word_behind w v a positive order =
    let whole = div-add-mod' a w in
    let below : a % w < w = mod-lt a positive in
    let less : v < a / w + 1 = lt_of_mul-lt-mul_right w (let h : v * w < (a / w + 1) * w = omega (arith, whole, below, order) in h) in
    omega (arith, less)

-- Each lane's units have changed so: then the bus words have.
pub words_to : (width : ℕ) (device : Device) (u n : ℕ) (At : ℕ → ℕ → Type 0) (P : ℕ → ℕ → ℕ → ℕ → Type 0) (old new : List ChipState) → IsBank width device old → 0 < width → 0 < n
    → length new ≡ length old
    → ((c : ℕ) → c < length old → UnitsTo (wide (chip_at old c)) u n (At c) (λ i k x y. P i (c * wide (chip_at old c) + k) x y) (chip_at old c).cells (chip_at new c).cells)
    → WordsTo width device u n At P old new
words_to width device u n At P old new bank some more count each =
    let d = unit_len device in
    let lanes = length old in
    let fills : lanes * d ≡ width = fills_word width device old bank in
    let wires = some_bytes device in
    let units : (c : ℕ) → c < lanes → UnitsTo d u n (At c) (λ i k x y. P i (c * d + k) x y) (chip_at old c).cells (chip_at new c).cells =
    λ c below. subst (λ (m : ℕ). UnitsTo m u n (At c) (λ i k x y. P i (c * m + k) x y) (chip_at old c).cells (chip_at new c).cells) (ap unit_len (bank.devices c below)) (each c below) in
    let one : (i : ℕ) → i < n → WordTo width device (u + i) (λ c p. At c p × here_or_out d u n i p) (P i) old new =
    λ i less. word_to width device (u + i) (λ c p. At c p × here_or_out d u n i p) (P i) old new bank some count
    (λ c below.
    subst (λ (m : ℕ). UnitTo m (u + i) (λ p. At c p × here_or_out d u n i p) (λ k x y. P i (c * m + k) x y) (chip_at old c).cells (chip_at new c).cells) (sym (ap unit_len (bank.devices c below)))
    (one_of d u n i (At c) (λ j k x y. P j (c * d + k) x y) (chip_at old c).cells (chip_at new c).cells less (units c below))) in
    let row : (a : ℕ) → place_at lanes d a ≡ a / width * d + a % d = λ a. ap (λ (m : ℕ). a / m * d + a % d) fills in
    let first : (u + 0) * width ≡ u * width = omega arith in
    let next : (u + 0) * width + width ≤ (u + n) * width = let e = mul-le-mul_right width (let h : u + 1 ≤ u + n = omega (arith, more) in h) in omega (arith, e) in
    let start : (u + 0) * d ≡ u * d = omega arith in
    record {
      below = λ a there low.
          (one 0 more).below a (there, inl (subst (λ (p : ℕ). p < u * d) (sym (row a)) (before_unit d (a / width) (a % d) u (word_before width u a low) (mod-lt a wires)))) (omega (arith, first, low));
      above = λ a there high.
          let past = word_behind width (u + n) a some high in
          let order = mul-le-mul_right d past in
          (one 0 more).above a (there, inr (inl (subst (λ (p : ℕ). (u + n) * d ≤ p) (sym (row a)) (omega (arith, order))))) (omega (arith, next, high));
      inside = λ i a less there low high.
          let within = in_word width (u + i) a low high in
          let small = mod-lt a wires in
          let place : place_at lanes d a ≡ (u + i) * d + a % d = row a ∙ ap (λ (m : ℕ). m * d + a % d) within.word in
          (one i less).inside a (there, inr (inr (omega (arith, place), omega (arith, place, small)))) low high;
    }
