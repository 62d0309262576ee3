-- The weak places of a bank's chips, as the spans of the array that it stands for.
use Rattle.std.proofs.Common.{◌≡◌, ◌≢◌, ◌<◌, ◌≤◌, ◌+◌, ◌*◌, ◌/◌, ◌%◌, ◌^◌, inl, inr, ℕ, zero, suc, List, [], ◌∷◌, length, map, slice_index, refl, sym, ◌∙◌, ap, subst, arith, Bool, true, false, ◌&&◌, ◌==◌}
use Rattle.std.specs.List.{list_any}
use Rattle.std.proofs.lemmas.Bool.{cases_eq}
use Rattle.std.proofs.lemmas.Nat.{pow-add, pow_pos, div-add-mod'}
use Rattle.std.proofs.lemmas.List.Folds.{list_any-append}
use Rattle.std.proofs.Math.Nat.{mod-lt, div-div-eq-div-mul}
use Rattle.nor_cell.specs.Bits.{has_bit, unit_len}
use Rattle.nor_cell.specs.Chip.{ChipState}
use Rattle.nor_cell.specs.Wiring.{lane_at, bank_place}
use Rattle.nor_cell.specs.declared.device.Span.{Span}
use Rattle.nor_cell.specs.declared.geometry.Geometry.{Geometry}
use Rattle.nor_cell.proofs.Logic.{both_pass, same_number, same_self, some_bytes, not_passed}
use Rattle.nor_poll.proofs.Between.{neither}
use Rattle.nor_lane.proofs.Places.{lane_at-bank_place}
use Rattle.nor_bus.specs.Bus.{lane, chip_at}
use Rattle.nor_bus.specs.Driven.{AllLanes}
use Rattle.nor_array.specs.Array.{ArrayState, Constants}
use Rattle.nor_array.specs.Admits.{would_change, span_changes, program_breaks}
use Rattle.nor_bank.specs.Programs.{BreakThere, HasWeakUnits, changes_of, unit_passes}
use Rattle.nor_bank.specs.Stands.{Stands, weak_span, weak_spans}
use Rattle.nor_bank.specs.State.{BankState, byte_of}
use Rattle.nor_bank.proofs.Anding.{no_bits, none_broke}
use Rattle.nor_bank.proofs.Breaking.{unit_passed, changes_in}
use Rattle.nor_bank.proofs.Changing.{changes_same}
use Rattle.nor_bank.proofs.Known.{known_own}
use Rattle.nor_bank.proofs.Searching.{same_answer, is_passed, any_weaker, any_map, first_passes, second_passes, lowest_passes}

-- ---- the weak spans of all chips

-- none passes where none of a chip does
pub spans_none : (g : Geometry) (test : Span → Bool) (c : ℕ) (chips : List ChipState)
    → ((k : ℕ) → k < length chips → list_any (λ p. test (weak_span g (c + k) p)) (chip_at chips k).part.weak ≡ false)
    → list_any test (weak_spans g c chips) ≡ false
spans_none g test c [] none = refl
spans_none g test c (s ∷ chips) none =
    let first : c + 0 ≡ c = omega arith in
    let here : list_any (λ p. test (weak_span g c p)) s.part.weak ≡ false =
    ap (λ (n : ℕ). list_any (λ p. test (weak_span g n p)) s.part.weak) (sym first) ∙ none 0 (omega arith) in
    let later = spans_none g test (c + 1) chips (λ k below.
    let next : c + 1 + k ≡ c + suc k = omega arith in
    ap (λ (n : ℕ). list_any (λ p. test (weak_span g n p)) (chip_at chips k).part.weak) next ∙ none (suc k) (omega arith)) in
    list_any-append test (map (weak_span g c) s.part.weak) (weak_spans g (c + 1) chips)
    ∙ neither _ _ (any_map test (weak_span g c) s.part.weak ∙ here) later

-- and one does where one of a chip does
pub spans_some : (g : Geometry) (test : Span → Bool) (c k : ℕ) (chips : List ChipState) → k < length chips
    → list_any (λ p. test (weak_span g (c + k) p)) (chip_at chips k).part.weak ≡ true → list_any test (weak_spans g c chips) ≡ true
spans_some g test c k [] below some = absurd (omega arith)
spans_some g test c zero (s ∷ chips) below some =
    let first : c + 0 ≡ c = omega arith in
    let here : list_any (λ p. test (weak_span g c p)) s.part.weak ≡ true =
    ap (λ (n : ℕ). list_any (λ p. test (weak_span g n p)) s.part.weak) (sym first) ∙ some in
    list_any-append test (map (weak_span g c) s.part.weak) (weak_spans g (c + 1) chips)
    ∙ first_passes _ _ (any_map test (weak_span g c) s.part.weak ∙ here)
spans_some g test c (suc k) (s ∷ chips) below some =
    let next : c + 1 + k ≡ c + suc k = omega arith in
    let here = ap (λ (n : ℕ). list_any (λ p. test (weak_span g n p)) (chip_at chips k).part.weak) next ∙ some in
    list_any-append test (map (weak_span g c) s.part.weak) (weak_spans g (c + 1) chips)
    ∙ second_passes _ _ (spans_some g test (c + 1) k chips (omega arith) here)

pub with_pass : (x y : Bool) → x ≡ true → y ≡ true → (x && y) ≡ true
with_pass x y is are = cc

-- those of one lane
abbrev pub of_lane : Geometry → (c : ℕ) → (Span → Bool) → Span → Bool
of_lane g c test span = lane_at g.lanes (unit_len g.device) span.from == c && test span

pub lane_spans : (g : Geometry) (test : Span → Bool) (c : ℕ) (chips : List ChipState) → length chips ≡ g.lanes → c < length chips
    → list_any (of_lane g c test) (weak_spans g 0 chips) ≡ list_any (λ p. test (weak_span g c p)) (chip_at chips c).part.weak
lane_spans g test c chips count below = same_answer _ _ to from
  where
    own : (k p : ℕ) → k < length chips → lane_at g.lanes (unit_len g.device) (bank_place g.lanes (unit_len g.device) k p) ≡ k
    own k p there = lane_at-bank_place g.lanes (unit_len g.device) k p (some_bytes g.device) (subst (λ (n : ℕ). k < n) count there)

    from : list_any (λ p. test (weak_span g c p)) (chip_at chips c).part.weak ≡ true → list_any (of_lane g c test) (weak_spans g 0 chips) ≡ true
    from some =
        spans_some g (of_lane g c test) 0 c chips below
        (any_weaker (λ p. test (weak_span g c p)) (λ p. of_lane g c test (weak_span g (0 + c) p)) (chip_at chips c).part.weak
        (λ p is. let first : 0 + c ≡ c = omega arith in
        subst (λ (n : ℕ). of_lane g c test (weak_span g n p) ≡ true) (sym first)
        (with_pass _ _ (ap (λ (n : ℕ). n == c) (own c p below) ∙ same_self c) is)) some)

    other : (k p : ℕ) → k < length chips → k ≢ c → of_lane g c test (weak_span g k p) ≡ true → ⊥
    other k p there apart is =
        let parts = both_pass (lane_at g.lanes (unit_len g.device) (bank_place g.lanes (unit_len g.device) k p) == c) (test (weak_span g k p)) is in
        apart (sym (own k p there) ∙ same_number _ c parts.0)

    none_of : (xs : List ℕ) (t : ℕ → Bool) → ((p : ℕ) → t p ≡ true → ⊥) → list_any t xs ≡ false
    none_of [] t never = refl
    none_of (x ∷ xs) t never = neither (t x) (list_any t xs) (not_passed (t x) (never x)) (none_of xs t never)

    at_lane : (k : ℕ) → k < length chips → list_any (λ p. test (weak_span g c p)) (chip_at chips c).part.weak ≡ false
        → list_any (λ p. of_lane g c test (weak_span g (0 + k) p)) (chip_at chips k).part.weak ≡ false
    at_lane k there none = elim (cases_eq k c) [
      | inl same ↦
          not_passed _ (λ some.
          let first : 0 + k ≡ c = omega (arith, same) in
          let here = subst (λ (n : ℕ). list_any (λ p. of_lane g c test (weak_span g n p)) (chip_at chips k).part.weak ≡ true) first some in
          let its = subst (λ (n : ℕ). list_any (λ p. of_lane g c test (weak_span g c p)) (chip_at chips n).part.weak ≡ true) same here in
          let both : true ≡ false = sym (any_weaker (λ p. of_lane g c test (weak_span g c p)) (λ p. test (weak_span g c p)) (chip_at chips c).part.weak
          (λ p is. (both_pass _ _ is).1) its) ∙ none in
          cc)
      | inr apart ↦ none_of (chip_at chips k).part.weak (λ p. of_lane g c test (weak_span g (0 + k) p)) (λ p is.
          let first : 0 + k ≡ k = omega arith in
          other k p there apart (subst (λ (n : ℕ). of_lane g c test (weak_span g n p) ≡ true) first is))
    ]

    to : list_any (of_lane g c test) (weak_spans g 0 chips) ≡ true → list_any (λ p. test (weak_span g c p)) (chip_at chips c).part.weak ≡ true
    to some = is_passed _ (λ none.
        let both : true ≡ false = sym some ∙ spans_none g (of_lane g c test) 0 chips (λ k there. at_lane k there none) in
        cc)

-- a number whose bits are all among the first n
pub few_bits : (n bits : ℕ) → ((c : ℕ) → n ≤ c → has_bit bits c ≡ false) → bits < 2 ^ n
few_bits n bits past =
    let none : bits / 2 ^ n ≡ 0 = no_bits (bits / 2 ^ n) (λ k.
    ap (λ (m : ℕ). m % 2 == 1) (div-div-eq-div-mul bits (2 ^ n) (2 ^ k) ∙ ap (λ (m : ℕ). bits / m) (sym (pow-add 2 n k)))
    ∙ past (n + k) (omega arith)) in
    let whole = div-add-mod' bits (2 ^ n) in
    let rest = mod-lt bits (pow_pos n) in
    let nothing : 0 * 2 ^ n ≡ 0 = omega arith in
    let gone : bits / 2 ^ n * 2 ^ n ≡ 0 = ap (λ (m : ℕ). m * 2 ^ n) none ∙ nothing in
    omega (arith, whole, rest, gone)

-- ---- those of a bank that stands for an array

pub weak_units : (b : BankState) (a : ArrayState) → Stands b a → AllLanes HasWeakUnits b.bus
weak_units b a stands c below = (stands.known.wired.chips c below).chip.weak_units

-- what would change of the bank would change of the array
pub changes_alike : (b : BankState) (a : ArrayState) (at : ℕ) (new : List ℕ) → ((p : ℕ) → at ≤ p → p < at + length new → slice_index a.bytes p ≡ byte_of b p) → (p : ℕ)
    → changes_of b.found.geometry b.bus at new p ≡ would_change a.bytes at new p
changes_alike b a at new same p = changes_same (byte_of b) (slice_index a.bytes) at new p (λ begins ends. sym (same p begins ends))

pub spans_are : (b : BankState) (a : ArrayState) → Stands b a → a.consts.weak ≡ weak_spans b.found.geometry 0 b.bus.lanes
spans_are b a stands = ap (λ (k : Constants). k.weak) stands.consts

-- A program in which no lane breaks off changes no weak span.
pub never_breaks : (b : BankState) (a : ArrayState) (at : ℕ) (new : List ℕ) → Stands b a → ((p : ℕ) → at ≤ p → p < at + length new → slice_index a.bytes p ≡ byte_of b p)
    → BreakThere b.found.geometry 0 at new 0 (at + length new) b.bus → program_breaks a at new ≡ false
never_breaks b a at new stands same whole =
    let g = b.found.geometry in
    let d = unit_len g.device in
    let end = at + length new in
    let none = whole (weak_units b a stands) in
    let changed = span_changes a.bytes at new in
    ap (λ (l : List Span). list_any changed l) (spans_are b a stands)
    ∙ spans_none g changed 0 b.bus.lanes (λ k below.
    not_passed _ (λ some.
    let low : k < g.lanes = subst (λ (n : ℕ). k < n) (known_own b.found b.bus stands.known).count below in
    let first : 0 + k ≡ k = omega arith in
    let its = subst (λ (n : ℕ). list_any (λ p. changed (weak_span g n p)) (lane b.bus k).part.weak ≡ true) first some in
    let broken = any_weaker (λ p. changed (weak_span g k p)) (unit_passes g (changes_of g b.bus at new) 0 end k) (lane b.bus k).part.weak
    (λ p is.
    let byte = lowest_passes (would_change a.bytes at new) (bank_place g.lanes d k p) d is in
    let from = byte.from in
    let range = changes_in (slice_index a.bytes) at new byte.place byte.passes in
    let last = range.1 in
    unit_passed g (changes_of g b.bus at new) 0 end k p byte.place (omega arith) (omega (arith, from, last)) from byte.before
    (changes_alike b a at new same byte.place ∙ byte.passes)) its in
    let both : true ≡ false = sym broken ∙ (sym (none.each k low) ∙ none_broke k) in
    cc))
