-- Bus words by their lanes.
use Rattle.std.proofs.Common.{◌≡◌, ◌<◌, ◌+◌, ◌*◌, ◌/◌, ◌%◌, ℕ, suc, List, [], ◌∷◌, ◌++◌, length, slice_index, refl, sym, ap, ◌∙◌, arith}
use Rattle.std.proofs.Math.Nat.{mod-eq_of_lt}
use Rattle.nor_cell.specs.Bits.{unit_len, unit_bytes, AreBytes}
use Rattle.nor_cell.specs.Chip.{ChipState}
use Rattle.nor_cell.specs.declared.device.Device.{Device}
use Rattle.nor_cell.specs.declared.device.Device.TheVariants.{X8, X16, X16Byte}
use Rattle.nor_word.specs.Word.{lane_of}
use Rattle.nor_bus.specs.Bus.{chip_at}
use Rattle.nor_bus.specs.Words.{side_by_side}

-- ---- lists of chips, by lane number

-- lists of one length with the same chips are one list
pub same_chips : (xs ys : List ChipState) → length ys ≡ length xs → ((c : ℕ) → c < length xs → chip_at ys c ≡ chip_at xs c) → ys ≡ xs
same_chips [] [] size each = refl
same_chips [] (y ∷ ys) size each = absurd (omega arith)
same_chips (x ∷ xs) [] size each = absurd (omega arith)
same_chips (x ∷ xs) (y ∷ ys) size each =
    let head : y ≡ x = each 0 (omega arith) in
    let tail : ys ≡ xs = same_chips xs ys (omega arith) (λ c below. each (suc c) (omega arith)) in
    cc

-- chips that answer alike make the same word
pub same_words : (f g : ChipState → ℕ) (xs ys : List ChipState) → length ys ≡ length xs
    → ((c : ℕ) → c < length xs → unit_bytes (chip_at ys c).part.device (f (chip_at ys c)) ≡ unit_bytes (chip_at xs c).part.device (g (chip_at xs c)))
    → side_by_side f ys ≡ side_by_side g xs
same_words f g [] [] size each = refl
same_words f g [] (y ∷ ys) size each = absurd (omega arith)
same_words f g (x ∷ xs) [] size each = absurd (omega arith)
same_words f g (x ∷ xs) (y ∷ ys) size each =
    let head : unit_bytes y.part.device (f y) ≡ unit_bytes x.part.device (g x) = each 0 (omega arith) in
    let tail : side_by_side f ys ≡ side_by_side g xs = same_words f g xs ys (omega arith) (λ c below. each (suc c) (omega arith)) in
    ap (λ (l : List ℕ). l ++ side_by_side f ys) head ∙ ap (λ (l : List ℕ). unit_bytes x.part.device (g x) ++ l) tail

-- ---- a word of lanes of one byte, and of two

lanes_one : (device : Device) (f : ChipState → ℕ) (chips : List ChipState) (word : List ℕ) → ((v : ℕ) → unit_bytes device v ≡ v % 256 ∷ [])
    → ((c : ℕ) → c < length chips → (chip_at chips c).part.device ≡ device) → length word ≡ length chips → AreBytes word
    → ((c : ℕ) → c < length chips → slice_index word c ≡ f (chip_at chips c)) → word ≡ side_by_side f chips
lanes_one device f [] [] one devices size small each = refl
lanes_one device f [] (b ∷ word) one devices size small each = absurd (omega arith)
lanes_one device f (s ∷ chips) [] one devices size small each = absurd (omega arith)
lanes_one device f (s ∷ chips) (b ∷ word) one devices size small each =
    let here : b ≡ f s = each 0 (omega arith) in
    let less : b < 256 = small 0 in
    let byte : b ≡ f s % 256 = sym (mod-eq_of_lt less) ∙ ap (λ (n : ℕ). n % 256) here in
    let head : unit_bytes s.part.device (f s) ≡ b ∷ [] = ap (λ (d : Device). unit_bytes d (f s)) (devices 0 (omega arith)) ∙ (one (f s) ∙ ap (λ (n : ℕ). n ∷ []) (sym byte)) in
    let tail : word ≡ side_by_side f chips = lanes_one device f chips word one (λ c below. devices (suc c) (omega arith)) (omega arith) (λ p. small (suc p)) (λ c below. each (suc c) (omega arith)) in
    ap (λ (l : List ℕ). b ∷ l) tail ∙ ap (λ (l : List ℕ). l ++ side_by_side f chips) (sym head)

pub later_lane : (a b : ℕ) (word : List ℕ) (c : ℕ) → slice_index (a ∷ b ∷ word) (2 * suc c) + 256 * slice_index (a ∷ b ∷ word) (2 * suc c + 1) ≡ slice_index word (2 * c) + 256 * slice_index word (2 * c + 1)
later_lane a b word c =
    let low : 2 * suc c ≡ suc (suc (2 * c)) = omega arith in
    let high : 2 * suc c + 1 ≡ suc (suc (2 * c + 1)) = omega arith in
    ap (λ (n : ℕ). slice_index (a ∷ b ∷ word) n + 256 * slice_index (a ∷ b ∷ word) (2 * suc c + 1)) low
    ∙ ap (λ (n : ℕ). slice_index (a ∷ b ∷ word) (suc (suc (2 * c))) + 256 * slice_index (a ∷ b ∷ word) n) high

low_byte : (a b n : ℕ) → a < 256 → b < 256 → a + 256 * b ≡ n → n % 256 ≡ a
low_byte a b n x y is = omega arith

high_byte : (a b n : ℕ) → a < 256 → b < 256 → a + 256 * b ≡ n → n / 256 % 256 ≡ b
high_byte a b n x y is = omega arith

lanes_two : (f : ChipState → ℕ) (chips : List ChipState) (word : List ℕ)
    → ((c : ℕ) → c < length chips → (chip_at chips c).part.device ≡ X16) → length word ≡ length chips * 2 → AreBytes word
    → ((c : ℕ) → c < length chips → slice_index word (2 * c) + 256 * slice_index word (2 * c + 1) ≡ f (chip_at chips c)) → word ≡ side_by_side f chips
lanes_two f [] [] devices size small each = refl
lanes_two f [] (b ∷ word) devices size small each = absurd (omega arith)
lanes_two f (s ∷ chips) [] devices size small each = absurd (omega arith)
lanes_two f (s ∷ chips) (a ∷ []) devices size small each = absurd (omega arith)
lanes_two f (s ∷ chips) (a ∷ b ∷ word) devices size small each =
    let here : a + 256 * b ≡ f s = each 0 (omega arith) in
    let low = low_byte a b (f s) (small 0) (small 1) here in
    let high = high_byte a b (f s) (small 0) (small 1) here in
    let head : unit_bytes s.part.device (f s) ≡ a ∷ b ∷ [] = ap (λ (d : Device). unit_bytes d (f s)) (devices 0 (omega arith)) ∙ (ap (λ (n : ℕ). n ∷ f s / 256 % 256 ∷ []) low ∙ ap (λ (n : ℕ). a ∷ n ∷ []) high) in
    let tail : word ≡ side_by_side f chips = lanes_two f chips word (λ c below. devices (suc c) (omega arith)) (omega arith) (λ p. small (suc (suc p)))
    (λ c below. sym (later_lane a b word c) ∙ each (suc c) (omega arith)) in
    ap (λ (l : List ℕ). a ∷ b ∷ l) tail ∙ ap (λ (l : List ℕ). l ++ side_by_side f chips) (sym head)

-- A word in whose lanes the chips of one device say their numbers is that word.
pub word_is : (device : Device) (f : ChipState → ℕ) (chips : List ChipState) (word : List ℕ)
    → ((c : ℕ) → c < length chips → (chip_at chips c).part.device ≡ device) → length word ≡ length chips * unit_len device → AreBytes word
    → ((c : ℕ) → c < length chips → lane_of (unit_len device) word c ≡ f (chip_at chips c)) → word ≡ side_by_side f chips
word_is X8 f chips word devices size small each = lanes_one X8 f chips word (λ v. refl) devices (omega arith) small each
word_is X16Byte f chips word devices size small each = lanes_one X16Byte f chips word (λ v. refl) devices (omega arith) small each
word_is X16 f chips word devices size small each = lanes_two f chips word devices size small each
