-- The lanes of a word in which chips say their numbers side by side.
use Rattle.std.proofs.Common.{◌≡◌, ◌≢◌, ◌<◌, ◌+◌, ◌*◌, ◌/◌, ◌%◌, ◌∙◌, ◌⊎◌, inl, inr, ◌==◌, ◌&&◌, if◌then◌else◌, ℕ, zero, suc, List, [], ◌∷◌, ◌++◌, length, slice_index, refl, ap, arith, Bool, true, false, eq-eqb}
use Rattle.std.proofs.lemmas.Bool.{cases_eq}
use Rattle.std.proofs.Math.Nat.{mod-eq_of_lt}
use Rattle.nor_cell.proofs.Logic.{both_pass, same_number, not_passed}
use Rattle.nor_cell.specs.Bits.{unit_len, unit_bytes}
use Rattle.nor_cell.specs.Chip.{ChipState}
use Rattle.nor_cell.specs.declared.device.Device.{Device}
use Rattle.nor_cell.specs.declared.device.Device.TheVariants.{X8, X16, X16Byte}
use Rattle.nor_word.specs.Word.{lane_of}
use Rattle.nor_bus.specs.Bus.{chip_at}
use Rattle.nor_bus.specs.Words.{side_by_side}
use Rattle.nor_probe.specs.Found.{lanes_read}
use Rattle.nor_bus.proofs.Words.{later_lane}

-- ---- chips of the lanes' own device

said_one : (device : Device) (f : ChipState → ℕ) (chips : List ChipState) (c : ℕ) → ((v : ℕ) → unit_bytes device v ≡ v % 256 ∷ [])
    → ((c : ℕ) → c < length chips → (chip_at chips c).part.device ≡ device) → ((c : ℕ) → c < length chips → f (chip_at chips c) < 256) → c < length chips
    → slice_index (side_by_side f chips) c ≡ f (chip_at chips c)
said_one device f [] c one devices small below = absurd (omega arith)
said_one device f (s ∷ chips) zero one devices small below =
    let here : unit_bytes s.part.device (f s) ≡ f s % 256 ∷ [] = ap (λ (d : Device). unit_bytes d (f s)) (devices 0 (omega arith)) ∙ one (f s) in
    ap (λ (l : List ℕ). slice_index (l ++ side_by_side f chips) 0) here ∙ mod-eq_of_lt (small 0 (omega arith))
said_one device f (s ∷ chips) (suc c) one devices small below =
    let here : unit_bytes s.part.device (f s) ≡ f s % 256 ∷ [] = ap (λ (d : Device). unit_bytes d (f s)) (devices 0 (omega arith)) ∙ one (f s) in
    ap (λ (l : List ℕ). slice_index (l ++ side_by_side f chips) (suc c)) here
    ∙ said_one device f chips c one (λ k less. devices (suc k) (omega arith)) (λ k less. small (suc k) (omega arith)) (omega arith)

two : (v : ℕ) → v < 256 → v % 256 + 256 * (v / 256 % 256) ≡ v
two v small = omega arith

said_two : (f : ChipState → ℕ) (chips : List ChipState) (c : ℕ)
    → ((c : ℕ) → c < length chips → (chip_at chips c).part.device ≡ X16) → ((c : ℕ) → c < length chips → f (chip_at chips c) < 256) → c < length chips
    → slice_index (side_by_side f chips) (2 * c) + 256 * slice_index (side_by_side f chips) (2 * c + 1) ≡ f (chip_at chips c)
said_two f [] c devices small below = absurd (omega arith)
said_two f (s ∷ chips) zero devices small below =
    let here : unit_bytes s.part.device (f s) ≡ f s % 256 ∷ f s / 256 % 256 ∷ [] = ap (λ (d : Device). unit_bytes d (f s)) (devices 0 (omega arith)) in
    ap (λ (l : List ℕ). slice_index (l ++ side_by_side f chips) 0 + 256 * slice_index (l ++ side_by_side f chips) 1) here ∙ two (f s) (small 0 (omega arith))
said_two f (s ∷ chips) (suc c) devices small below =
    let here : unit_bytes s.part.device (f s) ≡ f s % 256 ∷ f s / 256 % 256 ∷ [] = ap (λ (d : Device). unit_bytes d (f s)) (devices 0 (omega arith)) in
    ap (λ (l : List ℕ). slice_index (l ++ side_by_side f chips) (2 * suc c) + 256 * slice_index (l ++ side_by_side f chips) (2 * suc c + 1)) here
    ∙ (later_lane (f s % 256) (f s / 256 % 256) (side_by_side f chips) c
    ∙ said_two f chips c (λ k less. devices (suc k) (omega arith)) (λ k less. small (suc k) (omega arith)) (omega arith))

-- Lane c reads what chip c says.
pub said : (device : Device) (f : ChipState → ℕ) (chips : List ChipState) (c : ℕ)
    → ((c : ℕ) → c < length chips → (chip_at chips c).part.device ≡ device) → ((c : ℕ) → c < length chips → f (chip_at chips c) < 256) → c < length chips
    → lane_of (unit_len device) (side_by_side f chips) c ≡ f (chip_at chips c)
said X8 f chips c devices small below = said_one X8 f chips c (λ v. refl) devices small below
said X16Byte f chips c devices small below = said_one X16Byte f chips c (λ v. refl) devices small below
said X16 f chips c devices small below = said_two f chips c devices small below

-- ---- chips of any device

nothing_then : (device : Device) (v : ℕ) (word : List ℕ) (p : ℕ) → v ≡ 0 → ((q : ℕ) → slice_index word q ≡ 0) → slice_index (unit_bytes device v ++ word) p ≡ 0
nothing_then X8 v word zero none later = ap (λ (n : ℕ). n % 256) none
nothing_then X8 v word (suc p) none later = later p
nothing_then X16Byte v word zero none later = ap (λ (n : ℕ). n % 256) none
nothing_then X16Byte v word (suc p) none later = later p
nothing_then X16 v word zero none later = ap (λ (n : ℕ). n % 256) none
nothing_then X16 v word (suc zero) none later = ap (λ (n : ℕ). n / 256 % 256) none
nothing_then X16 v word (suc (suc p)) none later = later p

-- Where every chip says 0, every byte is 0.
pub nothing_said : (f : ChipState → ℕ) (chips : List ChipState) (p : ℕ) → ((s : ChipState) → f s ≡ 0) → slice_index (side_by_side f chips) p ≡ 0
nothing_said f [] p none = refl
nothing_said f (s ∷ chips) p none = nothing_then s.part.device (f s) (side_by_side f chips) p (none s) (λ q. nothing_said f chips q none)

pub nothing_in_lane : (d : ℕ) (word : List ℕ) (c : ℕ) → ((p : ℕ) → slice_index word p ≡ 0) → lane_of d word c ≡ 0
nothing_in_lane d word c none = by_width (d == 1)
  where
    by_width : (one : Bool) → (if one then slice_index word c else slice_index word (2 * c) + 256 * slice_index word (2 * c + 1)) ≡ 0
    by_width true = none c
    by_width false = let low = none (2 * c) in let high = none (2 * c + 1) in omega (arith, low, high)

-- The second byte is the high one of a sixteen bit chip, which says a byte.
pub second_byte : (f : ChipState → ℕ) (chips : List ChipState) → (chip_at chips 0).part.device ≡ X16 → 0 < length chips → f (chip_at chips 0) < 256
    → slice_index (side_by_side f chips) 1 ≡ 0
second_byte f [] device some small = absurd (omega arith)
second_byte f (s ∷ chips) device some small =
    let here : unit_bytes s.part.device (f s) ≡ f s % 256 ∷ f s / 256 % 256 ∷ [] = ap (λ (d : Device). unit_bytes d (f s)) device in
    let high : f s / 256 % 256 ≡ 0 = omega arith in
    ap (λ (l : List ℕ). slice_index (l ++ side_by_side f chips) 1) here ∙ high

-- ---- lanes that read a letter

pub all_read : (d n v : ℕ) (word : List ℕ) → ((c : ℕ) → c < n → lane_of d word c ≡ v) → lanes_read d n word v ≡ true
all_read d zero v word each = refl
all_read d (suc n) v word each =
    let here : (lane_of d word n == v) ≡ true = eq-eqb (lane_of d word n) v (each n (omega arith)) in
    let front : lanes_read d n word v ≡ true = all_read d n v word (λ c below. each c (omega arith)) in
    ap (λ (b : Bool). b && (lane_of d word n == v)) front ∙ here

-- and each does so
pub each_reads : (d n v : ℕ) (word : List ℕ) → lanes_read d n word v ≡ true → (c : ℕ) → c < n → lane_of d word c ≡ v
each_reads d zero v word is c below = absurd (omega arith)
each_reads d (suc n) v word is c below =
    let parts = both_pass (lanes_read d n word v) (lane_of d word n == v) is in
    this_or_earlier (lane_of d word c) (lane_of d word n) parts.1 (ap (λ (k : ℕ). lane_of d word k)) (cases_eq c n) (λ less. each_reads d n v word parts.0 c (omega arith))
  where
    this_or_earlier : (x y : ℕ) → (y == v) ≡ true → (c ≡ n → x ≡ y) → (c ≡ n) ⊎ (c ≢ n) → (c ≢ n → x ≡ v) → x ≡ v
    this_or_earlier x y here same (inl is) earlier = same is ∙ same_number y v here
    this_or_earlier x y here same (inr less) earlier = earlier less

-- A lane that doesn't is enough.
pub one_hides : (d n v : ℕ) (word : List ℕ) (c : ℕ) → c < n → lane_of d word c ≢ v → lanes_read d n word v ≡ false
one_hides d n v word c below differs = not_passed (lanes_read d n word v) (λ is. differs (each_reads d n v word is c below))
