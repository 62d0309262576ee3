-- Bytes of a bank and their places in its chips: so many lanes, of d bytes each in a bus word.
use Rattle.std.proofs.Common.{◌≡◌, ◌<◌, ◌+◌, ◌*◌, ◌/◌, ◌%◌, ℕ, sym, ap, subst, ◌∙◌, arith}
use Rattle.std.proofs.Math.Nat.{mod-lt, mul_comm, div-div-eq-div-mul, div-lt_iff_lt-mul}
use Rattle.std.proofs.Math.Arith.{mod-mul}
use Rattle.std.proofs.lemmas.Nat.{div-mul-add, mod-mul-add, div-add-mod'}
use Rattle.nor_cell.specs.Wiring.{bank_place, lane_at, place_at}

-- Counted in device words, byte p of chip c is device word p / d * lanes + c of the bank.
words : (lanes d c p : ℕ) → bank_place lanes d c p ≡ (p / d * lanes + c) * d + p % d
words lanes d c p = omega arith

word_of : (lanes d c p : ℕ) → 0 < d → bank_place lanes d c p / d ≡ p / d * lanes + c
word_of lanes d c p some = ap (λ (a : ℕ). a / d) (words lanes d c p) ∙ div-mul-add (p / d * lanes + c) d (p % d) (mod-lt p some)

byte_of : (lanes d c p : ℕ) → 0 < d → bank_place lanes d c p % d ≡ p % d
byte_of lanes d c p some = ap (λ (a : ℕ). a % d) (words lanes d c p) ∙ mod-mul-add (p / d * lanes + c) d (p % d) (mod-lt p some)

-- a bus word has a device word of each lane
bus_word : (lanes d a : ℕ) → a / (lanes * d) ≡ a / d / lanes
bus_word lanes d a = ap (λ (n : ℕ). a / n) (mul_comm lanes d) ∙ sym (div-div-eq-div-mul a d lanes)

-- Byte p of chip c lies in chip c.
pub lane_at-bank_place : (lanes d c p : ℕ) → 0 < d → c < lanes → lane_at lanes d (bank_place lanes d c p) ≡ c
lane_at-bank_place lanes d c p some below = ap (λ (n : ℕ). n % lanes) (word_of lanes d c p some) ∙ mod-mul-add (p / d) lanes c below

-- Byte p of chip c is its byte p.
pub place_at-bank_place : (lanes d c p : ℕ) → 0 < d → c < lanes → place_at lanes d (bank_place lanes d c p) ≡ p
place_at-bank_place lanes d c p some below =
    let q : bank_place lanes d c p / (lanes * d) ≡ p / d = bus_word lanes d (bank_place lanes d c p) ∙ (ap (λ (n : ℕ). n / lanes) (word_of lanes d c p some) ∙ div-mul-add (p / d) lanes c below) in
    ap (λ (n : ℕ). n * d + bank_place lanes d c p % d) q ∙ (ap (λ (n : ℕ). p / d * d + n) (byte_of lanes d c p some) ∙ div-add-mod' p d)

-- Bank byte a lies in its chip's unit a / (lanes * d), which is its bus word,
pub unit_at_place : (lanes d a : ℕ) → 0 < d → place_at lanes d a / d ≡ a / (lanes * d)
unit_at_place lanes d a some = div-mul-add (a / (lanes * d)) d (a % d) (mod-lt a some)

-- and is byte a % d of that unit.
pub byte_at_place : (lanes d a : ℕ) → 0 < d → place_at lanes d a % d ≡ a % d
byte_at_place lanes d a some = mod-mul-add (a / (lanes * d)) d (a % d) (mod-lt a some)

-- Bank byte a is the byte of its chip at its place.
pub bank_place-place_at : (lanes d a : ℕ) → 0 < d → bank_place lanes d (lane_at lanes d a) (place_at lanes d a) ≡ a
bank_place-place_at lanes d a some =
    words lanes d (lane_at lanes d a) (place_at lanes d a)
    ∙ (ap (λ (n : ℕ). (n * lanes + lane_at lanes d a) * d + place_at lanes d a % d) (unit_at_place lanes d a some ∙ bus_word lanes d a)
    ∙ (ap (λ (n : ℕ). n * d + place_at lanes d a % d) (div-add-mod' (a / d) lanes)
    ∙ (ap (λ (n : ℕ). a / d * d + n) (byte_at_place lanes d a some) ∙ div-add-mod' a d)))

-- It lies in one of the chips,
pub lane_at_below : (lanes d a : ℕ) → 0 < lanes → lane_at lanes d a < lanes
lane_at_below lanes d a some = mod-lt (a / d) some

-- Byte p of a chip is one of the bank.
pub bank_place_below : (lanes d units size c p : ℕ) → 0 < d → c < lanes → size ≡ units * d → p < size → bank_place lanes d c p < lanes * size
bank_place_below lanes d units size c p some lane whole below =
    let unit : p / d < units = (div-lt_iff_lt-mul some).1 (subst (λ (n : ℕ). p < n) whole below) in
    let bus : (p / d * lanes + c) / lanes < units = subst (λ (n : ℕ). n < units) (sym (div-mul-add (p / d) lanes c lane)) unit in
    let word : p / d * lanes + c < units * lanes = (div-lt_iff_lt-mul (let l : 0 < lanes = omega arith in l)).0 bus in
    let place : bank_place lanes d c p < units * lanes * d = (div-lt_iff_lt-mul some).0 (subst (λ (n : ℕ). n < units * lanes) (sym (word_of lanes d c p some)) word) in
    subst (λ (n : ℕ). bank_place lanes d c p < lanes * n) (sym whole) (omega arith)

-- In its bus word, byte a is byte a % (lanes * d), and the lanes come one after another.
pub lane_of_byte : (lanes d a : ℕ) → 0 < lanes → 0 < d → lane_at lanes d a ≡ a % (lanes * d) / d
lane_of_byte lanes d a lane some = sym (ap (λ (n : ℕ). n / d) (mod-mul a lane some) ∙ div-mul-add (a / d % lanes) d (a % d) (mod-lt a some))

-- Bus word a / (lanes * d) is a unit of each chip, and byte a is this byte of it.
pub place_of_byte : (lanes d a : ℕ) → 0 < lanes → 0 < d → place_at lanes d a ≡ a / (lanes * d) * d + a % (lanes * d) % d
place_of_byte lanes d a lane some =
    ap (λ (n : ℕ). a / (lanes * d) * d + n) (sym (ap (λ (n : ℕ). n % d) (mod-mul a lane some) ∙ mod-mul-add (a / d % lanes) d (a % d) (mod-lt a some)))
