-- The size of a chip whose table is accepted.
use Rattle.std.proofs.Common.{◌≡◌, ◌≤◌, ◌==◌, ◌+◌, ◌^◌, ◌||◌, ◌⊎◌, inl, inr, ℕ, List, true, ◌/◌, ◌%◌, ◌*◌, ◌<◌, refl, sym, ap, subst, ◌∙◌, arith, None, nat_lt}
use Rattle.std.proofs.Math.Nat.{mul-pos, div-lt_iff_lt-mul}
use Rattle.std.proofs.lemmas.Bool.{and_from}
use Rattle.std.proofs.lemmas.Bool.Decides.{nat_tests}
use Rattle.nor_cell.specs.Bits.{unit_len}
use Rattle.nor_cell.specs.Ranges.{is_chip_size}
use Rattle.nor_cell.specs.Table.{field_8}
use Rattle.nor_cell.specs.Wiring.{place_at}
use Rattle.nor_cell.specs.declared.device.Device.{Device}
use Rattle.nor_cell.specs.declared.device.Device.TheVariants.{X8, X16, X16Byte}
use Rattle.nor_lane.proofs.Places.{unit_at_place}
use Rattle.nor_query.specs.Checks.{first_error}
use Rattle.nor_query.proofs.Passing.{passes}
use Rattle.nor_image.specs.Image.{is_size_by}
use Rattle.nor_dump.specs.Made.{chip_size}

-- one size, or one of those above
step : (k n : ℕ) → n ≤ k → is_chip_size (2 ^ n) ≡ true → (n + 1 ≤ k → is_chip_size (2 ^ k) ≡ true) → is_chip_size (2 ^ k) ≡ true
step k n least sized above = by (let c : (k ≡ n) ⊎ (n + 1 ≤ k) = grind arith in c)
  where
    by : (k ≡ n) ⊎ (n + 1 ≤ k) → is_chip_size (2 ^ k) ≡ true
    by (inl is) = ap (λ (m : ℕ). is_chip_size (2 ^ m)) is ∙ sized
    by (inr more) = above more

-- the powers of two from 2 ^ 12 to 2 ^ 27
pub sized : (k : ℕ) → 12 ≤ k → k ≤ 27 → is_chip_size (2 ^ k) ≡ true
sized k least most =
    step k 12 least refl (λ m12.
    step k 13 (m12) refl (λ m13.
    step k 14 (m13) refl (λ m14.
    step k 15 (m14) refl (λ m15.
    step k 16 (m15) refl (λ m16.
    step k 17 (m16) refl (λ m17.
    step k 18 (m17) refl (λ m18.
    step k 19 (m18) refl (λ m19.
    step k 20 (m19) refl (λ m20.
    step k 21 (m20) refl (λ m21.
    step k 22 (m21) refl (λ m22.
    step k 23 (m22) refl (λ m23.
    step k 24 (m23) refl (λ m24.
    step k 25 (m24) refl (λ m25.
    step k 26 (m25) refl (λ m26.
    step k 27 m26 refl (λ m27. absurd (omega arith)))))))))))))))))

pub size_range : (table : List ℕ) → first_error table ≡ None → (12 ≤ field_8 table 0x27) × (field_8 table 0x27 ≤ 27)
size_range table accepted = let head = (passes table accepted).head in (head.size_low, head.size_high)

-- the size of a chip whose table is accepted
pub table_sized : (table : List ℕ) → first_error table ≡ None → is_chip_size (chip_size table) ≡ true
table_sized table accepted = let range = size_range table accepted in sized (field_8 table 0x27) range.0 range.1

pub size_fits : (table : List ℕ) → first_error table ≡ None → is_size_by table (chip_size table) ≡ true
size_fits table accepted =
    let log = field_8 table 0x27 in
    let same : (2 ^ log == 2 ^ log) ≡ true = grind (arith, nat_tests) in
    let rest : (nat_lt log 12 || nat_lt 27 log || 2 ^ log == 2 ^ log) ≡ true = grind (arith, nat_tests) in
    and_from (is_chip_size (2 ^ log)) (nat_lt log 12 || nat_lt 27 log || 2 ^ log == 2 ^ log) (table_sized table accepted) rest

-- a chip has whole units
pub units_whole : (device : Device) (size : ℕ) → size % 2 ≡ 0 → size ≡ size / unit_len device * unit_len device
units_whole X8 size even = omega arith
units_whole X16 size even = omega arith
units_whole X16Byte size even = omega arith

-- A byte of a bank lies within its chip, whose size is a number of units of d bytes.
pub place_at_below : (lanes d units size a : ℕ) → 0 < lanes → 0 < d → size ≡ units * d → a < lanes * size → place_at lanes d a < size
place_at_below lanes d units size a lane some whole below =
    let bus : a < units * (lanes * d) = (let b : a < lanes * (units * d) = subst (λ (n : ℕ). a < lanes * n) whole below in omega arith) in
    let unit : a / (lanes * d) < units = (div-lt_iff_lt-mul (mul-pos lane some)).1 bus in
    let place : place_at lanes d a / d < units = subst (λ (n : ℕ). n < units) (sym (unit_at_place lanes d a some)) unit in
    subst (λ (n : ℕ). place_at lanes d a < n) (sym whole) ((div-lt_iff_lt-mul some).0 place)
