-- Four bits in a byte.
use Rattle.std.proofs.Common.{◌≡◌, ◌+◌, ◌<◌, ◌≤◌, ◌^◌, ◌%◌, ◌==◌, ℕ, zero, suc, refl, ap, lit<, arith, Bool, true, false}
use Rattle.std.proofs.Math.Nat.{div-eq_of_lt, pow-le-pow_right}
use Rattle.nor_cell.specs.Bits.{has_bit}
use Rattle.nor_cell.specs.Shown.{bit_if}

abbrev pub four : Bool → Bool → Bool → Bool → ℕ
four a b c d = bit_if 1 a + bit_if 2 b + bit_if 4 c + bit_if 8 d

four_bits : (a b c d : Bool) → (has_bit (four a b c d) 0 ≡ a) × (has_bit (four a b c d) 1 ≡ b) × (has_bit (four a b c d) 2 ≡ c) × (has_bit (four a b c d) 3 ≡ d) × (four a b c d < 16)
four_bits true true true true = (refl, refl, refl, refl, lit< tt)
four_bits true true true false = (refl, refl, refl, refl, lit< tt)
four_bits true true false true = (refl, refl, refl, refl, lit< tt)
four_bits true true false false = (refl, refl, refl, refl, lit< tt)
four_bits true false true true = (refl, refl, refl, refl, lit< tt)
four_bits true false true false = (refl, refl, refl, refl, lit< tt)
four_bits true false false true = (refl, refl, refl, refl, lit< tt)
four_bits true false false false = (refl, refl, refl, refl, lit< tt)
four_bits false true true true = (refl, refl, refl, refl, lit< tt)
four_bits false true true false = (refl, refl, refl, refl, lit< tt)
four_bits false true false true = (refl, refl, refl, refl, lit< tt)
four_bits false true false false = (refl, refl, refl, refl, lit< tt)
four_bits false false true true = (refl, refl, refl, refl, lit< tt)
four_bits false false true false = (refl, refl, refl, refl, lit< tt)
four_bits false false false true = (refl, refl, refl, refl, lit< tt)
four_bits false false false false = (refl, refl, refl, refl, lit< tt)

-- they are the bits below 4, and no other is set
pub low_bits : (f : ℕ → Bool) (k : ℕ) → k < 4 → has_bit (four (f 0) (f 1) (f 2) (f 3)) k ≡ f k
low_bits f zero h = (four_bits (f 0) (f 1) (f 2) (f 3)).0
low_bits f (suc zero) h = (four_bits (f 0) (f 1) (f 2) (f 3)).1
low_bits f (suc (suc zero)) h = (four_bits (f 0) (f 1) (f 2) (f 3)).2
low_bits f (suc (suc (suc zero))) h = (four_bits (f 0) (f 1) (f 2) (f 3)).3
low_bits f (suc (suc (suc (suc k)))) h = absurd (omega arith)

pub high_bits : (f : ℕ → Bool) (k : ℕ) → 4 ≤ k → has_bit (four (f 0) (f 1) (f 2) (f 3)) k ≡ false
high_bits f k h =
    let few = (four_bits (f 0) (f 1) (f 2) (f 3)).4 in
    let more : 16 ≤ 2 ^ k = pow-le-pow_right (lit< tt) h in
    ap (λ (q : ℕ). q % 2 == 1) (let small : four (f 0) (f 1) (f 2) (f 3) < 2 ^ k = omega arith in div-eq_of_lt small)
