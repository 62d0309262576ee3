-- The low bytes of a number, as a list.
use Rattle.std.proofs.Common.{◌≡◌, ◌<◌, ℕ, zero, suc, length, slice_index, ap, refl, lit<, arith}
use Rattle.std.specs.Int.{bytes_low_first, byte_at}

-- there are as many as were asked for
pub size_of_bytes : (i k n : ℕ) → length (bytes_low_first i k n) ≡ k
size_of_bytes i zero n = refl
size_of_bytes i (suc k) n = ap suc (size_of_bytes (suc i) k n)

small_byte : (i n : ℕ) → byte_at i n < 256
small_byte zero n = omega arith
small_byte (suc i) n = omega arith

-- each is below 256
pub small_bytes : (i k n j : ℕ) → slice_index (bytes_low_first i k n) j < 256
small_bytes i zero n j = lit< tt
small_bytes i (suc k) n zero = small_byte i n
small_bytes i (suc k) n (suc j) = small_bytes (suc i) k n j
