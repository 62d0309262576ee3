-- How many units and bytes a bus has.
use Rattle.std.proofs.Common.{◌≡◌, ◌≤◌, ◌*◌, ◌/◌, ◌%◌, ◌^◌, ◌==◌, ◌||◌, ◌≢◌, ◌⊎◌, inl, inr, ◌∷◌, [], Bool, ℕ, List, length, true, refl, sym, subst, arith}
use Rattle.std.specs.List.{list_any}
use Rattle.std.proofs.lemmas.Bool.{cases_eq}
use Rattle.nor_cell.specs.Bits.{unit_len}
use Rattle.nor_cell.specs.Ranges.{is_chip_size}
use Rattle.nor_cell.specs.declared.device.Device.{Device}
use Rattle.nor_cell.specs.declared.device.Device.TheVariants.{X8, X16, X16Byte}
use Rattle.nor_bus.specs.Bus.{BusState, IsWired, lane, units_of, wide}

-- from 2 ^ 12 to 2 ^ 27, and even
abbrev IsFit : ℕ → Type 0
IsFit n = (4096 ≤ n) × (n ≤ 134217728) × (n % 2 ≡ 0)

-- so are these powers of two
abbrev AreFit : List ℕ → Type 0
AreFit [] = Unit {0}
AreFit (k ∷ ks) = IsFit (2 ^ k) × AreFit ks

one_is : (n k : ℕ) (rest : Bool) → IsFit (2 ^ k) → (rest ≡ true → IsFit n) → ((n == 2 ^ k) || rest) ≡ true → (n ≡ 2 ^ k) ⊎ (n ≢ 2 ^ k) → IsFit n
one_is n k rest fit later is (inl e) = subst (λ (m : ℕ). IsFit m) (sym e) fit
one_is n k rest fit later is (inr ne) = later (grind (arith, is, ne))

fit_of : (n : ℕ) (ks : List ℕ) → AreFit ks → list_any (λ k. n == 2 ^ k) ks ≡ true → IsFit n
fit_of n [] fit is = cc
fit_of n (k ∷ ks) fit is = one_is n k (list_any (λ k. n == 2 ^ k) ks) fit.0 (λ more. fit_of n ks fit.1 more) is (cases_eq n (2 ^ k))

all_fit : AreFit (12 ∷ 13 ∷ 14 ∷ 15 ∷ 16 ∷ 17 ∷ 18 ∷ 19 ∷ 20 ∷ 21 ∷ 22 ∷ 23 ∷ 24 ∷ 25 ∷ 26 ∷ 27 ∷ [])
all_fit = ((omega arith, omega arith, refl), ((omega arith, omega arith, refl), ((omega arith, omega arith, refl), ((omega arith, omega arith, refl), ((omega arith, omega arith, refl), ((omega arith, omega arith, refl), ((omega arith, omega arith, refl), ((omega arith, omega arith, refl), ((omega arith, omega arith, refl), ((omega arith, omega arith, refl), ((omega arith, omega arith, refl), ((omega arith, omega arith, refl), ((omega arith, omega arith, refl), ((omega arith, omega arith, refl), ((omega arith, omega arith, refl), ((omega arith, omega arith, refl), tt))))))))))))))))

-- a chip's size is from 2 ^ 12 to 2 ^ 27 bytes, and even
pub chip_size : (n : ℕ) → is_chip_size n ≡ true → (4096 ≤ n) × (n ≤ 134217728) × (n % 2 ≡ 0)
chip_size n is = fit_of n (12 ∷ 13 ∷ 14 ∷ 15 ∷ 16 ∷ 17 ∷ 18 ∷ 19 ∷ 20 ∷ 21 ∷ 22 ∷ 23 ∷ 24 ∷ 25 ∷ 26 ∷ 27 ∷ []) all_fit is

units_of_device : (device : Device) (size : ℕ) → (4096 ≤ size) → (size ≤ 134217728) → size % 2 ≡ 0 → (2048 ≤ size / unit_len device) × (size / unit_len device ≤ 134217728) × (size / unit_len device * unit_len device ≡ size)
units_of_device X8 size least most even = (omega arith, omega arith, omega arith)
units_of_device X16 size least most even = (omega arith, omega arith, omega arith)
units_of_device X16Byte size least most even = (omega arith, omega arith, omega arith)

-- a bus has from 2,048 to 2 ^ 27 bus words
pub bus_units : (width : ℕ) (bus : BusState) → IsWired width bus → (2048 ≤ units_of bus) × (units_of bus ≤ 134217728) × (units_of bus * wide (lane bus 0) ≡ length (lane bus 0).cells)
bus_units width bus wired =
    let size = chip_size (length (lane bus 0).cells) wired.size in
    units_of_device (lane bus 0).part.device (length (lane bus 0).cells) size.0 size.1 size.2
