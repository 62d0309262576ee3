-- Candidates, wirings and geometries.
use Rattle.std.proofs.Common.{◌≡◌, ◌*◌, ◌==◌, ◌&&◌, ◌||◌, ◌⊎◌, inl, inr, ℕ, IsTrue, All, Contains, refl, sym, ap, subst, ◌∙◌, lit<, arith}
use Rattle.nor_cell.specs.Bits.{unit_len}
use Rattle.nor_cell.specs.Wiring.{is_wiring}
use Rattle.nor_cell.specs.declared.device.Device.{Device}
use Rattle.nor_cell.specs.declared.device.Device.TheVariants.{X8, X16, X16Byte}
use Rattle.nor_cell.specs.declared.geometry.Geometry.{Geometry}
use Rattle.nor_lane.specs.Candidates.{wiring, candidates_of}

-- Each candidate is a wiring of the word.
pub candidates_fit : (width : ℕ) → All (λ (g : Geometry). IsTrue (is_wiring width g.lanes g.device)) (candidates_of width)
candidates_fit width = grind arith

one_two_four : (width lanes d : ℕ) → IsTrue ((lanes == 1 || lanes == 2 || lanes == 4) && (width == lanes * d)) → ((lanes ≡ 1) ⊎ (lanes ≡ 2) ⊎ (lanes ≡ 4)) × (width ≡ lanes * d)
one_two_four width lanes d is = grind (arith, is)

so_many : (n width lanes : ℕ) (device : Device) → Contains (candidates_of (n * unit_len device)) (wiring n device) → lanes ≡ n → width ≡ lanes * unit_len device
    → Contains (candidates_of width) (wiring lanes device)
so_many n width lanes device there e is =
    subst (λ (w : ℕ). Contains (candidates_of w) (wiring lanes device)) (sym (is ∙ ap (λ (l : ℕ). l * unit_len device) e))
    (subst (λ (l : ℕ). Contains (candidates_of (n * unit_len device)) (wiring l device)) (sym e) there)

listed : (width lanes : ℕ) (device : Device) → (lanes ≡ 1) ⊎ (lanes ≡ 2) ⊎ (lanes ≡ 4) → width ≡ lanes * unit_len device → Contains (candidates_of width) (wiring lanes device)
listed width lanes X8 (inl e) is = so_many 1 width lanes X8 (0, lit< tt, refl) e is
listed width lanes X8 (inr (inl e)) is = so_many 2 width lanes X8 (0, lit< tt, refl) e is
listed width lanes X8 (inr (inr e)) is = so_many 4 width lanes X8 (0, lit< tt, refl) e is
listed width lanes X16Byte (inl e) is = so_many 1 width lanes X16Byte (1, lit< tt, refl) e is
listed width lanes X16Byte (inr (inl e)) is = so_many 2 width lanes X16Byte (1, lit< tt, refl) e is
listed width lanes X16Byte (inr (inr e)) is = so_many 4 width lanes X16Byte (1, lit< tt, refl) e is
listed width lanes X16 (inl e) is = so_many 1 width lanes X16 (2, lit< tt, refl) e is
listed width lanes X16 (inr (inl e)) is = so_many 2 width lanes X16 (2, lit< tt, refl) e is
listed width lanes X16 (inr (inr e)) is = so_many 4 width lanes X16 (0, lit< tt, refl) e is
