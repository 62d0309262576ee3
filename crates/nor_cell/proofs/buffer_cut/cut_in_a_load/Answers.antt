use Rattle.std.proofs.Common.{◌≡◌, ◌+◌, ◌<◌, ◌≤◌, ◌-◌, ◌*◌, ◌/◌, ℕ, zero, suc, refl, subst, ap, arith, ◌∙◌, true, false, List, [], ◌∷◌, slice_index, ◌&&◌, nat_lt, nat_le}
use Rattle.std.proofs.lemmas.Bool.Decides.{nat_tests}
use Rattle.std.proofs.lemmas.List.{ext_get_or}
use Rattle.nor_cell.specs.Bits.{IsBetween}
use Rattle.nor_cell.specs.Chip.{ChipState, is_locked}
use Rattle.nor_cell.specs.Power.{powered}
use Rattle.nor_cell.specs.BufferCut.{BeforeConfirm, AfterConfirm, SimulatedIsAllowed}
use Rattle.nor_cell.proofs.buffer_cut.cut_in_a_load.Goals as goal

before : BeforeConfirm
before cells end h =
    ap (λ (s : ChipState). s.cells) h.2 ∙ ext_get_or 0 h.0.cells cells h.1.size (λ p lt. h.1.kept p refl refl)

pub returns-clause-before : goal.returns-clause-before
returns-clause-before c = before

allowed : SimulatedIsAllowed
allowed zero lt = record { clears_only = refl; keeps = refl }
allowed (suc zero) lt = record { clears_only = refl; keeps = refl }
allowed (suc (suc zero)) lt = record { clears_only = refl; keeps = refl }
allowed (suc (suc (suc zero))) lt = record { clears_only = refl; keeps = refl }
allowed (suc (suc (suc (suc k)))) lt = absurd (omega arith)

pub returns-clause-simulated : goal.returns-clause-simulated
returns-clause-simulated c = allowed

-- the bytes that were loaded
loaded : List ℕ
loaded = 0x11 ∷ 0x11 ∷ 0x22 ∷ 0x22 ∷ 0x33 ∷ 0x33 ∷ 0x44 ∷ 0x44 ∷ []

-- each byte below eight is programmed, with its datum
inside : (p : ℕ) → p < 8 → (nat_lt p 8 ≡ true) × (slice_index loaded (p - 0) ≡ 17 * (p / 2 + 1))
unfolding loaded
inside zero lt = (refl, refl)
inside (suc zero) lt = (refl, refl)
inside (suc (suc zero)) lt = (refl, refl)
inside (suc (suc (suc zero))) lt = (refl, refl)
inside (suc (suc (suc (suc zero)))) lt = (refl, refl)
inside (suc (suc (suc (suc (suc zero))))) lt = (refl, refl)
inside (suc (suc (suc (suc (suc (suc zero)))))) lt = (refl, refl)
inside (suc (suc (suc (suc (suc (suc (suc zero))))))) lt = (refl, refl)
inside (suc (suc (suc (suc (suc (suc (suc (suc p)))))))) lt = absurd (omega arith)

inside_test : (p : ℕ) → nat_lt p 8 ≡ true → (nat_le 0 p && nat_lt p (0 + 8)) ≡ true
inside_test p h = grind (arith, nat_tests)

outside_test : (p : ℕ) → 8 ≤ p → (nat_le 0 p && nat_lt p (0 + 8)) ≡ false
outside_test p h = grind (arith, nat_tests)

after : AfterConfirm
unfolding loaded
after cells end ones h =
    let same : end.cells ≡ h.0.cells = ap (λ (s : ChipState). s.cells) h.2 in (
      ap (λ (s : ChipState). is_locked s 0) h.2 ∙ ap (λ (s : ChipState). is_locked (powered s) 0) h.1.rest,
      (λ p far. ap (λ xs. slice_index xs p) same ∙ h.1.kept p refl (outside_test p far)),
      (λ p near.
          let i = inside p near in
          let between : IsBetween (slice_index cells p) (slice_index loaded (p - 0)) (slice_index h.0.cells p) = h.1.programming p refl (inside_test p i.0) in
          rw same (subst (λ n. IsBetween 255 n (slice_index h.0.cells p)) i.1
          (subst (λ o. IsBetween o (slice_index loaded (p - 0)) (slice_index h.0.cells p)) (ones.1 p (omega arith)) between))),
    )

pub returns-clause-after : goal.returns-clause-after
returns-clause-after c = after
