use Rattle.std.proofs.Common.{◌≡◌, ◌<◌, ◌^◌, ◌≢◌, ◌-◌, ◌*◌, ◌%◌, min, ℕ, zero, suc, refl, ap, arith, ◌∙◌}
use Rattle.nor_cell.specs.Table.{buffer_units_of, at_least_two}
use Rattle.nor_cell.specs.declared.device.Device.TheVariants.{X16}
use Rattle.nor_cell.proofs.table.buffer_units_of.Goals as goal

-- from two on a power of two isn't one
powers : (k : ℕ) → 0 < k → k < 9 → 1 * 2 ^ k % 65536 ≡ at_least_two (2 ^ k)
powers zero low high = absurd (omega arith)
powers (suc zero) low high = refl
powers (suc (suc zero)) low high = refl
powers (suc (suc (suc zero))) low high = refl
powers (suc (suc (suc (suc zero)))) low high = refl
powers (suc (suc (suc (suc (suc zero))))) low high = refl
powers (suc (suc (suc (suc (suc (suc zero)))))) low high = refl
powers (suc (suc (suc (suc (suc (suc (suc zero))))))) low high = refl
powers (suc (suc (suc (suc (suc (suc (suc (suc zero)))))))) low high = refl
powers (suc (suc (suc (suc (suc (suc (suc (suc (suc k))))))))) low high = absurd (omega arith)

sixteen : (n m : ℕ) → n ≢ 0 → n ≢ 1 → m ≡ min n 9 → 1 * 2 ^ (m - 1) % 65536 ≡ buffer_units_of X16 n
sixteen zero m some more least = absurd (some refl)
sixteen (suc n) m some more least =
    let low : 0 < m - 1 = omega arith in
    let high : m - 1 < 9 = omega arith in
    powers (m - 1) low high ∙ ap (λ k. at_least_two (2 ^ (k - 1))) least

pub returns-in-X16-2-clause-value : goal.returns-in-X16-2-clause-value
returns-in-X16-2-clause-value c = rw c.in-X16.is (sixteen c.args.exponent c.min-in-X16-2.result c.if-exponent-eq0.false c.if-exponent-eq1.false c.min-in-X16-2.ensures)
