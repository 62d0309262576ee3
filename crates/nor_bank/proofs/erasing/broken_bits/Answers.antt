use Rattle.std.proofs.Common.{◌≡◌, ◌≤◌, ◌+◌, ◌^◌, ◌∙◌, sym, subst, lit<, arith, ℕ}
use Rattle.std.proofs.Math.Nat.{pow-le-pow_right}
use Rattle.nor_bank.specs.Erases.{AreTorn}
use Rattle.nor_bank.proofs.ClosingBits.{torn_more, torn_same}
use Rattle.nor_bank.proofs.erasing.broken_bits.Goals.{then-is_torn, else-is_torn}
use Rattle.nor_bank.proofs.erasing.broken_bits.Goals as goal

pub loop-lane-preserved : goal.loop-lane-preserved
loop-lane-preserved c =
    let k = c.loop-lane.lane in
    let lanes = c.args.lanes.now in
    let low = c.loop-lane-test.true in
    let most = c.requires in
    let few : k ≤ 3 = omega arith in
    let power : 2 ^ k ≤ 2 ^ 3 = pow-le-pow_right (lit< tt) few in
    elim c.if-is_torn.branch [
      | then-is_torn w ↦
          let is = w.bits-is in
          let sum : c.loop-lane.bits + 2 ^ k ≡ c.if-is_torn.bits = omega (arith, is, power) in
          subst (λ (n : ℕ). AreTorn (k + 1) lanes n) sum
          (torn_more k c.loop-lane.bits lanes c.loop-lane.invariant (sym c.is_torn.ensures ∙ w.if-is_torn.true))
      | else-is_torn w ↦
          subst (λ (n : ℕ). AreTorn (k + 1) lanes n) (sym w.bits-is)
          (torn_same k c.loop-lane.bits lanes c.loop-lane.invariant (sym c.is_torn.ensures ∙ w.if-is_torn.false))
    ]
