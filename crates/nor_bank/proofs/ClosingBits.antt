-- The lanes that broke off, as bits.
use Rattle.std.proofs.Common.{◌≡◌, ◌<◌, ◌+◌, ◌-◌, ◌*◌, ◌/◌, ◌%◌, ◌^◌, ◌==◌, inl, inr, ℕ, suc, sym, ◌∙◌, ap, arith, true, false}
use Rattle.std.proofs.Math.Nat.{add-mul-div_left, add-mul-mod_self_left, div-eq_of_lt, pow-suc}
use Rattle.std.proofs.lemmas.Bool.{cases_lt}
use Rattle.std.proofs.lemmas.Nat.{pow-add, pow_pos}
use Rattle.nor_cell.specs.Bits.{has_bit}
use Rattle.nor_poll.specs.UnderErase.{state_at}
use Rattle.nor_poll.specs.declared.lanes.Lanes.{Lanes}
use Rattle.nor_bank.specs.Erases.{AreTorn, is_torn}

-- ---- one bit more, above the others

module _ (k bits : ℕ) (few : bits < 2 ^ k) where
  above : has_bit (bits + 2 ^ k) k ≡ true
  above =
      let one : bits + 2 ^ k ≡ bits + 2 ^ k * 1 = omega arith in
      ap (λ (n : ℕ). n % 2 == 1)
      (ap (λ (n : ℕ). n / 2 ^ k) one ∙ (add-mul-div_left bits 1 (pow_pos k) ∙ ap (λ (n : ℕ). n + 1) (div-eq_of_lt few)))

  below : (c : ℕ) → c < k → has_bit (bits + 2 ^ k) c ≡ has_bit bits c
  below c less =
      let m = k - suc c in
      let sum : k ≡ c + suc m = omega arith in
      let power : 2 ^ k ≡ 2 ^ c * 2 ^ suc m = ap (λ (n : ℕ). 2 ^ n) sum ∙ pow-add 2 c (suc m) in
      let twice : 2 ^ suc m ≡ 2 * 2 ^ m = (let two = pow-suc 2 m in omega (arith, two)) in
      let left : (bits + 2 ^ k) / 2 ^ c ≡ bits / 2 ^ c + 2 * 2 ^ m =
      ap (λ (n : ℕ). (bits + n) / 2 ^ c) power ∙ (add-mul-div_left bits (2 ^ suc m) (pow_pos c) ∙ ap (λ (n : ℕ). bits / 2 ^ c + n) twice) in
      ap (λ (n : ℕ). n == 1) (ap (λ (n : ℕ). n % 2) left ∙ add-mul-mod_self_left (bits / 2 ^ c) 2 (2 ^ m))

  more : bits + 2 ^ k < 2 ^ (k + 1)
  more = let next : 2 ^ (k + 1) ≡ 2 ^ k * 2 ^ 1 = pow-add 2 k 1 in omega (arith, next)

  no_more : has_bit bits k ≡ false
  no_more = ap (λ (n : ℕ). n % 2 == 1) (div-eq_of_lt few)

  still : bits < 2 ^ (k + 1)
  still = let next : 2 ^ (k + 1) ≡ 2 ^ k * 2 ^ 1 = pow-add 2 k 1 in omega (arith, next)

-- ---- one lane more

pub torn_more : (k bits : ℕ) (lanes : Lanes) → AreTorn k lanes bits → is_torn (state_at lanes k) ≡ true → AreTorn (k + 1) lanes (bits + 2 ^ k)
torn_more k bits lanes are torn = record {
  few = more k bits are.few;
  each = λ c less. elim (cases_lt c k) [
    | inl low ↦ below k bits are.few c low ∙ are.each c low
    | inr high ↦
        let same : c ≡ k = omega arith in
        ap (λ (n : ℕ). has_bit (bits + 2 ^ k) n) same ∙ (above k bits are.few ∙ (sym torn ∙ ap (λ (n : ℕ). is_torn (state_at lanes n)) (sym same)))
  ];
}

pub torn_same : (k bits : ℕ) (lanes : Lanes) → AreTorn k lanes bits → is_torn (state_at lanes k) ≡ false → AreTorn (k + 1) lanes bits
torn_same k bits lanes are whole = record {
  few = still k bits are.few;
  each = λ c less. elim (cases_lt c k) [
    | inl low ↦ are.each c low
    | inr high ↦
        let same : c ≡ k = omega arith in
        ap (λ (n : ℕ). has_bit bits n) same ∙ (no_more k bits are.few ∙ (sym whole ∙ ap (λ (n : ℕ). is_torn (state_at lanes n)) (sym same)))
  ];
}
