-- How far away an armed cut is.
use Rattle.std.proofs.Common.{◌≡◌, ◌≤◌, ◌+◌, ◌∙◌, ℕ, true, Option, Some, None, refl, sym, ap, subst, arith}
use Rattle.nor_bus.specs.Driven.{Nearer, Went}
use Rattle.nor_bus.specs.declared.bus.Armed.{Armed}
use Rattle.nor_array.specs.Array.{ArrayState}
use Rattle.nor_array.specs.After.{after}
use Rattle.nor_array.specs.declared.entry.Entry.{Entry}
use Rattle.nor_array.specs.declared.entry.Halted.{Halted as HaltCause}
use Rattle.nor_array.specs.declared.entry.Halted.TheVariants.{Off as OffHalt, Stuck as StuckHalt}
use Rattle.nor_array.specs.declared.state.ArmedCut.{ArmedCut}
use Rattle.nor_array.specs.declared.state.Power.{Power}
use Rattle.nor_array.specs.declared.state.Power.TheVariants.{On, Off, Stuck}
use Rattle.nor_bank.specs.Stands.{Stands, kept_power, PowerIs, CutIs}
use Rattle.nor_bank.specs.State.{BankState}
use Rattle.nor_bank.proofs.Using.{UsesBus, NoFurther}
use Rattle.nor_driver.specs.Fronts.{is_call, words_of, cycles_left}
use Rattle.nor_driver.proofs.Afters.{was_on}
use Rattle.nor_bank.proofs.RangeCalls.{on_runs}

pub on_bus : (b : BankState) (a : ArrayState) → Stands b a → a.power ≡ On → b.bus.power ≡ true
on_bus b a stands on =
    let runs : b.halted ≡ None = on_runs b.halted (sym stands.power ∙ on) in
    let now : PowerIs None b a = subst (λ (k : Option HaltCause). PowerIs k b a) runs stands.now in
    now.power

pub left_less : (p q : Power) (x y : Option Armed) → (q ≡ On → (p ≡ On) × NoFurther x y) → cycles_left q y ≤ cycles_left p x
left_less p Off x y h = omega arith
left_less p (Stuck k) x y h = omega arith
left_less p On x y h = let both = h refl in subst (λ (r : Power). cycles_left On y ≤ cycles_left r x) (sym both.0) (by_cut x y both.1)
  where
    by_cut : (x y : Option Armed) → NoFurther x y → cycles_left On y ≤ cycles_left On x
    by_cut None None far = omega arith
    by_cut None (Some y) far = absurd far
    by_cut (Some x) None far = absurd far
    by_cut (Some x) (Some y) far = far.0

-- an armed cut is no further away than it was armed
pub left_within : (b : BankState) (a : ArrayState) (cut : ArmedCut) → Stands b a → a.armed ≡ Some cut → cycles_left a.power b.bus.armed ≤ cut.after
left_within b a cut stands armed = subst (λ (p : Power). cycles_left p b.bus.armed ≤ cut.after) (sym stands.power) (by_halt b.halted stands.now)
  where
    by_cut : (x : Option Armed) (z : Option ArmedCut) → CutIs b.after x z → z ≡ Some cut → cycles_left On x ≤ cut.after
    by_cut None z is e = omega arith
    by_cut (Some x) None is e = absurd is
    by_cut (Some x) (Some z) is e = let same : z ≡ cut = cc in let after : z.after ≡ cut.after = ap (λ (k : ArmedCut). k.after) same in omega (arith, is.0, is.2, after)

    by_halt : (k : Option HaltCause) → PowerIs k b a → cycles_left (kept_power k) b.bus.armed ≤ cut.after
    by_halt None now = by_cut b.bus.armed a.armed now.cut armed
    by_halt (Some (OffHalt n)) now = omega arith
    by_halt (Some (StuckHalt k)) now = omega arith

-- a call that read no words for its entry
pub words_none : (w : ℕ) (old new : BankState) (a : ArrayState) (e : Entry) → is_call e.op ≡ true → Stands new (after a e) → UsesBus old.bus new.bus → words_of w e.reply e.op ≡ 0
    → words_of w e.reply e.op + cycles_left (after a e).power new.bus.armed ≤ cycles_left a.power old.bus.armed
words_none w old new a e call stands uses none =
    let less = left_less a.power (after a e).power old.bus.armed new.bus.armed
    (λ on. (was_on a e call on, uses.armed (on_bus new _ stands on))) in
    omega (arith, none, less)

-- so many words were read, of a bank with an armed cut
pub words_some : (w m : ℕ) (old new : BankState) (a : ArrayState) (cut : ArmedCut) → Stands old a → old.halted ≡ None → a.armed ≡ Some cut
    → Went w m old.bus new.bus → w + cycles_left a.power new.bus.armed ≤ cycles_left a.power old.bus.armed
words_some w m old new a cut stands runs armed went =
    let on : a.power ≡ On = stands.power ∙ ap kept_power runs in
    let now : PowerIs None old a = subst (λ (k : Option HaltCause). PowerIs k old a) runs stands.now in
    subst (λ (p : Power). w + cycles_left p new.bus.armed ≤ cycles_left p old.bus.armed) (sym on) (by_cut old.bus.armed new.bus.armed a.armed now.cut armed went.armed)
  where
    by_cut : (x y : Option Armed) (z : Option ArmedCut) → CutIs old.after x z → z ≡ Some cut → Nearer w m x y → w + cycles_left On y ≤ cycles_left On x
    by_cut None y None is e near = absurd (cc)
    by_cut None y (Some z) is e near = absurd is
    by_cut (Some x) None z is e near = absurd near
    by_cut (Some x) (Some y) z is e near = omega (arith, near.0)
