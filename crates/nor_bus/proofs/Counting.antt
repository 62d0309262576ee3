-- Calls one after another, each of one number of cycles.
use Rattle.std.proofs.Common.{◌≤◌, ◌+◌, ℕ, arith}
use Rattle.nor_bus.specs.Bus.{BusState}
use Rattle.nor_bus.specs.Driven.{Went, Lost, Counted}
use Rattle.nor_bus.proofs.Driving.{went_then, lost_then}

-- just so many cycles
pub counted_exactly : (n : ℕ) (a b : BusState) → Went n n a b → Counted n n a b
counted_exactly n a b went = record { cycles = n; enough = omega arith; few = omega arith; went = went }

-- some cycles, and then some more
pub counted_then : (l m n o k q : ℕ) (a b c : BusState) → k ≤ l + n → m + o ≤ q → Counted l m a b → Counted n o b c → Counted k q a c
counted_then l m n o k q a b c ge le x y =
    let p = x.enough in
    let r = y.enough in
    let s = x.few in
    let t = y.few in
    record {
      cycles = x.cycles + y.cycles;
      enough = omega (arith, ge, p, r);
      few = omega (arith, le, s, t);
      went = went_then x.cycles x.cycles y.cycles y.cycles (x.cycles + y.cycles) (x.cycles + y.cycles) a b c (omega arith) (omega arith) x.went y.went;
    }

-- Power went after some cycles.
pub counted_lost : (l m o q : ℕ) (a b c : BusState) → m + o ≤ q → Counted l m a b → Lost o b c → Lost q a c
counted_lost l m o q a b c le x lost = let s = x.few in lost_then x.cycles o q a b c (omega (arith, le, s)) x.went lost
