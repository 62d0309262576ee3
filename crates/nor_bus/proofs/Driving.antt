-- Cycles of a bus whose geometry is known.
use Rattle.std.proofs.Common.{not, false, Bool, List, [], ◌∷◌, ◌/◌, length, IsTrue, true, ◌==◌, ◌&&◌, ◌||◌, ◌⊎◌, inl, inr, ◌≡◌, ◌<◌, ◌≤◌, ◌+◌, ◌*◌, ◌%◌, ℕ, zero, suc, replicate, slice_index, refl, sym, ap, subst, ◌∙◌, arith, Option, Some, None}
use Rattle.std.proofs.Math.Nat.{mod-eq_of_lt}
use Rattle.nor_cell.specs.Bits.{unit_len}
use Rattle.nor_cell.specs.Chip.{ChipState, Part, units}
use Rattle.nor_cell.specs.Steps.{Keeps}
use Rattle.nor_cell.specs.Wiring.{is_wiring}
use Rattle.nor_cell.specs.declared.geometry.Geometry.{Geometry}
use Rattle.nor_cell.specs.declared.device.Device.{Device}
use Rattle.nor_cell.specs.declared.device.Device.TheVariants.{X8, X16, X16Byte}
use Rattle.nor_word.specs.Word.{lane_of}
use Rattle.nor_bus.specs.declared.bus.Armed.{Armed}
use Rattle.nor_bus.specs.Bus.{IsBank, BusState, chip_at, lane, lanes_of, units_of, nearer, more, wide, fails, is_now}
use Rattle.nor_bus.specs.Cycles.{KeepsLanes, Passes, BusFails}
use Rattle.nor_bus.specs.Driven.{IsOwn, Reaches, Nearer, IsDue, Went, Lost, spread, reached, EachLane, EachPart, TakesCode, TakesPart, AnswersPart}

pub keeps_then : (a b c : BusState) → KeepsLanes a b → KeepsLanes b c → KeepsLanes a c
keeps_then a b c h k = record {
  count = k.count ∙ h.count;
  each = λ i below. let x = h.each i below in let y = k.each i (subst (λ (n : ℕ). i < n) (sym h.count) below) in record { part = y.part ∙ x.part; size = y.size ∙ x.size; locks = y.locks ∙ x.locks; bytes = λ small. y.bytes (x.bytes small) };
}

wired : (width lanes d : ℕ) → ((lanes == 1 || lanes == 2 || lanes == 4) && (width == lanes * d)) ≡ true → (0 < lanes) × (lanes ≤ 4) × (lanes * d ≡ width)
wired width lanes d is = grind (arith, is)

-- there is a lane, there are at most four, and they fill the word
pub some_lane : (width : ℕ) (device : Device) (chips : List ChipState) → IsBank width device chips → 0 < length chips
some_lane width device chips bank = (wired width (length chips) (unit_len device) bank.wiring).0

pub few_lanes : (width : ℕ) (device : Device) (chips : List ChipState) → IsBank width device chips → length chips ≤ 4
few_lanes width device chips bank = (wired width (length chips) (unit_len device) bank.wiring).1

pub fills_word : (width : ℕ) (device : Device) (chips : List ChipState) → IsBank width device chips → length chips * unit_len device ≡ width
fills_word width device chips bank = (wired width (length chips) (unit_len device) bank.wiring).2

-- A bank stays one.
pub bank_kept : (width : ℕ) (device : Device) (a b : BusState) → KeepsLanes a b → IsBank width device a.lanes → IsBank width device b.lanes
bank_kept width device a b h bank =
    let moved = λ (c : ℕ) (below : c < lanes_of b). subst (λ (n : ℕ). c < n) h.count below in
    let first : 0 < lanes_of a = some_lane width device a.lanes bank in
    record {
      wiring = subst (λ (n : ℕ). IsTrue (is_wiring width n device)) (sym h.count) bank.wiring;
      devices = λ c below. ap (λ (p : Part). p.device) (h.each c (moved c below)).part ∙ bank.devices c (moved c below);
      sizes = λ c below. (h.each c (moved c below)).size ∙ (bank.sizes c (moved c below) ∙ sym (h.each 0 first).size);
    }

-- A geometry stays the bus's own.
pub own_kept : (width : ℕ) (g : Geometry) (a b : BusState) → KeepsLanes a b → IsOwn width g a → IsOwn width g b
own_kept width g a b h own = record { bank = bank_kept width g.device a b h own.bank; count = h.count ∙ own.count }

-- ---- what a lane gets

-- the code is the low byte of what each lane gets
pub spread_low : (device : Device) (n : ℕ) → n < 256 → spread (unit_len device) n % 256 ≡ n
spread_low X8 n h = omega arith
spread_low X16 n h = omega arith
spread_low X16Byte n h = omega arith

-- ---- cycles, and then some more

nearer_one : (armed : Option Armed) → is_now armed ≡ false → Nearer 1 1 armed (nearer 1 armed)
nearer_one None due = tt
nearer_one (Some armed) due = let later : 0 < armed.after = grind (arith, due) in (omega arith, omega arith, refl)

nearer_none : (armed : Option Armed) → Nearer 0 0 armed armed
nearer_none None = tt
nearer_none (Some armed) = (omega arith, omega arith, refl)

nearer_then : (l m n o k q : ℕ) (x y z : Option Armed) → k ≤ l + n → m + o ≤ q → Nearer l m x y → Nearer n o y z → Nearer k q x z
nearer_then l m n o k q None None None ge le a b = tt
nearer_then l m n o k q None None (Some z) ge le a b = absurd b
nearer_then l m n o k q None (Some y) z ge le a b = absurd a
nearer_then l m n o k q (Some x) None z ge le a b = absurd a
nearer_then l m n o k q (Some x) (Some y) None ge le a b = absurd b
nearer_then l m n o k q (Some x) (Some y) (Some z) ge le a b =
    let p = a.0 in let r = a.1 in let s = b.0 in let t = b.1 in (omega arith, omega arith, b.2 ∙ a.2)

-- no cut is armed where none was
pub still_none : (l m : ℕ) (x y : Option Armed) → Nearer l m x y → x ≡ None → y ≡ None
still_none l m None None a e = refl
still_none l m None (Some y) a e = absurd a
still_none l m (Some x) None a e = refl
still_none l m (Some x) (Some y) a e = absurd (cc)

not_due : (power due : Bool) → (not power || due) ≡ false → due ≡ false
not_due true due e = e
not_due false due e = cc

had_power : (power due : Bool) → (not power || due) ≡ false → power ≡ true
had_power true due e = refl
had_power false due e = cc

-- one cycle
pub went_one : (a b : BusState) → Passes a b → KeepsLanes a b → Went 1 1 a b
went_one a b p k = record {
  power = λ on. p.power;
  was_on = λ on. had_power a.power (is_now a.armed) p.allowed;
  on = λ some. p.power;
  armed = subst (λ (x : Option Armed). Nearer 1 1 a.armed x) (sym p.armed) (nearer_one a.armed (not_due a.power (is_now a.armed) p.allowed));
  enough = let e = p.cycles in omega arith;
  few = let e = p.cycles in omega arith;
  failed = p.failed;
  kept = k;
}

-- no cycle
pub went_none : (a : BusState) → Went 0 0 a a
went_none a = record {
  power = λ on. on;
  was_on = λ on. on;
  on = λ some. absurd (omega arith);
  armed = nearer_none a.armed;
  enough = omega arith;
  few = omega arith;
  failed = refl;
  kept = record { count = refl; each = λ c below. record { part = refl; size = refl; locks = refl; bytes = λ small. small } };
}

-- one of two numbers isn't 0
some_of : (n l : ℕ) → 0 < l + n → (0 < n) ⊎ (0 < l)
some_of zero l h = inr (omega arith)
some_of (suc n) l h = inl (omega arith)

on_then : (l m n o : ℕ) (a b c : BusState) → Went l m a b → Went n o b c → (0 < n) ⊎ (0 < l) → c.power ≡ true
on_then l m n o a b c x y (inl some) = y.on some
on_then l m n o a b c x y (inr some) = y.power (x.on some)

-- some cycles, and then some more
pub went_then : (l m n o k q : ℕ) (a b c : BusState) → k ≤ l + n → m + o ≤ q → Went l m a b → Went n o b c → Went k q a c
went_then l m n o k q a b c ge le x y = record {
  power = λ on. y.power (x.power on);
  was_on = λ on. x.was_on (y.was_on on);
  on = λ some. on_then l m n o a b c x y (some_of n l (omega (arith, some, ge)));
  armed = nearer_then l m n o k q a.armed b.armed c.armed ge le x.armed y.armed;
  enough = let p = x.enough in let r = y.enough in omega arith;
  few = let p = x.few in let r = y.few in omega arith;
  failed = y.failed ∙ x.failed;
  kept = keeps_then a b c x.kept y.kept;
}

-- a cut was armed where a cycle failed
due_was_armed : (power : Bool) (armed : Option Armed) → (not power || is_now armed) ≡ true → power ≡ true → armed ≡ None → ⊥
due_was_armed true None due on none = cc
due_was_armed true (Some armed) due on none = cc
due_was_armed false armed due on none = cc

-- and it was due just now
due_now : (power : Bool) (armed : Option Armed) → (not power || is_now armed) ≡ true → power ≡ true → IsDue 1 armed
due_now true None due on = cc
due_now true (Some armed) due on = let now : armed.after ≡ 0 = grind (arith, due) in omega (arith, now)
due_now false armed due on = cc

-- a cut that comes within a later call comes within both
due_then : (l m o q : ℕ) (x y : Option Armed) → m + o ≤ q → Nearer l m x y → IsDue o y → IsDue q x
due_then l m o q None None le near due = absurd due
due_then l m o q None (Some y) le near due = absurd near
due_then l m o q (Some x) None le near due = absurd due
due_then l m o q (Some x) (Some y) le near due = let p = near.1 in omega (arith, le, p, due)

-- the first cycle failed
pub lost_one : (a b : BusState) → fails a ≡ true → BusFails a b → KeepsLanes a b → Lost 1 a b
lost_one a b due f k = record {
  power = f.power;
  was_armed = due_was_armed a.power a.armed due;
  due = due_now a.power a.armed due;
  cycles = 0;
  before = omega arith;
  armed = subst (λ (x : Option Armed). Nearer 0 0 a.armed x) (sym f.armed) (nearer_none a.armed);
  rose = let e = f.cycles in omega arith;
  few = let e = f.cycles in omega arith;
  failed = f.failed;
  kept = k;
}

-- Power went after n cycles.
pub lost_then : (n o q : ℕ) (a b c : BusState) → n + o ≤ q → Went n n a b → Lost o b c → Lost q a c
lost_then n o q a b c le w x = record {
  cycles = n + x.cycles;
  before = let p = x.before in omega (arith, le, p);
  power = x.power;
  was_armed = λ on none. x.was_armed (w.power on) (still_none n n a.armed b.armed w.armed none);
  due = λ on. due_then n n o q a.armed b.armed le w.armed (x.due (w.power on));
  armed = nearer_then n n x.cycles x.cycles (n + x.cycles) (n + x.cycles) a.armed b.armed c.armed (omega arith) (omega arith) w.armed x.armed;
  rose = let p = w.enough in let r = x.rose in omega (arith, p, r);
  few = let p = w.few in let r = x.few in omega (arith, p, r);
  failed = subst (λ (m : ℕ). more 1 m ≤ c.failed) w.failed x.failed;
  kept = keeps_then a b c w.kept x.kept;
}

-- as many reached the chips
pub lost_cycles : (n o q : ℕ) (a b c : BusState) (le : n + o ≤ q) (w : Went n n a b) (x : Lost o b c) → (lost_then n o q a b c le w x).cycles ≡ n + x.cycles
unfolding lost_then
lost_cycles n o q a b c le w x = refl

-- how many bytes of the word a lane takes
pub device_of : (width : ℕ) (device : Device) (bus : BusState) (c : ℕ) → IsBank width device bus.lanes → c < lanes_of bus → wide (lane bus c) ≡ unit_len device
device_of width device bus c bank below = ap unit_len (bank.devices c below)

index_replicate : (n k v : ℕ) → k < n → slice_index (replicate n v) k ≡ v
index_replicate zero k v h = absurd (omega arith)
index_replicate (suc n) zero v h = refl
index_replicate (suc n) (suc k) v h = index_replicate n k v (omega arith)

-- a lane of a word that has one byte everywhere
splat_lane : (device : Device) (n lanes c v : ℕ) → c < lanes → lanes * unit_len device ≡ n → lane_of (unit_len device) (replicate n v) c ≡ spread (unit_len device) v
splat_lane X8 n lanes c v below e = index_replicate n c v (omega arith)
splat_lane X16Byte n lanes c v below e = index_replicate n c v (omega arith)
splat_lane X16 n lanes c v below e =
    let a = index_replicate n (2 * c) v (omega arith) in
    let b = index_replicate n (2 * c + 1) v (omega arith) in
    rw (a, b) refl

-- each lane's part of a word that has one byte everywhere
pub splat_there : (width : ℕ) (device : Device) (bus : BusState) (c v : ℕ) → IsBank width device bus.lanes → c < lanes_of bus → lane_of (wide (lane bus c)) (replicate width v) c ≡ spread (wide (lane bus c)) v
splat_there width device bus c v bank below =
    rw (device_of width device bus c bank below) (splat_lane device width (lanes_of bus) c v below (fills_word width device bus.lanes bank))

-- ---- the units stay

first_units : (a b : ChipState) → b.part ≡ a.part → length b.cells ≡ length a.cells → units b ≡ units a
first_units a b part size = ap (λ (n : ℕ). n / unit_len b.part.device) size ∙ ap (λ (p : Part). length a.cells / unit_len p.device) part

units_by : (xs ys : List ChipState) → length ys ≡ length xs → (0 < length xs → Keeps (chip_at xs 0) (chip_at ys 0)) → units (chip_at ys 0) ≡ units (chip_at xs 0)
units_by [] [] count keeps = refl
units_by [] (y ∷ ys) count keeps = absurd (omega arith)
units_by (x ∷ xs) ys count keeps = let k = keeps (omega arith) in first_units x (chip_at ys 0) k.part k.size

-- the bus has as many bus words as before
pub units_kept : (a b : BusState) → KeepsLanes a b → units_of b ≡ units_of a
units_kept a b h = units_by a.lanes b.lanes h.count (h.each 0)

-- so it has an address that it had
pub there_kept : (u : ℕ) (a b : BusState) → KeepsLanes a b → u < units_of a → u < units_of b
there_kept u a b h there = subst (λ (n : ℕ). u < n) (sym (units_kept a b h)) there

pub reaches_kept : (width : ℕ) (g : Geometry) (u : ℕ) (a b : BusState) → KeepsLanes a b → Reaches width g u a → Reaches width g u b
reaches_kept width g u a b h reaches = record { own = own_kept width g a b h reaches.own; there = there_kept u a b h reaches.there }

-- a lane stays
pub lane_kept : (a b : BusState) (c : ℕ) → KeepsLanes a b → c < lanes_of a → c < lanes_of b
lane_kept a b c h below = subst (λ (n : ℕ). c < n) (sym h.count) below

-- ---- an address that the bus has is reached

pub at_reached : (P : ℕ → Type 0) (u : ℕ) (bus : BusState) → u < units_of bus → P (reached u bus) → P u
at_reached P u bus below h = subst P (mod-eq_of_lt below) h

pub code_reached : (u code : ℕ) (a b : BusState) → u < units_of a → EachLane (TakesCode (reached u a) code) a b → EachLane (TakesCode u code) a b
code_reached u code a b below h = at_reached (λ v. EachLane (TakesCode v code) a b) u a below h

pub part_reached : (u : ℕ) (word : List ℕ) (a b : BusState) → u < units_of a → EachPart word (TakesPart (reached u a)) a b → EachPart word (TakesPart u) a b
part_reached u word a b below h = at_reached (λ v. EachPart word (TakesPart v) a b) u a below h

pub answer_reached : (u : ℕ) (word : List ℕ) (a b : BusState) → u < units_of a → EachPart word (AnswersPart (reached u a)) a b → EachPart word (AnswersPart u) a b
answer_reached u word a b below h = at_reached (λ v. EachPart word (AnswersPart v) a b) u a below h
