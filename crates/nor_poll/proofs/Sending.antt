-- Command cycles, one after another.
use Rattle.std.proofs.Common.{◌≡◌, inl, inr, ◌+◌, ◌*◌, ◌<◌, ◌≤◌, ◌%◌, ◌^◌, ℕ, List, [], ◌∷◌, length, drop, get_or, drop-cons, add-one, refl, sym, ap, subst, ◌∙◌, arith}
use Rattle.std.proofs.Math.Nat.{mod-eq_of_lt}
use Rattle.nor_cell.specs.Bits.{unit_len}
use Rattle.nor_cell.specs.Amd.{first_address, second_address}
use Rattle.nor_cell.specs.Chip.{ChipState}
use Rattle.nor_cell.specs.declared.device.Device.{Device}
use Rattle.nor_cell.specs.declared.device.Device.TheVariants.{X8, X16, X16Byte}
use Rattle.nor_cell.specs.declared.geometry.Geometry.{Geometry}
use Rattle.nor_bus.specs.Bus.{BusState, IsWired, lane, lanes_of, units_of, wide}
use Rattle.nor_bus.specs.Driven.{Reaches, Went, EachLane, TakesCode, spread, Darkens, reached}
use Rattle.nor_bus.proofs.Driving.{device_of, some_lane, went_none, went_then, reaches_kept, lane_kept, code_reached}
use Rattle.nor_bus.proofs.Sizes.{bus_units, chip_size}
use Rattle.nor_cell.specs.Steps.{written}
use Rattle.nor_poll.specs.Codes.{address, code, after_cycle, after_cycles, DarkensIn}
use Rattle.nor_poll.specs.declared.codes.Cycle.{Cycle}
use Rattle.nor_poll.specs.declared.codes.To.{To}
use Rattle.nor_poll.specs.declared.codes.To.TheVariants.{Here, First, Second}

-- ---- every bus has the addresses of the command cycles

first_below : (device : Device) (units size wide : ℕ) → 2048 ≤ units → units * wide ≡ size → 4096 ≤ size → wide ≡ unit_len device → first_address device < units
first_below X8 units size wide some is least same = omega arith
first_below X16 units size wide some is least same = omega arith
first_below X16Byte units size wide some is least same = let e : units * 1 ≡ size = ap (λ (w : ℕ). units * w) (sym same) ∙ is in omega arith

second_below : (device : Device) (units : ℕ) → 2048 ≤ units → second_address device < units
second_below X8 units some = omega arith
second_below X16 units some = omega arith
second_below X16Byte units some = omega arith

there : (to : To) (width u : ℕ) (g : Geometry) (bus : BusState) → IsWired width bus → Reaches width g u bus → address g.device u to < units_of bus
there Here width u g bus wired reaches = reaches.there
there First width u g bus wired reaches =
    let size = bus_units width bus wired in
    let least = (chip_size (length (lane bus 0).cells) wired.size).0 in
    first_below g.device (units_of bus) (length (lane bus 0).cells) (wide (lane bus 0)) size.0 size.2 least
    (device_of width g.device bus 0 reaches.own.bank (some_lane width g.device bus.lanes reaches.own.bank))
there Second width u g bus wired reaches = second_below g.device (units_of bus) (bus_units width bus wired).0

-- an address that the bus has is neither wrapped nor taken modulo its units
pub unwrapped : (v : ℕ) (bus : BusState) → v < units_of bus → units_of bus ≤ 134217728 → reached (v % 2 ^ 32) bus ≡ v
unwrapped v bus there few =
    let small : v < 2 ^ 32 = omega (arith, there, few) in
    let e : v % 2 ^ 32 ≡ v = mod-eq_of_lt small in ap (λ (n : ℕ). n % units_of bus) e ∙ mod-eq_of_lt there

-- ---- some of the cycles were written

-- The first k cycles were written; what the others will make of a chip, all make of the old one.
pub record Sent (width : ℕ) (g : Geometry) (u : ℕ) (cycles : List Cycle) (k : ℕ) (old mid : BusState) : Type 0 where
  pub went : Went k k old mid
  pub ends : Reaches width g u old → (c : ℕ) → c < lanes_of old → after_cycles u (drop k cycles) (lane mid c) ≡ after_cycles u cycles (lane old c)
  pub dark : Reaches width g u old → (c : ℕ) → c < lanes_of old → (t : ChipState) → DarkensIn u (drop k cycles) (lane mid c) t → DarkensIn u cycles (lane old c) t

pub sent_none : (width : ℕ) (g : Geometry) (u : ℕ) (cycles : List Cycle) (old : BusState) → Sent width g u cycles 0 old old
sent_none width g u cycles old = record { went = went_none old; ends = λ reaches c below. refl; dark = λ reaches c below t h. h }

-- the cycles from the k-th on
pub next_of : (k : ℕ) (cycles : List Cycle) → k < length cycles → drop k cycles ≡ get_or cycles k (code 0 Here) ∷ drop (k + 1) cycles
next_of k cycles h = rw (add-one, drop-cons cycles k (code 0 Here)) refl

took : (u a : ℕ) (x : Cycle) (device : Device) (s t : ChipState) → a ≡ address device u x.to → s.part.device ≡ device → TakesCode a x.code s t → t ≡ after_cycle u x s
took u a x device s t is same h =
    h ∙ (ap (λ (n : ℕ). written s n (spread (wide s) x.code)) is ∙ ap (λ (d : Device). written s (address d u x.to) (spread (wide s) x.code)) (sym same))

-- one cycle more
pub sent_more : (width : ℕ) (g : Geometry) (u k a : ℕ) (x : Cycle) (cycles : List Cycle) (old mid new : BusState) → drop k cycles ≡ x ∷ drop (k + 1) cycles → a ≡ address g.device u x.to → IsWired width mid
    → EachLane (TakesCode (reached a mid) x.code) mid new → Went 1 1 mid new → Sent width g u cycles k old mid → Sent width g u cycles (k + 1) old new
sent_more width g u k a x cycles old mid new is at wired takes went sent =
    let rest = drop (k + 1) cycles in
    let kept = sent.went.kept in
    let one = λ (reaches : Reaches width g u old) (c : ℕ) (below : c < lanes_of old).
    let now = reaches_kept width g u old mid kept reaches in
    let here = lane_kept old mid c kept below in
    took u a x g.device (lane mid c) (lane new c) at (now.own.bank.devices c here)
    (code_reached a x.code mid new (subst (λ (n : ℕ). n < units_of mid) (sym at) (there x.to width u g mid wired now)) takes c here) in
    record {
      went = went_then k k 1 1 (k + 1) (k + 1) old mid new (omega arith) (omega arith) sent.went went;
      ends = λ reaches c below.
          ap (after_cycles u rest) (one reaches c below) ∙ (ap (λ (l : List Cycle). after_cycles u l (lane mid c)) (sym is) ∙ sent.ends reaches c below);
      dark = λ reaches c below t h.
          let h' : DarkensIn u rest (after_cycle u x (lane mid c)) t =
          subst (λ (s : ChipState). DarkensIn u rest s t) (one reaches c below) h in
          sent.dark reaches c below t (subst (λ (l : List Cycle). DarkensIn u l (lane mid c) t) (sym is) (inr h'));
    }

-- the next one fails
pub sent_dark : (width : ℕ) (g : Geometry) (u k : ℕ) (x : Cycle) (cycles rest : List Cycle) (old mid new : BusState) → drop k cycles ≡ x ∷ rest → EachLane Darkens mid new
    → Sent width g u cycles k old mid → Reaches width g u old → EachLane (DarkensIn u cycles) old new
sent_dark width g u k x cycles rest old mid new is dark sent reaches = λ c below.
    sent.dark reaches c below (lane new c) (subst (λ (l : List Cycle). DarkensIn u l (lane mid c) (lane new c)) (sym is) (inl (dark c (lane_kept old mid c sent.went.kept below))))

-- all are written
pub sent_all : (width : ℕ) (g : Geometry) (u k : ℕ) (cycles : List Cycle) (old new : BusState) → drop k cycles ≡ [] → Sent width g u cycles k old new → Reaches width g u old
    → EachLane (λ s t. t ≡ after_cycles u cycles s) old new
sent_all width g u k cycles old new none sent reaches = λ c below. ap (λ (l : List Cycle). after_cycles u l (lane new c)) (sym none) ∙ sent.ends reaches c below
