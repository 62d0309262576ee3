-- What no cycle changes.
use Rattle.std.proofs.Common.{◌≡◌, ◌+◌, ◌-◌, ◌<◌, ◌≤◌, ℕ, refl, ap, arith, Bool, true, false, nat_lt, List, length, slice_index, unwrap_or}
use Rattle.std.proofs.lemmas.Bool.Decides.{nat_tests}
use Rattle.std.proofs.lemmas.Nat.{and_le_l, and_le_r}
use Rattle.nor_cell.specs.Bits.{ChangesWithin, AreBytes, unit_len}
use Rattle.nor_cell.specs.Chip.{ChipState}
use Rattle.nor_cell.specs.Look.{Look, Rests, Works, Pauses, EndsProgram, EndsErase, look, looked, LooksTo, break_of, ProgramsByte}
use Rattle.nor_cell.specs.Steps.{Keeps}

-- bytes that change within a range stay bytes where those in it do
changes_bytes : (from to : ℕ) (P : ℕ → ℕ → Type 0) (old new : List ℕ) → ChangesWithin from to P old new → AreBytes old → ((p x : ℕ) → P p x → x < 256) → AreBytes new
changes_bytes from to P old new h bytes small p = go (nat_lt p from) (nat_lt p to) refl refl
  where
    go : (a b : Bool) → nat_lt p from ≡ a → nat_lt p to ≡ b → slice_index new p < 256
    go true b e f = let low : p < from = grind (arith, nat_tests) in rw (h.below p low) (bytes p)
    go false true e f =
        let low : from ≤ p = grind (arith, nat_tests) in
        let high : p < to = grind (arith, nat_tests) in
        small p (slice_index new p) (h.inside p low high)
    go false false e f = let high : to ≤ p = grind (arith, nat_tests) in rw (h.above p high) (bytes p)

programs_byte : (d stop p old datum x : ℕ) → old < 256 → ProgramsByte d stop p old datum x → x < 256
programs_byte d stop p old datum x small h = go (nat_lt p stop) (nat_lt p (stop + d)) refl refl
  where
    go : (a b : Bool) → nat_lt p stop ≡ a → nat_lt p (stop + d) ≡ b → x < 256
    go true b e f =
        let low : p < stop = grind (arith, nat_tests) in
        let le = and_le_l old datum in
        let is = h.stored low in omega arith
    go false true e f =
        let low : stop ≤ p = grind (arith, nat_tests) in
        let high : p < stop + d = grind (arith, nat_tests) in
        let between = h.torn low high in
        let le = and_le_r x old in omega (arith, between.clears_only)
    go false false e f =
        let high : stop + d ≤ p = grind (arith, nat_tests) in
        let is = h.kept high in omega arith

looks_size : (s : ChipState) (l : Look) (new : List ℕ) → LooksTo s l new → length new ≡ length s.cells
looks_size s Rests new h = ap length h
looks_size s (Works job) new h = ap length h
looks_size s (Pauses b left) new h = ap length h
looks_size s (EndsProgram at bytes) new h = h.size
looks_size s (EndsErase target) new h = h.size

looks_bytes : (s : ChipState) (l : Look) (new : List ℕ) → LooksTo s l new → AreBytes s.cells → AreBytes new
looks_bytes s Rests new h bytes = rw h bytes
looks_bytes s (Works job) new h bytes = rw h bytes
looks_bytes s (Pauses b left) new h bytes = rw h bytes
looks_bytes s (EndsProgram at datum) new h bytes =
    let d = unit_len s.part.device in
    let stop = unwrap_or (break_of d s.part.weak at datum s.cells) (at + length datum) in
    changes_bytes at (at + length datum) _ s.cells new h bytes
    (λ p x k. programs_byte d stop p (slice_index s.cells p) (slice_index datum (p - at)) x (bytes p) k)
looks_bytes s (EndsErase target) new h bytes = changes_bytes _ _ _ s.cells new h bytes (λ p x k. k.0)

-- a look keeps what no cycle changes
pub looks_keep : (s t : ChipState) → LooksTo s (look s) t.cells → t ≡ record (looked (look s) s) { cells = t.cells } → Keeps s t
looks_keep s t h rest = record {
  part = ap (λ (x : ChipState). x.part) rest;
  size = looks_size s (look s) t.cells h;
  locks = ap (λ (x : ChipState). length x.locks) rest;
  bytes = looks_bytes s (look s) t.cells h;
}

-- ---- a state that a write leaves

-- A write touches neither cells nor what the chip is, and keeps the fault of a chip of the Intel set.
pub record IsWritten (s t : ChipState) : Type 0 where
  pub part : t.part ≡ s.part
  pub cells : t.cells ≡ s.cells
  pub locks : length t.locks ≡ length s.locks
  pub fault : t.fault ≡ s.fault
