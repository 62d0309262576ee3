-- The file of a bank keeps its length while the chips stay what they are.
use Rattle.std.specs.Int.{w32, to_le_bytes}
use Rattle.std.proofs.Common.{◌≡◌, ◌<◌, ◌+◌, ◌∙◌, ◌++◌, ◌∷◌, ℕ, suc, List, [], length, Bool, true, false, if◌then◌else◌, refl, sym, ap, subst, arith, IsTrue}
use Rattle.std.proofs.lemmas.List.{length-append}
use Rattle.nor_cell.specs.Chip.{ChipState, Part}
use Rattle.nor_cell.specs.Steps.{Keeps}
use Rattle.nor_cell.specs.Table.{has_locks, set_of}
use Rattle.nor_query.specs.Derived.{keeps_locks, table_blocks}
use Rattle.nor_bus.specs.Bus.{BusState, chip_at, lanes_of}
use Rattle.nor_bus.specs.Cycles.{KeepsLanes}
use Rattle.nor_bus.specs.Driven.{AllLanes}
use Rattle.nor_cell.specs.declared.device.Set.{Set}
use Rattle.nor_image.specs.Image.{is_size_by, kept_locks}
use Rattle.nor_image.specs.Written.{number_bytes, place_bytes, lock_bytes, kept_bytes, kept_of, record_bytes, records_bytes, header_bytes, bank_set, file_of, AreStorable, AgreeOnLocks}
use Rattle.nor_image.specs.declared.header.Version.TheVariants.{Two}
use Rattle.nor_image.proofs.ReadBack.{length-lock_bytes}

-- how long a record is
long : (part : Part) (locks : List Bool) (cells : List ℕ) (suspends erases : ℕ)
    → length (kept_bytes Two part locks cells suspends erases) ≡ 28 + length part.table + length (place_bytes part.weak) + length locks + length cells
unfolding kept_bytes
long part locks cells suspends erases =
    let numbers = number_bytes part suspends erases in
    let size = to_le_bytes w32 (length cells) in
    let places = place_bytes part.weak in
    let bits = lock_bytes Two locks in
    let a = length-append numbers part.table in
    let b = length-append (numbers ++ part.table) size in
    let c = length-append (numbers ++ part.table ++ size) places in
    let d = length-append (numbers ++ part.table ++ size ++ places) bits in
    let e = length-append (numbers ++ part.table ++ size ++ places ++ bits) cells in
    let g = length-lock_bytes Two locks in
    let h : length numbers ≡ 20 = refl in
    let i : length size ≡ 4 = refl in
    omega arith

kept_length : (part : Part) (ls ms : List Bool) (xs ys : List ℕ) (a b c d : ℕ) → length ms ≡ length ls → length ys ≡ length xs
    → length (kept_bytes Two part ms ys c d) ≡ length (kept_bytes Two part ls xs a b)
kept_length part ls ms xs ys a b c d locks same =
    let new = long part ms ys c d in
    let old = long part ls xs a b in
    omega (arith, new, old, locks, same)

-- as many locks are kept
kept_count : (set : Set) (s t : ChipState) → Keeps s t → length (kept_of set t) ≡ length (kept_of set s)
kept_count set s t keeps = ap (λ (p : Part). length (kept_locks set p.table t.locks)) keeps.part ∙ by_test (keeps_locks set (has_locks s.part.table)) keeps.locks
  where
    by_test : (b : Bool) → length t.locks ≡ length s.locks → length (if b then t.locks else []) ≡ length (if b then s.locks else [])
    by_test true same = same
    by_test false same = refl

record_length : (set : Set) (s t : ChipState) → Keeps s t → length (record_bytes Two set t) ≡ length (record_bytes Two set s)
record_length set s t keeps =
    ap (λ (p : Part). length (kept_bytes Two p (kept_of set t) t.cells t.suspends t.erases)) keeps.part
    ∙ kept_length s.part (kept_of set s) (kept_of set t) s.cells t.cells s.suspends s.erases t.suspends t.erases (kept_count set s t keeps) keeps.size

records_length : (set : Set) (xs ys : List ChipState) → length ys ≡ length xs → ((c : ℕ) → c < length xs → Keeps (chip_at xs c) (chip_at ys c))
    → length (records_bytes Two set ys) ≡ length (records_bytes Two set xs)
records_length set [] [] count each = refl
records_length set [] (y ∷ ys) count each = absurd (omega (arith, count))
records_length set (x ∷ xs) [] count each = absurd (omega (arith, count))
records_length set (x ∷ xs) (y ∷ ys) count each =
    let first = record_length set x y (each 0 (omega arith)) in
    let rest = records_length set xs ys (omega (arith, count)) (λ c below. each (suc c) (omega arith)) in
    let new = length-append (record_bytes Two set y) (records_bytes Two set ys) in
    let old = length-append (record_bytes Two set x) (records_bytes Two set xs) in
    omega (arith, first, rest, new, old)

-- the set that lane 0's table names stays
same_set : (old new : BusState) → 0 < lanes_of old → KeepsLanes old new → bank_set new.lanes ≡ bank_set old.lanes
same_set old new some keeps = ap (λ (p : Part). set_of p.table) (keeps.each 0 some).part

pub file_length : (width : ℕ) (old new : BusState) → 0 < lanes_of old → KeepsLanes old new → length (file_of width new.lanes) ≡ length (file_of width old.lanes)
file_length width old new some keeps =
    let set = bank_set old.lanes in
    let records = records_length set old.lanes new.lanes keeps.count keeps.each in
    let named = ap (λ (s : Set). length (records_bytes Two s new.lanes)) (same_set old new some keeps) in
    let after = length-append (header_bytes Two width (chip_at new.lanes 0).part.device (length new.lanes)) (records_bytes Two (bank_set new.lanes) new.lanes) in
    let before = length-append (header_bytes Two width (chip_at old.lanes 0).part.device (length old.lanes)) (records_bytes Two set old.lanes) in
    let heads : length (header_bytes Two width (chip_at new.lanes 0).part.device (length new.lanes)) ≡ length (header_bytes Two width (chip_at old.lanes 0).part.device (length old.lanes)) = refl in
    omega (arith, records, named, after, before, heads)

-- Lanes that have the same locks agree on those that a file keeps.
pub locks_agree : (bus : BusState) (locks : List Bool) → AllLanes (λ s. s.locks ≡ locks) bus → AgreeOnLocks bus.lanes
locks_agree bus locks all c d below_c below_d as_many =
    is c below_c ∙ (by_tests (keeps_locks (bank_set bus.lanes) (has_locks (chip_at bus.lanes c).part.table)) (keeps_locks (bank_set bus.lanes) (has_locks (chip_at bus.lanes d).part.table))
    (sym (ap length (is c below_c)) ∙ (as_many ∙ ap length (is d below_d))) ∙ sym (is d below_d))
  where
    is : (k : ℕ) → k < length bus.lanes → kept_of (bank_set bus.lanes) (chip_at bus.lanes k) ≡ (if keeps_locks (bank_set bus.lanes) (has_locks (chip_at bus.lanes k).part.table) then locks else [])
    is k below = ap (λ (ls : List Bool). kept_locks (bank_set bus.lanes) (chip_at bus.lanes k).part.table ls) (all k below)

    empty : (ls : List Bool) → length ls ≡ 0 → ls ≡ []
    empty [] none = refl
    empty (l ∷ ls) none = absurd (omega (arith, none))

    by_tests : (x y : Bool) → length (if x then locks else []) ≡ length (if y then locks else []) → (if x then locks else []) ≡ (if y then locks else [])
    by_tests true true same = refl
    by_tests false false same = refl
    by_tests true false same = empty locks same
    by_tests false true same = sym (empty locks (sym same))

-- A bank that a file can store goes on to be one.
pub still_storable : (old new : BusState) → 0 < lanes_of old → KeepsLanes old new → AreStorable old.lanes → AreStorable new.lanes
still_storable old new some keeps are = record {
  machine = λ c below.
      let there = at c below in
      ap (λ (p : Part). p.set) (keeps.each c there).part ∙ (are.machine c there ∙ ap (λ (p : Part). set_of p.table) (sym (keeps.each 0 some).part));
  sizes = λ c below.
      let there = at c below in
      subst (λ (n : ℕ). IsTrue (is_size_by (chip_at new.lanes c).part.table n)) (sym (keeps.each c there).size)
      (subst (λ (p : Part). IsTrue (is_size_by p.table (length (chip_at old.lanes c).cells))) (sym (keeps.each c there).part) (are.sizes c there));
  blocks = λ c below.
      let there = at c below in
      ap (λ (p : Part). p.blocks) (keeps.each c there).part ∙ (are.blocks c there ∙ ap (λ (p : Part). table_blocks p.table) (sym (keeps.each c there).part));
}
  where
    at : (c : ℕ) → c < length new.lanes → c < length old.lanes
    at c below = subst (λ (n : ℕ). c < n) keeps.count below
