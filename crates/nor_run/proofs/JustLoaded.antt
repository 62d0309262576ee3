-- A bank that was just loaded, shows `QRY` in every lane, and is found, can be started.
use Rattle.std.proofs.Common.{◌≡◌, ◌<◌, ◌≤◌, ◌∙◌, ℕ, zero, suc, List, length, replicate, slice_index, slice_index_or, Bool, true, false, if◌then◌else◌, [], Some, None, refl, sym, ap, subst, arith}
use Rattle.std.proofs.lemmas.List.{length-replicate}
use Rattle.nor_cell.specs.Chip.{ChipState}
use Rattle.nor_cell.specs.Power.{locks_after}
use Rattle.nor_cell.specs.Ranges.{IsChip}
use Rattle.nor_cell.specs.Between.{IsQuiet, IsIdle, reset}
use Rattle.nor_cell.proofs.Between.{rests_idle}
use Rattle.nor_cell.specs.Table.{field_8, set_of, has_locks}
use Rattle.nor_cell.specs.declared.device.Set.{Set}
use Rattle.nor_cell.specs.declared.device.Set.TheVariants.{Intel, Amd}
use Rattle.nor_cell.specs.declared.geometry.Geometry.{Geometry}
use Rattle.nor_bus.specs.Bus.{BusState, lane, lanes_of, chip_at}
use Rattle.nor_bus.specs.Driven.{AllLanes, EachLane}
use Rattle.nor_bus.proofs.Driving.{some_lane}
use Rattle.nor_bus.proofs.Words.{same_chips}
use Rattle.nor_lane.specs.Candidates.{wiring}
use Rattle.nor_query.specs.Checks.{first_error}
use Rattle.nor_query.specs.Derived.{table_blocks}
use Rattle.nor_query.proofs.Passing.{passes}
use Rattle.nor_query.proofs.Tables.{named_same, size_same, locks_same, blocks_same}
use Rattle.nor_probe.specs.Asking.{Resets}
use Rattle.nor_probe.specs.Probed.{IsFoundOn}
use Rattle.nor_probe.specs.Tables.{table_read, first_difference}
use Rattle.nor_probe.specs.WellWired.{IsAsItsTable, shown_table}
use Rattle.nor_probe.specs.declared.probing.Found.{Found}
use Rattle.nor_probe.proofs.OneTable.{shown_later, table_shown, one_table}
use Rattle.nor_probe.proofs.OwnWiring.{ShowQry, own_first}
use Rattle.nor_bank.specs.Stands.{CanStart}
use Rattle.nor_image.specs.Image.{IsImageOf, kept_locks, locks_of, machine_of, record_place, table_in}
use Rattle.nor_image.specs.Written.{bank_set}
use Rattle.nor_image.proofs.Sizes.{size_of_table}
use Rattle.nor_run.specs.Scripts.{IsJustPowered, IsJustLoaded, HasLetters}
use Rattle.nor_bank.proofs.Lasting.{after_none}

-- ---- locks after power-on

none_set : (m b : ℕ) (h : Bool) → h ≡ false → slice_index_or (replicate m h) b false ≡ false
none_set zero b h is = refl
none_set (suc m) zero h is = is
none_set (suc m) (suc b) h is = none_set m b h is

-- two chips of one set that agree on what they keep without power have the same locks once they are powered on
locks_alike : (set : Set) (t u : List ℕ) (xs ys : List Bool) → has_locks u ≡ has_locks t → length ys ≡ length xs
    → (length (kept_locks set u ys) ≡ length (kept_locks set t xs) → kept_locks set u ys ≡ kept_locks set t xs) → locks_after set u ys ≡ locks_after set t xs
locks_alike Intel t u xs ys same count agree = λ i. replicate (count i) (same i)
locks_alike Amd t u xs ys same count agree = by_test (has_locks u) (has_locks t) same agree
  where
    by_test : (b c : Bool) → b ≡ c → (length (if b then ys else []) ≡ length (if c then xs else []) → (if b then ys else []) ≡ (if c then xs else []))
        → (if b then ys else replicate (length ys) false) ≡ (if c then xs else replicate (length xs) false)
    by_test true true is agree = agree count
    by_test false false is agree = ap (λ (n : ℕ). replicate n false) count
    by_test true false is agree = absurd cc
    by_test false true is agree = absurd cc

-- ---- at rest

pub quiet_rests : (s : ChipState) → IsQuiet s → IsIdle s
quiet_rests s quiet = rests_idle s quiet.shown quiet.held

-- the reset codes change nothing of it
pub quiet_reset : (s : ChipState) → IsQuiet s → reset s ≡ s
quiet_reset s quiet = λ i. record s { mode = sym quiet.shown.mode i; fault = sym quiet.shown.fault i }

pub same_lanes : (old new : BusState) → lanes_of new ≡ lanes_of old → AllLanes IsQuiet old → EachLane Resets old new → new.lanes ≡ old.lanes
same_lanes old new count quiet resets =
    same_chips old.lanes new.lanes count (λ c below. resets c below (quiet_rests (lane old c) (quiet c below)) ∙ quiet_reset (lane old c) (quiet c below))

-- ---- what was found of it

module _ (width : ℕ) (bus : BusState) (loaded : IsJustLoaded width bus) (ranges : AllLanes IsChip bus) (qry : AllLanes HasLetters bus)
    (found : Found) (is : IsFoundOn width bus.lanes found) where
  abbrev own : Geometry
  own = wiring (length bus.lanes) loaded.device

  some : 0 < lanes_of bus
  some = some_lane width loaded.device bus.lanes loaded.bank

  show : ShowQry loaded.device bus.lanes
  show = record { devices = loaded.bank.devices; tables = qry; bytes = λ c below. (ranges c below).table_bytes }

  same_some : (g h : Geometry) → Some g ≡ Some h → g ≡ h
  same_some g h eq = cc

  -- the wiring that was found is its own
  pub own_found : found.geometry ≡ wiring (length bus.lanes) loaded.device
  own_found = same_some found.geometry (wiring (length bus.lanes) loaded.device) (sym is.wiring ∙ own_first width loaded.device bus.lanes loaded.bank.wiring show)

  first : List ℕ
  first = shown_table (lane bus 0)

  read : table_read found.geometry bus.lanes 0 ≡ shown_table (lane bus 0)
  read = ap (λ (g : Geometry). table_read g bus.lanes 0) own_found ∙ table_shown loaded.device bus.lanes 0 show some (ranges 0 some).table_size

  passed : first_error (shown_table (lane bus 0)) ≡ None
  passed = ap (λ (t : List ℕ). first_error t) (sym read) ∙ is.says.stands.checks

  none : first_difference (wiring (length bus.lanes) loaded.device) bus.lanes ≡ None
  none = subst (λ (g : Geometry). first_difference g bus.lanes ≡ None) own_found is.same

  -- each table says what lane 0's shown table says
  same : (c : ℕ) → c < lanes_of bus → (n : ℕ) → 16 ≤ n → slice_index (lane bus c).part.table n ≡ slice_index (shown_table (lane bus 0)) n
  same c below n from =
      sym (shown_later (lane bus c) n from)
      ∙ ap (λ (t : List ℕ). slice_index t n) (one_table loaded.device bus.lanes c show some below (λ k less. (ranges k less).table_size) none)

  named : (c : ℕ) → c < lanes_of bus → set_of (lane bus c).part.table ≡ set_of (lane bus 0).part.table
  named c below =
      named_same (shown_table (lane bus 0)) (lane bus c).part.table (same c below) ∙ sym (named_same (shown_table (lane bus 0)) (lane bus 0).part.table (same 0 some))

  offered : (c : ℕ) → c < lanes_of bus → has_locks (lane bus c).part.table ≡ has_locks (lane bus 0).part.table
  offered c below =
      locks_same (shown_table (lane bus 0)) (lane bus c).part.table (same c below) passed ∙ sym (locks_same (shown_table (lane bus 0)) (lane bus 0).part.table (same 0 some) passed)

  laid : (c : ℕ) → c < lanes_of bus → table_blocks (lane bus c).part.table ≡ table_blocks (lane bus 0).part.table
  laid c below =
      blocks_same (shown_table (lane bus 0)) (lane bus c).part.table (same c below) passed ∙ sym (blocks_same (shown_table (lane bus 0)) (lane bus 0).part.table (same 0 some) passed)

  chip_is : (c : ℕ) → c < lanes_of bus → IsAsItsTable (lane bus c)
  chip_is c below =
      let head = (passes (shown_table (lane bus 0)) passed).head in
      let log : field_8 (lane bus c).part.table 0x27 ≡ field_8 (shown_table (lane bus 0)) 0x27 = size_same (shown_table (lane bus 0)) (lane bus c).part.table (same c below) in
      record {
        chip = ranges c below;
        qry = qry c below;
        set = loaded.storable.machine c below ∙ sym (named c below);
        size =
            size_of_table (lane bus c).part.table (length (lane bus c).cells) (loaded.storable.sizes c below)
            (let low = head.size_low in omega (arith, log, low)) (let high = head.size_high in omega (arith, log, high));
        unlocked = λ without b.
            ap (λ (locks : List Bool). slice_index_or locks b false) (loaded.chips c below).locks
            ∙ after_none (lane bus c).part.set (lane bus c).part.table (lane bus c).locks b without;
      }

  locks_are : (c : ℕ) → c < lanes_of bus → (lane bus c).locks ≡ (lane bus 0).locks
  locks_are c below =
      let one = lane bus c in
      let zeroth = lane bus 0 in
      let set : one.part.set ≡ bank_set bus.lanes = loaded.storable.machine c below in
      let set_0 : zeroth.part.set ≡ bank_set bus.lanes = loaded.storable.machine 0 some in
      let blocks : one.part.blocks ≡ zeroth.part.blocks = loaded.storable.blocks c below ∙ (laid c below ∙ sym (loaded.storable.blocks 0 some)) in
      let count : length one.locks ≡ length zeroth.locks = (ranges c below).locks ∙ (ap length blocks ∙ sym (ranges 0 some).locks) in
      (loaded.chips c below).locks
      ∙ (ap (λ (s : Set). locks_after s one.part.table one.locks) set
      ∙ (locks_alike (bank_set bus.lanes) zeroth.part.table one.part.table zeroth.locks one.locks (offered c below) count (loaded.agree c 0 below some)
      ∙ (ap (λ (s : Set). locks_after s zeroth.part.table zeroth.locks) (sym set_0) ∙ sym (loaded.chips 0 some).locks)))

  pub can_start : CanStart width (wiring (length bus.lanes) loaded.device) bus
  can_start = record {
    wired = record { own = record { bank = loaded.bank; count = refl }; chips = chip_is };
    blocks = loaded.storable.blocks;
    resting = λ c below. quiet_rests (lane bus c) (loaded.chips c below).quiet;
    locks = locks_are;
    power = loaded.fresh.power;
    unarmed = loaded.fresh.armed;
  }

-- ---- a bank of a file

-- power-on changes nothing of what it left
twice : (set : Set) (table : List ℕ) (xs : List Bool) → locks_after set table xs ≡ locks_after set table (locks_after set table xs)
twice Intel table xs = ap (λ (n : ℕ). replicate n (has_locks table)) (sym (length-replicate (length xs) (has_locks table)))
twice Amd table xs = by_test (has_locks table)
  where
    by_test : (b : Bool) → (if b then xs else replicate (length xs) false)
        ≡ (if b then (if b then xs else replicate (length xs) false) else replicate (length (if b then xs else replicate (length xs) false)) false)
    by_test true = refl
    by_test false = ap (λ (n : ℕ). replicate n false) (sym (length-replicate (length xs) false))

pub just_loaded : (file : List ℕ) (width : ℕ) (chips : List ChipState) (c : ℕ) → IsImageOf file width chips → c < length chips → IsJustPowered (chip_at chips c)
just_loaded file width chips c image below = subst (λ (s : ChipState). IsJustPowered s) (sym (image.each c below)) (record {
  quiet = record { shown = record { mode = refl; step = refl; job = refl; fault = refl }; held = refl };
  locks = twice (machine_of file) (table_in file (record_place file c)) (locks_of file (record_place file c));
})
