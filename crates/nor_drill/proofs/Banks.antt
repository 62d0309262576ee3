-- What the chips of a drill are: a bank that was just loaded could have them, and probing accepts them.
use Rattle.std.proofs.Common.{◌≡◌, ◌<◌, ◌≤◌, ◌∙◌, ◌^◌, ◌∷◌, [], ℕ, zero, suc, List, length, map, replicate, Bool, true, false, None, IsTrue, refl, sym, ap, subst, arith}
use Rattle.std.proofs.lemmas.List.{length-replicate}
use Rattle.nor_cell.specs.Cells.{AreMadeOf, chip_of, given_or_open}
use Rattle.nor_cell.specs.declared.cells.CellParts.{CellParts}
use Rattle.nor_cell.specs.Chip.{ChipState, is_any_set}
use Rattle.nor_cell.specs.Power.{powered}
use Rattle.nor_cell.specs.Ranges.{IsChip, is_chip_size, is_ascending_below, begin_units, are_blocks, is_none_or_each, AreOffered}
use Rattle.nor_cell.specs.Table.{has_locks, set_of, field_8}
use Rattle.nor_cell.specs.declared.cells.Cells.{Cells}
use Rattle.nor_cell.specs.declared.device.Device.TheVariants.{X16}
use Rattle.nor_cell.specs.declared.device.Set.{Set}
use Rattle.nor_cell.specs.declared.device.Set.TheVariants.{Intel, Amd}
use Rattle.nor_cell.specs.declared.device.Span.{Span}
use Rattle.nor_bus.specs.Bus.{BusState, IsBank, chip_at, no_chip}
use Rattle.nor_bus.specs.Driven.{AllLanes}
use Rattle.nor_lane.specs.Candidates.{wiring}
use Rattle.nor_query.specs.Checks.{first_error}
use Rattle.nor_query.specs.Derived.{table_blocks}
use Rattle.nor_probe.specs.Probed.{refusal}
use Rattle.nor_probe.specs.WellWired.{HasQry, IsAsItsTable, shown_table}
use Rattle.nor_probe.proofs.OwnTables.{accepts}
use Rattle.nor_image.specs.Image.{is_size_by}
use Rattle.nor_image.specs.Loaded.{IsFreshBus}
use Rattle.nor_image.specs.Written.{AreStorable, AgreeOnLocks, bank_set, kept_of}
use Rattle.nor_run.specs.Scripts.{IsJustPowered, IsJustLoaded, HasLetters}
use Rattle.nor_drill.specs.Making.{AreDrillParts}
use Rattle.nor_drill.specs.Drill.{all_ones, eight_blocks, table_of, drill_chip, chips_of_set}

-- ---- a chip

-- a chip of the cells that are made for a drill
pub made_chip : (set : Set) (parts : CellParts) (cells : Cells) (program erase suspend : ℕ) → AreDrillParts set program erase suspend parts
    → AreMadeOf parts cells → powered (chip_of set cells) ≡ drill_chip set program erase suspend
unfolding drill_chip
made_chip set parts cells program erase suspend is made =
    let locks : cells.locks.items ≡ replicate 8 false =
    made.locks ∙ (ap (λ (given : List Bool). given_or_open given (length parts.blocks.items)) is.locks ∙ ap (λ (b : List Span). replicate (length b) false) is.blocks) in
    λ i. powered (record no_chip {
      part = record {
        set = set;
        device = (made.device ∙ is.device) i;
        table = (made.table ∙ is.table) i;
        blocks = (made.blocks ∙ is.blocks) i;
        weak = (made.weak ∙ is.weak) i;
        stuck = (made.stuck ∙ is.stuck) i;
        pace_program = (made.pace_program ∙ is.pace_program) i;
        pace_erase = (made.pace_erase ∙ is.pace_erase) i;
        pace_suspend = (made.pace_suspend ∙ is.pace_suspend) i;
      };
      cells = (made.bytes ∙ is.bytes) i;
      locks = locks i;
      suspends = (made.suspends ∙ is.suspends) i;
      erases = (made.erases ∙ is.erases) i;
    })

count_ones : length all_ones ≡ 8192
unfolding all_ones
count_ones = length-replicate {A = ℕ} 8192 0xFF

set_named : (set : Set) → set ≡ set_of (table_of set)
set_named Intel = refl
set_named Amd = refl

offers : (set : Set) → has_locks (table_of set) ≡ true
offers Intel = refl
offers Amd = refl

pub not_both : (b : Bool) → b ≡ true → b ≡ false → ⊥
not_both b h k = cc

letters : (set : Set) → HasQry (table_of set)
letters Intel = record { q = refl; r = refl; y = refl }
letters Amd = record { q = refl; r = refl; y = refl }

sized : (set : Set) → IsTrue (is_size_by (table_of set) (length all_ones))
sized Intel = subst (λ (n : ℕ). IsTrue (is_size_by (table_of Intel) n)) (sym count_ones) refl
sized Amd = subst (λ (n : ℕ). IsTrue (is_size_by (table_of Amd) n)) (sym count_ones) refl

laid : (set : Set) → eight_blocks ≡ table_blocks (table_of set)
laid Intel = refl
laid Amd = refl

just_powered : (set : Set) (p e s : ℕ) → IsJustPowered (drill_chip set p e s)
unfolding drill_chip
just_powered Intel p e s = record { quiet = record { shown = record { mode = refl; step = refl; job = refl; fault = refl }; held = refl }; locks = refl }
just_powered Amd p e s = record { quiet = record { shown = record { mode = refl; step = refl; job = refl; fault = refl }; held = refl }; locks = refl }

-- ---- both chips

two : (P : ℕ → Type 0) → P 0 → P 1 → (c : ℕ) → c < 2 → P c
two P p q zero below = p
two P p q (suc zero) below = q
two P p q (suc (suc c)) below = absurd (omega (arith, below))

banked : (set : Set) → IsBank 4 X16 (chips_of_set set)
unfolding drill_chip
banked set = record {
  wiring = refl;
  devices = two (λ c. (chip_at (chips_of_set set) c).part.device ≡ X16) refl refl;
  sizes = two (λ c. length (chip_at (chips_of_set set) c).cells ≡ length (chip_at (chips_of_set set) 0).cells) refl refl;
}

stored : (set : Set) → AreStorable (chips_of_set set)
unfolding drill_chip
stored set = record {
  machine = two (λ c. (chip_at (chips_of_set set) c).part.set ≡ bank_set (chips_of_set set)) (set_named set) (set_named set);
  sizes = two (λ c. IsTrue (is_size_by (chip_at (chips_of_set set) c).part.table (length (chip_at (chips_of_set set) c).cells))) (sized set) (sized set);
  blocks = two (λ c. (chip_at (chips_of_set set) c).part.blocks ≡ table_blocks (chip_at (chips_of_set set) c).part.table) (laid set) (laid set);
}

agreed : (set : Set) → AgreeOnLocks (chips_of_set set)
unfolding drill_chip
agreed set c d c_below d_below count = same c c_below ∙ sym (same d d_below)
  where
    same : (k : ℕ) → k < 2 → kept_of (bank_set (chips_of_set set)) (chip_at (chips_of_set set) k) ≡ kept_of (bank_set (chips_of_set set)) (drill_chip set 3 40 2)
    same = two (λ k. kept_of (bank_set (chips_of_set set)) (chip_at (chips_of_set set) k) ≡ kept_of (bank_set (chips_of_set set)) (drill_chip set 3 40 2)) refl refl

pub are_wired : (set : Set) (chips : List ChipState) → chips ≡ chips_of_set set → IsBank 4 X16 chips
are_wired set chips is = subst (λ (l : List ChipState). IsBank 4 X16 l) (sym is) (banked set)

pub are_mapped : (set : Set) (f : ChipState → ChipState) (items : List ChipState) (low high : ChipState) → items ≡ low ∷ high ∷ []
    → f low ≡ drill_chip set 3 40 2 → f high ≡ drill_chip set 5 90 4 → map f items ≡ chips_of_set set
are_mapped set f items low high is first last = ap (λ (xs : List ChipState). map f xs) is ∙ (λ i. first i ∷ last i ∷ [])

-- on each lane of a bus of these chips
on_lanes : (P : ChipState → Type 0) (set : Set) (bus : BusState) → bus.lanes ≡ chips_of_set set
    → P (drill_chip set 3 40 2) → P (drill_chip set 5 90 4) → AllLanes P bus
on_lanes P set bus is first last =
    subst (λ (l : List ChipState). (c : ℕ) → c < length l → P (chip_at l c)) (sym is) (two (λ c. P (chip_at (chips_of_set set) c)) first last)

pub is_just_loaded : (set : Set) (bus : BusState) → bus.lanes ≡ chips_of_set set → IsFreshBus bus → IsJustLoaded 4 bus
is_just_loaded set bus is fresh = record {
  device = X16;
  bank = subst (λ (l : List ChipState). IsBank 4 X16 l) (sym is) (banked set);
  fresh = fresh;
  storable = subst (λ (l : List ChipState). AreStorable l) (sym is) (stored set);
  agree = subst (λ (l : List ChipState). AgreeOnLocks l) (sym is) (agreed set);
  chips = on_lanes IsJustPowered set bus is (just_powered set 3 40 2) (just_powered set 5 90 4);
}

pub has_letters : (set : Set) (bus : BusState) → bus.lanes ≡ chips_of_set set → AllLanes HasLetters bus
unfolding drill_chip
has_letters set bus is = on_lanes HasLetters set bus is (letters set) (letters set)

-- ---- probing

passes : (set : Set) → first_error (table_of set) ≡ None
passes Intel = refl
passes Amd = refl

shows : (set : Set) (p e s : ℕ) → shown_table (drill_chip set p e s) ≡ table_of set
unfolding shown_table drill_chip
shows Intel p e s = refl
shows Amd p e s = refl

as_its_table : (set : Set) (p e s : ℕ) → IsChip (drill_chip set p e s) → IsAsItsTable (drill_chip set p e s)
unfolding drill_chip
as_its_table set p e s chip = record {
  chip = chip;
  qry = letters set;
  set = set_named set;
  size = count_ones ∙ log set;
  unlocked = λ none b. absurd (not_both (has_locks (table_of set)) (offers set) none);
}
  where
    log : (kind : Set) → 8192 ≡ 2 ^ field_8 (table_of kind) 0x27
    log Intel = refl
    log Amd = refl

pub is_accepted : (set : Set) (bus : BusState) → bus.lanes ≡ chips_of_set set → IsChip (drill_chip set 3 40 2) → IsChip (drill_chip set 5 90 4) → refusal 4 bus.lanes ≡ None
is_accepted set bus is first last = accepts 4 (wiring 2 X16) bus (table_of set)
    (record {
      own = record { bank = subst (λ (l : List ChipState). IsBank 4 X16 l) (sym is) (banked set); count = ap (λ (l : List ChipState). length l) is };
      chips = on_lanes IsAsItsTable set bus is (as_its_table set 3 40 2 first) (as_its_table set 5 90 4 last);
    })
    (on_lanes (λ s. shown_table s ≡ table_of set) set bus is (shows set 3 40 2) (shows set 5 90 4)) (passes set)

-- ---- the parts of a chip

pub parts_sized : (set : Set) (p e s : ℕ) (parts : CellParts) → AreDrillParts set p e s parts → IsTrue (is_chip_size (length parts.bytes.items))
parts_sized set p e s parts is = subst (λ (n : ℕ). IsTrue (is_chip_size n)) (sym (ap (λ (b : List ℕ). length b) is.bytes ∙ count_ones)) refl

pub parts_weak : (set : Set) (p e s : ℕ) (parts : CellParts) → AreDrillParts set p e s parts → IsTrue (is_ascending_below (length parts.bytes.items) parts.weak.items)
parts_weak set p e s parts is = subst (λ (w : List ℕ). IsTrue (is_ascending_below (length parts.bytes.items) w)) (sym is.weak) refl

pub parts_units : (set : Set) (p e s : ℕ) (parts : CellParts) → AreDrillParts set p e s parts → IsTrue (begin_units parts.device parts.weak.items)
parts_units set p e s parts is = subst (λ (w : List ℕ). IsTrue (begin_units parts.device w)) (sym is.weak) refl

pub parts_few : (set : Set) (p e s : ℕ) (parts : CellParts) → AreDrillParts set p e s parts → length parts.weak.items ≤ 256
parts_few set p e s parts is = subst (λ (w : List ℕ). length w ≤ 256) (sym is.weak) (omega arith)

pub parts_follow : (set : Set) (p e s : ℕ) (parts : CellParts) → AreDrillParts set p e s parts → IsTrue (are_blocks (length parts.bytes.items) parts.blocks.items)
parts_follow set p e s parts is =
    subst (λ (b : List Span). IsTrue (are_blocks (length parts.bytes.items) b)) (sym is.blocks)
    (subst (λ (n : ℕ). IsTrue (are_blocks n eight_blocks)) (sym (ap (λ (b : List ℕ). length b) is.bytes ∙ count_ones)) refl)

pub parts_locks : (set : Set) (p e s : ℕ) (parts : CellParts) → AreDrillParts set p e s parts
    → IsTrue (is_none_or_each (length parts.blocks.items) (length parts.locks.items))
parts_locks set p e s parts is = subst (λ (l : List Bool). IsTrue (is_none_or_each (length parts.blocks.items) (length l))) (sym is.locks) refl

pub parts_offered : (set : Set) (p e s : ℕ) (parts : CellParts) → AreDrillParts set p e s parts → AreOffered parts.table parts.locks.items
parts_offered set p e s parts is = λ without. subst (λ (l : List Bool). is_any_set l ≡ false) (sym is.locks) refl
