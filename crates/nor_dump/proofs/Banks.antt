-- The file of a bank that is made, and dumps of files.
use Rattle.std.proofs.Common.{◌≡◌, ◌<◌, ◌+◌, ◌*◌, ◌/◌, ℕ, zero, suc, List, [], ◌∷◌, ◌++◌, length, map, slice_index, IsTrue, Bool, true, false, replicate, if◌then◌else◌, refl, sym, ap, subst, ◌∙◌, arith}
use Rattle.std.proofs.lemmas.List.{length-replicate, map_push}
use Rattle.nor_cell.specs.Bits.{unit_len}
use Rattle.nor_cell.specs.Chip.{ChipState}
use Rattle.nor_cell.specs.Power.{locks_after, powered}
use Rattle.nor_cell.specs.Table.{has_locks, set_of}
use Rattle.nor_cell.specs.Ranges.{is_chip_size}
use Rattle.nor_cell.specs.Wiring.{lane_at, place_at}
use Rattle.nor_cell.specs.declared.device.Set.{Set}
use Rattle.nor_cell.specs.declared.device.Set.TheVariants.{Intel, Amd}
use Rattle.nor_cell.specs.declared.device.Device.{Device}
use Rattle.nor_cell.specs.declared.geometry.Geometry.{Geometry}
use Rattle.nor_bus.specs.Bus.{IsBank, chip_at, bank_byte, bank_bytes, bank_size}
use Rattle.nor_bus.proofs.Driving.{some_lane}
use Rattle.nor_bus.proofs.Sizes.{chip_size as size_facts}
use Rattle.nor_bus.proofs.Words.{same_chips}
use Rattle.nor_lane.proofs.Places.{lane_at_below}
use Rattle.nor_query.specs.Derived.{table_blocks}
use Rattle.nor_image.specs.Image.{IsImageOf, device_of, is_size_by}
use Rattle.nor_image.specs.Written.{CanStore, Stores, bank_set, kept_of, file_of}
use Rattle.nor_image.proofs.Images.{some_lanes}
use Rattle.nor_dump.specs.Dump.{IsDumpOf}
use Rattle.nor_dump.specs.Made.{CanMake, IsMade, made_chip, made_chips, chip_size}
use Rattle.nor_dump.specs.declared.changes.Change.{Change}
use Rattle.nor_dump.proofs.Chips.{length-made_chips, made_chip-at, made_byte, length-lane_cells}
use Rattle.nor_cell.proofs.Logic.{some_bytes}
use Rattle.nor_dump.proofs.Sizes.{table_sized, size_fits, units_whole, place_at_below}

-- ---- bytes one by one

-- bytes that are those of a bank, from a place on
pub bytes_are : (device : Device) (chips : List ChipState) (a : ℕ) (bytes : List ℕ) → ((i : ℕ) → i < length bytes → slice_index bytes i ≡ bank_byte device chips (a + i))
    → bytes ≡ bank_bytes device chips a (length bytes)
bytes_are device chips a [] are = refl
bytes_are device chips a (b ∷ bytes) are =
    let here : a + 0 ≡ a = omega arith in
    let head : b ≡ bank_byte device chips a = are 0 (omega arith) ∙ ap (λ (n : ℕ). bank_byte device chips n) here in
    let tail : bytes ≡ bank_bytes device chips (a + 1) (length bytes) =
    bytes_are device chips (a + 1) bytes (λ i below. are (suc i) (omega arith) ∙ (let e : a + suc i ≡ a + 1 + i = omega arith in ap (λ (n : ℕ). bank_byte device chips n) e)) in
    ap (λ (n : ℕ). n ∷ bytes) head ∙ ap (λ (l : List ℕ). bank_byte device chips a ∷ l) tail

-- one byte more
pub bytes_more : (device : Device) (chips : List ChipState) (n a : ℕ) → bank_bytes device chips a (suc n) ≡ bank_bytes device chips a n ++ bank_byte device chips (a + n) ∷ []
bytes_more device chips zero a = let e : a ≡ a + 0 = omega arith in ap (λ (k : ℕ). bank_byte device chips k ∷ []) e
bytes_more device chips (suc n) a =
    let e : a + 1 + n ≡ a + suc n = omega arith in
    ap (λ (l : List ℕ). bank_byte device chips a ∷ l)
    (bytes_more device chips n (a + 1) ∙ ap (λ (k : ℕ). bank_bytes device chips (a + 1) n ++ bank_byte device chips k ∷ []) e)

-- ---- a file has one dump

pub one_dump : (file raw other : List ℕ) → IsDumpOf file raw → IsDumpOf file other → other ≡ raw
one_dump file raw other is also =
    let size : length also.chips ≡ length is.chips = also.image.count ∙ sym is.image.count in
    let same : also.chips ≡ is.chips =
    same_chips is.chips also.chips size (λ c below. also.image.each c (omega (arith, size)) ∙ sym (is.image.each c below)) in
    also.bytes ∙ (ap (λ (chips : List ChipState). bank_bytes (device_of file) chips 0 (bank_size chips)) same ∙ sym is.bytes)

-- ---- the bank that is made

-- power-on leaves a chip that was just powered on
off_twice : (b : Bool) (locks : List Bool) → (if b then (if b then locks else replicate (length locks) false) else replicate (length (if b then locks else replicate (length locks) false)) false)
    ≡ (if b then locks else replicate (length locks) false)
off_twice true locks = refl
off_twice false locks = ap (λ (n : ℕ). replicate n false) (length-replicate (length locks) false)

locks_twice : (set : Set) (table : List ℕ) (locks : List Bool) → locks_after set table (locks_after set table locks) ≡ locks_after set table locks
locks_twice Intel table locks = ap (λ (n : ℕ). replicate n (has_locks table)) (length-replicate (length locks) (has_locks table))
locks_twice Amd table locks = off_twice (has_locks table) locks

powered_chip : (g : Geometry) (table : List ℕ) (changes : List Change) (raw : List ℕ) (c : ℕ) → powered (made_chip g table changes raw c) ≡ made_chip g table changes raw c
powered_chip g table changes raw c =
    ap (λ (locks : List Bool). record (made_chip g table changes raw c) { locks = locks }) (locks_twice (set_of table) table (replicate (length (table_blocks table)) false))

powered_made : (g : Geometry) (table : List ℕ) (changes : List Change) (raw : List ℕ) (n : ℕ) → map powered (made_chips g table changes raw n) ≡ made_chips g table changes raw n
powered_made g table changes raw zero = refl
powered_made g table changes raw (suc n) =
    let twice : powered (made_chip g table changes raw n) ≡ made_chip g table changes raw n = powered_chip g table changes raw n in
    map_push powered (made_chips g table changes raw n) (made_chip g table changes raw n)
    ∙ (ap (λ (xs : List ChipState). xs ++ powered (made_chip g table changes raw n) ∷ []) (powered_made g table changes raw n)
    ∙ ap (λ (s : ChipState). made_chips g table changes raw n ++ s ∷ []) twice)

module _ (width : ℕ) (g : Geometry) (table : List ℕ) (changes : List Change) (raw : List ℕ) (can : CanMake width g table changes raw) where
  some : 0 < g.lanes
  some = some_lanes width g.lanes g.device can.wiring

  pub whole_units : chip_size table ≡ chip_size table / unit_len g.device * unit_len g.device
  whole_units = units_whole g.device (chip_size table) (size_facts (chip_size table) (table_sized table can.accepted)).2

  pub each_byte : (a : ℕ) → a < length raw → bank_byte g.device (made_chips g table changes raw g.lanes) a ≡ slice_index raw a
  each_byte a below = made_byte g table changes raw (chip_size table / unit_len g.device) a some (some_bytes g.device) whole_units (subst (λ (n : ℕ). a < n) can.whole below)

  -- the table and the locks of each lane are those of the first
  in_lane : (c : ℕ) → c < length (made_chips g table changes raw g.lanes) → chip_at (made_chips g table changes raw g.lanes) c ≡ made_chip g table changes raw c
  in_lane c below = made_chip-at g table changes raw g.lanes c (subst (λ (n : ℕ). c < n) (length-made_chips g table changes raw g.lanes) below)

  first_set : bank_set (made_chips g table changes raw g.lanes) ≡ set_of table
  first_set = ap (λ (s : ChipState). set_of s.part.table) (made_chip-at g table changes raw g.lanes 0 some)

  can_store : CanStore (made_chips g table changes raw g.lanes)
  can_store = record {
    storable = record {
      machine = λ c below. ap (λ (s : ChipState). s.part.set) (in_lane c below) ∙ sym first_set;
      sizes = λ c below. subst (λ (s : ChipState). is_size_by s.part.table (length s.cells) ≡ true) (sym (in_lane c below))
          (subst (λ (n : ℕ). is_size_by table n ≡ true) (sym (length-lane_cells g raw c (chip_size table))) (size_fits table can.accepted));
      blocks = λ c below. ap (λ (s : ChipState). s.part.blocks) (in_lane c below) ∙ sym (ap (λ (s : ChipState). table_blocks s.part.table) (in_lane c below));
    };
    agree = λ c d in_c in_d same.
        let set = bank_set (made_chips g table changes raw g.lanes) in
        ap (λ (s : ChipState). kept_of set s) (in_lane c in_c) ∙ sym (ap (λ (s : ChipState). kept_of set s) (in_lane d in_d));
  }

  -- the file that is written is that of the bank
  pub is_made : (file : List ℕ) → file ≡ file_of width (made_chips g table changes raw g.lanes) → Stores file width (made_chips g table changes raw g.lanes)
      → IsMade width g table changes raw file
  is_made file is stores =
      let chips = made_chips g table changes raw g.lanes in
      let count = length-made_chips g table changes raw g.lanes in
      let first = made_chip-at g table changes raw g.lanes 0 some in
      let image : IsImageOf file width chips = subst (λ (cs : List ChipState). IsImageOf file width cs) (powered_made g table changes raw g.lanes) (stores can_store) in
      let there : 0 < length chips = subst (λ (n : ℕ). 0 < n) (sym count) some in
      let device : g.device ≡ device_of file = sym (ap (λ (s : ChipState). s.part.device) first) ∙ ap (λ (s : ChipState). s.part.device) (image.each 0 there) in
      let size : length raw ≡ bank_size chips =
      can.whole ∙ (ap (λ (n : ℕ). n * chip_size table) (sym count)
      ∙ ap (λ (n : ℕ). length chips * n) (sym (ap (λ (s : ChipState). length s.cells) first ∙ length-lane_cells g raw 0 (chip_size table)))) in
      let bytes : raw ≡ bank_bytes g.device chips 0 (length raw) =
      bytes_are g.device chips 0 raw (λ i below. let e : i ≡ 0 + i = omega arith in sym (each_byte i below) ∙ ap (λ (k : ℕ). bank_byte g.device chips k) e) in
      record {
        is_file = is;
        bytes = each_byte;
        image = image;
        back = record {
          width = width;
          chips = chips;
          image = image;
          bytes = bytes ∙ (ap (λ (d : Device). bank_bytes d chips 0 (length raw)) device ∙ ap (λ (n : ℕ). bank_bytes (device_of file) chips 0 n) size);
        };
      }

-- ---- the device of a bank

pub one_device : (width : ℕ) (d e : Device) (chips : List ChipState) → IsBank width d chips → IsBank width e chips → d ≡ e
one_device width d e chips is also =
    let first : 0 < length chips = some_lane width d chips is in
    sym (is.devices 0 first) ∙ also.devices 0 first

-- byte a lies in a chip
pub in_chip : (width : ℕ) (device : Device) (chips : List ChipState) (a : ℕ) → IsBank width device chips → IsTrue (is_chip_size (length (chip_at chips 0).cells)) → a < bank_size chips
    → place_at (length chips) (unit_len device) a < length (chip_at chips (lane_at (length chips) (unit_len device) a)).cells
in_chip width device chips a is sized below =
    let n = length chips in
    let d = unit_len device in
    let size = length (chip_at chips 0).cells in
    let first : 0 < n = some_lane width device chips is in
    subst (λ (m : ℕ). place_at n d a < m) (sym (is.sizes (lane_at n d a) (lane_at_below n d a first)))
    (place_at_below n d (size / d) size a first (some_bytes device) (units_whole device size (size_facts size sized).2) below)

-- a byte of a bank, by the chip and the place that it is found at
pub found_within : (width : ℕ) (device : Device) (chips : List ChipState) (a lane place : ℕ) (chip : ChipState) (cells : List ℕ) → IsBank width device chips → a < bank_size chips
    → lane ≡ lane_at (length chips) (unit_len device) a → place ≡ place_at (length chips) (unit_len device) a → chip ≡ chip_at chips lane → chip.cells ≡ cells
    → IsTrue (is_chip_size (length chip.cells)) → place < length cells
found_within width device chips a lane place chip cells is below lane_is place_is chip_is cells_are sized =
    let n = length chips in
    let d = unit_len device in
    let here : chip ≡ chip_at chips (lane_at n d a) = chip_is ∙ ap (λ (c : ℕ). chip_at chips c) lane_is in
    let there = lane_at_below n d a (some_lane width device chips is) in
    let same : length chip.cells ≡ length (chip_at chips 0).cells = ap (λ (s : ChipState). length s.cells) here ∙ is.sizes (lane_at n d a) there in
    let inside = in_chip width device chips a is (subst (λ (m : ℕ). is_chip_size m ≡ true) same sized) below in
    let long : length cells ≡ length (chip_at chips (lane_at n d a)).cells = ap (λ (xs : List ℕ). length xs) (sym cells_are) ∙ ap (λ (s : ChipState). length s.cells) here in
    omega (arith, inside, place_is, long)

pub found_byte : (device : Device) (chips : List ChipState) (a lane place : ℕ) (chip : ChipState) (cells : List ℕ)
    → lane ≡ lane_at (length chips) (unit_len device) a → place ≡ place_at (length chips) (unit_len device) a → chip ≡ chip_at chips lane → chip.cells ≡ cells
    → slice_index cells place ≡ bank_byte device chips a
found_byte device chips a lane place chip cells lane_is place_is chip_is cells_are =
    let there : cells ≡ (chip_at chips (lane_at (length chips) (unit_len device) a)).cells =
    sym cells_are ∙ ap (λ (s : ChipState). s.cells) (chip_is ∙ ap (λ (c : ℕ). chip_at chips c) lane_is) in
    ap (λ (xs : List ℕ). slice_index xs place) there ∙ ap (λ (p : ℕ). slice_index (chip_at chips (lane_at (length chips) (unit_len device) a)).cells p) place_is

-- one byte more
pub more_bytes : (device : Device) (chips : List ChipState) (n : ℕ) (raw : List ℕ) (byte : ℕ) → raw ≡ bank_bytes device chips 0 n → byte ≡ bank_byte device chips n
    → raw ++ byte ∷ [] ≡ bank_bytes device chips 0 (n + 1)
more_bytes device chips n raw byte is here =
    let e : suc n ≡ n + 1 = omega arith in
    let z : 0 + n ≡ n = omega arith in
    ap (λ (xs : List ℕ). xs ++ byte ∷ []) is
    ∙ (ap (λ (b : ℕ). bank_bytes device chips 0 n ++ b ∷ []) (here ∙ ap (λ (k : ℕ). bank_byte device chips k) (sym z))
    ∙ (sym (bytes_more device chips n 0) ∙ ap (λ (k : ℕ). bank_bytes device chips 0 k) e))
