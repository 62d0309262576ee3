-- What the fields of a record say where a written record stands.
use Rattle.std.proofs.Common.{◌≡◌, ◌<◌, ◌≤◌, ℕ, ◌+◌, ◌*◌, ◌^◌, ◌==◌, zero, suc, List, [], ◌∷◌, ◌++◌, length, map, take, slice_index, All, get_or, Bool, true, false, refl, sym, ap, ◌∙◌, arith, add-one}
use Rattle.std.proofs.lemmas.List.{length-append, length-map, get_or-map, take_more, take_all}
use Rattle.std.specs.Int.{w16, w32, to_le_bytes, from_bool}
use Rattle.nor_cell.specs.Chip.{Part}
use Rattle.nor_io.specs.Fields.{u32_at}
use Rattle.nor_image.specs.Image.{bytes_at, version_of, weak_count, table_in, size_in, weak_in, weak_field_at, lock_count, locks_at, locks_from, locks_len, cells_at, record_end}
use Rattle.nor_image.specs.Written.{number_bytes, place_bytes, lock_bytes, kept_bytes}
use Rattle.nor_image.specs.declared.header.Version.{Version}
use Rattle.nor_image.specs.declared.header.Version.TheVariants.{One, Two}
use Rattle.nor_image.proofs.Standing.{Stand, stand_at, stand_first, stand_second, byte_there, u16_there, u32_there}

-- What a chip keeps has the sizes that the file's fields have.
pub record FitsFields (part : Part) (cells : List ℕ) (suspends erases : ℕ) : Type 0 where
  pub pace_program : part.pace_program < 2 ^ 32
  pub pace_erase : part.pace_erase < 2 ^ 32
  pub few_weak : length part.weak < 2 ^ 16
  pub weak : All (λ p. p < 2 ^ 32) part.weak
  pub suspends_fit : suspends < 2 ^ 32
  pub erases_fit : erases < 2 ^ 32
  pub table : length part.table ≡ 512
  pub size : length cells < 2 ^ 32

-- The fields of the record at a place say what a chip keeps.
pub record SaysKept (file : List ℕ) (at : ℕ) (part : Part) (locks : List Bool) (cells : List ℕ) (suspends erases : ℕ) : Type 0 where
  pub pace_program : u32_at file at ≡ part.pace_program
  pub pace_erase : u32_at file (at + 4) ≡ part.pace_erase
  pub pace_suspend : slice_index file (at + 8) ≡ part.pace_suspend
  pub stuck : slice_index file (at + 9) ≡ from_bool part.stuck
  pub count : weak_count file at ≡ length part.weak
  pub suspends_are : u32_at file (at + 12) ≡ suspends
  pub erases_are : u32_at file (at + 16) ≡ erases
  pub table : table_in file at ≡ part.table
  pub size : size_in file at ≡ length cells
  pub places : (k : ℕ) → k < length part.weak → u32_at file (weak_field_at at k) ≡ get_or part.weak k 0
  pub weak : weak_in file at (length part.weak) ≡ part.weak
  pub lock_number : u32_at file (locks_at file at) ≡ length locks
  pub lock : (k : ℕ) → k < length locks → slice_index file (locks_at file at + 4 + k) ≡ from_bool (get_or locks k false)
  pub locks_are : locks_from file (locks_at file at + 4) (length locks) ≡ locks
  pub cells_are : bytes_at file (cells_at file at) (size_in file at) ≡ cells
  pub whole : record_end file at ≤ length file
  -- where the record ends
  pub long : record_end file at ≡ at + length (kept_bytes Two part locks cells suspends erases)

-- how many bytes places have
pub length-place_bytes : (places : List ℕ) → length (place_bytes places) ≡ 4 * length places
length-place_bytes [] = refl
length-place_bytes (p ∷ ps) = length-append (to_le_bytes w32 p) (place_bytes ps) ∙ (let rest = length-place_bytes ps in omega arith)

-- how many bytes a record begins with
pub length-number_bytes : (part : Part) (suspends erases : ℕ) → length (number_bytes part suspends erases) ≡ 20
length-number_bytes part suspends erases = refl

-- how many bytes locks take
pub length-lock_bytes : (version : Version) (locks : List Bool) → length (lock_bytes version locks) ≡ locks_len version (length locks)
length-lock_bytes One locks = refl
length-lock_bytes Two locks =
    length-append (to_le_bytes w32 (length locks)) (map from_bool locks) ∙ (let long = length-map locks from_bool in let four : length (to_le_bytes w32 (length locks)) ≡ 4 = refl in omega arith)

-- how long a record is
pub length-kept_bytes : (version : Version) (part : Part) (locks : List Bool) (cells : List ℕ) (suspends erases : ℕ) → length part.table ≡ 512
    → length (kept_bytes version part locks cells suspends erases) ≡ 536 + 4 * length part.weak + locks_len version (length locks) + length cells
unfolding kept_bytes
length-kept_bytes version part locks cells suspends erases table =
    let numbers = number_bytes part suspends erases in
    let size = to_le_bytes w32 (length cells) in
    let places = place_bytes part.weak in
    let bits = lock_bytes version locks in
    let a = length-append numbers part.table in
    let b = length-append (numbers ++ part.table) size in
    let c = length-append (numbers ++ part.table ++ size) places in
    let d = length-append (numbers ++ part.table ++ size ++ places) bits in
    let e = length-append (numbers ++ part.table ++ size ++ places ++ bits) cells in
    let f = length-place_bytes part.weak in
    let g = length-lock_bytes version locks in
    let h : length numbers ≡ 20 = refl in
    let i : length size ≡ 4 = refl in
    omega arith

-- the table of a record that stands there
pub table_says : (file : List ℕ) (at : ℕ) (version : Version) (part : Part) (locks : List Bool) (cells : List ℕ) (suspends erases : ℕ) → length part.table ≡ 512
    → Stand file at (kept_bytes version part locks cells suspends erases) → table_in file at ≡ part.table
unfolding kept_bytes
table_says file at version part locks cells suspends erases table stand =
    let numbers = number_bytes part suspends erases in
    let size = to_le_bytes w32 (length cells) in
    let places = place_bytes part.weak in
    let bits = lock_bytes version locks in
    let to_table = stand_first (numbers ++ part.table) size (stand_first (numbers ++ part.table ++ size) places
    (stand_first (numbers ++ part.table ++ size ++ places) bits (stand_first (numbers ++ part.table ++ size ++ places ++ bits) cells stand))) in
    ap (bytes_at file (at + 20)) (sym table) ∙ (stand_second numbers part.table to_table).are

-- a byte that says yes or no says it again
pub bit_back : (b : Bool) → (from_bool b == 1) ≡ b
bit_back true = refl
bit_back false = refl

-- lock k of those that stand one behind the other
lock_says : (file : List ℕ) (at : ℕ) (locks : List Bool) (k : ℕ) → Stand file at (map from_bool locks) → k < length locks → slice_index file (at + k) ≡ from_bool (get_or locks k false)
lock_says file at locks k stand below =
    byte_there (map from_bool locks) k stand (let long = length-map locks from_bool in omega arith) ∙ get_or-map from_bool locks k false 0 below

-- the locks are read back
bits_there : (file : List ℕ) (at : ℕ) (locks : List Bool) (n : ℕ) → Stand file at (map from_bool locks) → n ≤ length locks → locks_from file at n ≡ take n locks
bits_there file at locks zero stand few = refl
bits_there file at locks (suc n) stand few =
    let before = bits_there file at locks n stand (omega arith) in
    let last : (slice_index file (at + n) == 1) ≡ get_or locks n false = ap (λ b. b == 1) (lock_says file at locks n stand (omega arith)) ∙ bit_back (get_or locks n false) in
    (λ i. before i ++ last i ∷ []) ∙ (sym (take_more locks n false (omega arith)) ∙ ap (λ k. take k locks) (add-one n))

-- number k of places that stand one behind the other
place_there : (file : List ℕ) (at : ℕ) (places : List ℕ) (k : ℕ) → Stand file at (place_bytes places) → All (λ p. p < 2 ^ 32) places → k < length places
    → u32_at file (at + 4 * k) ≡ get_or places k 0
place_there file at [] k stand fit below = absurd (omega arith)
place_there file at (p ∷ ps) zero stand fit below =
    ap (u32_at file) (omega arith) ∙ u32_there p (stand_first (to_le_bytes w32 p) (place_bytes ps) stand) (fit 0 0 (omega arith))
place_there file at (p ∷ ps) (suc k) stand fit below =
    ap (u32_at file) (omega arith) ∙ place_there file (at + 4) ps k (stand_second (to_le_bytes w32 p) (place_bytes ps) stand) (λ j d less. fit (suc j) d (omega arith)) (omega arith)

-- the places are read back
weak_there : (file : List ℕ) (at : ℕ) (places : List ℕ) (k : ℕ) → Stand file (at + 536) (place_bytes places) → All (λ p. p < 2 ^ 32) places → k ≤ length places
    → weak_in file at k ≡ take k places
weak_there file at places zero stand fit few = refl
weak_there file at places (suc k) stand fit few =
    let before = weak_there file at places k stand fit (omega arith) in
    let last : u32_at file (weak_field_at at k) ≡ get_or places k 0 = place_there file (at + 536) places k stand fit (omega arith) in
    (λ i. before i ++ last i ∷ []) ∙ (sym (take_more places k 0 (omega arith)) ∙ ap (λ n. take n places) (add-one k))

-- a written record is read back
pub kept_says : (file : List ℕ) (at : ℕ) (part : Part) (locks : List Bool) (cells : List ℕ) (suspends erases : ℕ) → FitsFields part cells suspends erases
    → version_of file ≡ Two → lock_count file at ≡ length locks → length locks < 2 ^ 32
    → Stand file at (kept_bytes Two part locks cells suspends erases) → SaysKept file at part locks cells suspends erases
unfolding kept_bytes
kept_says file at part locks cells suspends erases fit two counted few_locks stand =
    let a = to_le_bytes w32 part.pace_program in
    let b = to_le_bytes w32 part.pace_erase in
    let c : List ℕ = part.pace_suspend ∷ from_bool part.stuck ∷ [] in
    let d = to_le_bytes w16 (length part.weak) in
    let e = to_le_bytes w32 suspends in
    let f = to_le_bytes w32 erases in
    let numbers = number_bytes part suspends erases in
    let size = to_le_bytes w32 (length cells) in
    let places = place_bytes part.weak in
    let number = to_le_bytes w32 (length locks) in
    let bits = map from_bool locks in
    let to_locks = stand_first (numbers ++ part.table ++ size ++ places ++ (number ++ bits)) cells stand in
    let to_places = stand_first (numbers ++ part.table ++ size ++ places) (number ++ bits) to_locks in
    let to_size = stand_first (numbers ++ part.table ++ size) places to_places in
    let to_table = stand_first (numbers ++ part.table) size to_size in
    let to_erases = stand_first numbers part.table to_table in
    let to_suspends = stand_first (a ++ b ++ c ++ d ++ e) f to_erases in
    let to_count = stand_first (a ++ b ++ c ++ d) e to_suspends in
    let to_stuck = stand_first (a ++ b ++ c) d to_count in
    let to_pace = stand_first (a ++ b) c to_stuck in
    let table_len = fit.table in
    let la = length-append numbers part.table in
    let lb = length-append (numbers ++ part.table) size in
    let lc = length-append (numbers ++ part.table ++ size) places in
    let ld = length-place_bytes part.weak in
    let le : length numbers ≡ 20 = refl in
    let lf : length size ≡ 4 = refl in
    let lg = length-append (numbers ++ part.table ++ size ++ places) (number ++ bits) in
    let lh = length-append number bits in
    let li = length-map locks from_bool in
    let lj : length number ≡ 4 = refl in
    let size_at = stand_at (at + 532) (stand_second (numbers ++ part.table) size to_size) (omega arith) in
    let places_at = stand_at (at + 536) (stand_second (numbers ++ part.table ++ size) places to_places) (omega arith) in
    let locks_stand = stand_at (at + 536 + 4 * length part.weak) (stand_second (numbers ++ part.table ++ size ++ places) (number ++ bits) to_locks) (omega arith) in
    let number_at = stand_first number bits locks_stand in
    let bits_at = stand_at (at + 536 + 4 * length part.weak + 4) (stand_second number bits locks_stand) (omega arith) in
    let cells_there = stand_at (at + 536 + 4 * length part.weak + (4 + length locks)) (stand_second (numbers ++ part.table ++ size ++ places ++ (number ++ bits)) cells stand) (omega arith) in
    let count = u16_there (length part.weak) (stand_second (a ++ b ++ c) d to_count) fit.few_weak in
    let size_is = u32_there (length cells) size_at fit.size in
    let locks_place : locks_at file at ≡ at + 536 + 4 * length part.weak = ap (weak_field_at at) count in
    let locks_end : locks_len (version_of file) (lock_count file at) ≡ 4 + length locks = λ i. locks_len (two i) (counted i) in
    let cells_place : cells_at file at ≡ at + 536 + 4 * length part.weak + (4 + length locks) = λ i. locks_place i + locks_end i in
    let end = cells_there.whole in
    let long = length-kept_bytes Two part locks cells suspends erases fit.table in
    record {
      pace_program = u32_there part.pace_program (stand_first a b to_pace) fit.pace_program;
      pace_erase = u32_there part.pace_erase (stand_second a b to_pace) fit.pace_erase;
      pace_suspend = ap (slice_index file) (omega arith) ∙ byte_there c 0 (stand_second (a ++ b) c to_stuck) (omega arith);
      stuck = ap (slice_index file) (omega arith) ∙ byte_there c 1 (stand_second (a ++ b) c to_stuck) (omega arith);
      count = count;
      suspends_are = u32_there suspends (stand_second (a ++ b ++ c ++ d) e to_suspends) fit.suspends_fit;
      erases_are = u32_there erases (stand_second (a ++ b ++ c ++ d ++ e) f to_erases) fit.erases_fit;
      table = ap (bytes_at file (at + 20)) (sym fit.table) ∙ (stand_second numbers part.table to_table).are;
      size = size_is;
      places = λ k below. place_there file (at + 536) part.weak k places_at fit.weak below;
      weak = weak_there file at part.weak (length part.weak) places_at fit.weak (omega arith) ∙ take_all (length part.weak) part.weak (omega arith);
      lock_number = ap (u32_at file) locks_place ∙ u32_there (length locks) number_at few_locks;
      lock = λ k below. ap (λ p. slice_index file (p + 4 + k)) locks_place ∙ lock_says file (at + 536 + 4 * length part.weak + 4) locks k bits_at below;
      locks_are = ap (λ p. locks_from file (p + 4) (length locks)) locks_place
          ∙ (bits_there file (at + 536 + 4 * length part.weak + 4) locks (length locks) bits_at (omega arith) ∙ take_all (length locks) locks (omega arith));
      cells_are = (λ i. bytes_at file (cells_place i) (size_is i)) ∙ cells_there.are;
      whole = omega arith;
      long = omega arith;
    }
