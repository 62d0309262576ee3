-- A file that stands for a bank is the file of that bank, byte by byte.
use Rattle.std.proofs.Common.{◌≡◌, ◌<◌, ◌≤◌, ℕ, ◌+◌, ◌*◌, ◌/◌, ◌%◌, zero, suc, List, [], ◌∷◌, ◌++◌, length, map, take, drop, slice_index, Bool, true, false, ◌==◌, ◌||◌, nat_le, nat_lt, nat_eq, refl, sym, ap, subst, ◌∙◌, arith, add-one, if◌then◌else◌, None}
use Rattle.std.proofs.lemmas.Bool.Decides.{nat_tests}
use Rattle.std.proofs.lemmas.Grind.{flat_map-append}
use Rattle.std.proofs.lemmas.List.{length-append, length-map, length-take, length-drop, map-append, drop_more, take_all}
use Rattle.std.proofs.Math.Bool.{or-false}
use Rattle.std.specs.Cmp.Lexicographic.{same_text}
use Rattle.std.specs.Int.{w16, w32, to_le_bytes, from_bool}
use Rattle.std.specs.List.{starts_with}
use Rattle.std.specs.Option.{option_or}
use Rattle.nor_cell.proofs.Logic.{both_pass}
use Rattle.nor_cell.specs.Bits.{AreBytes}
use Rattle.nor_cell.specs.Chip.{ChipState}
use Rattle.nor_cell.specs.declared.device.Device.{Device}
use Rattle.nor_cell.specs.Table.{set_of}
use Rattle.nor_bus.specs.Bus.{chip_at}
use Rattle.nor_io.specs.Fields.{u16_at, u32_at}
use Rattle.nor_image.specs.Image.{any_field, tested_field, magic_of, is_magic, version_of, magic_field, refusal_of, first_refusal, bytes_at, width_of, device_of, device_of_code, lanes_of_file, machine_of, trailing, image_refusal, IsImageOf, weak_count, table_in, size_in, weak_in, weak_field_at, cells_at, record_end, record_place, record_fields, fields_before, header_fields, number_fields, table_field, size_field, weak_fields, lock_fields, cells_field, locks_len, lock_count, locks_at, locks_from, locks_of, kept_in, kept_before, is_agreed, is_lock_byte, part_in, chip_in}
use Rattle.nor_image.specs.declared.error.ImageError.TheVariants.{BadMagic, Truncated, Trailing}
use Rattle.nor_image.specs.Written.{code_of_device, header_bytes, file_in, number_bytes, place_bytes, lock_bytes, kept_bytes, bank_set, record_bytes, records_bytes}
use Rattle.nor_image.specs.declared.header.Version.{Version}
use Rattle.nor_image.specs.declared.header.Version.TheVariants.{One, Two}
use Rattle.nor_image.proofs.Putting.{records-take_more}
use Rattle.nor_image.proofs.Agreeing.{each_lock_right}
use Rattle.nor_image.proofs.LaneLocks.{locks_none, two_none}
use Rattle.nor_image.proofs.LockBits.{length-locks_from, kept_in_two, kept_len, kept_after}
use Rattle.nor_image.proofs.ReadBack.{length-place_bytes, length-lock_bytes, length-kept_bytes}
use Rattle.nor_image.proofs.Records.{in_parts}
use Rattle.nor_image.proofs.Refusals.{first_refusal-append, none_both, whole_or, passes, field_whole, field_passes, field_none}
use Rattle.nor_image.proofs.Standing.{Stand, stand_at, stand_both}

-- ---- fields of a file as bytes

length-bytes_at : (file : List ℕ) (at n : ℕ) → at + n ≤ length file → length (bytes_at file at n) ≡ n
length-bytes_at file at n whole = length-take n (drop at file) ∙ (let rest = length-drop at file in omega arith)

-- so many bytes of a file stand where they are read
bytes_stand : (file : List ℕ) (at n : ℕ) → at + n ≤ length file → Stand file at (bytes_at file at n)
bytes_stand file at n whole =
    let long = length-bytes_at file at n whole in
    record { whole = omega arith; are = ap (bytes_at file at) long }

-- one byte, two, four
byte_stands : (file : List ℕ) (at : ℕ) → at + 1 ≤ length file → Stand file at (slice_index file at ∷ [])
byte_stands file at whole = record {
  whole = whole;
  are = ap (take 1) (drop_more file at 0 (omega arith));
}

two_stand : (file : List ℕ) (at : ℕ) → at + 2 ≤ length file → Stand file at (slice_index file at ∷ slice_index file (at + 1) ∷ [])
two_stand file at whole = stand_both (slice_index file at ∷ []) (slice_index file (at + 1) ∷ []) (byte_stands file at (omega arith)) (byte_stands file (at + 1) (omega arith))

u16_back : (a b : ℕ) → a < 256 → b < 256 → (a ∷ b ∷ []) ≡ to_le_bytes w16 (a + 256 * b)
u16_back a b la lb =
    let first : a ≡ (a + 256 * b) % 256 = omega arith in
    let second : b ≡ (a + 256 * b) / 256 % 256 = omega arith in
    λ i. first i ∷ second i ∷ []

u32_back : (a b c d : ℕ) → a < 256 → b < 256 → c < 256 → d < 256 → (a ∷ b ∷ c ∷ d ∷ []) ≡ to_le_bytes w32 ((a + 256 * b) + 65536 * (c + 256 * d))
u32_back a b c d la lb lc ld =
    let n = (a + 256 * b) + 65536 * (c + 256 * d) in
    let first : a ≡ n % 256 = omega arith in
    let second : b ≡ n / 256 % 256 = omega arith in
    let third : c ≡ n / 65536 % 256 = omega arith in
    let fourth : d ≡ n / 16777216 % 256 = omega arith in
    λ i. first i ∷ second i ∷ third i ∷ fourth i ∷ []

u16_stands : (file : List ℕ) (at : ℕ) → AreBytes file → at + 2 ≤ length file → Stand file at (to_le_bytes w16 (u16_at file at))
u16_stands file at bytes whole =
    subst (λ (bs : List ℕ). Stand file at bs) (u16_back (slice_index file at) (slice_index file (at + 1)) (bytes at) (bytes (at + 1))) (two_stand file at whole)

u32_stands : (file : List ℕ) (at : ℕ) → AreBytes file → at + 4 ≤ length file → Stand file at (to_le_bytes w32 (u32_at file at))
u32_stands file at bytes whole =
    subst (λ (bs : List ℕ). Stand file at bs)
    (u32_back (slice_index file at) (slice_index file (at + 1)) (slice_index file (at + 2)) (slice_index file (at + 2 + 1)) (bytes at) (bytes (at + 1)) (bytes (at + 2)) (bytes (at + 2 + 1)))
    (stand_both (slice_index file at ∷ slice_index file (at + 1) ∷ []) (slice_index file (at + 2) ∷ slice_index file (at + 2 + 1) ∷ []) (two_stand file at (omega arith)) (two_stand file (at + 2) (omega arith)))

-- a byte that says yes or no
bit_is : (n : ℕ) → n ≤ 1 → n ≡ from_bool (n == 1)
bit_is zero few = refl
bit_is (suc zero) few = refl
bit_is (suc (suc n)) few = absurd (omega arith)

-- two bytes, the second at its own place
two_at : (file : List ℕ) (at next : ℕ) → at + 1 ≡ next → at + 2 ≤ length file → Stand file at (slice_index file at ∷ slice_index file next ∷ [])
two_at file at next is whole = subst (λ (n : ℕ). Stand file at (slice_index file at ∷ slice_index file n ∷ [])) is (two_stand file at whole)

-- ---- the record at a place

length-weak_in : (file : List ℕ) (at n : ℕ) → length (weak_in file at n) ≡ n
length-weak_in file at zero = refl
length-weak_in file at (suc n) = length-append (weak_in file at n) (u32_at file (weak_field_at at n) ∷ []) ∙ (let before = length-weak_in file at n in omega arith)

places_stand : (file : List ℕ) (at n : ℕ) → AreBytes file → at + 536 + 4 * n ≤ length file → Stand file (at + 536) (place_bytes (weak_in file at n))
places_stand file at zero bytes whole = record { whole = omega arith; are = refl }
places_stand file at (suc n) bytes whole =
    let before = places_stand file at n bytes (omega arith) in
    let long = length-place_bytes (weak_in file at n) ∙ ap (λ k. 4 * k) (length-weak_in file at n) in
    let here : at + 536 + 4 * n ≡ at + 536 + length (place_bytes (weak_in file at n)) = omega arith in
    let last = stand_at (at + 536 + length (place_bytes (weak_in file at n))) (u32_stands file (at + 536 + 4 * n) bytes (omega arith)) here in
    subst (λ (bs : List ℕ). Stand file (at + 536) bs) (sym (flat_map-append (to_le_bytes w32) (weak_in file at n) (u32_at file (weak_field_at at n) ∷ [])))
    (stand_both (place_bytes (weak_in file at n)) (to_le_bytes w32 (u32_at file (weak_field_at at n))) before last)

-- a byte that is at most 1
few_is : (n : ℕ) → nat_le n 1 ≡ true → n ≤ 1
few_is n h = grind (arith, nat_tests)

-- so many locks stand there, each 0 or 1
bits_stand : (file : List ℕ) (at n : ℕ) → ((k : ℕ) → k < n → slice_index file (at + k) ≤ 1) → at + n ≤ length file → Stand file at (map from_bool (locks_from file at n))
bits_stand file at zero bits whole = record { whole = omega arith; are = refl }
bits_stand file at (suc n) bits whole =
    let before = bits_stand file at n (λ k below. bits k (omega arith)) (omega arith) in
    let long = length-map (locks_from file at n) from_bool ∙ length-locks_from file at n in
    let byte = slice_index file (at + n) in
    let one = subst (λ (b : ℕ). Stand file (at + n) (b ∷ [])) (bit_is byte (bits n (omega arith))) (byte_stands file (at + n) (omega arith)) in
    let last = stand_at (at + length (map from_bool (locks_from file at n))) one (omega arith) in
    subst (λ (bs : List ℕ). Stand file at bs) (sym (map-append from_bool (locks_from file at n) ((byte == 1) ∷ [])))
    (stand_both (map from_bool (locks_from file at n)) (from_bool (byte == 1) ∷ []) before last)

-- the locks of a record of which no field of them is refused
locks_stand : (version : Version) (file : List ℕ) (c at : ℕ) → version_of file ≡ version → AreBytes file → first_refusal file (lock_fields file c at) ≡ None
    → locks_at file at + locks_len version (lock_count file at) ≤ length file → Stand file (locks_at file at) (lock_bytes version (kept_in file at))
locks_stand One file c at one bytes none whole = record { whole = omega arith; are = refl }
locks_stand Two file c at two bytes none whole =
    let count = lock_count file at in
    let first = locks_at file at in
    let parts = two_none file c at two none in
    let kept = kept_in_two file at two in
    let number : u32_at file first ≡ count = (let is = field_passes file first 4 (u32_at file first == count) parts.0 in grind (arith, nat_tests)) in
    let long : length (kept_in file at) ≡ count = ap (λ (ls : List Bool). length ls) kept ∙ length-locks_from file (first + 4) count in
    let bit : (k : ℕ) → k < count → slice_index file (first + 4 + k) ≤ 1 =
    λ k below.
    let byte = slice_index file (first + 4 + k) in
    let right = field_passes file (first + 4 + k) 1 (is_lock_byte (kept_before file c) count k byte) (each_lock_right file (kept_before file c) (first + 4) count count k parts.1 below) in
    few_is byte (both_pass (nat_le byte 1) (is_agreed (kept_before file c) count k (byte == 1)) right).0 in
    let n = subst (λ (m : ℕ). Stand file first (to_le_bytes w32 m)) (number ∙ sym long) (u32_stands file first bytes (omega arith)) in
    let bits = subst (λ (ls : List Bool). Stand file (first + 4) (map from_bool ls)) (sym kept) (bits_stand file (first + 4) count bit (omega arith)) in
    stand_both (to_le_bytes w32 (length (kept_in file at))) (map from_bool (kept_in file at)) n bits

-- the bytes of a record whose fields are whole are those of what it says
record_back : (file : List ℕ) (c at : ℕ) (device : Device) → AreBytes file → record_end file at ≤ length file → slice_index file (at + 9) ≤ 1
    → first_refusal file (lock_fields file c at) ≡ None
    → Stand file at (kept_bytes (version_of file) (part_in file (machine_of file) device at) (kept_in file at) (bytes_at file (cells_at file at) (size_in file at)) (u32_at file (at + 12)) (u32_at file (at + 16)))
unfolding kept_bytes
record_back file c at device bytes whole stuck none =
    let version = version_of file in
    let pace_program = to_le_bytes w32 (u32_at file at) in
    let pace_erase = to_le_bytes w32 (u32_at file (at + 4)) in
    let two : List ℕ = slice_index file (at + 8) ∷ from_bool (slice_index file (at + 9) == 1) ∷ [] in
    let weak = weak_in file at (weak_count file at) in
    let count = to_le_bytes w16 (length weak) in
    let suspends = to_le_bytes w32 (u32_at file (at + 12)) in
    let erases = to_le_bytes w32 (u32_at file (at + 16)) in
    let cells = bytes_at file (cells_at file at) (size_in file at) in
    let numbers = number_bytes (part_in file (machine_of file) device at) (u32_at file (at + 12)) (u32_at file (at + 16)) in
    let table = table_in file at in
    let size = to_le_bytes w32 (length cells) in
    let places = place_bytes weak in
    let locks = lock_bytes version (kept_in file at) in
    let weak_long = length-weak_in file at (weak_count file at) in
    let places_long = length-place_bytes weak in
    let table_long = length-bytes_at file (at + 20) 512 (omega arith) in
    let cells_long = length-bytes_at file (cells_at file at) (size_in file at) whole in
    let locks_long = length-lock_bytes version (kept_in file at) ∙ kept_len file at in
    let a = u32_stands file at bytes (omega arith) in
    let b = u32_stands file (at + 4) bytes (omega arith) in
    let m = subst (λ (bs : List ℕ). Stand file (at + 8) bs) (λ i. slice_index file (at + 8) ∷ bit_is (slice_index file (at + 9)) stuck i ∷ []) (two_at file (at + 8) (at + 9) (omega arith) (omega arith)) in
    let d = subst (λ (n : ℕ). Stand file (at + 10) (to_le_bytes w16 n)) (sym weak_long) (u16_stands file (at + 10) bytes (omega arith)) in
    let e = u32_stands file (at + 12) bytes (omega arith) in
    let f = u32_stands file (at + 16) bytes (omega arith) in
    let t = bytes_stand file (at + 20) 512 (omega arith) in
    let s = subst (λ (n : ℕ). Stand file (at + 532) (to_le_bytes w32 n)) (sym cells_long) (u32_stands file (at + 532) bytes (omega arith)) in
    let p = places_stand file at (weak_count file at) bytes (omega arith) in
    let l = locks_stand version file c at refl bytes none (omega arith) in
    let x = bytes_stand file (cells_at file at) (size_in file at) whole in
    let la = length-append numbers table in
    let lb = length-append (numbers ++ table) size in
    let lc = length-append (numbers ++ table ++ size) places in
    let ld = length-append (numbers ++ table ++ size ++ places) locks in
    let ln : length numbers ≡ 20 = refl in
    let ls : length size ≡ 4 = refl in
    let all_numbers = stand_both (pace_program ++ pace_erase ++ two ++ count ++ suspends) erases
    (stand_both (pace_program ++ pace_erase ++ two ++ count) suspends
    (stand_both (pace_program ++ pace_erase ++ two) count
    (stand_both (pace_program ++ pace_erase) two (stand_both pace_program pace_erase a b) m) d) e) f in
    let with_table = stand_both numbers table all_numbers t in
    let with_size = stand_both (numbers ++ table) size with_table (stand_at (at + length (numbers ++ table)) s (omega arith)) in
    let with_places = stand_both (numbers ++ table ++ size) places with_size (stand_at (at + length (numbers ++ table ++ size)) p (omega arith)) in
    let with_locks = stand_both (numbers ++ table ++ size ++ places) locks with_places (stand_at (at + length (numbers ++ table ++ size ++ places)) l (omega arith)) in
    stand_both (numbers ++ table ++ size ++ places ++ locks) cells with_locks (stand_at (at + length (numbers ++ table ++ size ++ places ++ locks)) x (omega arith))

-- of a record of which no field is refused
record_whole : (file : List ℕ) (c at : ℕ) → first_refusal file (record_fields file c at) ≡ None → (record_end file at ≤ length file) × (slice_index file (at + 9) ≤ 1)
record_whole file c at none =
    let behind_weak = option_or (first_refusal file (lock_fields file c at)) (refusal_of file (cells_field file at)) in
    let behind_size = option_or (first_refusal file (weak_fields file at (weak_count file at))) behind_weak in
    let behind_table = option_or (refusal_of file (size_field file c at)) behind_size in
    let behind_numbers = option_or (refusal_of file (table_field at)) behind_table in
    let numbers = none_both (first_refusal file (number_fields file at)) behind_numbers (sym (in_parts file c at) ∙ none) in
    let table = none_both (refusal_of file (table_field at)) behind_table numbers.1 in
    let size = none_both (refusal_of file (size_field file c at)) behind_size table.1 in
    let weak = none_both (first_refusal file (weak_fields file at (weak_count file at))) behind_weak size.1 in
    let cells = (none_both (first_refusal file (lock_fields file c at)) (refusal_of file (cells_field file at)) weak.1).1 in
    let stuck = field_none file (number_fields file at) 3 (any_field 0 0) numbers.0 (omega arith) in
    let few = field_passes file (at + 9) 1 (nat_le (slice_index file (at + 9)) 1) stuck in
    (field_whole file (cells_field file at) cells, few_is (slice_index file (at + 9)) few)

-- how long the record of a chip is that a record stores
length_stored : (file : List ℕ) (device : Device) (at : ℕ) → record_end file at ≤ length file
    → record_end file at ≡ at + length (kept_bytes (version_of file) (part_in file (machine_of file) device at) (kept_in file at) (bytes_at file (cells_at file at) (size_in file at)) (u32_at file (at + 12)) (u32_at file (at + 16)))
length_stored file device at whole =
    let table = length-bytes_at file (at + 20) 512 (omega arith) in
    let long = length-kept_bytes (version_of file) (part_in file (machine_of file) device at) (kept_in file at) (bytes_at file (cells_at file at) (size_in file at)) (u32_at file (at + 12)) (u32_at file (at + 16)) table in
    let weak = length-weak_in file at (weak_count file at) in
    let cells = length-bytes_at file (cells_at file at) (size_in file at) whole in
    let locks = kept_len file at in
    omega arith

-- ---- the whole file

-- the chips of a file's records
pub record AreOfFile (file : List ℕ) (device : Device) (n : ℕ) (chips : List ChipState) : Type 0 where
  pub bytes : AreBytes file
  pub each : (c : ℕ) → c < n → chip_at chips c ≡ chip_in file (machine_of file) device (record_place file c)
  pub count : n ≤ length chips

-- the record of a chip that a record stores
stored_is : (file : List ℕ) (device : Device) (at : ℕ)
    → kept_bytes (version_of file) (part_in file (machine_of file) device at) (kept_in file at) (bytes_at file (cells_at file at) (size_in file at)) (u32_at file (at + 12)) (u32_at file (at + 16))
    ≡ record_bytes (version_of file) (machine_of file) (chip_in file (machine_of file) device at)
stored_is file device at =
    ap (λ (ls : List Bool). kept_bytes (version_of file) (part_in file (machine_of file) device at) ls (bytes_at file (cells_at file at) (size_in file at)) (u32_at file (at + 12)) (u32_at file (at + 16)))
    (sym (kept_after (machine_of file) (table_in file at) (locks_of file at)))

-- one more record, whose bytes stand where it begins
records_back : (file : List ℕ) (device : Device) (n : ℕ) (chips : List ChipState) → AreOfFile file device n chips → first_refusal file (fields_before file n) ≡ None
    → Stand file 12 (records_bytes (version_of file) (machine_of file) (take n chips)) × (record_place file n ≡ 12 + length (records_bytes (version_of file) (machine_of file) (take n chips)))
records_back file device zero chips of none =
    let last = field_whole file (tested_field 11 1 (slice_index file 11 == 0)) (field_none file (header_fields file) 4 (any_field 0 0) none (omega arith)) in
    (record { whole = omega arith; are = refl }, refl)
records_back file device (suc n) chips of none =
    let v = version_of file in
    let set = machine_of file in
    let at = record_place file n in
    let last = record_fields file n at in
    let parts = none_both (first_refusal file (fields_before file n)) (first_refusal file last) (sym (first_refusal-append file (fields_before file n) last) ∙ none) in
    let so = record_whole file n at parts.1 in
    let before = records_back file device n chips (record { bytes = of.bytes; each = λ c below. of.each c (omega arith); count = (let few = of.count in omega arith) }) parts.0 in
    let here = record_back file n at device of.bytes so.0 so.1 (locks_none file n at parts.1) in
    let below : n < length chips = (let few = of.count in omega arith) in
    let is = stored_is file device at ∙ ap (record_bytes v set) (sym (of.each n (omega arith))) in
    let behind = stand_at (12 + length (records_bytes v set (take n chips))) (subst (λ (bs : List ℕ). Stand file at bs) is here) before.1 in
    let more = records-take_more v set chips n below in
    let all = subst (λ (bs : List ℕ). Stand file 12 bs) (sym more) (stand_both (records_bytes v set (take n chips)) (record_bytes v set (chip_at chips n)) before.0 behind) in
    let long = length_stored file device at so.0 in
    let same = ap length is in
    let total = ap length more ∙ length-append (records_bytes v set (take n chips)) (record_bytes v set (chip_at chips n)) in
    let next : length (records_bytes v set (take (suc n) chips)) ≡ length (records_bytes v set (take (n + 1) chips)) = ap (λ k. length (records_bytes v set (take k chips))) (sym (add-one n)) in
    let place = before.1 in
    (subst (λ (k : ℕ). Stand file 12 (records_bytes v set (take k chips))) (add-one n) all, omega arith)

-- ---- the header

-- of the fields of the header too none is refused
header_none : (file : List ℕ) (n : ℕ) → first_refusal file (fields_before file n) ≡ None → first_refusal file (header_fields file) ≡ None
header_none file zero none = none
header_none file (suc n) none =
    let last = record_fields file n (record_place file n) in
    header_none file n (none_both (first_refusal file (fields_before file n)) (first_refusal file last) (sym (first_refusal-append file (fields_before file n) last) ∙ none)).0

-- the first eight bytes are the magic of the version
eight_are : (file text : List ℕ) → length text ≡ 8 → starts_with nat_eq file text ≡ true → bytes_at file 0 8 ≡ text
eight_are file text long h = ap (λ (n : ℕ). take n file) (sym long) ∙ sym (same_text text (take (length text) file) (sym h))

magic_by : (file : List ℕ) (two : Bool) → is_magic file Two ≡ two → (is_magic file One || two) ≡ true → bytes_at file 0 8 ≡ magic_of (if two then Two else One)
magic_by file true is known = eight_are file (magic_of Two) refl is
magic_by file false is known = eight_are file (magic_of One) refl (sym (or-false (is_magic file One)) ∙ known)

code_back : (code : ℕ) → code ≤ 2 → code ≡ code_of_device (device_of_code code)
code_back zero few = refl
code_back (suc zero) few = refl
code_back (suc (suc zero)) few = refl
code_back (suc (suc (suc code))) few = absurd (omega arith)

eight_long : (version : Version) → length (magic_of version) ≡ 8
eight_long One = refl
eight_long Two = refl

magic_stands : (version : Version) (file : List ℕ) → 8 ≤ length file → bytes_at file 0 8 ≡ magic_of version → Stand file 0 (magic_of version)
magic_stands version file whole is =
    let long = eight_long version in
    record { whole = omega arith; are = ap (bytes_at file 0) long ∙ is }

-- the bytes of a header of which no field is refused
header_back : (file : List ℕ) → first_refusal file (header_fields file) ≡ None → Stand file 0 (header_bytes (version_of file) (width_of file) (device_of file) (lanes_of_file file))
header_back file none =
    let fields = header_fields file in
    let last = field_none file fields 4 (any_field 0 0) none (omega arith) in
    let whole = field_whole file (tested_field 11 1 (slice_index file 11 == 0)) last in
    let zero_is : slice_index file 11 ≡ 0 = (let is = field_passes file 11 1 (slice_index file 11 == 0) last in grind (arith, nat_tests)) in
    let few : slice_index file 9 ≤ 2 = (let is = field_passes file 9 1 (nat_le (slice_index file 9) 2) (field_none file fields 2 (any_field 0 0) none (omega arith)) in grind (arith, nat_tests)) in
    let known = passes (is_magic file One || is_magic file Two) BadMagic (whole_or (nat_lt (length file) 8) (Truncated (length file)) (magic_field file).bad (field_none file fields 0 (any_field 0 0) none (omega arith))).1 in
    let eight : Stand file 0 (magic_of (version_of file)) = magic_stands (version_of file) file (omega arith) (magic_by file (is_magic file Two) refl known) in
    let four = stand_both (slice_index file 8 ∷ slice_index file 9 ∷ []) (slice_index file 10 ∷ slice_index file 11 ∷ []) (two_at file 8 9 refl (omega arith)) (two_at file 10 11 refl (omega arith)) in
    stand_both (magic_of (version_of file)) (width_of file ∷ code_of_device (device_of file) ∷ lanes_of_file file ∷ 0 ∷ []) eight
    (subst (λ (bs : List ℕ). Stand file (0 + length (magic_of (version_of file))) bs) (λ i. slice_index file 8 ∷ code_back (slice_index file 9) few i ∷ slice_index file 10 ∷ zero_is i ∷ []) (stand_at (0 + length (magic_of (version_of file))) four (let eight = eight_long (version_of file) in omega arith)))

-- ---- and the file

-- nothing goes on behind the end
ended : (file : List ℕ) (end : ℕ) → trailing file end ≡ None → length file ≤ end
ended file end none = (let is = (whole_or (nat_lt end (length file)) (Trailing end) None none).0 in grind (arith, nat_tests))

-- bytes that stand at a file's first place and leave nothing out are the file
all_stand : (file bytes : List ℕ) → Stand file 0 bytes → length file ≤ length bytes → file ≡ bytes
all_stand file bytes stand all = sym (take_all (length bytes) file all) ∙ stand.are

-- a file that stands for a bank is the file of that bank in its version
pub image_spelled : (file : List ℕ) (width : ℕ) (chips : List ChipState) → AreBytes file → IsImageOf file width chips → 0 < length chips → file ≡ file_in (version_of file) width chips
unfolding image_refusal
image_spelled file width chips bytes image some =
    let n = lanes_of_file file in
    let v = version_of file in
    let set = machine_of file in
    let parts = none_both (first_refusal file (fields_before file n)) (trailing file (record_place file n)) image.well_formed in
    let of : AreOfFile file (device_of file) n chips = record {
      bytes = bytes;
      each = λ c below. image.each c (let count = image.count in omega arith);
      count = (let count = image.count in omega arith);
    } in
    let back = records_back file (device_of file) n chips of parts.0 in
    let every : take n chips ≡ chips = take_all n chips (let count = image.count in omega arith) in
    let records = subst (λ (cs : List ChipState). Stand file 12 (records_bytes v set cs)) every back.0 in
    let header = header_back file (header_none file n parts.0) in
    let head = header_bytes v (width_of file) (device_of file) n in
    let head_long : length head ≡ 12 = length-append (magic_of v) (width_of file ∷ code_of_device (device_of file) ∷ n ∷ 0 ∷ []) ∙ (let eight = eight_long v in omega arith) in
    let all = stand_both head (records_bytes v set chips) header (stand_at (0 + length head) records (omega arith)) in
    let end = ended file (record_place file n) parts.1 in
    let long : record_place file n ≡ 12 + length (records_bytes v set chips) = back.1 ∙ ap (λ cs. 12 + length (records_bytes v set cs)) every in
    let total = length-append head (records_bytes v set chips) in
    let device : device_of file ≡ (chip_at chips 0).part.device = sym (ap (λ (s : ChipState). s.part.device) (image.each 0 some)) in
    let named : machine_of file ≡ bank_set chips = sym (ap (λ (s : ChipState). set_of s.part.table) (image.each 0 some)) in
    all_stand file (head ++ records_bytes v set chips) all (omega arith)
    ∙ (λ i. header_bytes v (image.bus i) (device i) (sym image.count i) ++ records_bytes v (named i) chips)
