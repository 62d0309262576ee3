-- The file of a bank stands for that bank, just powered on.
use Rattle.std.proofs.Common.{◌≡◌, ◌<◌, ◌≤◌, ℕ, ◌+◌, ◌^◌, zero, suc, List, [], ◌∷◌, ◌++◌, length, take, slice_index, slice_index_or, get_or, Bool, true, false, IsTrue, ◌==◌, nat_le, refl, sym, ap, subst, ◌∙◌, arith, add-one, if◌then◌else◌, None}
use Rattle.std.proofs.lemmas.Bool.Decides.{nat_tests}
use Rattle.std.proofs.lemmas.List.{length-append, length-map, get_or-map, get_or_default, take_all}
use Rattle.std.specs.Int.{from_bool}
use Rattle.std.proofs.lemmas.Bool.{and_from}
use Rattle.nor_cell.specs.Chip.{ChipState, Part}
use Rattle.nor_cell.specs.Power.{powered, locks_after}
use Rattle.nor_cell.specs.Table.{has_locks, set_of}
use Rattle.nor_cell.specs.Wiring.{is_wiring}
use Rattle.nor_cell.specs.declared.device.Device.{Device}
use Rattle.nor_cell.specs.declared.device.Device.TheVariants.{X8, X16, X16Byte}
use Rattle.nor_cell.specs.declared.device.Set.{Set}
use Rattle.nor_cell.specs.declared.device.Span.{Span}
use Rattle.nor_bus.specs.Bus.{IsBank, chip_at, no_chip}
use Rattle.nor_io.specs.Fields.{u32_at}
use Rattle.nor_query.specs.Derived.{keeps_locks, table_blocks}
use Rattle.nor_image.specs.Image.{magic_field, first_refusal, header_fields, fields_before, record_fields, lock_fields, lock_fields_of, record_place, image_refusal, is_width, version_of, width_of, device_of, device_of_code, lanes_of_file, machine_of, table_in, size_in, weak_in, cells_at, bytes_at, kept_locks, stored_count, locks_len, lock_count, locks_at, locks_from, locks_of, kept_in, kept_before, is_agreed, is_lock_byte, chip_in, part_in}
use Rattle.nor_image.specs.Written.{code_of_device, header_bytes, kept_of, record_bytes, records_bytes, bank_set, AreStorable, AgreeOnLocks, Stores}
use Rattle.nor_image.specs.declared.header.Version.{Version}
use Rattle.nor_image.specs.declared.header.Version.TheVariants.{Two}
use Rattle.nor_image.specs.Writing.{HasFields}
use Rattle.nor_image.proofs.Putting.{records-take_more}
use Rattle.nor_image.proofs.ReadBack.{FitsFields, SaysKept, kept_says, table_says, bit_back}
use Rattle.nor_image.proofs.Refusals.{or_none, goes_on, ends}
use Rattle.nor_image.proofs.Accepting.{right_field, right_tested, record_right, bit_right, all_below}
use Rattle.nor_image.proofs.Agreeing.{all_agreed, all_locks_right}
use Rattle.nor_image.proofs.BlockCounts.{few_blocks}
use Rattle.nor_image.proofs.LockBits.{lock_count_is, length-locks_of, kept_in_two, kept_few, same_after, length-kept_before, kept_before_at}
use Rattle.nor_image.proofs.Standing.{Stand, stand_at, stand_behind, stand_first, stand_second}

-- ---- what each record says

-- of records that stand one behind the other, each stands behind those before it
record_stands : (file : List ℕ) (at : ℕ) (set : Set) (chips : List ChipState) (c : ℕ) → Stand file at (records_bytes Two set chips) → c < length chips
    → Stand file (at + length (records_bytes Two set (take c chips))) (record_bytes Two set (chip_at chips c))
record_stands file at set [] c stand below = absurd (omega arith)
record_stands file at set (chip ∷ chips) zero stand below = stand_at (at + 0) (stand_first (record_bytes Two set chip) (records_bytes Two set chips) stand) (omega arith)
record_stands file at set (chip ∷ chips) (suc c) stand below =
    let later = record_stands file (at + length (record_bytes Two set chip)) set chips c (stand_second (record_bytes Two set chip) (records_bytes Two set chips) stand) (omega arith) in
    let long = length-append (record_bytes Two set chip) (records_bytes Two set (take c chips)) in
    stand_at (at + length (record_bytes Two set chip ++ records_bytes Two set (take c chips))) later (omega arith)

-- what a chip keeps fits the fields
fits_fields : (chip : ChipState) → length chip.cells ≤ 2 ^ 27 → HasFields chip → FitsFields chip.part chip.cells chip.suspends chip.erases
fits_fields chip small has =
    let few = has.ranges.few_weak in
    record {
      pace_program = has.numbers.pace_program;
      pace_erase = has.numbers.pace_erase;
      few_weak = omega arith;
      weak = λ k d below.
          let same = get_or_default chip.part.weak k d 0 below in
          let less = all_below (length chip.cells) chip.part.weak k has.ranges.weak below in
          omega arith;
      suspends_fit = has.numbers.suspends_fit;
      erases_fit = has.numbers.erases_fit;
      table = has.ranges.table_size;
      size = omega arith;
    }

-- A bank of these chips, whose file this is.
pub record IsFileOf (file : List ℕ) (width : ℕ) (device : Device) (chips : List ChipState) : Type 0 where
  pub spelled : file ≡ header_bytes Two width device (length chips) ++ records_bytes Two (bank_set chips) chips
  pub bank : IsBank width device chips
  pub small : length (chip_at chips 0).cells ≤ 2 ^ 27
  pub chips_have : (c : ℕ) → c < length chips → HasFields (chip_at chips c)

-- the records stand behind the header
records_stand : (file : List ℕ) (width : ℕ) (device : Device) (chips : List ChipState) → IsFileOf file width device chips → Stand file 12 (records_bytes Two (bank_set chips) chips)
records_stand file width device chips is =
    subst (λ (f : List ℕ). Stand f 12 (records_bytes Two (bank_set chips) chips)) (sym is.spelled)
    (stand_behind (header_bytes Two width device (length chips)) (records_bytes Two (bank_set chips) chips))

-- it is of version 2
begins : (width : ℕ) (device : Device) (lanes : ℕ) (rest : List ℕ) → version_of (header_bytes Two width device lanes ++ rest) ≡ Two
begins width device lanes rest = refl

is_two : (file : List ℕ) (width : ℕ) (device : Device) (chips : List ChipState) → IsFileOf file width device chips → version_of file ≡ Two
is_two file width device chips is = ap version_of is.spelled ∙ begins width device (length chips) (records_bytes Two (bank_set chips) chips)

-- and its machine is the one that lane 0's table names
machine_is : (file : List ℕ) (width : ℕ) (device : Device) (chips : List ChipState) → IsFileOf file width device chips → 0 < length chips → machine_of file ≡ bank_set chips
machine_is file width device chips is some =
    let chip = chip_at chips 0 in
    let has = is.chips_have 0 some in
    let stand = stand_at 12 (record_stands file 12 (bank_set chips) chips 0 (records_stand file width device chips is) some) (omega arith) in
    ap set_of (table_says file 12 Two chip.part (kept_of (bank_set chips) chip) chip.cells chip.suspends chip.erases has.ranges.table_size stand)

-- a chip that a file can store stores the locks that it keeps
counted_by : (keeps : Bool) (n : ℕ) (locks : List Bool) → length locks ≡ n → (if keeps then n else 0) ≡ length (if keeps then locks else [])
counted_by true n locks long = sym long
counted_by false n locks long = refl

counted : (set : Set) (chip : ChipState) → chip.part.blocks ≡ table_blocks chip.part.table → length chip.locks ≡ length chip.part.blocks
    → stored_count Two set chip.part.table ≡ length (kept_of set chip)
counted set chip blocks locks =
    counted_by (keeps_locks set (has_locks chip.part.table)) (length (table_blocks chip.part.table)) chip.locks (locks ∙ ap (λ (xs : List Span). length xs) blocks)

-- which are few
few_kept : (set : Set) (chip : ChipState) → chip.part.blocks ≡ table_blocks chip.part.table → HasFields chip → length (kept_of set chip) < 2 ^ 32
few_kept set chip blocks has =
    let few = kept_few set chip.part.table chip.locks in
    let locks = has.ranges.locks in
    let each = ap (λ (xs : List Span). length xs) blocks in
    let most = few_blocks chip.part.table has.ranges.table_bytes in
    omega arith

-- what a record says whose place is known
says_there : (file : List ℕ) (width : ℕ) (device : Device) (chips : List ChipState) (c : ℕ) → IsFileOf file width device chips → AreStorable chips → c < length chips
    → record_place file c ≡ 12 + length (records_bytes Two (bank_set chips) (take c chips))
    → SaysKept file (record_place file c) (chip_at chips c).part (kept_of (bank_set chips) (chip_at chips c)) (chip_at chips c).cells (chip_at chips c).suspends (chip_at chips c).erases
says_there file width device chips c is storable below place =
    let chip = chip_at chips c in
    let set = bank_set chips in
    let at = record_place file c in
    let has = is.chips_have c below in
    let same = is.bank.sizes c below in
    let small = is.small in
    let stand = stand_at at (record_stands file 12 set chips c (records_stand file width device chips is) below) (sym place) in
    let two = is_two file width device chips is in
    let machine = machine_is file width device chips is (omega arith) in
    let table = table_says file at Two chip.part (kept_of set chip) chip.cells chip.suspends chip.erases has.ranges.table_size stand in
    let count : lock_count file at ≡ length (kept_of set chip) =
    lock_count_is file at ∙ ((λ i. stored_count (two i) (machine i) (table i)) ∙ counted set chip (storable.blocks c below) has.ranges.locks) in
    kept_says file at chip.part (kept_of set chip) chip.cells chip.suspends chip.erases (fits_fields chip (omega arith) has) two count (few_kept set chip (storable.blocks c below) has) stand

-- where each record begins
place_is : (file : List ℕ) (width : ℕ) (device : Device) (chips : List ChipState) (c : ℕ) → IsFileOf file width device chips → AreStorable chips → c ≤ length chips
    → record_place file c ≡ 12 + length (records_bytes Two (bank_set chips) (take c chips))
place_is file width device chips zero is storable few = refl
place_is file width device chips (suc c) is storable few =
    let set = bank_set chips in
    let before = place_is file width device chips c is storable (omega arith) in
    let long = (says_there file width device chips c is storable (omega arith) before).long in
    let more = ap length (records-take_more Two set chips c (omega arith)) ∙ length-append (records_bytes Two set (take c chips)) (record_bytes Two set (chip_at chips c)) in
    let next : length (records_bytes Two set (take (suc c) chips)) ≡ length (records_bytes Two set (take (c + 1) chips)) = ap (λ n. length (records_bytes Two set (take n chips))) (sym (add-one c)) in
    long ∙ omega arith

-- what each record says
pub says_kept : (file : List ℕ) (width : ℕ) (device : Device) (chips : List ChipState) (c : ℕ) → IsFileOf file width device chips → AreStorable chips → c < length chips
    → SaysKept file (record_place file c) (chip_at chips c).part (kept_of (bank_set chips) (chip_at chips c)) (chip_at chips c).cells (chip_at chips c).suspends (chip_at chips c).erases
says_kept file width device chips c is storable below = says_there file width device chips c is storable below (place_is file width device chips c is storable (omega arith))

-- how many locks it stores, and which its chip keeps
count_there : (file : List ℕ) (width : ℕ) (device : Device) (chips : List ChipState) (c : ℕ) → IsFileOf file width device chips → AreStorable chips → c < length chips
    → lock_count file (record_place file c) ≡ length (kept_of (bank_set chips) (chip_at chips c))
count_there file width device chips c is storable below =
    let chip = chip_at chips c in
    let says = says_kept file width device chips c is storable below in
    let two = is_two file width device chips is in
    let machine = machine_is file width device chips is (omega arith) in
    lock_count_is file (record_place file c)
    ∙ ((λ i. stored_count (two i) (machine i) (says.table i)) ∙ counted (bank_set chips) chip (storable.blocks c below) (is.chips_have c below).ranges.locks)

kept_there : (file : List ℕ) (width : ℕ) (device : Device) (chips : List ChipState) (c : ℕ) → IsFileOf file width device chips → AreStorable chips → c < length chips
    → kept_in file (record_place file c) ≡ kept_of (bank_set chips) (chip_at chips c)
kept_there file width device chips c is storable below =
    let at = record_place file c in
    kept_in_two file at (is_two file width device chips is)
    ∙ (ap (λ (n : ℕ). locks_from file (locks_at file at + 4) n) (count_there file width device chips c is storable below)
    ∙ (says_kept file width device chips c is storable below).locks_are)

-- ---- what the header says

device_back : (device : Device) → device_of_code (code_of_device device) ≡ device
device_back X8 = refl
device_back X16 = refl
device_back X16Byte = refl

code_is_few : (device : Device) → nat_le (code_of_device device) 2 ≡ true
code_is_few X8 = refl
code_is_few X16 = refl
code_is_few X16Byte = refl

-- the width of a wiring is that of a bus word
width_right : (width n : ℕ) (device : Device) → IsTrue (is_wiring width n device) → is_width width ≡ true
width_right width n X8 h = grind (arith, nat_tests)
width_right width n X16 h = grind (arith, nat_tests)
width_right width n X16Byte h = grind (arith, nat_tests)

-- of a file that begins with this header no field of the header is refused
header_right : (width : ℕ) (device : Device) (lanes : ℕ) (rest : List ℕ) → IsTrue (is_wiring width lanes device)
    → first_refusal (header_bytes Two width device lanes ++ rest) (header_fields (header_bytes Two width device lanes ++ rest)) ≡ None
header_right width device lanes rest wired =
    let file = header_bytes Two width device lanes ++ rest in
    let long : 12 ≤ length file = (let all = length-append (header_bytes Two width device lanes) rest in let head : length (header_bytes Two width device lanes) ≡ 12 = refl in omega arith) in
    let wiring : is_wiring width lanes (device_of_code (code_of_device device)) ≡ true = ap (is_wiring width lanes) (device_back device) ∙ wired in
    or_none _ _ (right_field file (magic_field file) (omega arith) refl)
    ∙ (or_none _ _ (right_tested file 8 1 (is_width width) (omega arith) (width_right width lanes device wired))
    ∙ (or_none _ _ (right_tested file 9 1 (nat_le (code_of_device device) 2) (omega arith) (code_is_few device))
    ∙ (or_none _ _ (right_tested file 10 1 (is_wiring width lanes (device_of_code (code_of_device device))) (omega arith) wiring)
    ∙ or_none _ _ (right_tested file 11 1 true (omega arith) refl))))

-- What the header says.
pub record SaysHeader (file : List ℕ) (width : ℕ) (device : Device) (lanes : ℕ) : Type 0 where
  pub right : first_refusal file (header_fields file) ≡ None
  pub width_is : width_of file ≡ width
  pub device_is : device_of file ≡ device
  pub lanes_are : lanes_of_file file ≡ lanes

says_header : (file : List ℕ) (width : ℕ) (device : Device) (chips : List ChipState) → IsFileOf file width device chips → SaysHeader file width device (length chips)
says_header file width device chips is =
    let records = records_bytes Two (bank_set chips) chips in
    subst (λ (f : List ℕ). SaysHeader f width device (length chips)) (sym is.spelled)
    (record {
      right = header_right width device (length chips) records is.bank.wiring;
      width_is = refl;
      device_is = device_back device;
      lanes_are = refl;
    })

-- ---- nothing is refused

lock_fields_in : (version : Version) (file : List ℕ) (c at : ℕ) → version_of file ≡ version → lock_fields file c at ≡ lock_fields_of version file (kept_before file c) (locks_at file at) (lock_count file at)
unfolding lock_fields
lock_fields_in version file c at is = ap (λ v. lock_fields_of v file (kept_before file c) (locks_at file at) (lock_count file at)) is

-- a lock byte is that of each lane before that keeps as many
lock_agrees : (file : List ℕ) (width : ℕ) (device : Device) (chips : List ChipState) (c k : ℕ) → IsFileOf file width device chips → AreStorable chips → AgreeOnLocks chips → c < length chips
    → k < lock_count file (record_place file c)
    → is_lock_byte (kept_before file c) (lock_count file (record_place file c)) k (slice_index file (locks_at file (record_place file c) + 4 + k)) ≡ true
lock_agrees file width device chips c k is storable agree below inside =
    let at = record_place file c in
    let set = bank_set chips in
    let kept = kept_of set (chip_at chips c) in
    let byte = slice_index file (locks_at file at + 4 + k) in
    let count = count_there file width device chips c is storable below in
    let says : byte ≡ from_bool (get_or kept k false) = (says_kept file width device chips c is storable below).lock k (omega arith) in
    let locked : (byte == 1) ≡ get_or kept k false = ap (λ n. n == 1) says ∙ bit_back (get_or kept k false) in
    let earlier : (d : ℕ) → d < length (kept_before file c) → length (slice_index_or (kept_before file c) d []) ≡ lock_count file at
    → slice_index_or (slice_index_or (kept_before file c) d []) k false ≡ (byte == 1) =
    λ d before same.
    let less : d < c = (let long = length-kept_before file c in omega arith) in
    let there : slice_index_or (kept_before file c) d [] ≡ kept_of set (chip_at chips d) = kept_before_at file c d less ∙ kept_there file width device chips d is storable (omega arith) in
    let as_many : length (kept_of set (chip_at chips d)) ≡ length kept = sym (ap (λ (ls : List Bool). length ls) there) ∙ (same ∙ count) in
    ap (λ (ls : List Bool). slice_index_or ls k false) (there ∙ agree d c (omega arith) below as_many) ∙ sym locked in
    and_from (nat_le byte 1) (is_agreed (kept_before file c) (lock_count file at) k (byte == 1))
    (ap (λ n. nat_le n 1) says ∙ bit_right (get_or kept k false))
    (all_agreed (kept_before file c) (lock_count file at) k (byte == 1) earlier)

-- no field of the locks is refused
locks_right : (file : List ℕ) (width : ℕ) (device : Device) (chips : List ChipState) (c : ℕ) → IsFileOf file width device chips → AreStorable chips → AgreeOnLocks chips → c < length chips
    → first_refusal file (lock_fields file c (record_place file c)) ≡ None
locks_right file width device chips c is storable agree below =
    let at = record_place file c in
    let says = says_kept file width device chips c is storable below in
    let count = count_there file width device chips c is storable below in
    let end : locks_at file at + (4 + lock_count file at) ≤ length file =
    (let whole = says.whole in let two = ap (λ v. locks_len v (lock_count file at)) (is_two file width device chips is) in omega arith) in
    let number : (u32_at file (locks_at file at) == lock_count file at) ≡ true = (let same = says.lock_number ∙ sym count in grind (arith, nat_tests)) in
    ap (first_refusal file) (lock_fields_in Two file c at (is_two file width device chips is))
    ∙ (or_none _ _ (right_tested file (locks_at file at) 4 (u32_at file (locks_at file at) == lock_count file at) (omega arith) number)
    ∙ all_locks_right file (kept_before file c) (locks_at file at + 4) (lock_count file at) (lock_count file at)
    (λ k inside. right_tested file (locks_at file at + 4 + k) 1
    (is_lock_byte (kept_before file c) (lock_count file at) k (slice_index file (locks_at file at + 4 + k))) (omega arith)
    (lock_agrees file width device chips c k is storable agree below inside)))

fields_right : (file : List ℕ) (width : ℕ) (device : Device) (chips : List ChipState) (n : ℕ) → IsFileOf file width device chips → AreStorable chips → AgreeOnLocks chips → 0 < length chips
    → n ≤ length chips → first_refusal file (fields_before file n) ≡ None
fields_right file width device chips zero is storable agree some few = (says_header file width device chips is).right
fields_right file width device chips (suc n) is storable agree some few =
    let chip = chip_at chips n in
    let below : n < length chips = omega arith in
    let has = is.chips_have n below in
    let first = (says_kept file width device chips 0 is storable some).size in
    let same = is.bank.sizes n below in
    let device_same : device_of file ≡ chip.part.device = (says_header file width device chips is).device_is ∙ sym (is.bank.devices n below) in
    goes_on file (fields_before file n) (record_fields file n (record_place file n)) (fields_right file width device chips n is storable agree some (omega arith))
    ∙ record_right file n (record_place file n) chip.part.device chip.part (kept_of (bank_set chips) chip) chip.cells chip.suspends chip.erases (says_kept file width device chips n is storable below)
    device_same has.ranges.pace has.ranges.few_weak has.ranges.weak has.ranges.weak_units (storable.sizes n below) (same ∙ sym first)
    (locks_right file width device chips n is storable agree below)

nothing_refused : (file : List ℕ) (width : ℕ) (device : Device) (chips : List ChipState) → IsFileOf file width device chips → AreStorable chips → AgreeOnLocks chips → 0 < length chips
    → image_refusal file ≡ None
unfolding image_refusal
nothing_refused file width device chips is storable agree some =
    let set = bank_set chips in
    let lanes = (says_header file width device chips is).lanes_are in
    let right : first_refusal file (fields_before file (lanes_of_file file)) ≡ None =
    ap (λ n. first_refusal file (fields_before file n)) lanes ∙ fields_right file width device chips (length chips) is storable agree some (omega arith) in
    let all : records_bytes Two set (take (length chips) chips) ≡ records_bytes Two set chips = ap (records_bytes Two set) (take_all (length chips) chips (omega arith)) in
    let last : record_place file (lanes_of_file file) ≡ 12 + length (records_bytes Two set chips) =
    ap (record_place file) lanes ∙ (place_is file width device chips (length chips) is storable (omega arith) ∙ ap (λ bytes. 12 + length bytes) all) in
    let long : length file ≡ 12 + length (records_bytes Two set chips) = ap length is.spelled ∙ length-append (header_bytes Two width device (length chips)) (records_bytes Two set chips) in
    or_none _ _ right ∙ ends file (record_place file (lanes_of_file file)) (omega arith)

-- ---- and the chips are those of the bank

-- just powered on, a chip is what it keeps without power
same_powered : (s t : ChipState) → s.part ≡ t.part → s.cells ≡ t.cells → length s.locks ≡ length t.locks
    → kept_of t.part.set (record s { part = t.part }) ≡ kept_of t.part.set t → s.suspends ≡ t.suspends → s.erases ≡ t.erases → powered s ≡ powered t
same_powered s t part cells locks kept suspends erases =
    let after : locks_after s.part.set s.part.table s.locks ≡ locks_after t.part.set t.part.table t.locks =
    ap (λ (p : Part). locks_after p.set p.table s.locks) part ∙ same_after t.part.set t.part.table s.locks t.locks locks kept in
    λ i. record no_chip { part = part i; cells = cells i; locks = after i; suspends = suspends i; erases = erases i }

-- what a record says is what a chip of the machine and the device of all is
part_back : (file : List ℕ) (set : Set) (device : Device) (at : ℕ) (chip : ChipState) (locks : List Bool) → SaysKept file at chip.part locks chip.cells chip.suspends chip.erases
    → chip.part.set ≡ set → chip.part.device ≡ device → chip.part.blocks ≡ table_blocks chip.part.table → chip.part ≡ part_in file set device at
part_back file set device at chip locks says set_is device_is blocks =
    let weak = ap (weak_in file at) says.count ∙ says.weak in
    let stuck = ap (λ n. n == 1) says.stuck ∙ bit_back chip.part.stuck in
    let blocks_are = blocks ∙ ap table_blocks (sym says.table) in
    λ i. record {
      set = set_is i;
      device = device_is i;
      table = sym says.table i;
      blocks = blocks_are i;
      weak = sym weak i;
      stuck = sym stuck i;
      pace_program = sym says.pace_program i;
      pace_erase = sym says.pace_erase i;
      pace_suspend = sym says.pace_suspend i;
    }

chip_back : (file : List ℕ) (device : Device) (at : ℕ) (chip : ChipState) (locks : List Bool) → SaysKept file at chip.part locks chip.cells chip.suspends chip.erases
    → chip.part.set ≡ machine_of file → chip.part.device ≡ device → chip.part.blocks ≡ table_blocks chip.part.table → length chip.locks ≡ length chip.part.blocks
    → kept_of (machine_of file) chip ≡ kept_in file at → powered chip ≡ chip_in file (machine_of file) device at
chip_back file device at chip locks says set_is device_is blocks each kept =
    let set = machine_of file in
    let part = part_back file set device at chip locks says set_is device_is blocks in
    let few : length chip.locks ≡ length (locks_of file at) =
    each ∙ (ap (λ (xs : List Span). length xs) (ap (λ (p : Part). p.blocks) part) ∙ sym (length-locks_of file at)) in
    let keeps : kept_locks set (table_in file at) chip.locks ≡ kept_in file at = ap (λ (table : List ℕ). kept_locks set table chip.locks) says.table ∙ kept in
    same_powered chip (record no_chip {
      part = part_in file set device at;
      cells = bytes_at file (cells_at file at) (size_in file at);
      locks = locks_of file at;
      suspends = u32_at file (at + 12);
      erases = u32_at file (at + 16);
    }) part (sym says.cells_are) few keeps (sym says.suspends_are) (sym says.erases_are)

-- The file of a bank that a file can store stands for that bank, just powered on.
pub file_stands : (file : List ℕ) (width : ℕ) (device : Device) (chips : List ChipState) → IsFileOf file width device chips → 0 < length chips → Stores file width chips
file_stands file width device chips is some can =
    let storable = can.storable in
    let agree = can.agree in
    let header = says_header file width device chips is in
    let count = length-map chips powered in
    let machine = machine_is file width device chips is some in
    record {
      well_formed = nothing_refused file width device chips is storable agree some;
      bus = header.width_is;
      count = count ∙ sym header.lanes_are;
      each = λ c below.
          let within : c < length chips = omega arith in
          let has = is.chips_have c within in
          let chip = chip_at chips c in
          get_or-map powered chips c no_chip no_chip within
          ∙ (chip_back file chip.part.device (record_place file c) chip (kept_of (bank_set chips) chip) (says_kept file width device chips c is storable within)
          (storable.machine c within ∙ sym machine) refl (storable.blocks c within) has.ranges.locks
          (ap (λ (set : Set). kept_of set chip) machine ∙ sym (kept_there file width device chips c is storable within))
          ∙ ap (λ (d : Device). chip_in file (machine_of file) d (record_place file c)) (is.bank.devices c within ∙ sym header.device_is));
    }
