-- No field of a written record is refused.
use Rattle.std.proofs.Common.{◌≡◌, ◌<◌, ◌≤◌, ℕ, ◌+◌, ◌%◌, zero, suc, List, [], ◌∷◌, length, slice_index, get_or, Bool, true, false, IsTrue, ◌==◌, ◌&&◌, nat_lt, nat_le, if◌then◌else◌, Some, None, refl, ap, ◌∙◌, arith}
use Rattle.std.proofs.lemmas.Bool.Decides.{nat_tests}
use Rattle.std.specs.Int.{from_bool}
use Rattle.std.specs.List.{list_all}
use Rattle.std.proofs.lemmas.Bool.{and_from}
use Rattle.nor_cell.proofs.Logic.{both_pass}
use Rattle.nor_cell.specs.Bits.{unit_len}
use Rattle.nor_cell.specs.Chip.{Part}
use Rattle.nor_cell.specs.Ranges.{is_ascending_below, begin_units}
use Rattle.nor_cell.specs.declared.device.Device.{Device}
use Rattle.nor_io.specs.Fields.{u32_at}
use Rattle.nor_image.specs.Image.{Field, any_field, tested_field, refusal_of, first_refusal, number_fields, table_field, size_field, weak_field, weak_fields, weak_field_at, least_weak, is_weak_place, lock_fields, cells_field, record_fields, is_size_by, weak_count, table_in, size_in, device_of}
use Rattle.nor_image.specs.declared.error.ImageError.TheVariants.{BadHeader}
use Rattle.nor_image.proofs.ReadBack.{SaysKept}
use Rattle.nor_image.proofs.Records.{in_cells}
use Rattle.nor_image.proofs.Refusals.{or_none, goes_on}

-- a field that is whole and right isn't refused
pub right_field : (file : List ℕ) (field : Field) → field.at + field.size ≤ length file → field.bad ≡ None → refusal_of file field ≡ None
right_field file field whole right =
    let enough : nat_lt (length file) (field.at + field.size) ≡ false = grind (arith, nat_tests) in
    rw enough right

pub right_tested : (file : List ℕ) (at size : ℕ) (valid : Bool) → at + size ≤ length file → valid ≡ true → refusal_of file (tested_field at size valid) ≡ None
right_tested file at size valid whole right =
    right_field file (tested_field at size valid) whole (ap (λ (b : Bool). if b then None else Some (BadHeader at)) right)

-- of places that ascend below a bound, each is below the next, and below the bound
next_above : (n : ℕ) (xs : List ℕ) (k : ℕ) → IsTrue (is_ascending_below n xs) → suc k < length xs → get_or xs k 0 < get_or xs (suc k) 0
next_above n [] k h below = absurd (omega arith)
next_above n (x ∷ []) k h below = absurd (omega arith)
next_above n (x ∷ y ∷ ys) zero h below =
    let first : nat_lt x y ≡ true = (both_pass (nat_lt x y) (is_ascending_below n (y ∷ ys)) h).0 in grind (arith, nat_tests)
next_above n (x ∷ y ∷ ys) (suc k) h below = next_above n (y ∷ ys) k (both_pass (nat_lt x y) (is_ascending_below n (y ∷ ys)) h).1 (omega arith)

pub all_below : (n : ℕ) (xs : List ℕ) (k : ℕ) → IsTrue (is_ascending_below n xs) → k < length xs → get_or xs k 0 < n
all_below n [] k h below = absurd (omega arith)
all_below n (x ∷ []) zero h below = (let first : nat_lt x n ≡ true = h in grind (arith, nat_tests))
all_below n (x ∷ []) (suc k) h below = absurd (omega arith)
all_below n (x ∷ y ∷ ys) zero h below =
    let first : nat_lt x y ≡ true = (both_pass (nat_lt x y) (is_ascending_below n (y ∷ ys)) h).0 in
    let later = all_below n (y ∷ ys) 0 (both_pass (nat_lt x y) (is_ascending_below n (y ∷ ys)) h).1 (omega arith) in
    let less : x < y = grind (arith, nat_tests) in
    omega arith
all_below n (x ∷ y ∷ ys) (suc k) h below = all_below n (y ∷ ys) k (both_pass (nat_lt x y) (is_ascending_below n (y ∷ ys)) h).1 (omega arith)

-- what passes for all places passes for each
each_passes : (p : ℕ → Bool) (xs : List ℕ) (k : ℕ) → list_all p xs ≡ true → k < length xs → p (get_or xs k 0) ≡ true
each_passes p [] k h below = absurd (omega arith)
each_passes p (x ∷ xs) zero h below = (both_pass (p x) (list_all p xs) h).0
each_passes p (x ∷ xs) (suc k) h below = each_passes p xs k (both_pass (p x) (list_all p xs) h).1 (omega arith)

-- a place that ascends, begins a unit and lies below the size
place_right : (device : Device) (size least place : ℕ) → least ≤ place → (place % unit_len device == 0) ≡ true → place < size → is_weak_place device size least place ≡ true
place_right device size least place above begins below =
    let first : nat_le least place ≡ true = grind (arith, nat_tests) in
    let last : nat_lt place size ≡ true = grind (arith, nat_tests) in
    and_from (nat_le least place && place % unit_len device == 0) (nat_lt place size) (and_from (nat_le least place) (place % unit_len device == 0) first begins) last

-- the least that place k may be
least_right : (file : List ℕ) (at size k : ℕ) (places : List ℕ) → ((j : ℕ) → j < length places → u32_at file (weak_field_at at j) ≡ get_or places j 0)
    → IsTrue (is_ascending_below size places) → k < length places → least_weak file at k ≤ get_or places k 0
least_right file at size zero places read ascending below = omega arith
least_right file at size (suc k) places read ascending below =
    let before = read k (omega arith) in
    let above = next_above size places k ascending below in
    omega arith

weak_right : (file : List ℕ) (at : ℕ) (device : Device) (part : Part) (locks : List Bool) (cells : List ℕ) (suspends erases : ℕ) → SaysKept file at part locks cells suspends erases
    → device_of file ≡ device → IsTrue (is_ascending_below (length cells) part.weak) → IsTrue (begin_units device part.weak)
    → (k : ℕ) → k < length part.weak → refusal_of file (weak_field file at k) ≡ None
weak_right file at device part locks cells suspends erases says device_is ascending whole k below =
    let place = says.places k below in
    let fits : is_weak_place device (length cells) (least_weak file at k) (get_or part.weak k 0) ≡ true =
    place_right device (length cells) (least_weak file at k) (get_or part.weak k 0)
    (least_right file at (length cells) k part.weak says.places ascending below)
    (each_passes (λ p. p % unit_len device == 0) part.weak k whole below)
    (all_below (length cells) part.weak k ascending below) in
    let same : is_weak_place (device_of file) (size_in file at) (least_weak file at k) (u32_at file (weak_field_at at k)) ≡ true =
    (λ i. is_weak_place (device_is i) (says.size i) (least_weak file at k) (place i)) ∙ fits in
    let count = says.count in
    let end = says.whole in
    right_tested file (weak_field_at at k) 4 (is_weak_place (device_of file) (size_in file at) (least_weak file at k) (u32_at file (weak_field_at at k))) (omega arith) same

all_weak_right : (file : List ℕ) (at n k : ℕ) → ((j : ℕ) → j < n → refusal_of file (weak_field file at j) ≡ None) → k ≤ n → first_refusal file (weak_fields file at k) ≡ None
all_weak_right file at n zero right few = refl
all_weak_right file at n (suc k) right few =
    goes_on file (weak_fields file at k) (weak_field file at k ∷ []) (all_weak_right file at n k right (omega arith)) ∙ or_none (refusal_of file (weak_field file at k)) None (right k (omega arith))

-- a byte that says yes or no
pub bit_right : (b : Bool) → nat_le (from_bool b) 1 ≡ true
bit_right true = refl
bit_right false = refl

numbers_right : (file : List ℕ) (at : ℕ) (part : Part) (locks : List Bool) (cells : List ℕ) (suspends erases : ℕ) → SaysKept file at part locks cells suspends erases
    → part.pace_suspend ≤ 16 → length part.weak ≤ 256 → first_refusal file (number_fields file at) ≡ None
numbers_right file at part locks cells suspends erases says pace few =
    let end = says.whole in
    let pace_is : nat_le (slice_index file (at + 8)) 16 ≡ true = (let same = says.pace_suspend in grind (arith, nat_tests)) in
    let stuck_is : nat_le (slice_index file (at + 9)) 1 ≡ true = ap (λ n. nat_le n 1) says.stuck ∙ bit_right part.stuck in
    let count_is : nat_le (weak_count file at) 256 ≡ true = (let same = says.count in grind (arith, nat_tests)) in
    or_none _ _ (right_field file (any_field at 4) (omega arith) refl)
    ∙ (or_none _ _ (right_field file (any_field (at + 4) 4) (omega arith) refl)
    ∙ (or_none _ _ (right_tested file (at + 8) 1 (nat_le (slice_index file (at + 8)) 16) (omega arith) pace_is)
    ∙ (or_none _ _ (right_tested file (at + 9) 1 (nat_le (slice_index file (at + 9)) 1) (omega arith) stuck_is)
    ∙ (or_none _ _ (right_tested file (at + 10) 2 (nat_le (weak_count file at) 256) (omega arith) count_is)
    ∙ (or_none _ _ (right_field file (any_field (at + 12) 4) (omega arith) refl)
    ∙ or_none _ _ (right_field file (any_field (at + 16) 4) (omega arith) refl))))))

size_right : (file : List ℕ) (c at : ℕ) → at + 536 ≤ length file → is_size_by (table_in file at) (size_in file at) ≡ true → size_in file at ≡ size_in file 12
    → refusal_of file (size_field file c at) ≡ None
size_right file c at whole fits same =
    right_field file (size_field file c at) (omega arith) (rw fits (let equal : (size_in file at == size_in file 12) ≡ true = grind (arith, nat_tests) in rw equal refl))

-- no field of a written record is refused
pub record_right : (file : List ℕ) (c at : ℕ) (device : Device) (part : Part) (locks : List Bool) (cells : List ℕ) (suspends erases : ℕ)
    → SaysKept file at part locks cells suspends erases
    → device_of file ≡ device → part.pace_suspend ≤ 16 → length part.weak ≤ 256
    → IsTrue (is_ascending_below (length cells) part.weak) → IsTrue (begin_units device part.weak)
    → IsTrue (is_size_by part.table (length cells)) → length cells ≡ size_in file 12
    → first_refusal file (lock_fields file c at) ≡ None
    → first_refusal file (record_fields file c at) ≡ None
record_right file c at device part locks cells suspends erases says device_is pace few ascending whole fits same locks_right =
    let end = says.whole in
    let weak = all_weak_right file at (length part.weak) (weak_count file at) (weak_right file at device part locks cells suspends erases says device_is ascending whole) (let count = says.count in omega arith) in
    in_cells file c at
    (numbers_right file at part locks cells suspends erases says pace few)
    (right_field file (table_field at) (omega arith) refl)
    (size_right file c at (omega arith) ((λ i. is_size_by (says.table i) (says.size i)) ∙ fits) (says.size ∙ same))
    weak locks_right
    ∙ right_field file (cells_field file at) end refl
