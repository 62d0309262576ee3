-- The lanes of a well formed file agree on their locks.
use Rattle.std.proofs.Common.{◌≡◌, ◌≢◌, ◌<◌, ◌≤◌, ◌⊎◌, inl, inr, ◌+◌, ◌==◌, ℕ, zero, suc, List, [], ◌∷◌, length, slice_index, slice_index_or, Bool, true, false, nat_le, replicate, refl, sym, ap, subst, ◌∙◌, arith, if◌then◌else◌, None}
use Rattle.std.proofs.lemmas.Bool.{cases_eq, cases_lt}
use Rattle.std.specs.Option.{option_or}
use Rattle.nor_cell.proofs.Logic.{both_pass}
use Rattle.nor_cell.specs.Chip.{ChipState}
use Rattle.nor_cell.specs.Table.{set_of}
use Rattle.nor_bus.specs.Bus.{chip_at}
use Rattle.nor_image.specs.Image.{first_refusal, refusal_of, record_fields, fields_before, record_place, number_fields, table_field, size_field, weak_fields, lock_fields, lock_fields_of, cells_field, weak_count, version_of, machine_of, lanes_of_file, image_refusal, trailing, table_in, lock_count, locks_at, locks_from, locks_of, kept_in, kept_before, is_agreed, is_lock_byte, each_lock, count_field}
use Rattle.nor_image.specs.Reading.{AreChips}
use Rattle.nor_image.specs.Written.{kept_of, bank_set, AgreeOnLocks}
use Rattle.nor_image.specs.declared.header.Version.{Version}
use Rattle.nor_image.specs.declared.header.Version.TheVariants.{One, Two}
use Rattle.nor_image.proofs.Agreeing.{agreed_at, each_lock_right}
use Rattle.nor_image.proofs.LockBits.{lock_there, length-locks_from, kept_in_two, kept_in_one, kept_after, length-kept_before, kept_before_at}
use Rattle.nor_image.proofs.Records.{in_parts}
use Rattle.nor_image.proofs.Refusals.{first_refusal-append, none_both, field_passes}

-- lists of locks that are the same place by place
same_lists : (xs ys : List Bool) → length xs ≡ length ys → ((k : ℕ) → k < length xs → slice_index_or xs k false ≡ slice_index_or ys k false) → xs ≡ ys
same_lists [] [] long each = refl
same_lists [] (y ∷ ys) long each = absurd (omega arith)
same_lists (x ∷ xs) [] long each = absurd (omega arith)
same_lists (x ∷ xs) (y ∷ ys) long each =
    let rest = same_lists xs ys (omega arith) (λ k below. each (suc k) (omega arith)) in
    λ i. each 0 (omega arith) i ∷ rest i

record_none_of : (file : List ℕ) (n c : ℕ) → (c < n → first_refusal file (record_fields file c (record_place file c)) ≡ None) → first_refusal file (record_fields file n (record_place file n)) ≡ None
    → c < suc n → (c ≡ n) ⊎ (c ≢ n) → first_refusal file (record_fields file c (record_place file c)) ≡ None
record_none_of file n c before last below (inl is) = subst (λ (k : ℕ). first_refusal file (record_fields file k (record_place file k)) ≡ None) (sym is) last
record_none_of file n c before last below (inr apart) = before (omega arith)

-- of records of which no field is refused, none is refused in any
record_none : (file : List ℕ) (n c : ℕ) → first_refusal file (fields_before file n) ≡ None → c < n → first_refusal file (record_fields file c (record_place file c)) ≡ None
record_none file zero c none below = absurd (omega arith)
record_none file (suc n) c none below =
    let last = record_fields file n (record_place file n) in
    let parts = none_both (first_refusal file (fields_before file n)) (first_refusal file last) (sym (first_refusal-append file (fields_before file n) last) ∙ none) in
    record_none_of file n c (λ under. record_none file n c parts.0 under) parts.1 below (cases_eq c n)

-- so no field of its locks is
pub locks_none : (file : List ℕ) (c at : ℕ) → first_refusal file (record_fields file c at) ≡ None → first_refusal file (lock_fields file c at) ≡ None
locks_none file c at none =
    let behind_weak = option_or (first_refusal file (lock_fields file c at)) (refusal_of file (cells_field file at)) in
    let behind_size = option_or (first_refusal file (weak_fields file at (weak_count file at))) behind_weak in
    let behind_table = option_or (refusal_of file (size_field file c at)) behind_size in
    let behind_numbers = option_or (refusal_of file (table_field at)) behind_table in
    let numbers = none_both (first_refusal file (number_fields file at)) behind_numbers (sym (in_parts file c at) ∙ none) in
    let table = none_both (refusal_of file (table_field at)) behind_table numbers.1 in
    let size = none_both (refusal_of file (size_field file c at)) behind_size table.1 in
    let weak = none_both (first_refusal file (weak_fields file at (weak_count file at))) behind_weak size.1 in
    (none_both (first_refusal file (lock_fields file c at)) (refusal_of file (cells_field file at)) weak.1).0

-- in version 2 neither the number nor any lock
pub two_none : (file : List ℕ) (c at : ℕ) → version_of file ≡ Two → first_refusal file (lock_fields file c at) ≡ None
    → (refusal_of file (count_field file (locks_at file at) (lock_count file at)) ≡ None)
    × (first_refusal file (each_lock file (kept_before file c) (locks_at file at + 4) (lock_count file at) (lock_count file at)) ≡ None)
unfolding lock_fields
two_none file c at two none =
    none_both (refusal_of file (count_field file (locks_at file at) (lock_count file at)))
    (first_refusal file (each_lock file (kept_before file c) (locks_at file at + 4) (lock_count file at) (lock_count file at)))
    (ap (λ v. first_refusal file (lock_fields_of v file (kept_before file c) (locks_at file at) (lock_count file at))) (sym two) ∙ none)

-- an earlier lane that keeps as many locks keeps the same ones
earlier_agrees : (version : Version) (file : List ℕ) (c d : ℕ) → version_of file ≡ version → first_refusal file (lock_fields file d (record_place file d)) ≡ None → c < d
    → length (kept_in file (record_place file c)) ≡ length (kept_in file (record_place file d)) → kept_in file (record_place file c) ≡ kept_in file (record_place file d)
earlier_agrees One file c d one none before same =
    kept_in_one file (record_place file c) one
    ∙ (ap (λ (n : ℕ). replicate n false) same ∙ sym (kept_in_one file (record_place file d) one))
earlier_agrees Two file c d two none before same =
    let at = record_place file d in
    let count = lock_count file at in
    let first = locks_at file at + 4 in
    let kept = kept_in_two file at two in
    let each = (two_none file d at two none).1 in
    let long : length (kept_in file at) ≡ count = ap (λ (ls : List Bool). length ls) kept ∙ length-locks_from file first count in
    let there = kept_before_at file d c before in
    let many : length (slice_index_or (kept_before file d) c []) ≡ count = ap (λ (ls : List Bool). length ls) there ∙ (same ∙ long) in
    same_lists (kept_in file (record_place file c)) (kept_in file at) same
    (λ k below.
    let inside : k < count = omega arith in
    let byte = slice_index file (first + k) in
    let right = field_passes file (first + k) 1 (is_lock_byte (kept_before file d) count k byte) (each_lock_right file (kept_before file d) first count count k each inside) in
    let agreed = (both_pass (nat_le byte 1) (is_agreed (kept_before file d) count k (byte == 1)) right).1 in
    let lane : c < length (kept_before file d) = (let n = length-kept_before file d in omega arith) in
    sym (ap (λ (ls : List Bool). slice_index_or ls k false) there)
    ∙ (agreed_at (kept_before file d) count k (byte == 1) c agreed lane many
    ∙ (sym (lock_there file first count k inside) ∙ sym (ap (λ (ls : List Bool). slice_index_or ls k false) kept))))

-- two lanes that keep as many
two_agree : (file : List ℕ) (n c d : ℕ) → first_refusal file (fields_before file n) ≡ None → c < n → d < n
    → length (kept_in file (record_place file c)) ≡ length (kept_in file (record_place file d)) → (c < d) ⊎ (d ≤ c) → (c ≡ d) ⊎ (c ≢ d)
    → kept_in file (record_place file c) ≡ kept_in file (record_place file d)
two_agree file n c d none bc bd same (inl before) eq =
    earlier_agrees (version_of file) file c d refl (locks_none file d (record_place file d) (record_none file n d none bd)) before same
two_agree file n c d none bc bd same (inr behind) (inl is) = ap (λ (k : ℕ). kept_in file (record_place file k)) is
two_agree file n c d none bc bd same (inr behind) (inr apart) =
    sym (earlier_agrees (version_of file) file d c refl (locks_none file c (record_place file c) (record_none file n c none bc)) (omega arith) (sym same))

-- what a chip of the file keeps
pub kept_back : (file : List ℕ) (n c : ℕ) (chips : List ChipState) → AreChips file (machine_of file) n chips → c < n
    → kept_of (bank_set chips) (chip_at chips c) ≡ kept_in file (record_place file c)
kept_back file n c chips so below =
    let machine : bank_set chips ≡ machine_of file = ap (λ (s : ChipState). set_of s.part.table) (so.each 0 (omega arith)) in
    let is = so.each c below in
    (λ i. kept_of (machine i) (is i)) ∙ kept_after (machine_of file) (table_in file (record_place file c)) (locks_of file (record_place file c))

-- the chips of a well formed file agree on their locks
pub chips_agree : (file : List ℕ) (n : ℕ) (chips : List ChipState) → AreChips file (machine_of file) n chips → first_refusal file (fields_before file n) ≡ None → AgreeOnLocks chips
chips_agree file n chips so none = λ c d bc bd same.
    let count = so.count in
    let wc : c < n = omega arith in
    let wd : d < n = omega arith in
    let kc = kept_back file n c chips so wc in
    let kd = kept_back file n d chips so wd in
    kc
    ∙ (two_agree file n c d none wc wd (sym (ap (λ (ls : List Bool). length ls) kc) ∙ (same ∙ ap (λ (ls : List Bool). length ls) kd)) (cases_lt c d) (cases_eq c d)
    ∙ sym kd)

pub image_agrees : (file : List ℕ) (chips : List ChipState) → AreChips file (machine_of file) (lanes_of_file file) chips → image_refusal file ≡ None → AgreeOnLocks chips
unfolding image_refusal
image_agrees file chips so formed =
    chips_agree file (lanes_of_file file) chips so
    (none_both (first_refusal file (fields_before file (lanes_of_file file))) (trailing file (record_place file (lanes_of_file file))) formed).0

-- ---- lanes that have the same locks

none_kept : (xs : List Bool) → length xs ≡ 0 → xs ≡ []
none_kept [] none = refl
none_kept (x ∷ xs) none = absurd (omega arith)

same_by : (a b : Bool) (xs ys : List Bool) → xs ≡ ys → length (if a then xs else []) ≡ length (if b then ys else []) → (if a then xs else []) ≡ (if b then ys else [])
same_by true true xs ys is same = is
same_by true false xs ys is same = none_kept xs same
same_by false true xs ys is same = sym (none_kept ys (sym same))
same_by false false xs ys is same = refl
