-- The locks that a record stores, and those that its chip keeps.
use Rattle.std.proofs.Common.{◌≡◌, ◌≢◌, ◌<◌, ◌≤◌, ◌⊎◌, inl, inr, ◌+◌, ◌^◌, ◌==◌, ◌||◌, ℕ, zero, suc, List, [], ◌∷◌, ◌++◌, length, slice_index, Bool, true, false, replicate, refl, sym, ap, ◌∙◌, arith, if◌then◌else◌}
use Rattle.std.specs.Prelude.{slice_index_or}
use Rattle.std.proofs.Math.ListN.{get_or-append}
use Rattle.std.proofs.Math.Seq.{get_or-append_seam}
use Rattle.std.proofs.lemmas.Bool.{cases_eq}
use Rattle.std.proofs.lemmas.Bool.Decides.{nat_tests}
use Rattle.std.proofs.lemmas.List.{length-append, length-replicate}
use Rattle.nor_cell.specs.Cells.{given_or_open}
use Rattle.nor_cell.specs.Power.{locks_after}
use Rattle.nor_cell.specs.Ranges.{is_chip_size, is_none_or_each}
use Rattle.nor_cell.specs.Table.{has_locks}
use Rattle.nor_cell.specs.declared.device.Set.{Set}
use Rattle.nor_cell.specs.declared.device.Span.{Span}
use Rattle.nor_bus.proofs.Sizes.{chip_size}
use Rattle.nor_cell.specs.declared.device.Set.TheVariants.{Intel, Amd}
use Rattle.nor_query.specs.Derived.{keeps_locks, table_blocks}
use Rattle.nor_image.specs.Image.{version_of, machine_of, table_in, kept_locks, stored_count, locks_len, lock_count, locks_at, locks_from, locks_of, lock_fields, lock_fields_of, kept_in, kept_before, record_place}
use Rattle.nor_image.specs.declared.header.Version.{Version}
use Rattle.nor_image.specs.declared.header.Version.TheVariants.{One, Two}

-- ---- locks that stand one behind the other

pub length-locks_from : (file : List ℕ) (at n : ℕ) → length (locks_from file at n) ≡ n
length-locks_from file at zero = refl
length-locks_from file at (suc n) =
    length-append (locks_from file at n) ((slice_index file (at + n) == 1) ∷ []) ∙ (let before = length-locks_from file at n in omega arith)

-- element k of a list that has one more
at_snoc : {A : Type 0} (xs : List A) (x d : A) (n k : ℕ) (value : A) → length xs ≡ n → k < suc n → (k < n → slice_index_or xs k d ≡ value) → (k ≡ n → x ≡ value)
    → (k ≡ n) ⊎ (k ≢ n) → slice_index_or (xs ++ x ∷ []) k d ≡ value
at_snoc xs x d n k value long below before here (inl is) =
    ap (λ (j : ℕ). slice_index_or (xs ++ x ∷ []) j d) (is ∙ sym long) ∙ (get_or-append_seam xs x [] d ∙ here is)
at_snoc xs x d n k value long below before here (inr apart) =
    get_or-append xs (x ∷ []) d k (omega arith) ∙ before (omega arith)

pub lock_there : (file : List ℕ) (at n k : ℕ) → k < n → slice_index_or (locks_from file at n) k false ≡ (slice_index file (at + k) == 1)
lock_there file at zero k below = absurd (omega arith)
lock_there file at (suc n) k below =
    at_snoc (locks_from file at n) (slice_index file (at + n) == 1) false n k (slice_index file (at + k) == 1) (length-locks_from file at n) below
    (λ under. lock_there file at n k under) (λ is. ap (λ (j : ℕ). slice_index file (at + j) == 1) (sym is)) (cases_eq k n)

-- ---- the locks of a chip for which so many are given

pub given_len : (xs : List Bool) (n : ℕ) → (length xs ≡ 0) ⊎ (length xs ≡ n) → length (given_or_open xs n) ≡ n
given_len [] n few = length-replicate n false
given_len (x ∷ xs) n (inl none) = absurd (omega arith)
given_len (x ∷ xs) n (inr each) = each

given_same : (xs : List Bool) (n : ℕ) → length xs ≡ n → given_or_open xs n ≡ xs
given_same [] n same = ap (λ (m : ℕ). replicate m false) (sym same)
given_same (x ∷ xs) n same = refl

given_kept : (keeps : Bool) (xs : List Bool) (n : ℕ) → length xs ≡ (if keeps then n else 0) → (if keeps then given_or_open xs n else []) ≡ xs
given_kept true xs n same = given_same xs n same
given_kept false [] n same = refl
given_kept false (x ∷ xs) n same = absurd (omega arith)

-- in version 2 the locks that are stored are those that the chip keeps
pub stored_kept : (set : Set) (table : List ℕ) (xs : List Bool) → length xs ≡ stored_count Two set table
    → kept_locks set table (given_or_open xs (length (table_blocks table))) ≡ xs
stored_kept set table xs same = given_kept (keeps_locks set (has_locks table)) xs (length (table_blocks table)) same

either : (keeps : Bool) (n : ℕ) → ((if keeps then n else 0) ≡ 0) ⊎ ((if keeps then n else 0) ≡ n)
either true n = inr refl
either false n = inl refl

-- either none or one for each block
pub stored_either : (version : Version) (set : Set) (table : List ℕ) → (stored_count version set table ≡ 0) ⊎ (stored_count version set table ≡ length (table_blocks table))
stored_either One set table = inl refl
stored_either Two set table = either (keeps_locks set (has_locks table)) (length (table_blocks table))

none_or_each : (n count : ℕ) → (count ≡ 0) ⊎ (count ≡ n) → is_none_or_each n count ≡ true
none_or_each n count (inl is) = (let same : (count == 0) ≡ true = grind (arith, nat_tests) in ap (λ (b : Bool). b || (count == n)) same)
none_or_each n count (inr is) = grind (arith, nat_tests)

pub stored_fit : (version : Version) (set : Set) (table : List ℕ) (file : List ℕ) (at : ℕ)
    → is_none_or_each (length (table_blocks table)) (length (locks_from file at (stored_count version set table))) ≡ true
stored_fit version set table file at =
    ap (is_none_or_each (length (table_blocks table))) (length-locks_from file at (stored_count version set table))
    ∙ none_or_each (length (table_blocks table)) (stored_count version set table) (stored_either version set table)

-- and no more than a chip has bytes
few_either : (count n : ℕ) → (count ≡ 0) ⊎ (count ≡ n) → count ≤ n
few_either count n (inl none) = omega arith
few_either count n (inr each) = omega arith

pub count_few : (version : Version) (set : Set) (table : List ℕ) (blocks : List Span) (count size : ℕ) → count ≡ stored_count version set table → blocks ≡ table_blocks table
    → length blocks ≤ size → is_chip_size size ≡ true → count ≤ 2 ^ 27
count_few version set table blocks count size is same few sized =
    let most = few_either (stored_count version set table) (length (table_blocks table)) (stored_either version set table) in
    let long = ap (λ (spans : List Span). length spans) same in
    let small = (chip_size size sized).1 in
    omega arith

-- version 1 stores none
pub one_stores_none : (version : Version) (set : Set) (table : List ℕ) → version ≡ One → stored_count version set table ≡ 0
one_stores_none version set table is = ap (λ (v : Version). stored_count v set table) is

-- ---- what the file says of them

pub lock_count_is : (file : List ℕ) (at : ℕ) → lock_count file at ≡ stored_count (version_of file) (machine_of file) (table_in file at)
unfolding lock_count
lock_count_is file at = refl

-- as it is computed from what was read
pub count_is : (file : List ℕ) (at : ℕ) (version : Version) (set : Set) (table : List ℕ) (count : ℕ) → version ≡ version_of file → set ≡ machine_of file → table ≡ table_in file at
    → count ≡ stored_count version set table → count ≡ lock_count file at
count_is file at version set table count v s t is = is ∙ ((λ i. stored_count (v i) (s i) (t i)) ∙ sym (lock_count_is file at))

-- and the fields of the locks
pub fields_are : (file : List ℕ) (c at : ℕ) (version : Version) (before : List (List Bool)) (place count : ℕ) → version ≡ version_of file → before ≡ kept_before file c → place ≡ locks_at file at
    → count ≡ lock_count file at → lock_fields_of version file before place count ≡ lock_fields file c at
unfolding lock_fields
fields_are file c at version before place count v b p n = λ i. lock_fields_of (v i) file (b i) (p i) (n i)

pub locks_of_is : (file : List ℕ) (at : ℕ) → locks_of file at ≡ given_or_open (locks_from file (locks_at file at + 4) (lock_count file at)) (length (table_blocks (table_in file at)))
unfolding locks_of
locks_of_is file at = refl

either_counted : (xs : List Bool) (count n m : ℕ) → length xs ≡ count → count ≡ m → (m ≡ 0) ⊎ (m ≡ n) → (length xs ≡ 0) ⊎ (length xs ≡ n)
either_counted xs count n m long is (inl none) = inl (long ∙ (is ∙ none))
either_counted xs count n m long is (inr each) = inr (long ∙ (is ∙ each))

-- as many as blocks
pub length-locks_of : (file : List ℕ) (at : ℕ) → length (locks_of file at) ≡ length (table_blocks (table_in file at))
length-locks_of file at =
    let xs = locks_from file (locks_at file at + 4) (lock_count file at) in
    let n = length (table_blocks (table_in file at)) in
    ap (λ (ls : List Bool). length ls) (locks_of_is file at)
    ∙ given_len xs n (either_counted xs (lock_count file at) n (stored_count (version_of file) (machine_of file) (table_in file at))
    (length-locks_from file (locks_at file at + 4) (lock_count file at)) (lock_count_is file at) (stored_either (version_of file) (machine_of file) (table_in file at)))

-- version 2: those that are kept are those that stand there
pub kept_in_two : (file : List ℕ) (at : ℕ) → version_of file ≡ Two → kept_in file at ≡ locks_from file (locks_at file at + 4) (lock_count file at)
kept_in_two file at two =
    let xs = locks_from file (locks_at file at + 4) (lock_count file at) in
    let count : length xs ≡ stored_count Two (machine_of file) (table_in file at) =
    length-locks_from file (locks_at file at + 4) (lock_count file at)
    ∙ (lock_count_is file at ∙ ap (λ (v : Version). stored_count v (machine_of file) (table_in file at)) two) in
    ap (kept_locks (machine_of file) (table_in file at)) (locks_of_is file at) ∙ stored_kept (machine_of file) (table_in file at) xs count

-- version 1: none of them is set
clear : (keeps : Bool) (n : ℕ) → (if keeps then replicate n false else []) ≡ replicate (length (if keeps then replicate n false else [])) false
clear true n = ap (λ (m : ℕ). replicate m false) (sym (length-replicate n false))
clear false n = refl

pub kept_in_one : (file : List ℕ) (at : ℕ) → version_of file ≡ One → kept_in file at ≡ replicate (length (kept_in file at)) false
kept_in_one file at one =
    let n = length (table_blocks (table_in file at)) in
    let keeps = keeps_locks (machine_of file) (has_locks (table_in file at)) in
    let none : lock_count file at ≡ 0 = lock_count_is file at ∙ one_stores_none (version_of file) (machine_of file) (table_in file at) one in
    let opened : locks_of file at ≡ replicate n false = locks_of_is file at ∙ ap (λ (k : ℕ). given_or_open (locks_from file (locks_at file at + 4) k) n) none in
    let is : kept_in file at ≡ (if keeps then replicate n false else []) = ap (kept_locks (machine_of file) (table_in file at)) opened in
    is ∙ (clear keeps n ∙ ap (λ (ls : List Bool). replicate (length ls) false) (sym is))

-- they take as many bytes as those that are kept
kept_len_of : (version : Version) (file : List ℕ) (at : ℕ) → version_of file ≡ version → locks_len version (length (kept_in file at)) ≡ locks_len version (lock_count file at)
kept_len_of One file at is = refl
kept_len_of Two file at is =
    ap (λ (n : ℕ). 4 + n) (ap (λ (ls : List Bool). length ls) (kept_in_two file at is) ∙ length-locks_from file (locks_at file at + 4) (lock_count file at))

pub kept_len : (file : List ℕ) (at : ℕ) → locks_len (version_of file) (length (kept_in file at)) ≡ locks_len (version_of file) (lock_count file at)
kept_len file at = kept_len_of (version_of file) file at refl

-- which are few
pub len_few : (version : Version) (n m : ℕ) → n ≤ m → locks_len version n ≤ 4 + m
len_few One n m few = omega arith
len_few Two n m few = omega arith

kept_few_by : (keeps : Bool) (xs : List Bool) → length (if keeps then xs else []) ≤ length xs
kept_few_by true xs = omega arith
kept_few_by false xs = omega arith

pub kept_few : (set : Set) (table : List ℕ) (xs : List Bool) → length (kept_locks set table xs) ≤ length xs
kept_few set table xs = kept_few_by (keeps_locks set (has_locks table)) xs

-- power-on keeps them
after_by : (b : Bool) (xs ys : List Bool) → (if b then (if b then xs else ys) else []) ≡ (if b then xs else [])
after_by true xs ys = refl
after_by false xs ys = refl

pub kept_after : (set : Set) (table : List ℕ) (xs : List Bool) → kept_locks set table (locks_after set table xs) ≡ kept_locks set table xs
kept_after Intel table xs = refl
kept_after Amd table xs = after_by (has_locks table) xs (replicate (length xs) false)

-- and power-on is told by those that are kept
same_after_by : (b : Bool) (xs ys : List Bool) → length xs ≡ length ys → (if b then xs else []) ≡ (if b then ys else [])
    → (if b then xs else replicate (length xs) false) ≡ (if b then ys else replicate (length ys) false)
same_after_by true xs ys long same = same
same_after_by false xs ys long same = ap (λ (n : ℕ). replicate n false) long

pub same_after : (set : Set) (table : List ℕ) (xs ys : List Bool) → length xs ≡ length ys → kept_locks set table xs ≡ kept_locks set table ys
    → locks_after set table xs ≡ locks_after set table ys
same_after Intel table xs ys long same = ap (λ (n : ℕ). replicate n (has_locks table)) long
same_after Amd table xs ys long same = same_after_by (has_locks table) xs ys long same

-- ---- those of the lanes before

pub length-kept_before : (file : List ℕ) (n : ℕ) → length (kept_before file n) ≡ n
length-kept_before file zero = refl
length-kept_before file (suc n) = length-append (kept_before file n) (kept_in file (record_place file n) ∷ []) ∙ (let before = length-kept_before file n in omega arith)

pub kept_before_at : (file : List ℕ) (n c : ℕ) → c < n → slice_index_or (kept_before file n) c [] ≡ kept_in file (record_place file c)
kept_before_at file zero c below = absurd (omega arith)
kept_before_at file (suc n) c below =
    at_snoc (kept_before file n) (kept_in file (record_place file n)) [] n c (kept_in file (record_place file c)) (length-kept_before file n) below
    (λ under. kept_before_at file n c under) (λ is. ap (λ (k : ℕ). kept_in file (record_place file k)) (sym is)) (cases_eq c n)
