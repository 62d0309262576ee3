-- Locks that agree with those of the lanes before, and what the fields of locks refuse.
use Rattle.std.proofs.Common.{◌≡◌, ◌≢◌, ◌<◌, ◌⊎◌, inl, inr, ◌+◌, ◌==◌, ◌||◌, ℕ, zero, suc, List, [], ◌∷◌, ◌++◌, length, slice_index, Bool, true, false, not, refl, sym, ap, subst, ◌∙◌, arith, add-one, Some, None}
use Rattle.std.specs.Prelude.{slice_index_or}
use Rattle.std.proofs.lemmas.Bool.{cases_eq, and_from}
use Rattle.std.proofs.lemmas.Bool.Decides.{nat_tests}
use Rattle.nor_cell.proofs.Logic.{both_pass}
use Rattle.nor_image.specs.Image.{tested_field, refusal_of, first_refusal, same_lock, is_agreed, is_lock_byte, each_lock, locks_from}
use Rattle.nor_image.specs.declared.error.ImageError.{ImageError}
use Rattle.nor_image.proofs.Refusals.{first_refusal-append, goes_on, or_none, or_some, stays, none_both}

-- ---- agreement

same_is : (a b : Bool) → same_lock a b ≡ true → a ≡ b
same_is true b h = sym h
same_is false true h = absurd (cc)
same_is false false h = refl

pub is_same : (a b : Bool) → a ≡ b → same_lock a b ≡ true
is_same true b h = sym h
is_same false b h = ap not (sym h)

-- a lane that keeps as many
as_many : (n count : ℕ) (same : Bool) → (not (n == count) || same) ≡ true → n ≡ count → same ≡ true
as_many n count same h is =
    let equal : (n == count) ≡ true = grind (arith, nat_tests) in
    sym (ap (λ (b : Bool). not b || same) equal) ∙ h

-- of locks that agree with the lanes before, each is that of a lane that keeps as many
pub agreed_at : (before : List (List Bool)) (count k : ℕ) (locked : Bool) (c : ℕ) → is_agreed before count k locked ≡ true → c < length before
    → length (slice_index_or before c []) ≡ count → slice_index_or (slice_index_or before c []) k false ≡ locked
agreed_at [] count k locked c h below same = absurd (omega arith)
agreed_at (locks ∷ before) count k locked zero h below same =
    same_is (slice_index_or locks k false) locked
    (as_many (length locks) count (same_lock (slice_index_or locks k false) locked)
    (both_pass (not (length locks == count) || same_lock (slice_index_or locks k false) locked) (is_agreed before count k locked) h).0 same)
agreed_at (locks ∷ before) count k locked (suc c) h below same =
    agreed_at before count k locked c
    (both_pass (not (length locks == count) || same_lock (slice_index_or locks k false) locked) (is_agreed before count k locked) h).1 (omega arith) same

pub one_agrees : (n count : ℕ) (same : Bool) → (n ≡ count → same ≡ true) → (n ≡ count) ⊎ (n ≢ count) → (not (n == count) || same) ≡ true
one_agrees n count same h (inl is) =
    let equal : (n == count) ≡ true = grind (arith, nat_tests) in
    ap (λ (b : Bool). not b || same) equal ∙ h is
one_agrees n count same h (inr apart) =
    let differs : (n == count) ≡ false = grind (arith, nat_tests) in
    ap (λ (b : Bool). not b || same) differs

pub all_agreed : (before : List (List Bool)) (count k : ℕ) (locked : Bool)
    → ((c : ℕ) → c < length before → length (slice_index_or before c []) ≡ count → slice_index_or (slice_index_or before c []) k false ≡ locked)
    → is_agreed before count k locked ≡ true
all_agreed [] count k locked each = refl
all_agreed (locks ∷ before) count k locked each =
    and_from (not (length locks == count) || same_lock (slice_index_or locks k false) locked) (is_agreed before count k locked)
    (one_agrees (length locks) count (same_lock (slice_index_or locks k false) locked) (λ is. is_same (slice_index_or locks k false) locked (each 0 (omega arith) is)) (cases_eq (length locks) count))
    (all_agreed before count k locked (λ c below same. each (suc c) (omega arith) same))

-- ---- the fields of locks

-- the last of some fields, or one of those before
lock_right_of : (file : List ℕ) (before : List (List Bool)) (at count n k : ℕ)
    → (k < n → refusal_of file (tested_field (at + k) 1 (is_lock_byte before count k (slice_index file (at + k)))) ≡ None)
    → refusal_of file (tested_field (at + n) 1 (is_lock_byte before count n (slice_index file (at + n)))) ≡ None → k < suc n → (k ≡ n) ⊎ (k ≢ n)
    → refusal_of file (tested_field (at + k) 1 (is_lock_byte before count k (slice_index file (at + k)))) ≡ None
lock_right_of file before at count n k earlier last below (inl is) =
    subst (λ (j : ℕ). refusal_of file (tested_field (at + j) 1 (is_lock_byte before count j (slice_index file (at + j)))) ≡ None) (sym is) last
lock_right_of file before at count n k earlier last below (inr apart) = earlier (omega arith)

-- of fields of which none is refused each says what it may
pub each_lock_right : (file : List ℕ) (before : List (List Bool)) (at count n k : ℕ) → first_refusal file (each_lock file before at count n) ≡ None → k < n
    → refusal_of file (tested_field (at + k) 1 (is_lock_byte before count k (slice_index file (at + k)))) ≡ None
each_lock_right file before at count zero k none below = absurd (omega arith)
each_lock_right file before at count (suc n) k none below =
    let field = tested_field (at + n) 1 (is_lock_byte before count n (slice_index file (at + n))) in
    let parts = none_both (first_refusal file (each_lock file before at count n)) (first_refusal file (field ∷ []))
    (sym (first_refusal-append file (each_lock file before at count n) (field ∷ [])) ∙ none) in
    lock_right_of file before at count n k (λ under. each_lock_right file before at count n k parts.0 under) (none_both (refusal_of file field) None parts.1).0 below (cases_eq k n)

pub all_locks_right : (file : List ℕ) (before : List (List Bool)) (at count n : ℕ)
    → ((k : ℕ) → k < n → refusal_of file (tested_field (at + k) 1 (is_lock_byte before count k (slice_index file (at + k)))) ≡ None)
    → first_refusal file (each_lock file before at count n) ≡ None
all_locks_right file before at count zero right = refl
all_locks_right file before at count (suc n) right =
    let field = tested_field (at + n) 1 (is_lock_byte before count n (slice_index file (at + n))) in
    goes_on file (each_lock file before at count n) (field ∷ []) (all_locks_right file before at count n (λ k below. right k (omega arith)))
    ∙ or_none (refusal_of file field) None (right n (omega arith))

-- ---- locks that are read one after another

-- so many were read, and none refused
pub record AreLocks (file : List ℕ) (before : List (List Bool)) (at count k : ℕ) (locks : List Bool) : Type 0 where
  pub read : locks ≡ locks_from file at k
  pub none : first_refusal file (each_lock file before at count k) ≡ None

pub locks_more : (file : List ℕ) (before : List (List Bool)) (at count k : ℕ) (locks more : List Bool) (locked : Bool) → AreLocks file before at count k locks
    → refusal_of file (tested_field (at + k) 1 (is_lock_byte before count k (slice_index file (at + k)))) ≡ None
    → locked ≡ (slice_index file (at + k) == 1) → more ≡ locks ++ locked ∷ [] → AreLocks file before at count (k + 1) more
locks_more file before at count k locks more locked so right is pushed =
    let field = tested_field (at + k) 1 (is_lock_byte before count k (slice_index file (at + k))) in
    subst (λ (n : ℕ). AreLocks file before at count n more) (sym (add-one k))
    (record {
      read = pushed ∙ (λ i. so.read i ++ is i ∷ []);
      none = goes_on file (each_lock file before at count k) (field ∷ []) so.none ∙ or_none (refusal_of file field) None right;
    })

pub lock_stops : (file : List ℕ) (before : List (List Bool)) (at count k : ℕ) (locks : List Bool) (e : ImageError) → AreLocks file before at count k locks → k < count
    → refusal_of file (tested_field (at + k) 1 (is_lock_byte before count k (slice_index file (at + k)))) ≡ Some e
    → first_refusal file (each_lock file before at count count) ≡ Some e
lock_stops file before at count k locks e so below refused =
    let field : ℕ → _ = λ (j : ℕ). tested_field (at + j) 1 (is_lock_byte before count j (slice_index file (at + j))) in
    stays file (each_lock file before at count) (λ j. field j ∷ []) (λ j. refl) e k count below so.none (or_some (refusal_of file (field k)) None e refused)
