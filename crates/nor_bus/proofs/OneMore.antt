-- One more chip is read, written, cut or powered on.
use Rattle.std.proofs.Common.{◌≡◌, ◌≢◌, ◌<◌, ◌+◌, ◌^◌, ◌%◌, ◌⊎◌, inl, inr, ℕ, List, length, sym, subst, ◌∙◌, arith}
use Rattle.std.proofs.lemmas.Bool.{cases_eq}
use Rattle.std.proofs.Math.Nat.{mod-eq_of_lt}
use Rattle.nor_cell.specs.Chip.{ChipState}
use Rattle.nor_cell.specs.Steps.{Reads, Keeps, written}
use Rattle.nor_word.specs.Word.{lane_of}
use Rattle.nor_bus.specs.Bus.{chip_at, wide}
use Rattle.nor_bus.specs.Chips.{ChangedTo, AnswersKept, TakesKept}

one_more : (n c : ℕ) (P : ℕ → ChipState → ChipState → Type 0) (old mid new : List ChipState) → ChangedTo n P old mid
    → ((j : ℕ) → j ≢ n → chip_at new j ≡ chip_at mid j) → P n (chip_at old n) (chip_at new n) → c < n + 1 → (c ≡ n) ⊎ (c ≢ n) → P c (chip_at old c) (chip_at new c)
one_more n c P old mid new so others mine below (inl e) = subst (λ (k : ℕ). P k (chip_at old k) (chip_at new k)) (sym e) mine
one_more n c P old mid new so others mine below (inr ne) = subst (λ (t : ChipState). P c (chip_at old c) t) (sym (others c ne)) (so.done c (omega arith))

-- one more chip has changed
pub changed_more : (n : ℕ) (P : ℕ → ChipState → ChipState → Type 0) (old mid new : List ChipState) → ChangedTo n P old mid → length new ≡ length mid
    → ((j : ℕ) → j ≢ n → chip_at new j ≡ chip_at mid j) → (chip_at mid n ≡ chip_at old n → P n (chip_at old n) (chip_at new n)) → ChangedTo (n + 1) P old new
changed_more n P old mid new so size others mine = record {
  size = size ∙ so.size;
  done = λ c below. one_more n c P old mid new so others (mine (so.later n (omega arith))) below (cases_eq c n);
  later = λ c le. others c (omega arith) ∙ so.later c (omega arith);
}

-- one chip took its part of a word
pub takes : (u value bytes n : ℕ) (word : List ℕ) (old mid new : ChipState) → mid ≡ old → value ≡ lane_of bytes word n → new ≡ written mid u value → Keeps mid new → TakesKept u bytes word n old new
takes u value bytes n word old mid new same is step kept =
    (subst (λ (v : ℕ). new ≡ written old u v) is (subst (λ (s : ChipState). new ≡ written s u value) same step), subst (λ (s : ChipState). Keeps s new) same kept)

one_of : (u bytes n c : ℕ) (word after : List ℕ) (old mid new : List ChipState) → ChangedTo n (AnswersKept u bytes word) old mid
    → ((j : ℕ) → j ≢ n → chip_at new j ≡ chip_at mid j) → ((c : ℕ) → c ≢ n → lane_of bytes after c ≡ lane_of bytes word c)
    → AnswersKept u bytes after n (chip_at old n) (chip_at new n) → c < n + 1 → (c ≡ n) ⊎ (c ≢ n) → AnswersKept u bytes after c (chip_at old c) (chip_at new c)
one_of u bytes n c word after old mid new so others there mine below (inl e) = subst (λ (k : ℕ). AnswersKept u bytes after k (chip_at old k) (chip_at new k)) (sym e) mine
one_of u bytes n c word after old mid new so others there mine below (inr ne) =
    let h = so.done c (omega arith) in
    subst (λ (t : ChipState). AnswersKept u bytes after c (chip_at old c) t) (sym (others c ne))
    (subst (λ (v : ℕ). Reads (chip_at old c) u v (chip_at mid c)) (sym (there c ne)) h.0, h.1)

pub answers_more : (n u bytes value : ℕ) (word after : List ℕ) (old mid new : List ChipState)
    → ChangedTo n (AnswersKept u bytes word) old mid → length new ≡ length mid
    → Reads (chip_at mid n) u value (chip_at new n) → Keeps (chip_at mid n) (chip_at new n)
    → value < 256 ^ wide (chip_at mid n) → wide (chip_at old n) ≡ bytes
    → ((j : ℕ) → j ≢ n → chip_at new j ≡ chip_at mid j)
    → lane_of bytes after n ≡ value % 256 ^ bytes → ((c : ℕ) → c ≢ n → lane_of bytes after c ≡ lane_of bytes word c)
    → ChangedTo (n + 1) (AnswersKept u bytes after) old new
answers_more n u bytes value word after old mid new so size reads keeps fits is others here there =
    let same : chip_at mid n ≡ chip_at old n = so.later n (omega arith) in
    let small : value < 256 ^ bytes = subst (λ (b : ℕ). value < 256 ^ b) is (subst (λ (s : ChipState). value < 256 ^ wide s) same fits) in
    let it : lane_of bytes after n ≡ value = here ∙ mod-eq_of_lt small in
    let mine : AnswersKept u bytes after n (chip_at old n) (chip_at new n) = subst (λ (s : ChipState). AnswersKept u bytes after n s (chip_at new n)) same (subst (λ (v : ℕ). Reads (chip_at mid n) u v (chip_at new n)) (sym it) reads, keeps) in
    record {
      size = size ∙ so.size;
      done = λ c below. one_of u bytes n c word after old mid new so others there mine below (cases_eq c n);
      later = λ c le. others c (omega arith) ∙ so.later c (omega arith);
    }
