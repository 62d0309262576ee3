-- A range that is programmed piece by piece: what stands before each of its words.
use Rattle.std.proofs.Common.{◌≡◌, ◌<◌, ◌≤◌, ◌+◌, ◌-◌, ◌*◌, inl, inr, ℕ, List, length, map, sym, ap, subst, ◌∙◌, arith, Bool, true, false, Option}
use Rattle.std.specs.Prelude.{nat_lt, ◌&&◌}
use Rattle.std.proofs.lemmas.Bool.{cases_lt}
use Rattle.std.proofs.Math.Nat.{mul-le-mul_right}
use Rattle.nor_cell.specs.declared.geometry.Geometry.{Geometry}
use Rattle.nor_cell.proofs.Logic.{passes_below}
use Rattle.nor_probe.specs.declared.probing.Found.{Found}
use Rattle.nor_bus.specs.Bus.{BusState, bank_byte}
use Rattle.nor_bus.specs.Driven.{Counted, Went}
use Rattle.nor_bus.proofs.Counting.{counted_exactly, counted_then}
use Rattle.nor_bus.proofs.Driving.{went_none}
use Rattle.nor_bank.specs.Pieces.{CanProgramAll, ReadsWord, TakesPiece, Wait, changes_word, piece_before, word_cost_in}
use Rattle.nor_bank.specs.Programs.{PieceBecomes, ProgramsPiece, ProgramsTo, changes_of, goes_on, words_passing}
use Rattle.nor_bank.specs.Runs.{WordChanges, joins_in, units_in}
use Rattle.nor_bank.specs.declared.programming.Outcome.{Outcome}
use Rattle.nor_bank.specs.declared.programming.Outcome.TheVariants.{Skipped, Stored, BrokeOff, GivenUp}
use Rattle.nor_bank.proofs.PiecesWaiting.{can_all, joins_alike, passing_more, still_changes, to_same, wait_on}
use Rattle.nor_bank.proofs.WordByWord.{programs_on, stored_so}

-- ---- before a word

-- So it is of the chips, where they can be programmed: the words before those n that wait are done, and counted.
pub record Stand (w : ℕ) (f : Found) (at : ℕ) (new : List ℕ) (first read u n : ℕ) (all : List (List ℕ)) (old now : BusState) : Type 0 where
  pub to : ProgramsTo f.geometry at new ((u - n) * w) old now
  pub wait : Wait w f at new (u - n) n all now
  pub costs : Counted read (read + words_passing w (changes_of f.geometry old at new) first (u - n - first) * word_cost_in f) old now
  -- the word before those that wait doesn't go with them, nor does it change where none waits
  pub starts : 0 < n → (v : ℕ) → v + 1 ≡ u - n → WordChanges w (changes_of f.geometry old at new) at (length new) v → joins_in w f v (u - n) ≡ false
  pub rests : n ≡ 0 → (v : ℕ) → v + 1 ≡ u → WordChanges w (changes_of f.geometry old at new) at (length new) v → ⊥

-- So many words were read, up to word u, before which n wait.
pub record SoFar (w : ℕ) (f : Found) (at : ℕ) (new : List ℕ) (first read u n : ℕ) (all : List (List ℕ)) (old now : BusState) : Type 0 where
  pub order : first + n ≤ u
  pub few : n ≤ 256
  -- several wait for a buffer alone
  pub buffered : 1 < n → 0 < units_in f
  pub counted : Counted read (read + (u - n - first) * word_cost_in f) old now
  pub stand : CanProgramAll w f at (length new) old → Stand w f at new first read u n all old now

module _ (w : ℕ) (f : Found) (at : ℕ) (new : List ℕ) (first : ℕ) where
  abbrev g : Geometry
  g = f.geometry

  abbrev len : ℕ
  len = length new

  abbrev cost : ℕ
  cost = word_cost_in f

  -- ---- a word was read

  pub so_read : (read u n : ℕ) (all : List (List ℕ)) (word : Option (List ℕ)) (old now mid : BusState) → Went 1 1 now mid
      → (CanProgramAll w f at len now → ReadsWord w g at new u word now mid) → SoFar w f at new first read u n all old now
      → SoFar w f at new first (read + 1) u n all old mid
  so_read read u n all word old now mid went reads so =
      let one = counted_exactly 1 now mid went in
      record {
        order = so.order;
        few = so.few;
        buffered = so.buffered;
        counted = counted_then read (read + (u - n - first) * cost) 1 1 (read + 1) (read + 1 + (u - n - first) * cost) old now mid (omega arith) (omega arith) so.counted one;
        stand = λ can.
            let s = so.stand can in
            let passing = words_passing w (changes_of g old at new) first (u - n - first) * cost in
            let same = (reads (can_all w f at new ((u - n) * w) read (read + (u - n - first) * cost) old now so.counted can s.to)).same in
            record {
              to = to_same g at new ((u - n) * w) old now mid same s.to;
              wait = wait_on w f at new (u - n) n all now mid (λ a low. ap (λ ls. bank_byte g.device ls a) same) s.wait;
              costs = counted_then read (read + passing) 1 1 (read + 1) (read + 1 + passing) old now mid (omega arith) (omega arith) s.costs one;
              starts = s.starts;
              rests = s.rests;
            };
      }

  -- ---- the words that wait are programmed

  -- in what the words cost that wait
  pub counted_due : (n : ℕ) (o : Outcome) (mid after : BusState) → goes_on o ≡ true → TakesPiece f n o mid after → Counted 0 (n * cost) mid after
  counted_due n Skipped mid after goes takes = subst (λ b. Counted 0 (n * cost) mid b) (sym takes) (record { cycles = 0; enough = omega arith; few = omega arith; went = went_none mid })
  counted_due n Stored mid after goes takes = let few = takes.few in record { cycles = takes.cycles; enough = omega arith; few = few; went = takes.went }
  counted_due n (BrokeOff piece lanes) mid after goes takes = absurd (cc)
  counted_due n (GivenUp halt) mid after goes takes = absurd (cc)

  -- all before word u is done, and none waits
  pub record Flushed (read u : ℕ) (changes : Bool) (old after : BusState) : Type 0 where
    pub to : ProgramsTo g at new (u * w) old after
    pub costs : Counted read (read + words_passing w (changes_of g old at new) first (u - first) * cost) old after
    pub starts : changes ≡ true → (v : ℕ) → v + 1 ≡ u → WordChanges w (changes_of g old at new) at len v → joins_in w f v u ≡ false

  pub flush_to : (read u n : ℕ) (all : List (List ℕ)) (o : Outcome) (old mid after : BusState) → first ≤ u → goes_on o ≡ true → SoFar w f at new first read u n all old mid
      → (CanProgramAll w f at len mid → Wait w f at new (u - n) n all mid → PieceBecomes w g at new (piece_before n u) o mid after)
      → CanProgramAll w f at len old → ProgramsTo g at new (u * w) old after
  flush_to read u n all o old mid after from goes so becomes can =
      let s = so.stand can in
      let order = so.order in
      let can_mid = can_all w f at new ((u - n) * w) read (read + (u - n - first) * cost) old mid so.counted can s.to in
      let end : u - n + n ≡ u = omega (arith, order) in
      let piece = subst (λ v. ProgramsPiece g 0 at new ((u - n) * w) (v * w) mid after) end (stored_so w g at new (piece_before n u) o mid after goes (becomes can_mid s.wait)) in
      let row = mul-le-mul_right w (let h : u - n ≤ u = omega arith in h) in
      programs_on w g u ((u - n) * w) at new old mid after so.counted.went.kept.count can.words.own s.to piece row

  -- the words that wait change as they would have at first
  pub passing_due : (read u n : ℕ) (all : List (List ℕ)) (old mid : BusState) → SoFar w f at new first read u n all old mid → (can : CanProgramAll w f at len old)
      → words_passing w (changes_of g old at new) first (u - first) ≡ words_passing w (changes_of g old at new) first (u - n - first) + n
  passing_due read u n all old mid so can =
      let s = so.stand can in
      let order = so.order in
      let m = u - n - first in
      let start : first + m ≡ u - n = omega (arith, order) in
      let all_of : u - first ≡ m + n = omega (arith, order) in
      ap (words_passing w (changes_of g old at new) first) all_of
      ∙ passing_more w (changes_of g old at new) first m n
      (λ k less.
      let v = first + m + k in
      let here : u - n + k ≡ v = omega (arith, start) in
      let row = mul-le-mul_right w (let h : u - n ≤ v = omega (arith, here) in h) in
      sym (still_changes w g at ((u - n) * w) v new old mid row s.to) ∙ (ap (λ x. changes_word w g at new x mid) (sym here) ∙ s.wait.changes k less))

  -- the last of the words before u doesn't go with it
  flush_starts : (read u n : ℕ) (changes : Bool) (all : List (List ℕ)) (old mid : BusState) → first ≤ u → (changes && nat_lt 0 n && joins_in w f (u - n) u) ≡ false
      → SoFar w f at new first read u n all old mid → CanProgramAll w f at len old → changes ≡ true → (v : ℕ) → v + 1 ≡ u → WordChanges w (changes_of g old at new) at len v → joins_in w f v u ≡ false
  flush_starts read u n changes all old mid from apart so can is v next changed =
      let s = so.stand can in
      let order = so.order in
      elim (cases_lt 0 n) [
        | inl some ↦
            let first_apart : joins_in w f (u - n) u ≡ false =
            sym (ap (λ b. b && nat_lt 0 n && joins_in w f (u - n) u) is ∙ ap (λ b. b && joins_in w f (u - n) u) (passes_below 0 n some)) ∙ apart in
            elim (cases_lt 1 n) [
              | inl several ↦
                  let here : u - n + (n - 1) ≡ v = omega (arith, order, next, some) in
                  let with_first = subst (λ x. joins_in w f (u - n) x ≡ true) here (s.wait.together (n - 1) (omega (arith, several)) (omega (arith, some))) in
                  joins_alike w f (u - n) v u with_first ∙ first_apart
              | inr alone ↦ subst (λ x. joins_in w f x u ≡ false) (omega (arith, order, next, some, alone)) first_apart
            ]
        | inr none ↦ absurd (s.rests (omega (arith, none)) v next changed)
      ]

  pub so_flushed : (read u n : ℕ) (changes : Bool) (all : List (List ℕ)) (o : Outcome) (old mid after : BusState) → first ≤ u → goes_on o ≡ true
      → (changes && nat_lt 0 n && joins_in w f (u - n) u) ≡ false → TakesPiece f n o mid after
      → (CanProgramAll w f at len mid → Wait w f at new (u - n) n all mid → PieceBecomes w g at new (piece_before n u) o mid after)
      → SoFar w f at new first read u n all old mid → CanProgramAll w f at len old → Flushed read u changes old after
  so_flushed read u n changes all o old mid after from goes apart takes becomes so can =
      let s = so.stand can in
      let passed = words_passing w (changes_of g old at new) first (u - n - first) in
      let more = passing_due read u n all old mid so can in
      let sum : words_passing w (changes_of g old at new) first (u - first) * cost ≡ (passed + n) * cost = ap (λ x. x * cost) more in
      let split : (passed + n) * cost ≡ passed * cost + n * cost = omega arith in
      record {
        to = flush_to read u n all o old mid after from goes so becomes can;
        costs = counted_then read (read + passed * cost) 0 (n * cost) read (read + words_passing w (changes_of g old at new) first (u - first) * cost) old mid after (omega arith) (omega (arith, sum, split)) s.costs
            (counted_due n o mid after goes takes);
        starts = flush_starts read u n changes all old mid from apart so can;
      }

  pub due_counted : (read u n : ℕ) (all : List (List ℕ)) (o : Outcome) (old mid after : BusState) → first ≤ u → goes_on o ≡ true → TakesPiece f n o mid after → SoFar w f at new first read u n all old mid
      → Counted read (read + (u - first) * cost) old after
  due_counted read u n all o old mid after from goes takes so =
      let order = so.order in
      let all_of : (u - first) * cost ≡ (u - n - first + n) * cost = ap (λ x. x * cost) (let h : u - first ≡ u - n - first + n = omega (arith, order) in h) in
      let split : (u - n - first + n) * cost ≡ (u - n - first) * cost + n * cost = omega arith in
      counted_then read (read + (u - n - first) * cost) 0 (n * cost) read (read + (u - first) * cost) old mid after (omega arith) (omega (arith, all_of, split)) so.counted (counted_due n o mid after goes takes)

-- ---- between two words

-- The words so far, of an array of so many.
pub record Between {X : Type 0} (bytes : X → List ℕ) (w : ℕ) (f : Found) (at : ℕ) (new : List ℕ) (first u n : ℕ) (xs : List X) (old now : BusState) : Type 0 where
  pub size : length xs ≡ 256
  pub so : SoFar w f at new first (u - first) u n (map bytes xs) old now
