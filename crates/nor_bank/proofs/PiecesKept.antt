-- One more word of a range: the words that can't wait for it are programmed, and it waits where it changes.
use Rattle.std.proofs.Common.{◌≡◌, ◌<◌, ◌≤◌, ◌+◌, ◌-◌, ◌*◌, ℕ, suc, List, [], length, map, set, get_or, refl, sym, ap, subst, ◌∙◌, arith, Bool, true, false, Option, Some, None, is_some, if◌then◌else◌}
use Rattle.std.specs.Prelude.{nat_lt, ◌&&◌, IfSome}
use Rattle.std.specs.Option.{option_map}
use Rattle.std.proofs.lemmas.List.{length-set}
use Rattle.std.proofs.Math.Nat.{mul-le-mul_right}
use Rattle.nor_cell.specs.Chip.{ChipState}
use Rattle.nor_cell.specs.declared.geometry.Geometry.{Geometry}
use Rattle.nor_cell.proofs.Logic.{both_pass, is_below}
use Rattle.nor_probe.specs.declared.probing.Found.{Found}
use Rattle.nor_bus.specs.Bus.{BusState, bank_byte}
use Rattle.nor_bus.specs.Driven.{Counted, Went}
use Rattle.nor_bank.specs.Pieces.{CanProgramAll, ReadsWord, TakesPiece, Wait, changes_word, due_in, piece_before, word_cost_in}
use Rattle.nor_bank.specs.Programs.{PieceBecomes, ProgramsTo, changes_of, goes_on, words_passing}
use Rattle.nor_bank.specs.Ranges.{MeetsWord}
use Rattle.nor_bank.specs.Runs.{joins_in}
use Rattle.nor_bank.specs.declared.programming.Outcome.{Outcome}
use Rattle.nor_bank.specs.declared.programming.Outcome.TheVariants.{Skipped}
use Rattle.nor_bank.proofs.PiecesLoop.{SoFar, due_counted, so_flushed, so_read}
use Rattle.nor_bank.proofs.PiecesProgrammed.{joined}
use Rattle.nor_bank.proofs.PiecesWaiting.{can_all, kept_others, kept_there, passing_least, piece_still, still_changes, tells_on, wait_more, wait_none}
use Rattle.nor_bank.proofs.WordByWord.{programs_on}

-- the same cycles, counted in other words
pub counted_as : (l k m q : ℕ) (a b : BusState) → l ≡ k → m ≤ q → Counted l m a b → Counted k q a b
counted_as l k m q a b same le counted =
    let enough = counted.enough in
    let few = counted.few in
    record { cycles = counted.cycles; enough = omega (arith, same, enough); few = omega (arith, le, few); went = counted.went }

module _ (w : ℕ) (f : Found) (at : ℕ) (new : List ℕ) (first u : ℕ) (old now mid : BusState) (from : first ≤ u) (meets : MeetsWord w u at (length new)) (went : Went 1 1 now mid) where
  abbrev g : Geometry
  g = f.geometry

  abbrev len : ℕ
  len = length new

  abbrev cost : ℕ
  cost = word_cost_in f

  abbrev test : ℕ → Bool
  test = changes_of g old at new

  read_next : u + 1 - first ≡ u - first + 1
  read_next = omega (arith, from)

  -- ---- the word goes with those that wait

  grow : (n : ℕ) (all next : List (List ℕ)) (word : List ℕ) → n < 256 → joins_in w f (u - n) u ≡ true
      → ((k : ℕ) → k < n → get_or next k [] ≡ get_or all k []) → get_or next n [] ≡ word → 0 < n
      → (CanProgramAll w f at len now → ReadsWord w g at new u (Some word) now mid) → SoFar w f at new first (u - first) u n all old now
      → SoFar w f at new first (u + 1 - first) (u + 1) (n + 1) next old mid
  grow n all next word room joins same last some reads so =
      let read = so_read w f at new first (u - first) u n all (Some word) old now mid went reads so in
      let order = so.order in
      let start : u + 1 - (n + 1) ≡ u - n = omega arith in
      let counted = read.counted in
      let cycles : (u + 1 - (n + 1) - first) * cost ≡ (u - n - first) * cost = ap (λ (m : ℕ). (m - first) * cost) start in
      record {
        order = omega (arith, order);
        few = omega (arith, room);
        buffered = λ several. (joined w f (u - n) u joins).some;
        counted = counted_as (u - first + 1) (u + 1 - first) (u - first + 1 + (u - n - first) * cost) (u + 1 - first + (u + 1 - (n + 1) - first) * cost) old mid (sym read_next) (omega (arith, cycles, read_next)) counted;
        stand = λ can.
            let s = read.stand can in
            let before = so.stand can in
            let can_now = can_all w f at new ((u - n) * w) (u - first) (u - first + (u - n - first) * cost) old now so.counted can before.to in
            let is = reads can_now in
            let tells = tells_on w g at new u (Some word) now mid (λ a low. ap (λ (ls : List ChipState). bank_byte g.device ls a) is.same) is.tells in
            let here : u ≡ u - n + n = omega (arith, order) in
            let more = wait_more w f at new (u - n) n u all next word mid here same last meets (λ positive. joins) tells s.wait in
            record {
              to = subst (λ (m : ℕ). ProgramsTo g at new (m * w) old mid) (sym start) s.to;
              wait = subst (λ (m : ℕ). Wait w f at new m (n + 1) next mid) (sym start) more;
              costs = counted_as (u - first + 1) (u + 1 - first) (u - first + 1 + words_passing w test first (u - n - first) * cost) (u + 1 - first + words_passing w test first (u + 1 - (n + 1) - first) * cost) old mid
                  (sym read_next)
                  (let e : words_passing w test first (u + 1 - (n + 1) - first) * cost ≡ words_passing w test first (u - n - first) * cost = ap (λ (m : ℕ). words_passing w test first (m - first) * cost) start in
                  omega (arith, e, read_next)) s.costs;
              starts = λ positive v next_is changed. subst (λ (m : ℕ). joins_in w f v m ≡ false) (sym start) (s.starts some v (omega (arith, next_is, start)) changed);
              rests = λ none. absurd (omega (arith, none));
            };
      }

  -- ---- those that wait were programmed

  module _ (n : ℕ) (all : List (List ℕ)) (o : Outcome) (after : BusState) (goes : goes_on o ≡ true) (takes : TakesPiece f n o mid after)
      (becomes : CanProgramAll w f at len mid → Wait w f at new (u - n) n all mid → PieceBecomes w g at new (piece_before n u) o mid after) where
    -- the bytes from word u on, before the read and after the program
    same_behind : (word : Option (List ℕ)) → (CanProgramAll w f at len now → ReadsWord w g at new u word now mid) → SoFar w f at new first (u - first) u n all old now → CanProgramAll w f at len old
        → ProgramsTo g at new (u * w) old after → (a : ℕ) → u * w ≤ a → bank_byte g.device after.lanes a ≡ bank_byte g.device now.lanes a
    same_behind word reads so can to a low =
        let s = so.stand can in
        let row = mul-le-mul_right w (let h : u - n ≤ u = omega arith in h) in
        to.rest a low ∙ sym (s.to.rest a (omega (arith, row, low)))

    -- the word doesn't change
    pub flush_none : (CanProgramAll w f at len now → ReadsWord w g at new u None now mid) → SoFar w f at new first (u - first) u n all old now
        → SoFar w f at new first (u + 1 - first) (u + 1) 0 all old after
    flush_none reads so =
        let read = so_read w f at new first (u - first) u n all None old now mid went reads so in
        let counted = due_counted w f at new first (u - first + 1) u n all o old mid after from goes takes read in
        let end : u + 1 - 0 ≡ u + 1 = omega arith in
        let cycles : (u + 1 - 0 - first) * cost ≡ (u - first) * cost + cost = ap (λ (m : ℕ). m * cost) (let h : u + 1 - 0 - first ≡ u - first + 1 = omega (arith, from) in h) ∙ (let h : (u - first + 1) * cost ≡ (u - first) * cost + cost = omega arith in h) in
        record {
          order = omega (arith, from);
          few = omega arith;
          buffered = λ several. absurd (omega (arith, several));
          counted = counted_as (u - first + 1) (u + 1 - first) (u - first + 1 + (u - first) * cost) (u + 1 - first + (u + 1 - 0 - first) * cost) old after (sym read_next) (omega (arith, cycles, read_next)) counted;
          stand = λ can.
              let flushed = so_flushed w f at new first (u - first + 1) u n false all o old mid after from goes refl takes becomes read can in
              let s = so.stand can in
              let can_now = can_all w f at new ((u - n) * w) (u - first) (u - first + (u - n - first) * cost) old now so.counted can s.to in
              let is = reads can_now in
              let none = tells_on w g at new u None now after (same_behind None reads so can flushed.to) is.tells in
              let can_after = can_all w f at new (u * w) (u - first + 1) (u - first + 1 + (u - first) * cost) old after counted can flushed.to in
              let still = piece_still w f at u new after can_after none in
              let kept = counted.went.kept in
              let row = mul-le-mul_right w (let h : u ≤ u + 1 = omega arith in h) in
              let to = programs_on w g (u + 1) (u * w) at new old after after kept.count can.words.own flushed.to still row in
              let least = passing_least w test first (u - first) in
              let sum = mul-le-mul_right cost least in
              let all_of : words_passing w test first (u + 1 - 0 - first) * cost ≡ words_passing w test first (suc (u - first)) * cost =
              ap (λ (m : ℕ). words_passing w test first m * cost) (let h : u + 1 - 0 - first ≡ suc (u - first) = omega (arith, from) in h) in
              record {
                to = subst (λ (m : ℕ). ProgramsTo g at new (m * w) old after) (sym end) to;
                wait = wait_none w f at new (u + 1 - 0) all after;
                costs = counted_as (u - first + 1) (u + 1 - first) (u - first + 1 + words_passing w test first (u - first) * cost) (u + 1 - first + words_passing w test first (u + 1 - 0 - first) * cost) old after
                    (sym read_next) (omega (arith, sum, all_of, read_next)) flushed.costs;
                starts = λ positive. absurd (omega (arith, positive));
                rests = λ nothing v next changed.
                    let here : v ≡ u = omega (arith, next) in
                    let fails = sym (still_changes w g at (u * w) u new old after (omega arith) flushed.to) ∙ none in
                    let passes = ap (λ (m : ℕ). changes_word w g at new m old) (sym here) ∙ changed.changes in
                    absurd (let both : true ≡ false = sym passes ∙ fails in cc);
              };
        }

    -- the word changes, and waits alone
    pub flush_some : (word : List ℕ) (next : List (List ℕ)) → get_or next 0 [] ≡ word → (nat_lt 0 n && joins_in w f (u - n) u) ≡ false
        → (CanProgramAll w f at len now → ReadsWord w g at new u (Some word) now mid) → SoFar w f at new first (u - first) u n all old now
        → SoFar w f at new first (u + 1 - first) (u + 1) 1 next old after
    flush_some word next last apart reads so =
        let read = so_read w f at new first (u - first) u n all (Some word) old now mid went reads so in
        let counted = due_counted w f at new first (u - first + 1) u n all o old mid after from goes takes read in
        let end : u + 1 - 1 ≡ u = omega arith in
        let cycles : (u + 1 - 1 - first) * cost ≡ (u - first) * cost = ap (λ (m : ℕ). (m - first) * cost) end in
        record {
          order = omega (arith, from);
          few = omega arith;
          buffered = λ several. absurd (omega (arith, several));
          counted = counted_as (u - first + 1) (u + 1 - first) (u - first + 1 + (u - first) * cost) (u + 1 - first + (u + 1 - 1 - first) * cost) old after (sym read_next) (omega (arith, cycles, read_next)) counted;
          stand = λ can.
              let flushed = so_flushed w f at new first (u - first + 1) u n true all o old mid after from goes apart takes becomes read can in
              let s = so.stand can in
              let can_now = can_all w f at new ((u - n) * w) (u - first) (u - first + (u - n - first) * cost) old now so.counted can s.to in
              let is = reads can_now in
              let tells = tells_on w g at new u (Some word) now after (same_behind (Some word) reads so can flushed.to) is.tells in
              let here : u ≡ u + 0 = omega arith in
              let alone = wait_more w f at new u 0 u all next word after here (λ k less. absurd (omega (arith, less))) last meets (λ positive. absurd (omega (arith, positive))) tells (wait_none w f at new u all after) in
              let all_of : words_passing w test first (u + 1 - 1 - first) * cost ≡ words_passing w test first (u - first) * cost = ap (λ (m : ℕ). words_passing w test first (m - first) * cost) end in
              record {
                to = subst (λ (m : ℕ). ProgramsTo g at new (m * w) old after) (sym end) flushed.to;
                wait = subst (λ (m : ℕ). Wait w f at new m 1 next after) (sym end) alone;
                costs = counted_as (u - first + 1) (u + 1 - first) (u - first + 1 + words_passing w test first (u - first) * cost) (u + 1 - first + words_passing w test first (u + 1 - 1 - first) * cost) old after
                    (sym read_next) (omega (arith, all_of, read_next)) flushed.costs;
                starts = λ positive v next_is changed. subst (λ (m : ℕ). joins_in w f v m ≡ false) (sym end) (flushed.starts refl v (omega (arith, next_is)) changed);
                rests = λ nothing. absurd (omega (arith, nothing));
              };
        }

-- ---- any word

-- The words of a range so far, with one more of them read: those that could not wait for it were programmed, and it was kept
-- where it changes.
pub record Passed {X : Type 0} (bytes : X → List ℕ) (w : ℕ) (f : Found) (at : ℕ) (new : List ℕ) (u n due : ℕ) (xs : List X) (word : Option X) (o : Outcome) (now mid after : BusState) : Type 0 where
  pub went : Went 1 1 now mid
  pub reads : CanProgramAll w f at (length new) now → ReadsWord w f.geometry at new u (option_map bytes word) now mid
  pub due_is : due ≡ due_in w f n u (is_some word)
  pub takes : TakesPiece f due o mid after
  pub none : due ≡ 0 → (o ≡ Skipped) × (after ≡ mid)
  pub becomes : (at : ℕ) (new : List ℕ) → CanProgramAll w f at (length new) mid → Wait w f at new (u - due) due (map bytes xs) mid → PieceBecomes w f.geometry at new (piece_before due u) o mid after

-- what is kept behind the words that wait
pub record Keeps {X : Type 0} (n due m : ℕ) (xs ys : List X) (word : Option X) : Type 0 where
  pub room : n - due < length xs
  pub none : word ≡ None → (m ≡ n - due) × (ys ≡ xs)
  pub some : IfSome word (λ it. (m ≡ n - due + 1) × (ys ≡ set xs (n - due) it))

module _ {X : Type 0} (bytes : X → List ℕ) (w : ℕ) (f : Found) (at : ℕ) (new : List ℕ) (first u n due m : ℕ) (xs ys : List X) (o : Outcome) (old now mid after : BusState) (from : first ≤ u)
    (meets : MeetsWord w u at (length new)) (size : length xs ≡ 256) (goes : goes_on o ≡ true) (so : SoFar w f at new first (u - first) u n (map bytes xs) old now) where
  next_none : Passed bytes w f at new u n due xs None o now mid after → Keeps n due m xs ys None → SoFar w f at new first (u + 1 - first) (u + 1) m (map bytes ys) old after
  next_none passed keeps =
      let is = passed.due_is in
      let kept = keeps.none refl in
      let left = kept.0 in
      let nothing : 0 ≡ m = omega (arith, is, left) in
      let flushed = flush_none w f at new first u old now mid from meets passed.went n (map bytes xs) o after goes (subst (λ (d : ℕ). TakesPiece f d o mid after) is passed.takes)
      (subst (λ (d : ℕ). CanProgramAll w f at (length new) mid → Wait w f at new (u - d) d (map bytes xs) mid → PieceBecomes w f.geometry at new (piece_before d u) o mid after) is (passed.becomes at new))
      passed.reads so in
      subst (λ (l : List X). SoFar w f at new first (u + 1 - first) (u + 1) m (map bytes l) old after) (sym kept.1)
      (subst (λ (k : ℕ). SoFar w f at new first (u + 1 - first) (u + 1) k (map bytes xs) old after) nothing flushed)

  -- it goes with those that wait
  next_grown : (it : X) → Passed bytes w f at new u n due xs (Some it) o now mid after → Keeps n due m xs ys (Some it) → (nat_lt 0 n && joins_in w f (u - n) u) ≡ true → due ≡ 0
      → SoFar w f at new first (u + 1 - first) (u + 1) m (map bytes ys) old after
  next_grown it passed keeps joins none =
      let parts = both_pass (nat_lt 0 n) (joins_in w f (u - n) u) joins in
      let kept = keeps.some in
      let place : n - due ≡ n = omega (arith, none) in
      let left : n + 1 ≡ m = (let h = kept.0 in omega (arith, h, place)) in
      let room : n < length xs = (let h = keeps.room in omega (arith, h, place)) in
      let list : set xs n it ≡ ys = ap (λ (k : ℕ). set xs k it) (sym place) ∙ sym kept.1 in
      let grown = grow w f at new first u old now mid from meets passed.went n (map bytes xs) (map bytes (set xs n it)) (bytes it) (omega (arith, room, size)) parts.1
      (λ k less. kept_others bytes xs n it k (omega (arith, less, room)) (omega (arith, less))) (kept_there bytes xs n it room) (is_below 0 n parts.0) passed.reads so in
      subst (λ (b : BusState). SoFar w f at new first (u + 1 - first) (u + 1) m (map bytes ys) old b) (sym (passed.none none).1)
      (subst (λ (l : List X). SoFar w f at new first (u + 1 - first) (u + 1) m (map bytes l) old mid) list
      (subst (λ (k : ℕ). SoFar w f at new first (u + 1 - first) (u + 1) k (map bytes (set xs n it)) old mid) left grown))

  next_flushed : (it : X) → Passed bytes w f at new u n due xs (Some it) o now mid after → Keeps n due m xs ys (Some it) → (nat_lt 0 n && joins_in w f (u - n) u) ≡ false → due ≡ n
      → SoFar w f at new first (u + 1 - first) (u + 1) m (map bytes ys) old after
  next_flushed it passed keeps apart is =
      let kept = keeps.some in
      let place : n - due ≡ 0 = omega (arith, is) in
      let left : 1 ≡ m = (let h = kept.0 in omega (arith, h, place)) in
      let list : set xs 0 it ≡ ys = ap (λ (k : ℕ). set xs k it) (sym place) ∙ sym kept.1 in
      let flushed = flush_some w f at new first u old now mid from meets passed.went n (map bytes xs) o after goes (subst (λ (d : ℕ). TakesPiece f d o mid after) is passed.takes)
      (subst (λ (d : ℕ). CanProgramAll w f at (length new) mid → Wait w f at new (u - d) d (map bytes xs) mid → PieceBecomes w f.geometry at new (piece_before d u) o mid after) is (passed.becomes at new))
      (bytes it) (map bytes (set xs 0 it)) (kept_there bytes xs 0 it (omega (arith, size))) apart passed.reads so in
      subst (λ (l : List X). SoFar w f at new first (u + 1 - first) (u + 1) m (map bytes l) old after) list
      (subst (λ (k : ℕ). SoFar w f at new first (u + 1 - first) (u + 1) k (map bytes (set xs 0 it)) old after) left flushed)

  next_some : (it : X) (joins : Bool) → (nat_lt 0 n && joins_in w f (u - n) u) ≡ joins → Passed bytes w f at new u n due xs (Some it) o now mid after → Keeps n due m xs ys (Some it)
      → SoFar w f at new first (u + 1 - first) (u + 1) m (map bytes ys) old after
  next_some it true is passed keeps = next_grown it passed keeps is (passed.due_is ∙ ap (λ (b : Bool). if b then 0 else n) is)
  next_some it false is passed keeps = next_flushed it passed keeps is (passed.due_is ∙ ap (λ (b : Bool). if b then 0 else n) is)

  pub so_next : (word : Option X) → Passed bytes w f at new u n due xs word o now mid after → Keeps n due m xs ys word → SoFar w f at new first (u + 1 - first) (u + 1) m (map bytes ys) old after
  so_next None passed keeps = next_none passed keeps
  so_next (Some it) passed keeps = next_some it (nat_lt 0 n && joins_in w f (u - n) u) refl passed keeps

-- as many as there were
pub kept_size : {X : Type 0} (n due m : ℕ) (xs ys : List X) (word : Option X) → Keeps n due m xs ys word → length ys ≡ length xs
kept_size n due m xs ys None keeps = ap length (keeps.none refl).1
kept_size n due m xs ys (Some it) keeps = ap length keeps.some.1 ∙ length-set xs (n - due) it
