-- The lines of a drill, one after the other.
use Rattle.std.proofs.Common.{◌≡◌, ◌<◌, ◌≤◌, ◌+◌, ◌*◌, ◌%◌, ◌^◌, ◌∙◌, ◌++◌, ◌∷◌, [], ℕ, suc, List, length, map, Bool, true, false, if◌then◌else◌, nat_le, ◌==◌, refl, sym, ap, arith, append_assoc, append-nil}
use Rattle.std.specs.List.{All, range_with_len}
use Rattle.std.proofs.Math.Nat.{mod-add-mod}
use Rattle.std.proofs.lemmas.List.{length-append}
use Rattle.std.proofs.lemmas.List.Elements.{All-append, All-map, All-from_get_or}
use Rattle.std.proofs.lemmas.List.FromFn.{length-map-range_with_len, map-range_with_len_more}
use Rattle.std.proofs.lemmas.Nat.{mod_below}
use Rattle.nor_array.specs.declared.entry.Op.TheVariants.{Read, Program, EraseOpen, Poll, Lock, Unlock, IsLocked}
use Rattle.nor_script.specs.Script.{IsScript, HasCaller, CallHasCaller}
use Rattle.nor_script.specs.declared.line.Line.{Line}
use Rattle.nor_drill.specs.Drill.{next, drawn, later, data_of, line_of, drawn_lines, unlock_line, unlock_lines, drill_lines}

-- a product and a sum that each wrap
pub wraps : (x : ℕ) → (x * 6364136223846793005 % 2 ^ 64 + 1442695040888963407) % 2 ^ 64 ≡ next x
wraps x = mod-add-mod (x * 6364136223846793005) (2 ^ 64) 1442695040888963407

pub four_later : (x k : ℕ) → next (next (next (next (later x (4 * k))))) ≡ later x (4 * (k + 1))
four_later x k = let more : suc (suc (suc (suc (4 * k)))) ≡ 4 * (k + 1) = omega arith in ap (later x) more

-- ---- one line more

pub one_drawn : (x k : ℕ) → drawn_lines x (k + 1) ≡ drawn_lines x k ++ line_of (k + 9) (later x (4 * k)) ∷ []
unfolding drawn_lines
one_drawn x k = map-range_with_len_more (λ (j : ℕ). line_of (j + 9) (later x (4 * j))) 0 k k (omega arith)

pub none_drawn : (x : ℕ) → drawn_lines x 0 ≡ []
unfolding drawn_lines
none_drawn x = refl

-- no line more behind others, and one more
pub none_behind : (lines : List Line) (x : ℕ) → lines ≡ lines ++ drawn_lines x 0
unfolding drawn_lines
none_behind lines x = sym (append-nil lines)

pub one_behind : (lines all more : List Line) (x k from : ℕ) (line : Line) → all ≡ lines ++ drawn_lines x k → from ≡ later x (4 * k)
    → line ≡ line_of (k + 9) from → more ≡ all ++ line ∷ [] → more ≡ lines ++ drawn_lines x (k + 1)
one_behind lines all more x k from line so there is pushed =
    let last : line ≡ line_of (k + 9) (later x (4 * k)) = is ∙ ap (λ (y : ℕ). line_of (k + 9) y) there in
    pushed ∙ ap (λ (xs : List Line). xs ++ line ∷ []) so ∙ ap (λ (l : Line). lines ++ drawn_lines x k ++ l ∷ []) last
    ∙ append_assoc lines (drawn_lines x k) (line_of (k + 9) (later x (4 * k)) ∷ []) ∙ ap (λ (xs : List Line). lines ++ xs) (sym (one_drawn x k))

pub from_next : (x k from : ℕ) → from ≡ later x (4 * k) → next (next (next (next from))) ≡ later x (4 * (k + 1))
from_next x k from there = ap (λ (y : ℕ). next (next (next (next y)))) there ∙ four_later x k

pub one_unlock : (b : ℕ) → unlock_lines (b + 1) ≡ unlock_lines b ++ unlock_line b ∷ []
unfolding unlock_lines
one_unlock b = map-range_with_len_more unlock_line 0 b b (omega arith)

pub no_unlock : unlock_lines 0 ≡ []
unfolding unlock_lines
no_unlock = refl

pub one_byte : (b k : ℕ) → map (λ j. (b + 37 * j) % 256) (range_with_len 0 (k + 1)) ≡ map (λ j. (b + 37 * j) % 256) (range_with_len 0 k) ++ (b + 37 * k) % 256 ∷ []
one_byte b k = map-range_with_len_more (λ (j : ℕ). (b + 37 * j) % 256) 0 k k (omega arith)

-- ---- the script is one

CallerOf : Line → Type 0
CallerOf line = HasCaller line.word line.caller

by_kind : (a b caller : ℕ) (read program opens poll unlock lock : Bool) → (1 ≤ caller) × (caller ≤ 8)
    → CallHasCaller
    (if read then Read (a % 16384) (b % 65)
    else if program then Program (a % 16384) (data_of b)
    else if opens then EraseOpen (a % 8)
    else if poll then Poll
    else if unlock then Unlock (a % 8)
    else if lock then Lock (a % 8)
    else IsLocked (a % 8)) caller
by_kind a b caller true program opens poll unlock lock has = has
by_kind a b caller false true opens poll unlock lock has = has
by_kind a b caller false false true poll unlock lock has = has
by_kind a b caller false false false true unlock lock has = has
by_kind a b caller false false false false true lock has = has
by_kind a b caller false false false false false true has = has
by_kind a b caller false false false false false false has = has

drawn_caller : (number x : ℕ) → CallerOf (line_of number x)
unfolding CallerOf
drawn_caller number x =
    let k = drawn (later x 1) % 16 in
    let few : drawn x % 4 < 4 = mod_below (drawn x) 4 (omega arith) in
    by_kind (drawn (later x 2)) (drawn (later x 3)) (drawn x % 4 + 1) (nat_le k 5) (nat_le k 9) (k == 10) (nat_le k 12) (k == 13) (k == 14) (omega arith, omega (arith, few))

each_of : (f : ℕ → Line) (count : ℕ) → ((k : ℕ) → CallerOf (f k)) → All CallerOf (map f (range_with_len 0 count))
each_of f count each =
    All-map CallerOf f (range_with_len 0 count) (All-from_get_or (λ (k : ℕ). CallerOf (f k)) (range_with_len 0 count) 0 (λ i below. each _))

drawn_callers : (x count : ℕ) → All CallerOf (drawn_lines x count)
unfolding drawn_lines
drawn_callers x count = each_of (λ (k : ℕ). line_of (k + 9) (later x (4 * k))) count (λ k. drawn_caller (k + 9) (later x (4 * k)))

unlock_callers : (blocks : ℕ) → All CallerOf (unlock_lines blocks)
unfolding unlock_lines CallerOf
unlock_callers blocks = each_of unlock_line blocks (λ b. (omega arith, omega arith))

count_drawn : (x count : ℕ) → length (drawn_lines x count) ≡ count
unfolding drawn_lines
count_drawn x count = length-map-range_with_len (λ (k : ℕ). line_of (k + 9) (later x (4 * k))) 0 count

count_unlock : (blocks : ℕ) → length (unlock_lines blocks) ≡ blocks
unfolding unlock_lines
count_unlock blocks = length-map-range_with_len unlock_line 0 blocks

script_of_counts : (x blocks count : ℕ) → blocks + count ≤ 65536 → IsScript (unlock_lines blocks ++ drawn_lines x count)
unfolding CallerOf
script_of_counts x blocks count few = record {
  few =
      let sizes : length (unlock_lines blocks ++ drawn_lines x count) ≡ length (unlock_lines blocks) + length (drawn_lines x count) = length-append (unlock_lines blocks) (drawn_lines x count) in
      let first = count_unlock blocks in
      let last = count_drawn x count in
      omega (arith, sizes, first, last, few);
  callers = All-append CallerOf (unlock_lines blocks) (drawn_lines x count) (unlock_callers blocks) (drawn_callers x count);
}

pub is_script : (n : ℕ) → IsScript (drill_lines n)
is_script n = script_of_counts n 8 4096 (omega arith)
