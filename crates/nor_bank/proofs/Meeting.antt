-- Which blocks a call touches.
use Rattle.std.proofs.Common.{◌≡◌, ◌≤◌, ◌<◌, ◌+◌, ◌-◌, ◌⊎◌, inl, inr, ℕ, zero, suc, List, [], ◌∷◌, length, refl, sym, ◌∙◌, ap, subst, arith, Bool, true, false, ◌==◌, Some, None}
use Rattle.std.specs.Prelude.{◌&&◌, nat_le, nat_lt, if◌then◌else◌}
use Rattle.std.proofs.lemmas.Bool.{cases_lt, eqb-true}
use Rattle.std.proofs.lemmas.Bool.Decides.{nat_tests}
use Rattle.nor_cell.specs.Chip.{block, block_at, span_end, is_within}
use Rattle.nor_cell.specs.Ranges.{follow_to}
use Rattle.nor_cell.specs.declared.device.Span.{Span}
use Rattle.nor_cell.proofs.Logic.{both_pass, all_three, passes_below, same_self, is_below, is_at_most}
use Rattle.nor_region.proofs.Following.{begins}
use Rattle.nor_array.specs.Array.{ArrayState, meets, lowest}
use Rattle.nor_array.specs.Refusals.{touches, touched_open, when}
use Rattle.nor_array.specs.declared.needs.Reach.{Reach}
use Rattle.nor_array.specs.declared.needs.Reach.TheVariants.{Nowhere, Range, Block}
use Rattle.nor_array.specs.declared.entry.Reply.TheVariants.{OutOfRange}
use Rattle.nor_array.specs.declared.state.Target.{Target}
use Rattle.nor_array.specs.declared.state.Target.TheVariants.{OneBlock, AllBlocks}
use Rattle.nor_probe.specs.declared.probing.Found.{Found}
use Rattle.nor_bank.specs.Locks.{blocks_met}
use Rattle.nor_bank.specs.Refused.{outline}
use Rattle.nor_bank.specs.State.{BankState, size_of, blocks_of}
use Rattle.nor_bank.proofs.Known.{blocks_follow}
use Rattle.nor_array.proofs.Unlocked.{none_lowest}

-- ---- the lowest number that passes

up_to : (k m : ℕ) → k ≤ m → (k ≡ m) ⊎ (k < m)
up_to zero zero le = inl refl
up_to zero (suc m) le = inr (omega arith)
up_to (suc k) zero le = absurd (omega (arith, le))
up_to (suc k) (suc m) le = elim (up_to k m (omega (arith, le))) [
  | inl same ↦ inl (ap suc same)
  | inr less ↦ inr (omega (arith, less))
]

-- it is this one where none before it passes
pub lowest_is : (test : ℕ → Bool) (k n m : ℕ) → k ≤ m → m < k + n → test m ≡ true → ((j : ℕ) → j < m → test j ≡ false) → lowest test k n ≡ Some m
lowest_is test k zero m above below here before = absurd (omega (arith, above, below))
lowest_is test k (suc n) m above below here before = elim (up_to k m above) [
  | inl same ↦ ap (λ (b : Bool). if b then Some k else lowest test (k + 1) n) (ap test same ∙ here) ∙ ap (λ (x : ℕ). Some x) same
  | inr less ↦
      ap (λ (b : Bool). if b then Some k else lowest test (k + 1) n) (before k less)
      ∙ lowest_is test (k + 1) n m (omega (arith, less)) (omega (arith, below)) here before
]

-- ---- blocks that follow each other

pub ends_before : (spans : List Span) (end from j m : ℕ) → follow_to end from spans ≡ true → j < m → m < length spans → span_end (block spans j) ≤ (block spans m).from
ends_before [] end from j m follow less below = absurd (omega (arith, below))
ends_before (span ∷ spans) end from j zero follow less below = absurd (omega (arith, less))
ends_before (span ∷ spans) end from zero (suc m) follow less below =
    let parts = both_pass (span.from == from) (follow_to end (from + span.len) spans) follow in
    let at : span.from ≡ from = eqb-true span.from from parts.0 in
    let behind = begins spans end (from + span.len) m parts.1 (omega (arith, below)) in
    omega (arith, at, behind)
ends_before (span ∷ spans) end from (suc j) (suc m) follow less below =
    let parts = both_pass (span.from == from) (follow_to end (from + span.len) spans) follow in
    ends_before spans end (from + span.len) j m parts.1 (omega (arith, less)) (omega (arith, below))

not_met : (at len : ℕ) (span : Span) → span_end span ≤ at → meets at len span ≡ false
not_met at len span behind = grind (arith, nat_tests)

not_reached : (at len : ℕ) (span : Span) → at + len ≤ span.from → meets at len span ≡ false
not_reached at len span before = grind (arith, nat_tests)

-- ---- a call that touches nothing

pub open_nowhere : (target : Target) (a : ArrayState) → touched_open target a Nowhere ≡ None
open_nowhere (OneBlock k) a = refl
open_nowhere AllBlocks a = none_lowest (touches a Nowhere) 0 (length a.consts.blocks) (λ j. refl)

-- ---- a call that touches one block, where all are under erase

other_number : (k j : ℕ) → j < k → (k == j) ≡ false
other_number k j less = grind (arith, nat_tests)

there_by : (outside : Bool) → when outside OutOfRange ≡ None → outside ≡ false
there_by true is = absurd (cc)
there_by false is = refl

pub open_block : (a : ArrayState) (k : ℕ) → when (nat_le (length a.consts.blocks) k) OutOfRange ≡ None → touched_open AllBlocks a (Block k) ≡ Some k
open_block a k there =
    let inside : nat_le (length a.consts.blocks) k ≡ false = there_by (nat_le (length a.consts.blocks) k) there in
    let below : k < length a.consts.blocks = grind (arith, nat_tests) in
    lowest_is (touches a (Block k)) 0 (length a.consts.blocks) k (omega arith) (omega (arith, below)) (same_self k) (λ j less. other_number k j less)

-- ---- the blocks that are touched, from one up to another

module _ (blocks : List Span) (end : ℕ) (follow : follow_to end 0 blocks ≡ true) (at len first last k : ℕ) (some : 0 < len)
    (begins_in : is_within (block blocks first) at ≡ true) (ends_in : is_within (block blocks last) (at + (len - 1)) ≡ true)
    (first_there : first < length blocks) (last_there : last < length blocks) (there : k < length blocks) where
  begin_from : (block blocks first).from ≤ at
  begin_from = is_at_most (block blocks first).from at (both_pass (nat_le (block blocks first).from at) (nat_lt at (span_end (block blocks first))) begins_in).0

  begin_before : at < span_end (block blocks first)
  begin_before = is_below at (span_end (block blocks first)) (both_pass (nat_le (block blocks first).from at) (nat_lt at (span_end (block blocks first))) begins_in).1

  end_from : (block blocks last).from ≤ at + (len - 1)
  end_from =
      let parts = both_pass (nat_le (block blocks last).from (at + (len - 1))) (nat_lt (at + (len - 1)) (span_end (block blocks last))) ends_in in
      is_at_most (block blocks last).from (at + (len - 1)) parts.0

  end_before : at + (len - 1) < span_end (block blocks last)
  end_before =
      let parts = both_pass (nat_le (block blocks last).from (at + (len - 1))) (nat_lt (at + (len - 1)) (span_end (block blocks last))) ends_in in
      is_below (at + (len - 1)) (span_end (block blocks last)) parts.1

  behind_start : first ≤ k → at < span_end (block blocks k)
  behind_start from = elim (up_to first k from) [
    | inl same ↦ subst (λ (n : ℕ). at < span_end (block blocks n)) same begin_before
    | inr less ↦
        let ends = ends_before blocks end 0 first k follow less there in
        let begin = begin_before in
        omega (arith, ends, begin)
  ]

  before_end : k ≤ last → (block blocks k).from < at + len
  before_end to = elim (up_to k last to) [
    | inl same ↦ subst (λ (n : ℕ). (block blocks n).from < at + len) (sym same) (let low = end_from in omega (arith, low, some))
    | inr less ↦
        let ends = ends_before blocks end 0 k last follow less last_there in
        let low = end_from in
        omega (arith, ends, low, some)
  ]

  -- those that a range meets
  pub range_touches : meets at len (block blocks k) ≡ (nat_le first k && nat_lt k (last + 1))
  range_touches = elim (cases_lt k first) [
    | inl less ↦
        let ends = ends_before blocks end 0 k first follow less first_there in
        let low = begin_from in
        not_met at len (block blocks k) (omega (arith, ends, low)) ∙ (let none : false ≡ (nat_le first k && nat_lt k (last + 1)) = grind (arith, nat_tests, less) in none)
    | inr from ↦ elim (cases_lt last k) [
      | inl past ↦
          let ends = ends_before blocks end 0 last k follow past there in
          let high = end_before in
          not_reached at len (block blocks k) (omega (arith, ends, high, some)) ∙ (let none : false ≡ (nat_le first k && nat_lt k (last + 1)) = grind (arith, nat_tests, past) in none)
      | inr to ↦
          all_three (nat_lt 0 len) (nat_lt at (span_end (block blocks k))) (nat_lt (block blocks k).from (at + len))
          (passes_below 0 len some) (passes_below at (span_end (block blocks k)) (behind_start from)) (passes_below (block blocks k).from (at + len) (before_end to))
          ∙ (let all : true ≡ (nat_le first k && nat_lt k (last + 1)) = grind (arith, nat_tests, from, to) in all)
    ]
  ]

-- as the bank comes to it
pub range_touched : (b c : BankState) (at len first last : ℕ) (reach : Reach) → b ≡ c → reach ≡ Range at len → 0 < len
    → is_within (block (blocks_of b.found) first) at ≡ true → is_within (block (blocks_of b.found) last) (at + len - 1) ≡ true
    → first < length (blocks_of b.found) → last < length (blocks_of b.found)
    → (k : ℕ) → k < length (blocks_of c.found) → touches (outline c) reach k ≡ (nat_le first k && nat_lt k (last + 1))
range_touched b c at len first last reach same is some begins_in ends_in first_there last_there k there =
    let blocks = blocks_of b.found in
    let end : at + len - 1 ≡ at + (len - 1) = omega (arith, some) in
    ap (λ (r : Reach). touches (outline c) r k) is
    ∙ (ap (λ (x : BankState). meets at len (block (blocks_of x.found) k)) (sym same)
    ∙ range_touches blocks (size_of b.found) (blocks_follow b.found) at len first last k some begins_in
    (subst (λ (p : ℕ). is_within (block blocks last) p ≡ true) end ends_in) first_there last_there
    (subst (λ (x : BankState). k < length (blocks_of x.found)) (sym same) there))

-- how many they are
count_of : (f : Found) (at len : ℕ) → 0 < len → blocks_met f (Range at len) ≡ block_at (blocks_of f) (at + len - 1) + 1 - block_at (blocks_of f) at
count_of f at zero some = absurd (omega arith)
count_of f at (suc n) some =
    let last : at + n ≡ at + suc n - 1 = omega arith in
    ap (λ (p : ℕ). block_at (blocks_of f) p + 1 - block_at (blocks_of f) at) last

pub range_count : (b c : BankState) (at len first last : ℕ) (reach : Reach) → b ≡ c → reach ≡ Range at len → 0 < len
    → first ≡ block_at (blocks_of b.found) at → last ≡ block_at (blocks_of b.found) (at + len - 1) → last + 1 - first ≡ blocks_met c.found reach
range_count b c at len first last reach same is some begins_in ends_in =
    ap (λ (n : ℕ). last + 1 - n) begins_in
    ∙ (ap (λ (n : ℕ). n + 1 - block_at (blocks_of b.found) at) ends_in
    ∙ (sym (count_of b.found at len some)
    ∙ (ap (λ (x : BankState). blocks_met x.found (Range at len)) same ∙ ap (λ (r : Reach). blocks_met c.found r) (sym is))))
