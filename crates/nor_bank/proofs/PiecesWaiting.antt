-- Words that wait while others are read, and what stays true of them.
use Rattle.std.proofs.Common.{◌≡◌, ◌≢◌, ◌<◌, ◌≤◌, ◌+◌, ◌*◌, ◌/◌, inl, inr, ℕ, zero, suc, List, [], length, map, set, get_or, slice_index, Option, Some, None, refl, sym, ap, subst, ◌∙◌, arith, bit_and, Bool, true, false, not, ◌==◌, if◌then◌else◌, get_or-set_same, get_or-set_other}
use Rattle.std.specs.Prelude.{nat_lt, ◌&&◌}
use Rattle.std.proofs.lemmas.Bool.{cases_lt}
use Rattle.std.proofs.lemmas.List.{get_or-map, length-set}
use Rattle.std.proofs.Math.Nat.{mul-le-mul_right}
use Rattle.nor_cell.specs.Chip.{ChipState, Part, block_at, place}
use Rattle.nor_cell.specs.Loads.{room}
use Rattle.nor_cell.specs.Table.{buffer_units, left_at_start}
use Rattle.nor_cell.specs.declared.device.Work.TheVariants.{Buffer}
use Rattle.nor_cell.specs.declared.geometry.Geometry.{Geometry}
use Rattle.nor_cell.proofs.Logic.{not_passed, same_number}
use Rattle.nor_probe.specs.declared.probing.Found.{Found}
use Rattle.nor_bus.specs.Bus.{BusState, bank_byte, chip_at, lane, lanes_of}
use Rattle.nor_bus.specs.Driven.{Counted}
use Rattle.nor_bus.proofs.Driving.{units_kept}
use Rattle.nor_bank.specs.Pieces.{CanProgramAll, IsAnded, TakesLoads, TellsWord, Wait, changes_word}
use Rattle.nor_bank.specs.Programs.{Lasts, ProgramsPiece, ProgramsTo, changes_of, datum_at, word_passes, words_passing}
use Rattle.nor_bank.specs.Ranges.{MeetsWord}
use Rattle.nor_bank.specs.Runs.{joins_in, limit_in, load_limit_in, units_in}
use Rattle.nor_bank.specs.State.{blocks_of}
use Rattle.nor_bank.proofs.Anding.{ends_same}
use Rattle.nor_bank.proofs.Breaking.{changes_datum}
use Rattle.nor_bank.proofs.Changing.{changes_same, lowest_some, passes_same}
use Rattle.nor_bank.proofs.OneWord.{byte_small, same_lasts, same_shown, weak_still}
use Rattle.nor_bank.proofs.PiecesProgrammed.{joined}
use Rattle.nor_bank.proofs.WordByWord.{before, can_lasts}

-- ---- words that are kept

-- what a list of words holds with one of them set
module _ {X : Type 0} (bytes : X → List ℕ) (xs : List X) (n : ℕ) (x : X) where
  pub kept_there : n < length xs → get_or (map bytes (set xs n x)) n [] ≡ bytes x
  kept_there below =
      let size = length-set xs n x in
      get_or-map bytes (set xs n x) n x [] (omega (arith, size, below)) ∙ ap bytes (get_or-set_same xs n x x below)

  pub kept_others : (k : ℕ) → k < length xs → k ≢ n → get_or (map bytes (set xs n x)) k [] ≡ get_or (map bytes xs) k []
  kept_others k below apart =
      let size = length-set xs n x in
      get_or-map bytes (set xs n x) k x [] (omega (arith, size, below)) ∙ (ap bytes (get_or-set_other xs n k x x apart) ∙ sym (get_or-map bytes xs k x [] below))

-- ---- the same chips

pub to_same : (g : Geometry) (at : ℕ) (new : List ℕ) (next : ℕ) (old now mid : BusState) → mid.lanes ≡ now.lanes → ProgramsTo g at new next old now → ProgramsTo g at new next old mid
to_same g at new next old now mid same to = record {
  lasts = subst (λ (ls : List ChipState). (c : ℕ) → c < lanes_of old → Lasts (lane old c) (chip_at ls c)) (sym same) to.lasts;
  shown = same_shown now mid same to.shown;
  done = λ a less. ap (λ (ls : List ChipState). bank_byte g.device ls a) same ∙ to.done a less;
  rest = λ a more. ap (λ (ls : List ChipState). bank_byte g.device ls a) same ∙ to.rest a more;
  whole = to.whole;
}

-- ---- chips that last can be programmed on

-- what is asked of a chip of its part alone
loads_last : (w : ℕ) (f : Found) (at len : ℕ) (s t : ChipState) → Lasts s t → TakesLoads w f at len s → TakesLoads w f at len t
loads_last w f at len s t lasts load = record {
  room = ap (λ (p : Part). buffer_units p.device p.table) lasts.part ∙ load.room;
  reads = subst (λ (p : Part). left_at_start Buffer p.pace_program p.table < load_limit_in f) (sym lasts.part) load.reads;
  blocks = λ u v first later same.
      ap (λ (p : Part). block_at p.blocks (place p v)) lasts.part ∙ (load.blocks u v first later same ∙ sym (ap (λ (p : Part). block_at p.blocks (place p u)) lasts.part));
}

pub can_all : (w : ℕ) (f : Found) (at : ℕ) (new : List ℕ) (next least most : ℕ) (old now : BusState) → Counted least most old now → CanProgramAll w f at (length new) old → ProgramsTo f.geometry at new next old now
    → CanProgramAll w f at (length new) now
can_all w f at new next least most old now counted can to =
    let kept = counted.went.kept in
    record {
      words = can_lasts w f.query.set f.geometry (limit_in f) at new next least most old now counted (units_kept old now kept) can.words to;
      loads = λ c below.
          let there = before old now c kept.count below in
          loads_last w f at (length new) (lane old c) (lane now c) (to.lasts c there) (can.loads c there);
    }

-- ---- what would change

-- word v would change as it did at first, if it lies behind what is done
pub still_changes : (w : ℕ) (g : Geometry) (at next v : ℕ) (new : List ℕ) (old now : BusState) → next ≤ v * w → ProgramsTo g at new next old now
    → changes_word w g at new v now ≡ changes_word w g at new v old
still_changes w g at next v new old now behind to =
    passes_same w (changes_of g now at new) (changes_of g old at new) v
    (λ p from end. changes_same (bank_byte g.device now.lanes) (bank_byte g.device old.lanes) at new p (λ begins ends. to.rest p (omega (arith, behind, from))))

-- and behind a piece that was programmed
pub piece_changes : (w : ℕ) (g : Geometry) (bits at from to v : ℕ) (new : List ℕ) (mid now : BusState) → to ≤ v * w → ProgramsPiece g bits at new from to mid now
    → changes_word w g at new v now ≡ changes_word w g at new v mid
piece_changes w g bits at from to v new mid now behind piece =
    passes_same w (changes_of g now at new) (changes_of g mid at new) v
    (λ p low end. changes_same (bank_byte g.device now.lanes) (bank_byte g.device mid.lanes) at new p (λ begins ends. piece.above p (omega (arith, behind, low))))

not_so : (b : Bool) → not b ≡ false → b ≡ true
not_so true is = refl
not_so false is = absurd (cc)

-- A word that doesn't change is done as it is.
pub piece_still : (w : ℕ) (f : Found) (at u : ℕ) (new : List ℕ) (bus : BusState) → CanProgramAll w f at (length new) bus → changes_word w f.geometry at new u bus ≡ false
    → ProgramsPiece f.geometry 0 at new (u * w) ((u + 1) * w) bus bus
piece_still w f at u new bus can none =
    let g = f.geometry in
    let byte = bank_byte g.device bus.lanes in
    let end : (u + 1) * w ≡ u * w + w = omega arith in
    let fails : (a : ℕ) → u * w ≤ a → a < (u + 1) * w → changes_of g bus at new a ≡ false =
    λ a low high. not_passed (changes_of g bus at new a) (λ passes.
    let some = lowest_some (changes_of g bus at new) (u * w) w a low (omega (arith, end, high)) passes in
    cc) in
    record {
      lasts = same_lasts bus bus refl can.words.chips;
      shown = same_shown bus bus refl can.words.chips;
      done = λ a low high.
          let small = byte_small w g.device bus a can.words.own.bank can.words.chips in
          ends_same _ (byte a) (datum_at at new a) (same_number _ _ (not_so _ (changes_datum byte at new a small ∙ fails a low high)));
      below = λ a low. refl;
      above = λ a high. refl;
      named = λ units. weak_still w g (u + 1) (u * w) at new bus can.words.own units fails;
    }

-- ---- words that wait

module _ (w : ℕ) (f : Found) (at : ℕ) (new : List ℕ) where
  -- the same chips, or chips that hold the same bytes from the first of them on
  pub wait_on : (first n : ℕ) (all : List (List ℕ)) (now mid : BusState) → ((a : ℕ) → first * w ≤ a → bank_byte f.geometry.device mid.lanes a ≡ bank_byte f.geometry.device now.lanes a)
      → Wait w f at new first n all now → Wait w f at new first n all mid
  wait_on first n all now mid same wait = record {
    meets = wait.meets;
    together = wait.together;
    each = λ k there j less.
        let row = mul-le-mul_right w (let h : first ≤ first + k = omega arith in h) in
        wait.each k there j less ∙ sym (ap (λ (x : ℕ). bit_and x (datum_at at new ((first + k) * w + j))) (same ((first + k) * w + j) (omega (arith, row))));
    changes = λ k there.
        let row = mul-le-mul_right w (let h : first ≤ first + k = omega arith in h) in
        passes_same w (changes_of f.geometry mid at new) (changes_of f.geometry now at new) (first + k)
        (λ p from end. changes_same (bank_byte f.geometry.device mid.lanes) (bank_byte f.geometry.device now.lanes) at new p (λ begins ends. same p (omega (arith, row, from))))
        ∙ wait.changes k there;
  }

  pub wait_none : (first : ℕ) (all : List (List ℕ)) (bus : BusState) → Wait w f at new first 0 all bus
  wait_none first all bus = record {
    meets = λ k there. absurd (omega (arith, there));
    together = λ k some there. absurd (omega (arith, there));
    each = λ k there. absurd (omega (arith, there));
    changes = λ k there. absurd (omega (arith, there));
  }

  -- one word more, behind those that wait
  pub wait_more : (first n u : ℕ) (all next : List (List ℕ)) (word : List ℕ) (bus : BusState) → u ≡ first + n → ((k : ℕ) → k < n → get_or next k [] ≡ get_or all k []) → get_or next n [] ≡ word
      → MeetsWord w u at (length new) → (0 < n → joins_in w f first u ≡ true) → TellsWord w f.geometry at new u bus (Some word) → Wait w f at new first n all bus
      → Wait w f at new first (n + 1) next bus
  wait_more first n u all next word bus here same last meets joins tells wait = record {
    meets = λ k there. elim (cases_lt k n) [
      | inl less ↦ wait.meets k less
      | inr end ↦ subst (λ (v : ℕ). MeetsWord w v at (length new)) (omega (arith, here, there, end)) meets
    ];
    together = λ k some there. elim (cases_lt k n) [
      | inl less ↦ wait.together k some less
      | inr end ↦ subst (λ (v : ℕ). joins_in w f first v ≡ true) (omega (arith, here, there, end)) (joins (omega (arith, some, there, end)))
    ];
    each = λ k there. elim (cases_lt k n) [
      | inl less ↦ (λ j small. ap (λ (l : List ℕ). slice_index l j) (same k less) ∙ wait.each k less j small)
      | inr end ↦
          let is : n ≡ k = omega (arith, there, end) in
          let v : u ≡ first + k = omega (arith, here, is) in
          let list : get_or next k [] ≡ word = ap (λ (m : ℕ). get_or next m []) (sym is) ∙ last in
          subst (λ (l : List ℕ). IsAnded w f.geometry.device at new (first + k) bus l) (sym list) (subst (λ (m : ℕ). IsAnded w f.geometry.device at new m bus word) v tells.0)
    ];
    changes = λ k there. elim (cases_lt k n) [
      | inl less ↦ wait.changes k less
      | inr end ↦ subst (λ (v : ℕ). changes_word w f.geometry at new v bus ≡ true) (omega (arith, here, there, end)) tells.1
    ];
  }

-- ---- counting

-- each of the words that wait is one that changes
pub passing_more : (w : ℕ) (test : ℕ → Bool) (first m n : ℕ) → ((k : ℕ) → k < n → word_passes w test (first + m + k) ≡ true) → words_passing w test first (m + n) ≡ words_passing w test first m + n
passing_more w test first m zero each = ap (words_passing w test first) (let h : m + 0 ≡ m = omega arith in h) ∙ (let e : words_passing w test first m ≡ words_passing w test first m + 0 = omega arith in e)
passing_more w test first m (suc n) each =
    let one : word_passes w test (first + (m + n)) ≡ true = ap (word_passes w test) (let h : first + (m + n) ≡ first + m + n = omega arith in h) ∙ each n (omega arith) in
    let rest = passing_more w test first m n (λ k less. each k (omega (arith, less))) in
    let step : words_passing w test first (m + suc n) ≡ words_passing w test first (suc (m + n)) = ap (words_passing w test first) (let h : m + suc n ≡ suc (m + n) = omega arith in h) in
    let next : words_passing w test first (suc (m + n)) ≡ words_passing w test first (m + n) + 1 = ap (λ (b : Bool). words_passing w test first (m + n) + (if b then 1 else 0)) one in
    step ∙ (next ∙ (let e : words_passing w test first (m + n) + 1 ≡ words_passing w test first m + suc n = omega (arith, rest) in e))

-- one word more, whatever it does
pub passing_least : (w : ℕ) (test : ℕ → Bool) (first n : ℕ) → words_passing w test first n ≤ words_passing w test first (suc n)
passing_least w test first n = omega arith

-- ---- words that go together

-- those that go with a word go with each that goes with it
pub joins_alike : (w : ℕ) (f : Found) (a v u : ℕ) → joins_in w f a v ≡ true → joins_in w f v u ≡ joins_in w f a u
joins_alike w f a v u is =
    let join = joined w f a v is in
    ap (λ (page : ℕ). nat_lt 0 (units_in f) && (u / units_in f == page) && (block_at (blocks_of f) (u * w) == block_at (blocks_of f) (v * w))) join.page
    ∙ ap (λ (block : ℕ). nat_lt 0 (units_in f) && (u / units_in f == a / units_in f) && (block_at (blocks_of f) (u * w) == block)) join.block

-- what a word is to become, where its bytes are the same
pub tells_on : (w : ℕ) (g : Geometry) (at : ℕ) (new : List ℕ) (u : ℕ) (word : Option (List ℕ)) (now mid : BusState) → ((a : ℕ) → u * w ≤ a → bank_byte g.device mid.lanes a ≡ bank_byte g.device now.lanes a)
    → TellsWord w g at new u now word → TellsWord w g at new u mid word
tells_on w g at new u None now mid same tells =
    passes_same w (changes_of g mid at new) (changes_of g now at new) u (λ p from end. changes_same (bank_byte g.device mid.lanes) (bank_byte g.device now.lanes) at new p (λ begins ends. same p from)) ∙ tells
tells_on w g at new u (Some word) now mid same tells = (
  λ j less. tells.0 j less ∙ sym (ap (λ (x : ℕ). bit_and x (datum_at at new (u * w + j))) (same (u * w + j) (omega arith))),
  passes_same w (changes_of g mid at new) (changes_of g now at new) u (λ p from end. changes_same (bank_byte g.device mid.lanes) (bank_byte g.device now.lanes) at new p (λ begins ends. same p from))
      ∙ tells.1,
)
