-- A range that is programmed piece by piece: the ways out.
use Rattle.std.proofs.Common.{◌≡◌, ◌≢◌, ◌<◌, ◌≤◌, ◌+◌, ◌-◌, ◌*◌, ◌/◌, ◌⊎◌, inl, inr, ℕ, List, length, map, refl, sym, ap, subst, ◌∙◌, arith, Bool, true, false, Option, Some, None, is_some, if◌then◌else◌}
use Rattle.std.specs.Prelude.{nat_lt, ◌&&◌}
use Rattle.std.specs.Option.{option_map}
use Rattle.std.proofs.Math.Nat.{mul-le-mul_right}
use Rattle.nor_cell.specs.declared.geometry.Geometry.{Geometry}
use Rattle.nor_cell.proofs.Logic.{passes_below, quotient_rises}
use Rattle.nor_probe.specs.declared.probing.Found.{Found}
use Rattle.nor_bus.specs.Bus.{BusState}
use Rattle.nor_bank.specs.Pieces.{CanProgramAll, CostsWords, ReadsWord, TakesPiece, Wait, due_in, piece_before, word_cost_in}
use Rattle.nor_bank.specs.Programs.{ForBroken, MeetsPiece, PieceBecomes, RangeBecomes, Takes, changes_of, goes_on}
use Rattle.nor_bank.specs.Ranges.{words_met}
use Rattle.nor_bank.specs.Runs.{IsRun, WordChanges, joins_in, least_limit}
use Rattle.nor_bank.specs.declared.programming.Outcome.{Outcome}
use Rattle.nor_bank.specs.declared.programming.Outcome.TheVariants.{Skipped, Stored, BrokeOff, GivenUp}
use Rattle.nor_bank.proofs.PiecesEnds.{InRange, more_fits, most_fits, range_costs, range_done, range_run, range_stops, range_takes, range_there}
use Rattle.nor_bank.proofs.PiecesKept.{Passed}
use Rattle.nor_bank.proofs.PiecesLoop.{Between, SoFar, so_read}
use Rattle.nor_bank.proofs.PiecesWaiting.{can_all, still_changes}
use Rattle.nor_bank.proofs.Ranging.{past_last}

pub in_range_of : (w at len first last u : ℕ) → 0 < w → 0 < len → first ≡ at / w → last ≡ (at + (len - 1)) / w → first ≤ u → u ≤ last + 1 → InRange w at len first last u
in_range_of w at len first last u wide some begins ends from to =
    let place : at + (len - 1) ≡ at + len - 1 = omega (arith, some) in
    let rises = quotient_rises at (at + (len - 1)) w wide (omega arith) in
    record {
      some = some;
      begins = begins;
      ends = ends ∙ ap (λ (n : ℕ). n / w) place;
      from = from;
      to = to;
      order = omega (arith, begins, ends, rises);
    }

-- ---- words that can't wait

-- Where some can't wait, none of those that wait can, and the next one doesn't go with them.
due_so : (test : Bool) (n due : ℕ) → due ≡ (if test then 0 else n) → due ≢ 0 → (due ≡ n) × (test ≡ false)
due_so true n due is some = absurd (some is)
due_so false n due is some = (is, refl)

pub due_all : (w : ℕ) (f : Found) (n u due : ℕ) (changes : Bool) → due ≡ due_in w f n u changes → due ≢ 0 → (due ≡ n) × ((changes && nat_lt 0 n && joins_in w f (u - n) u) ≡ false)
due_all w f n u due changes is some = due_so (changes && nat_lt 0 n && joins_in w f (u - n) u) n due is some

not_skipped : (o : Outcome) → goes_on o ≡ false → o ≡ Skipped → ⊥
not_skipped o stops is = let both : true ≡ false = sym (ap goes_on is) ∙ stops in cc

module _ {X : Type 0} (bytes : X → List ℕ) (w : ℕ) (f : Found) (at : ℕ) (new : List ℕ) (first last u n : ℕ) (xs : List X) (word : Option X) (o : Outcome) (old now mid after : BusState)
    (in_range : InRange w at (length new) first last u) (less : u < last + 1) (between : Between bytes w f at new first u n xs old now) (stops : goes_on o ≡ false) where
  abbrev g : Geometry
  g = f.geometry

  abbrev len : ℕ
  len = length new

  abbrev cost : ℕ
  cost = word_cost_in f

  -- of all that wait
  so : Passed bytes w f at new u n n xs word o now mid after → SoFar w f at new first (u - first + 1) u n (map bytes xs) old mid
  so passed = so_read w f at new first (u - first) u n (map bytes xs) (option_map bytes word) old now mid passed.went passed.reads between.so

  -- the word doesn't go with them
  apart : (word : Option X) → (is_some word && nat_lt 0 n && joins_in w f (u - n) u) ≡ false → (CanProgramAll w f at len now → ReadsWord w g at new u (option_map bytes word) now mid)
      → CanProgramAll w f at len old → 0 < n → WordChanges w (changes_of g old at new) at len u → joins_in w f (u - n) u ≡ false
  apart (Some it) test reads can some changed = sym (ap (λ (b : Bool). b && joins_in w f (u - n) u) (passes_below 0 n some)) ∙ test
  apart None test reads can some changed =
      let s = between.so.stand can in
      let can_now = can_all w f at new ((u - n) * w) (u - first) (u - first + (u - n - first) * cost) old now between.so.counted can s.to in
      let row = mul-le-mul_right w (let h : u - n ≤ u = omega arith in h) in
      let fails = sym (still_changes w g at ((u - n) * w) u new old now row s.to) ∙ (reads can_now).tells in
      absurd (let both : true ≡ false = sym changed.changes ∙ fails in cc)

  module _ (due : ℕ) (given : Passed bytes w f at new u n due xs word o now mid after) (this : ForBroken o (λ piece. (piece ≡ piece_before due u) × (0 < due))) where
    all_due : (due ≡ n) × ((is_some word && nat_lt 0 n && joins_in w f (u - n) u) ≡ false)
    all_due = due_all w f n u due (is_some word) given.due_is (λ none. not_skipped o stops (given.none none).0)

    passed : Passed bytes w f at new u n n xs word o now mid after
    passed = subst (λ (d : ℕ). Passed bytes w f at new u n d xs word o now mid after) all_due.0 given

    named : ForBroken o (λ piece. (piece ≡ piece_before n u) × (0 < n))
    named = subst (λ (d : ℕ). ForBroken o (λ piece. (piece ≡ piece_before d u) × (0 < d))) all_due.0 this

    pub stops_becomes : CanProgramAll w f at len old → RangeBecomes w g at new o old after
    stops_becomes can = range_stops w f at new first last (u - first + 1) u n (map bytes xs) old mid after in_range.from (so passed) can o stops passed.takes named passed.becomes

    pub stops_takes : Takes g.lanes (least_limit f) (words_met at len w * (cost + 1)) o old after
    stops_takes =
        range_takes w f at new first last (u - first + 1) u n (map bytes xs) o old mid after in_range.from (omega arith) (more_fits w f at new first last u in_range less) passed.takes (so passed)

    pub stops_there : 0 < w → ForBroken o (λ piece. MeetsPiece w piece at len)
    stops_there wide = range_there w f at new first last u n o wide in_range between.so.order named

    pub stops_run : CanProgramAll w f at len old → ForBroken o (λ piece. IsRun w f (changes_of g old at new) at len piece.first piece.words)
    stops_run can = range_run w f at new first last (u - first + 1) u n (map bytes xs) old mid after in_range.from (so passed) can o named (apart word all_due.1 passed.reads can)

-- ---- behind the last word

goes_or_stops : (o : Outcome) → (goes_on o ≡ true) ⊎ (goes_on o ≡ false)
goes_or_stops Skipped = inl refl
goes_or_stops Stored = inl refl
goes_or_stops (BrokeOff piece lanes) = inr refl
goes_or_stops (GivenUp halt) = inr refl

module _ {X : Type 0} (bytes : X → List ℕ) (w : ℕ) (f : Found) (at : ℕ) (new : List ℕ) (first last u n : ℕ) (xs : List X) (o : Outcome) (old mid after : BusState) (wide : 0 < w)
    (in_range : InRange w at (length new) first last (last + 1)) (past : u ≡ last + 1) (between : Between bytes w f at new first u n xs old mid) (takes : TakesPiece f n o mid after) where
  so_end : SoFar w f at new first (last + 1 - first) (last + 1) n (map bytes xs) old mid
  so_end = subst (λ (v : ℕ). SoFar w f at new first (v - first) v n (map bytes xs) old mid) past between.so

  pub ends_takes : Takes f.geometry.lanes (least_limit f) (words_met at (length new) w * (word_cost_in f + 1)) o old after
  ends_takes =
      let order = in_range.order in
      range_takes w f at new first last (last + 1 - first) (last + 1) n (map bytes xs) o old mid after in_range.from (omega (arith, order)) (most_fits w f at new first last (last + 1) in_range) takes so_end

  pub ends_there : ForBroken o (λ piece. (piece ≡ piece_before n (last + 1)) × (0 < n)) → ForBroken o (λ piece. MeetsPiece w piece at (length new))
  ends_there this = range_there w f at new first last (last + 1) n o wide in_range so_end.order this

  module _ (becomes : (at : ℕ) (new : List ℕ) → CanProgramAll w f at (length new) mid → Wait w f at new (last + 1 - n) n (map bytes xs) mid → PieceBecomes w f.geometry at new (piece_before n (last + 1)) o mid after)
      (this : ForBroken o (λ piece. (piece ≡ piece_before n (last + 1)) × (0 < n))) (can : CanProgramAll w f at (length new) old) where
    pub ends_becomes : RangeBecomes w f.geometry at new o old after
    ends_becomes = elim (goes_or_stops o) [
      | inl goes ↦ range_done w f at new first last n (map bytes xs) o old mid after wide in_range takes so_end can becomes goes
      | inr stops ↦ range_stops w f at new first last (last + 1 - first) (last + 1) n (map bytes xs) old mid after in_range.from so_end can o stops takes this becomes
    ]

    pub ends_cost : goes_on o ≡ true → CostsWords w f at new old after
    ends_cost goes = range_costs w f at new first last n (map bytes xs) o old mid after wide in_range takes so_end can becomes goes

    pub ends_run : ForBroken o (λ piece. IsRun w f (changes_of f.geometry old at new) at (length new) piece.first piece.words)
    ends_run =
        range_run w f at new first last (last + 1 - first) (last + 1) n (map bytes xs) old mid after in_range.from so_end can o this
        (λ some changed.
        let ends = in_range.ends in
        let more = in_range.some in
        let behind = past_last (at + length new - 1) w (last + 1) wide (omega (arith, ends)) in
        let before = changed.meets.before_end in
        absurd (omega (arith, behind, before, more)))
