-- A range that is programmed piece by piece: how it begins, and how it ends.
use Rattle.std.proofs.Common.{◌≡◌, ◌≢◌, ◌<◌, ◌≤◌, ◌+◌, ◌-◌, ◌*◌, ◌/◌, inl, inr, ℕ, List, length, sym, ap, subst, ◌∙◌, arith, bit_and, true, false}
use Rattle.std.proofs.lemmas.Bool.{cases_lt}
use Rattle.std.proofs.lemmas.Nat.{div-add-mod'}
use Rattle.std.proofs.Math.Nat.{mul-le-mul_right}
use Rattle.nor_cell.specs.declared.geometry.Geometry.{Geometry}
use Rattle.nor_probe.specs.declared.probing.Found.{Found}
use Rattle.nor_bus.specs.Bus.{BusState, bank_byte, lane}
use Rattle.nor_bus.specs.Cycles.{BusFails}
use Rattle.nor_bus.specs.Driven.{Counted, Lost}
use Rattle.nor_bus.proofs.Counting.{counted_lost, counted_then}
use Rattle.nor_bus.proofs.Driving.{some_lane, went_none}
use Rattle.nor_poll.specs.declared.lanes.Halt.{Halt}
use Rattle.nor_poll.specs.declared.lanes.Halt.TheVariants.{Off, Stuck}
use Rattle.nor_bank.specs.Pieces.{CanProgramAll, CostsWords, TakesPiece, Wait, changes_word, piece_before, word_cost_in}
use Rattle.nor_bank.specs.Programs.{BreaksOff, ByteEnds, ForBroken, GivesUp, LeavesBy, MeetsPiece, PieceBecomes, ProgramsPiece, ProgramsTo, RangeBecomes, Takes, begin_of, changes_of, datum_at, end_of, goes_on, is_of, words_passing}
use Rattle.nor_bank.specs.Ranges.{MeetsWord, words_met}
use Rattle.nor_bank.specs.Runs.{IsRun, WordChanges, joins_in, least_limit, limit_in}
use Rattle.nor_bank.specs.declared.programming.Piece.{Piece}
use Rattle.nor_bank.specs.declared.programming.Outcome.{Outcome}
use Rattle.nor_bank.specs.declared.programming.Outcome.TheVariants.{Skipped, Stored, BrokeOff, GivenUp}
use Rattle.nor_bank.proofs.Anding.{and_ones, none_broke}
use Rattle.nor_bank.proofs.Breaking.{passes_none_less}
use Rattle.nor_bank.proofs.OneWord.{byte_small, dark_leaves}
use Rattle.nor_bank.proofs.Padding.{datum_out}
use Rattle.nor_bank.proofs.PiecesLoop.{SoFar, counted_due, flush_to, passing_due}
use Rattle.nor_bank.proofs.PiecesWaiting.{can_all, still_changes, wait_none}
use Rattle.nor_bank.proofs.Ranging.{after_first, before_last, past_last, words_some}
use Rattle.nor_bank.proofs.Standing.{lasts_on}
use Rattle.nor_bank.proofs.WordByWord.{leaves_by, leaves_on, programs_start, weak_at_first}

-- ---- the words of a range

-- Word u is one of the range from `first` to `last`, or the one behind.
pub record InRange (w at len first last u : ℕ) : Type 0 where
  pub some : 0 < len
  pub begins : first ≡ at / w
  pub ends : last ≡ (at + len - 1) / w
  pub from : first ≤ u
  pub to : u ≤ last + 1
  pub order : first ≤ last

pub words_are : (w at len first last u : ℕ) → InRange w at len first last u → words_met at len w ≡ last + 1 - first
words_are w at len first last u in_range =
    let begins = in_range.begins in
    let ends = in_range.ends in
    words_some at len w in_range.some ∙ (let h : (at + len - 1) / w + 1 - at / w ≡ last + 1 - first = omega (arith, begins, ends) in h)

module _ (w : ℕ) (f : Found) (at : ℕ) (new : List ℕ) (first last : ℕ) where
  abbrev g : Geometry
  g = f.geometry

  abbrev len : ℕ
  len = length new

  abbrev cost : ℕ
  cost = word_cost_in f

  abbrev words : ℕ
  words = words_met at len w

  -- ---- the begin

  pub so_none : (all : List (List ℕ)) (bus : BusState) → first ≡ at / w → SoFar w f at new first (first - first) first 0 all bus bus
  so_none all bus begins =
      let none : first - first ≡ 0 = omega arith in
      let start : first - 0 ≡ first = omega arith in
      let start_row : first * w ≤ at =
      let whole = div-add-mod' at w in
      let row : first * w ≡ at / w * w = ap (λ (n : ℕ). n * w) begins in
      omega (arith, whole, row) in
      record {
        order = omega arith;
        few = omega arith;
        buffered = λ several. absurd (omega (arith, several));
        counted = record { cycles = 0; enough = omega (arith, none); few = omega arith; went = went_none bus };
        stand = λ can. record {
          to = subst (λ (m : ℕ). ProgramsTo g at new (m * w) bus bus) (sym start)
              (programs_start w f.query.set g (limit_in f) first at new bus begins can.words);
          wait = wait_none w f at new (first - 0) all bus;
          costs = record { cycles = 0; enough = omega (arith, none); few = omega arith; went = went_none bus };
          starts = λ some. absurd (omega (arith, some));
          rests = λ nothing v next changed.
              let behind = changed.meets.behind_start in
              let row : (v + 1) * w ≡ first * w = ap (λ (m : ℕ). m * w) next in
              let split : (v + 1) * w ≡ v * w + w = omega arith in
              omega (arith, behind, row, split, start_row);
        };
      }

  -- ---- cycles

  -- no more than each word may cost
  pub most_fits : (u : ℕ) → InRange w at len first last u → u - first + (u - first) * cost ≤ words * (cost + 1)
  most_fits u in_range =
      let count = words_are w at len first last u in_range in
      let from = in_range.from in
      let to = in_range.to in
      let all = mul-le-mul_right (cost + 1) (let h : u - first ≤ words = omega (arith, count, from, to) in h) in
      let split : (u - first) * (cost + 1) ≡ u - first + (u - first) * cost = omega arith in
      omega (arith, all, split)

  pub more_fits : (u : ℕ) → InRange w at len first last u → u < last + 1 → u - first + 1 + (u - first) * cost ≤ words * (cost + 1)
  more_fits u in_range less =
      let count = words_are w at len first last u in_range in
      let from = in_range.from in
      let all = mul-le-mul_right (cost + 1) (let h : u - first + 1 ≤ words = omega (arith, count, from, less) in h) in
      let split : (u - first + 1) * (cost + 1) ≡ u - first + 1 + (u - first) * cost + cost = omega arith in
      omega (arith, all, split)

  -- the words that wait and those before them
  split_due : (u n : ℕ) → first + n ≤ u → (u - first) * cost ≡ (u - n - first) * cost + n * cost
  split_due u n order =
      ap (λ x. x * cost) (let h : u - first ≡ u - n - first + n = omega (arith, order) in h) ∙ (let h : (u - n - first + n) * cost ≡ (u - n - first) * cost + n * cost = omega arith in h)

  -- ---- the words that wait were programmed, and the range ends there

  module _ (read u n : ℕ) (all : List (List ℕ)) (o : Outcome) (old mid after : BusState) (from : first ≤ u) (some : 0 < read) (most : read + (u - first) * cost ≤ words * (cost + 1))
      (takes : TakesPiece f n o mid after) (so : SoFar w f at new first read u n all old mid) where
    counted_all : (least : ℕ) → Counted least (n * cost) mid after → Counted 1 (words * (cost + 1)) old after
    counted_all least counted =
        let split = split_due u n so.order in
        counted_then read (read + (u - n - first) * cost) least (n * cost) 1 (words * (cost + 1)) old mid after (omega (arith, some)) (omega (arith, split, most)) so.counted counted

    gives_up_all : (halt : Halt) → GivesUp g.lanes (least_limit f) (n * cost) halt mid after → GivesUp g.lanes (least_limit f) (words * (cost + 1)) halt old after
    gives_up_all Off lost =
        let split = split_due u n so.order in
        counted_lost read (read + (u - n - first) * cost) (n * cost) (words * (cost + 1)) old mid after (omega (arith, split, most)) so.counted lost
    gives_up_all (Stuck k) stuck =
        let split = split_due u n so.order in
        (stuck.0, counted_then read (read + (u - n - first) * cost) (least_limit f) (n * cost) (least_limit f) (words * (cost + 1)) old mid after (omega arith) (omega (arith, split, most)) so.counted stuck.1)

    takes_by : (o : Outcome) → TakesPiece f n o mid after → Takes g.lanes (least_limit f) (words * (cost + 1)) o old after
    takes_by Skipped same = counted_all 0 (subst (λ b. Counted 0 (n * cost) mid b) (sym same) (record { cycles = 0; enough = omega arith; few = omega arith; went = went_none mid }))
    takes_by Stored counted = counted_all n counted
    takes_by (BrokeOff piece lanes) counted = counted_all n counted
    takes_by (GivenUp halt) gives = gives_up_all halt gives

    pub range_takes : Takes g.lanes (least_limit f) (words * (cost + 1)) o old after
    range_takes = takes_by o takes

  -- the range meets the piece
  there_by : (u n : ℕ) (o : Outcome) → 0 < w → first ≡ at / w → last ≡ (at + len - 1) / w → 0 < len → first + n ≤ u → u ≤ last + 1 → ForBroken o (λ piece. (piece ≡ piece_before n u) × (0 < n)) → ForBroken o (λ piece. MeetsPiece w piece at len)
  there_by u n Skipped wide begins ends some low high this = tt
  there_by u n Stored wide begins ends some low high this = tt
  there_by u n (GivenUp halt) wide begins ends some low high this = tt
  there_by u n (BrokeOff broken lanes) wide begins ends some low high this =
      let any = this.1 in
      let start = before_last (at + len - 1) w (u - n) wide (omega (arith, ends, any, low, high)) in
      let stop = after_first at w (u - 1) wide (omega (arith, begins, any, low)) in
      let end : u - n + n ≡ u - 1 + 1 = omega (arith, any, low) in
      let row : (u - n + n) * w ≡ (u - 1 + 1) * w = ap (λ (m : ℕ). m * w) end in
      let split : (u - 1 + 1) * w ≡ (u - 1) * w + w = omega arith in
      subst (λ (piece : Piece). MeetsPiece w piece at len) (sym this.0) (record { some = any; before_end = omega (arith, start, some); behind_start = omega (arith, stop, row, split) })

  pub range_there : (u n : ℕ) (o : Outcome) → 0 < w → InRange w at len first last u → first + n ≤ u → ForBroken o (λ piece. (piece ≡ piece_before n u) × (0 < n)) → ForBroken o (λ piece. MeetsPiece w piece at len)
  range_there u n o wide in_range order this = there_by u n o wide in_range.begins in_range.ends in_range.some order in_range.to this

  -- ---- what became of it

  module _ (read u n : ℕ) (all : List (List ℕ)) (old mid after : BusState) (from : first ≤ u) (so : SoFar w f at new first read u n all old mid) (can : CanProgramAll w f at len old) where
    can_mid : CanProgramAll w f at len mid
    can_mid = can_all w f at new ((u - n) * w) read (read + (u - n - first) * cost) old mid so.counted can (so.stand can).to

    -- lanes broke off in the piece
    breaks_off : (bits : ℕ) → bits ≢ 0 → ProgramsPiece g bits at new ((u - n) * w) ((u - n + n) * w) mid after → BreaksOff g bits at new ((u - n) * w) ((u - n + n) * w) old after
    breaks_off bits some piece =
        let to = (so.stand can).to in
        let count = so.counted.went.kept.count in
        let row = mul-le-mul_right w (let h : u - n ≤ u - n + n = omega arith in h) in
        record {
          lasts = lasts_on old mid after count to.lasts piece.lasts;
          shown = piece.shown;
          before = λ a low. piece.below a low ∙ to.done a low;
          here = λ a low high.
              subst (λ (x : ℕ). ByteEnds (is_of g bits a) x (datum_at at new a) (bank_byte g.device after.lanes a)) (to.rest a low) (piece.done a low high);
          behind = λ a high. piece.above a high ∙ to.rest a (omega (arith, high, row));
          some = some;
          whole = to.whole;
          named = weak_at_first w g (u - n + n) ((u - n) * w) at bits new old mid count can.words.own to piece.named;
        }

    gives_by : (halt : Halt) → GivesUp g.lanes (least_limit f) (n * cost) halt mid after → LeavesBy g.device at new ((u - n) * w) halt mid after → LeavesBy g.device at new at halt old after
    gives_by halt gave leaves =
        leaves_by w f.query.set g (least_limit f) (u - n) at (n * cost) new old mid after halt (some_lane w g.device old.lanes can.words.own.bank) so.counted.went.kept.count can.words.own.count (so.stand can).to gave leaves

    stops_by : (o : Outcome) → goes_on o ≡ false → TakesPiece f n o mid after → ForBroken o (λ piece. (piece ≡ piece_before n u) × (0 < n)) → PieceBecomes w g at new (piece_before n u) o mid after
        → RangeBecomes w g at new o old after
    stops_by Skipped stops takes this part = absurd (cc)
    stops_by Stored stops takes this part = absurd (cc)
    stops_by (GivenUp halt) stops takes this part = gives_by halt takes part
    stops_by (BrokeOff broken lanes) stops takes this part =
        subst (λ (piece : Piece). BreaksOff g lanes.bits at new (begin_of w piece) (end_of w piece) old after) (sym this.0) (breaks_off lanes.bits part.0 part.1)

    pub range_stops : (o : Outcome) → goes_on o ≡ false → TakesPiece f n o mid after → ForBroken o (λ piece. (piece ≡ piece_before n u) × (0 < n))
        → ((at : ℕ) (new : List ℕ) → CanProgramAll w f at (length new) mid → Wait w f at new (u - n) n all mid → PieceBecomes w g at new (piece_before n u) o mid after)
        → RangeBecomes w g at new o old after
    range_stops o stops takes this becomes = stops_by o stops takes this (becomes at new can_mid (so.stand can).wait)

    -- each of the words that wait changes, as the chips were at first
    waits_change : (v : ℕ) → u - n ≤ v → v < u - n + n → WordChanges w (changes_of g old at new) at len v
    waits_change v low high =
        let s = so.stand can in
        let k = v - (u - n) in
        let here : u - n + k ≡ v = omega (arith, low) in
        let less : k < n = omega (arith, low, high) in
        let row = mul-le-mul_right w low in
        record {
          meets = subst (λ (m : ℕ). MeetsWord w m at len) here (s.wait.meets k less);
          changes = sym (still_changes w g at ((u - n) * w) v new old mid row s.to) ∙ (ap (λ (m : ℕ). changes_word w g at new m mid) (sym here) ∙ s.wait.changes k less);
        }

    is_run : 0 < n → (WordChanges w (changes_of g old at new) at len u → joins_in w f (u - n) u ≡ false) → IsRun w f (changes_of g old at new) at len (u - n) n
    is_run some behind =
        let s = so.stand can in
        let order = so.order in
        let end : u ≡ u - n + n = omega (arith, order) in
        record {
          some = some;
          each = waits_change;
          together = λ v low high. subst (λ (m : ℕ). joins_in w f (u - n) m ≡ true) (let h : u - n + (v - (u - n)) ≡ v = omega (arith, low) in h) (s.wait.together (v - (u - n)) (omega (arith, low)) (omega (arith, low, high)));
          before = λ v next changed. s.starts some v next changed;
          behind = subst (λ (m : ℕ). WordChanges w (changes_of g old at new) at len m → joins_in w f (u - n) m ≡ false) end behind;
        }

    pub range_run : (o : Outcome) → ForBroken o (λ piece. (piece ≡ piece_before n u) × (0 < n)) → (0 < n → WordChanges w (changes_of g old at new) at len u → joins_in w f (u - n) u ≡ false)
        → ForBroken o (λ piece. IsRun w f (changes_of g old at new) at len piece.first piece.words)
    range_run Skipped this behind = tt
    range_run Stored this behind = tt
    range_run (GivenUp halt) this behind = tt
    range_run (BrokeOff broken lanes) this behind =
        subst (λ (piece : Piece). IsRun w f (changes_of g old at new) at len piece.first piece.words) (sym this.0) (is_run this.1 (behind this.1))

  -- ---- all of it

  -- up to the end of the range
  to_end : (u : ℕ) (old now : BusState) → 0 < w → InRange w at len first last u → last + 1 ≤ u → CanProgramAll w f at len old → ProgramsTo g at new (u * w) old now → ProgramsTo g at new (at + len) old now
  to_end u old now wide in_range past can to =
      let ends = in_range.ends in
      let some = in_range.some in
      let behind = past_last (at + len - 1) w u wide (omega (arith, ends, past)) in
      let reach : at + len ≤ u * w = omega (arith, behind, some) in
      record {
        lasts = to.lasts;
        shown = to.shown;
        done = λ a less. to.done a (omega (arith, reach, less));
        rest = λ a high. elim (cases_lt a (u * w)) [
          | inl low ↦
              to.done a low
              ∙ (ap (λ (m : ℕ). bit_and (bank_byte g.device old.lanes a) m) (datum_out at new a (inr high)) ∙ and_ones (bank_byte g.device old.lanes a) (byte_small w g.device old a can.words.own.bank can.words.chips))
          | inr far ↦ to.rest a far
        ];
        whole = λ units. record {
          each = λ c low.
              none_broke c
              ∙ sym (passes_none_less g (changes_of g old at new) (u * w) (at + len) c (lane old c).part.weak reach
              (sym ((to.whole units).each c low) ∙ none_broke c));
          past = λ c high. none_broke c;
        };
      }

  stored_by : (o : Outcome) (old after : BusState) → goes_on o ≡ true → ProgramsTo g at new (at + len) old after → RangeBecomes w g at new o old after
  stored_by Skipped old after goes to = to
  stored_by Stored old after goes to = to
  stored_by (BrokeOff broken lanes) old after goes to = absurd (cc)
  stored_by (GivenUp halt) old after goes to = absurd (cc)

  module _ (n : ℕ) (all : List (List ℕ)) (o : Outcome) (old mid after : BusState) (wide : 0 < w) (in_range : InRange w at len first last (last + 1)) (takes : TakesPiece f n o mid after)
      (so : SoFar w f at new first (last + 1 - first) (last + 1) n all old mid) (can : CanProgramAll w f at len old)
      (becomes : (at : ℕ) (new : List ℕ) → CanProgramAll w f at (length new) mid → Wait w f at new (last + 1 - n) n all mid → PieceBecomes w g at new (piece_before n (last + 1)) o mid after) where
    pub range_done : goes_on o ≡ true → RangeBecomes w g at new o old after
    range_done goes =
        stored_by o old after goes (to_end (last + 1) old after wide in_range (omega arith) can (flush_to w f at new first (last + 1 - first) (last + 1) n all o old mid after in_range.from goes so (becomes at new) can))

    pub range_costs : goes_on o ≡ true → CostsWords w f at new old after
    range_costs goes =
        let s = so.stand can in
        let count = words_are w at len first last (last + 1) in_range in
        let read = last + 1 - first in
        let passed = words_passing w (changes_of g old at new) first (last + 1 - n - first) in
        let more = passing_due w f at new first read (last + 1) n all old mid so can in
        let sum : words_passing w (changes_of g old at new) first read * cost ≡ (passed + n) * cost = ap (λ x. x * cost) more in
        let split : (passed + n) * cost ≡ passed * cost + n * cost = omega arith in
        let here = counted_then read (read + passed * cost) 0 (n * cost) read (read + words_passing w (changes_of g old at new) first read * cost) old mid after (omega arith) (omega (arith, sum, split)) s.costs
        (counted_due w f at new first n o mid after goes takes) in
        subst (λ (k : ℕ). Counted words (words + words_passing w (changes_of g old at new) k words * cost) old after) in_range.begins
        (subst (λ (m : ℕ). Counted m (m + words_passing w (changes_of g old at new) first m * cost) old after) (sym count) here)

  -- ---- a word couldn't be read

  pub read_leaves : (read u n : ℕ) (all : List (List ℕ)) (old now after : BusState) → SoFar w f at new first read u n all old now → Lost 1 now after → BusFails now after → CanProgramAll w f at len old
      → LeavesBy g.device at new at Off old after
  read_leaves read u n all old now after so lost fails can =
      let s = so.stand can in
      let can_now = can_all w f at new ((u - n) * w) read (read + (u - n - first) * cost) old now so.counted can s.to in
      leaves_on g at ((u - n) * w) new old now after (some_lane w g.device old.lanes can.words.own.bank) so.counted.went.kept.count s.to
      (dark_leaves w g.device at new now after can_now.words.own.bank can_now.words.chips lost.kept fails)

  pub read_lost : (u n : ℕ) (all : List (List ℕ)) (old now after : BusState) → InRange w at len first last u → u < last + 1 → SoFar w f at new first (u - first) u n all old now → Lost 1 now after
      → Lost (words * (cost + 1)) old after
  read_lost u n all old now after in_range less so lost =
      let most = more_fits u in_range less in
      let split = split_due u n so.order in
      counted_lost (u - first) (u - first + (u - n - first) * cost) 1 (words * (cost + 1)) old now after (omega (arith, most, split)) so.counted lost
