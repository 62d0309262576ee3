-- A program that breaks off, as the array that the bank stands for admits it.
use Rattle.std.proofs.Common.{◌≡◌, ◌<◌, ◌≤◌, ◌+◌, ◌-◌, ◌*◌, ◌/◌, ◌%◌, ◌⊎◌, inl, inr, ℕ, List, [], length, take, slice_index, bit_and, refl, sym, ◌∙◌, ap, subst, arith, Bool, true, false, ◌&&◌, ◌==◌, nat_le, nat_lt}
use Rattle.std.specs.Prelude.{min, max}
use Rattle.std.specs.List.{list_any, list_all}
use Rattle.std.proofs.lemmas.Bool.{cases_lt}
use Rattle.std.proofs.lemmas.List.{length-take-le, get_or-take}
use Rattle.std.proofs.Math.Nat.{mul-le-mul_right}
use Rattle.nor_cell.specs.Bits.{IsBetween, has_bit, unit_len}
use Rattle.nor_cell.specs.Chip.{span_end, block_at}
use Rattle.nor_cell.specs.Wiring.{bank_place}
use Rattle.nor_cell.specs.declared.device.Span.{Span}
use Rattle.nor_cell.specs.declared.geometry.Geometry.{Geometry}
use Rattle.nor_cell.proofs.Logic.{both_pass, is_below, is_at_most, passes_below, not_passed}
use Rattle.nor_poll.proofs.Between.{stored_between}
use Rattle.nor_bus.specs.Bus.{BusState, lane, lanes_of, bank_byte, bank_bytes}
use Rattle.nor_bus.specs.Driven.{AllLanes, Went}
use Rattle.nor_cell.specs.Table.{buffer_units_of}
use Rattle.nor_query.specs.Derived.{suspend_of}
use Rattle.nor_probe.specs.declared.probing.Found.{Found}
use Rattle.nor_array.specs.Array.{ArrayState, Constants, put, range, meets}
use Rattle.nor_array.specs.After.{programmed}
use Rattle.nor_array.specs.Admits.{AllBetween, FailsWithin, would_change, span_changes, program_breaks, breaks_here, breaks_before}
use Rattle.nor_array.specs.Legal.{Facts, IsPiece, AreLanes, OthersAre, FailsInPiece}
use Rattle.nor_array.proofs.Puts.{length-put, put_below, put_inside, put_above, length-range, slice_index-range}
use Rattle.nor_array.specs.declared.entry.Op.TheVariants.{Program}
use Rattle.nor_array.specs.declared.entry.Reply.TheVariants.{Failed}
use Rattle.nor_bank.specs.Calls.{facts_of}
use Rattle.nor_bank.specs.Programs.{BreaksOff, ByteEnds, HasWeakUnits, MeetsPiece, begin_of, end_of, changes_of, datum_at, is_of, unit_passes}
use Rattle.nor_bank.specs.declared.programming.Piece.{Piece}
use Rattle.nor_bank.specs.Runs.{IsRun, units_in}
use Rattle.nor_bank.specs.Stands.{is_under, weak_span, weak_spans}
use Rattle.nor_bank.specs.State.{BankState, blocks_of, word_bytes, size_of, byte_of}
use Rattle.nor_bank.specs.Work.{with_bus}
use Rattle.nor_bank.proofs.Anding.{and_ones, no_bits, none_broke}
use Rattle.nor_bank.proofs.BankBytes.{length-bank_bytes, bank_bytes-at}
use Rattle.nor_bank.proofs.Breaking.{unit_passing, unit_passed, unit_before, unit_behind, changes_in}
use Rattle.nor_bank.proofs.Changing.{lowest_some}
use Rattle.nor_bank.proofs.Known.{known_own, known_word}
use Rattle.nor_bank.proofs.OneWord.{own_units}
use Rattle.nor_bank.proofs.Padding.{datum_in, datum_out}
use Rattle.nor_bank.proofs.Programmed.{and_small, between_ones, ends_unlocked, length_programmed, programmed_at, ready_inside, ready_small, serves_lasts, under_outside}
use Rattle.nor_bank.proofs.PiecesFree.{Ready, ready_byte}
use Rattle.nor_bank.proofs.PiecesProgrammed.{joined}
use Rattle.nor_bank.proofs.Ending.{EndsWork}
use Rattle.nor_bank.proofs.Holding.{stands_served}
use Rattle.nor_bank.proofs.Searching.{same_answer, is_passed, any_so, any_weaker, lowest_passes}
use Rattle.nor_bank.proofs.WeakSpans.{of_lane, spans_none, spans_some, lane_spans, few_bits, with_pass, weak_units, changes_alike, spans_are}

-- ---- where it breaks off

-- what is known of a bank of which this was found, where these chips never end their work
abbrev pub facts_by : Found → List Bool → Facts
facts_by f stuck = record {
  geometry = f.geometry;
  buffer_units = buffer_units_of f.geometry.device f.query.buffer_log;
  suspend = suspend_of f.query.extended;
  stuck = stuck;
}

-- The part of a range that lies in a bus word.
record IsPart (at end from to begin finish : ℕ) : Type 0 where
  low : at ≤ begin
  word_low : from ≤ begin
  least : (q : ℕ) → at ≤ q → from ≤ q → begin ≤ q
  high : finish ≤ end
  word_high : finish ≤ to
  most : (q : ℕ) → q < end → q < to → q < finish
  some : begin < finish

part_is : (at end from to : ℕ) → at < end → from < to → from < end → at < to → IsPart at end from to (max at from) (min end to)
part_is at end from to more wide before behind = record {
  low = grind arith;
  word_low = grind arith;
  least = λ q x y. grind (arith, x, y);
  high = grind arith;
  word_high = grind arith;
  most = λ q x y. grind (arith, x, y);
  some = grind (arith, more, wide, before, behind);
}

-- programming leaves bits between
ends_between : (broke : Bool) (x d y : ℕ) → ByteEnds broke x d y → IsBetween x d y
ends_between false x d y is = subst (IsBetween x d) (sym is) (stored_between x d)
ends_between true x d y is = is

-- ones leave the byte
ends_ones : (broke : Bool) (x y : ℕ) → x < 256 → ByteEnds broke x 255 y → y ≡ x
ends_ones false x y small is = is ∙ and_ones x small
ends_ones true x y small is = between_ones x y small (subst (λ (n : ℕ). n < 256) is.clears_only (and_small y x small)) is

module _ (b : BankState) (bus : BusState) (a : ArrayState) (at lanes : ℕ) (from : List ℕ) (piece : Piece) (stuck : List Bool) (ready : Ready b a at from)
    (is_piece : IsPiece (facts_by b.found stuck) a.consts.blocks piece.first piece.words)
    (before_end : begin_of (word_bytes b.found) piece < at + length from) (behind_start : at < end_of (word_bytes b.found) piece)
    (broke : BreaksOff b.found.geometry lanes at from (begin_of (word_bytes b.found) piece) (end_of (word_bytes b.found) piece) b.bus bus) where
  abbrev g : Geometry
  g = b.found.geometry

  abbrev w : ℕ
  w = word_bytes b.found

  -- the piece, and its part of the range
  abbrev start : ℕ
  start = begin_of w piece

  abbrev stop : ℕ
  stop = end_of w piece

  abbrev begin : ℕ
  begin = max at start

  abbrev finish : ℕ
  finish = min (at + length from) stop

  abbrev pub left : List ℕ
  left = bank_bytes g.device bus.lanes begin (finish - begin)

  part : IsPart at (at + length from) start stop begin finish
  part =
      let some = known_word b.found b.bus ready.stands.known in
      let words = is_piece.some in
      let more = mul-le-mul_right w (let h : piece.first + 1 ≤ piece.first + piece.words = omega (arith, words) in h) in
      part_is at (at + length from) start stop (let filled = ready.some in omega (arith, filled)) (omega (arith, some, more)) before_end behind_start

  units : AllLanes HasWeakUnits b.bus
  units = weak_units b a ready.stands

  small : (p : ℕ) → byte_of b p < 256
  small p = ready_small b a at from ready p

  inside : at + length from ≤ length a.bytes
  inside = ready_inside b a at from ready

  old_byte : (p : ℕ) → at ≤ p → p < at + length from → slice_index a.bytes p ≡ byte_of b p
  old_byte p begins ends = ready_byte b a at from p ready begins ends

  -- what would change of the bank would change of the array
  alike : (p : ℕ) → changes_of g b.bus at from p ≡ would_change a.bytes at from p
  alike p = changes_alike b a at from (λ q low high. ready_byte b a at from q ready low high) p

  spans : a.consts.weak ≡ weak_spans g 0 b.bus.lanes
  spans = spans_are b a ready.stands

  lanes_are : lanes_of b.bus ≡ g.lanes
  lanes_are = (known_own b.found b.bus ready.stands.known).count

  its_units : (c : ℕ) → c < lanes_of b.bus → list_all (λ p. p % unit_len g.device == 0) (lane b.bus c).part.weak ≡ true
  its_units c below = own_units w g b.bus c (known_own b.found b.bus ready.stands.known) units below

  -- ---- the weak spans that would change in the part

  abbrev breaks_in : Span → Bool
  breaks_in span = meets begin (finish - begin) span && span_changes a.bytes at from span

  to_part : (c p : ℕ) → c < g.lanes → p % unit_len g.device ≡ 0
      → unit_passes g (changes_of g b.bus at from) start stop c p ≡ true → breaks_in (weak_span g c p) ≡ true
  to_part c p below whole is =
      let d = unit_len g.device in
      let passing = unit_passing g (changes_of g b.bus at from) start stop c p is in
      let q = passing.byte.place in
      let behind = passing.byte.from in
      let before = passing.byte.before in
      let range = changes_in (byte_of b) at from q passing.byte.passes in
      let last = unit_before g.lanes d (piece.first + piece.words) c p below whole passing.ends in
      let first = passing.begins in
      let from_begin = part.least q range.0 (omega (arith, first, behind)) in
      let to_finish = part.most q range.1 (omega (arith, before, last)) in
      let some = part.some in
      with_pass _ _
      (with_pass _ _ (with_pass _ _ (passes_below 0 (finish - begin) (omega (arith, some))) (passes_below begin (span_end (weak_span g c p)) (omega (arith, from_begin, before))))
      (passes_below (bank_place g.lanes d c p) (begin + (finish - begin)) (omega (arith, behind, to_finish, some))))
      (lowest_some (would_change a.bytes at from) (bank_place g.lanes d c p) d q behind before (sym (alike q) ∙ passing.byte.passes))

  of_part : (c p : ℕ) → c < g.lanes → p % unit_len g.device ≡ 0 → breaks_in (weak_span g c p) ≡ true
      → unit_passes g (changes_of g b.bus at from) start stop c p ≡ true
  of_part c p below whole is =
      let d = unit_len g.device in
      let parts = both_pass (meets begin (finish - begin) (weak_span g c p)) _ is in
      let met = both_pass (nat_lt 0 (finish - begin) && nat_lt begin (span_end (weak_span g c p))) (nat_lt (bank_place g.lanes d c p) (begin + (finish - begin))) parts.0 in
      let ends = is_below begin (span_end (weak_span g c p)) (both_pass (nat_lt 0 (finish - begin)) (nat_lt begin (span_end (weak_span g c p))) met.0).1 in
      let starts = is_below (bank_place g.lanes d c p) (begin + (finish - begin)) met.1 in
      let byte = lowest_passes (would_change a.bytes at from) (bank_place g.lanes d c p) d parts.1 in
      let word_low = part.word_low in
      let word_high = part.word_high in
      let some = part.some in
      let first = unit_behind g.lanes d piece.first c p below whole (omega (arith, word_low, ends)) in
      unit_passed g (changes_of g b.bus at from) start stop c p byte.place first (omega (arith, starts, word_high, some))
      byte.from byte.before (alike byte.place ∙ byte.passes)

  -- a lane is named where a weak span of it would change there
  lane_named : (c : ℕ) → c < g.lanes → has_bit lanes c ≡ list_any (λ p. breaks_in (weak_span g c p)) (lane b.bus c).part.weak
  lane_named c low =
      let below : c < lanes_of b.bus = subst (λ (n : ℕ). c < n) (sym lanes_are) low in
      let weak = (lane b.bus c).part.weak in
      let begins = its_units c below in
      (broke.named units).each c low
      ∙ same_answer _ _
      (any_so (unit_len g.device) (unit_passes g (changes_of g b.bus at from) start stop c) (λ p. breaks_in (weak_span g c p)) weak begins (λ p whole. to_part c p low whole))
      (any_so (unit_len g.device) (λ p. breaks_in (weak_span g c p)) (unit_passes g (changes_of g b.bus at from) start stop c) weak begins (λ p whole. of_part c p low whole))

  named : AreLanes (facts_by b.found stuck) breaks_in a.consts.weak lanes
  named = record {
    few = few_bits g.lanes lanes (broke.named units).past;
    each = λ c low.
        let below : c < lanes_of b.bus = subst (λ (n : ℕ). c < n) (sym lanes_are) low in
        lane_named c low
        ∙ (sym (lane_spans g breaks_in c b.bus.lanes lanes_are below) ∙ ap (λ (l : List Span). list_any (of_lane g c breaks_in) l) (sym spans));
  }

  -- there is one
  here : breaks_here a at from begin (finish - begin) ≡ true
  here = is_passed _ (λ none.
      absurd (broke.some (no_bits lanes (λ c. elim (cases_lt c g.lanes) [
        | inl low ↦ not_passed (has_bit lanes c) (λ set.
            let below : c < lanes_of b.bus = subst (λ (n : ℕ). c < n) (sym lanes_are) low in
            let first : 0 + c ≡ c = omega arith in
            let its : list_any (λ p. breaks_in (weak_span g (0 + c) p)) (lane b.bus c).part.weak ≡ true =
            subst (λ (n : ℕ). list_any (λ p. breaks_in (weak_span g n p)) (lane b.bus c).part.weak ≡ true) (sym first) (sym (lane_named c low) ∙ set) in
            let both : true ≡ false = sym (spans_some g breaks_in 0 c b.bus.lanes below its) ∙ (ap (λ (l : List Span). list_any breaks_in l) (sym spans) ∙ none) in
            cc)
        | inr high ↦ (broke.named units).past c high
      ]))))

  pub whole_breaks : program_breaks a at from ≡ true
  whole_breaks = any_weaker breaks_in (span_changes a.bytes at from) a.consts.weak (λ span is. (both_pass (meets begin (finish - begin) span) _ is).1) here

  -- and none before
  abbrev breaks_below : Span → Bool
  breaks_below span = nat_le (span_end span) begin && span_changes a.bytes at from span

  of_before : (c p : ℕ) → breaks_below (weak_span g c p) ≡ true → unit_passes g (changes_of g b.bus at from) 0 start c p ≡ true
  of_before c p is =
      let d = unit_len g.device in
      let parts = both_pass (nat_le (span_end (weak_span g c p)) begin) _ is in
      let ends = is_at_most (span_end (weak_span g c p)) begin parts.0 in
      let byte = lowest_passes (would_change a.bytes at from) (bank_place g.lanes d c p) d parts.1 in
      let q = byte.place in
      let low = byte.from in
      let high = byte.before in
      let range = changes_in (slice_index a.bytes) at from q byte.passes in
      elim (cases_lt q start) [
        | inl before ↦ unit_passed g (changes_of g b.bus at from) 0 start c p q (omega arith) (omega (arith, low, before)) low high (alike q ∙ byte.passes)
        | inr behind ↦ (let least = part.least q range.0 behind in absurd (omega (arith, least, ends, high)))
      ]

  not_before : breaks_before a at from begin ≡ false
  not_before =
      ap (λ (l : List Span). list_any breaks_below l) spans
      ∙ spans_none g breaks_below 0 b.bus.lanes (λ k below.
      not_passed _ (λ some.
      let low : k < g.lanes = subst (λ (n : ℕ). k < n) lanes_are below in
      let first : 0 + k ≡ k = omega arith in
      let its = subst (λ (n : ℕ). list_any (λ p. breaks_below (weak_span g n p)) (lane b.bus k).part.weak ≡ true) first some in
      let broken = any_weaker (λ p. breaks_below (weak_span g k p)) (unit_passes g (changes_of g b.bus at from) 0 start k) (lane b.bus k).part.weak (λ p is. of_before k p is) its in
      let both : true ≡ false = sym broken ∙ (sym ((broke.whole units).each k low) ∙ none_broke k) in
      cc))

  -- ---- the bytes

  left_size : length left ≡ finish - begin
  left_size = length-bank_bytes g.device bus.lanes begin (finish - begin)

  left_at : (k : ℕ) → k < finish - begin → slice_index left k ≡ bank_byte g.device bus.lanes (begin + k)
  left_at k less = bank_bytes-at g.device bus.lanes begin (finish - begin) k less

  ends_at : (p : ℕ) → begin ≤ p → p < finish → ByteEnds (is_of g lanes p) (byte_of b p) (datum_at at from p) (bank_byte g.device bus.lanes p)
  ends_at p low high =
      let word_low = part.word_low in
      let word_high = part.word_high in
      broke.here p (omega (arith, word_low, low)) (omega (arith, word_high, high))

  between : AllBetween (range a.bytes begin (finish - begin)) (range from (begin - at) (finish - begin)) left
  between =
      let fit = inside in
      let part_high = part.high in
      let some = part.some in
      let at_low = part.low in
      let size : length (range a.bytes begin (finish - begin)) ≡ finish - begin = length-range a.bytes begin (finish - begin) (omega (arith, fit, part_high, some)) in
      record {
        size = left_size ∙ sym size;
        each = λ k near.
            let less : k < finish - begin = omega (arith, size, near) in
            let p = begin + k in
            let ends = ends_at p (omega arith) (omega (arith, less)) in
            let old : byte_of b p ≡ slice_index (range a.bytes begin (finish - begin)) k =
            sym (old_byte p (omega (arith, at_low)) (omega (arith, less, part_high))) ∙ sym (slice_index-range a.bytes begin (finish - begin) k less) in
            let place : p - at ≡ begin - at + k = omega (arith, at_low) in
            let datum : datum_at at from p ≡ slice_index (range from (begin - at) (finish - begin)) k =
            datum_in at from p (omega (arith, at_low)) (omega (arith, less, part_high)) ∙ (ap (slice_index from) place ∙ sym (slice_index-range from (begin - at) (finish - begin) k less)) in
            subst (λ (n : ℕ). IsBetween n (slice_index (range from (begin - at) (finish - begin)) k) (slice_index left k)) old
            (subst (λ (n : ℕ). IsBetween (byte_of b p) n (slice_index left k)) datum
            (subst (λ (n : ℕ). IsBetween (byte_of b p) (datum_at at from p) n) (sym (left_at k less)) (ends_between (is_of g lanes p) _ _ _ ends)));
      }

  others : OthersAre (facts_by b.found stuck) lanes begin (λ p. bit_and (slice_index a.bytes p) (slice_index from (p - at))) left
  others k near apart =
      let part_high = part.high in
      let at_low = part.low in
      let size = left_size in
      let less : k < finish - begin = omega (arith, size, near) in
      let p = begin + k in
      let ends = ends_at p (omega arith) (omega (arith, less)) in
      let stored : bank_byte g.device bus.lanes p ≡ bit_and (byte_of b p) (datum_at at from p) =
      subst (λ (x : Bool). ByteEnds x (byte_of b p) (datum_at at from p) (bank_byte g.device bus.lanes p)) apart ends in
      left_at k less
      ∙ (stored
      ∙ (ap (λ (n : ℕ). bit_and n (datum_at at from p)) (sym (old_byte p (omega (arith, at_low)) (omega (arith, less, part_high))))
      ∙ ap (λ (n : ℕ). bit_and (slice_index a.bytes p) n) (datum_in at from p (omega (arith, at_low)) (omega (arith, less, part_high)))))

  -- ---- the array afterwards

  abbrev front : List ℕ
  front = take (begin - at) from

  abbrev pub failed_bytes : List ℕ
  failed_bytes = put (programmed a.bytes at front) begin left

  front_size : length front ≡ begin - at
  front_size =
      let some = part.some in
      let part_high = part.high in
      let at_low = part.low in
      length-take-le (begin - at) from (omega (arith, some, part_high, at_low))

  front_fits : at + length front ≤ length a.bytes
  front_fits =
      let size = front_size in
      let fit = inside in
      let some = part.some in
      let part_high = part.high in
      let at_low = part.low in
      omega (arith, size, fit, some, part_high, at_low)

  room : begin + length left ≤ length (programmed a.bytes at front)
  room =
      let size = left_size in
      let long = length_programmed a.bytes at front front_fits in
      let fit = inside in
      let some = part.some in
      let part_high = part.high in
      omega (arith, size, long, fit, some, part_high)

  pub failed_size : length failed_bytes ≡ size_of b.found
  failed_size = length-put (programmed a.bytes at front) begin left room ∙ (length_programmed a.bytes at front front_fits ∙ ready.stands.size)

  -- a byte outside the part that lies in the word stays
  stays_out : (p : ℕ) → start ≤ p → p < stop → (p < at) ⊎ (at + length from ≤ p) → bank_byte g.device bus.lanes p ≡ byte_of b p
  stays_out p low high out =
      ends_ones (is_of g lanes p) (byte_of b p) (bank_byte g.device bus.lanes p) (small p)
      (subst (λ (n : ℕ). ByteEnds (is_of g lanes p) (byte_of b p) n (bank_byte g.device bus.lanes p)) (datum_out at from p out) (broke.here p low high))

  ones_keep : (p : ℕ) → (p < at) ⊎ (at + length from ≤ p) → byte_of b p ≡ bit_and (byte_of b p) (datum_at at from p)
  ones_keep p out = sym (ap (λ (n : ℕ). bit_and (byte_of b p) n) (datum_out at from p out) ∙ and_ones (byte_of b p) (small p))

  done_below : (p : ℕ) → p < begin → bank_byte g.device bus.lanes p ≡ bit_and (byte_of b p) (datum_at at from p)
  done_below p low = elim (cases_lt p start) [
    | inl before ↦ broke.before p before
    | inr behind ↦ elim (cases_lt p at) [
      | inl out ↦
          let some = part.some in
          let word_high = part.word_high in
          stays_out p behind (omega (arith, low, some, word_high)) (inl out) ∙ ones_keep p (inl out)
      | inr begins ↦ (let least = part.least p begins behind in absurd (omega (arith, least, low)))
    ]
  ]

  same_behind : (p : ℕ) → finish ≤ p → bank_byte g.device bus.lanes p ≡ byte_of b p
  same_behind p high = elim (cases_lt p stop) [
    | inr past ↦ broke.behind p past
    | inl inner ↦ elim (cases_lt p (at + length from)) [
      | inr out ↦
          let some = part.some in
          let word_low = part.word_low in
          stays_out p (omega (arith, high, some, word_low)) inner (inr out)
      | inl ends ↦ (let most = part.most p ends inner in absurd (omega (arith, most, high)))
    ]
  ]

  front_datum : (p : ℕ) → p < begin → datum_at at front p ≡ datum_at at from p
  front_datum p low = elim (cases_lt p at) [
    | inl out ↦ datum_out at front p (inl out) ∙ sym (datum_out at from p (inl out))
    | inr begins ↦
        let size = front_size in
        let some = part.some in
        let part_high = part.high in
        datum_in at front p begins (omega (arith, size, low, begins))
        ∙ (get_or-take (begin - at) from (p - at) 0 (omega (arith, low, begins)) ∙ sym (datum_in at from p begins (omega (arith, low, some, part_high))))
  ]

  front_at : (p : ℕ) → p < size_of b.found → is_under a.under a.consts p ≡ false → slice_index (programmed a.bytes at front) p ≡ bit_and (byte_of b p) (datum_at at front p)
  front_at p below free =
      let byte = ready.stands.bytes p below free in
      programmed_at a.bytes at front p front_fits (subst (λ (n : ℕ). n < 256) (sym byte) (small p)) ∙ ap (λ (n : ℕ). bit_and n (datum_at at front p)) byte

  pub failed_each : (p : ℕ) → p < size_of b.found → is_under a.under a.consts p ≡ false → slice_index failed_bytes p ≡ bank_byte g.device bus.lanes p
  failed_each p below free =
      let base = programmed a.bytes at front in
      let size = left_size in
      let some = part.some in
      elim (cases_lt p begin) [
        | inl low ↦
            put_below base begin left room p low
            ∙ (front_at p below free ∙ (ap (λ (n : ℕ). bit_and (byte_of b p) n) (front_datum p low) ∙ sym (done_below p low)))
        | inr begins ↦ elim (cases_lt p finish) [
          | inl ends ↦
              let place : begin + (p - begin) ≡ p = omega (arith, begins) in
              put_inside base begin left room p begins (omega (arith, size, ends, some))
              ∙ (left_at (p - begin) (omega (arith, begins, ends)) ∙ ap (λ (n : ℕ). bank_byte g.device bus.lanes n) place)
          | inr past ↦
              let long = front_size in
              let at_low = part.low in
              put_above base begin left room p (omega (arith, size, past, some))
              ∙ (front_at p below free
              ∙ (ap (λ (n : ℕ). bit_and (byte_of b p) n) (datum_out at front p (inr (omega (arith, long, at_low, begins))))
              ∙ (and_ones (byte_of b p) (small p) ∙ sym (same_behind p past))))
        ]
      ]

  -- what is under erase stays
  pub under_stays : (p : ℕ) → is_under a.under a.consts p ≡ true → bank_byte g.device bus.lanes p ≡ byte_of b p
  under_stays p is = elim (under_outside b a at from ready p is) [
    | inl out ↦
        let low = part.low in
        done_below p (omega (arith, out, low)) ∙ sym (ones_keep p (inl out))
    | inr out ↦
        let part_high = part.high in
        same_behind p (omega (arith, out, part_high))
  ]

  -- ---- the entry

  pub fails_within : FailsWithin a at from begin finish left
  fails_within = record { begins = part.low; some = part.some; ends = part.high; here = here; not_before = not_before; between = between }

  pub fails_in_piece : FailsInPiece (facts_by b.found stuck) a at from begin finish lanes left
  fails_in_piece = record { first = piece.first; words = piece.words; piece = is_piece; begins = refl; ends = refl; named = named; others = others }

-- a run is a piece
pub run_piece : (f : Found) (blocks : List Span) (stuck : List Bool) (test : ℕ → Bool) (at len first words : ℕ) → blocks ≡ blocks_of f → IsRun (word_bytes f) f test at len first words
    → IsPiece (facts_by f stuck) blocks first words
run_piece f blocks stuck test at len first words same run =
    let w = word_bytes f in
    let some = run.some in
    let last = first + words - 1 in
    let join = λ (more : 1 < words). joined w f first last (run.together last (omega (arith, more)) (omega (arith, more))) in
    let alone = λ (one : words ≤ 1). (let h : first ≡ last = omega (arith, one, some) in h) in
    record {
      some = some;
      alone = λ none. elim (cases_lt 1 words) [
        | inl more ↦ (let units = (join more).some in absurd (omega (arith, units, none)))
        | inr one ↦ omega (arith, one, some)
      ];
      page = λ buffered. elim (cases_lt 1 words) [
        | inl more ↦ sym (join more).page
        | inr one ↦ ap (λ (n : ℕ). n / units_in f) (alone one)
      ];
      block = elim (cases_lt 1 words) [
        | inl more ↦ subst (λ (bs : List Span). block_at bs (first * w) ≡ block_at bs (last * w)) (sym same) (sym (join more).block)
        | inr one ↦ ap (λ (n : ℕ). block_at blocks (n * w)) (alone one)
      ];
    }

-- A program in a piece of which lanes broke off.
pub program_failed : (b : BankState) (a : ArrayState) (at caller lanes n : ℕ) (from : List ℕ) (piece : Piece) (stuck : List Bool) (old : BankState) (bus : BusState) → Ready b a at from
    → facts_of old ≡ facts_by b.found stuck
    → MeetsPiece (word_bytes b.found) piece at (length from) → IsRun (word_bytes b.found) b.found (changes_of b.found.geometry b.bus at from) at (length from) piece.first piece.words
    → BreaksOff b.found.geometry lanes at from (begin_of (word_bytes b.found) piece) (end_of (word_bytes b.found) piece) b.bus bus → Went n n b.bus bus
    → EndsWork caller (Program at from) old b (with_bus b bus)
    (Failed (max at (begin_of (word_bytes b.found) piece)) (min (at + length from) (end_of (word_bytes b.found) piece)) lanes) [] a
program_failed b a at caller lanes n from piece stuck old bus ready facts meets run broke went =
    let w = word_bytes b.found in
    let begin = max at (begin_of w piece) in
    let finish = min (at + length from) (end_of w piece) in
    let reply = Failed begin finish lanes in
    let stands = ready.stands in
    let blocks : a.consts.blocks ≡ blocks_of b.found = ap (λ (k : Constants). k.blocks) stands.consts in
    let is_piece = run_piece b.found a.consts.blocks stuck (changes_of b.found.geometry b.bus at from) at (length from) piece.first piece.words blocks run in
    let before = meets.before_end in
    let behind = meets.behind_start in
    let its = left b bus a at lanes from piece stuck ready is_piece before behind broke in
    let bytes = failed_bytes b bus a at lanes from piece stuck ready is_piece before behind broke in
    let lasts = broke.lasts in
    let serves = serves_lasts b.bus bus went.kept.count lasts broke.shown in
    record {
      ends = ends_unlocked a (Program at from) reply its ready.unlocked
          (whole_breaks b bus a at lanes from piece stuck ready is_piece before behind broke, fails_within b bus a at lanes from piece stuck ready is_piece before behind broke);
      agrees = subst (λ (facts : Facts). FailsInPiece facts a at from begin finish lanes its) (sym facts) (fails_in_piece b bus a at lanes from piece stuck ready is_piece before behind broke);
      serves = serves;
      stands =
          stands_served b bus a bytes a.locks n n stands ready.running ready.chips.shown went serves (λ none. refl) refl
          (λ c below. let there : c < lanes_of b.bus = subst (λ (m : ℕ). c < m) went.kept.count below in (lasts c there).locks ∙ stands.locks c there)
          (failed_size b bus a at lanes from piece stuck ready is_piece before behind broke)
          (λ p below under. under_stays b bus a at lanes from piece stuck ready is_piece before behind broke p under)
          (λ p below free. failed_each b bus a at lanes from piece stuck ready is_piece before behind broke p below free);
    }
