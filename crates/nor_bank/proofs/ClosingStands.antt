-- A bank whose erase has ended.
use Rattle.std.proofs.Common.{◌≡◌, ◌≢◌, ◌<◌, ◌≤◌, ◌+◌, ◌-◌, ◌%◌, ◌^◌, lit<, inl, inr, ℕ, List, length, slice_index, refl, sym, ◌∙◌, ap, subst, arith, Bool, true, false, Option, Some, None}
use Rattle.std.specs.Prelude.{◌==◌, nat_le, nat_lt}
use Rattle.std.specs.List.{list_any}
use Rattle.std.proofs.Math.Nat.{div-eq_of_lt, pow-le-pow_right}
use Rattle.std.proofs.lemmas.Bool.{cases_lt, le-leb, lt-ltb, and_from}
use Rattle.nor_cell.specs.Bits.{has_bit, unit_len}
use Rattle.nor_cell.specs.Chip.{ChipState, Target as ChipTarget, NotHeld, no_span, covered, is_within, span_end}
use Rattle.nor_cell.specs.Look.{is_weak}
use Rattle.nor_cell.specs.Wiring.{lane_at, place_at}
use Rattle.nor_cell.specs.declared.geometry.Geometry.{Geometry}
use Rattle.nor_cell.specs.declared.device.Span.{Span}
use Rattle.nor_cell.proofs.Spans.{ends_between}
use Rattle.nor_lane.proofs.Places.{lane_at_below}
use Rattle.nor_bus.specs.Bus.{lane, lanes_of, chip_at}
use Rattle.nor_poll.specs.UnderErase.{LaneIs, IsErased, part_of, state_at}
use Rattle.nor_poll.specs.declared.lanes.LaneState.{LaneState}
use Rattle.nor_poll.specs.declared.lanes.LaneState.TheVariants.{Running, Suspended, Finished, Broken}
use Rattle.nor_probe.specs.declared.probing.Found.{Found}
use Rattle.nor_array.specs.Array.{ArrayState, Constants, IsThere, chip_target, erase_span, open_span, meets, put}
use Rattle.nor_array.specs.After.{closed}
use Rattle.nor_array.specs.Admits.{erase_breaks}
use Rattle.nor_array.specs.Legal.{Facts, AreLanes, OthersAre}
use Rattle.nor_array.specs.declared.entry.Halted.{Halted as HaltCause}
use Rattle.nor_array.specs.declared.state.OpenErase.{OpenErase}
use Rattle.nor_array.specs.declared.state.Target.{Target}
use Rattle.nor_array.specs.declared.state.Target.TheVariants.{OneBlock, AllBlocks}
use Rattle.nor_array.proofs.Arrays.{all_covered}
use Rattle.nor_array.proofs.Puts.{length-put, put_below, put_inside, put_above}
use Rattle.nor_bank.specs.Erases.{AreTorn, erased_span, is_torn}
use Rattle.nor_bank.specs.Stands.{Stands, IsOn, PowerIs, EraseIs, is_under, under_of, weak_span, weak_spans}
use Rattle.nor_bank.specs.State.{BankState, size_of, blocks_of, byte_of, bytes_of}
use Rattle.nor_bank.specs.UnderErase.{IsUnderErase}
use Rattle.nor_bank.specs.declared.kept.Erasing.{Erasing}
use Rattle.nor_bank.proofs.Anding.{no_bits, none_broke}
use Rattle.nor_bank.proofs.BankBytes.{length-bank_bytes, bank_bytes-at}
use Rattle.nor_bank.proofs.ClosingSpans.{open_at, weak_here}
use Rattle.nor_bank.proofs.Known.{known_own, known_parts, known_some, blocks_follow}
use Rattle.nor_bank.proofs.Searching.{any_weaker, is_passed}
use Rattle.nor_bank.proofs.Standing.{is_on_now}
use Rattle.nor_bank.proofs.WeakSpans.{spans_none, lane_spans, spans_are, weak_units, of_lane}
use Rattle.nor_cell.proofs.Logic.{both_pass, not_passed, is_below, is_at_most}

-- ---- what is under erase lies in the bank

pub span_inside : (f : Found) (target : Target) → IsThere target (blocks_of f) → span_end (erased_span f target) ≤ size_of f
span_inside f (OneBlock b) there = (ends_between (size_of f) 0 (blocks_of f) b no_span (blocks_follow f) there).1
span_inside f AllBlocks there = let end = all_covered (size_of f) (blocks_of f) (blocks_follow f) in omega (arith, end)

pub all_erased : (f : Found) → record { from = 0; len = size_of f } ≡ erased_span f AllBlocks
all_erased f =
    let to : ℕ → Span = λ n. record { from = 0; len = n } in
    ap to (sym (all_covered (size_of f) (blocks_of f) (blocks_follow f)))

-- ---- lanes that have ended

pub record HasStopped (state : LaneState) : Type 0 where
  pub runs : state ≢ Running
  pub held : state ≢ Suspended

whole_of : (state : LaneState) (t : ChipTarget) (s : ChipState) → HasStopped state → is_torn state ≡ false → LaneIs state t s → IsErased t s
whole_of Running t s stopped whole is = absurd (stopped.runs refl)
whole_of Suspended t s stopped whole is = absurd (stopped.held refl)
whole_of Finished t s stopped whole is = is.0
whole_of Broken t s stopped whole is = absurd (cc)

weak_of : (state : LaneState) (t : ChipTarget) (s : ChipState) → HasStopped state → LaneIs state t s → is_weak s.part.weak (part_of t s) ≡ is_torn state
weak_of Running t s stopped is = absurd (stopped.runs refl)
weak_of Suspended t s stopped is = absurd (stopped.held refl)
weak_of Finished t s stopped is = is.0.sound
weak_of Broken t s stopped is = is.0

free_of : (state : LaneState) (t : ChipTarget) (s : ChipState) → HasStopped state → LaneIs state t s → s.held ≡ NotHeld
free_of Running t s stopped is = absurd (stopped.runs refl)
free_of Suspended t s stopped is = absurd (stopped.held refl)
free_of Finished t s stopped is = is.1.held
free_of Broken t s stopped is = is.1.held

-- The erase of a bank that stands for the array has ended in every lane.
pub record HasEndedIn (b : BankState) (a : ArrayState) (e : Erasing) : Type 0 where
  pub stands : Stands b a
  pub running : b.halted ≡ None
  pub is : b.erase ≡ Some e
  pub stopped : (c : ℕ) → c < lanes_of b.bus → HasStopped (state_at e.lanes c)

module _ (b : BankState) (a : ArrayState) (e : Erasing) (ended : HasEndedIn b a e) where
  on : IsOn b a
  on = is_on_now b a ended.stands ended.running

  under_now : IsUnderErase b.found e b.bus
  under_now = subst (λ (x : Option Erasing). EraseIs x b.found b.bus) ended.is on.erase

  count : lanes_of b.bus ≡ b.found.geometry.lanes
  count = (known_own b.found b.bus ended.stands.known).count

  some : 0 < b.found.geometry.lanes
  some = subst (λ (n : ℕ). 0 < n) count (known_some b.found b.bus ended.stands.known)

  there : (c : ℕ) → c < b.found.geometry.lanes → c < lanes_of b.bus
  there c low = subst (λ (n : ℕ). c < n) (sym count) low

  -- ---- what the array has under erase

  open_is : a.under ≡ Some (record { target = e.target; caller = e.caller })
  open_is = ended.stands.under ∙ ap under_of ended.is

  pub span_is : open_span a ≡ erased_span b.found e.target
  span_is =
      ap (λ (u : Option OpenErase). erase_span u a.consts) open_is
      ∙ ap (λ (k : Constants). covered (chip_target e.target) k.blocks) ended.stands.consts

  under_is : (p : ℕ) → is_under a.under a.consts p ≡ is_within (erased_span b.found e.target) p
  under_is p =
      ap (λ (u : Option OpenErase). is_under u a.consts p) open_is
      ∙ ap (λ (k : Constants). is_within (covered (chip_target e.target) k.blocks) p) ended.stands.consts

  fits : (erased_span b.found e.target).from + (erased_span b.found e.target).len ≤ length a.bytes
  fits = let inside = span_inside b.found e.target under_now.there in let size = ended.stands.size in omega (arith, inside, size)

  -- ---- the chips

  -- A byte of it is 0xFF in a lane that didn't break off,
  whole_byte : (p : ℕ) → is_within (erased_span b.found e.target) p ≡ true
      → is_torn (state_at e.lanes (lane_at b.found.geometry.lanes (unit_len b.found.geometry.device) p)) ≡ false → byte_of b p ≡ 0xFF
  whole_byte p inside whole =
      let n = b.found.geometry.lanes in
      let d = unit_len b.found.geometry.device in
      let c = lane_at n d p in
      let low : c < n = lane_at_below n d p some in
      let mine = there c low in
      let at = open_at b.found (lane b.bus c) e.target (known_parts b.found b.bus ended.stands.known c mine) p some in
      ap (λ (m : ℕ). slice_index (chip_at b.bus.lanes (lane_at m d p)).cells (place_at m d p)) count
      ∙ (whole_of (state_at e.lanes c) (chip_target e.target) (lane b.bus c) (ended.stopped c mine) whole (under_now.each c mine)).ones (place_at n d p) (sym at ∙ inside)

  -- and a weak span of a lane meets it where the lane broke off.
  weak_at : (c : ℕ) → c < b.found.geometry.lanes
      → list_any (λ p. meets (erased_span b.found e.target).from (erased_span b.found e.target).len (weak_span b.found.geometry c p)) (lane b.bus c).part.weak
      ≡ is_torn (state_at e.lanes c)
  weak_at c low =
      let mine = there c low in
      weak_here b.found (lane b.bus c) e.target (known_parts b.found b.bus ended.stands.known c mine) c low (weak_units b a ended.stands c mine)
      ∙ weak_of (state_at e.lanes c) (chip_target e.target) (lane b.bus c) (ended.stopped c mine) (under_now.each c mine)

  abbrev pub tests : Span → Bool
  tests = meets (erased_span b.found e.target).from (erased_span b.found e.target).len

  breaks_is : erase_breaks a ≡ list_any tests (weak_spans b.found.geometry 0 b.bus.lanes)
  breaks_is =
      ap (λ (s : Span). list_any (meets s.from s.len) a.consts.weak) span_is
      ∙ ap (λ (l : List Span). list_any (meets (erased_span b.found e.target).from (erased_span b.found e.target).len) l) (spans_are b a ended.stands)

  lane_is : (c : ℕ) → c < b.found.geometry.lanes
      → list_any (of_lane b.found.geometry c tests) (weak_spans b.found.geometry 0 b.bus.lanes) ≡ is_torn (state_at e.lanes c)
  lane_is c low =
      lane_spans b.found.geometry (meets (erased_span b.found e.target).from (erased_span b.found e.target).len) c b.bus.lanes count (there c low)
      ∙ weak_at c low

  module _ (bits : ℕ) (torn : AreTorn b.found.geometry.lanes e.lanes bits) where
    -- No lane broke off: no weak span meets it.
    pub none_breaks : bits ≡ 0 → erase_breaks a ≡ false
    none_breaks none =
        breaks_is
        ∙ spans_none b.found.geometry (meets (erased_span b.found e.target).from (erased_span b.found e.target).len) 0 b.bus.lanes (λ k below.
        let low : k < b.found.geometry.lanes = subst (λ (n : ℕ). k < n) count below in
        let first : 0 + k ≡ k = omega arith in
        ap (λ (n : ℕ). list_any (λ p. meets (erased_span b.found e.target).from (erased_span b.found e.target).len (weak_span b.found.geometry n p)) (lane b.bus k).part.weak) first
        ∙ (weak_at k low ∙ (sym (torn.each k low) ∙ (ap (λ (n : ℕ). has_bit n k) none ∙ none_broke k))))

    pub whole_at : bits ≡ 0 → (p : ℕ) → is_within (erased_span b.found e.target) p ≡ true → byte_of b p ≡ 0xFF
    whole_at none p inside =
        let c = lane_at b.found.geometry.lanes (unit_len b.found.geometry.device) p in
        let low : c < b.found.geometry.lanes = lane_at_below b.found.geometry.lanes (unit_len b.found.geometry.device) p some in
        whole_byte p inside (sym (torn.each c low) ∙ (ap (λ (n : ℕ). has_bit n c) none ∙ none_broke c))

    no_bit : erase_breaks a ≡ false → (k : ℕ) → has_bit bits k ≡ false
    no_bit none k = elim (cases_lt k b.found.geometry.lanes) [
      | inl low ↦
          let spans = weak_spans b.found.geometry 0 b.bus.lanes in
          not_passed (has_bit bits k) (λ is.
          let one : list_any (of_lane b.found.geometry k tests) spans ≡ true = lane_is k low ∙ (sym (torn.each k low) ∙ is) in
          let any = any_weaker (of_lane b.found.geometry k tests) tests spans (λ s met. (both_pass _ (tests s) met).1) one in
          let both : true ≡ false = sym any ∙ (sym breaks_is ∙ none) in
          cc)
      | inr high ↦
          let few = torn.few in
          let most : 2 ^ b.found.geometry.lanes ≤ 2 ^ k = pow-le-pow_right (lit< tt) high in
          let small : bits < 2 ^ k = omega (arith, few, most) in
          ap (λ (q : ℕ). q % 2 == 1) (div-eq_of_lt small)
    ]

    -- Some did: a weak span meets it, and the lanes are those with such a span.
    pub some_breaks : bits ≢ 0 → erase_breaks a ≡ true
    some_breaks some_bit = is_passed (erase_breaks a) (λ none. some_bit (no_bits bits (no_bit none)))

    pub named : (facts : Facts) → facts.geometry ≡ b.found.geometry → AreLanes facts tests a.consts.weak bits
    named facts same = record {
      few = subst (λ (x : Geometry). bits < 2 ^ x.lanes) (sym same) torn.few;
      each = λ k below.
          let low : k < b.found.geometry.lanes = subst (λ (x : Geometry). k < x.lanes) same below in
          torn.each k low
          ∙ (sym (lane_is k low)
          ∙ (ap (λ (l : List Span). list_any (of_lane b.found.geometry k tests) l) (sym (spans_are b a ended.stands))
          ∙ ap (λ (x : Geometry). list_any (of_lane x k tests) a.consts.weak) (sym same)));
    }

    pub others : (facts : Facts) → facts.geometry ≡ b.found.geometry
        → OthersAre facts bits (erased_span b.found e.target).from (λ p. 0xFF) (bytes_of b (erased_span b.found e.target).from (erased_span b.found e.target).len)
    others facts same k below whole =
        let span = erased_span b.found e.target in
        let n = b.found.geometry.lanes in
        let d = unit_len b.found.geometry.device in
        let less : k < span.len = subst (λ (m : ℕ). k < m) (length-bank_bytes b.found.geometry.device b.bus.lanes span.from span.len) below in
        let p : ℕ = span.from + k in
        let c = lane_at n d p in
        let low : c < n = lane_at_below n d p some in
        let mine : has_bit bits c ≡ false = ap (λ (x : Geometry). has_bit bits (lane_at x.lanes (unit_len x.device) p)) (sym same) ∙ whole in
        let inside : is_within span p ≡ true = and_from _ _ (le-leb span.from p (omega arith)) (lt-ltb p (span_end span) (omega (arith, less))) in
        bank_bytes-at b.found.geometry.device b.bus.lanes span.from span.len k less ∙ whole_byte p inside (sym (torn.each c low) ∙ mine)

  -- ---- the array after it

  module _ (xs : List ℕ) (size : length xs ≡ (erased_span b.found e.target).len)
      (each : (k : ℕ) → k < (erased_span b.found e.target).len → slice_index xs k ≡ byte_of b ((erased_span b.found e.target).from + k)) where
    ends : (erased_span b.found e.target).from + length xs ≤ length a.bytes
    ends = subst (λ (n : ℕ). (erased_span b.found e.target).from + n ≤ length a.bytes) (sym size) fits

    byte_is : (p : ℕ) → p < size_of b.found → slice_index (put a.bytes (erased_span b.found e.target).from xs) p ≡ byte_of b p
    byte_is p below =
        let span = erased_span b.found e.target in
        let out = λ (apart : is_within span p ≡ true → ⊥). ended.stands.bytes p below (under_is p ∙ not_passed (is_within span p) apart) in
        elim (cases_lt p span.from) [
          | inl low ↦ put_below a.bytes span.from xs ends p low ∙ out (λ inside.
              let from = is_at_most span.from p (both_pass (nat_le span.from p) (nat_lt p (span_end span)) inside).0 in
              absurd (omega (arith, low, from)))
          | inr from ↦ elim (cases_lt p (span.from + length xs)) [
            | inl high ↦
                let k : ℕ = p - span.from in
                let less : k < span.len = omega (arith, high, size, from) in
                let place : span.from + k ≡ p = omega (arith, from) in
                put_inside a.bytes span.from xs ends p from high ∙ (each k less ∙ ap (λ (q : ℕ). byte_of b q) place)
            | inr past ↦ put_above a.bytes span.from xs ends p past ∙ out (λ inside.
                let high = is_below p (span_end span) (both_pass (nat_le span.from p) (nat_lt p (span_end span)) inside).1 in
                absurd (omega (arith, past, high, size)))
          ]
        ]

    now_closed : IsOn (record b { erase = None }) (record a { bytes = put a.bytes (erased_span b.found e.target).from xs; under = None })
    now_closed = record {
      power = on.power;
      waits = on.waits;
      cut = on.cut;
      erase = λ c below. record {
        shown = under_now.shown (λ k less. (ended.stopped k less).runs) c below;
        held = free_of (state_at e.lanes c) (chip_target e.target) (lane b.bus c) (ended.stopped c below) (under_now.each c below);
      };
    }

    -- Where the chips hold these bytes the bank stands for the array with them.
    pub stands_closed : Stands (record b { erase = None }) (closed xs a)
    stands_closed =
        let with_span = λ (s : Span). Stands (record b { erase = None }) (record a { bytes = put a.bytes s.from xs; under = None }) in
        subst with_span (sym span_is) (record {
          known = ended.stands.known;
          consts = ended.stands.consts;
          opened = ended.stands.opened;
          size = length-put a.bytes (erased_span b.found e.target).from xs ends ∙ ended.stands.size;
          bytes = λ p below _. byte_is p below;
          locks = ended.stands.locks;
          lock_count = ended.stands.lock_count;
          power = ended.stands.power;
          under = refl;
          now = subst (λ (h : Option HaltCause). PowerIs h (record b { erase = None }) (record a { bytes = put a.bytes (erased_span b.found e.target).from xs; under = None }))
              (sym ended.running) now_closed;
        })
