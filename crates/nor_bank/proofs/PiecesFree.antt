-- Chips that are ready for a program beside what is under erase.
use Rattle.std.proofs.Common.{◌≡◌, ◌≢◌, ◌<◌, ◌≤◌, ◌+◌, ◌-◌, ◌*◌, ◌⊎◌, inl, inr, ℕ, List, length, slice_index, refl, sym, ap, ◌∙◌, arith, Bool, true, false, Option, Some, None}
use Rattle.std.specs.Prelude.{nat_le, nat_lt, not, ◌==◌, slice_index_or, ◌&&◌, ◌||◌}
use Rattle.std.proofs.lemmas.Bool.Decides.{nat_tests}
use Rattle.std.proofs.Math.Nat.{lt_of_mul-lt-mul_right, mul-le-mul_right}
use Rattle.nor_cell.specs.Bits.{unit_len}
use Rattle.nor_cell.specs.Chip.{ChipState, Held, NotHeld, Holds, Target, OneBlock, AllBlocks, block, block_at, block_of, covered, holds_at, holds_block, is_held, is_within, place, span_end}
use Rattle.nor_cell.specs.Table.{can_program_suspended, suspend_kind}
use Rattle.nor_cell.specs.declared.device.Device.{Device}
use Rattle.nor_cell.specs.declared.device.Span.{Span}
use Rattle.nor_cell.proofs.Logic.{none_pass, some_bytes, not_passed, same_number}
use Rattle.nor_region.specs.Map.{scaled_span}
use Rattle.nor_region.proofs.Mapping.{block_within}
use Rattle.nor_probe.specs.declared.probing.Found.{Found}
use Rattle.nor_bus.specs.Bus.{lane, lanes_of}
use Rattle.nor_bus.specs.Driven.{AllLanes}
use Rattle.nor_poll.specs.UnderErase.{LaneIs, holds_target, part_of, state_at}
use Rattle.nor_poll.specs.declared.lanes.LaneState.{LaneState}
use Rattle.nor_poll.specs.declared.lanes.LaneState.TheVariants.{Running, Suspended, Finished, Broken}
use Rattle.nor_array.specs.Array.{ArrayState, Constants, chip_target}
use Rattle.nor_array.specs.Admits.{first_locked}
use Rattle.nor_array.specs.declared.entry.Op.TheVariants.{Program}
use Rattle.nor_array.specs.declared.state.Target.{Target as BankTarget}
use Rattle.nor_bank.specs.Pieces.{CanProgramAll}
use Rattle.nor_bank.specs.Programs.{IsFree}
use Rattle.nor_bank.specs.Ranges.{IsShowing}
use Rattle.nor_bank.specs.Stands.{EraseIs, Stands, is_under}
use Rattle.nor_bank.specs.State.{BankState, blocks_of, byte_of, size_of, word_bytes}
use Rattle.nor_bank.specs.Way.{IsReady}
use Rattle.nor_bank.specs.declared.kept.Erasing.{Erasing}
use Rattle.nor_bank.proofs.Blocks.{block_of_byte, in_both, one_block, same_test, unlocked_at}
use Rattle.nor_bank.proofs.ClosingSpans.{covered_whole, open_scaled}
use Rattle.nor_bank.proofs.Holding.{under_kept}
use Rattle.nor_bank.proofs.HoldingLanes.{erasing_within}
use Rattle.nor_bank.proofs.Known.{IsPartOf, IsWhole, known_own, known_parts, known_size, known_word}
use Rattle.nor_bank.proofs.Standing.{bytes_known, is_on_now}

-- ---- what a call that programs finds

-- Its range lies in the bank, none of it is under erase, nor is a block of it locked, and the chips are ready.
pub record Ready (b : BankState) (a : ArrayState) (at : ℕ) (new : List ℕ) : Type 0 where
  pub stands : Stands b a
  pub running : b.halted ≡ None
  pub chips : IsReady true b
  pub some : 0 < length new
  pub within : at + length new ≤ size_of b.found
  pub beside : (p : ℕ) → at ≤ p → p < at + length new → is_under a.under a.consts p ≡ false
  pub unlocked : first_locked a (Program at new) ≡ None

pub ready_shows : (b : BankState) (a : ArrayState) (at : ℕ) (new : List ℕ) → Ready b a at new → AllLanes IsShowing b.bus
ready_shows b a at new ready c below = record { shown = ready.chips.shown c below; bytes = bytes_known b.found b.bus ready.stands.known c below }

-- each byte of the range is the array's
pub ready_byte : (b : BankState) (a : ArrayState) (at : ℕ) (new : List ℕ) (p : ℕ) → Ready b a at new → at ≤ p → p < at + length new → slice_index a.bytes p ≡ byte_of b p
ready_byte b a at new p ready low high = let fits = ready.within in ready.stands.bytes p (omega (arith, high, fits)) (ready.beside p low high)

-- ---- a bus word lies in a span of whole units, or outside

begins_alike : (n d u j : ℕ) (s : Span) → 0 < d → j < n * d → IsWhole d s → nat_lt (u * (n * d) + j) (scaled_span n s).from ≡ nat_lt (d * u) s.from
begins_alike n d u j s some less whole =
    let first = whole.first in
    let begin : s.from ≡ d * first = whole.begins in
    let big : (scaled_span n s).from ≡ first * (n * d) = ap (λ (k : ℕ). n * k) begin ∙ (let h : n * (d * first) ≡ first * (n * d) = omega arith in h) in
    same_test (u * (n * d) + j) (scaled_span n s).from (d * u) s.from
    (λ low.
    let order : u < first = lt_of_mul-lt-mul_right (n * d) (let h : u * (n * d) < first * (n * d) = omega (arith, big, low) in h) in
    before_first d u first s.from begin order some)
    (λ low.
    let order : u < first = lt_of_mul-lt-mul_right d (let h : u * d < first * d = omega (arith, begin, low) in h) in
    let more = mul-le-mul_right (n * d) (let h : u + 1 ≤ first = omega (arith, order) in h) in
    omega (arith, more, big, less))
  where
    before_first : (d u first from : ℕ) → from ≡ d * first → u < first → 0 < d → d * u < from
    before_first d u first from is order some =
        let more = mul-le-mul_right d (let h : u + 1 ≤ first = omega (arith, order) in h) in
        omega (arith, is, more, some)

le_by : (a b x y : ℕ) → nat_lt b a ≡ nat_lt y x → nat_le a b ≡ nat_le x y
le_by a b x y same = grind (arith, nat_tests, same)

pub inside_word : (n d u j : ℕ) (s : Span) → 0 < d → j < n * d → IsWhole d s → is_within (scaled_span n s) (u * (n * d) + j) ≡ is_within s (d * u)
inside_word n d u j s some less whole =
    ap (λ (x : Bool). x && nat_lt (u * (n * d) + j) (span_end (scaled_span n s))) (le_by (scaled_span n s).from (u * (n * d) + j) s.from (d * u) (begins_alike n d u j s some less whole))
    ∙ ap (λ (x : Bool). nat_le s.from (d * u) && x) (one_block n d u j s less whole)

-- ---- a held erase isn't in the way

-- a lane's erase is held, or none is
lane_holds : (state : LaneState) (target : Target) (s : ChipState) → LaneIs state target s → (s.held ≡ NotHeld) ⊎ (holds_target s.held target ≡ true)
lane_holds Running target s is = inl is.1
lane_holds Suspended target s is = inr is.0
lane_holds Finished target s is = inl is.1.held
lane_holds Broken target s is = inl is.1.held

-- it is not of a block that isn't under erase
held_apart : (held : Held) (target : Target) (k : ℕ) → (held ≡ NotHeld) ⊎ (holds_target held target ≡ true) → ((c : ℕ) → target ≡ OneBlock c → k ≢ c) → holds_block held k ≡ false
held_apart NotHeld target k holds apart = refl
held_apart (Holds c left) target k (inl none) apart = absurd (let both : Holds c left ≡ NotHeld = none in cc)
held_apart (Holds c left) AllBlocks k (inr holds) apart = absurd (let both : false ≡ true = holds in cc)
held_apart (Holds c left) (OneBlock e) k (inr holds) apart =
    let is : e ≡ c = same_number e c holds in
    not_passed (k == c) (λ same. apart e refl (same_number k c same ∙ sym is))

off_by : (held : Held) (can : Bool) (k : ℕ) → (held ≡ NotHeld) ⊎ (can ≡ true) → holds_block held k ≡ false → (is_held held && (not can || holds_block held k)) ≡ false
off_by NotHeld can k lets apart = refl
off_by (Holds c left) can k (inl none) apart = absurd (let both : Holds c left ≡ NotHeld = none in cc)
off_by (Holds c left) true k (inr is) apart = apart
off_by (Holds c left) false k (inr is) apart = absurd (let both : false ≡ true = is in cc)

-- the blocks of an erase of a bank, as those of its chips
one_target : (target : BankTarget) (c : ℕ) → chip_target target ≡ OneBlock c → (blocks : List Span) → covered (chip_target target) blocks ≡ block blocks c
one_target target c is blocks = ap (λ (t : Target). covered t blocks) is

module _ (b : BankState) (a : ArrayState) (at : ℕ) (new : List ℕ) (ready : Ready b a at new) where
  abbrev f : Found
  f = b.found

  abbrev w : ℕ
  w = word_bytes b.found

  -- the unit of a lane in a word of the range
  module _ (u c p : ℕ) (below : c < lanes_of b.bus) (low : u * w ≤ p) (high : p < u * w + w) (begins : at ≤ p) (ends : p < at + length new) where
    part : IsPartOf f (lane b.bus c)
    part = known_parts f b.bus ready.stands.known c below

    in_bank : p < size_of f
    in_bank = let fits = ready.within in omega (arith, ends, fits)

    unit_place : place (lane b.bus c).part u ≡ unit_len f.geometry.device * u
    unit_place = ap (λ (x : Device). unit_len x * u) part.device

    -- what is erased of the chip doesn't have it
    outside : (e : Erasing) → b.erase ≡ Some e → is_within (part_of (chip_target e.target) (lane b.bus c)) (place (lane b.bus c).part u) ≡ false
    outside e is =
        let n = f.geometry.lanes in
        let d = unit_len f.geometry.device in
        let s = lane b.bus c in
        let span = part_of (chip_target e.target) s in
        let j = p - u * (n * d) in
        let here : u * (n * d) + j ≡ p = omega (arith, low) in
        let less : j < n * d = omega (arith, low, high) in
        let whole = covered_whole d (chip_target e.target) s.part.blocks part.whole in
        let free : is_within (covered (chip_target e.target) (blocks_of f)) p ≡ false = sym (under_kept b a ready.stands e is p) ∙ ready.beside p begins ends in
        ap (λ (q : ℕ). is_within span q) unit_place
        ∙ (sym (inside_word n d u j span (some_bytes f.geometry.device) less whole)
        ∙ (ap (λ (q : ℕ). is_within (scaled_span n span) q) here
        ∙ (ap (λ (x : Span). is_within x p) (sym (open_scaled f s e.target part)) ∙ free)))

    -- nor is its block that of the erase
    block_apart : (e : Erasing) → b.erase ≡ Some e → (k : ℕ) → chip_target e.target ≡ OneBlock k → block_of (lane b.bus c) u ≢ k
    block_apart e is k target same =
        let free : is_within (covered (chip_target e.target) (blocks_of f)) p ≡ false = sym (under_kept b a ready.stands e is p) ∙ ready.beside p begins ends in
        let here : block_at (blocks_of f) p ≡ k = sym (block_of_byte f (lane b.bus c) u p part low high) ∙ same in
        let inside : is_within (block (blocks_of f) (block_at (blocks_of f) p)) p ≡ true = block_within f.map p in_bank in
        let its : is_within (covered (chip_target e.target) (blocks_of f)) p ≡ true =
        ap (λ (x : Span). is_within x p) (one_target e.target k target (blocks_of f) ∙ ap (λ (m : ℕ). block (blocks_of f) m) (sym here)) ∙ inside in
        let both : true ≡ false = sym its ∙ free in
        cc

    free_by : (erase : Option Erasing) → b.erase ≡ erase → EraseIs erase f b.bus
        → (holds_at (lane b.bus c).held (lane b.bus c).part.blocks (place (lane b.bus c).part u) ≡ false) × (holds_block (lane b.bus c).held (block_of (lane b.bus c) u) ≡ false)
    free_by None is quiet =
        let s = lane b.bus c in (
          ap (λ (h : Held). holds_at h s.part.blocks (place s.part u)) (quiet c below).held,
          ap (λ (h : Held). holds_block h (block_of s u)) (quiet c below).held,
        )
    free_by (Some e) is under =
        let s = lane b.bus c in
        let state = state_at e.lanes c in
        let target = chip_target e.target in (
          (none_pass _ _ (erasing_within state target s (place s.part u) (under.each c below) (outside e is))).1,
          held_apart s.held target (block_of s u) (lane_holds state target s (under.each c below)) (λ k same. block_apart e is k same),
        )

    -- so it may be programmed
    pub is_free : IsFree u (lane b.bus c)
    is_free =
        let s = lane b.bus c in
        let free = free_by b.erase refl (is_on_now b a ready.stands ready.running).erase in
        let blocks : a.consts.blocks ≡ blocks_of f = ap (λ (x : Constants). x.blocks) ready.stands.consts in
        let same = block_of_byte f s u p part low high in
        record {
          blocks = part.some;
          unlocked =
              ap (λ (ls : List Bool). slice_index_or ls (block_of s u) false) (ready.stands.locks c below)
              ∙ (ap (λ (k : ℕ). slice_index_or a.locks k false) same ∙ unlocked_at f a at p new blocks ready.unlocked begins ends in_bank);
          free = off_by s.held (can_program_suspended (suspend_kind s.part.table)) (block_of s u) (ready.chips.lets c below) free.1;
          beside = free.0;
        }

  -- Each word of the range may be programmed, alone or with others.
  pub can_program_all : CanProgramAll w f at (length new) b.bus
  can_program_all =
      let known = ready.stands.known in
      let parts = known_parts f b.bus known in
      let all = known_size f b.bus known in
      let fits = ready.within in
      let word = known_word f b.bus known in
      let start = λ (u : ℕ). (let h : u * w < u * w + w = omega (arith, word) in h) in
      record {
        words = record {
          own = known_own f b.bus known;
          chips = ready_shows b a at new ready;
          set = λ c below. (parts c below).set;
          within = omega (arith, all, fits);
          free = λ u meets c below.
              let byte = in_both at (length new) (u * w) (u * w + w) ready.some (start u) meets.before_end meets.behind_start in
              is_free u c byte.place below byte.behind byte.before byte.begins byte.ends;
          limits = λ c below. (parts c below).ends;
        };
        loads = λ c below. record {
          room = (parts c below).room;
          reads = (parts c below).loads;
          blocks = λ u v first later same.
              let s = lane b.bus c in
              block_of_byte f s v (v * w) (parts c below) (omega arith) (start v)
              ∙ (same ∙ sym (block_of_byte f s u (u * w) (parts c below) (omega arith) (start u)));
        };
      }
